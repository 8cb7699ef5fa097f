-- The chain of new nodes that a task builds before it splices it in.
use mathlib.Core.Path.{◌≡◌}
use mathlib.Core.Logic.{◌≢◌, ◌⊎◌}
use Prim.Native.Nat.{ℕ, ◌≤◌, ◌<◌}
use Rattle.machine.specs.Sides.{Side}
use Rattle.machine.specs.Values.{Value, N, X}
use Rattle.machine.specs.Tasks.{no_node}
use Rattle.machine.proofs.Words.Memories.{View}
use Rattle.machine.proofs.Linearizability.Model.Classes.{Class, new, Old}
use Rattle.machine.proofs.Linearizability.Model.Structure.{Linked}

-- The class new k is exactly node 0 .. node m, each once: place is node's inverse.
pub record Chain (s : Side) (k : ℕ) (out inn : ℕ → ℕ) (val : ℕ → Value) (class : ℕ → Class)
    (node place : ℕ → ℕ) (m : ℕ) : Type 0 where
  pub is_new : (j : ℕ) → j ≤ m → class (node j) ≡ new k
  pub place-node : (j : ℕ) → j ≤ m → place (node j) ≡ j
  pub place-le : (x : ℕ) → class x ≡ new k → place x ≤ m
  pub node-place : (x : ℕ) → class x ≡ new k → node (place x) ≡ x
  pub N-before : (j : ℕ) → j < m → val (node j) ≡ N s
  pub X-last : val (node m) ≡ X s
  pub links : Linked out inn node m
  pub last_out : out (node m) ≡ no_node
  pub first-in : (inn (node 0) ≡ no_node) ⊎ Old class (inn (node 0))

-- Task k, on side s, has a chain that begins at d.
pub record HasChain (k : ℕ) (s : Side) (out inn : ℕ → ℕ) (val : ℕ → Value) (class : ℕ → Class) (d : ℕ) : Type 0 where
  pub node : ℕ → ℕ
  pub place : ℕ → ℕ
  pub m : ℕ
  pub chain : Chain s k out inn val class node place m
  pub head : d ≡ node 0

abbrev pub HasChainIn : (k : ℕ) → Side → View → (ℕ → Class) → (d : ℕ) → Type 0
HasChainIn k s m class d = HasChain k s m.out m.inn m.val class d

-- Task k has no chain.
pub record NoChain (k : ℕ) (class : ℕ → Class) (d : ℕ) : Type 0 where
  pub none-new : (x : ℕ) → class x ≢ new k
  pub no-head : d ≡ no_node
