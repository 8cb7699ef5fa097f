-- The structure of a lane, seen from side s: the list that carries its row, its hats and the spurs, which all lanes
-- share.
use mathlib.Core.Path.{◌≡◌}
use mathlib.Core.Logic.{◌⊎◌}
use Prim.Native.Nat.{ℕ, suc, ◌≤◌, ◌<◌}
use Rattle.machine.specs.Sides.{Side}
use Rattle.machine.specs.Values.{Value, bag, N, X, Y}
use Rattle.machine.specs.Tasks.{no_node}
use Rattle.machine.proofs.Words.Memories.{View}
use Rattle.machine.proofs.Linearizability.Model.Sides.{Opposite}
use Rattle.machine.proofs.Linearizability.Model.Classes.{Class, free, main, spur, Old, of, owner}

-- y was cut off right behind x: it is marked Y, in spur s, and still leads back to x.
pub record CutFrom (s : Side) (inn : ℕ → ℕ) (val : ℕ → Value) (class : ℕ → Class) (y x : ℕ) : Type 0 where
  pub in-spur : class y ≡ spur s
  pub is-Y : val y ≡ Y s
  pub leads-back : inn y ≡ x

-- y follows x outward, if x is in main of any lane: linked, or cut off behind x.
abbrev pub Follows :
    (s : Side) (out inn : ℕ → ℕ) (val : ℕ → Value) (class : ℕ → Class) (x y : ℕ) → Type 0
Follows s out inn val class x y = (l : ℕ) → class x ≡ main l → (out x ≡ y) ⊎ CutFrom s inn val class y x

-- The link of x leads to y, or y has been cut off on side z.
pub data LinkedOrCut (z : Side) (link : ℕ → ℕ) (val : ℕ → Value) (class : ℕ → Class) (x y : ℕ) : Type 0 where
  linked : link x ≡ y → LinkedOrCut z link val class x y
  cut_off : class y ≡ spur z → val y ≡ Y z → LinkedOrCut z link val class x y

-- y precedes x, seen from the side whose opposite is o, unless x has been cut off on that other side.
abbrev pub Precedes : (o : Side) (inn : ℕ → ℕ) (val : ℕ → Value) (class : ℕ → Class) (x y : ℕ) → Type 0
Precedes o inn val class x y = (class x ≡ spur o) ⊎ LinkedOrCut o inn val class x y

-- The class main of a lane is exactly at 0 .. at n, each once: index is at's inverse.
pub record Main (ℓ : ℕ) (class : ℕ → Class) (at index : ℕ → ℕ) (n : ℕ) : Type 0 where
  pub is-main : (i : ℕ) → i ≤ n → class (at i) ≡ main ℓ
  pub index_at : (i : ℕ) → i ≤ n → index (at i) ≡ i
  pub index-le : (x : ℕ) → class x ≡ main ℓ → index x ≤ n
  pub at-index : (x : ℕ) → class x ≡ main ℓ → at (index x) ≡ x

-- Where the parts of a lane are, by their indices in main.
pub record Frame : Type 0 where
  -- The node at an index.
  pub at : ℕ → ℕ
  -- The index of a node.
  pub index : ℕ → ℕ
  -- The last index.
  pub n : ℕ
  -- The far hat's index.
  pub a : ℕ
  -- The near hat's index.
  pub b : ℕ
  -- The bag at an index strictly between the hats.
  pub bags : ℕ → ℕ

-- The values along main: X of the far side, its Ns up to index a, bags before index b, Ns of the near side, and its X.
pub record MainValues (s o : Side) (val : ℕ → Value) (F : Frame) : Type 0 where
  pub X-first : val (F.at 0) ≡ X o
  pub N-far : (i : ℕ) → 0 < i → i ≤ F.a → val (F.at i) ≡ N o
  pub bag-between : (i : ℕ) → F.a < i → i < F.b → val (F.at i) ≡ bag (F.bags i)
  pub N-near : (i : ℕ) → F.b ≤ i → i < F.n → val (F.at i) ≡ N s
  pub X-last : val (F.at F.n) ≡ X s

pub record Linked (out inn : ℕ → ℕ) (at : ℕ → ℕ) (n : ℕ) : Type 0 where
  pub links-out : (i : ℕ) → i < n → out (at i) ≡ at (suc i)
  pub links-in : (i : ℕ) → i < n → inn (at (suc i)) ≡ at i

-- A node of spur s holds a mark of s. Its inward link leads to an old node, its outward link to none or into the spur.
pub record Spur (s : Side) (out inn : ℕ → ℕ) (val : ℕ → Value) (class : ℕ → Class) : Type 0 where
  pub own-mark : (x : ℕ) → class x ≡ spur s → owner (val x) ≡ of s
  pub inward-old : (x : ℕ) → class x ≡ spur s → Old class (inn x)
  pub outward-spur : (x : ℕ) → class x ≡ spur s → (out x ≡ no_node) ⊎ (class (out x) ≡ spur s)

-- Lane ℓ seen from side s. A hat is at its index, or at a node that was cut off there.
module _ (ℓ : ℕ) (s o : Side) (m : View) (class : ℕ → Class) (F : Frame) where
  open m use {out, inn, val, hats}
  open F use {at, index, n, a, b}

  pub record Structure : Type 0 where
    pub sides : Opposite s o
    pub none_free : class no_node ≡ free
    pub a<b : a < b
    pub b≤n : b ≤ n
    pub main_list : Main ℓ class at index n
    pub values : MainValues s o val F
    pub links : Linked out inn at n
    -- Main's ends lead to none, or to a node that was cut off there.
    pub last_out : (out (at n) ≡ no_node) ⊎ CutFrom s inn val class (out (at n)) (at n)
    pub first-in : (inn (at 0) ≡ no_node) ⊎ CutFrom o out val class (inn (at 0)) (at 0)
    pub near-hat : (j : ℕ) → suc j ≡ b → (hats ℓ s ≡ at b) ⊎ CutFrom s inn val class (hats ℓ s) (at j)
    pub far-hat : (hats ℓ o ≡ at a) ⊎ CutFrom o out val class (hats ℓ o) (at (suc a))
    pub near-spur : Spur s out inn val class
    pub far_spur : Spur o inn out val class

-- Every node of main is in a lane of this structure.
abbrev pub InLanes : (s o : Side) → View → (ℕ → Class) → Type 0
InLanes s o m class = (x ℓ : ℕ) → class x ≡ main ℓ → (F : Frame) × Structure ℓ s o m class F
