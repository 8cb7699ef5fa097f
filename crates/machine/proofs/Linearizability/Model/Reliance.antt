-- What each step relies on: facts about the nodes in the task's registers, seen from its side s, whose opposite is o.
use mathlib.Core.Path.{◌≡◌}
use mathlib.Core.Logic.{◌≢◌, ◌⊎◌}
use mathlib.Core.List.{List, [], ◌∷◌}
use Prim.Native.Nat.{ℕ}
use Rattle.machine.specs.Sides.{Side}
use Rattle.machine.specs.Values.{Value, bag, N, X, Y}
use Rattle.machine.specs.Tasks.{Task, Register, in_a, in_b, in_c}
use Rattle.machine.proofs.Words.Memories.{View}
use Rattle.machine.proofs.Linearizability.Model.Classes.{Class, main, spur, new, Old}
use Rattle.machine.proofs.Linearizability.Model.Structure.{Follows, LinkedOrCut, Precedes}

-- Line 5: B follows A outward.
pub record PushPair (s : Side) (m : View) (class : ℕ → Class) (A B : ℕ) : Type 0 where
  pub A-old : Old class A
  pub B-old : Old class B
  pub B-follows : Follows s m.out m.inn m.val class A B

-- Line 69: A has been cut off.
pub record OnY (s : Side) (m : View) (class : ℕ → Class) (A : ℕ) : Type 0 where
  pub A-spur : class A ≡ spur s
  pub A-Y : m.val A ≡ Y s

-- Line 70: and B is inward of it.
pub record BehindY (s : Side) (m : View) (class : ℕ → Class) (A B : ℕ) : Type 0 where
  pub A-spur : class A ≡ spur s
  pub A-Y : m.val A ≡ Y s
  pub B-inward : B ≡ m.inn A

-- Line 72: A has been cut off, and C follows what is inward of it.
pub record PastY (s : Side) (m : View) (class : ℕ → Class) (A C : ℕ) : Type 0 where
  pub A-spur : class A ≡ spur s
  pub A-Y : m.val A ≡ Y s
  pub C-old : Old class C
  pub C-follows : Follows s m.out m.inn m.val class (m.inn A) C

-- Line 25: the chain's first node D leads inward to A.
pub record SplicePoint (k : ℕ) (m : View) (class : ℕ → Class) (A D : ℕ) : Type 0 where
  pub A-old : Old class A
  pub D-new : class D ≡ new k
  pub D-inward : m.inn D ≡ A

-- Line 42: B precedes A.
pub record PopPair (o : Side) (m : View) (class : ℕ → Class) (A B : ℕ) : Type 0 where
  pub A-old : Old class A
  pub B-old : Old class B
  pub B-precedes : Precedes o m.inn m.val class A B

-- Line 48: and the value read there was N or X of the other side.
pub record EmptyPair (o : Side) (m : View) (class : ℕ → Class) (A B : ℕ) (v : Value) : Type 0 where
  pub pair : PopPair o m class A B
  pub read-mark : (v ≡ N o) ⊎ (v ≡ X o)

-- Line 51: and the value read there was a bag.
pub record BagPair (o : Side) (m : View) (class : ℕ → Class) (A B : ℕ) (v : Value) : Type 0 where
  pub pair : PopPair o m class A B
  pub bag-read : ℕ
  pub read-bag : v ≡ bag bag-read

-- Line 62: B is outward of A or has been cut off, and is in the spur if A is.
pub record CutPair (s : Side) (m : View) (class : ℕ → Class) (A B : ℕ) : Type 0 where
  pub A-old : Old class A
  pub B-old : Old class B
  pub main-next : (l : ℕ) → class A ≡ main l → LinkedOrCut s m.out m.val class A B
  pub spur-next : class A ≡ spur s → class B ≡ spur s

-- Line 64: B has been cut off; a node of the far spur does not lead to it.
pub record UnlinkPair (s o : Side) (m : View) (class : ℕ → Class) (A B : ℕ) : Type 0 where
  pub A-old : Old class A
  pub B-spur : class B ≡ spur s
  pub B-Y : m.val B ≡ Y s
  pub not-far : class A ≡ spur o → m.out A ≢ B

-- Lines 77, 78 and 79.
pub record SpurPair (s : Side) (class : ℕ → Class) (A B : ℕ) : Type 0 where
  pub A-spur : class A ≡ spur s
  pub B-spur : class B ≡ spur s

-- ---- The facts by name, the registers that must hold their nodes for them, and what they say of a task k.
pub data Reliance : Type 0 where
  on-nothing on-old-A on-push-pair on-Y behind-Y past-Y on-splice-point : Reliance
  on-pop-pair on-empty-pair on-bag-pair on-cut-pair on-unlink-pair on-spur-B on-spur-pair on-spur-A : Reliance

abbrev pub relied : Reliance → List Register
relied on-nothing = []
relied on-old-A = in_a ∷ []
relied on-push-pair = in_a ∷ in_b ∷ []
relied on-Y = in_a ∷ []
relied behind-Y = in_a ∷ []
relied past-Y = in_a ∷ in_c ∷ []
relied on-splice-point = in_a ∷ []
relied on-pop-pair = in_a ∷ in_b ∷ []
relied on-empty-pair = in_a ∷ in_b ∷ []
relied on-bag-pair = in_a ∷ in_b ∷ []
relied on-cut-pair = in_a ∷ in_b ∷ []
relied on-unlink-pair = in_a ∷ in_b ∷ []
relied on-spur-B = in_b ∷ []
relied on-spur-pair = in_a ∷ in_b ∷ []
relied on-spur-A = in_a ∷ []

abbrev pub Relies : Reliance → (k : ℕ) (s o : Side) → View → (ℕ → Class) → Task → Type 0
Relies on-nothing k s o m class t = Unit {0}
Relies on-old-A k s o m class t = Old class t.A
Relies on-push-pair k s o m class t = PushPair s m class t.A t.B
Relies on-Y k s o m class t = OnY s m class t.A
Relies behind-Y k s o m class t = BehindY s m class t.A t.B
Relies past-Y k s o m class t = PastY s m class t.A t.C
Relies on-splice-point k s o m class t = SplicePoint k m class t.A t.D
Relies on-pop-pair k s o m class t = PopPair o m class t.A t.B
Relies on-empty-pair k s o m class t = EmptyPair o m class t.A t.B t.value
Relies on-bag-pair k s o m class t = BagPair o m class t.A t.B t.value
Relies on-cut-pair k s o m class t = CutPair s m class t.A t.B
Relies on-unlink-pair k s o m class t = UnlinkPair s o m class t.A t.B
Relies on-spur-B k s o m class t = class t.B ≡ spur s
Relies on-spur-pair k s o m class t = SpurPair s class t.A t.B
Relies on-spur-A k s o m class t = class t.A ≡ spur s
