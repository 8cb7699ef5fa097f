-- What the other tasks see of a tick that goes on: calm ticks leave main as it is and lengthen no walk; the few others
-- leave what is at the hats.
use mathlib.Core.Path.{◌≡◌}
use mathlib.Core.Logic.{◌≢◌}
use mathlib.Core.Bool.{Bool, true}
use Prim.Native.Nat.{ℕ, ◌<◌}
use Rattle.machine.specs.Sides.{Side, left, right, opposite}
use Rattle.machine.specs.Values.{N, X, Y}
use Rattle.machine.proofs.Words.Memories.{View, swapped, view}
use Rattle.machine.proofs.Linearizability.Model.Classes.{Class, main, spur, Old}
use Rattle.machine.proofs.Linearizability.Model.Guarantee.{SameIn}
use Rattle.machine_progress.proofs.SoloBound.Walks.{EndsWithin}

-- The value of x is as it was, or x is in a spur and was marked Y.
pub data KeptOrMarked (class : ℕ → Class) (m m' : View) (x : ℕ) : Type 0 where
  kept : m'.val x ≡ m.val x → KeptOrMarked class m m' x
  marked : {z : Side} → class x ≡ spur z → m'.val x ≡ Y z → KeptOrMarked class m m' x

-- A calm change: hats and main stay, no walk from an old node is longer, and the only marks are Ys in a spur.
pub record Calm (held : ℕ → Bool) (class : ℕ → Class) (m m' : View) : Type 0 where
  pub same_hats : m'.hats ≡ m.hats
  pub main-same : (x l : ℕ) → class x ≡ main l → SameIn m m' x
  pub out-ends : (n x : ℕ) → held x ≡ true → Old class x → EndsWithin m.out n x → EndsWithin m'.out n x
  pub inn-ends : (n x : ℕ) → held x ≡ true → Old class x → EndsWithin m.inn n x → EndsWithin m'.inn n x
  pub values : (x : ℕ) → held x ≡ true → Old class x → KeptOrMarked class m m' x

-- The node at the hat's index in main of a lane.
abbrev pub past : (lane : ℕ) → Side → View → ℕ
past ℓ s m = m.out (m.inn (m.hats ℓ s))

-- What is at the hat of side s of a lane stays: the node behind it, the node past that, and that the hat is off Y.
pub record Steady (ℓ : ℕ) (s : Side) (m m' : View) : Type 0 where
  pub behind-same : m'.inn (m'.hats ℓ s) ≡ m.inn (m.hats ℓ s)
  pub past_same : past ℓ s m' ≡ past ℓ s m
  pub stays-off-Y : m.val (m.hats ℓ s) ≢ Y s → m'.val (m'.hats ℓ s) ≢ Y s

-- No node is marked X, and main keeps an N past the hat.
pub record NoCut (held : ℕ → Bool) (class : ℕ → Class) (ℓ : ℕ) (s : Side) (m m' : View) : Type 0 where
  pub N-stays : m.val (past ℓ s m) ≡ N s → m'.val (past ℓ s m) ≡ N s
  pub no-X : (x : ℕ) → held x ≡ true → Old class x → m.val x ≢ X s → m'.val x ≢ X s

-- ---- The same from the other side.
calm-swap : {held : ℕ → Bool} {class : ℕ → Class} (m m' : View) → Calm held class m m'
    → Calm held class (swapped m) (swapped m')
calm-swap m m' c =
    record {
      same_hats = c.same_hats;
      main-same =
          λ x l h. let w = c.main-same x l h in
          record { same_out = w.same-inn; same-inn = w.same_out; same-val = w.same-val };
      out-ends = c.inn-ends;
      inn-ends = c.out-ends;
      values = λ x r h. elim (c.values x r h) [ kept q ↦ kept q | marked d q ↦ marked d q ];
    }

pub calm-view : (s z : Side) (M m' : View) {held : ℕ → Bool} {class : ℕ → Class}
    → Calm held class (view s M) m'
    → Calm held class (view z M) (view z (view s m'))
calm-view left left M m' c = c
calm-view left right M m' c = calm-swap (swapped M) m' c
calm-view right left M m' c = calm-swap M m' c
calm-view right right M m' c = c

-- Seen from side s, with both sides' facts of each lane, and then from side z.
pub record BothSteady (L : ℕ) (s o : Side) (m m' : View) : Type 0 where
  pub near : (l : ℕ) → l < L → Steady l s m m'
  pub far : (l : ℕ) → l < L → Steady l o (swapped m) (swapped m')

pub record BothNoCut (L : ℕ) (held : ℕ → Bool) (class : ℕ → Class) (s o : Side) (m m' : View) : Type 0 where
  pub near : (l : ℕ) → l < L → NoCut held class l s m m'
  pub far : (l : ℕ) → l < L → NoCut held class l o (swapped m) (swapped m')

pub steady-view : (s z : Side) (M m' : View) {L : ℕ} → BothSteady L s (opposite s) (view s M) m' → (l : ℕ) → l < L
    → Steady l z (view z M) (view z (view s m'))
steady-view left left M m' b = b.near
steady-view left right M m' b = b.far
steady-view right left M m' b = b.far
steady-view right right M m' b = b.near

pub no-cut-view : (s z : Side) (M m' : View) {L : ℕ} {held : ℕ → Bool} {class : ℕ → Class}
    → BothNoCut L held class s (opposite s) (view s M) m'
    → (l : ℕ)
    → l < L
    → NoCut held class l z (view z M) (view z (view s m'))
no-cut-view left left M m' b = b.near
no-cut-view left right M m' b = b.far
no-cut-view right left M m' b = b.far
no-cut-view right right M m' b = b.near
