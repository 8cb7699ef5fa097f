-- Within how many of its own ticks a task answers while the other tasks do not disturb it: for each step the numbers n
-- for which it is so, by what the task's registers say of the table. S is the table's size, g the task's goal. A
-- remove takes four ticks for each link of its walk, and some extra where other tasks tick too: none where it is
-- alone, two where a node may be marked by another remove between its own lines 77 and 78, once, since a Y stays.
use mathlib.Core.Path.{◌≡◌}
use mathlib.Core.Logic.{◌≢◌}
use Prim.Native.Nat.{ℕ, zero, suc, ◌+◌, ◌*◌, ◌-◌, ◌≤◌, ◌<◌}
use native.Mathlib.Omega.{arith}
use Rattle.machine.specs.Outcomes.Answer.{Going}
use Rattle.machine.specs.Sides.{Side}
use Rattle.machine.specs.Values.{Value, N, X, Y}
use Rattle.machine.specs.Steps.{Step, rest}
use Rattle.machine.specs.Steps as Steps
use Rattle.machine.specs.Tasks.{Task}
use Rattle.machine.specs.Lines.{Effect}
use Rattle.machine.proofs.Words.Memories.{View, written}
use Rattle.machine_progress.proofs.SoloBound.Walks.{EndsWithin}
use Rattle.machine_progress.proofs.SoloBound.AtHat.{Path}

-- Within a where a fact holds, within b in any case.
pub data SoonOrLate (P : Type 0) (a b n : ℕ) : Type 0 where
  soon : P → a ≤ n → SoonOrLate P a b n
  late : b ≤ n → SoonOrLate P a b n

pub in-any-case : {P : Type 0} {a b n : ℕ} → a ≤ b → SoonOrLate P a b n → a ≤ n
in-any-case le (soon p l) = l
in-any-case le (late l) = omega arith

-- ---- Remove.

-- The ticks for a walk of so many links.
abbrev pub walk_ticks : (extra links : ℕ) → ℕ
walk_ticks extra zero = 0
walk_ticks extra (suc d) = 4 + extra + walk_ticks extra d

-- The walk outward from x, and c ticks more.
pub record Walking (extra : ℕ) (out : ℕ → ℕ) (x c n : ℕ) : Type 0 where
  pub links : ℕ
  pub ends : EndsWithin out links x
  pub within : walk_ticks extra links + c ≤ n

-- Line 77: B has a Y, or another may still mark it.
pub data Reading (extra : ℕ) (s : Side) (m : View) (B n : ℕ) : Type 0 where
  reads-Y : m.val B ≡ Y s → Walking extra m.out B 5 n → Reading extra s m B n
  reads : Walking extra m.out B (5 + extra) n → Reading extra s m B n

-- Line 78: the value read is that of B, or not; and B has a Y, or not.
pub data Marking (extra : ℕ) (s : Side) (m : View) (B : ℕ) (v : Value) (n : ℕ) : Type 0 where
  marks-Y : m.val B ≡ v → m.val B ≡ Y s → Walking extra m.out B 4 n → Marking extra s m B v n
  marks : m.val B ≡ v → Walking extra m.out B (4 + extra) n → Marking extra s m B v n
  fails-once : m.val B ≡ Y s → Walking extra m.out B 6 n → Marking extra s m B v n
  fails : Walking extra m.out B (6 + extra) n → Marking extra s m B v n

-- ---- Push and add.

-- Line 2.
pub data AtStart (S : ℕ) (ℓ : ℕ) (s : Side) (m : View) (n : ℕ) : Type 0 where
  start-N : m.val (m.hats ℓ s) ≡ N s → 3 ≤ n → AtStart S ℓ s m n
  start-off-Y : m.val (m.hats ℓ s) ≢ Y s → 2 * S + 77 ≤ n → AtStart S ℓ s m n
  start-anywhere : 2 * S + 86 ≤ n → AtStart S ℓ s m n

-- Lines 3 and 5, with A at the hat, whose node holds N, X or Y; or with a hat that has moved.
pub data Pushing (ℓ : ℕ) (s : Side) (m : View) (A a b c d n : ℕ) : Type 0 where
  push-N : m.hats ℓ s ≡ A → m.val A ≡ N s → a ≤ n → Pushing ℓ s m A a b c d n
  push-X : m.hats ℓ s ≡ A → m.val A ≡ X s → b ≤ n → Pushing ℓ s m A a b c d n
  push-Y : m.hats ℓ s ≡ A → m.val A ≡ Y s → c ≤ n → Pushing ℓ s m A a b c d n
  push-stale : d ≤ n → Pushing ℓ s m A a b c d n

-- Line 8.
pub data Choosing (S : ℕ) (ℓ : ℕ) (s : Side) (m : View) (A n : ℕ) : Type 0 where
  choose-X : m.hats ℓ s ≡ A → m.val A ≡ X s → 2 * S + 74 ≤ n → Choosing S ℓ s m A n
  choose-Y : m.val A ≡ Y s → 2 * S + 83 ≤ n → Choosing S ℓ s m A n
  choose-stale : 2 * S + 151 ≤ n → Choosing S ℓ s m A n

-- A is on the path from the hat to the end of main; after i links of at most S.
abbrev pub OnPath : (ℓ : ℕ) → (s : Side) → View → (i A : ℕ) → Type 0
OnPath ℓ s m i A = Path s m.out m.val (m.hats ℓ s) i A

-- Line 17: A is on the way from the hat to the end of main, and then the push is near its end; or it comes from a hat
-- on Y; or the walk may end anywhere.
pub data Seeking (S : ℕ) (ℓ : ℕ) (s : Side) (m : View) (A n : ℕ) : Type 0 where
  seek-sure : {i : ℕ} → OnPath ℓ s m i A → 2 * S + 6 ≤ n + 2 * i → Seeking S ℓ s m A n
  seek-Y : m.val A ≡ Y s → 2 * S + 83 ≤ n → Seeking S ℓ s m A n
  seek-stale : {j : ℕ} → EndsWithin m.out j A → 2 * j + (2 * S + 90) ≤ n → Seeking S ℓ s m A n

-- Line 18.
pub data Stepping (S : ℕ) (ℓ : ℕ) (s : Side) (m : View) (A n : ℕ) : Type 0 where
  step-sure : {i : ℕ} → OnPath ℓ s m i A → m.val A ≡ N s → 2 * S + 5 ≤ n + 2 * i → Stepping S ℓ s m A n
  step-stale : {j : ℕ} → EndsWithin m.out j A → 2 * j + (2 * S + 89) ≤ n → Stepping S ℓ s m A n

-- Lines 24 and 25: A is the end of main.
pub record AtEnd (ℓ : ℕ) (s : Side) (m : View) (A : ℕ) : Type 0 where
  pub links : ℕ
  pub path : OnPath ℓ s m links A
  pub is-X : m.val A ≡ X s

-- Line 31.
pub record Growing (S g : ℕ) (ℓ : ℕ) (s : Side) (m : View) (counted n : ℕ) : Type 0 where
  pub below : counted < g
  pub when : SoonOrLate (m.val (m.hats ℓ s) ≢ Y s) ((g - counted) + (2 * S + 8)) ((g - counted) + (2 * S + 85)) n

abbrev pub Left : (extra : ℕ) → Step → (S g : ℕ) (s : Side) → View → Task → (n : ℕ) → Type 0
Left extra rest S g s m t n = ⊥
-- Push.
Left extra Steps.line2 S g s m t n = AtStart S t.lane s m n
Left extra Steps.line3 S g s m t n = Pushing t.lane s m t.A 2 (2 * S + 76) (2 * S + 85) (2 * S + 153) n
Left extra Steps.line5 S g s m t n = Pushing t.lane s m t.A 1 (2 * S + 75) (2 * S + 84) (2 * S + 152) n
Left extra Steps.line8 S g s m t n = Choosing S t.lane s m t.A n
-- Moving the hat off a Y.
Left extra Steps.line67 S g s m t n = 2 * S + 82 ≤ n
Left extra Steps.line68 S g s m t n = SoonOrLate (m.hats t.lane s ≡ t.A) (2 * S + 81) (2 * S + 90) n
Left extra Steps.line69 S g s m t n = SoonOrLate (m.hats t.lane s ≡ t.A) (2 * S + 80) (2 * S + 89) n
Left extra Steps.line70 S g s m t n =
    SoonOrLate ((m.hats t.lane s ≡ t.A) × (t.B ≡ m.inn t.A)) (2 * S + 79) (2 * S + 88) n
Left extra Steps.line72 S g s m t n =
    SoonOrLate ((m.hats t.lane s ≡ t.A) × (m.val t.C ≢ Y s)) (2 * S + 78) (2 * S + 87) n
-- Add.
Left extra Steps.line28 S g s m t n = SoonOrLate (m.val (m.hats t.lane s) ≡ X s) (2 * S + 73) (2 * S + 150) n
Left extra Steps.line31 S g s m t n = Growing S g t.lane s m t.counted n
Left extra Steps.line15 S g s m t n = SoonOrLate (m.val (m.hats t.lane s) ≢ Y s) (2 * S + 7) (2 * S + 84) n
Left extra Steps.line17 S g s m t n = Seeking S t.lane s m t.A n
Left extra Steps.line18 S g s m t n = Stepping S t.lane s m t.A n
Left extra Steps.line24 S g s m t n = SoonOrLate (AtEnd t.lane s m t.A) 5 (2 * S + 88) n
Left extra Steps.line25 S g s m t n =
    SoonOrLate (AtEnd t.lane s m t.A × (m.out t.A ≡ t.B)) 4 (2 * S + 87) n
-- Pop.
Left extra Steps.line39 S g s m t n = 4 ≤ n
Left extra Steps.line40 S g s m t n = SoonOrLate (m.hats t.lane s ≡ t.A) 3 7 n
Left extra Steps.line42 S g s m t n = SoonOrLate ((m.hats t.lane s ≡ t.A) × (t.B ≡ m.inn t.A)) 2 6 n
Left extra Steps.line48 S g s m t n = SoonOrLate ((m.hats t.lane s ≡ t.A) × (m.val t.B ≡ t.value)) 1 5 n
Left extra Steps.line51 S g s m t n = SoonOrLate ((m.hats t.lane s ≡ t.A) × (m.val t.B ≡ t.value)) 1 5 n
-- Remove.
Left extra Steps.line54 S g s m t n = walk_ticks extra S + 4 ≤ n
Left extra Steps.line56 S g s m t n = Walking extra m.out t.A 3 n
Left extra Steps.line58 S g s m t n = Walking extra m.out t.A 2 n
Left extra Steps.line60 S g s m t n = Walking extra m.out t.A 1 n
Left extra Steps.line62 S g s m t n = Walking extra m.out t.B 4 n
Left extra Steps.line64 S g s m t n = Walking extra m.out t.B 3 n
Left extra Steps.line74 S g s m t n = Walking extra m.out t.B 2 n
Left extra Steps.line77 S g s m t n = Reading extra s m t.B n
Left extra Steps.line78 S g s m t n = Marking extra s m t.B t.value n
Left extra Steps.line79 S g s m t n = Walking extra m.out t.B 3 n
Left extra Steps.line81 S g s m t n = Walking extra m.out t.A 2 n
Left extra Steps.line82 S g s m t n = 1 ≤ n

-- A tick with effect e, of a task that has n ticks left: it answers, or leaves one tick less.
pub record Spends (extra S g ℓ : ℕ) (s : Side) (m : View) (n : ℕ) (e : Effect) : Type 0 where
  pub spends : e.answer ≡ Going
      → (1 ≤ n) × Left extra e.task.step S g s (written ℓ s e.writes m) e.task (n - 1)
