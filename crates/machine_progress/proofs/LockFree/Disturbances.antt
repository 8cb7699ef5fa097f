-- How often a task may still disturb the others before some call answers: by cutting (62) and unlinking (64), by
-- splicing without an answer (25, a push), by moving a hat (72). T is the number of tasks: a cut may let each other
-- task splice once more, and pays for that.
use mathlib.Core.Path.{◌≡◌, refl}
use mathlib.Core.Logic.{◌≢◌, ◌⊎◌, inl, inr}
use mathlib.Core.Bool.{Bool, true}
use Prim.Native.Nat.{ℕ, suc, ◌≤◌}
use native.Mathlib.Omega.{arith}
use Rattle.machine.specs.Sides.{Side}
use Rattle.machine.specs.Values.{N, X, Y}
use Rattle.machine.specs.Steps.{Step, rest}
use Rattle.machine.specs.Steps as Steps
use Rattle.machine.specs.Tasks.{Task, no_node, in_a}
use Rattle.machine.specs.Registers.{holds}
use Rattle.machine.proofs.Words.Memories.{View}
use Rattle.machine.proofs.Linearizability.Model.Classes.{Class, spur, Old}
use Rattle.machine.proofs.Linearizability.Model.Structure.{Frame, Structure, InLanes}
use Rattle.machine.proofs.Linearizability.Model.Nodes.{old-some, Y-in-spur}
use Rattle.machine.proofs.Linearizability.Model.Guarantee.{Guarantee}
use Rattle.machine.proofs.Linearizability.Model.Phases.{TaskOk}
use Rattle.machine.proofs.Linearizability.Model.Invariant.{RegistersHeld}
use Rattle.machine_progress.proofs.SoloBound.Budget.{SoonOrLate, soon, late}
use Rattle.machine_progress.proofs.LockFree.Change.{past, Steady, NoCut}

-- Main has an N at the hat's index: a push that starts now needs no splice.
abbrev pub Room : (lane : ℕ) → Side → View → Type 0
Room ℓ s m = m.val (past ℓ s m) ≡ N s

-- Line 72: a push without a chain may splice if there is no room, any other once; and the hat may go to a wrong node.
pub record Moving (s : Side) (m : View) (t : Task) (n : ℕ) : Type 0 where
  pub splices : ℕ
  pub may-splice : SoonOrLate ((t.D ≡ no_node) × Room t.lane s m) 0 1 splices
  pub may-move :
      SoonOrLate (m.inn t.A ≡ m.inn (m.hats t.lane s) → t.C ≡ past t.lane s m) splices (suc splices) n

abbrev pub Disturbs : Step → (T : ℕ) (s : Side) → View → Task → (n : ℕ) → Type 0
Disturbs rest T s m t n = Unit {0}
-- Push.
Disturbs Steps.line2 T s m t n = SoonOrLate (Room t.lane s m) 0 1 n
Disturbs Steps.line3 T s m t n = SoonOrLate (Room t.lane s m × (m.val t.A ≢ X s)) 0 1 n
Disturbs Steps.line5 T s m t n = SoonOrLate (Room t.lane s m × (m.val t.A ≢ X s)) 0 1 n
Disturbs Steps.line8 T s m t n = SoonOrLate (Room t.lane s m × (m.val t.A ≢ X s)) 0 1 n
-- Moving the hat off a Y.
Disturbs Steps.line67 T s m t n = SoonOrLate ((t.D ≡ no_node) × Room t.lane s m) 0 1 n
Disturbs Steps.line68 T s m t n = SoonOrLate ((t.D ≡ no_node) × Room t.lane s m) 0 1 n
Disturbs Steps.line69 T s m t n = SoonOrLate ((t.D ≡ no_node) × Room t.lane s m) 0 1 n
Disturbs Steps.line70 T s m t n = SoonOrLate ((t.D ≡ no_node) × Room t.lane s m) 0 1 n
Disturbs Steps.line72 T s m t n = Moving s m t n
-- Add.
Disturbs Steps.line28 T s m t n = 1 ≤ n
Disturbs Steps.line31 T s m t n = 1 ≤ n
Disturbs Steps.line15 T s m t n = 1 ≤ n
Disturbs Steps.line17 T s m t n =
    SoonOrLate (Room t.lane s m ⊎ (t.A ≡ past t.lane s m) ⊎ (m.val t.A ≡ Y s)) 1 2 n
Disturbs Steps.line18 T s m t n = SoonOrLate (Room t.lane s m) 1 2 n
Disturbs Steps.line24 T s m t n = SoonOrLate (Room t.lane s m ⊎ (t.A ≡ past t.lane s m)) 1 2 n
Disturbs Steps.line25 T s m t n = SoonOrLate (Room t.lane s m ⊎ (t.A ≡ past t.lane s m)) 1 2 n
-- Pop.
Disturbs Steps.line39 T s m t n = Unit {0}
Disturbs Steps.line40 T s m t n = Unit {0}
Disturbs Steps.line42 T s m t n = Unit {0}
Disturbs Steps.line48 T s m t n = Unit {0}
Disturbs Steps.line51 T s m t n = Unit {0}
-- Remove.
Disturbs Steps.line54 T s m t n = suc T ≤ n
Disturbs Steps.line56 T s m t n = suc T ≤ n
Disturbs Steps.line58 T s m t n = suc T ≤ n
Disturbs Steps.line60 T s m t n = suc T ≤ n
Disturbs Steps.line62 T s m t n = suc T ≤ n
Disturbs Steps.line64 T s m t n = 1 ≤ n
Disturbs Steps.line74 T s m t n = Unit {0}
Disturbs Steps.line77 T s m t n = Unit {0}
Disturbs Steps.line78 T s m t n = Unit {0}
Disturbs Steps.line79 T s m t n = Unit {0}
Disturbs Steps.line81 T s m t n = Unit {0}
Disturbs Steps.line82 T s m t n = Unit {0}

-- A hat on Y may be moved off it once.
abbrev pub HatDisturbs : (lane : ℕ) → (s : Side) → View → (n : ℕ) → Type 0
HatDisturbs ℓ s m n = SoonOrLate (m.val (m.hats ℓ s) ≢ Y s) 0 1 n

-- ---- At first.
pub disturbs-at-first : (st : Step) (T : ℕ) (s : Side) (m : View) (t : Task) (n : ℕ) → 1 ≤ T → suc T ≤ n
    → Disturbs st T s m t n
disturbs-at-first rest T s m t n h l = tt
disturbs-at-first Steps.line2 T s m t n h l = late (omega arith)
disturbs-at-first Steps.line3 T s m t n h l = late (omega arith)
disturbs-at-first Steps.line5 T s m t n h l = late (omega arith)
disturbs-at-first Steps.line8 T s m t n h l = late (omega arith)
disturbs-at-first Steps.line67 T s m t n h l = late (omega arith)
disturbs-at-first Steps.line68 T s m t n h l = late (omega arith)
disturbs-at-first Steps.line69 T s m t n h l = late (omega arith)
disturbs-at-first Steps.line70 T s m t n h l = late (omega arith)
disturbs-at-first Steps.line72 T s m t n h l =
    record { splices = 1; may-splice = late (omega arith); may-move = late (omega arith) }
disturbs-at-first Steps.line28 T s m t n h l = omega arith
disturbs-at-first Steps.line31 T s m t n h l = omega arith
disturbs-at-first Steps.line15 T s m t n h l = omega arith
disturbs-at-first Steps.line17 T s m t n h l = late (omega arith)
disturbs-at-first Steps.line18 T s m t n h l = late (omega arith)
disturbs-at-first Steps.line24 T s m t n h l = late (omega arith)
disturbs-at-first Steps.line25 T s m t n h l = late (omega arith)
disturbs-at-first Steps.line39 T s m t n h l = tt
disturbs-at-first Steps.line40 T s m t n h l = tt
disturbs-at-first Steps.line42 T s m t n h l = tt
disturbs-at-first Steps.line48 T s m t n h l = tt
disturbs-at-first Steps.line51 T s m t n h l = tt
disturbs-at-first Steps.line54 T s m t n h l = omega arith
disturbs-at-first Steps.line56 T s m t n h l = omega arith
disturbs-at-first Steps.line58 T s m t n h l = omega arith
disturbs-at-first Steps.line60 T s m t n h l = omega arith
disturbs-at-first Steps.line62 T s m t n h l = omega arith
disturbs-at-first Steps.line64 T s m t n h l = omega arith
disturbs-at-first Steps.line74 T s m t n h l = tt
disturbs-at-first Steps.line77 T s m t n h l = tt
disturbs-at-first Steps.line78 T s m t n h l = tt
disturbs-at-first Steps.line79 T s m t n h l = tt
disturbs-at-first Steps.line81 T s m t n h l = tt
disturbs-at-first Steps.line82 T s m t n h l = tt

-- ---- A tick of another task: as often; once more after a cut.
pub hat-stays : {ℓ : ℕ} {s : Side} {m m' : View} → Steady ℓ s m m' → {n : ℕ} → HatDisturbs ℓ s m n
    → HatDisturbs ℓ s m' n
hat-stays W (soon ne h) = soon (W.stays-off-Y ne) h
hat-stays W (late h) = late h

module _ {held : ℕ → Bool} {s o : Side} {m m' : View} {class class' : ℕ → Class} {F : Frame}
    (t : Task) (Z : Structure t.lane s o m class F) (every : InLanes s o m class) (W : Steady t.lane s m m')
    (G : Guarantee held s m.out m.inn m.val class m'.out m'.inn m'.val class') where
  if-so : {P Q : Type 0} {x y i i' : ℕ} → i ≤ i' → (P → Q) ⊎ (y ≤ suc x) × (suc i ≤ i') → SoonOrLate P x y i
      → SoonOrLate Q x y i'
  if-so l (inl f) (soon p h) = soon (f p) (omega arith)
  if-so l (inr d) (soon p h) = late (omega (arith, d.0, d.1))
  if-so l f (late h) = late (omega arith)

  room-stays : NoCut held class t.lane s m m' → Room t.lane s m → Room t.lane s m'
  room-stays U v = let q = W.past_same in cc (U.N-stays v)

  A-held : (t.A ≢ no_node → held t.A ≡ true) → Old class t.A → held t.A ≡ true
  A-held u h = u (old-some Z t.A h)

  Y-stays : held t.A ≡ true → Old class t.A → m.val t.A ≡ Y s → m'.val t.A ≡ Y s
  Y-stays r h v = G.Y-stays t.A r (Y-in-spur Z every t.A h v) v

  past-stays : t.A ≡ past t.lane s m → t.A ≡ past t.lane s m'
  past-stays e = cc W.past_same

  -- The wrong node stays one, and the right node.
  move-stays : held t.A ≡ true → class t.A ≡ spur s
      → (m.inn t.A ≡ m.inn (m.hats t.lane s) → t.C ≡ past t.lane s m)
      → m'.inn t.A ≡ m'.inn (m'.hats t.lane s)
      → t.C ≡ past t.lane s m'
  move-stays r c f e =
      let q = G.spur-inward t.A r c in
      let d = f (cc W.behind-same) in
      cc W.past_same

  module _ (i i' : ℕ) (le : i ≤ i') (U : NoCut held class t.lane s m m' ⊎ (suc i ≤ i')) where
    room : {x : ℕ} → SoonOrLate (Room t.lane s m) x (suc x) i → SoonOrLate (Room t.lane s m') x (suc x) i'
    room b =
        elim U [
          | inl n ↦ if-so le (inl (room-stays n)) b
          | inr d ↦ if-so le (inr (omega arith, d)) b
        ]

    with-chain : SoonOrLate ((t.D ≡ no_node) × Room t.lane s m) 0 1 i
        → SoonOrLate ((t.D ≡ no_node) × Room t.lane s m') 0 1 i'
    with-chain b =
        elim U [
          | inl n ↦ if-so le (inl (λ p. (p.0, room-stays n p.1))) b
          | inr d ↦ if-so le (inr (omega arith, d)) b
        ]

    at-A : held t.A ≡ true → Old class t.A → SoonOrLate (Room t.lane s m × (m.val t.A ≢ X s)) 0 1 i
        → SoonOrLate (Room t.lane s m' × (m'.val t.A ≢ X s)) 0 1 i'
    at-A r h b =
        elim U [
          | inl n ↦ if-so le (inl (λ p. (room-stays n p.0, n.no-X t.A r h p.1))) b
          | inr d ↦ if-so le (inr (omega arith, d)) b
        ]

    seeking : held t.A ≡ true → Old class t.A
        → SoonOrLate (Room t.lane s m ⊎ (t.A ≡ past t.lane s m) ⊎ (m.val t.A ≡ Y s)) 1 2 i
        → SoonOrLate (Room t.lane s m' ⊎ (t.A ≡ past t.lane s m') ⊎ (m'.val t.A ≡ Y s)) 1 2 i'
    seeking r h b =
        elim U [
          | inl n ↦ if-so le (inl (λ p. elim p [
            | inl v ↦ inl (room-stays n v)
            | inr (inl e) ↦ inr (inl (past-stays e))
            | inr (inr y) ↦ inr (inr (Y-stays r h y))
          ])) b
          | inr d ↦ if-so le (inr (omega arith, d)) b
        ]

    at-end : SoonOrLate (Room t.lane s m ⊎ (t.A ≡ past t.lane s m)) 1 2 i
        → SoonOrLate (Room t.lane s m' ⊎ (t.A ≡ past t.lane s m')) 1 2 i'
    at-end b =
        elim U [
          | inl n ↦ if-so le (inl (λ p. elim p [
            | inl v ↦ inl (room-stays n v)
            | inr e ↦ inr (past-stays e)
          ])) b
          | inr d ↦ if-so le (inr (omega arith, d)) b
        ]

    moving : held t.A ≡ true → class t.A ≡ spur s → Moving s m t i → Moving s m' t i'
    moving r c w =
        elim U [
          | inl n ↦
              record {
                splices = w.splices;
                may-splice = if-so (omega arith) (inl (λ p. (p.0, room-stays n p.1))) w.may-splice;
                may-move = if-so le (inl (move-stays r c)) w.may-move;
              }
          | inr d ↦
              record {
                splices = suc w.splices;
                may-splice = late (omega arith);
                may-move = one_more d w.may-move;
              }
        ]
      where
        one_more : suc i ≤ i'
            → SoonOrLate (m.inn t.A ≡ m.inn (m.hats t.lane s) → t.C ≡ past t.lane s m)
            w.splices (suc w.splices) i
            → SoonOrLate (m'.inn t.A ≡ m'.inn (m'.hats t.lane s) → t.C ≡ past t.lane s m')
            (suc w.splices) (suc (suc w.splices)) i'
        one_more d (soon f h) = soon (move-stays r c f) (omega arith)
        one_more d (late h) = late (omega arith)

    pub disturbs-stay : (k T : ℕ) (st : Step) → RegistersHeld held (holds st) t → TaskOk k s o m class st t
        → Disturbs st T s m t i
        → Disturbs st T s m' t i'
    disturbs-stay k T rest R h b = tt
    disturbs-stay k T Steps.line2 R h b = room b
    disturbs-stay k T Steps.line3 R h b = at-A (A-held (R in_a refl) h.relies) h.relies b
    disturbs-stay k T Steps.line5 R h b = at-A (A-held (R in_a refl) h.relies.A-old) h.relies.A-old b
    disturbs-stay k T Steps.line8 R h b = at-A (A-held (R in_a refl) h.relies) h.relies b
    disturbs-stay k T Steps.line67 R h b = with-chain b
    disturbs-stay k T Steps.line68 R h b = with-chain b
    disturbs-stay k T Steps.line69 R h b = with-chain b
    disturbs-stay k T Steps.line70 R h b = with-chain b
    disturbs-stay k T Steps.line72 R h b = moving (A-held (R in_a refl) (cc h.relies.A-spur)) h.relies.A-spur b
    disturbs-stay k T Steps.line28 R h b = omega arith
    disturbs-stay k T Steps.line31 R h b = omega arith
    disturbs-stay k T Steps.line15 R h b = omega arith
    disturbs-stay k T Steps.line17 R h b = seeking (A-held (R in_a refl) h.relies) h.relies b
    disturbs-stay k T Steps.line18 R h b = room b
    disturbs-stay k T Steps.line24 R h b = at-end b
    disturbs-stay k T Steps.line25 R h b = at-end b
    disturbs-stay k T Steps.line39 R h b = tt
    disturbs-stay k T Steps.line40 R h b = tt
    disturbs-stay k T Steps.line42 R h b = tt
    disturbs-stay k T Steps.line48 R h b = tt
    disturbs-stay k T Steps.line51 R h b = tt
    disturbs-stay k T Steps.line54 R h b = omega arith
    disturbs-stay k T Steps.line56 R h b = omega arith
    disturbs-stay k T Steps.line58 R h b = omega arith
    disturbs-stay k T Steps.line60 R h b = omega arith
    disturbs-stay k T Steps.line62 R h b = omega arith
    disturbs-stay k T Steps.line64 R h b = omega arith
    disturbs-stay k T Steps.line74 R h b = tt
    disturbs-stay k T Steps.line77 R h b = tt
    disturbs-stay k T Steps.line78 R h b = tt
    disturbs-stay k T Steps.line79 R h b = tt
    disturbs-stay k T Steps.line81 R h b = tt
    disturbs-stay k T Steps.line82 R h b = tt
