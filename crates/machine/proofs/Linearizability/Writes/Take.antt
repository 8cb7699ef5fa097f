-- Lines 28 and 31 take a node f that is not held: main, the held spur nodes and the chains keep their classes.
use mathlib.Core.Path.{◌≡◌, refl, sym, subst}
use mathlib.Core.Logic.{◌≢◌}
use mathlib.Core.Bool.{Bool, true, false}
use mathlib.Core.List.{List}
use Prim.Native.Nat.{ℕ}
use Rattle.machine.specs.Outcomes.Answer.{Going}
use Rattle.machine.specs.Sides.{Side}
use Rattle.machine.specs.Tasks.{Task, no_node}
use Rattle.machine.specs.Lines.{Write}
use Rattle.machine.proofs.Basics.Contradiction.{clash, refute}
use Rattle.machine.proofs.Words.Memories.{View, written, view-equal}
use Rattle.machine.proofs.Linearizability.Model.Classes.{Class, free, main, spur, new}
use Rattle.machine.proofs.Linearizability.Writes.ClassChanges.{
  Taken,
  is-taken,
  dropped,
  not-dropped,
  taken_class,
  taken_class-taken,
}
use Rattle.machine.proofs.Linearizability.Model.Guarantee.{SameIn, ChainsKept}
use Rattle.machine.proofs.Linearizability.Model.Held.{ClosedSet, main-held}
use Rattle.machine.proofs.Linearizability.Writes.Restriction.{
  Restricted,
  restricted-guarantee,
  restricted-swap,
  restricted-keeps,
}
use Rattle.machine.proofs.Linearizability.Model.Phases.{TaskOk}
use Rattle.machine.proofs.Linearizability.Model.Invariant.{Lanes, same-lanes, note_of, goes_on, TickOk}

-- The set is closed under links and holds the hats; f is outside it and in no chain.
pub record TakeOk (L : ℕ) (held : ℕ → Bool) (m : View) (class : ℕ → Class) (f : ℕ) : Type 0 where
  pub closed : ClosedSet L held m
  pub not-held : held f ≡ false
  pub not_new : (j : ℕ) → class f ≢ new j

module _ {L : ℕ} {held : ℕ → Bool} (k : ℕ) {s o : Side} {m : View} {class : ℕ → Class} {r : ℕ → List ℕ}
    (D : Lanes L s o m class r) (none_free : class no_node ≡ free) {f : ℕ} (K : TakeOk L held m class f)
    (f-some : f ≢ no_node) where
  abbrev class₁ : ℕ → Class
  class₁ = taken_class k held f class

  change : (x : ℕ) → Taken k held f class class₁ x
  change = taken_class-taken k held f class

  main-stays : (x l : ℕ) → class x ≡ main l → class₁ x ≡ main l
  main-stays x l h =
      let is_lane = D.below x l h in
      let x-held = main-held (D.lane l is_lane).structure K.closed is_lane x h in
      elim (change x) [
        | is-taken e q ↦ clash (cc K.not-held)
        | dropped e z c n q ↦ clash (cc)
        | not-dropped e n q ↦ cc
      ]

  was-main : (x l : ℕ) → class₁ x ≡ main l → class x ≡ main l
  was-main x l h =
      elim (change x) [
        | is-taken e q ↦ clash (cc)
        | dropped e z c n q ↦ clash (cc)
        | not-dropped e n q ↦ cc
      ]

  spur-stays : (x : ℕ) (y : Side) → held x ≡ true → class x ≡ spur y → class₁ x ≡ spur y
  spur-stays x y r h =
      elim (change x) [
        | is-taken e q ↦ clash (cc K.not-held)
        | dropped e z c n q ↦ clash (cc)
        | not-dropped e n q ↦ cc
      ]

  was-spur : (x : ℕ) (y : Side) → class₁ x ≡ spur y → class x ≡ spur y
  was-spur x y h =
      elim (change x) [
        | is-taken e q ↦ clash (cc)
        | dropped e z c n q ↦ clash (cc)
        | not-dropped e n q ↦ cc
      ]

  spur-held : (x : ℕ) (y : Side) → class₁ x ≡ spur y → held x ≡ true
  spur-held x y h =
      elim (change x) [
        | is-taken e q ↦ clash (cc)
        | dropped e z c n q ↦ clash (cc)
        | not-dropped e n q ↦ n y (cc)
      ]

  none_stays : class₁ no_node ≡ free
  none_stays =
      elim (change no_node) [
        | is-taken e q ↦ absurd (f-some (sym e))
        | dropped e z c n q ↦ q
        | not-dropped e n q ↦ cc
      ]

  -- The chains: f is new, and the others are as before.
  pub taken-new : class₁ f ≡ new k
  taken-new =
      elim (change f) [
        | is-taken e q ↦ q
        | dropped e z c n q ↦ absurd (e refl)
        | not-dropped e n q ↦ absurd (e refl)
      ]

  pub new-not-taken : (x j : ℕ) → class x ≡ new j → x ≢ f
  new-not-taken x j h = λ e. K.not_new j (cc)

  pub new-stays : (x j : ℕ) → class x ≡ new j → class₁ x ≡ new j
  new-stays x j h =
      elim (change x) [
        | is-taken e q ↦ absurd (K.not_new j (cc))
        | dropped e z c n q ↦ clash (cc)
        | not-dropped e n q ↦ cc
      ]

  pub was-new : (x j : ℕ) → x ≢ f → class₁ x ≡ new j → class x ≡ new j
  was-new x j ne h =
      elim (change x) [
        | is-taken e q ↦ absurd (ne e)
        | dropped e z c n q ↦ clash (cc)
        | not-dropped e n q ↦ cc
      ]

  -- A tick that takes f and writes nothing but nodes of the task's own chain.
  module _ (t : Task) (l : List Write) (same_hats : (written t.lane s l m).hats ≡ m.hats)
      (same-words : (x : ℕ) → class₁ x ≢ new k → SameIn m (written t.lane s l m) x) where
    restricted : Restricted held m.out m.inn m.val class
        (written t.lane s l m).out (written t.lane s l m).inn (written t.lane s l m).val class₁
    restricted =
        record {
          main-stays = main-stays;
          was-main = was-main;
          spur-stays = spur-stays;
          was-spur = was-spur;
          spur-held = spur-held;
          none_free = none_stays;
          same-words = λ x h. same-words x (λ c. refute (cc));
        }

    chains-kept : ChainsKept k m.out m.inn m.val class
        (written t.lane s l m).out (written t.lane s l m).inn (written t.lane s l m).val class₁
    chains-kept =
        record {
          stays-new = λ x j ne h. new-stays x j h;
          same-words = λ x j ne h. let c = new-stays x j h in same-words x (λ d. ne (cc));
          was-new = λ x j ne h. was-new x j (λ e. ne (cc (taken-new))) h;
        }

    pub takes : {t' : Task}
        → note_of t' ≡ note_of t
        → TaskOk k s o (written t.lane s l m) class₁ t'.step t'
        → TickOk held L k s o m class r t (record { writes = l; task = t'; answer = Going })
    takes e h =
        record {
          class' = class₁;
          r' = r;
          lanes =
              subst (λ (v : View). Lanes L s o v class₁ r) (view-equal refl refl refl (sym same_hats))
              (same-lanes D
              (λ j is_lane. restricted-keeps (D.lane j is_lane).structure K.closed is_lane restricted) was-main);
          row_step = refl;
          other-rows = λ j ne. refl;
          guarantees =
              record {
                near = restricted-guarantee restricted;
                far = restricted-guarantee (restricted-swap restricted);
                chains = chains-kept;
              };
          task-ok = h;
          kept = goes_on refl e;
        }
