-- A line's steps before and after are a lost pair exactly if its compare did not match.
use mathlib.Core.Path.{◌≡◌, refl, ap, sym, ◌∙◌, subst}
use mathlib.Core.Logic.{◌↔◌}
use mathlib.Core.Bool.{Bool, true, false, ◌&&◌, ◌||◌}
use mathlib.Core.Option.{none}
use Prim.Native.Nat.{ℕ}
use lib.Dec.{eqb}
use borrow.Author.Tests.{eqb-true}
use native.Mathlib.Decide.{ℕ_discrete}
use Rattle.machine.specs.Sides.{Side}
use Rattle.machine.specs.Steps.{Step, step_number, step_in, step_of, line5, line25, line48, line51, line62}
use Rattle.machine.specs.Tasks.{Task}
use Rattle.machine.specs.Lines.{Memory, Effect, act}
use Rattle.machine.specs.Answers.{refusal_of}
use Rattle.machine.proofs.Basics.Contradiction.{clash}
use Rattle.machine.proofs.Basics.Tests.{and_left}
use Rattle.machine.proofs.Words.StepLaws.{step-of-number}
use Rattle.machine.proofs.Lines.Branches as B
use Rattle.window.specs.Lost.{is_lost}
use Rattle.window_contention.specs.LostSwaps.{LostSwap, at_5, at_25, at_48, at_51, at_62, LostByLine}

-- What is claimed of an effect, of a line st whose lost swap is L.
abbrev Says : (st : Step) (L : Type 0) → Effect → Type 0
Says st L e = refusal_of e.answer ≡ none → (is_lost (step_number st) (step_number e.task.step) ≡ true) ↔ L

-- ---- The five lines.
module _ {s o : Side} {m : Memory} {t : Task} {g f : ℕ} where
  says-5 : {e : Effect} → B.Branch s o m t g f line5 e → Says line5 (LostSwap s m t line5) e
  says-5 (B.stuck _) made = clash (cc)
  says-5 (B.moves (B.lost-5 n)) made = ((λ _. at_5 n), λ _. refl)
  says-5 (B.writes w) made = elim w [ ]
  says-5 (B.ends (B.done-5 _ _ h v)) made = ((λ i. clash (cc)), λ l. elim l [ at_5 n ↦ absurd (n (h, v)) ])

  says-25 : {e : Effect} → B.Branch s o m t g f line25 e → Says line25 (LostSwap s m t line25) e
  says-25 (B.stuck _) made = clash (cc)
  says-25 (B.moves (B.lost-25 n)) made = ((λ _. at_25 n), λ _. refl)
  says-25 (B.writes (B.push-25 _ h v _)) made = ((λ i. clash (cc)), λ l. elim l [ at_25 n ↦ absurd (n (h, v)) ])
  says-25 (B.ends (B.done-25 _ h v _)) made = ((λ i. clash (cc)), λ l. elim l [ at_25 n ↦ absurd (n (h, v)) ])

  says-48 : {e : Effect} → B.Branch s o m t g f line48 e → Says line48 (LostSwap s m t line48) e
  says-48 (B.stuck _) made = clash (cc)
  says-48 (B.moves (B.lost-48 n)) made = ((λ _. at_48 n), λ _. refl)
  says-48 (B.writes w) made = elim w [ ]
  says-48 (B.ends (B.done-48 _ h v)) made = ((λ i. clash (cc)), λ l. elim l [ at_48 n ↦ absurd (n (h, v)) ])

  says-51 : {e : Effect} → B.Branch s o m t g f line51 e → Says line51 (LostSwap s m t line51) e
  says-51 (B.stuck _) made = clash (cc)
  says-51 (B.moves (B.lost-51 n)) made = ((λ _. at_51 n), λ _. refl)
  says-51 (B.writes w) made = elim w [ ]
  says-51 (B.ends (B.done-51 _ h v)) made = ((λ i. clash (cc)), λ l. elim l [ at_51 n ↦ absurd (n (h, v)) ])

  says-62 : {e : Effect} → B.Branch s o m t g f line62 e → Says line62 (LostSwap s m t line62) e
  says-62 (B.stuck _) made = clash (cc)
  says-62 (B.moves w) made = elim w [ ]
  says-62 (B.writes (B.done-62 _ _ h v)) made = ((λ i. clash (cc)), λ l. elim l [ at_62 n ↦ absurd (n (h, v)) ])
  says-62 (B.ends (B.lost-62 n)) made = ((λ _. at_62 n), λ _. refl)

-- ---- The other lines: no pair that begins there is lost, and there is no swap to lose.
abbrev is_swap : ℕ → Bool
is_swap n = eqb n 5 || eqb n 25 || (eqb n 48 || eqb n 51) || eqb n 62

lost-from-swap : (before after : ℕ) → is_lost before after ≡ true → is_swap before ≡ true
lost-from-swap before after = go (eqb before 5) (eqb before 25) (eqb before 48) (eqb before 51) (eqb before 62)
  where
    go : (a b c d e : Bool)
        → (a && eqb after 8 || b && eqb after 15 || (c || d) && eqb after 39 || e && eqb after 0) ≡ true
        → (a || b || (c || d) || e) ≡ true
    go true b c d e h = refl
    go false true c d e h = refl
    go false false true d e h = refl
    go false false false true e h = refl
    go false false false false e h = and_left e (eqb after 0) h

swap-lost : {s : Side} {m : Memory} {t : Task} (st : Step) → LostSwap s m t st → is_swap (step_number st) ≡ true
swap-lost st (at_5 n) = refl
swap-lost st (at_25 n) = refl
swap-lost st (at_48 n) = refl
swap-lost st (at_51 n) = refl
swap-lost st (at_62 n) = refl

-- ---- A line is one of the five, or none of them.
by-swap : (P : Step → Type 0) → P line5 → P line25 → P line48 → P line51 → P line62
    → (st : Step)
    → is_swap (step_number st) ≡ true
    → P st
unfolding step_of step_in ℕ_discrete
by-swap P p5 p25 p48 p51 p62 st =
    let n = step_number st in
    go (eqb n 5) (eqb n 25) (eqb n 48) (eqb n 51) (eqb n 62) refl refl refl refl refl
  where
    at : (n : ℕ) → eqb (step_number st) n ≡ true → P (step_of n) → P st
    at n e = subst P (ap step_of (sym (eqb-true (step_number st) n e)) ∙ step-of-number st)

    go : (a b c d e : Bool)
        → eqb (step_number st) 5 ≡ a
        → eqb (step_number st) 25 ≡ b
        → eqb (step_number st) 48 ≡ c
        → eqb (step_number st) 51 ≡ d
        → eqb (step_number st) 62 ≡ e
        → (a || b || (c || d) || e) ≡ true
        → P st
    go true b c d e is-5 is-25 is-48 is-51 is-62 h = at 5 is-5 p5
    go false true c d e is-5 is-25 is-48 is-51 is-62 h = at 25 is-25 p25
    go false false true d e is-5 is-25 is-48 is-51 is-62 h = at 48 is-48 p48
    go false false false true e is-5 is-25 is-48 is-51 is-62 h = at 51 is-51 p51
    go false false false false true is-5 is-25 is-48 is-51 is-62 h = at 62 is-62 p62
    go false false false false false is-5 is-25 is-48 is-51 is-62 h = clash (cc)

pub lost-by-line : LostByLine
lost-by-line st s o m t g f = go (is_swap (step_number st)) refl
  where
    Claim : Step → Type 0
    Claim st = Says st (LostSwap s m t st) (act st s o m t g f)

    taken : (st : Step) → B.Branch s o m t g f st (act st s o m t g f)
    taken = B.branch s o m t g f

    go : (b : Bool) → is_swap (step_number st) ≡ b → Claim st
    go true e =
        by-swap Claim (says-5 (taken line5)) (says-25 (taken line25)) (says-48 (taken line48)) (says-51 (taken line51))
        (says-62 (taken line62)) st e
    go false e =
        let after = step_number (act st s o m t g f).task.step in
        λ made. (
          (λ i. let is = lost-from-swap (step_number st) after i in clash (cc)),
          λ l. let is = swap-lost st l in clash (cc),
        )
