-- Every line of the figure fits: on a table of the right shape it writes what keeps the shape.
use mathlib.Core.Path.{◌≡◌, refl, ap, sym, ◌∙◌, subst}
use mathlib.Core.Logic.{inl, inr}
use mathlib.Core.Bool.{true}
use mathlib.Core.List.{List}
use Prim.Native.Nat.{ℕ, suc}
use native.Mathlib.Omega.{arith}
use borrow.Author.Tests.{eqb-true, ltb-true, lt-ltb, le-leb}
use Rattle.machine.specs.Outcomes.Answer.{Answer}
use Rattle.machine.specs.declared.Stored.{Stored}
use Rattle.machine.specs.Sides.{opposite}
use Rattle.machine.specs.Values.{bag, N, X, stored, encode, bag_ok, same_stored}
use Rattle.machine.specs.Operations.{Operation, idle, push, pop, add, remove, argument_ok}
use Rattle.machine.specs.Steps.{Step, step_number, is_step_in}
use Rattle.machine.specs.Steps as Steps
use Rattle.machine.specs.Tasks.{Task, goal, with_d, with_counted, with_value}
use Rattle.machine.specs.Shape.{value_read_ok, counted_ok}
use Rattle.machine.specs.Lines.{Memory, Write, Effect, bag_of, act}
use Rattle.machine.proofs.Basics.Contradiction.{clash}
use Rattle.machine.proofs.Basics.Tests.{or_left, or_right}
use Rattle.machine.proofs.Words.ValueLaws.{bag-has-word, bag-value-ok, decoded-bag, stored_same}
use Rattle.machine.proofs.Words.StepLaws.{pushing, growing, part_of, has_part}
use Rattle.machine.proofs.Lines.Branches as B
use Rattle.machine.proofs.Shape.BusyLaws.{NodeOrNone, BusyAt, BusyFacts, bag_at_51}
use Rattle.machine.proofs.Shape.Fits.{ValueFits, WritesFit, AnswerFits, Fits, turns-back, goes_on, ends}
use Rattle.machine.proofs.Shape.Fits.{MemoryFits, none-fits, fitting}
use Rattle.machine.proofs.Shape.Moves.{Lands, lands, part, busy-stands, busy-moves, moves-registers, moves-A}
use Rattle.machine.proofs.Shape.Moves.{moves-B, moves-C, moves-value}

-- Only a push has the lines 2 to 8: it may go on to those of an add, and its argument is a bag.
push-grows : (op : Operation) → has_part op pushing ≡ true → has_part op growing ≡ true
push-grows idle h = h
push-grows push h = refl
push-grows pop h = h
push-grows add h = refl
push-grows remove h = h

bag-argument : (op : Operation) (u : Stored) → has_part op pushing ≡ true → argument_ok op u ≡ true → bag_ok u ≡ true
bag-argument idle n h k = clash (cc)
bag-argument push n h k = k
bag-argument pop n h k = clash (cc)
bag-argument add n h k = clash (cc)
bag-argument remove n h k = clash (cc)

back-lands : {t : Task} {st : Step} → B.Back t st → has_part t.operation growing ≡ true → Lands t.operation st
unfolding is_step_in
back-lands (B.to-2 e _) h = lands (rw e) refl
back-lands (B.to-15 _) h = lands h refl

module _ (S g L : ℕ) (m : Memory) (M : MemoryFits S m) (t : Task) (f : ℕ) (f-ok : NodeOrNone S f) where
  abbrev At : Step → Type 0
  At st = BusyAt S g L st t

  abbrev Facts : Task → Step → Type 0
  Facts u st = BusyFacts S g L (B.onward t u st)

  read-moves : At Steps.line42 → {st : Step} → B.Read (opposite t.side) (m.val t.B) st
      → Facts (with_value t (m.val t.B)) st
  unfolding is_step_in
  read-moves F (B.to-51 b e) =
      let h = (M.val-ok t.B).0 in
      busy-stands F Steps.line51 (part F) F.counted-ok (decoded-bag (encode (m.val t.B)) b (h ∙ e)).0 h
      F.A-ok F.B-ok F.C-ok F.D-ok
  read-moves F (B.to-48 e) =
      let v = encode (m.val t.B) in
      let n = same_stored v (encode (N (opposite t.side))) in
      let x = same_stored v (encode (X (opposite t.side))) in
      busy-stands F Steps.line48 (part F) F.counted-ok
      (elim e [
        | inl q ↦ or_left n x (stored_same (ap encode q))
        | inr q ↦ or_right n x (stored_same (ap encode q))
      ])
      (M.val-ok t.B).0 F.A-ok F.B-ok F.C-ok F.D-ok
  read-moves F (B.to-39 _ _ _) = moves-value F (lands (part F) refl) _ (M.val-ok t.B)

  moved : {st st' : Step} {u : Task} → B.Moves t.side (opposite t.side) m t (goal g t) f st u st' → At st
      → Facts u st'
  unfolding is_step_in
  moved B.rests F = busy-moves F (lands (part F) refl)
  moved B.hat-2 F = moves-A F (lands (part F) refl) (λ _. M.hat-ok)
  moved (B.none-3 _ _) F = moves-B F (lands (part F) refl) (M.out-ok t.A)
  moved (B.some-3 _ _) F = moves-B F (lands (part F) refl) (M.out-ok t.A)
  moved (B.lost-5 _) F = busy-moves F (lands (part F) refl)
  moved (B.end-8 _ _) F = busy-moves F (lands (push-grows t.operation (part F)) refl)
  moved (B.else-8 _ _) F = busy-moves F (lands (push-grows t.operation (part F)) refl)
  moved B.hat-67 F = moves-A F (lands (part F) refl) (λ _. M.hat-ok)
  moved (B.spur-68 _ _) F = busy-moves F (lands (part F) refl)
  moved (B.else-68 _ _ b) F = busy-moves F (back-lands b (part F))
  moved (B.link-69 _) F = moves-B F (lands (part F) refl) (M.inn-ok t.A)
  moved (B.none-70 _ _ b) F = moves-C F (back-lands b (part F)) (M.out-ok t.B)
  moved (B.some-70 _ _) F = moves-C F (lands (part F) refl) (M.out-ok t.B)
  moved (B.lost-72 _ _ b) F = busy-moves F (back-lands b (part F))
  moved (B.full-31 _ _) F = busy-moves F (lands (part F) refl)
  moved B.hat-15 F = moves-A F (lands (part F) refl) (λ _. M.hat-ok)
  moved (B.inner-17 _ _) F = moves-value F (lands (part F) refl) _ (M.val-ok t.A)
  moved (B.spur-17 _ _) F = moves-value F (lands (part F) refl) _ (M.val-ok t.A)
  moved (B.end-17 _ _) F = moves-value F (lands (part F) refl) _ (M.val-ok t.A)
  moved (B.else-17 _ _ _ _) F = moves-value F (lands (part F) refl) _ (M.val-ok t.A)
  moved (B.none-18 _ _) F = moves-A F (lands (part F) refl) (M.out-ok t.A)
  moved (B.some-18 _ _) F = moves-A F (lands (part F) refl) (M.out-ok t.A)
  moved (B.lost-25 _) F = busy-moves F (lands (part F) refl)
  moved B.hat-39 F = moves-A F (lands (part F) refl) (λ _. M.hat-ok)
  moved (B.none-40 _ _) F = moves-B F (lands (part F) refl) (M.inn-ok t.A)
  moved (B.some-40 _ _) F = moves-B F (lands (part F) refl) (M.inn-ok t.A)
  moved (B.value-42 _ v) F = read-moves F v
  moved (B.lost-48 _) F = busy-moves F (lands (part F) refl)
  moved (B.lost-51 _) F = busy-moves F (lands (part F) refl)
  moved (B.reached-54 _) F = moves-A F (lands (part F) refl) (λ _. M.hat-ok)
  moved (B.hat-54 n) F =
      let none-counted = eqb-true t.counted 0 F.counted-ok in
      busy-stands F Steps.line56 (part F) (lt-ltb t.counted (goal g t) (omega arith)) F.value-ok F.has_word
      (λ _. M.hat-ok) F.B-ok F.C-ok F.D-ok
  moved (B.else-56 _ _) F =
      busy-stands F Steps.line58 (part F) F.counted-ok F.value-ok F.has_word
      F.A-ok F.B-ok F.C-ok F.D-ok
  moved (B.reached-58 _ _ e) F =
      busy-stands F Steps.line60 (part F) (le-leb (suc t.counted) (goal g t) (omega arith)) F.value-ok
      F.has_word (M.out-ok t.A) F.B-ok F.C-ok F.D-ok
  moved (B.some-58 _ _ n) F =
      let below = ltb-true t.counted (goal g t) F.counted-ok in
      busy-stands F Steps.line56 (part F) (lt-ltb (suc t.counted) (goal g t) (omega arith)) F.value-ok
      F.has_word (M.out-ok t.A) F.B-ok F.C-ok F.D-ok
  moved (B.some-60 _ _) F = moves-B F (lands (part F) refl) (M.out-ok t.A)
  moved (B.lost-64 _ _) F = busy-moves F (lands (part F) refl)
  moved (B.none-74 _ _) F =
      moves-registers F (lands (part F) refl) F.B-ok (M.out-ok t.B) F.C-ok F.D-ok
  moved (B.some-74 _ _) F =
      moves-registers F (lands (part F) refl) F.B-ok (M.out-ok t.B) F.C-ok F.D-ok
  moved (B.value-77 _) F = moves-value F (lands (part F) refl) _ (M.val-ok t.B)
  moved (B.lost-78 _ _) F = busy-moves F (lands (part F) refl)
  moved (B.none-81 _ _) F = moves-B F (lands (part F) refl) (M.out-ok t.A)
  moved (B.end-81 _ _ _) F = moves-B F (lands (part F) refl) (M.out-ok t.A)
  moved (B.some-81 _ _ _) F = moves-B F (lands (part F) refl) (M.out-ok t.A)

  -- A node more in the chain, at a step that counts so many.
  chained : {st : Step} → At st → (st' : Step) {n : ℕ}
      → has_part t.operation (part_of st') ≡ true
      → counted_ok (step_number st') (goal g t) n ≡ true
      → value_read_ok t.side (step_number st') (encode t.value) ≡ true
      → {d : ℕ} → NodeOrNone S d
      → Facts (with_counted (with_d t d) n) st'
  chained F st' p n v d = busy-stands F st' p n v F.has_word F.A-ok F.B-ok F.C-ok d

  wrote : {st st' : Step} {l : List Write} {u : Task}
      → B.Writes t.side (opposite t.side) m t (goal g t) f st l u st' → At st → WritesFit S l × Facts u st'
  unfolding is_step_in
  wrote (B.done-72 c _ b) F = (search fitting, busy-moves F (back-lands b (part F)))
  wrote (B.reached-28 h e) F =
      (search (fitting, f-ok), chained F Steps.line15 (part F) (le-leb 0 (goal g t) (omega arith)) F.value-ok f-ok)
  wrote (B.taken-28 h n) F =
      (search (fitting, f-ok), chained F Steps.line31 (part F) (lt-ltb 0 (goal g t) (omega arith)) F.value-ok f-ok)
  wrote (B.reached-31 d h e) F = (
    search (fitting, f-ok),
    chained F Steps.line15 (part F) (le-leb (suc t.counted) (goal g t) (omega arith)) F.value-ok f-ok,
  )
  wrote (B.taken-31 d h n) F =
      let below = ltb-true t.counted (goal g t) F.counted-ok in (
        search (fitting, f-ok),
        chained F Steps.line31 (part F) (lt-ltb (suc t.counted) (goal g t) (omega arith)) F.value-ok f-ok,
      )
  wrote (B.link-24 a d) F = (search fitting, moves-B F (lands (part F) refl) (M.out-ok t.A))
  wrote (B.push-25 a _ _ e) F =
      (search fitting, chained F Steps.line2 (rw e) (le-leb 0 (goal g t) (omega arith)) F.value-ok none-fits)
  wrote (B.done-62 a b _ _) F = (search fitting, busy-moves F (lands (part F) refl))
  wrote (B.done-64 a _) F = (search fitting, busy-moves F (lands (part F) refl))
  wrote (B.done-78 b _) F = (search fitting, busy-moves F (lands (part F) refl))
  wrote (B.done-79 a) F = (search fitting, moves-A F (lands (part F) refl) F.B-ok)

  ended : {st : Step} {l : List Write} {a : Answer}
      → B.Ends t.side (opposite t.side) m t (goal g t) f st l a → At st → WritesFit S l × AnswerFits a
  ended (B.done-5 a b _ _) F =
      let n = t.argument in
      let ok = bag-argument t.operation (stored n) (part F) F.argument-ok in
      let fits : ValueFits (bag n) = (bag-has-word n ok, bag-value-ok (stored n) ok) in
      (search fitting, tt)
  ended (B.full-28 _ _) F = (tt, tt)
  ended (B.no-28 _ _) F = (tt, tt)
  ended (B.done-25 a _ _ _) F = (search fitting, tt)
  ended (B.done-48 _ _ _) F = (tt, tt)
  ended (B.done-51 b _ _) F =
      let v = bag_at_51 F in
      (search fitting, subst (λ v. bag_ok (stored (bag_of v)) ≡ true) (sym v.1) v.2)
  ended (B.end-56 _ _) F = (tt, tt)
  ended (B.none-58 _ _) F = (tt, tt)
  ended (B.none-60 _ _) F = (tt, tt)
  ended (B.lost-62 _) F = (tt, tt)
  ended (B.done-82 a) F = (search fitting, tt)

  branch_fits : {st : Step} {e : Effect} → B.Branch t.side (opposite t.side) m t (goal g t) f st e → At st
      → Fits S g L e
  branch_fits (B.stuck _) F = turns-back
  branch_fits (B.moves b) F = goes_on tt (moved b F)
  branch_fits (B.writes b) F = let h = wrote b F in goes_on h.0 h.1
  branch_fits (B.ends b) F = let h = ended b F in ends h.0 h.1

  pub line-fits : (st : Step) → At st → Fits S g L (act st t.side (opposite t.side) m t (goal g t) f)
  line-fits st = branch_fits (B.branch t.side (opposite t.side) m t (goal g t) f st)
