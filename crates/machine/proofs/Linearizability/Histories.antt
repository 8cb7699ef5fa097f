-- What the row explains conserves the bags: the history of the calls beside the row, call by call, without a table.
use mathlib.Core.Path.{◌≡◌, refl, sym, ap, ◌∙◌, subst}
use mathlib.Core.Bool.{Bool, true, false, cond, ◌&&◌}
use mathlib.Core.List.{List, [], ◌∷◌, ◌++◌, reverse, reverse-cons, reverse-reverse}
use mathlib.Core.Logic.{◌≢◌}
use borrow.Author.Tests.{eq-eqb, ne_eqb}
use mathlib.Core.Option.{Option, some, none, map}
use Prim.Native.Nat.{ℕ, ◌+◌}
use native.Mathlib.Omega.{arith}
use Rattle.machine.specs.Outcomes.Answer.{Answer, Going, Pushed, Bag, Empty, Full, Yes, No, Refused}
use Rattle.machine.specs.Choice.{◌≟◌, if?◌then◌else◌}
use Rattle.machine.specs.Counts.{count}
use Rattle.machine.specs.Sides.{Side, left, right}
use Rattle.machine.specs.Operations.{Operation, idle, push, pop, add, remove}
use Rattle.machine.specs.Answers.{is_going}
use Rattle.machine.specs.Row.{
  Note,
  Row,
  empty_row,
  with_note,
  noted,
  with_bags,
  put,
  take_first,
  take_bag,
  push_answered,
  pop_answered,
  size_answered,
  answered,
  feed_made,
  next_noted,
  feed_dispatched,
}
use Rattle.machine.specs.Kinds.{Tick, of_task, of_next, Did, started, begun, lent_begun, ticked}
use Rattle.machine.specs.Begun.{
  Finished,
  History,
  no_history,
  finish,
  record_made,
  record_next,
  record_tick,
  record_ticks,
  record_did,
  bags_pushed,
  bags_popped,
}
use Rattle.machine.proofs.Basics.Contradiction.{clash}
use Rattle.machine.proofs.Basics.Choices.{by-if}
use Rattle.machine.proofs.Linearizability.Calls.RowDid.{
  bind-some,
  map-some,
  feed_made_tick,
  feed_made_ticks,
  feed_did,
}

-- ---- Bags counted.

-- A bag put at either end is in the row once more.
pub count-put : (s : Side) (x b : ℕ) (bags : List ℕ) → count b (put s x bags) ≡ count b (x ∷ bags)
unfolding count
count-put left x b bags = refl
count-put right x b [] = refl
count-put right x b (y ∷ bags) = let e = count-put right x b bags in omega arith

-- A bag taken from an end stood there.
first_taken : (x : ℕ) (bags bags' : List ℕ) → take_first x bags ≡ some bags' → bags ≡ x ∷ bags'
first_taken x [] bags' e = clash (cc)
first_taken x (y ∷ bags) bags' e = go (y ≟ x) e
  where
    go : (d : Dec (y ≡ x)) → (if? d then some bags else none) ≡ some bags' → y ∷ bags ≡ x ∷ bags'
    go (yes h) e = cc
    go (no h) e = clash (cc)

pub bag-taken : (s : Side) (x : ℕ) (bags bags' : List ℕ) → take_bag s x bags ≡ some bags' → bags ≡ put s x bags'
bag-taken left x bags bags' e = first_taken x bags bags' e
bag-taken right x bags bags' e = go (take_first x (reverse bags)) refl e
  where
    go :
        (o : Option (List ℕ))
        → take_first x (reverse bags) ≡ o
        → map reverse o ≡ some bags'
        → bags ≡ bags' ++ (x ∷ [])
    go none q e = clash (cc)
    go (some l) q e =
        let same : reverse l ≡ bags' = cc in
        sym (reverse-reverse bags)
        ∙ ap reverse (first_taken x (reverse bags) l q)
        ∙ reverse-cons x l
        ∙ ap (λ (m : List ℕ). m ++ (x ∷ [])) same

-- The bag b is as often in lane l's row or popped from it as it was pushed there.
abbrev pub Balanced : (l b : ℕ) → (bags : List ℕ) → List Finished → Type 0
Balanced l b bags fs = count b bags + count b (bags_popped l fs) ≡ count b (bags_pushed l fs)

module _ (l b : ℕ) (s : Side) (v : ℕ) (bags bags' : List ℕ) (fs : List Finished) (before : Balanced l b bags fs) where
  abbrev asked : Operation → Note
  asked op = record { lane = l; operation = op; side = s; argument = v }

  abbrev Result : Operation → Answer → Type 0
  Result op a =
      answered (asked op) a bags ≡ some bags'
      → Balanced l b bags' (record { note = asked op; answer = a } ∷ fs)

  size-balanced : (a : Answer) → size_answered a bags ≡ some bags' → Balanced l b bags' fs
  unfolding size_answered
  size-balanced Yes e = let q : bags ≡ bags' = cc in rw (← q) before
  size-balanced No e = let q : bags ≡ bags' = cc in rw (← q) before
  size-balanced Going e = clash (cc)
  size-balanced Pushed e = clash (cc)
  size-balanced (Bag x) e = clash (cc)
  size-balanced Empty e = clash (cc)
  size-balanced Full e = clash (cc)
  size-balanced (Refused r) e = clash (cc)

  push-balanced : (a : Answer) → Result push a
  unfolding push_answered bags_pushed bags_popped count
  push-balanced Pushed e =
      let q : put s v bags ≡ bags' = cc in
      let c = count-put s v b bags in
      rw (← q, eq-eqb l l refl) (omega arith)
  push-balanced Full e = let q : bags ≡ bags' = cc in rw (← q) before
  push-balanced Going e = clash (cc)
  push-balanced (Bag x) e = clash (cc)
  push-balanced Empty e = clash (cc)
  push-balanced Yes e = clash (cc)
  push-balanced No e = clash (cc)
  push-balanced (Refused r) e = clash (cc)

  pop-balanced : (a : Answer) → Result pop a
  unfolding pop_answered bags_pushed bags_popped count
  pop-balanced (Bag x) e =
      let c = count-put s x b bags' in
      let same = rw (bag-taken s x bags bags' e) at before in
      rw (eq-eqb l l refl) (omega arith)
  pop-balanced Empty e = go bags before e
    where
      go : (xs : List ℕ) → Balanced l b xs fs → pop_answered (asked pop) Empty xs ≡ some bags' → Balanced l b bags' fs
      go [] h q = let same : [] ≡ bags' = cc in rw (← same) h
      go (x ∷ xs) h q = clash (cc)
  pop-balanced Going e = clash (cc)
  pop-balanced Pushed e = clash (cc)
  pop-balanced Full e = clash (cc)
  pop-balanced Yes e = clash (cc)
  pop-balanced No e = clash (cc)
  pop-balanced (Refused r) e = clash (cc)

  answer-balanced : (op : Operation) (a : Answer) → Result op a
  unfolding bags_pushed bags_popped
  answer-balanced idle a e = clash (cc)
  answer-balanced push a e = push-balanced a e
  answer-balanced pop a e = pop-balanced a e
  answer-balanced add a e = size-balanced a e
  answer-balanced remove a e = size-balanced a e

-- What is finished on another lane counts for nothing.
module _ (l : ℕ) (f : Finished) (fs : List Finished) (ne : f.note.lane ≢ l) where
  no-lane : (a c : Bool) → a && c && false ≡ false
  no-lane true true = refl
  no-lane true false = refl
  no-lane false c = refl

  other-pushed : bags_pushed l (f ∷ fs) ≡ bags_pushed l fs
  unfolding bags_pushed
  other-pushed = rw (ne_eqb f.note.lane l ne, no-lane)

  other-popped : bags_popped l (f ∷ fs) ≡ bags_popped l fs
  unfolding bags_popped
  other-popped = rw (ne_eqb f.note.lane l ne, no-lane)

  other-balanced : (b : ℕ) (bags : List ℕ) → Balanced l b bags fs → Balanced l b bags (f ∷ fs)
  other-balanced b bags h = rw (other-pushed, other-popped) h

-- ---- What the row keeps and what the history keeps, by what calls did.

-- The history has the row's notes, tasks and task last dispatched, and every bag is balanced on every lane.
pub record Recorded (ρ : Row) (η : History) : Type 0 where
  pub same-notes : η.notes ≡ ρ.notes
  pub same_tasks : η.tasks ≡ ρ.tasks
  pub same_dispatched : η.dispatched ≡ ρ.dispatched
  pub balanced : (l b : ℕ) → Balanced l b (ρ.bags l) η.finished

pub nothing-recorded : (T L : ℕ) → Recorded (empty_row T L) (no_history T)
unfolding count bags_pushed bags_popped
nothing-recorded T L =
    record { same-notes = refl; same_tasks = refl; same_dispatched = refl; balanced = λ l b. refl }

same_row : {ρ ρ' : Row} {η : History} → some ρ ≡ some ρ' → Recorded ρ η → Recorded ρ' η
same_row {ρ} {ρ'} {η} e R = let q : ρ ≡ ρ' = cc in subst (λ (x : Row). Recorded x η) q R

same-with : {f g : ℕ → Option Note} (k : ℕ) (n : Option Note) → f ≡ g → with_note f k n ≡ with_note g k n
same-with k n e = ap (λ (f : ℕ → Option Note). with_note f k n) e

-- A tick that was made.
module _ {ρ : Row} {η : History} (R : Recorded ρ η) (k : ℕ) (a : Answer) where
  finish-recorded : (n : Note) (bags : List ℕ) → answered n a (ρ.bags n.lane) ≡ some bags
      → Recorded (noted (with_bags ρ n.lane bags) k none) (finish η k (some n) a)
  finish-recorded n bags e =
      record {
        same-notes = same-with k none R.same-notes;
        same_tasks = R.same_tasks;
        same_dispatched = R.same_dispatched;
        balanced =
            λ l b.
            by-if (λ xs. Balanced l b xs (record { note = n; answer = a } ∷ η.finished)) (l ≟ n.lane)
            (λ q. subst (λ (j : ℕ). Balanced j b bags (record { note = n; answer = a } ∷ η.finished)) (sym q) (own b))
            (λ ne. other-balanced l (record { note = n; answer = a }) η.finished (λ q. ne (sym q)) b (ρ.bags l)
            (R.balanced l b));
      }
    where
      own : (b : ℕ) → Balanced n.lane b bags (record { note = n; answer = a } ∷ η.finished)
      own b =
          answer-balanced n.lane b n.side n.argument (ρ.bags n.lane) bags η.finished
          (R.balanced n.lane b) n.operation a e

  made-recorded : {ρ' : Row} → feed_made ρ k a ≡ some ρ' → Recorded ρ' (record_made η k a)
  unfolding feed_made
  made-recorded {ρ'} e =
      let n = bind-some (ρ.notes k) _ e in
      let noted-so = ap (λ (f : ℕ → Option Note). f k) R.same-notes ∙ n.1 in
      rw noted-so (by_answer n.0 (is_going a) n.2)
    where
      by_answer : (n : Note) (g : Bool)
          → cond g (some ρ)
          (map (λ bags. noted (with_bags ρ n.lane bags) k none) (answered n a (ρ.bags n.lane)))
          ≡ some ρ'
          → Recorded ρ' (cond g η (finish η k (some n) a))
      by_answer n true q = same_row q R
      by_answer n false q =
          let x = map-some (answered n a (ρ.bags n.lane)) _ q in
          same_row (ap some x.2) (finish-recorded n x.0 x.1)

-- A tick of the task whose turn it is: the history finds the task that the row finds.
next-recorded : (a : Answer) {ρ ρ' : Row} {η : History} → Recorded ρ η → feed_dispatched ρ a ≡ some ρ'
    → Recorded ρ' (record_next η (next_noted η.notes η.tasks η.dispatched) a)
unfolding feed_dispatched
next-recorded a {ρ} {ρ'} {η} R e =
    let x = bind-some (next_noted ρ.notes ρ.tasks ρ.dispatched) _ e in
    let y = map-some (feed_made ρ x.0 a) _ x.2 in
    let M = made-recorded R x.0 a y.1 in
    rw (same_next ∙ x.1)
    (same_row (ap some y.2)
    (record {
      same-notes = M.same-notes;
      same_tasks = M.same_tasks;
      same_dispatched = refl;
      balanced = M.balanced;
    }))
  where
    same_next : next_noted η.notes η.tasks η.dispatched ≡ next_noted ρ.notes ρ.tasks ρ.dispatched
    same_next = rw (R.same-notes, R.same_tasks, R.same_dispatched)

tick-recorded : (t : Tick) {ρ ρ' : Row} {η : History} → Recorded ρ η → feed_made_tick ρ t ≡ some ρ'
    → Recorded ρ' (record_tick η t)
tick-recorded (of_task k a) R e = made-recorded R k a e
tick-recorded (of_next a) R e = next-recorded a R e

ticks-recorded : (ts : List Tick) {ρ ρ' : Row} {η : History} → Recorded ρ η → feed_made_ticks ρ ts ≡ some ρ'
    → Recorded ρ' (record_ticks η ts)
unfolding feed_made_ticks record_ticks
ticks-recorded [] R e = same_row e R
ticks-recorded (t ∷ ts) {ρ} R e =
    let x = bind-some (feed_made_tick ρ t) _ e in
    ticks-recorded ts (tick-recorded t R x.1) x.2

-- What a call did.
pub did-recorded : (d : Did) {ρ ρ' : Row} {η : History} → Recorded ρ η → feed_did ρ d ≡ some ρ'
    → Recorded ρ' (record_did η d)
did-recorded (started T L) R e = same_row e (nothing-recorded T L)
did-recorded (begun k n) R e =
    same_row e
    (record {
      same-notes = same-with k (some n) R.same-notes;
      same_tasks = R.same_tasks;
      same_dispatched = R.same_dispatched;
      balanced = R.balanced;
    })
did-recorded (lent_begun k n words) R e = same_row e R
did-recorded (ticked ts) R e = ticks-recorded ts R e
