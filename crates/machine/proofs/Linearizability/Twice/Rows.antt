-- The row has no bag twice, whatever it is fed, where accepted begins of pushes are of bags that it has not seen.
use mathlib.Core.Path.{◌≡◌, refl, sym, ap, ◌∙◌, subst}
use mathlib.Core.Logic.{◌≢◌, inl, inr}
use mathlib.Core.Bool.{Bool, true, false, cond}
use mathlib.Core.List.{List, [], ◌∷◌}
use mathlib.Core.Option.{Option, some, none, map}
use Prim.Native.Nat.{ℕ, zero, suc, ◌+◌, ◌≤◌, ◌<◌}
use native.Mathlib.Omega.{arith}
use Rattle.machine.specs.Outcomes.Answer.{Answer, Going, Pushed, Bag, Empty, Full, Yes, No, Refused}
use Rattle.machine.specs.Choice.{◌≟◌, if?◌then◌else◌}
use Rattle.machine.specs.Sides.{Side}
use Rattle.machine.specs.Operations.{Operation, idle, push, pop, add, remove}
use Rattle.machine.specs.Answers.{is_going}
use Rattle.machine.specs.Calls.{is_among}
use Rattle.machine.specs.Row.{
  Note,
  Row,
  empty_row,
  noted,
  with_bags,
  with_dispatched,
  put,
  push_answered,
  pop_answered,
  size_answered,
  answered_by,
  answered,
  feed_made,
  next_noted,
  feed_dispatched,
}
use Rattle.machine.specs.Kinds.{Tick, of_task, of_next, Did, started, begun, lent_begun, ticked}
use Rattle.machine.specs.Counts.{count}
use Rattle.machine.specs.Twice.{PushNoted, rows_below, all_bags, OnceInRow, SeenIn}
use Rattle.machine.proofs.Basics.Contradiction.{clash, equal?, less?}
use Rattle.machine.proofs.Basics.Choices.{if_yes, if_no}
use Rattle.machine.proofs.Basics.Counts.{count-append}
use Rattle.machine.proofs.Linearizability.Calls.RowDid.{
  bind-some,
  map-some,
  feed_made_tick,
  feed_made_ticks,
  feed_did,
}
use Rattle.machine.proofs.Linearizability.Histories.{count-put, bag-taken}
use Rattle.machine.proofs.Linearizability.Twice.Lists.{
  not-counted,
  not-among,
  count-first,
  count-other,
  count-more,
  places-differ,
  rows-untouched,
  rows-changed,
}

-- No bag is twice in the row or in noted pushes, counted.
pub record Once (ρ : Row) : Type 0 where
  pub at-most-once : (b : ℕ) → count b (all_bags ρ) ≤ 1
  pub not_yet : (k b : ℕ) → PushNoted ρ k b → count b (all_bags ρ) ≡ 0
  pub one_task : (j k b : ℕ) → PushNoted ρ j b → PushNoted ρ k b → j ≡ k

pub once-in-row : {ρ : Row} → Once ρ → OnceInRow ρ
once-in-row {ρ} O =
    record {
      different = places-differ (all_bags ρ) O.at-most-once;
      not_in_row = λ k b n. not-among b (all_bags ρ) (O.not_yet k b n);
      one_task = O.one_task;
    }

same_row : {ρ ρ' : Row} → some ρ ≡ some ρ' → Once ρ → Once ρ'
same_row {ρ} {ρ'} e O = let q : ρ ≡ ρ' = cc in subst Once q O

-- Empty rows have no bag.
none-there : (b n : ℕ) → count b (rows_below (λ l. []) n) ≡ 0
unfolding rows_below count
none-there b zero = refl
none-there b (suc n) = let e = none-there b n in let c = count-append b (rows_below (λ l. []) n) [] in omega arith

pub once-empty : (T L : ℕ) → Once (empty_row T L)
once-empty T L =
    record {
      at-most-once = λ b. let e = none-there b L in omega arith;
      not_yet = λ k b n. none-there b L;
      one_task = λ j k b n m. clash (cc n.note_is);
    }

-- ---- Notes, with one replaced.
data NotedThere (ρ : Row) (k : ℕ) (m : Option Note) (j b : ℕ) : Type 0 where
  the-new-one :
      j ≡ k → (l : ℕ) (s : Side) → m ≡ some (record { lane = l; operation = push; side = s; argument = b })
      → NotedThere ρ k m j b
  one-before : j ≢ k → PushNoted ρ j b → NotedThere ρ k m j b

noted-there : (ρ : Row) (k : ℕ) (m : Option Note) (j b : ℕ) → PushNoted (noted ρ k m) j b → NotedThere ρ k m j b
noted-there ρ k m j b N = go (j ≟ k) N.note_is
  where
    go : (d : Dec (j ≡ k))
        → (if? d then m else ρ.notes j)
        ≡ some (record { lane = N.lane; operation = push; side = N.side; argument = b })
        → NotedThere ρ k m j b
    go (yes e) q = the-new-one e N.lane N.side q
    go (no n) q = one-before n (record { lane = N.lane; side = N.side; note_is = q })

-- Without one of the notes.
pub once-left-off : {ρ : Row} → Once ρ → (k : ℕ) → Once (noted ρ k none)
once-left-off {ρ} O k =
    record {
      at-most-once = O.at-most-once;
      not_yet = λ j b N. O.not_yet j b (before j b N);
      one_task = λ i j b N M. O.one_task i j b (before i b N) (before j b M);
    }
  where
    before : (j b : ℕ) → PushNoted (noted ρ k none) j b → PushNoted ρ j b
    before j b N =
        elim (noted-there ρ k none j b N) [ the-new-one e l s q ↦ clash (cc) | one-before ne M ↦ M ]

-- ---- Begin.

-- An accepted begin of a push is of a bag that the row has not seen.
abbrev pub NewWhereBegun : Row → Did → Type 0
NewWhereBegun ρ (begun k n) = n.operation ≡ push → SeenIn ρ n.argument → ⊥
NewWhereBegun ρ (started T L) = Unit {0}
NewWhereBegun ρ (lent_begun k n words) = Unit {0}
NewWhereBegun ρ (ticked ts) = Unit {0}

module _ {ρ : Row} (O : Once ρ) (k : ℕ) (n : Note) (new : n.operation ≡ push → SeenIn ρ n.argument → ⊥) where
  -- A note of the new push is of a bag not seen.
  new-bag : (b l : ℕ) (s : Side) → some n ≡ some (record { lane = l; operation = push; side = s; argument = b })
      → SeenIn ρ b
      → ⊥
  new-bag b l s e seen =
      let same : n ≡ record { lane = l; operation = push; side = s; argument = b } = cc in
      new (ap (λ (m : Note). m.operation) same) (subst (SeenIn ρ) (sym (ap (λ (m : Note). m.argument) same)) seen)

  not_there : (b : ℕ) → (SeenIn ρ b → ⊥) → count b (all_bags ρ) ≡ 0
  not_there b unseen = not-counted b (all_bags ρ) (go (is_among b (all_bags ρ)) refl)
    where
      go : (t : Bool) → is_among b (all_bags ρ) ≡ t → is_among b (all_bags ρ) ≡ false
      go true e = absurd (unseen (inl e))
      go false e = e

  pub once-begun : Once (noted ρ k (some n))
  once-begun =
      record {
        at-most-once = O.at-most-once;
        not_yet = λ j b N.
            elim (noted-there ρ k (some n) j b N) [
              | the-new-one e l s q ↦ not_there b (new-bag b l s q)
              | one-before ne M ↦ O.not_yet j b M
            ];
        one_task = λ i j b N M.
            elim (noted-there ρ k (some n) i b N) [
              | the-new-one e l s q ↦
                  elim (noted-there ρ k (some n) j b M) [
                    | the-new-one d j z p ↦ e ∙ sym d
                    | one-before nd M' ↦ absurd (new-bag b l s q (inr (j, M')))
                  ]
              | one-before ne N' ↦
                  elim (noted-there ρ k (some n) j b M) [
                    | the-new-one d l z p ↦ absurd (new-bag b l z p (inr (i, N')))
                    | one-before nd M' ↦ O.one_task i j b N' M'
                  ]
            ];
      }

-- ---- Ticks.

-- What an answer leaves in the row: no more of any bag; or, where a push is answered, its bag once more.
data Leaves (n : Note) (bags bags' : List ℕ) : Type 0 where
  no_more : ((b : ℕ) → count b bags' ≤ count b bags) → Leaves n bags bags'
  one_more :
      n.operation ≡ push → ((b : ℕ) → count b bags' ≡ count b (n.argument ∷ bags)) → Leaves n bags bags'

module _ (n : Note) (bags bags' : List ℕ) where
  the_same : some bags ≡ some bags' → Leaves n bags bags'
  the_same e = let q : bags ≡ bags' = cc in no_more (λ b. rw (← q) (omega arith))

  size-leaves : (a : Answer) → size_answered a bags ≡ some bags' → Leaves n bags bags'
  unfolding size_answered
  size-leaves Yes e = the_same e
  size-leaves No e = the_same e
  size-leaves Going e = clash (cc)
  size-leaves Pushed e = clash (cc)
  size-leaves (Bag x) e = clash (cc)
  size-leaves Empty e = clash (cc)
  size-leaves Full e = clash (cc)
  size-leaves (Refused r) e = clash (cc)

  push-leaves : (a : Answer) → n.operation ≡ push → push_answered n a bags ≡ some bags' → Leaves n bags bags'
  unfolding push_answered
  push-leaves Pushed is-push e =
      let q : put n.side n.argument bags ≡ bags' = cc in
      one_more is-push (λ b. rw (← q) (count-put n.side n.argument b bags))
  push-leaves Full is-push e = the_same e
  push-leaves Going is-push e = clash (cc)
  push-leaves (Bag x) is-push e = clash (cc)
  push-leaves Empty is-push e = clash (cc)
  push-leaves Yes is-push e = clash (cc)
  push-leaves No is-push e = clash (cc)
  push-leaves (Refused r) is-push e = clash (cc)

  pop-leaves : (a : Answer) → pop_answered n a bags ≡ some bags' → Leaves n bags bags'
  unfolding pop_answered
  pop-leaves (Bag x) e =
      let q = bag-taken n.side x bags bags' e in
      no_more (λ b.
      let c = count-put n.side x b bags' in
      let m = count-more b x bags' in
      rw q (omega arith))
  pop-leaves Empty e = go bags e
    where
      go : (l : List ℕ) → pop_answered n Empty l ≡ some bags' → Leaves n l bags'
      go [] q = let same : [] ≡ bags' = cc in no_more (λ b. rw (← same) (omega arith))
      go (x ∷ l) q = clash (cc)
  pop-leaves Going e = clash (cc)
  pop-leaves Pushed e = clash (cc)
  pop-leaves Full e = clash (cc)
  pop-leaves Yes e = clash (cc)
  pop-leaves No e = clash (cc)
  pop-leaves (Refused r) e = clash (cc)

  answer-leaves : (a : Answer) → answered n a bags ≡ some bags' → Leaves n bags bags'
  answer-leaves a = go n.operation refl
    where
      go : (op : Operation) → n.operation ≡ op → answered_by op n a bags ≡ some bags' → Leaves n bags bags'
      go idle is e = clash (cc)
      go push is e = push-leaves a is e
      go pop is e = pop-leaves a e
      go add is e = size-leaves a e
      go remove is e = size-leaves a e

module _ {ρ : Row} (O : Once ρ) (k : ℕ) (n : Note) (is-noted : ρ.notes k ≡ some n) (bags : List ℕ) where
  abbrev ended : Row
  ended = noted (with_bags ρ n.lane bags) k none

  -- The other tasks' notes are as they were.
  others : (j b : ℕ) → PushNoted ended j b → (j ≢ k) × PushNoted ρ j b
  others j b N =
      elim (noted-there (with_bags ρ n.lane bags) k none j b N) [
        | the-new-one e l s q ↦ clash (cc)
        | one-before ne M ↦ (ne, record { lane = M.lane; side = M.side; note_is = M.note_is })
      ]

  one-task-ended : (i j b : ℕ) → PushNoted ended i b → PushNoted ended j b → i ≡ j
  one-task-ended i j b N M = O.one_task i j b (others i b N).1 (others j b M).1

  own-push : n.operation ≡ push → PushNoted ρ k n.argument
  own-push is-push =
      record {
        lane = n.lane;
        side = n.side;
        note_is =
            is-noted
            ∙ ap (λ (op : Operation).
            some (record { lane = n.lane; operation = op; side = n.side; argument = n.argument })) is-push;
      }

  -- The other rows are as they were.
  others_same : (j : ℕ) → j ≢ n.lane → ended.bags j ≡ ρ.bags j
  others_same j ne = if_no (j ≟ n.lane) bags (ρ.bags j) ne

  own_row : ended.bags n.lane ≡ bags
  own_row = if_yes (n.lane ≟ n.lane) bags (ρ.bags n.lane) refl

  -- So what the answer leaves of a bag in its row it leaves in all rows.
  all-counts : (b : ℕ) → n.lane < ρ.lanes
      → count b (all_bags ended) + count b (ρ.bags n.lane) ≡ count b (all_bags ρ) + count b bags
  all-counts b h =
      let c = rows-changed ρ.bags ended.bags n.lane others_same b ρ.lanes h in
      let q = ap (count b) own_row in
      omega arith

  same-counts : (b : ℕ) → ρ.lanes ≤ n.lane → count b (all_bags ended) ≡ count b (all_bags ρ)
  same-counts b h = rows-untouched ρ.bags ended.bags n.lane others_same b ρ.lanes h

  all-leave : Leaves n (ρ.bags n.lane) bags → Leaves n (all_bags ρ) (all_bags ended)
  unfolding count
  all-leave (no_more fewer) =
      no_more (λ b.
      elim (less? n.lane ρ.lanes) [
        | inl h ↦ omega (arith, all-counts b h, fewer b)
        | inr h ↦ omega (arith, same-counts b h)
      ])
  all-leave (one_more is-push counts) =
      elim (less? n.lane ρ.lanes) [
        | inl h ↦ one_more is-push (λ b. omega (arith, all-counts b h, counts b))
        | inr h ↦ no_more (λ b. omega (arith, same-counts b h))
      ]

  once-ended : Leaves n (all_bags ρ) (all_bags ended) → Once ended
  once-ended (no_more fewer) =
      record {
        at-most-once = λ b. omega (arith, fewer b, O.at-most-once b);
        not_yet = λ j b N. omega (arith, fewer b, O.not_yet j b (others j b N).1);
        one_task = one-task-ended;
      }
  once-ended (one_more is-push counts) =
      record {
        at-most-once = λ b.
            elim (equal? n.argument b) [
              | inl e ↦
                  let none_before = O.not_yet k b (subst (PushNoted ρ k) e (own-push is-push)) in
                  omega (arith, counts b, count-first b n.argument (all_bags ρ) e)
              | inr ne ↦ omega (arith, counts b, count-other b n.argument (all_bags ρ) ne, O.at-most-once b)
            ];
        not_yet = λ j b N.
            let M = others j b N in
            elim (equal? n.argument b) [
              | inl e ↦ absurd (M.0 (O.one_task j k b M.1 (subst (PushNoted ρ k) e (own-push is-push))))
              | inr ne ↦ counts b ∙ count-other b n.argument (all_bags ρ) ne ∙ O.not_yet j b M.1
            ];
        one_task = one-task-ended;
      }

once-made : {ρ ρ' : Row} → Once ρ → (k : ℕ) (a : Answer) → feed_made ρ k a ≡ some ρ' → Once ρ'
unfolding feed_made
once-made {ρ} {ρ'} O k a e = let n = bind-some (ρ.notes k) _ e in by_answer n.0 n.1 (is_going a) n.2
  where
    by_answer : (n : Note) → ρ.notes k ≡ some n → (g : Bool)
        → cond g (some ρ)
        (map (λ bags. noted (with_bags ρ n.lane bags) k none) (answered n a (ρ.bags n.lane)))
        ≡ some ρ'
        → Once ρ'
    by_answer n is true q = same_row q O
    by_answer n is false q =
        let x = map-some (answered n a (ρ.bags n.lane)) _ q in
        same_row (ap some x.2)
        (once-ended O k n is x.0
        (all-leave O k n is x.0 (answer-leaves n (ρ.bags n.lane) x.0 a x.1)))

-- A tick of the task whose turn it is. The task last dispatched is no bag and no note.
once-next : {ρ ρ' : Row} → Once ρ → (a : Answer) → feed_dispatched ρ a ≡ some ρ' → Once ρ'
unfolding feed_dispatched
once-next {ρ} {ρ'} O a e =
    let x = bind-some (next_noted ρ.notes ρ.tasks ρ.dispatched) _ e in
    let y = map-some (feed_made ρ x.0 a) _ x.2 in
    same_row (ap some y.2) (turned x.0 (once-made O x.0 a y.1))
  where
    turned : (k : ℕ) {σ : Row} → Once σ → Once (with_dispatched k σ)
    turned k P =
        record {
          at-most-once = P.at-most-once;
          not_yet = λ j b N. P.not_yet j b (record { lane = N.lane; side = N.side; note_is = N.note_is });
          one_task = λ i j b N M.
              P.one_task i j b (record { lane = N.lane; side = N.side; note_is = N.note_is })
              (record { lane = M.lane; side = M.side; note_is = M.note_is });
        }

once-tick : {ρ ρ' : Row} → Once ρ → (t : Tick) → feed_made_tick ρ t ≡ some ρ' → Once ρ'
once-tick O (of_task k a) e = once-made O k a e
once-tick O (of_next a) e = once-next O a e

once-ticks : {ρ ρ' : Row} → Once ρ → (ts : List Tick) → feed_made_ticks ρ ts ≡ some ρ' → Once ρ'
unfolding feed_made_ticks
once-ticks O [] e = same_row e O
once-ticks {ρ} O (t ∷ ts) e =
    let x = bind-some (feed_made_tick ρ t) _ e in
    once-ticks {ρ = x.0} (once-tick O t x.1) ts x.2

-- ---- What a call did.
pub once-did : (d : Did) {ρ ρ' : Row} → Once ρ → NewWhereBegun ρ d → feed_did ρ d ≡ some ρ' → Once ρ'
once-did (started T L) O new e = same_row e (once-empty T L)
once-did (begun k n) O new e = same_row e (once-begun O k n new)
once-did (lent_begun k n words) O new e = same_row e O
once-did (ticked ts) O new e = once-ticks O ts e
