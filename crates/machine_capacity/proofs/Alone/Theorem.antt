-- Calls alone, exactly: pops and removes, all calls together, and what their ticks come to.
use mathlib.Core.Path.{◌≡◌, refl, sym, ap, ◌∙◌, subst}
use mathlib.Core.Logic.{◌≢◌}
use mathlib.Core.Bool.{true}
use mathlib.Core.List.{List, [], ◌∷◌, map}
use mathlib.Core.Option.{Option, some, none}
use Prim.Native.Nat.{ℕ, zero, suc, ◌+◌, ◌*◌, ◌≤◌, ◌<◌}
use native.Mathlib.Omega.{arith}
use lib.ListN.{length, replicate}
use Rattle.machine.specs.Outcomes.Answer.{Answer, Going, Bag, Empty, Yes, No}
use Rattle.machine.specs.Outcomes.Reply.{Accepted}
use Rattle.machine.specs.declared.Stored.{Stored}
use Rattle.machine.specs.Sides.{Side, side_number, side_of}
use Rattle.machine.specs.Values.{Y, stored, number}
use Rattle.machine.specs.Operations.{Operation, idle, push, pop, add, remove, operation_number, operation_of}
use Rattle.machine.specs.Tasks.{Task}
use Rattle.machine.specs.Table.{node_count, lane_count, hat, value, set_task}
use Rattle.machine.specs.Answers.{is_going, ends_call}
use Rattle.machine.specs.Calls.{is_busy, begin_refusal, changed, begun_task, begin, tick}
use Rattle.machine.specs.Begun.{Begun}
use Rattle.machine.specs.Row.{Note, take_bag, pop_answered, size_answered}
use Rattle.machine_progress.specs.Solo.{
  AloneMove,
  own_tick,
  AnswersAlone,
  answers_now,
  answers_later,
  dispatch-answers,
  dispatch-goes-on,
  words_left,
  HintsBelow,
}
use Rattle.machine_capacity.specs.NoLeak.{Idle}
use Rattle.machine_capacity.specs.Capacity.{AloneTo, ends_now, ends-later}
use Rattle.machine_capacity.specs.Alone.{
  CallOutcome,
  leaves,
  pop_alone,
  remove_alone,
  spare_of,
  spur_of,
  CallAlone,
  CallsAlone,
  ticks_with,
  AnswersExactly,
  FreeAfter,
}
use Rattle.machine.proofs.Basics.Contradiction.{clash, refute}
use Rattle.machine.proofs.Shape.ShapeKept.{begin-allowed}
use Rattle.machine.proofs.Linearizability.Corollaries.{begun-agrees}
use Rattle.machine_progress.proofs.SoloBound.Led.{begun-led}
use Rattle.machine_progress.proofs.SoloBound.Theorem.{answers-alone, hints-alone, own-hints}
use Rattle.machine_capacity.proofs.Alone.Ends.{spur-by-hat, idle-end}
use Rattle.machine_capacity.proofs.Alone.Runs.{begun-table, begun-at, call-leads}
use Rattle.machine_capacity.proofs.Alone.CallEnds.{call_end}
use Rattle.machine_capacity.proofs.Alone.Left.{same_some, Left}
use Rattle.machine_capacity.proofs.Alone.Rows.{
  ends-not-going,
  RowsThen,
  pop-takes,
  from-end-back,
  is_lane,
  call_rows,
  ComesTo,
  comes-to,
}
use Rattle.machine_capacity.proofs.Alone.Outcomes.{
  pop-bag,
  pop-empty,
  remove-spur,
  remove-few,
  remove-one,
  remove-more,
}
use Rattle.machine_capacity.proofs.Alone.Counts.{balance}
use Rattle.machine_capacity.proofs.Alone.Pop.{PopLeaves, gives-bag, says-empty, pop-leads}
use Rattle.machine_capacity.proofs.Alone.Cut.{RemoveLeaves, on-spur-yes, few-yes, one-no, cuts-yes}
use Rattle.machine_capacity.proofs.Alone.Remove.{remove-leads}
use Rattle.machine_capacity.proofs.Alone.Takes.{push-alone, add-alone}

-- ---- A pop: what the row gives.
taken-from : (s : Side) (b : ℕ) (bags rest : List ℕ) (r y : ℕ) → take_bag s b bags ≡ some rest
    → pop_alone s bags r y ≡ leaves (Bag b) rest (suc r) 0
taken-from s b bags rest r y e =
    pop-bag s bags r y b _ (pop-takes s b bags rest e)
    ∙ ap (λ (l : List ℕ). leaves (Bag b) l (suc r) 0) (from-end-back s rest)

none-there : (s : Side) (bags rest : List ℕ) (r y : ℕ) (n : Note) → pop_answered n Empty bags ≡ some rest
    → (pop_alone s bags r y ≡ leaves Empty bags r y) × (rest ≡ bags)
unfolding pop_answered
none-there s [] rest r y n e = (pop-empty s r y, sym (same_some e))
none-there s (b ∷ bags) rest r y n e = clash (cc)

pop-alone : CallAlone pop
unfolding pop_answered
pop-alone ws vs B idle_now T C k ℓ s v a accepted alone-to =
    go (call-leads B idle_now k ℓ pop s v accepted (pop-leads B T k ℓ here s v) alone-to)
  where
    here : ℓ < lane_count ws
    here = is_lane B idle_now T k ℓ pop s v a accepted alone-to

    n : Note
    n = record { lane = ℓ; operation = pop; side = s; argument = v }

    R : RowsThen n (lane_count ws) (λ j. (T.shape j).bags) a vs
    R = call_rows B idle_now T k ℓ pop s v a accepted alone-to refl

    given-for : {x : Answer} → a ≡ x → pop_answered n x (T.shape ℓ).bags ≡ some R.bags
    given-for e = subst (λ (x : Answer). pop_answered n x (T.shape ℓ).bags ≡ some R.bags) e R.given

    Says : CallOutcome → Type 0
    Says = ComesTo B idle_now T k ℓ pop s v a accepted alone-to

    r : ℕ
    r = spare_of s (T.shape ℓ)

    y : ℕ
    y = spur_of s (T.shape ℓ)

    go : PopLeaves B T k ℓ here s a vs → Says (pop_alone s (T.shape ℓ).bags r y)
    go (gives-bag b is-bag K) =
        subst Says (sym (taken-from s b (T.shape ℓ).bags R.bags r y (given-for is-bag)))
        (comes-to B idle_now T k ℓ pop s v a accepted alone-to (leaves (Bag b) R.bags (suc r) 0) refl is-bag K
        (given-for is-bag))
    go (says-empty is-empty K) =
        let q = none-there s (T.shape ℓ).bags R.bags r y n (given-for is-empty) in
        subst Says (sym q.0)
        (comes-to B idle_now T k ℓ pop s v a accepted alone-to (leaves Empty (T.shape ℓ).bags r y) refl is-empty K
        (given-for is-empty ∙ ap some q.1))

-- ---- A remove.
remove-alone : CallAlone remove
unfolding size_answered
remove-alone ws vs B idle_now T C k ℓ s v a accepted alone-to =
    go (call-leads B idle_now k ℓ remove s v accepted (remove-leads (call_end B idle_now T ℓ here s) k v) alone-to)
  where
    here : ℓ < lane_count ws
    here = is_lane B idle_now T k ℓ remove s v a accepted alone-to

    Says : CallOutcome → Type 0
    Says = ComesTo B idle_now T k ℓ remove s v a accepted alone-to

    comes : (o : CallOutcome) → a ≡ o.answer → Left ws T ℓ s o.spare o.spur vs
        → size_answered o.answer (T.shape ℓ).bags ≡ some o.bags
        → Says o
    comes o = comes-to B idle_now T k ℓ remove s v a accepted alone-to o refl

    spur : (value ws (hat ws ℓ s) ≡ Y s → spur_of s (T.shape ℓ) ≡ 1)
        × (value ws (hat ws ℓ s) ≢ Y s → spur_of s (T.shape ℓ) ≡ 0)
        × (spur_of s (T.shape ℓ) ≤ 1)
    spur = spur-by-hat (idle-end (T.idle_lane ℓ here) s)

    r : ℕ
    r = spare_of s (T.shape ℓ)

    y : ℕ
    y = spur_of s (T.shape ℓ)

    go : RemoveLeaves (call_end B idle_now T ℓ here s) k v a vs → Says (remove_alone v (T.shape ℓ).bags r y)
    go (on-spur-yes says-yes on K) =
        subst Says (sym (remove-spur v (T.shape ℓ).bags r y (spur.0 on)))
        (comes (leaves Yes (T.shape ℓ).bags r y) says-yes K refl)
    go (few-yes says-yes off l K) =
        subst Says (sym (remove-few v (T.shape ℓ).bags r y (spur.1 off) l))
        (comes (leaves Yes (T.shape ℓ).bags r y) says-yes K refl)
    go (one-no is-no off l K) =
        subst Says (sym (remove-one v (T.shape ℓ).bags r y (spur.1 off) l))
        (comes (leaves No (T.shape ℓ).bags r y) is-no K refl)
    go (cuts-yes says-yes off l K) =
        subst Says (sym (remove-more v (T.shape ℓ).bags r y (spur.1 off) l))
        (comes (leaves Yes (T.shape ℓ).bags (suc v) 0) says-yes K refl)

-- ---- All calls.

-- No begin of "idle" is accepted.
idle-refused : (ws : List ℕ) (k ℓ side : ℕ) (argument : Stored)
    → (begin ws k ℓ (operation_number idle) side argument).reply ≢ Accepted
unfolding begin
idle-refused ws k ℓ side argument =
    go (set_task k (begun_task ℓ (operation_of (operation_number idle)) (side_of side) (number argument)) ws)
    (begin_refusal ws k ℓ (operation_number idle) side argument) refl
  where
    go : (after : List ℕ) (r : Option ℕ) → begin_refusal ws k ℓ (operation_number idle) side argument ≡ r
        → (changed r ws after).reply ≢ Accepted
    go after (some n) e q = refute (cc)
    go after none e q =
        let B = begin-allowed ws k ℓ (operation_number idle) side argument e in
        let l = B.fits.some-operation in
        omega arith

pub calls_alone : CallsAlone
calls_alone idle =
    λ ws vs B idle_now T C k ℓ s v a accepted alone-to. absurd (idle-refused ws k ℓ (side_number s) (stored v) accepted)
calls_alone push = push-alone
calls_alone pop = pop-alone
calls_alone add = add-alone
calls_alone remove = remove-alone

-- ---- By the ticks that it gets.
to-answer : (k : ℕ) {moves : List AloneMove} {ws : List ℕ} → AnswersAlone k moves ws → (hints : List ℕ)
    → moves ≡ map own_tick hints
    → AloneTo k (ticks_with hints ws k).answer (ticks_with hints ws k).words ws
unfolding ticks_with
to-answer k (answers_now e) [] q = clash (cc)
to-answer k {ws = ws} (answers_now {h} e) (h' ∷ hints) q =
    let same : h ≡ h' = cc in
    let ends = subst (λ (i : ℕ). ends_call (tick ws k i).answer ≡ true) same e in
    rw (ends-not-going (tick ws k h').answer ends, ticks_with) (ends_now h' ends refl refl)
to-answer k (answers_later is-going more) [] q = clash (cc)
to-answer k {ws = ws} (answers_later {h} {moves} is-going more) (h' ∷ hints) q =
    let same : h ≡ h' = cc in
    let others : moves ≡ map own_tick hints = cc in
    let goes = subst (λ (i : ℕ). (tick ws k i).answer ≡ Going) same is-going in
    rw (ap is_going goes, ticks_with)
    (ends-later h' goes
    (to-answer k {moves = moves} (subst (λ (i : ℕ). AnswersAlone k moves (tick ws k i).words) same more) hints others))
to-answer k (dispatch-answers a says e) [] q = clash (cc)
to-answer k (dispatch-answers a says e) (h' ∷ hints) q = clash (cc)
to-answer k (dispatch-goes-on says more) [] q = clash (cc)
to-answer k (dispatch-goes-on says more) (h' ∷ hints) q = clash (cc)
to-answer k (words_left c more) [] q = clash (cc)
to-answer k (words_left c more) (h' ∷ hints) q = clash (cc)

busy-operation : (op : Operation) → op ≢ idle → is_busy op ≡ true
busy-operation idle ne = absurd (ne refl)
busy-operation push ne = refl
busy-operation pop ne = refl
busy-operation add ne = refl
busy-operation remove ne = refl

-- The hints that are all the same.
pub same-hints : (S n h : ℕ) → h < S → HintsBelow S (replicate n h)
same-hints S zero h l = tt
same-hints S (suc n) h l = (l, same-hints S n h l)

module _ (op : Operation) {ws : List ℕ} (B : Begun ws) (idle_now : Idle ws) (k ℓ : ℕ) (s : Side) (v : ℕ)
    (accepted : (begin ws k ℓ (operation_number op) (side_number s) (stored v)).reply ≡ Accepted) (hints : List ℕ)
    (lows : HintsBelow (node_count ws) hints) (long : 4 * node_count ws + 154 ≤ length hints) where
  abbrev us : List ℕ
  us = (begin ws k ℓ (operation_number op) (side_number s) (stored v)).words

  not-idle : op ≢ idle
  not-idle e =
      idle-refused ws k ℓ (side_number s) (stored v)
      (subst (λ (o : Operation). (begin ws k ℓ (operation_number o) (side_number s) (stored v)).reply ≡ Accepted) e
      accepted)

  pub comes-to-answer : AloneTo k
      (ticks_with hints (begin ws k ℓ (operation_number op) (side_number s) (stored v)).words k).answer
      (ticks_with hints (begin ws k ℓ (operation_number op) (side_number s) (stored v)).words k).words
      (begin ws k ℓ (operation_number op) (side_number s) (stored v)).words
  comes-to-answer =
      let P = begun-at B idle_now k ℓ op s v accepted in
      let same = (begun-table B idle_now k ℓ op s v accepted).same_nodes in
      to-answer k
      (answers-alone us (begun-led P.begun) k
      (ap (λ (t : Task). is_busy t.operation) P.own ∙ busy-operation op not-idle) (map own_tick hints)
      (omega (arith, own-hints hints))
      (hints-alone hints us (begun-agrees P.begun).1.accepted k
      (subst (λ (n : ℕ). HintsBelow n hints) (sym same) lows)))
      hints refl

pub answers-exactly : AnswersExactly
answers-exactly op ws B idle_now T C k ℓ s v accepted hints lows long =
    calls_alone op ws _ B idle_now T C k ℓ s v _ accepted
    (comes-to-answer op B idle_now k ℓ s v accepted hints lows long)

-- ---- The free nodes afterwards.
pub free-after : FreeAfter
free-after ws vs T C ℓ is-here s o K T' C' = balance T C ℓ is-here s o K T' C'
