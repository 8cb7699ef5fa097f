-- Each call is of its kind: what it leaves, and what it did, are what comes of a call that asks for the same. So what
-- starts, begins, ticks and dispatches keep, every call keeps.
use mathlib.Core.Path.{◌≡◌, refl, sym, ap, ◌∙◌, subst}
use mathlib.Core.Bool.{Bool, true, false}
use mathlib.Core.List.{List, [], ◌∷◌}
use mathlib.Core.Option.{Option, some, none}
use Prim.Native.Nat.{ℕ, zero, suc}
use lib.ListN.{length, drop}
use Rattle.machine.specs.Outcomes.Answer.{Refused}
use Rattle.machine.specs.Outcomes.Reply.{Reply, Accepted, Refused as Reply-Refused}
use Rattle.machine.specs.declared.Stored.{Stored}
use Rattle.airline_list.specs.Outcomes.{Sent, To, NotSent}
use Rattle.airline_list.specs.Lists.{verdict, sent}
use Rattle.machine.specs.Answers.{answer_length, refusal_of, is_going}
use Rattle.machine.specs.Sides.{side_number}
use Rattle.machine.specs.Values.{number}
use Rattle.machine.specs.Operations.{push, operation_number}
use Rattle.machine.specs.Tasks.{record_length}
use Rattle.machine.specs.Calls.{
  start_refusal,
  table_refusal,
  begin_refusal,
  run_refusal,
  panel_refusal,
  changed,
  times,
  start,
  begin,
  Ticked,
  tick_on,
  tick,
  ticks,
  Dispatched,
  dispatch,
  dispatches,
  RunDone,
  stopped,
  after_tick,
  run_on,
  tested,
  run,
  panel,
}
use Rattle.machine.specs.PushByList.{side_at, push_to, push_by_list}
use Rattle.machine.specs.Lent.{begin_lent}
use Rattle.machine.specs.Row.{new_note}
use Rattle.machine.specs.Demand3.{
  Call,
  start_call,
  begin_call,
  tick_call,
  ticks_call,
  dispatch_call,
  dispatches_call,
  run_call,
  panel_call,
  read_call,
  sheet_call,
  push_by_list_call,
  lent_begin_call,
  given,
  after,
  after_ticks,
}
use Rattle.machine.specs.Kinds.{
  Asked,
  a_start,
  a_begin,
  ticks-of,
  dispatches_with,
  a_look,
  sent_asks,
  asked,
  Tick,
  Did,
  started,
  begun,
  lent_begun,
  ticked,
  start_did,
  begin_did,
  lent_did,
  by_list_did,
  did,
}
use Rattle.machine.specs.Fair.{dispatches_in}
use Rattle.machine.proofs.Basics.Contradiction.{clash}
use Rattle.machine.proofs.Words.RunLaws.{first-goes-on, first-is-last}
use Rattle.machine.proofs.Words.DispatchLaws.{one-dispatch, kept-in-dispatches}

-- What comes of a call on the table ws, by what it asks for: the table that it leaves, and what it did. A look, a
-- refused start and a refused begin leave it alone, and so does a begin over a lent record.
pub data Comes (ws : List ℕ) : Asked → (vs : List ℕ) → Did → Type 0 where
  left_alone : (a : Asked) → dispatches_in a ≡ none → Comes ws a ws (ticked [])
  is-started :
      (S T g L : ℕ)
      → (start ws S T g L).reply ≡ Accepted
      → Comes ws (a_start S T g L) (start ws S T g L).words (started T L)
  is-begun :
      (k l op side : ℕ) (argument : Stored)
      → (begin ws k l op side argument).reply ≡ Accepted
      → Comes ws (a_begin k l op side argument) (begin ws k l op side argument).words
      (begun k (new_note l op side argument))
  is-lent-begun :
      (lent : List ℕ) (whole : length lent ≡ record_length) (k l op side : ℕ) (argument : Stored)
      → (begin_lent ws lent k l op side argument).reply ≡ Accepted
      → Comes ws a_look ws
      (lent_begun k (new_note l op side argument) (begin_lent ws lent k l op side argument).words)
  are-ticked : (i : ℕ) (list : List ℕ) (ts : List Tick) → Comes ws (ticks-of list) (after_ticks i list ws) (ticked ts)
  are-dispatched :
      (h n : ℕ) (ts : List Tick) → Comes ws (dispatches_with h n) (dispatches n ws h).words (ticked ts)

-- ---- Lists of ticks.

-- A list's ticks end at this table.
abbrev EndsAt : (list ws vs : List ℕ) → Type 0
EndsAt list ws vs = (i : ℕ) × (after_ticks i list ws ≡ vs)

ticks-come : (list ws : List ℕ) {vs : List ℕ} (ts : List Tick) → EndsAt list ws vs
    → Comes ws (ticks-of list) vs (ticked ts)
ticks-come list ws ts x =
    subst (λ (us : List ℕ). Comes ws (ticks-of list) us (ticked ts)) x.1 (are-ticked x.0 list ts)

-- A tick: refused by its table, or the first tick of the list.
tick-ends : (ws : List ℕ) (k h : ℕ) (list : List ℕ) → EndsAt (k ∷ h ∷ list) ws (tick ws k h).words
unfolding tick after_ticks
tick-ends ws k h list = go (table_refusal ws none) refl
  where
    go : (r : Option ℕ) → table_refusal ws none ≡ r → EndsAt (k ∷ h ∷ list) ws (tick ws k h).words
    go (some n) e = (0, rw (e, tick))
    go none e = (1, rw (e, tick))

-- A tick that goes on has passed the tests of its table.
going-passes : (ws : List ℕ) (k h : ℕ) → is_going (tick ws k h).answer ≡ true → tick ws k h ≡ tick_on ws k h
unfolding tick
going-passes ws k h going = go (table_refusal ws none) refl going
  where
    outcome : Option ℕ → Ticked
    outcome r =
        elim r as (λ _. Ticked) [ some n ↦ record { answer = Refused n; words = ws } | none ↦ tick_on ws k h ]

    go : (r : Option ℕ) → table_refusal ws none ≡ r → is_going (outcome r).answer ≡ true → outcome r ≡ tick_on ws k h
    go (some n) e q = clash (cc)
    go none e q = refl

ticks-end : (n : ℕ) (ws : List ℕ) (k h : ℕ) → EndsAt (times n (k ∷ h ∷ [])) ws (ticks n ws k h).words
unfolding ticks after_ticks times
ticks-end zero ws k h = (0, refl)
ticks-end (suc n) ws k h = go (is_going (tick ws k h).answer) refl (ticks-end n (tick ws k h).words k h)
  where
    list : List ℕ
    list = times n (k ∷ h ∷ [])

    go : (b : Bool) → is_going (tick ws k h).answer ≡ b
        → EndsAt list (tick ws k h).words (ticks n (tick ws k h).words k h).words
        → EndsAt (k ∷ h ∷ list) ws (ticks (suc n) ws k h).words
    go true e x = (
      suc x.0,
      ap (λ (r : Ticked). after_ticks x.0 list r.words) (sym (going-passes ws k h e))
          ∙ x.1
          ∙ ap (λ (r : Ticked). r.words) (sym (first-goes-on n ws k h e)),
    )
    go false e x =
        let one = tick-ends ws k h list in
        (one.0, one.1 ∙ ap (λ (r : Ticked). r.words) (sym (first-is-last n ws k h e)))

-- The tables inside a run end where it ends.
pub run_ends : (list ws answers : List ℕ) → after_ticks (run_on list ws answers).ran.made list ws
    ≡ (run_on list ws answers).words
unfolding run_on after_ticks
run_ends [] ws answers = refl
run_ends (k ∷ []) ws answers = refl
run_ends (k ∷ h ∷ list) ws answers =
    go (refusal_of (tick_on ws k h).answer) (run_ends list (tick_on ws k h).words (drop answer_length answers))
  where
    others : RunDone
    others = run_on list (tick_on ws k h).words (drop answer_length answers)

    first : Option ℕ → RunDone
    first r =
        elim r as (λ _. RunDone) [
          | some n ↦ stopped n ws answers
          | none ↦ after_tick (tick_on ws k h).answer others
        ]

    go :
        (r : Option ℕ)
        → after_ticks others.ran.made list (tick_on ws k h).words ≡ others.words
        → after_ticks (first r).ran.made (k ∷ h ∷ list) ws ≡ (first r).words
    go (some n) e = refl
    go none e = e

tested-ends : (r : Option ℕ) (ws list answers : List ℕ) → EndsAt list ws (tested r ws list answers).words
unfolding after_ticks
tested-ends (some n) ws list answers = (0, refl)
tested-ends none ws list answers = ((run_on list ws answers).ran.made, run_ends list ws answers)

-- ---- Every call.
refused-words : (r : Option ℕ) (before after : List ℕ) {n : ℕ} → (changed r before after).reply ≡ Reply-Refused n
    → before ≡ (changed r before after).words
refused-words (some m) before after e = refl
refused-words none before after e = clash (cc)

start-comes : (ws : List ℕ) (S T g L : ℕ)
    → Comes ws (a_start S T g L) (start ws S T g L).words (start_did T L (start ws S T g L).reply)
unfolding start
start-comes ws S T g L = go (start ws S T g L).reply refl
  where
    go : (r : Reply) → (start ws S T g L).reply ≡ r
        → Comes ws (a_start S T g L) (start ws S T g L).words (start_did T L r)
    go Accepted e = is-started S T g L e
    go (Reply-Refused n) e =
        subst (λ (vs : List ℕ). Comes ws (a_start S T g L) vs (ticked []))
        (refused-words (start_refusal ws S T g L) ws _ e) (left_alone (a_start S T g L) refl)

begin-comes : (ws : List ℕ) (k l op side : ℕ) (argument : Stored)
    → Comes ws (a_begin k l op side argument) (begin ws k l op side argument).words
    (begin_did k (new_note l op side argument) (begin ws k l op side argument).reply)
unfolding begin
begin-comes ws k l op side argument = go (begin ws k l op side argument).reply refl
  where
    go : (r : Reply) → (begin ws k l op side argument).reply ≡ r
        → Comes ws (a_begin k l op side argument) (begin ws k l op side argument).words
        (begin_did k (new_note l op side argument) r)
    go Accepted e = is-begun k l op side argument e
    go (Reply-Refused n) e =
        subst (λ (vs : List ℕ). Comes ws (a_begin k l op side argument) vs (ticked []))
        (refused-words (begin_refusal ws k l op side argument) ws _ e) (left_alone (a_begin k l op side argument) refl)

lent-comes : (ws lent : List ℕ) → length lent ≡ record_length → (k l op side : ℕ) (argument : Stored)
    → Comes ws a_look ws
    (lent_did k (new_note l op side argument) (begin_lent ws lent k l op side argument).reply
    (begin_lent ws lent k l op side argument).words)
lent-comes ws lent whole k l op side argument = go (begin_lent ws lent k l op side argument).reply refl
  where
    go : (r : Reply) → (begin_lent ws lent k l op side argument).reply ≡ r
        → Comes ws a_look ws
        (lent_did k (new_note l op side argument) r (begin_lent ws lent k l op side argument).words)
    go Accepted e = is-lent-begun lent whole k l op side argument e
    go (Reply-Refused n) e = left_alone a_look refl

dispatch-comes : (ws : List ℕ) (h : ℕ) (ts : List Tick)
    → Comes ws (dispatches_with h 1) (dispatch ws h).words (ticked ts)
dispatch-comes ws h ts =
    subst (λ (d : Dispatched). Comes ws (dispatches_with h 1) d.words (ticked ts)) (one-dispatch ws h)
    (are-dispatched h 1 ts)

by-list-comes : (s : Sent) (ws : List ℕ) (k l : ℕ) (argument : Stored)
    → Comes ws (sent_asks s k l argument) (push_to s ws k l argument).words
    (by_list_did s k l argument (push_to s ws k l argument).answer)
by-list-comes (To end) ws k l argument = begin-comes ws k l (operation_number push) (side_number (side_at end)) argument
by-list-comes (NotSent n line) ws k l argument = left_alone a_look refl

pub call-comes : (c : Call) (ws : List ℕ) → Comes ws (asked c) (after c ws) (did c (given c ws))
unfolding run panel push_by_list
call-comes (start_call S T g L) ws = start-comes ws S T g L
call-comes (begin_call k l op side argument) ws = begin-comes ws k l op side argument
call-comes (tick_call k h) ws = ticks-come (k ∷ h ∷ []) ws _ (tick-ends ws k h [])
call-comes (ticks_call k h n) ws = ticks-come (times n (k ∷ h ∷ [])) ws _ (ticks-end n ws k h)
call-comes (dispatch_call h) ws = dispatch-comes ws h _
call-comes (dispatches_call h n) ws = are-dispatched h n _
call-comes (run_call list answers) ws = ticks-come list ws _ (tested-ends (run_refusal ws list answers) ws list answers)
call-comes (panel_call list answers) ws =
    ticks-come list ws _ (tested-ends (panel_refusal ws list answers) ws list answers)
call-comes (read_call l out) ws = left_alone a_look refl
call-comes (sheet_call l page out) ws = left_alone a_look refl
call-comes (push_by_list_call list k l argument) ws =
    by-list-comes (sent (verdict list) (number argument)) ws k l argument
call-comes (lent_begin_call lent whole k l op side argument) ws = lent-comes ws lent whole k l op side argument

-- ---- What calls keep.

-- A fact about tables that each of these keeps.
pub record KeptByMoves (P : List ℕ → Type 0) : Type 0 where
  pub by_start : (ws : List ℕ) → P ws → (S T g L : ℕ) → P (start ws S T g L).words
  pub by-begin : (ws : List ℕ) → P ws → (k l op side : ℕ) (argument : Stored)
      → P (begin ws k l op side argument).words
  pub by_tick : (ws : List ℕ) → P ws → (k h : ℕ) → P (tick_on ws k h).words
  pub by_dispatch : (ws : List ℕ) → P ws → (h : ℕ) → P (dispatch ws h).words

module _ (P : List ℕ → Type 0) where
  pub kept-in-list : ((ws : List ℕ) → P ws → (k h : ℕ) → P (tick_on ws k h).words) → (i : ℕ) (list ws : List ℕ) → P ws
      → P (after_ticks i list ws)
  unfolding after_ticks
  kept-in-list by_tick zero list ws p = p
  kept-in-list by_tick (suc i) [] ws p = p
  kept-in-list by_tick (suc i) (k ∷ []) ws p = p
  kept-in-list by_tick (suc i) (k ∷ h ∷ list) ws p =
      kept-in-list by_tick i list (tick_on ws k h).words (by_tick ws p k h)

  pub kept-by-calls : KeptByMoves P → (c : Call) (ws : List ℕ) → P ws → P (after c ws)
  kept-by-calls K c ws p = go (call-comes c ws)
    where
      go : {a : Asked} {vs : List ℕ} {d : Did} → Comes ws a vs d → P vs
      go (left_alone a e) = p
      go (is-started S T g L e) = K.by_start ws p S T g L
      go (is-begun k l op side argument e) = K.by-begin ws p k l op side argument
      go (is-lent-begun lent whole k l op side argument e) = p
      go (are-ticked i list ts) = kept-in-list K.by_tick i list ws p
      go (are-dispatched h n ts) = kept-in-dispatches P h (λ vs q. K.by_dispatch vs q h) n ws p
