-- Every call: the row gives what it gives back, is fed what it did, and agrees with the tables inside it.
use mathlib.Core.Path.{◌≡◌, refl, sym, subst}
use mathlib.Core.Bool.{Bool, true, false, cond, ◌&&◌}
use mathlib.Core.List.{List}
use mathlib.Core.Option.{some, none}
use Prim.Native.Nat.{ℕ, ◌*◌, ◌≤◌, ◌<◌}
use native.Mathlib.Omega.{arith}
use lib.Dec.{leb, ltb}
use lib.ListN.{length, drop}
use lib.Seq.{take_at}
use borrow.Author.Tests.{eq-eqb, leb-false, lt-ltb, le-ltb}
use Rattle.tag.specs.Tags.{all_tag_words}
use Rattle.tag.proofs.TagLaws.{length-tag-words}
use Rattle.machine.specs.Outcomes.Reply.{Reply, Accepted, Refused as Reply-Refused}
use Rattle.machine.specs.declared.Stored.{Stored}
use Rattle.text_page.specs.Page.{page_text}
use Rattle.airline_list.specs.Outcomes.{Sent, To, NotSent}
use Rattle.airline_list.specs.Lists.{verdict, sent}
use Rattle.machine.specs.Choice.{◌<?◌}
use Rattle.machine.specs.Sides.{side_number, side_of}
use Rattle.machine.specs.Values.{number}
use Rattle.machine.specs.Operations.{push, operation_number, operation_of}
use Rattle.machine.specs.Tasks.{words_of}
use Rattle.machine.specs.Table.{lane_count}
use Rattle.machine.specs.Shape.{same_words}
use Rattle.machine.specs.Answers.{same_reply}
use Rattle.machine.specs.Calls.{unless, Changed, changed, start, begun_task, begin, ReadDone, read_into, read}
use Rattle.machine.specs.Sheets.{page_refusal, sheet_into, sheet}
use Rattle.machine.specs.PushByList.{side_at, push_to, push_by_list}
use Rattle.machine.specs.Lent.{begin_lent}
use Rattle.machine.specs.Row.{Note, Row, noted, new_note}
use Rattle.machine.specs.Demand3.{
  Call,
  start_call,
  begin_call,
  tick_call,
  ticks_call,
  dispatch_call,
  dispatches_call,
  run_call,
  panel_call,
  read_call,
  sheet_call,
  push_by_list_call,
  lent_begin_call,
  given,
  is_call,
  feed_start,
  feed_begin,
  feed_read,
  feed_sheet,
  feed_by_list,
  feed_lent,
  feed,
  Within,
}
use Rattle.machine.specs.Kinds.{start_did, begin_did, lent_did, by_list_did, did}
use Rattle.machine.proofs.Words.RecordLaws.{same-words-refl}
use Rattle.machine.proofs.Shape.ShapeLaws.{well_sized}
use Rattle.machine.proofs.Shape.ShapeKept.{table-passes}
use Rattle.machine.proofs.Shape.LentBegins.{lent-kept, lent_fits, lent-words}
use Rattle.machine.proofs.Linearizability.Calls.Agreement.{Agrees, lanes-are-rows}
use Rattle.machine.proofs.Linearizability.Calls.RowDid.{
  same_if,
  feed_made_ticks,
  feed_did,
  tick-fed,
  ticks-fed,
  run-fed,
  dispatch-fed,
  dispatches-fed,
}
use Rattle.machine.proofs.Linearizability.Calls.CallsAgree.{
  Explains,
  start-explained,
  call_fits,
  begin-explained,
  tick-explained,
  dispatch-explained,
}
use Rattle.machine.proofs.Linearizability.Calls.ConsecutiveTicks.{ticks-explained, ticks-within}
use Rattle.machine.proofs.Linearizability.Calls.ConsecutiveDispatches.{dispatches-explained, dispatches-within}
use Rattle.machine.proofs.Linearizability.Calls.Runs.{run-explained, run-within, panel-explained, panel-within}

-- One call and what it did, and the ticks inside it.
pub record Told (ws : List ℕ) (ρ : Row) (c : Call) : Type 0 where
  pub explains : Explains ws ρ c
  pub fed-what-it-did : feed_did ρ (did c (given c ws)) ≡ some explains.row
  pub within : Within c ws ρ

-- ---- Accepted or refused.
start-fed : (ρ : Row) {ρ' : Row} (T L : ℕ) (r : Reply) → feed_start ρ T L r ≡ some ρ'
    → feed_did ρ (start_did T L r) ≡ some ρ'
unfolding feed_made_ticks
start-fed ρ T L Accepted e = e
start-fed ρ T L (Reply-Refused n) e = e

begin-fed : (ρ : Row) {ρ' : Row} (k l op side : ℕ) (argument : Stored) (r : Reply)
    → feed_begin ρ k l op side argument r ≡ some ρ'
    → feed_did ρ (begin_did k (new_note l op side argument) r) ≡ some ρ'
unfolding feed_made_ticks
begin-fed ρ {ρ'} k l op side argument Accepted e =
    let same : noted ρ k (some (new_note l op side argument)) ≡ ρ' = (same_if (is_call ρ k l op side argument) e).1 in cc
begin-fed ρ k l op side argument (Reply-Refused n) e = e

lent-fed : (ρ : Row) (k : ℕ) (n : Note) (r : Reply) (words : List ℕ) → feed_did ρ (lent_did k n r words) ≡ some ρ
unfolding feed_made_ticks
lent-fed ρ k n Accepted words = refl
lent-fed ρ k n (Reply-Refused m) words = refl

module _ {ws : List ℕ} {ρ : Row} (A : Agrees ws ρ) where
  -- ---- Looks: the row gives what they give back, and stays.
  read_looks : (l : ℕ) (out : List ℕ) → feed_read ρ l out (read ws l out).reading (read ws l out).out ≡ some ρ
  unfolding read read_into
  read_looks l out = by-lane (l <? lane_count ws)
    where
      Result : ReadDone → Type 0
      Result r = feed_read ρ l out r.reading r.out ≡ some ρ

      n : ℕ
      n = length (ρ.bags l)

      written : List ℕ
      written = all_tag_words (ρ.bags l)

      go : l < ρ.lanes → (b : Bool) → leb (2 * n) (length out) ≡ b → Result (read_into (some (ρ.bags l)) out)
      go h true e =
          rw (e, read_into)
          (rw (
            lt-ltb l ρ.lanes h,
            eq-eqb n n refl,
            e,
            take_at written (drop (2 * n) out) (2 * n) (length-tag-words (ρ.bags l)),
            same-words-refl written,
          ))
      go h false e =
          rw (e, read_into, lt-ltb l ρ.lanes h, lt-ltb (length out) (2 * n) (leb-false (2 * n) (length out) e))

      -- 26 exactly when there is no such lane.
      by-lane : Dec (l < lane_count ws) → Result (read ws l out)
      by-lane (yes h) =
          let is_lane : l < ρ.lanes = subst (λ (m : ℕ). l < m) (sym A.same-lanes) h in
          rw (
            table-passes ws A.accepted (unless (ltb l (lane_count ws)) 26 none),
            lt-ltb l (lane_count ws) h,
            read,
            lanes-are-rows A l is_lane,
          )
          (go is_lane (leb (2 * n) (length out)) refl)
      by-lane (no h) =
          let past : lane_count ws ≤ l = omega arith in
          let no-lane : ρ.lanes ≤ l = subst (λ (m : ℕ). m ≤ l) (sym A.same-lanes) past in
          rw (
            table-passes ws A.accepted (unless (ltb l (lane_count ws)) 26 none),
            le-ltb l (lane_count ws) past,
            read,
            le-ltb l ρ.lanes no-lane,
          )

  -- What is wanted is given.
  same-given : (c : Changed)
      → cond (same_reply c.reply c.reply && same_words c.words c.words) (some ρ) none ≡ some ρ
  same-given c = rw (same-reply c.reply, same-words-refl c.words)
    where
      same-reply : (r : Reply) → same_reply r r ≡ true
      same-reply Accepted = refl
      same-reply (Reply-Refused n) = eq-eqb n n refl

  sheet-looks : (l page : ℕ) (out : List ℕ)
      → feed_sheet ρ l page out (sheet ws l page out).reply (sheet ws l page out).words ≡ some ρ
  unfolding sheet sheet_into
  sheet-looks l page out = by-lane (l <? lane_count ws)
    where
      Result : Changed → Type 0
      Result c = feed_sheet ρ l page out c.reply c.words ≡ some ρ

      by-lane : Dec (l < lane_count ws) → Result (sheet ws l page out)
      by-lane (yes h) =
          let is_lane : l < ρ.lanes = subst (λ (m : ℕ). l < m) (sym A.same-lanes) h in
          rw (
            table-passes ws A.accepted (unless (ltb l (lane_count ws)) 26 none),
            lt-ltb l (lane_count ws) h,
            sheet,
            lanes-are-rows A l is_lane,
            lt-ltb l ρ.lanes is_lane,
          )
          (same-given (changed (page_refusal page out) out (page_text (ρ.bags l) page)))
      by-lane (no h) =
          let past : lane_count ws ≤ l = omega arith in
          let no-lane : ρ.lanes ≤ l = subst (λ (m : ℕ). m ≤ l) (sym A.same-lanes) past in
          rw (
            table-passes ws A.accepted (unless (ltb l (lane_count ws)) 26 none),
            le-ltb l (lane_count ws) past,
            sheet,
            le-ltb l ρ.lanes no-lane,
          )
          (same-given (changed (some 26) out out))

  lent-looks : (lent : List ℕ) (k l op side : ℕ) (argument : Stored)
      → feed_lent ρ lent k l op side argument (begin_lent ws lent k l op side argument).reply
      (begin_lent ws lent k l op side argument).words
      ≡ some ρ
  lent-looks lent k l op side argument = go (begin_lent ws lent k l op side argument).reply refl
    where
      go : (r : Reply) → (begin_lent ws lent k l op side argument).reply ≡ r
          → feed_lent ρ lent k l op side argument r (begin_lent ws lent k l op side argument).words ≡ some ρ
      go Accepted e =
          let sized = (well_sized ws A.accepted.length_passes).sized in
          rw (
            lent-words ws lent k l op side argument e sized,
            call_fits A k l op side argument (lent_fits ws lent k l op side argument e),
            same-words-refl (words_of (begun_task l (operation_of op) (side_of side) (number argument))),
          )
      go (Reply-Refused n) e = rw (lent-kept ws lent k l op side argument e, same-words-refl lent)

  -- ---- A push by list: its begin, or only a look.
  pub record ByListTold (s : Sent) (k l : ℕ) (argument : Stored) : Type 0 where
    pub row : Row
    pub given-by-row : feed_by_list ρ s k l argument (push_to s ws k l argument).answer ≡ some row
    pub agrees : Agrees (push_to s ws k l argument).words row
    pub fed-what-it-did : feed_did ρ (by_list_did s k l argument (push_to s ws k l argument).answer) ≡ some row

  by-list-told : (s : Sent) (k l : ℕ) (argument : Stored) → ByListTold s k l argument
  unfolding feed_made_ticks
  by-list-told (To end) k l argument =
      let side = side_number (side_at end) in
      let E = begin-explained A k l (operation_number push) side argument in
      record {
        row = E.row;
        given-by-row = E.given-by-row;
        agrees = E.agrees;
        fed-what-it-did =
            begin-fed ρ k l (operation_number push) side argument
            (begin ws k l (operation_number push) side argument).reply E.given-by-row;
      }
  by-list-told (NotSent n line) k l argument =
      record {
        row = ρ;
        given-by-row = rw (eq-eqb n n refl, eq-eqb line line refl);
        agrees = A;
        fed-what-it-did = refl;
      }

  -- ---- Every call.
  told-by : {c : Call} (E : Explains ws ρ c)
      → (feed ρ c (given c ws) ≡ some E.row → feed_did ρ (did c (given c ws)) ≡ some E.row)
      → Within c ws ρ
      → Told ws ρ c
  told-by E fed inside = record { explains = E; fed-what-it-did = fed E.given-by-row; within = inside }

  pub call-told : (c : Call) → Told ws ρ c
  unfolding feed_made_ticks push_by_list
  call-told (start_call S T g L) = told-by (start-explained A S T g L) (start-fed ρ T L (start ws S T g L).reply) tt
  call-told (begin_call k l op side argument) =
      told-by (begin-explained A k l op side argument)
      (begin-fed ρ k l op side argument (begin ws k l op side argument).reply) tt
  call-told (tick_call k h) = told-by (tick-explained A k h) (tick-fed ρ k _) tt
  call-told (ticks_call k h n) = told-by (ticks-explained k h A n) (ticks-fed ρ k n _) (ticks-within k h A n)
  call-told (dispatch_call h) = told-by (dispatch-explained A h) (dispatch-fed ρ _) tt
  call-told (dispatches_call h n) =
      told-by (dispatches-explained h n A) (dispatches-fed ρ n _ _) (dispatches-within h n A)
  call-told (run_call list answers) =
      told-by (run-explained A list answers) (run-fed ρ _ list _) (run-within A list answers)
  call-told (panel_call list answers) =
      told-by (panel-explained A list answers) (run-fed ρ _ list _) (panel-within A list answers)
  call-told (read_call l out) =
      told-by (record { row = ρ; given-by-row = read_looks l out; agrees = A }) (λ _. refl) tt
  call-told (sheet_call l page out) =
      told-by (record { row = ρ; given-by-row = sheet-looks l page out; agrees = A }) (λ _. refl) tt
  call-told (push_by_list_call list k l argument) =
      let x = by-list-told (sent (verdict list) (number argument)) k l argument in
      told-by (record { row = x.row; given-by-row = x.given-by-row; agrees = x.agrees })
      (λ _. x.fed-what-it-did) tt
  call-told (lent_begin_call lent whole k l op side argument) =
      told-by (record { row = ρ; given-by-row = lent-looks lent k l op side argument; agrees = A })
      (λ _. lent-fed ρ k (new_note l op side argument) (begin_lent ws lent k l op side argument).reply _) tt

  abbrev pub call-explained : (c : Call) → Explains ws ρ c
  call-explained c = (call-told c).explains
