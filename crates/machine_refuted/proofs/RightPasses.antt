-- On every list of calls, from a table that start left, the right machine passes: by the row as by the definitions.
use mathlib.Core.Path.{◌≡◌, refl, ap, sym, ◌∙◌, subst}
use mathlib.Core.Bool.{Bool, true, false, ◌&&◌}
use mathlib.Core.List.{List, [], ◌∷◌, map}
use mathlib.Core.Option.{Option, some, none}
use Prim.Native.Nat.{ℕ, zero, suc}
use lib.ListN.{get_or}
use native.Mathlib.Omega.{arith}
use borrow.Author.Tests.{eq-eqb}
use Rattle.machine.specs.Outcomes.Dispatch.{Dispatch}
use Rattle.machine.specs.Outcomes.Reply.{Accepted}
use Rattle.machine.specs.Outcomes.Ran.{Ran}
use Rattle.machine.specs.Outcomes.Reading.{Reading, Count, Refused}
use Rattle.machine.specs.Shape.{same_words}
use Rattle.machine.specs.Answers.{
  reply_number,
  kind_of,
  payload_of,
  dispatch_kind_of,
  dispatch_payload_of,
  answer_of,
}
use Rattle.machine.specs.Calls.{Ticked, start, RunDone, run, panel}
use Rattle.machine.specs.Row.{Row, empty_row, feed_made, feed_run}
use Rattle.machine.specs.Demand3.{
  Call,
  Given,
  given,
  after,
  feed_ticks,
  feed_dispatches,
  feed,
  LanesAre,
  after_ticks,
  WithinList,
  WithinTicks,
  WithinDispatches,
  Within,
  Explained,
}
use Rattle.machine.proofs.Basics.Contradiction.{clash}
use Rattle.machine.proofs.Shape.ShapeLaws.{all-below}
use Rattle.machine.proofs.Words.RecordLaws.{same-words-refl}
use Rattle.machine.proofs.Linearizability.Theorem.{demand3}
use Rattle.machine.proofs.Linearizability.Calls.RowDid.{bind-some}
use Rattle.machine_refuted.specs.Machines.{
  Act,
  start_act,
  begin_act,
  tick_act,
  ticks_act,
  dispatch_act,
  dispatches_act,
  run_act,
  panel_act,
  read_act,
  call_of,
  right_machine,
  DispatchedMany,
  tables_by,
  given_by,
  after_by,
}
use Rattle.machine_refuted.specs.Judged.{
  Verdict,
  passes,
  not_the_row's_answer,
  lane_is_not_the_row,
  other_answer,
  other_table,
  made_by,
  same_bags,
  same_lanes,
  same_within_list,
  same_within_ticks,
  same_within_dispatches,
  same_within,
  by_row,
  same_dispatch,
  same_ran,
  same_reading,
  same_given,
  by_definitions,
}
use Rattle.machine_refuted.proofs.Right.{
  same-tick-on,
  same_ticks,
  same-dispatches,
  same-run,
  same-panel,
  right-gives,
  right-leaves,
}

-- ---- By the row: demand 3.
same-lanes : (ws : List ℕ) {r : Option Row} (ρ : Row) → LanesAre ws ρ → r ≡ some ρ → same_lanes ws r ≡ true
same-lanes ws ρ are-rows is_row =
    rw is_row
    (all-below ρ.lanes _ (λ l h.
    ap (λ (x : Option (List ℕ)). same_bags x (ρ.bags l)) (are-rows l h) ∙ same-words-refl (ρ.bags l)))

-- The tables of a list are those after its ticks, as far as the row is fed.
same_tables : (i : ℕ) (list answers ws : List ℕ) (ρ : Row) {ρ' : Row}
    → feed_run ρ i list answers ≡ some ρ'
    → get_or (tables_by right_machine list ws) i [] ≡ after_ticks i list ws
unfolding tables_by after_ticks feed_run
same_tables zero [] answers ws ρ e = refl
same_tables zero (k ∷ []) answers ws ρ e = refl
same_tables zero (k ∷ h ∷ list) answers ws ρ e = refl
same_tables (suc i) [] answers ws ρ e = clash (cc)
same_tables (suc i) (k ∷ []) answers ws ρ e = clash (cc)
same_tables (suc i) (k ∷ h ∷ list) [] ws ρ e = clash (cc)
same_tables (suc i) (k ∷ h ∷ list) (kind ∷ []) ws ρ e = clash (cc)
same_tables (suc i) (k ∷ h ∷ list) (kind ∷ digit ∷ []) ws ρ e = clash (cc)
same_tables (suc i) (k ∷ h ∷ list) (kind ∷ digit ∷ low ∷ answers) ws ρ e =
    let told = bind-some (answer_of kind digit low) _ e in
    let fed = bind-some (feed_made ρ k told.0) _ told.2 in
    ap (λ one. get_or (tables_by right_machine list one.words) i []) (same-tick-on ws k h)
    ∙ same_tables i list answers _ fed.0 fed.2

within-list : (list ws : List ℕ) (ρ : Row) (r : RunDone)
    → WithinList list ws ρ r
    → same_within_list right_machine list ws ρ r ≡ true
within-list list ws ρ r W =
    all-below (suc r.ran.made) _ (λ i l.
    let w = W i (omega arith) in
    same-lanes _ w.0
    (subst (λ (vs : List ℕ). LanesAre vs w.0) (sym (same_tables i list r.answers ws ρ w.1)) w.2) w.1)

within-ticks : (k h times : ℕ) (ws : List ℕ) (ρ : Row)
    → WithinTicks k h times ws ρ
    → same_within_ticks right_machine k h times ws ρ ≡ true
within-ticks k h times ws ρ W =
    all-below (suc times) _ (λ i l.
    let w = W i (omega arith) in
    let same = same_ticks i ws k h in
    same-lanes _ w.0 (subst (λ (r : Ticked). LanesAre r.words w.0) (sym same) w.2)
    (ap (λ (r : Ticked). feed_ticks ρ k i r.answer) same ∙ w.1))

within-dispatches : (h times : ℕ) (ws : List ℕ) (ρ : Row)
    → WithinDispatches h times ws ρ
    → same_within_dispatches right_machine h times ws ρ ≡ true
within-dispatches h times ws ρ W =
    all-below (suc times) _ (λ i l.
    let w = W i (omega arith) in
    let same = same-dispatches i ws h in
    same-lanes _ w.0 (subst (λ (r : DispatchedMany). LanesAre r.last.words w.0) (sym same) w.2)
    (ap (λ (r : DispatchedMany). feed_dispatches ρ i r.went_on r.last.answer) same ∙ w.1))

within_same : (a : Act) (ws : List ℕ) (ρ : Row) → Within (call_of a) ws ρ → same_within right_machine a ws ρ ≡ true
within_same (run_act list answers) ws ρ W =
    ap (λ (r : RunDone). same_within_list right_machine list ws ρ r) (same-run ws list answers)
    ∙ within-list list ws ρ (run ws list answers) W
within_same (panel_act list answers) ws ρ W =
    ap (λ (r : RunDone). same_within_list right_machine list ws ρ r) (same-panel ws list answers)
    ∙ within-list list ws ρ (panel ws list answers) W
within_same (ticks_act k h times) ws ρ W = within-ticks k h times ws ρ W
within_same (dispatches_act h times) ws ρ W = within-dispatches h times ws ρ W
within_same (start_act S T g lanes) ws ρ W = refl
within_same (begin_act k l op side argument) ws ρ W = refl
within_same (tick_act k h) ws ρ W = refl
within_same (dispatch_act h) ws ρ W = refl
within_same (read_act l out) ws ρ W = refl

explained-lane : (cs : List Call) (ws : List ℕ) (ρ : Row) → Explained cs ws ρ → LanesAre ws ρ
explained-lane [] ws ρ E = E
explained-lane (c ∷ cs) ws ρ E = E.0

-- What the row makes of one call.
row-judges : (number : ℕ) → (fed : Option Row) → (same : Row → Bool) → (others : Row → Verdict) → Verdict
row-judges n fed same others =
    elim fed as (λ _. Verdict) [
      | none ↦ not_the_row's_answer n
      | some ρ' ↦ elim (same ρ') as (λ _. Verdict) [ true ↦ others ρ' | false ↦ lane_is_not_the_row n ]
    ]

row-passes : (n : ℕ) (fed : Option Row) (same : Row → Bool) (others : Row → Verdict) (ρ' : Row)
    → fed ≡ some ρ'
    → same ρ' ≡ true
    → others ρ' ≡ passes
    → row-judges n fed same others ≡ passes
unfolding row-judges
row-passes n fed same others ρ' f s on = rw f (rw (s, row-judges) on)

explained-passes : (bs : List Act) (n : ℕ) (ws : List ℕ) (ρ : Row)
    → Explained (map call_of bs) ws ρ → by_row right_machine (made_by right_machine bs ws) n ρ ≡ passes
unfolding by_row made_by row-judges
explained-passes [] n ws ρ E = refl
explained-passes (a ∷ bs) n ws ρ E =
    let F = E.2 in
    let fed : feed ρ (call_of a) (given_by right_machine a ws) ≡ some F.0 =
    ap (λ (r : Given (call_of a)). feed ρ (call_of a) r) (right-gives a ws) ∙ F.1 in
    let vs = after_by right_machine a ws in
    let others : Explained (map call_of bs) vs F.0 =
    subst (λ (us : List ℕ). Explained (map call_of bs) us F.0) (sym (right-leaves a ws)) F.2 in
    row-passes n (feed ρ (call_of a) (given_by right_machine a ws))
    (λ ρ'. same_within right_machine a ws ρ && same_lanes vs (some ρ'))
    (λ ρ'. by_row right_machine (made_by right_machine bs vs) (suc n) ρ')
    F.0 fed
    (rw (within_same a ws ρ E.1) (same-lanes vs F.0 (explained-lane (map call_of bs) vs F.0 others) refl))
    (explained-passes bs (suc n) vs F.0 others)

pub right-passes-row : (S T g lanes : ℕ) (old : List ℕ) → (start old S T g lanes).reply ≡ Accepted → (bs : List Act)
    → by_row right_machine (made_by right_machine bs (start old S T g lanes).words) 1 (empty_row T lanes) ≡ passes
right-passes-row S T g lanes old accepted bs =
    explained-passes bs 1 _ (empty_row T lanes) (demand3 S T g lanes old accepted (map call_of bs))

-- ---- By the definitions, on any table.
same-reading : (r : Reading) → same_reading r r ≡ true
same-reading (Count n) = eq-eqb n n refl
same-reading (Refused n) = eq-eqb n n refl

same-ran : (r : Ran) (l : List ℕ) → same_ran r r && same_words l l ≡ true
same-ran r l = rw (eq-eqb r.made r.made refl, eq-eqb r.refusal r.refusal refl) (same-words-refl l)

same_turn : (d : Dispatch) → same_dispatch d d ≡ true
same_turn d =
    rw (eq-eqb (dispatch_kind_of d) (dispatch_kind_of d) refl)
    (eq-eqb (dispatch_payload_of d) (dispatch_payload_of d) refl)

same-given : (a : Act) (r : Given (call_of a)) → same_given a r r ≡ true
same-given (start_act S T g lanes) r = eq-eqb (reply_number r) (reply_number r) refl
same-given (begin_act k l op side argument) r = eq-eqb (reply_number r) (reply_number r) refl
same-given (tick_act k h) r = rw (eq-eqb (kind_of r) (kind_of r) refl) (eq-eqb (payload_of r) (payload_of r) refl)
same-given (ticks_act k h times) r = rw (eq-eqb (kind_of r) (kind_of r) refl) (eq-eqb (payload_of r) (payload_of r) refl)
same-given (dispatch_act h) r = same_turn r
same-given (dispatches_act h times) r = rw (same_turn r.0) (eq-eqb r.1 r.1 refl)
same-given (run_act list answers) r = same-ran r.0 r.1
same-given (panel_act list answers) r = same-ran r.0 r.1
same-given (read_act l out) r = rw (same-reading r.0) (same-words-refl r.1)

-- What the definitions make of one call.
definitions-judge : (number : ℕ) → (gives leaves : Bool) → (others : Verdict) → Verdict
definitions-judge n gives leaves others =
    elim gives as (λ _. Verdict) [
      | false ↦ other_answer n
      | true ↦ elim leaves as (λ _. Verdict) [ true ↦ others | false ↦ other_table n ]
    ]

definitions-pass : (n : ℕ) (gives leaves : Bool) (others : Verdict)
    → gives ≡ true
    → leaves ≡ true
    → others ≡ passes
    → definitions-judge n gives leaves others ≡ passes
unfolding definitions-judge
definitions-pass n gives leaves others g l on = rw (g, l) on

pub right-passes-definitions : (bs : List Act) (n : ℕ) (ws : List ℕ)
    → by_definitions (made_by right_machine bs ws) n ≡ passes
unfolding by_definitions made_by definitions-judge
right-passes-definitions [] n ws = refl
right-passes-definitions (a ∷ bs) n ws =
    let gives : same_given a (given_by right_machine a ws) (given (call_of a) ws) ≡ true =
    rw (right-gives a ws) (same-given a (given (call_of a) ws)) in
    let leaves : same_words (after_by right_machine a ws) (after (call_of a) ws) ≡ true =
    rw (right-leaves a ws) (same-words-refl (after (call_of a) ws)) in
    definitions-pass n _ _ _ gives leaves (right-passes-definitions bs (suc n) (after_by right_machine a ws))
