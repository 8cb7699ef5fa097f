-- The lanes after a call that got all the ticks: its answer moves its own lane's row, by demand 3, and no other.
use mathlib.Core.Path.{◌≡◌, refl, sym, ap, ◌∙◌, subst}
use mathlib.Core.Logic.{◌≢◌}
use mathlib.Core.Bool.{true, false}
use mathlib.Core.List.{List, [], ◌∷◌, reverse-append, reverse-reverse}
use mathlib.Core.Option.{Option, some, none, bind, map}
use Prim.Native.Nat.{ℕ, zero, suc, ◌<◌}
use native.Mathlib.Omega.{arith}
use lib.ListN.{length, length-append}
use Rattle.machine.specs.Choice.{◌≟◌, if?◌then◌else◌}
use Rattle.machine.specs.Outcomes.Answer.{Answer, Going, Pushed, Bag, Empty, Full, Yes, No, Refused}
use Rattle.machine.specs.Outcomes.Reply.{Reply, Accepted}
use Rattle.machine.specs.declared.Stored.{Stored}
use Rattle.machine.specs.Sides.{Side, left, right, side_number}
use Rattle.machine.specs.Values.{stored}
use Rattle.machine.specs.Operations.{Operation, operation_number}
use Rattle.machine.specs.Table.{lane_count, task}
use Rattle.machine.specs.Answers.{refusal_of, is_going, ends_call}
use Rattle.machine.specs.Calls.{begin, Ticked, tick_on, tick, lane, lanes_below}
use Rattle.machine.specs.Row.{Note, Row, noted, with_bags, put, take_bag, answered, feed_made}
use Rattle.machine.specs.Demand3.{tick_call, is_call, feed_begin}
use Rattle.machine.specs.Begun.{Begun, by_call}
use Rattle.machine.specs.Twice.{rows_below}
use Rattle.machine_capacity.specs.NoLeak.{Idle, IdleTable}
use Rattle.machine_capacity.specs.Capacity.{AloneTo, ends_now, ends-later}
use Rattle.machine_capacity.specs.Alone.{CallOutcome, from_end, LeavesIdle}
use Rattle.machine.proofs.Basics.Contradiction.{clash}
use Rattle.machine.proofs.Basics.Choices.{if_yes, if_no}
use Rattle.machine.proofs.Linearizability.Calls.Agreement.{Agrees, note_under, note_in, lanes-are-rows}
use Rattle.machine.proofs.Linearizability.Calls.MadeTicks.{MadeTick, made-tick}
use Rattle.machine.proofs.Linearizability.Calls.CallsAgree.{begin-explained}
use Rattle.machine.proofs.Linearizability.Corollaries.{begun-agrees, tick-passes, made-passes}
use Rattle.machine.proofs.Linearizability.Calls.RowDid.{same_if}
use Rattle.machine.proofs.Linearizability.Histories.{bag-taken}
use Rattle.machine.proofs.Linearizability.Begun.TableAfter.{lanes-after}
use Rattle.machine.proofs.Linearizability.Begun.TableBegun.{accepted-begin}
use Rattle.machine_capacity.proofs.Alone.Runs.{ends-made, begun-table, begun-at}
use Rattle.machine_capacity.proofs.Alone.Left.{same_some, Left, leaves-idle}

-- A lane there is its row.
row_of : {ws : List ℕ} {ρ : Row} → Agrees ws ρ → (ℓ : ℕ) → ℓ < lane_count ws → lane ws ℓ ≡ some (ρ.bags ℓ)
row_of A ℓ h = lanes-are-rows A ℓ (subst (λ (n : ℕ). ℓ < n) (sym A.same-lanes) h)

-- All lanes, one after another.
pub lanes-below : (ws : List ℕ) (f : ℕ → List ℕ) (n : ℕ) → ((l : ℕ) → l < n → lane ws l ≡ some (f l))
    → lanes_below ws n ≡ some (rows_below f n)
unfolding lanes_below rows_below bind
lanes-below ws f zero are = refl
lanes-below ws f (suc n) are = rw (lanes-below ws f n (λ l h. are l (omega arith)), are n (omega arith))

-- ---- On the way.

-- A begin leaves the lane.
lane-begun : {ws : List ℕ} → Begun ws → (ℓ : ℕ) → ℓ < lane_count ws → (k l op side : ℕ) (argument : Stored)
    → (begin ws k l op side argument).reply ≡ Accepted
    → lane (begin ws k l op side argument).words ℓ ≡ lane ws ℓ
lane-begun {ws} B ℓ is_lane k l op side argument accepted =
    let A = (begun-agrees B).1 in
    let ρ = (begun-agrees B).0 in
    let E = begin-explained A k l op side argument in
    let fed = subst (λ (r : Reply). feed_begin ρ k l op side argument r ≡ some E.row) accepted E.given-by-row in
    let T = accepted-begin A k l op side argument accepted in
    let there : ℓ < lane_count (begin ws k l op side argument).words =
    subst (λ (j : ℕ). ℓ < j) (sym T.same-lanes) is_lane in
    row_of E.agrees ℓ there
    ∙ ap (λ (x : Row). some (x.bags ℓ)) (sym (same_if (is_call ρ k l op side argument) fed).1)
    ∙ sym (row_of A ℓ is_lane)

-- A tick that goes on leaves it.
fed-going : (ρ : Row) (k : ℕ) {ρ' : Row} → feed_made ρ k Going ≡ some ρ' → ρ ≡ ρ'
unfolding feed_made bind
fed-going ρ k {ρ'} = go (ρ.notes k)
  where
    go : (n : Option Note) → bind n (λ _. some ρ) ≡ some ρ' → ρ ≡ ρ'
    go (some n) e = same_some e
    go none e = clash (cc)

module _ {ws : List ℕ} (B : Begun ws) (k h : ℕ) (made : refusal_of (tick ws k h).answer ≡ none) where
  is_tick : tick ws k h ≡ tick_on ws k h
  is_tick = tick-passes (begun-agrees B).1 k h

  tick-made : MadeTick ws (begun-agrees B).0 k h
  tick-made = made-tick (begun-agrees B).1 k h (made-passes B k h made)

  fed : feed_made (begun-agrees B).0 k (tick ws k h).answer ≡ some tick-made.row
  fed = ap (λ (r : Ticked). feed_made (begun-agrees B).0 k r.answer) is_tick ∙ tick-made.given

  lane-then : (ℓ : ℕ) → ℓ < lane_count ws → lane (tick ws k h).words ℓ ≡ some (tick-made.row.bags ℓ)
  lane-then ℓ is_lane =
      let same = lanes-after (begun-agrees B).1 k h (made-passes B k h made) in
      ap (λ (r : Ticked). lane r.words ℓ) is_tick
      ∙ row_of tick-made.agrees ℓ (subst (λ (n : ℕ). ℓ < n) (sym same) is_lane)

lane-going : {ws : List ℕ} → Begun ws → (ℓ : ℕ) → ℓ < lane_count ws → (k h : ℕ) → (tick ws k h).answer ≡ Going
    → lane (tick ws k h).words ℓ ≡ lane ws ℓ
lane-going {ws} B ℓ is_lane k h going =
    let made = ap refusal_of going in
    let ρ = (begun-agrees B).0 in
    let is-fed = subst (λ (a : Answer). feed_made ρ k a ≡ some (tick-made B k h made).row) going (fed B k h made) in
    let same = fed-going ρ k is-fed in
    lane-then B k h made ℓ is_lane
    ∙ ap (λ (x : Row). some (x.bags ℓ)) (sym same)
    ∙ sym (row_of (begun-agrees B).1 ℓ is_lane)

pub ends-not-going : (a : Answer) → ends_call a ≡ true → is_going a ≡ false
ends-not-going Going e = clash (cc)
ends-not-going Pushed e = refl
ends-not-going (Bag b) e = refl
ends-not-going Empty e = refl
ends-not-going Full e = refl
ends-not-going Yes e = refl
ends-not-going No e = refl
ends-not-going (Refused n) e = clash (cc)

-- The rows after an answer.
pub record RowsThen (n : Note) (L : ℕ) (r : ℕ → List ℕ) (a : Answer) (vs : List ℕ) : Type 0 where
  pub bags : List ℕ
  pub given : answered n a (r n.lane) ≡ some bags
  pub own : lane vs n.lane ≡ some bags
  pub others : (j : ℕ) → j < L → j ≢ n.lane → lane vs j ≡ some (r j)

fed-answer : (ρ : Row) (k : ℕ) {ρ' : Row} (n : Note) → ρ.notes k ≡ some n → (a : Answer) → is_going a ≡ false
    → feed_made ρ k a ≡ some ρ'
    → (bags : List ℕ)
    × (answered n a (ρ.bags n.lane) ≡ some bags)
    × (noted (with_bags ρ n.lane bags) k none ≡ ρ')
unfolding feed_made bind
fed-answer ρ k {ρ'} n is-noted a ends f = go (answered n a (ρ.bags n.lane)) refl (rw (is-noted, ends) at f)
  where
    go : (o : Option (List ℕ)) → answered n a (ρ.bags n.lane) ≡ o
        → map (λ bags. noted (with_bags ρ n.lane bags) k none) o ≡ some ρ'
        → (bags : List ℕ)
        × (answered n a (ρ.bags n.lane) ≡ some bags)
        × (noted (with_bags ρ n.lane bags) k none ≡ ρ')
    go (some bags) q e = (bags, q, same_some e)
    go none q e = clash (cc)

module _ (k : ℕ) (n : Note) where
  rows-alone : {a : Answer} {vs ws : List ℕ} (r : ℕ → List ℕ) → Begun ws → note_in (task ws k) ≡ some n
      → n.lane < lane_count ws
      → ((j : ℕ) → j < lane_count ws → lane ws j ≡ some (r j))
      → AloneTo k a vs ws
      → RowsThen n (lane_count ws) r a vs
  rows-alone {a} {vs} {ws} r B is-noted is_lane lanes (ends_now h is-end is-a leaves) =
      let ρ = (begun-agrees B).0 in
      let A = (begun-agrees B).1 in
      let made = ap refusal_of is-a ∙ ends-made a is-end in
      let F = fed-answer ρ k n (A.notes k ∙ is-noted) a (ends-not-going a is-end)
      (subst (λ (x : Answer). feed_made ρ k x ≡ some (tick-made B k h made).row) is-a (fed B k h made)) in
      let row_is : (j : ℕ) → j < lane_count ws → ρ.bags j ≡ r j = λ j l. same_some (sym (row_of A j l) ∙ lanes j l) in
      let lane-now : (j : ℕ) → j < lane_count ws → lane vs j ≡ some (if? j ≟ n.lane then F.0 else ρ.bags j) =
      λ j l.
      ap (λ (us : List ℕ). lane us j) (sym leaves)
      ∙ lane-then B k h made j l
      ∙ ap (λ (x : Row). some (x.bags j)) (sym F.2) in
      record {
        bags = F.0;
        given = subst (λ (l : List ℕ). answered n a l ≡ some F.0) (row_is n.lane is_lane) F.1;
        own = lane-now n.lane is_lane ∙ ap some (if_yes (n.lane ≟ n.lane) F.0 (ρ.bags n.lane) refl);
        others =
            λ j l ne.
            lane-now j l ∙ ap some (if_no (j ≟ n.lane) F.0 (ρ.bags j) ne ∙ row_is j l);
      }
  rows-alone {a} {vs} {ws} r B is-noted is_lane lanes (ends-later h is-going more) =
      let ρ = (begun-agrees B).0 in
      let A = (begun-agrees B).1 in
      let made = ap refusal_of is-going in
      let M = tick-made B k h made in
      let same_row : ρ ≡ M.row =
      fed-going ρ k (subst (λ (x : Answer). feed_made ρ k x ≡ some M.row) is-going (fed B k h made)) in
      let us = (tick ws k h).words in
      let words : us ≡ (tick_on ws k h).words = ap (λ (x : Ticked). x.words) (is_tick B k h made) in
      let same : lane_count us ≡ lane_count ws =
      ap lane_count words ∙ lanes-after A k h (made-passes B k h made) in
      let note-then : note_in (task us k) ≡ some n =
      ap (λ (x : List ℕ). note_in (task x k)) words
      ∙ sym (M.agrees.notes k)
      ∙ ap (λ (x : Row). x.notes k) (sym same_row)
      ∙ A.notes k
      ∙ is-noted in
      subst (λ (L : ℕ). RowsThen n L r a vs) same
      (rows-alone r (by_call B (tick_call k h)) note-then (subst (λ (L : ℕ). n.lane < L) (sym same) is_lane)
      (λ j l.
      let l' = subst (λ (L : ℕ). j < L) same l in
      lane-going B j l' k h is-going ∙ lanes j l')
      more)

-- ---- What the row says of each answer.
pub length-put : (s : Side) (b : ℕ) (bags : List ℕ) → length (put s b bags) ≡ suc (length bags)
length-put left b bags = refl
length-put right b bags = let e = length-append bags (b ∷ []) in omega arith

pub put_from_end : (s : Side) (b : ℕ) (rest : List ℕ) → from_end s (put s b rest) ≡ b ∷ from_end s rest
put_from_end left b rest = refl
put_from_end right b rest = reverse-append rest (b ∷ [])

-- A pop's bag is the one at its end.
pub pop-takes : (s : Side) (b : ℕ) (bags rest : List ℕ) → take_bag s b bags ≡ some rest
    → from_end s bags ≡ b ∷ from_end s rest
pop-takes s b bags rest e = ap (from_end s) (bag-taken s b bags rest e) ∙ put_from_end s b rest

pub from-end-back : (s : Side) (l : List ℕ) → from_end s (from_end s l) ≡ l
from-end-back left l = refl
from-end-back right l = reverse-reverse l

-- ---- A call alone, as a whole.
module _ {ws vs : List ℕ} (B : Begun ws) (idle_now : Idle ws) (T : IdleTable ws) (k ℓ : ℕ) (op : Operation) (s : Side)
    (v : ℕ) (a : Answer) (accepted : (begin ws k ℓ (operation_number op) (side_number s) (stored v)).reply ≡ Accepted)
    (alone-to : AloneTo k a vs (begin ws k ℓ (operation_number op) (side_number s) (stored v)).words) where
  pub is_lane : ℓ < lane_count ws
  is_lane = (begun-table B idle_now k ℓ op s v accepted).is_lane

  abbrev pub note : Note
  note = record { lane = ℓ; operation = op; side = s; argument = v }

  pub call_rows : note_under op note ≡ some note → RowsThen note (lane_count ws) (λ j. (T.shape j).bags) a vs
  call_rows busy =
      let P = begun-at B idle_now k ℓ op s v accepted in
      let same = (begun-table B idle_now k ℓ op s v accepted).same-lanes in
      subst (λ (L : ℕ). RowsThen note L (λ j. (T.shape j).bags) a vs) same
      (rows-alone k note (λ j. (T.shape j).bags) P.begun (ap note_in P.own ∙ busy)
      (subst (λ (L : ℕ). ℓ < L) (sym same) is_lane)
      (λ j l.
      let l' = subst (λ (L : ℕ). j < L) same l in
      lane-begun B j l' k ℓ (operation_number op) (side_number s) (stored v) accepted ∙ (T.idle_lane j l').lane_is)
      alone-to)

  -- It comes to an outcome: its answer, the numbers that it leaves at its end, and the bags that the row then has.
  abbrev pub ComesTo : CallOutcome → Type 0
  ComesTo o = (a ≡ o.answer) × LeavesIdle ws vs T ℓ s o

  pub comes-to : (o : CallOutcome) → note_under op note ≡ some note → a ≡ o.answer
      → Left ws T ℓ s o.spare o.spur vs
      → answered note o.answer (T.shape ℓ).bags ≡ some o.bags
      → ComesTo o
  comes-to o busy is-a K row_says =
      let R = call_rows busy in
      let given = subst (λ (x : Answer). answered note x (T.shape ℓ).bags ≡ some R.bags) is-a R.given in
      (is-a, leaves-idle T ℓ is_lane s o K (R.own ∙ sym given ∙ row_says) R.others)
