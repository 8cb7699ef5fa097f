-- The invariant at the start: two nodes in main of each lane, empty rows, every task fresh.
use mathlib.Core.Path.{◌≡◌, refl, ap, sym, subst, ◌∙◌}
use mathlib.Core.Logic.{◌≢◌, inl}
use mathlib.Core.List.{[]}
use Prim.Native.Nat.{ℕ, ◌+◌, ◌*◌, ◌-◌, ◌/◌, ◌%◌, ◌≤◌, ◌<◌}
use native.Mathlib.Omega.{arith}
use Rattle.machine.specs.Choice.{◌≟◌, ◌<?◌, if?◌then◌else◌}
use Rattle.machine.specs.Sides.{Side, left, right, side_number}
use Rattle.machine.specs.Values.{Value, never, X}
use Rattle.machine.specs.Tasks.{Task, fresh, no_node}
use Rattle.machine.specs.Table.{most_lanes}
use Rattle.machine.proofs.Basics.Contradiction.{Clash, clash, refute}
use Rattle.machine.proofs.Basics.Choices.{if_yes, if_no}
use Rattle.machine.proofs.Words.StartLaws.{start_view}
use Rattle.machine.proofs.Linearizability.Model.Sides.{sides}
use Rattle.machine.proofs.Linearizability.Model.Classes.{Class, free, main, spur, new}
use Rattle.machine.proofs.Linearizability.Model.Structure.{Frame, MainValues, Linked, Spur, Structure}
use Rattle.machine.proofs.Linearizability.Model.Segments.{segment-empty}
use Rattle.machine.proofs.Linearizability.Model.Invariant.{TaskOkIn, Invariant}
use Rattle.machine.proofs.Linearizability.Lines.LineEnds.{fresh_ok}

-- The nodes of the first L pairs are in main, each of the lane of its pair.
pub start_class : (L : ℕ) → ℕ → Class
start_class L x = if? x <? 2 * L then main (x / 2) else free

module _ (L : ℕ) where
  in_pair : (x : ℕ) → x < 2 * L → start_class L x ≡ main (x / 2)
  unfolding start_class
  in_pair x h = if_yes (x <? 2 * L) (main (x / 2)) free h

  past_pairs : (x : ℕ) → ¬ (x < 2 * L) → start_class L x ≡ free
  unfolding start_class
  past_pairs x h = if_no (x <? 2 * L) (main (x / 2)) free h

  start-main : (l i : ℕ) → l < L → i ≤ 1 → start_class L (2 * l + i) ≡ main l
  start-main l i h k =
      let e : (2 * l + i) / 2 ≡ l = omega arith in
      in_pair (2 * l + i) (omega arith) ∙ ap main e

  main-in-pair : (x l : ℕ) → start_class L x ≡ main l → (x < 2 * L) × (x / 2 ≡ l)
  main-in-pair x l h =
      elim (x <? 2 * L) [ yes q ↦ (q, cc (in_pair x q)) | no q ↦ clash (cc (past_pairs x q)) ]

  no-spur : (x : ℕ) (z : Side) → start_class L x ≡ spur z → Clash
  no-spur x z h = elim (x <? 2 * L) [ yes q ↦ cc (in_pair x q) | no q ↦ cc (past_pairs x q) ]

  no-new : (x k : ℕ) → start_class L x ≢ new k
  no-new x k h = elim (x <? 2 * L) [ yes q ↦ refute (cc (in_pair x q)) | no q ↦ refute (cc (past_pairs x q)) ]

  start-spur : (z : Side) {out inn : ℕ → ℕ} {val : ℕ → Value} → Spur z out inn val (start_class L)
  start-spur z =
      record {
        own-mark = λ x h. clash (no-spur x z h);
        inward-old = λ x h. clash (no-spur x z h);
        outward-spur = λ x h. clash (no-spur x z h);
      }

-- Main of lane l is the nodes 2l and 2l + 1, without a bag.
abbrev start_frame : (l : ℕ) → Frame
start_frame l = record { at = λ i. 2 * l + i; index = λ x. x - 2 * l; n = 1; a = 0; b = 1; bags = λ _. 0 }

-- ---- What a start writes, seen from the right.
module _ (L l : ℕ) (is_lane : l < L) (few : L ≤ most_lanes) where
  -- The left node of the pair, and the right one.
  left-even : (2 * l + 0) % 2 ≡ 0
  left-even = omega arith

  right-odd : (2 * l + 1) % 2 ≢ 0
  right-odd e = omega arith

  out_first : (start_view L).out (2 * l + 0) ≡ 2 * l + 1
  out_first =
      if_yes (2 * l + 0 <? 2 * L) _ no_node (omega arith)
      ∙ if_yes ((2 * l + 0) % 2 ≟ 0) (2 * l + 0 + 1) no_node left-even
      ∙ omega arith

  out-second : (start_view L).out (2 * l + 1) ≡ no_node
  out-second =
      if_yes (2 * l + 1 <? 2 * L) _ no_node (omega arith)
      ∙ if_no ((2 * l + 1) % 2 ≟ 0) (2 * l + 1 + 1) no_node right-odd

  inn-first : (start_view L).inn (2 * l + 0) ≡ no_node
  inn-first =
      if_yes (2 * l + 0 <? 2 * L) _ no_node (omega arith)
      ∙ if_yes ((2 * l + 0) % 2 ≟ 0) no_node (2 * l + 0 - 1) left-even

  inn-second : (start_view L).inn (2 * l + 1) ≡ 2 * l + 0
  inn-second =
      if_yes (2 * l + 1 <? 2 * L) _ no_node (omega arith)
      ∙ if_no ((2 * l + 1) % 2 ≟ 0) no_node (2 * l + 1 - 1) right-odd
      ∙ omega arith

  val-first : (start_view L).val (2 * l + 0) ≡ X left
  val-first =
      if_yes (2 * l + 0 <? 2 * L) _ never (omega arith)
      ∙ if_yes ((2 * l + 0) % 2 ≟ 0) (X left) (X right) left-even

  val-second : (start_view L).val (2 * l + 1) ≡ X right
  val-second =
      if_yes (2 * l + 1 <? 2 * L) _ never (omega arith)
      ∙ if_no ((2 * l + 1) % 2 ≟ 0) (X left) (X right) right-odd

  hat-at : (s : Side) → (start_view L).hats l s ≡ 2 * l + side_number s
  hat-at s = if_yes (l <? L) (2 * l + side_number s) no_node is_lane

  start-links : Linked (start_view L).out (start_view L).inn (start_frame l).at 1
  start-links =
      record {
        links-out = λ i h. let e : i ≡ 0 = omega arith in rw e out_first;
        links-in = λ i h. let e : i ≡ 0 = omega arith in rw e inn-second;
      }

  start-values : MainValues right left (start_view L).val (start_frame l)
  start-values =
      record {
        X-first = val-first;
        N-far = λ i h q. absurd (omega arith);
        bag-between = λ i h q. absurd (omega arith);
        N-near = λ i h q. absurd (omega arith);
        X-last = val-second;
      }

  start-structure : Structure l right left (start_view L) (start_class L) (start_frame l)
  start-structure =
      record {
        sides = sides right;
        none_free = past_pairs L no_node (λ h. omega arith);
        a<b = omega arith;
        b≤n = omega arith;
        main_list =
            record {
              is-main = λ i h. start-main L l i is_lane h;
              index_at = λ i h. omega arith;
              index-le = λ x h. let p = (main-in-pair L x l h).1 in omega arith;
              at-index = λ x h. let p = (main-in-pair L x l h).1 in omega arith;
            };
        values = start-values;
        links = start-links;
        last_out = inl out-second;
        first-in = inl inn-first;
        near-hat = λ j e. inl (hat-at right);
        far-hat = inl (hat-at left);
        near-spur = start-spur L right;
        far_spur = start-spur L left;
      }

pub invariant-start : {L : ℕ} {ts : ℕ → Task}
    → 1 ≤ L
    → L ≤ most_lanes
    → ((j : ℕ) → ts j ≡ fresh)
    → Invariant L (start_view L) ts (start_class L) (λ l. [])
invariant-start {L} some few fresh-tasks =
    record {
      lanes =
          record {
            lane =
                λ l h.
                record {
                  frame = start_frame l;
                  structure = start-structure L l h few;
                  row_is = segment-empty (λ _. 0) 1 0 refl;
                };
            below = λ x l c. let p = main-in-pair L x l c in let q = p.0 in let e = p.1 in omega arith;
          };
      own_lane = λ j. rw (fresh-tasks j) some;
      task-ok =
          λ j. subst (λ (t : Task). TaskOkIn j (start_view L) (start_class L) t) (sym (fresh-tasks j))
          (fresh_ok (λ x. no-new L x j));
    }
