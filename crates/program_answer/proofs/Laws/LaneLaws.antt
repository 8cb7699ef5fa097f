-- A read into places enough for the bags of any table: what is printed is the lane.
use mathlib.Core.Path.{◌≡◌, refl, sym, ap, subst}
use mathlib.Core.Bool.{Bool, true, false}
use mathlib.Core.List.{List, [], ◌∷◌}
use mathlib.Core.Option.{Option, some, none, map}
use Prim.Native.Nat.{ℕ, zero, suc, ◌*◌, ◌≤◌}
use native.Mathlib.Omega.{arith}
use lib.Dec.{ltb}
use lib.ListN.{length, length-append, drop}
use borrow.Author.Tests.{le-leb}
use Rattle.tag.proofs.TagLaws.{length-tag-words, tags-in-words}
use Rattle.machine.specs.Choice.{◌≟◌}
use Rattle.machine.specs.Sides.{left, right}
use Rattle.machine.specs.Values.{Value, never, bag, N, X, Y}
use Rattle.machine.specs.Tasks.{no_node}
use Rattle.machine.specs.Table.{node_count, lane_count, hat, link, value}
use Rattle.machine.specs.Calls.{unless, lane_refusal, lane_from, lane, ReadDone, read_into, read}
use Rattle.machine.specs.Results.{reading_in, read_of}
use Rattle.machine.specs.Shape.{length_ok, shape_ok}
use Rattle.machine.proofs.Basics.Choices.{by-if}
use Rattle.machine.proofs.Basics.Contradiction.{clash}
use Rattle.std.proofs.Common.{Result}
use Rattle.machine.specs.declared.refusal.Refusal.{Refusal}
use Rattle.table_shape.proofs.Laws.PassedTable.{table-passed, few-nodes}
use Rattle.program_print.specs.Lines.{lane_text}
use Rattle.program_print.specs.Outcomes.{reading_text, reading_count}
use Rattle.program_answer.specs.Forms.{the_lane, row_text, lane_command}
use Rattle.program_answer.specs.Space.{most_bags, answered_of}

-- ---- A lane has no more bags than the table has nodes.
abbrev counted_in : Option (List ℕ) → ℕ
counted_in none = 0
counted_in (some bags) = length bags

-- The bags from a node on that holds v, by those after it.
abbrev from-node : Value → Option (List ℕ) → Option (List ℕ)
from-node v rest =
    elim v as (λ _. Option (List ℕ)) [
      | never ↦ some []
      | bag b ↦ map (◌∷◌ b) rest
      | N z ↦ some []
      | X z ↦ some []
      | Y z ↦ some []
    ]

lane-from-short : (ws : List ℕ) (n x : ℕ) → counted_in (lane_from ws n x) ≤ n
unfolding lane_from
lane-from-short ws zero x = omega arith
lane-from-short ws (suc n) x =
    by-if (λ (l : Option (List ℕ)). counted_in l ≤ suc n) (x ≟ no_node) (λ _. omega arith)
    (λ _. at-node (value ws x) (lane_from ws n (link ws right x)) (lane-from-short ws n (link ws right x)))
  where
    at-node : (v : Value) (rest : Option (List ℕ)) → counted_in rest ≤ n → counted_in (from-node v rest) ≤ suc n
    at-node never rest h = omega arith
    at-node (bag b) none h = omega arith
    at-node (bag b) (some bags) h = omega arith
    at-node (N z) rest h = omega arith
    at-node (X z) rest h = omega arith
    at-node (Y z) rest h = omega arith

-- A table whose lane is not refused is not refused itself.
table-passes :
    (a b c : Bool)
    → unless a 3 (unless b 4 (unless c 26 none)) ≡ none
    → none ≡ unless a 3 (unless b 4 none)
table-passes true true c h = refl
table-passes true false c h = clash (cc)
table-passes false b c h = clash (cc)

lane-short : (ws : List ℕ) (l : ℕ) → lane_refusal ws l none ≡ none → counted_in (lane ws l) ≤ most_bags
unfolding lane
lane-short ws l e =
    let passes = table-passes (length_ok ws) (shape_ok ws) (ltb l (lane_count ws)) e in
    let few : node_count ws ≤ most_bags = few-nodes ws (table-passed ws passes) in
    omega (arith, lane-from-short ws (node_count ws) (link ws right (hat ws l left)), few)

-- ---- The read.
abbrev Prints : List ℕ → ReadDone → Type 0
Prints text d = (reading_text d.reading d.out ≡ text) × (2 * reading_count d.reading ≤ length d.out)

module _ (out : List ℕ) (places : length out ≡ 2 * most_bags) where
  row-prints : (row : Option (List ℕ)) → counted_in row ≤ most_bags → Prints (row_text row) (read_into row out)
  unfolding read_into
  row-prints none h = (refl, omega arith)
  row-prints (some bags) h =
      rw (le-leb (2 * length bags) (length out) (omega arith), read_into) (
        ap lane_text (tags-in-words bags (drop (2 * length bags) out)),
        simp length-append (omega (arith, length-tag-words bags)),
      )

  read-prints : (ws : List ℕ) → Prints (lane_command ws).text (read ws the_lane out)
  unfolding read lane_command
  read-prints ws = go (lane_refusal ws the_lane none) refl
    where
      go : (o : Option ℕ) → lane_refusal ws the_lane none ≡ o → Prints (lane_command ws).text (read ws the_lane out)
      go (some n) e = rw (e, read, lane_command) (refl, omega arith)
      go none e = rw (e, read, lane_command) (row-prints (lane ws the_lane) (lane-short ws the_lane e))

  pub lane_done : (ws : List ℕ) (r : Result ℕ Refusal) {ys : List ℕ} → read_of r ys ≡ read ws the_lane out
      → (answered_of (reading_text (reading_in r) ys) ws ≡ lane_command ws)
      × (2 * reading_count (reading_in r) ≤ length ys)
  unfolding lane_command
  lane_done ws r {ys} e =
      let prints = subst (Prints (lane_command ws).text) (sym e) (read-prints ws) in
      (ap (λ (text : List ℕ). answered_of text ws) prints.0, prints.1)
