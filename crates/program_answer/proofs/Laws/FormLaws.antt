-- The forms by what the calls promise.
use mathlib.Core.Path.{◌≡◌, refl, sym, ap, ◌∙◌}
use mathlib.Core.Bool.{Bool, true, false}
use mathlib.Core.List.{List}
use mathlib.Core.Option.{Option, some, none}
use Prim.Native.Nat.{ℕ, ◌≤◌, ◌<◌}
use native.Mathlib.Omega.{arith}
use lib.ListN.{length, replicate, length-replicate}
use Rattle.machine.specs.Values.{stored_of}
use Rattle.std.proofs.Common.{Result, Err}
use Rattle.machine.specs.declared.answer.Answer.{Answer}
use Rattle.machine.specs.declared.refusal.Refusal.{Refusal}
use Rattle.machine.specs.Outcomes.Reply.{Reply, Accepted, Refused}
use Rattle.machine.specs.Table.{table_length}
use Rattle.machine.specs.Shape.{sizes_ok}
use Rattle.machine.specs.Calls.{Changed, changed, start_refusal, start, start_words, begin, Ticked, ticks}
use Rattle.machine.proofs.Basics.Contradiction.{clash}
use Rattle.machine.specs.Results.{replied, answered, changed_of, ticked_of}
use Rattle.machine.proofs.Basics.Tests.{and_left, and_right}
use borrow.Author.Tests.{leb-true, eq-eqb}
use Rattle.program_print.specs.Lines.{reply_text, answer_text}
use Rattle.program_answer.specs.Forms.{
  Answered,
  lanes_started,
  the_lane,
  started_from,
  start_command,
  begin_command,
  tick_command,
}
use Rattle.program_answer.specs.Space.{largest_table, answered_of}

-- ---- start.
abbrev changes : Reply → List ℕ → Changed
changes r ws = record { reply = r; words = ws }

start-1 : (ws : List ℕ) (S T g : ℕ) → sizes_ok S T g lanes_started ≡ false
    → changes (Refused 1) ws ≡ start ws S T g lanes_started
unfolding start
start-1 ws S T g h = rw (h, start)

start-accepted : (ws : List ℕ) (S T g : ℕ) → sizes_ok S T g lanes_started ≡ true → length ws ≡ table_length S T
    → changes Accepted (start_words S T g lanes_started) ≡ start ws S T g lanes_started
unfolding start
start-accepted ws S T g sizes h = rw (sizes, eq-eqb (length ws) (table_length S T) h, start)

module _ (ws : List ℕ) (S T g : ℕ) where
  most_nodes : sizes_ok S T g lanes_started ≡ true → S ≤ 1024
  most_nodes sizes = leb-true S 1024 (search (and_left, and_right))

  most_tasks : sizes_ok S T g lanes_started ≡ true → T ≤ 16
  most_tasks sizes = leb-true T 16 (search (and_left, and_right))

  abbrev new : List ℕ
  new = replicate (table_length S T) 0

  abbrev from_start : Changed → Answered
  from_start d = answered_of (reply_text d.reply) (started_from ws d.reply d.words)

  out_of_range : sizes_ok S T g lanes_started ≡ false → answered_of (reply_text (Refused 1)) ws ≡ start_command ws S T g
  unfolding start_command
  out_of_range h = ap from_start (start-1 new S T g h)

  in-range :
      sizes_ok S T g lanes_started ≡ true
      → answered_of (reply_text Accepted) (start_words S T g lanes_started) ≡ start_command ws S T g
  unfolding start_command
  in-range h = ap from_start (start-accepted new S T g h (length-replicate (table_length S T) 0))

  -- A table that is larger than the largest has sizes out of range.
  pub too_large : largest_table < table_length S T → answered_of (reply_text (Refused 1)) ws ≡ start_command ws S T g
  too_large h = out_of_range (go (sizes_ok S T g lanes_started) refl)
    where
      go : (b : Bool) → sizes_ok S T g lanes_started ≡ b → b ≡ false
      go false e = refl
      go true e =
          absurd (omega (arith, most_nodes e, most_tasks e))

  module _ (part : List ℕ) (long : length part ≡ table_length S T) where
    -- Whatever words the part has.
    same_start : from_start (start part S T g lanes_started) ≡ start_command ws S T g
    same_start = go (sizes_ok S T g lanes_started) refl
      where
        go : (b : Bool) → sizes_ok S T g lanes_started ≡ b
            → from_start (start part S T g lanes_started) ≡ start_command ws S T g
        go true s = ap from_start (sym (start-accepted part S T g s long)) ∙ in-range s
        go false s = ap from_start (sym (start-1 part S T g s)) ∙ out_of_range s

    pub start-done : (r : Result (Unit {0}) Refusal) {ys : List ℕ} → changed_of r ys ≡ start part S T g lanes_started
        → answered_of (reply_text (replied r)) (started_from ws (replied r) ys) ≡ start_command ws S T g
    start-done r e = ap from_start e ∙ same_start

    -- A refused start leaves the part as it was.
    pub start-kept : (e : Refusal) {ys : List ℕ} → changed_of {T = Unit {0}} (Err e) ys ≡ start part S T g lanes_started
        → ys ≡ part
    unfolding start
    start-kept e {ys} said = go (start_refusal part S T g lanes_started) said
      where
        go : (o : Option ℕ) → changed_of {T = Unit {0}} (Err e) ys ≡ changed o part (start_words S T g lanes_started)
            → ys ≡ part
        go (some m) q = ap (λ (d : Changed). d.words) q
        go none q = clash (cc (ap (λ (d : Changed). d.reply) q))

-- ---- begin.
pub begin-done : (ws : List ℕ) (k op side digit low : ℕ) {ys : List ℕ} (r : Result (Unit {0}) Refusal)
    → changed_of r ys ≡ begin ws k the_lane op side (stored_of digit low)
    → answered_of (reply_text (replied r)) ys ≡ begin_command ws k op side digit low
unfolding begin_command
begin-done ws k op side digit low r e = ap (λ (d : Changed). answered_of (reply_text d.reply) d.words) e

-- ---- tick.
pub ticks-done : (times : ℕ) (ws : List ℕ) (k h : ℕ) {ys : List ℕ} (a : Result Answer Refusal)
    → ticked_of a ys ≡ ticks times ws k h
    → answered_of (answer_text (answered a)) ys ≡ tick_command times ws k h
unfolding tick_command
ticks-done times ws k h a e = ap (λ (d : Ticked). answered_of (answer_text d.answer) d.words) e
