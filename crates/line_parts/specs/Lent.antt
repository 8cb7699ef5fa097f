-- A line over what it is lent: the nodes' words and the hat of its lane and side, with the task record by value.
use Rattle.std.specs.Prelude.{◌≡◌, ◌≢◌, true, List, [], ◌∷◌, ℕ, ◌<◌, get_or, Result, Ok, Err}
use Rattle.machine.specs.declared.answer.Answer.{Answer as Made}
use Rattle.machine.specs.declared.answer.Answer.TheVariants as made
use Rattle.machine.specs.declared.refusal.Refusal.{Refusal}
use Rattle.machine.specs.declared.refusal.Refusal.TheVariants.{NoSlot}
use Rattle.machine.specs.Outcomes.Answer.{Answer, Refused}
use Rattle.machine.specs.Results.{said, refusal_number}
use Rattle.machine.specs.Choice.{◌≟◌, if?◌then◌else◌}
use Rattle.machine.specs.Sides.{Side, opposite, side_of}
use Rattle.machine.specs.Values.{Value, ◌≟ᵛ◌, decode, encode, value_ok}
use Rattle.machine.specs.Steps.{Step}
use Rattle.machine.specs.Tasks.{no_node}
use Rattle.machine.specs.Lines.{Memory, Write, out≔, inn≔, val≔, hat≔, Effect, act}
use Rattle.table_record.specs.declared.Task as Tasks
use Rattle.table_record.specs.Coded.{coded_task, fresh_task, task_meant, at_step, with_register}
use Rattle.table_layout.specs.Words.{HoldsNode, link_in, stored_in, set_link_in, set_stored_in}
use Rattle.line_parts.specs.declared.ends.Done.{Done}

-- ---- How a line ends, in code.
abbrev pub next_done : ℕ → Tasks.Task → (step : ℕ) → Done
next_done h t n = record { hat = h; task = at_step t n; answer = made.Going }

abbrev pub answer_done : ℕ → Made → Done
answer_done h a = record { hat = h; task = fresh_task; answer = a }

-- x is the node in register i; and the refusal where it is none.
pub record NodeIn (t : Tasks.Task) (i x : ℕ) : Type 0 where
  pub is : x ≡ get_or t.registers i 0
  pub through : get_or t.registers i 0 ≢ no_node

pub record NoNodeIn (t : Tasks.Task) (i : ℕ) (r : Refusal) : Type 0 where
  pub is : r ≡ NoSlot
  pub none : get_or t.registers i 0 ≡ no_node

-- ---- The shapes that several lines share.

-- Register j is set to the link on side z of the node in register i; none goes to step n, else to m.
abbrev pub follow_done :
    List ℕ → (hat : ℕ) → Tasks.Task → (z : Side) → (i j n m : ℕ) → Result Done Refusal
follow_done ns h t z i j n m =
    let x = get_or t.registers i 0 in
    let y = link_in ns z x in
    if? x ≟ no_node then Err NoSlot else Ok (next_done h (with_register t j y) (if? y ≟ no_node then n else m))

-- The value of A's node is the mark, which goes to step n, or not: to m.
abbrev pub mark_done : List ℕ → (hat : ℕ) → Tasks.Task → (mark : Value) → (n m : ℕ) → Result Done Refusal
mark_done ns h t v n m =
    let a = get_or t.registers 0 0 in
    if? a ≟ no_node then Err NoSlot else Ok (next_done h t (if? decode (stored_in ns a) ≟ᵛ v then n else m))

-- ---- The line that the definitions give.

-- What a task on side s sees.
abbrev pub memory_in : Side → List ℕ → (hat : ℕ) → Memory
memory_in s ns h =
    record { out = link_in ns s; inn = link_in ns (opposite s); val = λ x. decode (stored_in ns x); hat = h }

abbrev pub write_in : Side → Write → List ℕ → List ℕ
write_in s (out≔ x y) ns = set_link_in ns s x y
write_in s (inn≔ x y) ns = set_link_in ns (opposite s) x y
write_in s (val≔ x v) ns = set_stored_in ns x (encode v)
write_in s (hat≔ x) ns = ns

abbrev pub writes_in : Side → List Write → List ℕ → List ℕ
writes_in s [] ns = ns
writes_in s (w ∷ l) ns = writes_in s l (write_in s w ns)

abbrev pub hat_after : List Write → ℕ → ℕ
hat_after [] h = h
hat_after (out≔ x y ∷ l) h = hat_after l h
hat_after (inn≔ x y ∷ l) h = hat_after l h
hat_after (val≔ x v ∷ l) h = hat_after l h
hat_after (hat≔ x ∷ l) h = hat_after l x

-- What a line leaves: the nodes' words, the hat and the task's record, and what it answers.
pub record LineOutcome : Type 0 where
  pub nodes : List ℕ
  pub hat : ℕ
  pub task : Tasks.Task
  pub answer : Answer

-- The same of what a line gives back in code, with the nodes' words that it leaves: one that is made, and one that may
-- be refused, which leaves the hat h and the task t as they were.
abbrev pub line_done : List ℕ → Done → LineOutcome
line_done ns d = record { nodes = ns; hat = d.hat; task = d.task; answer = said d.answer }

abbrev pub outcome_of : List ℕ → (h : ℕ) → (t : Tasks.Task) → Result Done Refusal → LineOutcome
outcome_of ns h t (Ok d) = line_done ns d
outcome_of ns h t (Err r) = record { nodes = ns; hat = h; task = t; answer = Refused (refusal_number r) }

abbrev pub effect_in : Side → List ℕ → ℕ → Effect → LineOutcome
effect_in s ns h e =
    record {
      nodes = writes_in s e.writes ns;
      hat = hat_after e.writes h;
      task = coded_task e.task;
      answer = e.answer;
    }

unfoldable pub line_of : Step → List ℕ → ℕ → Tasks.Task → (g f : ℕ) → LineOutcome
line_of st ns h t g f =
    effect_in (side_of t.side) ns h
    (act st (side_of t.side) (opposite (side_of t.side)) (memory_in (side_of t.side) ns h) (task_meant t) g f)

-- A line's outcome, of a line that looks neither at the goal nor at a node found.
abbrev pub Does : Step → List ℕ → ℕ → Tasks.Task → LineOutcome → Type 0
Does st ns h t r = (g f : ℕ) → r ≡ line_of st ns h t g f

-- The same of a line that looks at no node and writes none: whatever the nodes' words are.
abbrev pub DoesAnywhere : Step → ℕ → Tasks.Task → Result Done Refusal → Type 0
DoesAnywhere st h t r = (ns : List ℕ) → Does st ns h t (outcome_of ns h t r)

-- ---- What a line may rely on.
pub record Ready (ns : List ℕ) (t : Tasks.Task) : Type 0 where
  pub canonical : coded_task (task_meant t) ≡ t
  pub few : t.counted < 1024
  pub held : (i : ℕ) → i < 4 → get_or t.registers i 0 ≢ no_node → HoldsNode ns (get_or t.registers i 0)
  pub values : (x : ℕ) → HoldsNode ns x → value_ok (stored_in ns x) ≡ true

-- What following a link from a register to another relies on.
pub record Follows (ns : List ℕ) (t : Tasks.Task) (side from to : ℕ) : Type 0 where
  pub ready : Ready ns t
  pub of_a_side : side < 2
  pub reads_register : from < 4
  pub sets_register : to < 4
