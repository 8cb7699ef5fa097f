-- What a ready record says of itself.
use mathlib.Core.Path.{◌≡◌, sym, ap, ◌∙◌}
use mathlib.Core.Logic.{◌≢◌}
use mathlib.Core.Bool.{true}
use mathlib.Core.List.{List}
use Prim.Native.Nat.{ℕ, ◌<◌}
use lib.ListN.{get_or}
use Rattle.std.specs.Prelude.{Result, Ok, Err, IsErrAnd}
use Rattle.machine.specs.declared.refusal.Refusal.{Refusal}
use Rattle.machine.specs.declared.refusal.Refusal.TheVariants.{NoSlot}
use Rattle.machine.specs.Lines.{Effect, through}
use Rattle.machine.proofs.Basics.Choices.{test-equal}
use Rattle.machine.specs.Sides.{Side, side_number, side_of}
use Rattle.machine.specs.Values.{encode, decode, value_ok}
use Rattle.machine.specs.Tasks.{no_node}
use Rattle.machine.proofs.Words.ValueLaws.{decoded-value-ok, encode-decode}
use Rattle.machine.proofs.Words.RecordLaws.{side-of-number}
use Rattle.machine.specs.declared.Stored.{Stored}
use Rattle.table_record.specs.declared.Task as Tasks
use Rattle.table_record.specs.Coded.{coded_task, task_meant}
use Rattle.table_layout.specs.Words.{stored_in}
use Rattle.line_parts.specs.Lent.{Ready, NoNodeIn, line_done, outcome_of, effect_in}
use Rattle.line_parts.specs.declared.ends.Done.{Done}

-- A number that is a side's.
pub side-meant : (s : Side) {n : ℕ} → n ≡ side_number s → side_of n ≡ s
side-meant s e = ap side_of e ∙ side-of-number s

-- What the definitions make of the record's meaning, the code makes of the record.
pub by-record :
    {t : Tasks.Task}
    → coded_task (task_meant t) ≡ t
    → (ns : List ℕ) (F : Tasks.Task → Done)
    → line_done ns (F t) ≡ line_done ns (F (coded_task (task_meant t)))
by-record canonical ns F = ap (λ (u : Tasks.Task). line_done ns (F u)) (sym canonical)

-- A line is refused where the node in a register is none; r is what it gives back there.
pub line-refused :
    {t : Tasks.Task} {i : ℕ} {e : Refusal}
    → coded_task (task_meant t) ≡ t
    → NoNodeIn t i e
    → (r : Result Done Refusal)
    → IsErrAnd r (λ x. x ≡ e)
    → (ns : List ℕ) (h : ℕ) (f : Effect)
    → outcome_of ns h t r ≡ effect_in (side_of t.side) ns h (through (get_or t.registers i 0) (task_meant t) f)
line-refused canonical without (Ok d) wrong ns h f = absurd wrong
line-refused {t} canonical without (Err x) same ns h f =
    rw (same, without.is, test-equal without.none)
    (ap (λ (u : Tasks.Task). outcome_of ns h u (Err NoSlot)) (sym canonical))

module _ {ns : List ℕ} {t : Tasks.Task} (R : Ready ns t) where
  pub by_code : (F : Tasks.Task → Done) → line_done ns (F t) ≡ line_done ns (F (coded_task (task_meant t)))
  by_code F = by-record R.canonical ns F

  -- The value read of the node in register i is as V may be.
  pub node-value-ok :
      {v : Stored} (i : ℕ)
      → i < 4
      → get_or t.registers i 0 ≢ no_node
      → v ≡ stored_in ns (get_or t.registers i 0)
      → value_ok v ≡ true
  node-value-ok i l n read = rw read (R.values (get_or t.registers i 0) (R.held i l n))

  -- So they are the words of what they mean.
  pub value-coded :
      (i : ℕ)
      → i < 4
      → get_or t.registers i 0 ≢ no_node
      → encode (decode (stored_in ns (get_or t.registers i 0))) ≡ stored_in ns (get_or t.registers i 0)
  value-coded i l n =
      let x = get_or t.registers i 0 in encode-decode (stored_in ns x) (R.values x (R.held i l n))

  pub value-read-ok : value_ok t.value ≡ true
  value-read-ok =
      let e : encode (decode t.value) ≡ t.value =
      ap (λ (u : Tasks.Task). u.value) R.canonical in
      let h = decoded-value-ok t.value in
      rw e at h
