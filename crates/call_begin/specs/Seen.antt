-- A tag sought in the lanes: whether it stands in those that are walked, or the refusal where one of them has no end.
use Rattle.std.specs.Prelude.{Bool, List, ℕ, Result, Ok, Err}
use Rattle.std.proofs.Math.Option.{Option, some, none}
use Rattle.machine.specs.declared.refusal.Refusal.{Refusal}
use Rattle.machine.specs.declared.refusal.Refusal.TheVariants.{NoSlot}
use Rattle.machine.specs.Calls.{is_among}

abbrev pub standing : ℕ → Option (List ℕ) → Result Bool Refusal
standing n none = Err NoSlot
standing n (some bags) = Ok (is_among n bags)
