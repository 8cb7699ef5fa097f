-- The operation and the side that a begin is asked for, by their numbers.
use Rattle.std.specs.Prelude.{◌≡◌, true, false, ◌&&◌, ℕ, leb, Result, MatchResult}
use Rattle.machine.specs.declared.refusal.Refusal.{Refusal}
use Rattle.machine.specs.declared.refusal.Refusal.TheVariants.{Operation as Operation-refusal}
use Rattle.machine.specs.Sides.{Side as Side-meant, left, right, side_of}
use Rattle.machine.specs.Operations.{Operation as Operation-meant, push, pop, add, remove, operation_of}
use Rattle.machine.specs.declared.operation.Operation.{Operation}
use Rattle.machine.specs.declared.operation.Operation.TheVariants.{Push, Pop, Add, Remove}
use Rattle.machine.specs.declared.side.Side.{Side}
use Rattle.machine.specs.declared.side.Side.TheVariants.{Left, Right}

abbrev pub operation_meant : Operation → Operation-meant
operation_meant Push = push
operation_meant Pop = pop
operation_meant Add = add
operation_meant Remove = remove

abbrev pub side_meant : Side → Side-meant
side_meant Left = left
side_meant Right = right

-- 01: check 6.
abbrev pub OperationOf : ℕ → Result Operation Refusal → Type 0
OperationOf n r =
    MatchResult r (λ op. (operation_meant op ≡ operation_of n) × (leb 1 n && leb n 4 ≡ true))
    (λ e. (e ≡ Operation-refusal) × (leb 1 n && leb n 4 ≡ false))

abbrev pub SideOf : ℕ → Result Side Refusal → Type 0
SideOf n r =
    MatchResult r (λ s. (side_meant s ≡ side_of n) × (leb n 1 ≡ true))
    (λ e. (e ≡ Operation-refusal) × (leb n 1 ≡ false))
