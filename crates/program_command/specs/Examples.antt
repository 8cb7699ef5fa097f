-- Lines that are read and lines close to them, with what each says; `proofs/Worked` shows it.
use Rattle.std.specs.Prelude.{List, [], ◌∷◌}
use Prim.Native.String.{String}
use Rattle.program_command.specs.Said.{Command, Start, Begin, Tick, Lane, Unread}

pub record Example : Type 0 where
  pub line : String
  pub says : Command

infix 80 ◌reads_as◌
abbrev ◌reads_as◌ : String → Command → Example
line reads_as said = record { line = line; says = said }

unfoldable pub examples : List Example
examples =
    "(start (slots 4) (tasks 1) (growth 0))" reads_as Start 4 1 0
    ∷ "(begin 0 (push right 0000000051))" reads_as Begin 0 1 1 0 51
    ∷ "(begin 3 (pop left 0))" reads_as Begin 3 2 0 0 0
    ∷ "(begin 0 (add right 64))" reads_as Begin 0 3 1 0 64
    ∷ "(begin 12 (remove left 1023))" reads_as Begin 12 4 0 0 1_023
    ∷ "(tick 0 0 10)" reads_as Tick 0 0 10
    ∷ "(lane)" reads_as Lane
    -- 01: "times (1 to 1,000)"
    ∷ "(tick 0 0 0)" reads_as Unread
    ∷ "(tick 0 0 1)" reads_as Tick 0 0 1
    ∷ "(tick 0 0 1000)" reads_as Tick 0 0 1_000
    ∷ "(tick 0 0 1001)" reads_as Unread
    -- 01: "a number above 4,294,967,295"
    ∷ "(tick 4294967295 0 1)" reads_as Tick 4_294_967_295 0 1
    ∷ "(tick 4294967296 0 1)" reads_as Unread
    ∷ "(begin 0 (add right 4294967295))" reads_as Begin 0 3 1 0 4_294_967_295
    ∷ "(begin 0 (add right 4294967296))" reads_as Unread
    ∷ "(begin 4294967296 (push right 0000000051))" reads_as Unread
    -- 02: "01's top number does not bind tags"
    ∷ "(begin 0 (push left 4294967296))" reads_as Begin 0 1 0 4 294_967_296
    ∷ "(begin 4294967295 (push left 9999999999))" reads_as Begin 4_294_967_295 1 0 9 999_999_999
    -- 02: "a push of another width is `(unread)`"
    ∷ "(begin 0 (push right 51))" reads_as Unread
    ∷ "(begin 0 (push right 000000051))" reads_as Unread
    ∷ "(begin 0 (push right 00000000051))" reads_as Unread
    ∷ "(begin 0 (push left 999999999))" reads_as Unread
    ∷ "(begin 0 (push left 10000000000))" reads_as Unread
    ∷ "(begin 0000000000 (push left 1))" reads_as Unread
    ∷ "(begin 0 (push left 0000000000))" reads_as Begin 0 1 0 0 0
    ∷ "(begin 00 (push left 1000000000))" reads_as Begin 0 1 0 1 0
    -- and other numbers may have any width
    ∷ "(begin 0 (pop left 0000000000))" reads_as Begin 0 2 0 0 0
    ∷ "(begin 0 (remove right 00000000007))" reads_as Begin 0 4 1 0 7
    -- 01: "a number is digits alone"
    ∷ "(tick 00 0 000000000000000000001)" reads_as Tick 0 0 1
    ∷ "(tick  0 1)" reads_as Unread
    -- 01: "Spelling and single spaces are as shown"
    ∷ "(tick 0  0 1)" reads_as Unread
    ∷ "(tick 0 0 1) " reads_as Unread
    ∷ "(lane)\r" reads_as Unread
    ∷ "(LANE)" reads_as Unread
    ∷ "(lane 1)" reads_as Unread
    ∷ "(lane))" reads_as Unread
    ∷ "(tick 0 0 1 4)" reads_as Unread
    ∷ "(begin 0 (push up 0000000005))" reads_as Unread
    ∷ "(start (slots 4) (tasks 1) (growth 0)))" reads_as Unread
    ∷ "" reads_as Unread
    ∷ []
