-- The belt run of 01, with tags of ten digits (2026-04): what is read, and what it prints.
use Rattle.std.specs.Prelude.{List, ◌++◌, ℕ}
use Rattle.text.specs.Text.{bytes}

abbrev pub paper_input : List ℕ
paper_input =
    bytes "(start (slots 4) (tasks 1) (growth 0))\n"
    ++ bytes "(begin 0 (push right 0000000051))\n"
    ++ bytes "(tick 0 0 10)\n"
    ++ bytes "(tick 0 0 1)\n"
    ++ bytes "(lane)\n"
    ++ bytes "(begin 0 (pop left 0))\n"
    ++ bytes "(tick 0 0 4)\n"
    ++ bytes "(begin 0 (pop right 0))\n"
    ++ bytes "(tick 0 0 4)\n"
    ++ bytes "(tick 0 0 1)\n"

abbrev pub paper_output : List ℕ
paper_output =
    bytes "(ok)\n"
    ++ bytes "(ok)\n"
    ++ bytes "(going)\n"
    ++ bytes "(pushed)\n"
    ++ bytes "(lane 0000000051)\n"
    ++ bytes "(ok)\n"
    ++ bytes "(bag 0000000051)\n"
    ++ bytes "(ok)\n"
    ++ bytes "(empty)\n"
    ++ bytes "(refused 10)\n"
