-- `airline_list::forms::Form::length` meets its contract: all but the end's name has the same length in each form.
use native.Mathlib.Omega.{arith}
use Rattle.airline_list.proofs.Laws.FormLaws.{airline-length}
use Rattle.airline_list.proofs.forms.Form.length.Goals as goal

pub returns-in-Airline : goal.returns-in-Airline
returns-in-Airline c =
    let line = c.in-Airline in
    let length = airline-length line.code line.end in
    rw (line.is) (omega arith)
