-- A session prints the belt run of all its input, however the input is cut into chunks.
use mathlib.Core.Path.{◌≡◌, refl, sym, ap, ◌∙◌}
use mathlib.Core.Bool.{Bool, true, false, cond}
use mathlib.Core.List.{List, [], ◌∷◌, ◌++◌, map, flatten, append_assoc, append-nil}
use Prim.Native.Nat.{ℕ}
use lib.Dec.{eqb}
use Rattle.text.specs.Lines.{line_feed, in_front, lines_of}
use Rattle.text_scan.specs.Scanned.{scan_bytes}
use Rattle.program_command.specs.Said.{Command}
use Rattle.program_command.specs.Commands.{command_of, command_read}
use Rattle.program_answer.specs.Run.{printed, belt_run}
use Rattle.program_stream.specs.Session.{
  State,
  at_first,
  Step,
  end_line,
  go_on,
  take_byte,
  take_bytes,
  end_input,
  take_input,
  printed_from,
  meant,
  session,
}
use Rattle.program_stream.proofs.Laws.Chunks.{take_bytes-append}

-- The commands of lines, of which the first goes on from the line so far.
commands_from : State → List (List ℕ) → List Command
commands_from s [] = cond s.begun (command_of s.line ∷ []) []
commands_from s (line ∷ lines) = command_of (scan_bytes s.line line) ∷ map command_read lines

-- ---- The first line by the byte in front of it.
go_on-commands : (b : ℕ) (s : State) (lines : List (List ℕ))
    → commands_from (go_on b s) lines ≡ commands_from s (in_front b lines)
unfolding commands_from scan_bytes
go_on-commands b s [] = refl
go_on-commands b s (line ∷ lines) = refl

end_line-commands : (s : State) (lines : List (List ℕ)) → commands_from (end_line s).state lines ≡ map command_read lines
unfolding commands_from end_line command_read
end_line-commands s [] = refl
end_line-commands s (line ∷ lines) = refl

-- ---- What is printed from a state on, by the bytes that are left.
abbrev Whole : State → List ℕ → Type 0
Whole s bytes = (take_input meant bytes s).text ≡ printed (commands_from s (lines_of bytes)) s.words

at-end : (s : State) → Whole s []
unfolding take_bytes end_input end_line commands_from lines_of printed
at-end s = go s.begun refl
  where
    go : (begun : Bool) → s.begun ≡ begun → Whole s []
    go true e = rw e (sym (append-nil _))
    go false e = rw e

at-line-feed : (b : ℕ) (bs : List ℕ) (s : State) → eqb b line_feed ≡ true → Whole (end_line s).state bs
    → Whole s (b ∷ bs)
unfolding take_bytes take_byte end_line commands_from lines_of scan_bytes printed
at-line-feed b bs s e left =
    let ended = end_line s in
    let rest = take_bytes meant bs ended.state in
    rw e
    (append_assoc ended.text rest.text (end_input meant rest.state).text
    ∙ ap (λ (text : List ℕ). ended.text ++ text)
    (left
    ∙ ap (λ (commands : List Command). printed commands ended.state.words)
    (end_line-commands s (lines_of bs))))

at_byte : (b : ℕ) (bs : List ℕ) (s : State) → eqb b line_feed ≡ false → Whole (go_on b s) bs → Whole s (b ∷ bs)
unfolding take_bytes take_byte lines_of
at_byte b bs s e left =
    rw e (left ∙ ap (λ (commands : List Command). printed commands s.words) (go_on-commands b s (lines_of bs)))

from-state : (bytes : List ℕ) (s : State) → Whole s bytes
from-state [] s = at-end s
from-state (b ∷ bs) s = go (eqb b line_feed) refl (from-state bs)
  where
    go : (fed : Bool) → eqb b line_feed ≡ fed → ((t : State) → Whole t bs) → Whole s (b ∷ bs)
    go true e left = at-line-feed b bs s e (left (end_line s).state)
    go false e left = at_byte b bs s e (left (go_on b s))

-- ---- The whole input.
pub input-is-belt-run : (input : List ℕ) → (take_input meant input at_first).text ≡ belt_run input
unfolding belt_run commands_from command_read
input-is-belt-run input =
    from-state input at_first
    ∙ ap (λ (commands : List Command). printed commands []) (first-commands (lines_of input))
  where
    first-commands : (lines : List (List ℕ)) → commands_from at_first lines ≡ map command_read lines
    first-commands [] = refl
    first-commands (line ∷ lines) = refl

chunks-joined : (chunks : List (List ℕ)) (s : State)
    → printed_from meant chunks s ≡ (take_input meant (flatten chunks) s).text
unfolding printed_from take_bytes flatten
chunks-joined [] s = refl
chunks-joined (chunk ∷ chunks) s =
    let step = take_bytes meant chunk s in
    let rest = take_bytes meant (flatten chunks) step.state in
    ap (λ (text : List ℕ). step.text ++ text) (chunks-joined chunks step.state)
    ∙ sym (append_assoc step.text rest.text (end_input meant rest.state).text)
    ∙ ap (λ (d : Step State). d.text ++ (end_input meant d.state).text)
    (sym (take_bytes-append meant chunk (flatten chunks) s))

pub session-is-belt-run : (chunks : List (List ℕ)) → session chunks ≡ belt_run (flatten chunks)
session-is-belt-run chunks = chunks-joined chunks at_first ∙ input-is-belt-run (flatten chunks)
