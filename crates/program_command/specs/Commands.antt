-- The forms of the belt run. 01: "Spelling and single spaces are as shown".
use Rattle.std.specs.Prelude.{Bool, true, cond, ◌&&◌, List, [], ◌∷◌, ℕ, eqb, leb, get_or}
use Prim.Native.String.{String, ◌++◌}
use Rattle.tag.specs.Tags.{digit_of, low_of}
use Rattle.text.specs.Text.{bytes, same}
use Rattle.text_scan.specs.Scanned.{Scanned, nothing, scan_bytes}
use Rattle.program_command.specs.Said.{Command, Start, Begin, Tick, Lane, Unread}

-- 01: "a number above 4,294,967,295" is unread
abbrev pub largest_number : ℕ
largest_number = 4_294_967_295

-- whether no number is above the largest
abbrev pub all_fit : List ℕ → Bool
all_fit [] = true
all_fit (n ∷ ns) = leb n largest_number && all_fit ns

-- 02: "tags as ten digits with their zeros"
abbrev pub tag_width : ℕ
tag_width = 10

-- 01: "times (1 to 1,000)"; "times out of range" is unread
unfoldable pub ticks : ℕ → ℕ → ℕ → Command
ticks task hint times = cond (leb 1 times && leb times 1_000) (Tick task hint times) Unread

-- the text of a begin; 01: "add and remove are written as push is"
abbrev pub begin_text : String → String → List ℕ
begin_text operation side = bytes ("(begin 0 (" ++ (operation ++ (" " ++ (side ++ " 0))"))))

-- a begin of the operation with this number on the side whose text matches; where neither does, the other command
-- 01: operation 1 push, 2 pop, 3 add, 4 remove; side 0 left, 1 right
-- 02: "the arguments of pop, add and remove have digit 0"
unfoldable pub begin_or : List ℕ → List ℕ → List ℕ → ℕ → ℕ → ℕ → Command → Command
begin_or text left right operation task low other =
    cond (same text left) (Begin task operation 0 0 low)
    (cond (same text right) (Begin task operation 1 0 low) other)

-- a begin of pop, add or remove
unfoldable pub begin_of : List ℕ → ℕ → ℕ → Command
begin_of text task low =
    begin_or text (begin_text "pop" "left") (begin_text "pop" "right") 2 task low
    (begin_or text (begin_text "add" "left") (begin_text "add" "right") 3 task low
    (begin_or text (begin_text "remove" "left") (begin_text "remove" "right") 4 task low Unread))

-- the form other than a push that has this text, with its numbers in order
unfoldable pub form_of : List ℕ → (a b c : ℕ) → Command
form_of text a b c =
    cond (same text (bytes "(tick 0 0 0)")) (ticks a b c)
    (cond (same text (bytes "(lane)")) Lane
    (cond (same text (bytes "(start (slots 0) (tasks 0) (growth 0))")) (Start a b c) (begin_of text a b)))

-- a push, of whose numbers the last is so many digits wide
-- 02: "a push of another width is `(unread)`, and 01's top number does not bind tags"
unfoldable pub push_of : (side task tag width : ℕ) → Command
push_of side task tag width =
    cond (leb task largest_number && eqb width tag_width) (Begin task 1 side (digit_of tag) (low_of tag)) Unread

-- the command of a line with this text and these numbers, the last of them so many digits wide; a line has one number
-- for each 0 in its text (`line-well` of `text_scan/proofs/Laws/PlaceLaws`), so the last number of a push is its tag
unfoldable pub command_with : (text numbers : List ℕ) (width : ℕ) → Command
command_with text ns width =
    cond (same text (begin_text "push" "left")) (push_of 0 (get_or ns 0 0) (get_or ns 1 0) width)
    (cond (same text (begin_text "push" "right")) (push_of 1 (get_or ns 0 0) (get_or ns 1 0) width)
    (cond (all_fit ns) (form_of text (get_or ns 0 0) (get_or ns 1 0) (get_or ns 2 0)) Unread))

unfoldable pub command_of : Scanned → Command
command_of s = command_with s.text s.numbers s.width

-- the command of a line of these bytes
unfoldable pub command_read : List ℕ → Command
command_read line = command_of (scan_bytes nothing line)
