-- Reading undoes writing and writing undoes reading, for all lists and all out slices; and what is not touched.
use Rattle.std.specs.Prelude.{◌≡◌, ◌≢◌, List, ◌++◌, ℕ, ◌*◌, ◌≤◌, length, take, drop}
use Rattle.tag_lists.specs.TagLists.{count, outcome, Way, list_taken, read_tags, write_tags}

-- 02: "Every list written is read as the same tags", into any out slice that has room for them; and "nothing past the
-- list is written".
abbrev pub WrittenIsRead : Type 0
WrittenIsRead =
    (words bytes out : List ℕ) (n : ℕ)
    → (write_tags words bytes).answer ≡ count n
    → 2 * n ≤ length out
    → (read_tags (take (5 * n) (write_tags words bytes).out) out ≡ outcome (count n) (words ++ drop (2 * n) out))
    × (drop (5 * n) (write_tags words bytes).out ≡ drop (5 * n) bytes)

-- 02: "every list accepted is written again as the same bytes", likewise.
abbrev pub ReadIsWritten : Type 0
ReadIsWritten =
    (bytes words out : List ℕ) (n : ℕ)
    → (read_tags bytes words).answer ≡ count n
    → 5 * n ≤ length out
    → (write_tags (take (2 * n) (read_tags bytes words).out) out ≡ outcome (count n) (bytes ++ drop (5 * n) out))
    × (drop (2 * n) (read_tags bytes words).out ≡ drop (2 * n) words)

-- 02: "A refusal leaves the output untouched". Either way.
abbrev pub RefusalTouchesNothing : Type 0
RefusalTouchesNothing =
    (w : Way) (list out : List ℕ)
    → ((n : ℕ) → (list_taken w list out).answer ≢ count n)
    → (list_taken w list out).out ≡ out
