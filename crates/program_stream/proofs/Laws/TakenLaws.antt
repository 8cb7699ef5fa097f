-- What the bytes of a line come to, taken with and without the line feed.
use mathlib.Core.Path.{◌≡◌, refl, sym, ap, ◌∙◌}
use mathlib.Core.Bool.{Bool, true, false, ◌||◌, or-true, or-false}
use mathlib.Core.List.{List, [], ◌∷◌, ◌++◌, append-nil}
use Prim.Native.Nat.{ℕ, zero, suc, ◌+◌, ◌≤◌, ◌<◌}
use native.Mathlib.Omega.{arith}
use borrow.Author.Tests.{lt-ltb, le-ltb}
use lib.Dec.{eqb, ltb}
use lib.ListN.{length, take, drop, length-drop, take-append-drop}
use lib.Seq.{slice, slice_empty, take-nil, take-take, length-take-le, drop-append-le}
use Rattle.text.specs.Lines.{line_feed, first_line}
use Rattle.text.proofs.Laws.FirstLine.{line-bytes, fed-bytes}
use Rattle.text_scan.specs.Kept.{keep_bytes}
use Rattle.program_stream.specs.Session.{Step, silent, after, Service, take_byte, take_bytes}
use Rattle.program_stream.specs.Carried.{Loan, line_of, loan_with, end_line_in, go_on_in, lent}
use Rattle.program_stream.proofs.Laws.Chunks.{take_bytes-append}

abbrev any : List ℕ → Bool
any [] = false
any (b ∷ bs) = true

-- There are bytes from a place to another.
pub any-between : (from : ℕ) (bytes : List ℕ) → ltb from (from + length bytes) ≡ any bytes
any-between from [] = le-ltb from (from + 0) (omega arith)
any-between from (b ∷ bs) = lt-ltb from (from + suc (length bs)) (omega arith)

-- The line so far, kept on.
abbrev pub kept_on : List ℕ → Loan → Loan
kept_on bytes l =
    loan_with l.space l.carried.len (keep_bytes (line_of l) bytes) (l.carried.begun || any bytes)

-- The same loan but for whether its line has a byte.
begun-as : (l : Loan) {x y : Bool} → x ≡ y
    → ◌≡◌ {A = Step Loan} (silent (loan_with l.space l.carried.len (line_of l) x))
    (silent (loan_with l.space l.carried.len (line_of l) y))
begun-as l e = ap (λ (x : Bool). silent (loan_with l.space l.carried.len (line_of l) x)) e

-- A line without its line feed prints nothing.
line_taken : (bytes : List ℕ) (l : Loan)
    → take_bytes lent (first_line bytes) l ≡ silent (kept_on (first_line bytes) l)
unfolding take_bytes take_byte first_line keep_bytes
line_taken [] l = begun-as l (sym (or-false l.carried.begun))
line_taken (b ∷ bs) l = go (eqb b line_feed) refl (line_taken bs)
  where
    go : (fed : Bool) → eqb b line_feed ≡ fed
        → ((m : Loan) → take_bytes lent (first_line bs) m ≡ silent (kept_on (first_line bs) m))
        → take_bytes lent (first_line (b ∷ bs)) l ≡ silent (kept_on (first_line (b ∷ bs)) l)
    go true e left = rw e (begun-as l (sym (or-false l.carried.begun)))
    go false e left =
        let begun = begun-as (kept_on (b ∷ first_line bs) l) (sym (or-true l.carried.begun)) in
        rw (e, take_byte) (rw e (left (go_on_in b l) ∙ begun))

-- A part of a list, by the places before it.
slice-drop : (n k : ℕ) (l : List ℕ) → slice n (n + k) l ≡ take k (drop n l)
slice-drop zero k l =
    let e : 0 + k ≡ k = omega arith in
    rw e
slice-drop (suc n) k [] = ap (λ (l : List ℕ). drop (suc n) l) (take-nil (suc n + k)) ∙ sym (take-nil k)
slice-drop (suc n) k (x ∷ xs) =
    let e : suc n + k ≡ suc (n + k) = omega arith in
    rw e (slice-drop n k xs)

-- Two parts that meet.
slice-append : (a b c : ℕ) (l : List ℕ) → a ≤ b → b ≤ c → c ≤ length l → slice a b l ++ slice b c l ≡ slice a c l
slice-append a b c l ab bc h =
    let m = take c l in
    let long : length m ≡ c = length-take-le c l h in
    ap (λ (x : List ℕ). drop a x ++ drop b m) (sym (take-take b c l bc))
    ∙ sym (drop-append-le a (take b m) (drop b m) (simp (length-take-le b m (omega (arith, long))) ab))
    ∙ ap (drop a) (take-append-drop b m)

-- ---- Parts of a chunk taken.
module _ (chunk : List ℕ) (from to : ℕ) (l : Loan) where
  abbrev line : List ℕ
  line = first_line (drop from chunk)

  -- Up to a place where no line ends.
  pub part-taken : to ≡ from + length line → take_bytes lent (slice from to chunk) l ≡ silent (kept_on line l)
  part-taken e =
      rw (e, slice-drop from (length line) chunk, line-bytes (drop from chunk)) (line_taken (drop from chunk) l)

  -- Up to and with a line feed.
  pub whole-taken : to ≡ from + length line → to < length chunk
      → take_bytes lent (slice from (to + 1) chunk) l ≡ end_line_in (kept_on line l)
  unfolding take_bytes take_byte
  whole-taken e h =
      let n : to + 1 ≡ from + suc (length line) = omega arith in
      let fed : length line < length (drop from chunk) = simp length-drop (omega arith) in
      rw (
        n,
        slice-drop from (suc (length line)) chunk,
        fed-bytes (drop from chunk) fed,
        take_bytes-append lent line (line_feed ∷ []) l,
        line_taken (drop from chunk) l,
      )
      (ap (λ (text : List ℕ). record { state = (end_line_in (kept_on line l)).state; text = text })
      (append-nil (end_line_in (kept_on line l)).text))

module _ {S : Type 0} (v : Service S) (chunk : List ℕ) where
  -- One part and then the next.
  pub parts-taken : (a b c : ℕ) (s : S) → a ≤ b → b ≤ c → c ≤ length chunk
      → take_bytes v (slice a c chunk) s
      ≡ after (take_bytes v (slice a b chunk) s).text
      (take_bytes v (slice b c chunk) (take_bytes v (slice a b chunk) s).state)
  parts-taken a b c s ab bc h =
      ap (λ (bytes : List ℕ). take_bytes v bytes s) (sym (slice-append a b c chunk ab bc h))
      ∙ take_bytes-append v (slice a b chunk) (slice b c chunk) s

  pub none-taken : (a : ℕ) (s : S) → take_bytes v (slice a a chunk) s ≡ silent s
  unfolding take_bytes
  none-taken a s = rw (slice_empty a chunk)
