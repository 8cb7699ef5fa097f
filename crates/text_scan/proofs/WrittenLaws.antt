-- Scanning finds the text and the numerals that a line is written with: the values of the numerals are its numbers, and
-- the last of them is as wide as it has digits.
use mathlib.Core.Bool.{Bool, true, false, false≢true}
use mathlib.Core.List.{List, [], ◌∷◌, ◌++◌, map, append_assoc, append-nil}
use mathlib.Core.Logic.{◌⊎◌, inl, inr}
use mathlib.Core.Path.{◌≡◌, refl, sym, ap, ◌∙◌}
use Prim.Native.Nat.{ℕ, suc, ◌+◌, ◌*◌, ◌-◌}
use native.Mathlib.Omega.{arith}
use lib.ListN.{length, length-append}
use lib.Seq.{get_or-append_seam, set-append_seam}
use Rattle.text_scan.specs.Scanned.{Scanned, nothing, is_digit, zero_digit, appended, scan_byte, scan_bytes}
use Rattle.text_scan.specs.Written.{Numeral, last, then, value_after, value, begins_with_digit}
use Rattle.text_scan.specs.Written.{Written, ended, byte, number, width_after}
use Rattle.text_scan.proofs.Laws.PlaceLaws.{other_byte, further-digit, first-digit}

-- ---- Every line is written with some text and numerals.
pub record Parts (line : List ℕ) : Type 0 where
  pub text : List ℕ
  pub numerals : List (List ℕ)
  pub written : Written line text numerals

digit-before : {b : ℕ} {line text : List ℕ} {numerals : List (List ℕ)} → is_digit b ≡ true → Written line text numerals
    → Parts (b ∷ line)
unfolding begins_with_digit
digit-before h ended = record { text = _; numerals = _; written = number (last h) refl ended }
digit-before h (byte e w) = record { text = _; numerals = _; written = number (last h) e (byte e w) }
digit-before h (number n e w) = record { text = _; numerals = _; written = number (then h n) e w }

line-parted : (line : List ℕ) → Parts line
line-parted [] = record { text = []; numerals = []; written = ended }
line-parted (b ∷ line) = go (is_digit b) refl (line-parted line)
  where
    go : (d : Bool) → is_digit b ≡ d → Parts line → Parts (b ∷ line)
    go true e p = digit-before e p.written
    go false e p = record { text = b ∷ p.text; numerals = p.numerals; written = byte e p.written }

-- ---- A numeral scanned: a state in which the last number is being read, with w of its digits.
abbrev reading : (text numbers : List ℕ) (n w : ℕ) → Scanned
reading text numbers n w = record { text = text; numbers = numbers ++ (n ∷ []); width = w; in_number = true }

scan-append : (σ : Scanned) (l m : List ℕ) → scan_bytes σ (l ++ m) ≡ scan_bytes (scan_bytes σ l) m
unfolding scan_bytes
scan-append σ [] m = refl
scan-append σ (b ∷ l) m = scan-append (scan_byte σ b) l m

digit-read : (text ns : List ℕ) (n w b : ℕ) → is_digit b ≡ true
    → scan_byte (reading text ns n w) b ≡ reading text ns (10 * n + (b - zero_digit)) (w + 1)
digit-read text ns n w b h =
    let e : length (ns ++ (n ∷ [])) - 1 ≡ length ns = simp length-append (omega arith) in
    further-digit (reading text ns n w) b h refl
    ∙ rw (e, get_or-append_seam ns n [] 0, set-append_seam ns n [] (10 * n + (b - zero_digit)))

numeral-read : (text ns : List ℕ) (n w : ℕ) {ds : List ℕ} → Numeral ds
    → scan_bytes (reading text ns n w) ds ≡ reading text ns (value_after n ds) (w + length ds)
unfolding scan_bytes value_after
numeral-read text ns n w (last {d} h) = digit-read text ns n w d h
numeral-read text ns n w (then {d} {ds} h m) =
    let e : w + 1 + length ds ≡ w + suc (length ds) = omega arith in
    ap (λ (σ : Scanned). scan_bytes σ ds) (digit-read text ns n w d h)
    ∙ numeral-read text ns (10 * n + (d - zero_digit)) (w + 1) m
    ∙ ap (reading text ns (value_after (10 * n + (d - zero_digit)) ds)) e

digit-opens : (σ : Scanned) (d : ℕ) → σ.in_number ≡ false → is_digit d ≡ true
    → scan_byte σ d ≡ reading (σ.text ++ (zero_digit ∷ [])) σ.numbers (10 * 0 + (d - zero_digit)) 1
digit-opens σ d e h =
    let z : 10 * 0 + (d - zero_digit) ≡ d - zero_digit = omega arith in
    first-digit σ d h e ∙ rw z

numeral-opens : (σ : Scanned) {ds : List ℕ} → σ.in_number ≡ false → Numeral ds
    → scan_bytes σ ds ≡ reading (σ.text ++ (zero_digit ∷ [])) σ.numbers (value ds) (length ds)
unfolding scan_bytes value_after value
numeral-opens σ e (last {d} h) = digit-opens σ d e h
numeral-opens σ e (then {d} {ds} h m) =
    let text = σ.text ++ (zero_digit ∷ []) in
    let n = 10 * 0 + (d - zero_digit) in
    let f : 1 + length ds ≡ suc (length ds) = omega arith in
    ap (λ (τ : Scanned). scan_bytes τ ds) (digit-opens σ d e h)
    ∙ numeral-read text σ.numbers n 1 m
    ∙ ap (reading text σ.numbers (value_after n ds)) f

numeral-begins : {ds : List ℕ} (line : List ℕ) → Numeral ds → begins_with_digit (ds ++ line) ≡ true
unfolding begins_with_digit
numeral-begins line (last h) = h
numeral-begins line (then h m) = h

-- ---- Scanning on from any state that does not cut a numeral in two.
pub record Finds (σ : Scanned) (line text : List ℕ) (numerals : List (List ℕ)) : Type 0 where
  pub text-found : (scan_bytes σ line).text ≡ σ.text ++ text
  pub numbers-found : (scan_bytes σ line).numbers ≡ σ.numbers ++ map value numerals
  pub width-found : (scan_bytes σ line).width ≡ width_after σ.width numerals

scan-written : {line text : List ℕ} {numerals : List (List ℕ)} → Written line text numerals → (σ : Scanned)
    → (σ.in_number ≡ false) ⊎ (begins_with_digit line ≡ false) → Finds σ line text numerals
unfolding scan_bytes width_after
scan-written ended σ f =
    record {
      text-found = sym (append-nil σ.text);
      numbers-found = sym (append-nil σ.numbers);
      width-found = refl;
    }
scan-written (byte {b} {line} {text} {numerals} e w) σ f =
    let r = scan-written w (appended σ b) (inl refl) in
    let a : scan_bytes σ (b ∷ line) ≡ scan_bytes (appended σ b) line =
    ap (λ (τ : Scanned). scan_bytes τ line) (other_byte σ b e) in
    record {
      text-found = rw a (r.text-found ∙ append_assoc σ.text (b ∷ []) text);
      numbers-found = rw a r.numbers-found;
      width-found = rw a r.width-found;
    }
scan-written (number {ds} {line} {text} {numerals} m e w) σ (inl f) =
    let r = scan-written w (reading (σ.text ++ (zero_digit ∷ [])) σ.numbers (value ds) (length ds)) (inr e) in
    let a = scan-append σ ds line ∙ ap (λ (τ : Scanned). scan_bytes τ line) (numeral-opens σ f m) in
    record {
      text-found = rw a (r.text-found ∙ append_assoc σ.text (zero_digit ∷ []) text);
      numbers-found = rw a (r.numbers-found ∙ append_assoc σ.numbers (value ds ∷ []) (map value numerals));
      width-found = rw a r.width-found;
    }
scan-written (number {ds} {line} m e w) σ (inr g) = absurd (false≢true (sym g ∙ numeral-begins line m))

-- ---- The whole line.
pub written-scanned : {line text : List ℕ} {numerals : List (List ℕ)} → Written line text numerals
    → Finds nothing line text numerals
written-scanned w = scan-written w nothing (inl refl)
