-- What is kept stands for what is scanned: at the start, and after one byte more of each kind.
use mathlib.Core.Bool.{Bool, true, false, cond, false≢true}
use mathlib.Core.List.{List, [], ◌∷◌, ◌++◌}
use mathlib.Core.Path.{◌≡◌, refl, sym, ◌∙◌}
use Prim.Native.Nat.{ℕ, zero, suc, ◌+◌, ◌-◌, ◌<◌, min}
use native.Mathlib.Omega.{arith}
use lib.Dec.{ltb}
use lib.ListN.{length, get_or, take, set, length-set}
use Rattle.text_scan.specs.Scanned.{
  Scanned,
  nothing,
  opened,
  extended,
  appended,
  zero_digit,
  is_digit,
  with_digit,
  scan_byte,
  scan_bytes,
}
use Rattle.text_scan.specs.Kept.{
  text_places,
  number_places,
  kept_number,
  Kept,
  no_numbers,
  text_with,
  kept_at_first,
  keep_other,
  keep_opened,
  keep_extended,
  keep_byte,
  keep_bytes,
  Counts,
  ScanKept,
  Represents,
}
use Rattle.text_scan.proofs.Laws.KeptTexts.{byte-kept}
use Rattle.text_scan.proofs.Laws.NumberLaws.{
  up-to-tag-set,
  more-number-count,
  more-first,
  more-last,
  other-first,
  other_last,
}
use Rattle.text_scan.proofs.Laws.PlaceLaws.{
  digit-small,
  other_byte,
  further-digit,
  first-digit,
  nothing-well,
  appended-well,
  opened-well,
  extended-well,
}

-- ---- Nothing scanned.
zeros : (i : ℕ) → get_or no_numbers i 0 ≡ 0
zeros zero = refl
zeros (suc zero) = refl
zeros (suc (suc zero)) = refl
zeros (suc (suc (suc zero))) = refl
zeros (suc (suc (suc (suc i)))) = refl

pub first-kept : (text : List ℕ) → length text ≡ text_places → ScanKept (kept_at_first text)
first-kept text h =
    record {
      text-places = h;
      number-places = refl;
      up_to_tag = λ i. omega (arith, zeros i);
      counts = record { short = omega arith; few = omega arith; some = λ e. absurd (false≢true e) };
    }

pub first-represents : (text : List ℕ) → Represents (kept_at_first text) nothing
first-represents text =
    record {
      text_kept = refl;
      number_count = refl;
      width_kept = refl;
      in-number = refl;
      first = λ i _. zeros i;
      last = λ h. absurd (omega arith);
      well_scanned = nothing-well;
    }

-- ---- The counts after one byte more of each kind.
module _ (k : Kept) (C : Counts k.scan) where
  other-counts : (b : ℕ) → Counts (keep_other k b).scan
  other-counts b = record { short = omega arith; few = C.few; some = λ e. absurd (false≢true e) }

  opened-counts : (d : ℕ) → Counts (keep_opened k d).scan
  opened-counts d = record { short = omega arith; few = omega arith; some = λ e. omega arith }

  extended-counts : (d : ℕ) → k.scan.in_number ≡ true → Counts (keep_extended k d).scan
  extended-counts d e = record { short = C.short; few = C.few; some = λ _. C.some e }

-- ---- The arrays after one byte more of each kind.
module _ {k : Kept} (K : ScanKept k) where
  text-length : (b : ℕ) → length (text_with k.text k.scan.length b) ≡ text_places
  text-length b = go (ltb k.scan.length text_places)
    where
      go : (room : Bool) → length (cond room (set k.text k.scan.length b) k.text) ≡ text_places
      go true = length-set k.text k.scan.length b ∙ K.text-places
      go false = K.text-places

  other-kept : (b : ℕ) → ScanKept (keep_other k b)
  other-kept b =
      record {
        text-places = text-length b;
        number-places = K.number-places;
        up_to_tag = K.up_to_tag;
        counts = other-counts k K.counts b;
      }

  opened-kept : (d : ℕ) → d < 10 → ScanKept (keep_opened k d)
  opened-kept d h =
      record {
        text-places = text-length zero_digit;
        number-places = length-set k.numbers _ d ∙ K.number-places;
        up_to_tag = up-to-tag-set k.numbers (min number_places (k.scan.count + 1) - 1) d K.up_to_tag
            (omega arith);
        counts = opened-counts k K.counts d;
      }

  extended-kept : (d : ℕ) → k.scan.in_number ≡ true → ScanKept (keep_extended k d)
  extended-kept d e =
      let place = k.scan.count - 1 in
      let v = kept_number (with_digit k.numbers place d) in
      record {
        text-places = K.text-places;
        number-places = length-set k.numbers place v ∙ K.number-places;
        up_to_tag = up-to-tag-set k.numbers place v K.up_to_tag (omega arith);
        counts = extended-counts k K.counts d e;
      }

  pub byte-scan-kept : (b : ℕ) → ScanKept (keep_byte k b)
  unfolding keep_byte
  byte-scan-kept b = go (is_digit b) k.scan.in_number refl refl
    where
      go : (digit within : Bool) → is_digit b ≡ digit → k.scan.in_number ≡ within
          → ScanKept (cond digit (cond within (keep_extended k (b - zero_digit)) (keep_opened k (b - zero_digit)))
          (keep_other k b))
      go true true e f = extended-kept (b - zero_digit) f
      go true false e f = opened-kept (b - zero_digit) (digit-small b e)
      go false within e f = other-kept b

-- ---- What it stands for.
module _ {k : Kept} {σ : Scanned} (K : ScanKept k) (R : Represents k σ) where
  text-more : (b : ℕ) → take (min text_places (k.scan.length + 1)) (text_with k.text k.scan.length b)
      ≡ take text_places (σ.text ++ (b ∷ []))
  text-more b =
      byte-kept text_places k.text σ.text k.scan.length b K.text-places K.counts.short R.text_kept

  other-represents : (b : ℕ) → is_digit b ≡ false → Represents (keep_other k b) (appended σ b)
  other-represents b h =
      record {
        text_kept = text-more b;
        number_count = R.number_count;
        width_kept = R.width_kept;
        in-number = refl;
        first = R.first;
        last = R.last;
        well_scanned = appended-well R.well_scanned b h;
      }

  -- the first digit of a number
  opened-represents : (d : ℕ) → d < 10 → Represents (keep_opened k d) (opened σ d)
  opened-represents d h =
      let held = k.numbers in
      let count = k.scan.count in
      let long = K.number-places in
      record {
        text_kept = text-more zero_digit;
        number_count = more-number-count held σ.numbers count long R.number_count d;
        width_kept = refl;
        in-number = refl;
        first = more-first held σ.numbers count long R.number_count d (omega arith) R.first;
        last = λ _. more-last held σ.numbers count long R.number_count d (omega arith);
        well_scanned = opened-well R.well_scanned d h;
      }

  -- a further digit
  module _ (d : ℕ) (h : d < 10) (is_open : k.scan.in_number ≡ true) where
    some : 0 < k.scan.count
    some = K.counts.some is_open

    -- What is kept of a number with a further digit is what is kept of the digit put to what was kept.
    next-kept : kept_number (with_digit k.numbers (k.scan.count - 1) d)
        ≡ kept_number (with_digit σ.numbers (length σ.numbers - 1) d)
    next-kept = omega (arith, R.last some)

    extended-represents : Represents (keep_extended k d) (extended σ d)
    extended-represents =
        let held = k.numbers in
        let count = k.scan.count in
        let long = K.number-places in
        let meant = with_digit σ.numbers (length σ.numbers - 1) d in
        record {
          text_kept = R.text_kept;
          number_count = R.number_count ∙ sym (simp length-set);
          width_kept = omega (arith, R.width_kept);
          in-number = refl;
          first = rw next-kept (other-first held σ.numbers count long R.number_count meant some R.first);
          last = λ _. rw next-kept (other_last held σ.numbers count long R.number_count meant some);
          well_scanned = extended-well R.well_scanned d h (sym R.in-number ∙ is_open);
        }

-- ---- One byte, and many.
pub byte-represents : {k : Kept} {σ : Scanned} → ScanKept k → Represents k σ → (b : ℕ)
    → Represents (keep_byte k b) (scan_byte σ b)
unfolding keep_byte
byte-represents {k} {σ} K R b = go (is_digit b) k.scan.in_number refl refl
  where
    go : (digit within : Bool) → is_digit b ≡ digit → k.scan.in_number ≡ within
        → Represents (cond digit (cond within (keep_extended k (b - zero_digit)) (keep_opened k (b - zero_digit)))
        (keep_other k b)) (scan_byte σ b)
    go true true e f =
        rw (further-digit σ b e (sym R.in-number ∙ f)) (extended-represents K R (b - zero_digit) (digit-small b e) f)
    go true false e f =
        rw (first-digit σ b e (sym R.in-number ∙ f)) (opened-represents K R (b - zero_digit) (digit-small b e))
    go false within e f = rw (other_byte σ b e) (other-represents K R b e)

pub bytes-scan-kept : {k : Kept} → ScanKept k → (bytes : List ℕ) → ScanKept (keep_bytes k bytes)
unfolding keep_bytes
bytes-scan-kept K [] = K
bytes-scan-kept {k} K (b ∷ bs) = bytes-scan-kept {k = keep_byte k b} (byte-scan-kept K b) bs

bytes-represents : {k : Kept} {σ : Scanned} → ScanKept k → Represents k σ → (bytes : List ℕ)
    → Represents (keep_bytes k bytes) (scan_bytes σ bytes)
unfolding keep_bytes scan_bytes
bytes-represents K R [] = R
bytes-represents {k} {σ} K R (b ∷ bs) =
    bytes-represents {k = keep_byte k b} {σ = scan_byte σ b} (byte-scan-kept K b) (byte-represents K R b) bs
