-- A line scanned on from a place of a chunk, byte by byte, to its end.
use mathlib.Core.List.{List, []}
use mathlib.Core.Path.{◌≡◌, refl, sym, ap, ◌∙◌}
use Prim.Native.Nat.{ℕ, ◌+◌, ◌<◌, ◌≤◌}
use native.Mathlib.Omega.{arith}
use lib.ListN.{length, get_or, drop}
use Rattle.text.specs.Lines.{line_feed, first_line}
use Rattle.text.proofs.Laws.FirstLine.{line-goes-on}
use Rattle.text_scan.specs.Kept.{Kept, keep_byte, keep_bytes, ScansLine}

-- ---- At a place i of the chunk, what is left of the line gives what the whole of it gives.
pub record Scanning (chunk : List ℕ) (from : ℕ) (before now : Kept) (i : ℕ) : Type 0 where
  pub within : i ≤ length chunk
  pub ends : i + length (first_line (drop i chunk)) ≡ from + length (first_line (drop from chunk))
  pub keeps : keep_bytes now (first_line (drop i chunk)) ≡ keep_bytes before (first_line (drop from chunk))

pub scanning-starts : (chunk : List ℕ) (from : ℕ) (k : Kept) → from ≤ length chunk → Scanning chunk from k k from
scanning-starts chunk from k h = record { within = h; ends = refl; keeps = refl }

module _ {chunk : List ℕ} {from i : ℕ} {before now : Kept} (S : Scanning chunk from before now i) where
  pub scanning-goes-on : {next : Kept} → i < length chunk → (get_or chunk i 0 ≡ line_feed → ⊥)
      → next ≡ keep_byte now (get_or chunk i 0) → Scanning chunk from before next (i + 1)
  unfolding keep_bytes
  scanning-goes-on h e kept =
      let l = line-goes-on chunk i h e in
      record {
        within = omega arith;
        ends = let z = ap length l in let y = S.ends in omega arith;
        keeps = rw kept (sym (ap (keep_bytes now) l) ∙ S.keeps);
      }

  pub scanning-ends : first_line (drop i chunk) ≡ [] → ScansLine chunk from before now i
  unfolding keep_bytes
  scanning-ends e =
      record {
        stops = let z = ap length e in let y = S.ends in omega arith;
        keeps = sym (ap (keep_bytes now) e) ∙ S.keeps;
      }
