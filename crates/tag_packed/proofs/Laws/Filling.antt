-- A part of a list, read and written.
use mathlib.Core.Path.{◌≡◌}
use mathlib.Core.List.{List}
use Prim.Native.Nat.{ℕ, ◌+◌, ◌≤◌, ◌<◌}
use native.Mathlib.Omega.{arith}
use borrow.Rule.Slice.PartMut.{put_mid}
use Rattle.std.proofs.Common.{refl, sym, ◌∙◌, append_assoc}
use Rattle.std.proofs.lemmas.Slice.{put_mid-paste}
use Rattle.std.proofs.lemmas.List.Edits.{paste_all}
use lib.ListN.{length, get_or, take, drop}
use lib.Seq.{sets, sets-eq, get_or-take, get_or-drop}

-- The element at a place of a part of a list.
pub part_at : (l : List ℕ) (at n i : ℕ) → i < n → get_or l (at + i) 0 ≡ get_or (take n (drop at l)) i 0
part_at l at n i h = rw (get_or-take n (drop at l) i 0 h, get_or-drop at l i 0)

-- A part of a slice, written at once.
pub part-stored : (xs zs : List ℕ) (at k : ℕ) {ys : List ℕ} → ys ≡ zs → k ≡ length zs → at + k ≤ length xs
    → put_mid at k xs ys ≡ sets xs at zs
part-stored xs zs at k {ys} same long fits =
    put_mid-paste at k xs ys zs k same refl long
    ∙ paste_all xs at zs k long
    ∙ rw long (sym (append_assoc (take at xs) zs (drop (at + length zs) xs)))
    ∙ sym (sets-eq zs xs at (omega arith))
