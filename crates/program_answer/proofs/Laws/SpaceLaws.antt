-- What a call on the first words of the space leaves in the whole.
use mathlib.Core.Path.{◌≡◌, refl, ◌∙◌}
use mathlib.Core.List.{List, ◌++◌}
use Prim.Native.Nat.{ℕ, ◌≤◌}
use native.Mathlib.Omega.{arith}
use lib.ListN.{length, take, drop, length-append, length-drop}
use lib.Seq.{length-take-le, take_at, drop_at}
use Rattle.program_answer.specs.Forms.{Answered}
use Rattle.program_answer.specs.Space.{answered_of, Leaves}

-- The first words are lent, and come back as ys.
pub front-leaves : (space ys : List ℕ) (len : ℕ) → len ≤ length space → length ys ≡ length (take len space)
    → {text : List ℕ} {a : Answered} → answered_of text ys ≡ a → Leaves space (ys ++ drop len space) len text a
front-leaves space ys len h same e =
    let long : length ys ≡ len = same ∙ length-take-le len space h in
    record {
      answers = rw (take_at ys (drop len space) len long) e;
      others = drop_at ys (drop len space) len long;
      room = simp (length-append, length-drop) (omega arith);
    }

-- Nothing is written.
pub same-leaves : (space : List ℕ) (len : ℕ) → len ≤ length space
    → {text : List ℕ} {a : Answered} → answered_of text (take len space) ≡ a → Leaves space space len text a
same-leaves space len h e = record { answers = e; others = refl; room = h }
