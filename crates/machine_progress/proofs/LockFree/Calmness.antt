-- Calm changes: how they come about, and that they leave what is at the hats.
use mathlib.Core.Path.{◌≡◌, refl}
use mathlib.Core.Logic.{inl, inr}
use mathlib.Core.Bool.{Bool, true}
use mathlib.Core.List.{List}
use Prim.Native.Nat.{ℕ, ◌<◌}
use native.Mathlib.Omega.{arith}
use Rattle.machine.specs.Sides.{Side}
use Rattle.machine.specs.Values.{Y}
use Rattle.machine.proofs.Basics.Contradiction.{refute}
use Rattle.machine.proofs.Words.Memories.{View}
use Rattle.machine.proofs.Linearizability.Model.Classes.{Class, main, Old}
use Rattle.machine.proofs.Linearizability.Model.Structure.{Frame, Structure, InLanes}
use Rattle.machine.proofs.Linearizability.Model.Nodes.{out-old, inn-old, Y-in-spur}
use Rattle.machine.proofs.Linearizability.Model.Guarantee.{SameIn, Guarantee}
use Rattle.machine.proofs.Linearizability.Model.Invariant.{Lanes, every-lane}
use Rattle.machine.proofs.Linearizability.Model.Held.{main-held, ClosedSet}
use Rattle.machine_progress.proofs.SoloBound.Walks.{ends_same}
use Rattle.machine_progress.proofs.SoloBound.AtHat.{j, j-next, inn-hat, past-hat}
use Rattle.machine_progress.proofs.LockFree.Change.{kept, marked, Calm, past, Steady, NoCut}

-- Nothing is written.
pub calm-refl : {held : ℕ → Bool} {class : ℕ → Class} {m : View} → Calm held class m m
calm-refl =
    record {
      same_hats = refl;
      main-same = λ x l h. record { same_out = refl; same-inn = refl; same-val = refl };
      out-ends = λ n x r h w. w;
      inn-ends = λ n x r h w. w;
      values = λ x r h. kept refl;
    }

-- Held old nodes keep their words.
module _ {L ℓ : ℕ} {held : ℕ → Bool} {s o : Side} {m : View} {class : ℕ → Class} {F : Frame} {r : ℕ → List ℕ}
    (S : Structure ℓ s o m class F) (D : Lanes L s o m class r) (H : ClosedSet L held m)
    {m' : View} (same_hats : m'.hats ≡ m.hats)
    (same : (x : ℕ) → held x ≡ true → Old class x → SameIn m m' x) where
  abbrev Safe : ℕ → Type 0
  Safe x = (held x ≡ true) × Old class x

  main-is-held : (x l : ℕ) → class x ≡ main l → held x ≡ true
  main-is-held x l c = let is_lane = D.below x l c in main-held (D.lane l is_lane).structure H is_lane x c

  pub calm-untouched : Calm held class m m'
  calm-untouched =
      record {
        same_hats = same_hats;
        main-same = λ x l c. same x (main-is-held x l c) (cc);
        out-ends =
            λ i x r h w. ends_same Safe
            (λ y p ne. (H.out-closed y p.0 ne, out-old S (every-lane D) y p.1 ne))
            (λ y p. (same y p.0 p.1).same_out) (r, h) w;
        inn-ends =
            λ i x r h w. ends_same Safe
            (λ y p ne. (H.inn-closed y p.0 ne, inn-old S (every-lane D) y p.1 ne))
            (λ y p. (same y p.0 p.1).same-inn) (r, h) w;
        values = λ x r h. kept (same x r h).same-val;
      }

module _ {L ℓ : ℕ} {held : ℕ → Bool} {s o : Side} {m : View} {class : ℕ → Class} {F : Frame}
    (S : Structure ℓ s o m class F) (every : InLanes s o m class) (H : ClosedSet L held m) (is_lane : ℓ < L) where
  open F use {at, b}

  -- ---- What is at the hat.
  module _ {m' : View} {class' : ℕ → Class} (C : Calm held class m m')
      (G : Guarantee held s m.out m.inn m.val class m'.out m'.inn m'.val class') where
    b-main : class (at b) ≡ main ℓ
    b-main = S.main_list.is-main b S.b≤n

    j-main : class (at (j S)) ≡ main ℓ
    j-main = S.main_list.is-main (j S) (omega (arith, j-next S, S.b≤n))

    pub hat-inn-same : m'.inn (m.hats ℓ s) ≡ m.inn (m.hats ℓ s)
    hat-inn-same =
        elim (S.near-hat (j S) (j-next S)) [
          | inl e ↦ cc (C.main-same (at b) ℓ b-main).same-inn
          | inr y ↦ G.spur-inward (m.hats ℓ s) (H.hats-held ℓ s is_lane) y.in-spur
        ]

    pub hat-val-same : m'.val (m.hats ℓ s) ≡ m.val (m.hats ℓ s)
    hat-val-same =
        elim (S.near-hat (j S) (j-next S)) [
          | inl e ↦ cc (C.main-same (at b) ℓ b-main).same-val
          | inr y ↦ cc (G.Y-stays (m.hats ℓ s) (H.hats-held ℓ s is_lane) y.in-spur y.is-Y, y.is-Y)
        ]

    pub behind-words : SameIn m m' (m.inn (m.hats ℓ s))
    behind-words = C.main-same (m.inn (m.hats ℓ s)) ℓ (cc (inn-hat S, j-main))

    pub past_words : SameIn m m' (past ℓ s m)
    past_words = C.main-same (past ℓ s m) ℓ (cc (past-hat S, b-main))

    -- A Y of an old node stays.
    pub Y-kept : (x : ℕ) → held x ≡ true → Old class x → m.val x ≡ Y s → m'.val x ≡ Y s
    Y-kept x r h v = G.Y-stays x r (Y-in-spur S every x h v) v

    pub calm-steady : Steady ℓ s m m'
    calm-steady =
        record {
          behind-same = cc (C.same_hats, hat-inn-same);
          past_same = cc (C.same_hats, hat-inn-same, behind-words.same_out);
          stays-off-Y = λ ne y. ne (cc (C.same_hats, hat-val-same));
        }

    pub calm-no-cut : NoCut held class ℓ s m m'
    calm-no-cut =
        record {
          N-stays = λ v. cc past_words.same-val;
          no-X = λ x r h ne e. elim (C.values x r h) [ kept q ↦ ne (cc) | marked d q ↦ refute (cc) ];
        }
