-- A lane that a tick does not touch keeps its structure: its nodes keep their class and their words, its hats stay.
-- What was cut off behind it stays by the guarantee, and the spurs are those of the lane that the tick changed.
use mathlib.Core.Path.{◌≡◌, refl, ◌∙◌}
use mathlib.Core.Logic.{inl, inr}
use mathlib.Core.Bool.{true}
use Prim.Native.Nat.{ℕ, suc, ◌≤◌}
use native.Mathlib.Omega.{arith}
use Rattle.machine.specs.Sides.{Side}
use Rattle.machine.proofs.Words.Memories.{View}
use Rattle.machine.proofs.Linearizability.Model.Classes.{Class, main}
use Rattle.machine.proofs.Linearizability.Model.Structure.{Main, Frame, MainValues, Linked, Structure}
use Rattle.machine.proofs.Linearizability.Model.Guarantee.{SameIn, GuaranteesIn}
use Rattle.machine.proofs.Linearizability.Survival.Stability.{cut-from-stable}

-- Lane l is left as it is.
pub record LeftAlone (l : ℕ) (m m' : View) (class class' : ℕ → Class) : Type 0 where
  pub stays-main : (x : ℕ) → class x ≡ main l → class' x ≡ main l
  pub was-main : (x : ℕ) → class' x ≡ main l → class x ≡ main l
  pub same-words : (x : ℕ) → class x ≡ main l → SameIn m m' x
  pub same_hats : m'.hats l ≡ m.hats l

module _ {ℓ i k : ℕ} {s o : Side} {m m' : View} {class class' : ℕ → Class} {F G : Frame}
    (S : Structure ℓ s o m class F) (R : Structure i s o m' class' G)
    (U : GuaranteesIn (λ _. true) k s o m class m' class') (A : LeftAlone ℓ m m' class class') where
  open F use {at, index, n}

  words-at : (j : ℕ) → j ≤ n → SameIn m m' (at j)
  words-at j h = A.same-words (at j) (S.main_list.is-main j h)

  other-main-list : Main ℓ class' at index n
  other-main-list =
      record {
        is-main = λ j h. A.stays-main (at j) (S.main_list.is-main j h);
        index_at = S.main_list.index_at;
        index-le = λ x h. S.main_list.index-le x (A.was-main x h);
        at-index = λ x h. S.main_list.at-index x (A.was-main x h);
      }

  other-values : MainValues s o m'.val F
  other-values =
      let p = S.a<b in
      let q = S.b≤n in
      record {
        X-first = (words-at 0 (omega arith)).same-val ∙ S.values.X-first;
        N-far = λ j h l. (words-at j (omega arith)).same-val ∙ S.values.N-far j h l;
        bag-between = λ j h l. (words-at j (omega arith)).same-val ∙ S.values.bag-between j h l;
        N-near = λ j h l. (words-at j (omega arith)).same-val ∙ S.values.N-near j h l;
        X-last = (words-at n (omega arith)).same-val ∙ S.values.X-last;
      }

  other-links : Linked m'.out m'.inn at n
  other-links =
      record {
        links-out = λ j h. (words-at j (omega arith)).same_out ∙ S.links.links-out j h;
        links-in = λ j h. (words-at (suc j) h).same-inn ∙ S.links.links-in j h;
      }

  pub other-lane : Structure ℓ s o m' class' F
  other-lane =
      record {
        sides = S.sides;
        none_free = R.none_free;
        a<b = S.a<b;
        b≤n = S.b≤n;
        main_list = other-main-list;
        values = other-values;
        links = other-links;
        last_out =
            rw (words-at n (omega arith)).same_out
            (elim S.last_out [ inl h ↦ inl h | inr y ↦ inr (cut-from-stable U.near _ _ refl y) ]);
        first-in =
            rw (words-at 0 (omega arith)).same-inn
            (elim S.first-in [ inl h ↦ inl h | inr y ↦ inr (cut-from-stable U.far _ _ refl y) ]);
        near-hat =
            λ j e. rw A.same_hats
            (elim (S.near-hat j e) [ inl h ↦ inl h | inr y ↦ inr (cut-from-stable U.near _ _ refl y) ]);
        far-hat =
            rw A.same_hats
            (elim S.far-hat [ inl h ↦ inl h | inr y ↦ inr (cut-from-stable U.far _ _ refl y) ]);
        near-spur = R.near-spur;
        far_spur = R.far_spur;
      }
