-- Ticks that write nothing of main but an outward link that leads into the near spur, and nothing of the far spur:
-- lines 62 and 25 in a spur, 64, 78, 79 and 82. They say nothing of a lane, and keep every lane.
use mathlib.Core.Path.{◌≡◌, refl, ◌∙◌}
use mathlib.Core.Logic.{◌⊎◌, inl, inr}
use mathlib.Core.Bool.{Bool}
use Prim.Native.Nat.{ℕ, ◌≤◌, ◌<◌}
use native.Mathlib.Omega.{arith}
use Rattle.machine.specs.Sides.{Side}
use Rattle.machine.specs.Values.{Value, Y}
use Rattle.machine.specs.Tasks.{no_node}
use Rattle.machine.proofs.Basics.Contradiction.{clash, refute}
use Rattle.machine.proofs.Words.Memories.{View}
use Rattle.machine.proofs.Linearizability.Model.Classes.{
  Class,
  free,
  main,
  spur,
  Old,
  in-main,
  in_near,
  in-far,
  old-class,
}
use Rattle.machine.proofs.Linearizability.Model.Structure.{
  CutFrom,
  Main,
  Frame,
  MainValues,
  Spur,
  Structure,
  InLanes,
}
use Rattle.machine.proofs.Linearizability.Model.Guarantee.{Guarantee, ChainsKept, Guarantees}
use Rattle.machine.proofs.Linearizability.Model.Nodes.{at-apart, leads-to-spur}

-- Main and the far spur keep their nodes; the near spur may grow.
pub record SpurClasses (o : Side) (class class' : ℕ → Class) : Type 0 where
  pub main-stays : (x l : ℕ) → class x ≡ main l → class' x ≡ main l
  pub was-main : (x l : ℕ) → class' x ≡ main l → class x ≡ main l
  pub spur-stays : (x : ℕ) (z : Side) → class x ≡ spur z → class' x ≡ spur z
  pub was-far-spur : (x : ℕ) → class' x ≡ spur o → class x ≡ spur o
  pub none_free : class' no_node ≡ free

-- Such a tick of task k on side s.
pub record SpurStep (k : ℕ) (s o : Side)
    (out inn : ℕ → ℕ) (val : ℕ → Value) (class : ℕ → Class)
    (out' : ℕ → ℕ) (val' : ℕ → Value) (class' : ℕ → Class) : Type 0 where
  pub classes : SpurClasses o class class'
  pub main-value : (x l : ℕ) → class x ≡ main l → val' x ≡ val x
  pub far-value : (x : ℕ) → class x ≡ spur o → val' x ≡ val x
  pub Y-stays : (x : ℕ) → class x ≡ spur s → val x ≡ Y s → val' x ≡ Y s
  pub main-outward : (x l : ℕ) → class x ≡ main l → (out' x ≡ out x) ⊎ ((class (out x) ≡ spur s) × (out' x ≡ no_node))
  pub far-outward : (x : ℕ) → class x ≡ spur o → out' x ≡ out x
  pub near-spur : Spur s out' inn val' class'
  pub chains : ChainsKept k out inn val class out' inn val' class'

module _ {ℓ : ℕ} {s o : Side} {m : View} {class : ℕ → Class} {F : Frame} (S : Structure ℓ s o m class F)
    {k : ℕ} {out' : ℕ → ℕ} {val' : ℕ → Value} {class' : ℕ → Class}
    (T : SpurStep k s o m.out m.inn m.val class out' val' class') where
  open m use {out, inn, val, hats}
  open F use {at, index, n}

  stays-old : (x : ℕ) → Old class x → Old class' x
  stays-old x h =
      elim (old-class S.sides (class x) h) [
        | in-main l e ↦ cc (T.classes.main-stays x l e)
        | in_near e ↦ cc (T.classes.spur-stays x s e)
        | in-far e ↦ cc (T.classes.spur-stays x o e)
      ]

  near-cut-from : {x y : ℕ} → CutFrom s inn val class y x → CutFrom s inn val' class' y x
  near-cut-from h =
      record {
        in-spur = T.classes.spur-stays _ _ h.in-spur;
        is-Y = T.Y-stays _ h.in-spur h.is-Y;
        leads-back = h.leads-back;
      }

  far-cut-from : {x y : ℕ} → CutFrom o out val class y x → CutFrom o out' val' class' y x
  far-cut-from h =
      record {
        in-spur = T.classes.spur-stays _ _ h.in-spur;
        is-Y = T.far-value _ h.in-spur ∙ h.is-Y;
        leads-back = T.far-outward _ h.in-spur ∙ h.leads-back;
      }

  value-at : (i : ℕ) → i ≤ n → val' (at i) ≡ val (at i)
  value-at i h = T.main-value (at i) ℓ (S.main_list.is-main i h)

  out_at : (i : ℕ) → i < n → out' (at i) ≡ out (at i)
  out_at i h =
      let c = S.main_list.is-main i (omega arith) in
      elim (T.main-outward (at i) ℓ c) [
        | inl e ↦ e
        | inr e ↦
            absurd (at-apart S i n (omega arith) (omega arith) (omega arith) (leads-to-spur S (at i) c e.0))
      ]

  spur-main-list : Main ℓ class' at index n
  spur-main-list =
      record {
        is-main = λ i h. T.classes.main-stays _ ℓ (S.main_list.is-main i h);
        index_at = S.main_list.index_at;
        index-le = λ x h. S.main_list.index-le x (T.classes.was-main x ℓ h);
        at-index = λ x h. S.main_list.at-index x (T.classes.was-main x ℓ h);
      }

  spur-values : MainValues s o val' F
  spur-values =
      let p = S.a<b in
      let q = S.b≤n in
      record {
        X-first = value-at 0 (omega arith) ∙ S.values.X-first;
        N-far = λ i h l. value-at i (omega arith) ∙ S.values.N-far i h l;
        bag-between = λ i h l. value-at i (omega arith) ∙ S.values.bag-between i h l;
        N-near = λ i h l. value-at i (omega arith) ∙ S.values.N-near i h l;
        X-last = value-at n (omega arith) ∙ S.values.X-last;
      }

  spur-far-spur : Spur o inn out' val' class'
  spur-far-spur =
      record {
        own-mark =
            λ x h. let c = T.classes.was-far-spur x h in cc (T.far-value x c, S.far_spur.own-mark x c);
        inward-old =
            λ x h. let c = T.classes.was-far-spur x h in
            cc (T.far-outward x c, stays-old _ (S.far_spur.inward-old x c));
        outward-spur =
            λ x h. elim (S.far_spur.outward-spur x (T.classes.was-far-spur x h)) [
              | inl e ↦ inl e
              | inr e ↦ inr (T.classes.spur-stays _ _ e)
            ];
      }

  pub spur-keeps : Structure ℓ s o (record { out = out'; inn = inn; val = val'; hats = hats }) class' F
  spur-keeps =
      record {
        sides = S.sides;
        none_free = T.classes.none_free;
        a<b = S.a<b;
        b≤n = S.b≤n;
        main_list = spur-main-list;
        values = spur-values;
        links =
            record {
              links-out = λ i h. out_at i h ∙ S.links.links-out i h;
              links-in = S.links.links-in;
            };
        last_out =
            elim (T.main-outward (at n) ℓ (S.main_list.is-main n (omega arith))) [
              | inl e ↦ rw e (elim S.last_out [ inl h ↦ inl h | inr y ↦ inr (near-cut-from y) ])
              | inr e ↦ inl e.1
            ];
        first-in = elim S.first-in [ inl h ↦ inl h | inr y ↦ inr (far-cut-from y) ];
        near-hat = λ j e. elim (S.near-hat j e) [ inl h ↦ inl h | inr y ↦ inr (near-cut-from y) ];
        far-hat = elim S.far-hat [ inl h ↦ inl h | inr y ↦ inr (far-cut-from y) ];
        near-spur = T.near-spur;
        far_spur = spur-far-spur;
      }

  spur-near : InLanes s o m class → (held : ℕ → Bool) → Guarantee held s out inn val class out' inn val' class'
  spur-near every held =
      record {
        spur-stays = λ x _ h. T.classes.spur-stays x s h;
        spur-inward = λ x _ h. refl;
        Y-stays = λ x _ h y. T.Y-stays x h y;
        spur-not-main = λ x l h e. refute (cc (T.classes.spur-stays x s h));
        main-old = λ x l h. stays-old x (cc);
        main-outward =
            λ x l h ne. elim (T.main-outward x l h) [
              | inl e ↦ inl e
              | inr e ↦
                  let R = (every x l h).1 in
                  let last = leads-to-spur R x h e.0 in
                  elim R.last_out [ inl f ↦ absurd (ne (cc)) | inr y ↦ inr (rw last (near-cut-from y)) ]
            ];
        cut-inward = λ x l h c. refl;
        cut-behind-main = λ x l h c. clash (cc (T.classes.main-stays x l h));
      }

  spur-far : (held : ℕ → Bool) → Guarantee held o inn out val class inn out' val' class'
  spur-far held =
      record {
        spur-stays = λ x _ h. T.classes.spur-stays x o h;
        spur-inward = λ x _ h. T.far-outward x h;
        Y-stays = λ x _ h y. T.far-value x h ∙ y;
        spur-not-main = λ x l h e. refute (cc (T.classes.spur-stays x o h));
        main-old = λ x l h. stays-old x (cc);
        main-outward = λ x l h ne. inl refl;
        cut-inward = λ x l h c. clash (cc (T.classes.main-stays x l h));
        cut-behind-main = λ x l h c. clash (cc (T.classes.main-stays x l h));
      }

  pub spur-guarantees : InLanes s o m class → (held : ℕ → Bool)
      → Guarantees held k s o out inn val class out' inn val' class'
  spur-guarantees every held = record { near = spur-near every held; far = spur-far held; chains = T.chains }
