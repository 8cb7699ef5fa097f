-- The lines of a remove that have a duty, or come to one.
use mathlib.Core.Path.{◌≡◌, refl, sym, subst, ◌∙◌}
use mathlib.Core.Logic.{◌≢◌, inl, inr}
use mathlib.Core.Bool.{Bool}
use mathlib.Core.List.{[], ◌∷◌}
use Prim.Native.Nat.{ℕ}
use Rattle.machine.specs.Outcomes.Answer.{Answer}
use Rattle.machine.specs.Sides.{Side}
use Rattle.machine.specs.Values.{N, X, Y}
use Rattle.machine.specs.Steps.{Step}
use Rattle.machine.specs.Steps as Steps
use Rattle.machine.specs.Tasks.{Task, no_node, goto, with_a, with_b}
use Rattle.machine.specs.Lines.{answers, out≔, val≔, Effect, next, writing}
use Rattle.machine.proofs.Basics.Contradiction.{clash}
use Rattle.machine.proofs.Basics.Updates.{Wrote, it-is, it-is-not, wrote?, update, update-wrote}
use Rattle.machine.proofs.Words.Memories.{View, written}
use Rattle.machine.proofs.Linearizability.Model.Sides.{Opposite}
use Rattle.machine.proofs.Linearizability.Model.Classes.{Class}
use Rattle.machine_capacity.proofs.Removers.{Duty, before-cut, cut-pair, at-B, at-A, at_both, duty, Mark, end}
use Rattle.machine_capacity.proofs.Removers.{cut, marked, Cuts, Sure}
use Rattle.machine_capacity.proofs.KeepsRemovers.{StillCut, newly, as_before, same-link, from-Y, to-Y}
use Rattle.machine_capacity.proofs.KeepsRemovers.{RemoversAfter, far-plain, marked-elsewhere, same-words}
use Rattle.machine_capacity.proofs.KeepsRemovers.{plain_value}
-- The first node of a chain of side s has a mark of s.
use Rattle.machine_capacity.proofs.LineEnds.{duty-goes}

module _ (held : ℕ → Bool) (s o : Side) (w : Opposite s o) (m : View) (class : ℕ → Class)
    (t : Task) where
  abbrev Ok : Duty → Effect → Type 0
  Ok d e = RemoversAfter held class t.lane s o m d t e

  pub done-62 : Sure before-cut s m t → m.val t.A ≡ N s → m.val t.B ≡ N s
      → Ok before-cut
      (writing (val≔ t.A (X s) ∷ val≔ t.B (Y s) ∷ []) (next t Steps.line64))
  done-62 u a b =
      record {
        near =
            record {
              still-cut =
                  λ μ n v ne.
                  elim (wrote? w_b n) [
                    | it-is z p ↦ at-B-cut μ n z p v
                    | it-is-not z p ↦
                        elim (wrote? w_a n) [
                          | it-is i q ↦ at-A-cut (is-linked u a b) μ n i (p ∙ q) v
                          | it-is-not i q ↦ as_before (sym q ∙ sym p ∙ v) refl (λ c. absurd c)
                        ]
                  ];
              link_stays = λ x _ _ _. same-link refl;
            };
        far =
            record {
              still-cut =
                  λ μ n v ne.
                  let c = marked-elsewhere w_b (far-plain w refl) μ n v in
                  as_before (marked-elsewhere w_a (far-plain w refl) μ n c.1).1 refl (λ c. absurd c);
              link_stays = λ x _ _ _. same-link refl;
            };
        sure = w_b.here;
      }
    where
      w_a : Wrote m.val t.A (X s) (update m.val t.A (X s))
      w_a = update-wrote m.val t.A (X s)

      w_b : Wrote (update m.val t.A (X s)) t.B (Y s) (update (update m.val t.A (X s)) t.B (Y s))
      w_b = update-wrote (update m.val t.A (X s)) t.B (Y s)

      t' : Task
      t' = goto t Steps.line64

      m' : View
      m' = written t.lane s (val≔ t.A (X s) ∷ val≔ t.B (Y s) ∷ []) m

      is-linked : Sure before-cut s m t → m.val t.A ≡ N s → m.val t.B ≡ N s → m.out t.A ≡ t.B
      is-linked u a b = elim u [ inl q ↦ q | inr (inl q) ↦ clash (cc) | inr (inr q) ↦ clash (cc) ]

      at-B-cut : (μ : Mark) (n : ℕ) → n ≡ t.B → m'.val n ≡ Y s → m'.val n ≡ marked μ s
          → StillCut s m m' before-cut cut-pair t t' μ n
      at-B-cut end n z p v = clash (cc)
      at-B-cut cut n z p v = newly (sym z)

      at-A-cut : m.out t.A ≡ t.B → (μ : Mark) (n : ℕ) → n ≡ t.A → m'.val n ≡ X s → m'.val n ≡ marked μ s
          → StillCut s m m' before-cut cut-pair t t' μ n
      at-A-cut q end n z p v = newly (sym z, cc)
      at-A-cut q cut n z p v = clash (cc)

  pub done-64 : Sure cut-pair s m t → m.out t.A ≡ t.B
      → Ok cut-pair (writing (out≔ t.A no_node ∷ []) (next t Steps.line74))
  done-64 u q =
      record {
        near =
            record {
              still-cut =
                  λ μ n v ne.
                  elim (wrote? wo n) [
                    | it-is z p ↦ absurd (ne p)
                    | it-is-not z p ↦ as_before v (sym p) (still μ n z)
                  ];
              link_stays =
                  λ x _ _ ne.
                  elim (wrote? wo x) [ it-is z p ↦ to-Y (cc) | it-is-not z p ↦ same-link p ];
            };
        far = same-words (λ n. refl) (λ n. refl);
        sure = u;
      }
    where
      wo : Wrote m.out t.A no_node (update m.out t.A no_node)
      wo = update-wrote m.out t.A no_node

      still : (μ : Mark) (n : ℕ) → n ≢ t.A → Cuts cut-pair μ t n (m.out n)
          → Cuts at-B μ (goto t Steps.line74) n (m.out n)
      still end n z c = absurd (z (sym c.0))
      still cut n z c = c

  pub lost-64 : Sure cut-pair s m t → m.out t.A ≢ t.B → Ok cut-pair (next t Steps.line74)
  lost-64 u q = duty-goes cut-pair u (still-linked q)
    where
      still-linked : m.out t.A ≢ t.B → (μ : Mark) (n : ℕ) → Cuts cut-pair μ t n (m.out n)
          → Cuts at-B μ (goto t Steps.line74) n (m.out n)
      still-linked q end n c = absurd (q (cc (c.0, c.1)))
      still-linked q cut n c = c

  pub moved-74 : Sure at-B s m t → {st : Step} → duty st ≡ at-A
      → Ok at-B (next (with_b (with_a t t.B) (m.out t.B)) st)
  moved-74 u {st} q =
      duty-goes at-B (subst (λ (d : Duty). Sure d s m t') (sym q) u)
      (λ μ n c. subst (λ (d : Duty). Cuts d μ t' n (m.out n)) (sym q) (still μ n c))
    where
      t' : Task
      t' = goto (with_b (with_a t t.B) (m.out t.B)) st

      still : (μ : Mark) (n : ℕ) → Cuts at-B μ t n (m.out n) → Cuts at-A μ t' n (m.out n)
      still end n c = c
      still cut n c = c

  -- A stays, and it is A's link that is to be cut.
  pub same_A : {t' : Task} {a : Answer} → duty t'.step ≡ at-A → t'.A ≡ t.A → m.val t.A ≡ Y s
      → Ok at-A (record { writes = []; task = t'; answer = a })
  same_A {t'} p q u =
      duty-goes at-A (subst (λ (d : Duty). Sure d s m t') (sym p) (cc))
      (λ μ n c. subst (λ (d : Duty). Cuts d μ t' n (m.out n)) (sym p) (still μ n c))
    where
      still : (μ : Mark) (n : ℕ) → Cuts at-A μ t n (m.out n) → Cuts at-A μ t' n (m.out n)
      still end n c = c
      still cut n c = q ∙ c

  pub done-78 : Sure at-A s m t → Ok at-A (writing (val≔ t.B (Y s) ∷ []) (next t Steps.line79))
  done-78 u =
      record {
        near =
            record {
              still-cut =
                  λ μ n v ne.
                  elim (wrote? wv n) [
                    | it-is z p ↦ at-B-cut μ n z p v
                    | it-is-not z p ↦ as_before (sym p ∙ v) refl (still μ n)
                  ];
              link_stays = λ x _ _ _. same-link refl;
            };
        far = plain_value (λ n. refl) wv (far-plain w refl);
        sure = (A-Y u, wv.here);
      }
    where
      wv : Wrote m.val t.B (Y s) (update m.val t.B (Y s))
      wv = update-wrote m.val t.B (Y s)

      t' : Task
      t' = goto t Steps.line79

      m' : View
      m' = written t.lane s (val≔ t.B (Y s) ∷ []) m

      at-B-cut : (μ : Mark) (n : ℕ) → n ≡ t.B → m'.val n ≡ Y s → m'.val n ≡ marked μ s
          → StillCut s m m' at-A at_both t t' μ n
      at-B-cut end n z p v = clash (cc)
      at-B-cut cut n z p v = newly (inr (sym z))

      still : (μ : Mark) (n : ℕ) → Cuts at-A μ t n (m.out n) → Cuts at_both μ t' n (m.out n)
      still end n c = c
      still cut n c = inl c

      A-Y : m.val t.A ≡ Y s → m'.val t.A ≡ Y s
      A-Y u = elim (wrote? wv t.A) [ it-is z p ↦ p | it-is-not z p ↦ p ∙ u ]

  pub done-79 : Sure at_both s m t → Ok at_both (writing (out≔ t.A no_node ∷ []) (next (with_a t t.B) Steps.line81))
  done-79 u =
      record {
        near =
            record {
              still-cut =
                  λ μ n v ne.
                  elim (wrote? wo n) [
                    | it-is z p ↦ absurd (ne p)
                    | it-is-not z p ↦ as_before v (sym p) (still μ n z)
                  ];
              link_stays =
                  λ x _ _ ne.
                  elim (wrote? wo x) [ it-is z p ↦ from-Y (cc u.0) | it-is-not z p ↦ same-link p ];
            };
        far = same-words (λ n. refl) (λ n. refl);
        sure = u.1;
      }
    where
      wo : Wrote m.out t.A no_node (update m.out t.A no_node)
      wo = update-wrote m.out t.A no_node

      still : (μ : Mark) (n : ℕ) → n ≢ t.A → Cuts at_both μ t n (m.out n)
          → Cuts at-A μ (goto (with_a t t.B) Steps.line81) n (m.out n)
      still end n z c = c
      still cut n z (inl q) = absurd (z (sym q))
      still cut n z (inr q) = q

  pub done-82 : Sure at-A s m t → {a : Answer} → Ok at-A (writing (out≔ t.A no_node ∷ []) (answers a))
  done-82 u =
      record {
        near =
            record {
              still-cut =
                  λ μ n v ne.
                  elim (wrote? wo n) [
                    | it-is z p ↦ absurd (ne p)
                    | it-is-not z p ↦ as_before v (sym p) (still μ n z)
                  ];
              link_stays =
                  λ x _ _ ne.
                  elim (wrote? wo x) [ it-is z p ↦ from-Y (cc) | it-is-not z p ↦ same-link p ];
            };
        far = same-words (λ n. refl) (λ n. refl);
        sure = tt;
      }
    where
      wo : Wrote m.out t.A no_node (update m.out t.A no_node)
      wo = update-wrote m.out t.A no_node

      still : (μ : Mark) (n : ℕ) → n ≢ t.A → Cuts at-A μ t n (m.out n) → ⊥
      still end n z c = c
      still cut n z c = z (sym c)
