-- Lines that write, and have no duty: those of push, pop and add.
use mathlib.Core.Path.{◌≡◌, refl, sym, subst, ◌∙◌}
use mathlib.Core.Logic.{◌≢◌}
use mathlib.Core.Bool.{Bool, true}
use mathlib.Core.List.{List, [], ◌∷◌}
use Prim.Native.Nat.{ℕ}
use Rattle.machine.specs.Outcomes.Answer.{Answer}
use Rattle.machine.specs.Sides.{Side}
use Rattle.machine.specs.Values.{bag, N, X, Y}
use Rattle.machine.specs.Steps.{Step}
use Rattle.machine.specs.Steps as Steps
use Rattle.machine.specs.Tasks.{Task, fresh, no_node}
use Rattle.machine.specs.Lines.{Write, out≔, inn≔, val≔, hat≔, Effect}
use Rattle.machine.proofs.Basics.Contradiction.{refute}
use Rattle.machine.proofs.Basics.Updates.{Wrote, it-is, it-is-not, wrote?, update, update-wrote}
use Rattle.machine.proofs.Words.Memories.{View, written}
use Rattle.machine.proofs.Linearizability.Model.Sides.{Opposite}
use Rattle.machine.proofs.Linearizability.Model.Classes.{Class}
use Rattle.machine.proofs.Linearizability.Writes.ChainGrowth.{head-new}
use Rattle.machine.proofs.Linearizability.Model.Phases.{TaskOk}
use Rattle.machine.proofs.Linearizability.Writes.Take.{TakeOk}
use Rattle.machine.proofs.Lines.Branches.{onward}
use Rattle.machine_capacity.proofs.Removers.{Duty, no-duty, duty, Sure}
use Rattle.machine_capacity.proofs.KeepsRemovers.{as_before, same-link, to-Y, RemoversAfter, Plain, N-plain}
use Rattle.machine_capacity.proofs.KeepsRemovers.{bag-plain, far-plain, marked-elsewhere, same-words}
use Rattle.machine_capacity.proofs.KeepsRemovers.{plain_value}
-- The first node of a chain of side s has a mark of s.
use Rattle.machine_capacity.proofs.LineEnds.{chain-owner}

-- x-cut: where an X leads, there is a Y.
module _ (L : ℕ) (held : ℕ → Bool) (k : ℕ) (s o : Side) (w : Opposite s o) (m : View) (class : ℕ → Class)
    (x-cut : (n : ℕ) → m.val n ≡ X s → m.out n ≢ no_node → m.val (m.out n) ≡ Y s)
    (t : Task) (f : ℕ) where
  abbrev Ok : Duty → Effect → Type 0
  Ok d e = RemoversAfter held class t.lane s o m d t e

  pub done-5 : {a : Answer}
      → Ok no-duty
      (record { writes = hat≔ t.B ∷ val≔ t.A (bag t.argument) ∷ []; task = fresh; answer = a })
  done-5 =
      record {
        near = plain_value (λ n. refl) wv bag-plain;
        far = plain_value (λ n. refl) wv bag-plain;
        sure = tt;
      }
    where
      wv : Wrote m.val t.A (bag t.argument) (update m.val t.A (bag t.argument))
      wv = update-wrote m.val t.A (bag t.argument)

  pub done-51 : {a : Answer}
      → Ok no-duty (record { writes = hat≔ t.B ∷ val≔ t.B (N s) ∷ []; task = fresh; answer = a })
  done-51 =
      record {
        near = plain_value (λ n. refl) wv N-plain;
        far = plain_value (λ n. refl) wv N-plain;
        sure = tt;
      }
    where
      wv : Wrote m.val t.B (N s) (update m.val t.B (N s))
      wv = update-wrote m.val t.B (N s)

  pub done-72 : {st : Step} {a : Answer} → duty st ≡ no-duty
      → Ok no-duty (record { writes = hat≔ t.C ∷ []; task = onward t t st; answer = a })
  done-72 {st} q =
      record {
        near = same-words (λ n. refl) (λ n. refl);
        far = same-words (λ n. refl) (λ n. refl);
        sure = subst (λ (d : Duty). Sure d s (written t.lane s (hat≔ t.C ∷ []) m) (onward t t st)) (sym q) tt;
      }

  pub done-24 : TaskOk k s o m class Steps.line24 t → {t' : Task} {a : Answer} → duty t'.step ≡ no-duty
      → Ok no-duty (record { writes = inn≔ t.D t.A ∷ []; task = t'; answer = a })
  done-24 h {t'} q =
      record {
        near = same-words (λ n. refl) (λ n. refl);
        far =
            record {
              still-cut =
                  λ μ n v ne.
                  as_before v (sym (wi.elsewhere n (λ z. D-plain.not-marked μ (cc)))) (λ c. absurd c);
              link_stays = λ x _ old _. same-link (wi.elsewhere x (λ z. refute (cc (head-new h.chain))));
            };
        sure = subst (λ (d : Duty). Sure d s (written t.lane s (inn≔ t.D t.A ∷ []) m) t') (sym q) tt;
      }
    where
      wi : Wrote m.inn t.D t.A (update m.inn t.D t.A)
      wi = update-wrote m.inn t.D t.A

      D-plain : Plain o (m.val t.D)
      D-plain = far-plain w (chain-owner m h.chain)

  pub done-25 : m.val t.A ≡ X s → {t' : Task} {a : Answer} → duty t'.step ≡ no-duty
      → Ok no-duty (record { writes = out≔ t.A t.D ∷ val≔ t.A (N s) ∷ []; task = t'; answer = a })
  done-25 is-X {t'} q =
      record {
        near =
            record {
              still-cut =
                  λ μ n v ne.
                  let b = marked-elsewhere wv N-plain μ n v in
                  as_before b.1 (sym (wo.elsewhere n b.0)) (λ c. absurd c);
              link_stays =
                  λ x _ _ ne.
                  elim (wrote? wo x) [
                    | it-is z p ↦
                        let y : m.val (m.out x) ≡ Y s = x-cut x (cc) ne in
                        to-Y (wv.elsewhere (m.out x) (λ i. refute (cc)) ∙ y)
                    | it-is-not z p ↦ same-link p
                  ];
            };
        far = plain_value (λ n. refl) wv N-plain;
        sure = subst (λ (d : Duty). Sure d s (written t.lane s l m) t') (sym q) tt;
      }
    where
      l : List Write
      l = out≔ t.A t.D ∷ val≔ t.A (N s) ∷ []

      wo : Wrote m.out t.A t.D (update m.out t.A t.D)
      wo = update-wrote m.out t.A t.D

      wv : Wrote m.val t.A (N s) (update m.val t.A (N s))
      wv = update-wrote m.val t.A (N s)

  -- A node that is not held is not f's.
  apart : TakeOk L held m class f → (x : ℕ) → held x ≡ true → x ≢ f
  apart K x r z = refute (cc K.not-held)

  pub done-28 : TakeOk L held m class f → {t' : Task} {a : Answer} → duty t'.step ≡ no-duty
      → Ok no-duty (record { writes = out≔ f no_node ∷ inn≔ f no_node ∷ val≔ f (X s) ∷ []; task = t'; answer = a })
  done-28 K {t'} q =
      record {
        near =
            record {
              still-cut =
                  λ μ n v ne.
                  elim (wrote? wo n) [
                    | it-is z p ↦ absurd (ne p)
                    | it-is-not z p ↦ as_before (sym (wv.elsewhere n z) ∙ v) (sym p) (λ c. absurd c)
                  ];
              link_stays = λ x r _ _. same-link (wo.elsewhere x (apart K x r));
            };
        far =
            record {
              still-cut =
                  λ μ n v ne.
                  let b = marked-elsewhere wv (far-plain w refl) μ n v in
                  as_before b.1 (sym (wi.elsewhere n b.0)) (λ c. absurd c);
              link_stays = λ x r _ _. same-link (wi.elsewhere x (apart K x r));
            };
        sure = subst (λ (d : Duty). Sure d s (written t.lane s l m) t') (sym q) tt;
      }
    where
      l : List Write
      l = out≔ f no_node ∷ inn≔ f no_node ∷ val≔ f (X s) ∷ []

      wo : Wrote m.out f no_node (update m.out f no_node)
      wo = update-wrote m.out f no_node

      wi : Wrote m.inn f no_node (update m.inn f no_node)
      wi = update-wrote m.inn f no_node

      wv : Wrote m.val f (X s) (update m.val f (X s))
      wv = update-wrote m.val f (X s)

  pub done-31 : TakeOk L held m class f → TaskOk k s o m class Steps.line31 t
      → {t' : Task} {a : Answer} → duty t'.step ≡ no-duty
      → Ok no-duty
      (record {
        writes = val≔ f (N s) ∷ inn≔ f no_node ∷ out≔ f t.D ∷ inn≔ t.D f ∷ [];
        task = t';
        answer = a;
      })
  done-31 K h {t'} q =
      record {
        near =
            record {
              still-cut =
                  λ μ n v ne.
                  let b = marked-elsewhere wv N-plain μ n v in
                  as_before b.1 (sym (wo.elsewhere n b.0)) (λ c. absurd c);
              link_stays = λ x r _ _. same-link (wo.elsewhere x (apart K x r));
            };
        far =
            record {
              still-cut =
                  λ μ n v ne.
                  let b = marked-elsewhere wv N-plain μ n v in
                  let not-D : n ≢ t.D = λ z. D-plain.not-marked μ (cc b.1) in
                  as_before b.1 (sym (wd.elsewhere n not-D ∙ wi.elsewhere n b.0)) (λ c. absurd c);
              link_stays =
                  λ x r old _.
                  let not-D : x ≢ t.D = λ z. refute (cc (head-new h.chain)) in
                  same-link (wd.elsewhere x not-D ∙ wi.elsewhere x (apart K x r));
            };
        sure = subst (λ (d : Duty). Sure d s (written t.lane s l m) t') (sym q) tt;
      }
    where
      l : List Write
      l = val≔ f (N s) ∷ inn≔ f no_node ∷ out≔ f t.D ∷ inn≔ t.D f ∷ []

      wo : Wrote m.out f t.D (update m.out f t.D)
      wo = update-wrote m.out f t.D

      wi : Wrote m.inn f no_node (update m.inn f no_node)
      wi = update-wrote m.inn f no_node

      wd : Wrote (update m.inn f no_node) t.D f (update (update m.inn f no_node) t.D f)
      wd = update-wrote (update m.inn f no_node) t.D f

      wv : Wrote m.val f (N s) (update m.val f (N s))
      wv = update-wrote m.val f (N s)

      D-plain : Plain o (m.val t.D)
      D-plain = far-plain w (chain-owner m h.chain)
