-- The lines that write their task's record only.
use mathlib.Core.Path.{◌≡◌, refl, sym, ◌∙◌}
use mathlib.Core.Logic.{◌≢◌, inl, ◌⊎◌, inr}
use mathlib.Core.List.{List, []}
use Prim.Native.Nat.{ℕ, ◌<◌, suc, ◌-◌}
use native.Mathlib.Omega.{arith}
use Rattle.machine.specs.Sides.{Side}
use Rattle.machine.specs.Values.{Y, N, X}
use Rattle.machine.specs.Steps.{Step}
use Rattle.machine.proofs.Linearizability.Writes.ChainGrowth.{head-some}
use Rattle.machine.specs.Tasks.{Task, no_node}
use Rattle.machine.proofs.Words.Memories.{View, seen_in}
use Rattle.machine.proofs.Linearizability.Model.Classes.{Class, Old, spur}
use Rattle.machine.proofs.Linearizability.Model.Nodes.{old-some, spur-some, hat-old, out-old, Y-in-spur, inn-old}
use Rattle.machine.proofs.Linearizability.Model.Nodes.{spur-out}
use Rattle.machine.proofs.Linearizability.Model.Reliance.{BehindY, EmptyPair, SpurPair}
use Rattle.machine.proofs.Linearizability.Model.Phases.{with-chain, without-chain, TaskOk}
use Rattle.machine.proofs.Linearizability.Model.Structure.{Structure, linked}
use Rattle.machine.proofs.Linearizability.Model.Invariant.{Lane, Lanes, every-lane}
use Rattle.machine.proofs.Linearizability.Lines.LineEnds.{back-ok}
use Rattle.machine.proofs.Basics.Contradiction.{refute}
use Rattle.machine.proofs.Linearizability.Writes.Pop.{pop-empty}
use Rattle.machine.proofs.Linearizability.Model.Segments.{segment-empty}
use Rattle.machine.proofs.Lines.Branches as B

module _ (k : ℕ) {L : ℕ} {s o : Side} {m : View} {class : ℕ → Class} {r : ℕ → List ℕ}
    (D : Lanes L s o m class r) (t : Task) (own : t.lane < L) (g f : ℕ) where
  open (D.lane t.lane own).frame use {a, b, bags}

  abbrev mine : Lane t.lane s o m class (r t.lane)
  mine = D.lane t.lane own

  abbrev S : Structure t.lane s o m class mine.frame
  S = mine.structure

  some : {x : ℕ} → Old class x → x ≢ no_node
  some = old-some S _

  in-spur : {x : ℕ} → class x ≡ spur s → x ≢ no_node
  in-spur = spur-some S _

  B-old : BehindY s m class t.A t.B → Old class t.B
  B-old p = cc (p.B-inward, S.near-spur.inward-old t.A p.A-spur)

  -- No register through which a step goes is none.
  pub never_stuck : {st : Step} → B.Stuck s o (seen_in t.lane s m) t g f st → TaskOk k s o m class st t → ⊥
  never_stuck (B.A-3 e) h = some h.relies e
  never_stuck (B.A-5 e) h = some h.relies.A-old e
  never_stuck (B.B-5 e) h = some h.relies.B-old e
  never_stuck (B.A-8 e) h = some h.relies e
  never_stuck (B.A-68 e) h = some h.relies e
  never_stuck (B.A-69 e) h = in-spur h.relies.A-spur e
  never_stuck (B.B-70 e) h = some (B-old h.relies) e
  never_stuck (B.C-72 e) h = some h.relies.C-old e
  never_stuck (B.D-31 e) h = head-some h.chain S.none_free e
  never_stuck (B.A-17 e) h = some h.relies e
  never_stuck (B.A-18 e) h = some h.relies e
  never_stuck (B.A-24 e) h = some h.relies e
  never_stuck (B.D-24 e) h = head-some h.chain S.none_free e
  never_stuck (B.A-25 e) h = some h.relies.A-old e
  never_stuck (B.A-40 e) h = some h.relies e
  never_stuck (B.B-42 e) h = some h.relies.B-old e
  never_stuck (B.B-48 e) h = some h.relies.pair.B-old e
  never_stuck (B.B-51 e) h = some h.relies.pair.B-old e
  never_stuck (B.A-56 e) h = some h.relies e
  never_stuck (B.A-58 e) h = some h.relies e
  never_stuck (B.A-60 e) h = some h.relies e
  never_stuck (B.A-62 e) h = some h.relies.A-old e
  never_stuck (B.B-62 e) h = some h.relies.B-old e
  never_stuck (B.A-64 e) h = some h.relies.A-old e
  never_stuck (B.B-74 e) h = in-spur h.relies e
  never_stuck (B.B-77 e) h = in-spur h.relies.B-spur e
  never_stuck (B.B-78 e) h = in-spur h.relies.B-spur e
  never_stuck (B.A-79 e) h = in-spur h.relies.A-spur e
  never_stuck (B.A-81 e) h = in-spur h.relies e
  never_stuck (B.A-82 e) h = in-spur h.relies e

  -- Where an old node leads.
  outward : {x : ℕ} → Old class x → m.out x ≢ no_node → Old class (m.out x)
  outward = out-old S (every-lane D) _

  -- A node of the spur and what its outward link leads to.
  spur-pair : (x : ℕ) → class x ≡ spur s → m.out x ≢ no_node → SpurPair s class x (m.out x)
  spur-pair x c e = record { A-spur = c; B-spur = spur-out S x c e }

  -- A tick that writes nothing: what its next step relies on.
  pub moved : {st st' : Step} {u : Task} → B.Moves s o (seen_in t.lane s m) t g f st u st' → TaskOk k s o m class st t
      → TaskOk k s o m class st' (B.onward t u st')
  moved B.rests h = record { relies = h.relies; chain = h.chain; belongs = h.belongs }
  moved B.hat-2 h = record { relies = hat-old S; chain = h.chain; belongs = h.belongs }
  moved (B.none-3 _ _) h = record { relies = h.relies; chain = h.chain; belongs = h.belongs }
  moved (B.some-3 _ e) h =
      record {
        relies = record { A-old = h.relies; B-old = outward h.relies e; B-follows = λ _ _. inl refl };
        chain = h.chain;
        belongs = h.belongs;
      }
  moved (B.lost-5 _) h = record { relies = h.relies.A-old; chain = h.chain; belongs = h.belongs }
  moved (B.end-8 _ _) h = record { relies = tt; chain = h.chain; belongs = inl h.belongs }
  moved (B.else-8 _ _) h =
      record { relies = tt; chain = without-chain h.chain h.belongs; belongs = inl h.belongs }
  moved B.hat-67 h = record { relies = hat-old S; chain = h.chain; belongs = h.belongs }
  moved (B.spur-68 _ e) h =
      record {
        relies = record { A-spur = Y-in-spur S (every-lane D) _ h.relies e; A-Y = e };
        chain = h.chain;
        belongs = h.belongs;
      }
  moved (B.else-68 _ _ b) h = back-ok S.none_free t m t.C b h.chain h.belongs
  moved (B.link-69 _) h =
      record {
        relies = record { A-spur = h.relies.A-spur; A-Y = h.relies.A-Y; B-inward = refl };
        chain = h.chain;
        belongs = h.belongs;
      }
  moved (B.none-70 _ _ b) h = back-ok S.none_free t m (m.out t.B) b h.chain h.belongs
  moved (B.some-70 _ e) h =
      let p = h.relies in
      let C-old = outward (B-old p) e in
      record {
        relies =
            record { A-spur = p.A-spur; A-Y = p.A-Y; C-old = C-old; C-follows = λ _ _. inl (cc p.B-inward) };
        chain = h.chain;
        belongs = h.belongs;
      }
  moved (B.lost-72 _ _ b) h = back-ok S.none_free t m t.C b h.chain h.belongs
  moved (B.full-31 _ _) h = record { relies = tt; chain = h.chain; belongs = h.belongs }
  moved B.hat-15 h = record { relies = hat-old S; chain = h.chain; belongs = h.belongs }
  moved (B.inner-17 _ _) h = record { relies = h.relies; chain = h.chain; belongs = h.belongs }
  moved (B.spur-17 _ _) h = record { relies = tt; chain = with-chain h.chain; belongs = h.belongs }
  moved (B.end-17 _ _) h = record { relies = h.relies; chain = h.chain; belongs = h.belongs }
  moved (B.else-17 _ _ _ _) h = record { relies = tt; chain = h.chain; belongs = h.belongs }
  moved (B.none-18 _ _) h = record { relies = tt; chain = h.chain; belongs = h.belongs }
  moved (B.some-18 _ e) h = record { relies = outward h.relies e; chain = h.chain; belongs = h.belongs }
  moved (B.lost-25 _) h = record { relies = tt; chain = h.chain; belongs = h.belongs }
  moved B.hat-39 h = record { relies = hat-old S; chain = h.chain; belongs = h.belongs }
  moved (B.none-40 _ _) h = record { relies = tt; chain = h.chain; belongs = h.belongs }
  moved (B.some-40 _ e) h =
      let B-old = inn-old S (every-lane D) _ h.relies e in
      record {
        relies = record { A-old = h.relies; B-old = B-old; B-precedes = inr (linked refl) };
        chain = h.chain;
        belongs = h.belongs;
      }
  moved (B.value-42 _ (B.to-51 b e)) h =
      record {
        relies = record { pair = h.relies; bag-read = b; read-bag = e };
        chain = h.chain;
        belongs = h.belongs;
      }
  moved (B.value-42 _ (B.to-48 e)) h =
      record { relies = record { pair = h.relies; read-mark = e }; chain = h.chain; belongs = h.belongs }
  moved (B.value-42 _ (B.to-39 _ _ _)) h = record { relies = tt; chain = h.chain; belongs = h.belongs }
  moved (B.lost-48 _) h = record { relies = tt; chain = h.chain; belongs = h.belongs }
  moved (B.lost-51 _) h = record { relies = tt; chain = h.chain; belongs = h.belongs }
  moved (B.reached-54 _) h = record { relies = hat-old S; chain = h.chain; belongs = h.belongs }
  moved (B.hat-54 _) h = record { relies = hat-old S; chain = h.chain; belongs = h.belongs }
  moved (B.else-56 _ _) h = record { relies = h.relies; chain = h.chain; belongs = h.belongs }
  moved (B.reached-58 _ e _) h = record { relies = outward h.relies e; chain = h.chain; belongs = h.belongs }
  moved (B.some-58 _ e _) h = record { relies = outward h.relies e; chain = h.chain; belongs = h.belongs }
  moved (B.some-60 _ e) h =
      let B-old = outward h.relies e in
      record {
        relies =
            record {
              A-old = h.relies;
              B-old = outward h.relies e;
              main-next = λ _ _. linked refl;
              spur-next = λ c. spur-out S _ c e;
            };
        chain = h.chain;
        belongs = h.belongs;
      }
  moved (B.lost-64 _ _) h = record { relies = h.relies.B-spur; chain = h.chain; belongs = h.belongs }
  moved (B.none-74 _ _) h = record { relies = h.relies; chain = h.chain; belongs = h.belongs }
  moved (B.some-74 _ e) h = record { relies = spur-pair t.B h.relies e; chain = h.chain; belongs = h.belongs }
  moved (B.value-77 _) h = record { relies = h.relies; chain = h.chain; belongs = h.belongs }
  moved (B.lost-78 _ _) h = record { relies = h.relies; chain = h.chain; belongs = h.belongs }
  moved (B.none-81 _ _) h = record { relies = h.relies; chain = h.chain; belongs = h.belongs }
  moved (B.end-81 _ _ _) h = record { relies = h.relies; chain = h.chain; belongs = h.belongs }
  moved (B.some-81 _ e _) h =
      record { relies = spur-pair t.A h.relies e; chain = h.chain; belongs = h.belongs }

  -- The hat is A and B holds a mark of the other side: there is no bag between the hats.
  module _ (p : EmptyPair o m class t.A t.B t.value) (hat-A : m.hats t.lane s ≡ t.A)
      (B-value : m.val t.B ≡ t.value) where
    B-mark : (m.val t.B ≡ N o) ⊎ (m.val t.B ≡ X o)
    B-mark = elim p.read-mark [ inl u ↦ inl (B-value ∙ u) | inr u ↦ inr (B-value ∙ u) ]

    B-not-Y : m.val t.B ≢ Y o
    B-not-Y y = elim B-mark [ inl u ↦ refute (cc) | inr u ↦ refute (cc) ]

    hats-adjacent : b ≡ suc a
    hats-adjacent =
        let before : suc (b - 1) ≡ b = omega (arith, S.a<b) in
        pop-empty S before hat-A p.pair.B-precedes B-not-Y B-mark

    pub row-empty : r t.lane ≡ []
    row-empty =
        let e = hats-adjacent in
        sym mine.row_is ∙ segment-empty bags (suc a) (b - suc a) (omega arith)
