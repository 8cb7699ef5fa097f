-- The lines that disturb: 25, 62 and 64.
use mathlib.Core.Path.{◌≡◌, refl, sym}
use mathlib.Core.Logic.{◌≢◌, ◌⊎◌, inl, inr}
use mathlib.Core.Bool.{Bool}
use mathlib.Core.List.{List, [], ◌∷◌}
use Prim.Native.Nat.{ℕ, suc, ◌≤◌, ◌<◌}
use native.Mathlib.Omega.{arith}
use Rattle.machine.specs.Sides.{Side}
use Rattle.machine.specs.Values.{N, X, Y}
use Rattle.machine.specs.Steps as Steps
use Rattle.machine.specs.Tasks.{Task, no_node}
use Rattle.machine.specs.Lines.{out≔, val≔}
use Rattle.machine.proofs.Basics.Contradiction.{clash, refute}
use Rattle.machine.proofs.Basics.Updates.{it-is, it-is-not, update, update-wrote, wrote?, update_other}
use Rattle.machine.proofs.Words.Memories.{View, written}
use Rattle.machine.proofs.Linearizability.Model.Classes.{Class, main, in-main, in_near, in-far, old-class}
use Rattle.machine.proofs.Linearizability.Model.Structure.{linked, cut_off, Structure}
use Rattle.machine.proofs.Linearizability.Model.Reversal.{reversed}
use Rattle.machine.proofs.Linearizability.Model.Nodes.{N-from-b, N-before-n, own-mark-not-far}
use Rattle.machine.proofs.Linearizability.Model.Phases.{TaskOk}
use Rattle.machine.proofs.Linearizability.Model.Invariant.{Lane, Lanes}
use Rattle.machine_progress.proofs.SoloBound.AtHat.{a-bag, far-N, far-X, hat-N, hat-X, hat-Y, hat-value, hat-at}
use Rattle.machine_progress.proofs.SoloBound.AtHat.{behind-value, past-hat}
use Rattle.machine_progress.proofs.LockFree.Change.{past, BothSteady, BothNoCut}
use Rattle.machine_progress.proofs.LockFree.Disturbances.{Room}

module _ (held : ℕ → Bool) (k : ℕ) {L : ℕ} {s o : Side} {m : View} {class : ℕ → Class} {r : ℕ → List ℕ}
    (D : Lanes L s o m class r) (t : Task) (own : t.lane < L) where
  abbrev mine : Lane t.lane s o m class (r t.lane)
  mine = D.lane t.lane own

  abbrev Z : Structure t.lane s o m class mine.frame
  Z = mine.structure

  -- ---- What is at the hats of each lane.
  module _ (l : ℕ) (is_lane : l < L) where
    abbrev S : Structure l s o m class (D.lane l is_lane).frame
    S = (D.lane l is_lane).structure

    -- The far hat's node holds a mark of the far side.
    far-not-X : m.val (m.hats l o) ≢ X s
    far-not-X x =
        let w = S.sides in
        elim (hat-value (reversed S)) [
          | hat-N v ↦ refute (cc)
          | hat-X v ↦ refute (cc)
          | hat-Y v ↦ refute (cc)
        ]

    far-not-N : m.val (m.hats l o) ≢ N s
    far-not-N x =
        let w = S.sides in
        elim (hat-value (reversed S)) [
          | hat-N v ↦ refute (cc)
          | hat-X v ↦ refute (cc)
          | hat-Y v ↦ refute (cc)
        ]

    behind-not-X : m.val (m.inn (m.hats l s)) ≢ X s
    behind-not-X x =
        let w = S.sides in
        elim (behind-value S) [ a-bag u v ↦ refute (cc) | far-N v ↦ refute (cc) | far-X v ↦ refute (cc) ]

    b-main : class ((D.lane l is_lane).frame.at (D.lane l is_lane).frame.b) ≡ main l
    b-main = S.main_list.is-main (D.lane l is_lane).frame.b S.b≤n

  -- ---- Line 25.
  module _ (is-X : m.val t.A ≡ X s) where
    abbrev spliced-view : View
    spliced-view = written t.lane s (out≔ t.A t.D ∷ val≔ t.A (N s) ∷ []) m

    past-as-before : (l : ℕ) → l < L → update m.out t.A t.D (m.inn (m.hats l s)) ≡ past l s m
    past-as-before l q = update_other m.out t.A t.D (m.inn (m.hats l s)) (λ e. behind-not-X l q (cc))

    far-as-before : (l : ℕ) → l < L → update m.out t.A t.D (m.hats l o) ≡ m.out (m.hats l o)
    far-as-before l q = update_other m.out t.A t.D (m.hats l o) (λ e. far-not-X l q (cc))

    pub splice-steady : BothSteady L s o m spliced-view
    splice-steady =
        record {
          near =
              λ l q. record {
                behind-same = refl;
                past_same = past-as-before l q;
                stays-off-Y =
                    λ ne y. elim (wrote? (update-wrote m.val t.A (N s)) (m.hats l s)) [
                      | it-is e q ↦ refute (cc)
                      | it-is-not e q ↦ ne (cc)
                    ];
              };
          far =
              λ l q. record {
                behind-same = far-as-before l q;
                past_same = cc (far-as-before l q);
                stays-off-Y =
                    λ ne y. ne (cc (update_other m.val t.A (N s) (m.hats l o) (λ e. far-not-X l q (cc))));
              };
        }

    pub splice-no-cut : BothNoCut L held class s o m spliced-view
    splice-no-cut =
        record {
          near =
              λ l _. record {
                N-stays =
                    λ v. elim (wrote? (update-wrote m.val t.A (N s)) (past l s m)) [
                      | it-is e q ↦ q
                      | it-is-not e q ↦ cc
                    ];
                no-X =
                    λ x _ _ ne y. elim (wrote? (update-wrote m.val t.A (N s)) x) [
                      | it-is e q ↦ refute (cc)
                      | it-is-not e q ↦ ne (cc)
                    ];
              };
          far =
              λ l _. record {
                N-stays =
                    λ v. elim (wrote? (update-wrote m.val t.A (N s)) (m.inn (m.out (m.hats l o)))) [
                      | it-is e q ↦ clash (cc)
                      | it-is-not e q ↦ cc
                    ];
                no-X =
                    λ x _ _ ne y. elim (wrote? (update-wrote m.val t.A (N s)) x) [
                      | it-is e q ↦ refute (cc)
                      | it-is-not e q ↦ ne (cc)
                    ];
              };
        }

    pub room_after : Room t.lane s m ⊎ (t.A ≡ past t.lane s m) → Room t.lane s spliced-view
    room_after p =
        let q = past-as-before t.lane own in
        elim (wrote? (update-wrote m.val t.A (N s)) (past t.lane s m)) [
          | it-is e u ↦ cc
          | it-is-not e u ↦ elim p [ inl v ↦ cc | inr d ↦ absurd (e (sym d)) ]
        ]

  -- ---- Line 62.
  module _ (h : TaskOk k s o m class Steps.line62 t) (A-N : m.val t.A ≡ N s) (B-N : m.val t.B ≡ N s) where
    abbrev cut-view : View
    cut-view = written t.lane s (val≔ t.A (X s) ∷ val≔ t.B (Y s) ∷ []) m

    -- B is beyond the hat of its lane, and is the hat of no other.
    hat-not-B : (l : ℕ) (q : l < L) → m.val (m.hats l s) ≢ Y s → m.hats l s ≢ t.B
    hat-not-B l q ne e =
        let at-hat = hat-at (S l q) ne in
        let w = (S l q).sides in
        let c = b-main l q in
        elim (old-class Z.sides (class t.A) h.relies.A-old) [
          | in_near d ↦ refute (cc (h.relies.spur-next d))
          | in-far d ↦ own-mark-not-far Z t.A (cc) d
          | in-main i d ↦
              elim (h.relies.main-next i d) [
                | cut_off u y ↦ refute (cc)
                | linked u ↦ behind-hat l q (at-hat) e u (same_lane l q at-hat e i d u)
              ]
        ]
      where
        -- A leads to B, so it is in the lane that B is in.
        same_lane : (l : ℕ) (q : l < L) → m.hats l s ≡ (D.lane l q).frame.at (D.lane l q).frame.b
            → m.hats l s ≡ t.B
            → (i : ℕ)
            → class t.A ≡ main i
            → m.out t.A ≡ t.B
            → class t.A ≡ main l
        same_lane l q at-hat e i d u =
            let p = D.below t.A i d in
            let G = (D.lane i p).frame in
            let R = S i p in
            let at_i = R.main_list.at-index t.A d in
            let i≤n = R.main_list.index-le t.A d in
            let i<n : G.index t.A < G.n = N-before-n R (G.index t.A) i≤n (cc) in
            let c = b-main l q in
            let same : l ≡ i =
            cc (R.links.links-out (G.index t.A) i<n, R.main_list.is-main (suc (G.index t.A)) i<n) in
            cc

        behind-hat : (l : ℕ) (q : l < L) → m.hats l s ≡ (D.lane l q).frame.at (D.lane l q).frame.b
            → m.hats l s ≡ t.B
            → m.out t.A ≡ t.B
            → class t.A ≡ main l
            → ⊥
        behind-hat l q at-hat e u d =
            let G = (D.lane l q).frame in
            let R = S l q in
            let i : ℕ = G.index t.A in
            let at_i = R.main_list.at-index t.A d in
            let i≤n = R.main_list.index-le t.A d in
            let b≤i : G.b ≤ i = N-from-b R i i≤n (cc) in
            let i<n : i < G.n = N-before-n R i i≤n (cc) in
            let same : suc i ≡ G.b =
            cc (
              R.links.links-out i i<n,
              R.main_list.index_at (suc i) i<n,
              R.main_list.index_at G.b R.b≤n,
            ) in
            omega arith

    pub cut-steady : BothSteady L s o m cut-view
    cut-steady =
        record {
          near =
              λ l q. record {
                behind-same = refl;
                past_same = refl;
                stays-off-Y =
                    λ ne y. elim (wrote? (update-wrote (update m.val t.A (X s)) t.B (Y s)) (m.hats l s)) [
                      | it-is e v ↦ hat-not-B l q ne e
                      | it-is-not e v ↦
                          elim (wrote? (update-wrote m.val t.A (X s)) (m.hats l s)) [
                            | it-is d u ↦ refute (cc)
                            | it-is-not d u ↦ ne (cc)
                          ]
                    ];
              };
          far =
              λ l q. record {
                behind-same = refl;
                past_same = refl;
                stays-off-Y =
                    λ ne y. ne (cc (
                      update_other (update m.val t.A (X s)) t.B (Y s) (m.hats l o) (λ e. far-not-N l q (cc)),
                      update_other m.val t.A (X s) (m.hats l o) (λ e. far-not-N l q (cc)),
                    ));
              };
        }

  -- ---- Line 64.
  module _ (h : TaskOk k s o m class Steps.line64 t) (leads : m.out t.A ≡ t.B) where
    abbrev unlinked : View
    unlinked = written t.lane s (out≔ t.A no_node ∷ []) m

    behind-not-A : (l : ℕ) → l < L → m.inn (m.hats l s) ≢ t.A
    behind-not-A l q e = refute (cc (past-hat (S l q), b-main l q, h.relies.B-spur))

    far-not-A : (l : ℕ) → l < L → m.hats l o ≢ t.A
    far-not-A l q e =
        let R = S l q in
        let G = (D.lane l q).frame in
        elim R.far-hat [
          | inl u ↦
              let p : G.a < G.n = omega (arith, R.a<b, R.b≤n) in
              refute (cc (R.links.links-out G.a p, R.main_list.is-main (suc G.a) p, h.relies.B-spur))
          | inr y ↦ h.relies.not-far (cc y.in-spur) leads
        ]

    pub unlink-steady : BothSteady L s o m unlinked
    unlink-steady =
        record {
          near =
              λ l q. record {
                behind-same = refl;
                past_same = update_other m.out t.A no_node (m.inn (m.hats l s)) (behind-not-A l q);
                stays-off-Y = λ ne. ne;
              };
          far =
              λ l q. record {
                behind-same = update_other m.out t.A no_node (m.hats l o) (far-not-A l q);
                past_same = cc (update_other m.out t.A no_node (m.hats l o) (far-not-A l q));
                stays-off-Y = λ ne. ne;
              };
        }

    pub unlink-no-cut : BothNoCut L held class s o m unlinked
    unlink-no-cut =
        record {
          near = λ l q. record { N-stays = λ v. v; no-X = λ x _ _ ne. ne };
          far = λ l q. record { N-stays = λ v. v; no-X = λ x _ _ ne. ne };
        }
