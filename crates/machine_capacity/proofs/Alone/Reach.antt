-- What is reached, by a view: from the hats of the lanes and from one register, of a call that has no others that hold.
use mathlib.Core.Path.{◌≡◌, refl, sym, ap, ◌∙◌, subst}
use mathlib.Core.Logic.{◌≢◌, ◌⊎◌, inl, inr}
use mathlib.Core.Bool.{true, false}
use mathlib.Core.List.{List}
use Prim.Native.Nat.{ℕ, ◌<◌}
use Rattle.machine.specs.Choice.{◌≟◌}
use Rattle.machine.specs.Sides.{Side, opposite}
use Rattle.machine.specs.Steps.{Step, line28, line31}
use Rattle.machine.specs.Tasks.{Task, no_node, fresh, Register, in_a, in_b, in_c, in_d, register}
use Rattle.machine.specs.Registers.{holds}
use Rattle.machine.specs.Table.{node_count, lane_count, link, task}
use Rattle.machine.specs.Allocate.{allocate}
use Rattle.machine.specs.Reach.{Reachable, from_hat, from_register, along}
use Rattle.machine.specs.Begun.{Begun}
use Rattle.machine_capacity.specs.NoLeak.{Idle}
use Rattle.machine.proofs.Basics.Contradiction.{clash}
use Rattle.machine.proofs.Words.Memories.{View, viewed}
use Rattle.machine.proofs.Shape.ShapeLaws.{well-shaped}
use Rattle.machine.proofs.Shape.TickKeeps.{idle-fresh}
use Rattle.machine.proofs.SlotRule.Reached.{WellLinked}
use Rattle.machine.proofs.SlotRule.FirstFree.{allocate-first-free, allocate-none}
use Rattle.machine.proofs.Linearizability.Model.Sides.{sides}
use Rattle.machine.proofs.Linearizability.Calls.MadeTicks.{well-linked}
use Rattle.machine.proofs.Linearizability.Corollaries.{begun-agrees}
use Rattle.machine_capacity.proofs.Alone.Runs.{At}

-- x is reached from a hat of the L lanes or from d, where d is not none.
pub data Reach (L : ℕ) (m : View) (d : ℕ) : ℕ → Type 0 where
  at-hat : (j : ℕ) (z : Side) → j < L → Reach L m d (m.hats j z)
  at-root : d ≢ no_node → Reach L m d d
  outward : {x : ℕ} → Reach L m d x → m.out x ≢ no_node → Reach L m d (m.out x)
  inward : {x : ℕ} → Reach L m d x → m.inn x ≢ no_node → Reach L m d (m.inn x)

-- The registers that hold in a table are none, or d.
pub record OneRoot (ws : List ℕ) (d : ℕ) : Type 0 where
  pub only : (j : ℕ) (r : Register) → holds (task ws j).step r ≡ true → register (task ws j) r ≢ no_node
      → register (task ws j) r ≡ d
  pub held : d ≢ no_node → Reachable ws d

module _ (s : Side) (ws : List ℕ) {d : ℕ} (R : OneRoot ws d) where
  link-by : (z : Side) (x : ℕ) → (link ws z x ≡ link ws s x) ⊎ (link ws z x ≡ link ws (opposite s) x)
  link-by z x =
      elim ((sides s).either z) [
        | inl e ↦ inl (ap (λ (y : Side). link ws y x) e)
        | inr e ↦ inr (ap (λ (y : Side). link ws y x) e)
      ]

  pub to-view : {x : ℕ} → Reachable ws x → Reach (lane_count ws) (viewed s ws) d x
  to-view (from_hat j z l) = at-hat j z l
  to-view (from_register j r h ne) =
      let e = R.only j r h ne in
      subst (Reach (lane_count ws) (viewed s ws) d) (sym e) (at-root (λ q. ne (e ∙ q)))
  to-view (along {x} z c ne) =
      elim (link-by z x) [
        | inl e ↦
            subst (Reach (lane_count ws) (viewed s ws) d) (sym e) (outward (to-view c) (λ q. ne (e ∙ q)))
        | inr e ↦
            subst (Reach (lane_count ws) (viewed s ws) d) (sym e) (inward (to-view c) (λ q. ne (e ∙ q)))
      ]

  pub from_view : {x : ℕ} → Reach (lane_count ws) (viewed s ws) d x → Reachable ws x
  from_view (at-hat j z l) = from_hat j z l
  from_view (at-root ne) = R.held ne
  from_view (outward c ne) = along s (from_view c) ne
  from_view (inward c ne) = along (opposite s) (from_view c) ne

-- ---- Tables with no task in a call.
pub idle-root : {ws : List ℕ} → Begun ws → Idle ws → OneRoot ws no_node
idle-root {ws} B idle_now =
    record {
      only = λ j r h ne.
          let e : holds (task ws j).step r ≡ false = ap (λ (t : Task). holds t.step r) (tasks-fresh j) in
          clash (cc);
      held = λ ne. absurd (ne refl);
    }
  where
    tasks-fresh : (j : ℕ) → task ws j ≡ fresh
    tasks-fresh j =
        let ok = (begun-agrees B).1.accepted in
        idle-fresh ws (well-shaped ws ok.length_passes ok.shape_passes) j (idle_now j)

-- ---- A call that searches.
held-31 : (r : Register) (t : Task) → holds line31 r ≡ true → register t r ≡ t.D
held-31 in_a t h = clash (cc)
held-31 in_b t h = clash (cc)
held-31 in_c t h = clash (cc)
held-31 in_d t h = refl

module _ (k ℓ : ℕ) (s : Side) {t : Task} {m : View} {ws : List ℕ} (P : At k ℓ s t m ws) where
  idle-others : (j : ℕ) (r : Register) → j ≢ k → holds (task ws j).step r ≡ false
  idle-others j r ne = ap (λ (x : Task). holds x.step r) (P.others j ne)

  pub root-28 : t.step ≡ line28 → t.D ≡ no_node → OneRoot ws t.D
  root-28 st no-chain =
      record {
        only = λ j r h _. elim (j ≟ k) [
          | yes e ↦
              let q : holds (task ws j).step r ≡ false =
              ap (λ (i : ℕ). holds (task ws i).step r) e
              ∙ ap (λ (x : Task). holds x.step r) P.own
              ∙ ap (λ (y : Step). holds y r) st in
              clash (cc)
          | no ne ↦ clash (cc (idle-others j r ne))
        ];
        held = λ ne. absurd (ne no-chain);
      }

  pub root-31 : t.step ≡ line31 → OneRoot ws t.D
  root-31 st =
      record {
        only = λ j r h _. elim (j ≟ k) [
          | yes e ↦
              let own-task : task ws j ≡ t = ap (task ws) e ∙ P.own in
              let q : holds line31 r ≡ true =
              ap (λ (y : Step). holds y r) (sym st) ∙ ap (λ (x : Task). holds x.step r) (sym own-task) ∙ h in
              ap (λ (x : Task). register x r) own-task ∙ held-31 r t q
          | no ne ↦ clash (cc (idle-others j r ne))
        ];
        held =
            λ ne.
            let own-D : register (task ws k) in_d ≡ t.D = ap (λ (x : Task). x.D) P.own in
            let h : holds (task ws k).step in_d ≡ true =
            ap (λ (x : Task). holds x.step in_d) P.own ∙ ap (λ (y : Step). holds y in_d) st in
            subst (Reachable ws) own-D (from_register k in_d h (λ q. ne (sym own-D ∙ q)));
      }

  -- What its search finds.
  module _ (R : OneRoot ws t.D) (h : ℕ) (low : h < node_count ws) where
    W : WellLinked ws
    W = well-linked (begun-agrees P.begun).1.accepted

    pub found-new : allocate ws h ≢ no_node → Reach (lane_count ws) m t.D (allocate ws h) → ⊥
    found-new ne c =
        (allocate-first-free W low ne).free.unreached
        (from_view s ws R (subst (λ (y : View). Reach (lane_count ws) y t.D (allocate ws h)) (sym P.sees) c))

    pub found_none : allocate ws h ≡ no_node → (x : ℕ) → x < node_count ws → Reach (lane_count ws) m t.D x
    found_none e x l =
        subst (λ (y : View). Reach (lane_count ws) y t.D x) P.sees
        (to-view s ws R (allocate-none W low e x l))
