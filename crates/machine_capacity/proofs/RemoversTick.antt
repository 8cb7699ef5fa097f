-- A tick of any busy task keeps that links have removers.
use mathlib.Core.Path.{◌≡◌, refl, sym, ap, subst, ◌∙◌}
use mathlib.Core.Logic.{◌≢◌, inl, inr}
use mathlib.Core.Bool.{Bool, true, false}
use mathlib.Core.List.{List}
use Prim.Native.Nat.{ℕ}
use Rattle.machine.specs.Choice.{◌≟◌}
use Rattle.machine.specs.Sides.{Side, left, right, opposite}
use Rattle.machine.specs.Values.{X, Y}
use Rattle.machine.specs.Operations.{idle}
use Rattle.machine.specs.Steps.{Step, rest}
use Rattle.machine.specs.Steps as Steps
use Rattle.machine.specs.Tasks.{Task, no_node, in_a, in_b}
use Rattle.machine.specs.Registers.{holds}
use Rattle.machine.specs.Lines.{Effect}
use Rattle.machine.specs.Row.{Note}
use Rattle.machine.proofs.Basics.Contradiction.{refute}
use Rattle.machine.proofs.Basics.Updates.{update, update_same, update_other, update-wrote, wrote-all}
use Rattle.machine.proofs.Words.Memories.{View, written, swapped, view, view_after, view-view}
use Rattle.machine.proofs.Linearizability.Model.Sides.{Opposite, sides}
use Rattle.machine.proofs.Linearizability.Model.RowViews.{row_from}
use Rattle.machine.proofs.Linearizability.Model.Classes.{Class, free, spur, Old, old-not-none}
use Rattle.machine.proofs.Linearizability.Model.Nodes.{Y-in-spur}
use Rattle.machine.proofs.Linearizability.Model.Phases.{TaskOk}
use Rattle.machine.proofs.Linearizability.Model.Invariant.{
  Invariant,
  RegistersHeld,
  Roots,
  every-lane,
  Kept,
  goes_on,
  has_answered,
  TickOk,
}
use Rattle.machine.proofs.Linearizability.Model.LaneViews.{lanes-view}
use Rattle.machine.proofs.Linearizability.Writes.FreeNode.{take-ok}
use Rattle.machine.proofs.Linearizability.Lines.Tick.{tick-ok}
use Rattle.machine.proofs.Linearizability.Lines.InvariantTick.{guarantees-view, effect_in}
use Rattle.machine_capacity.proofs.Removers.{
  Duty,
  no-duty,
  before-cut,
  cut-pair,
  at-B,
  at-A,
  at_both,
  duty,
  Mark,
  end,
  Cuts,
  Sure,
  CutBy,
  HasRemovers,
  LinksHaveRemovers,
}
use Rattle.machine_capacity.proofs.KeepsRemovers.{
  StillCut,
  newly,
  as_before,
  LinkStays,
  same-link,
  from-Y,
  to-Y,
  RemoversAfter,
}
use Rattle.machine_capacity.proofs.LinesKeepRemovers.{removers-after}

-- Where a link of an X is to be cut, it leads to a Y.
end-leads-to-Y : (d : Duty) (s : Side) (m : View) (t : Task) (n l : ℕ)
    → Cuts d end t n l
    → Sure d s m t
    → m.val l ≡ Y s
end-leads-to-Y no-duty s m t n l c u = absurd c
end-leads-to-Y before-cut s m t n l c u = absurd c
end-leads-to-Y cut-pair s m t n l c u = subst (λ (x : ℕ). m.val x ≡ Y s) c.1 u
end-leads-to-Y at-B s m t n l c u = absurd c
end-leads-to-Y at-A s m t n l c u = absurd c
end-leads-to-Y at_both s m t n l c u = absurd c

-- ---- From the side of the task that ticks to any side.
removers-view : (s z : Side) (m : View) {ts : ℕ → Task}
    → HasRemovers ts s m
    → HasRemovers ts (opposite s) (swapped m)
    → HasRemovers ts z (view z (view s m))
removers-view left left m near far = near
removers-view left right m near far = far
removers-view right left m near far = far
removers-view right right m near far = near

removers-beyond : (s : Side) (M : View) {ts : ℕ → Task}
    → HasRemovers ts (opposite s) (view (opposite s) M)
    → HasRemovers ts (opposite s) (swapped (view s M))
removers-beyond left M far = far
removers-beyond right M far = far

-- Links between nodes that are old and held stay, or one of the nodes is Y.
pub record LinksStay (held : ℕ → Bool) (class : ℕ → Class) (z : Side) (m m' : View) : Type 0 where
  pub stays : (x : ℕ) → held x ≡ true → Old class x → m.out x ≢ no_node → LinkStays z m m' x

links-view : (s z : Side) (M m' : View) {held : ℕ → Bool} {class : ℕ → Class}
    → LinksStay held class s (view s M) m'
    → LinksStay held class (opposite s) (swapped (view s M)) (swapped m')
    → LinksStay held class z (view z M) (view z (view s m'))
links-view left left M m' near far = near
links-view left right M m' near far = far
links-view right left M m' near far = far
links-view right right M m' near far = near

-- ---- What a step says of A and B survives the ticks of the others.
module _ {held : ℕ → Bool} {class : ℕ → Class} {z : Side} (m m' : View)
    (none_free : class no_node ≡ free)
    (Y-stays : (x : ℕ) → held x ≡ true → class x ≡ spur z → m.val x ≡ Y z → m'.val x ≡ Y z)
    (Y-spur : (x : ℕ) → Old class x → m.val x ≡ Y z → class x ≡ spur z)
    (links : LinksStay held class z m m') (t : Task) where
  -- A node that is held unless it is none.
  abbrev Held : ℕ → Type 0
  Held x = x ≢ no_node → held x ≡ true

  Y-then : (x : ℕ) → Held x → Old class x → m.val x ≡ Y z → m'.val x ≡ Y z
  Y-then x u h y = Y-stays x (u (old-not-none class none_free x h)) (Y-spur x h y) y

  pair-stays : Held t.A → Held t.B → Old class t.A → Old class t.B
      → Sure before-cut z m t
      → Sure before-cut z m' t
  pair-stays u w a b (inl q) =
      let A-held = u (old-not-none class none_free t.A a) in
      let some : m.out t.A ≢ no_node = λ p. old-not-none class none_free t.B b (sym q ∙ p) in
      elim (links.stays t.A A-held a some) [
        | same-link p ↦ inl (p ∙ q)
        | from-Y y ↦ inr (inl y)
        | to-Y y ↦ inr (inr (cc))
      ]
  pair-stays u w a b (inr (inl y)) = inr (inl (Y-then t.A u a y))
  pair-stays u w a b (inr (inr y)) = inr (inr (Y-then t.B w b y))

  sure-stays : {j : ℕ} {o : Side} (st : Step) → RegistersHeld held (holds st) t → TaskOk j z o m class st t
      → Sure (duty st) z m t
      → Sure (duty st) z m' t
  sure-stays rest R h u = tt
  sure-stays Steps.line2 R h u = tt
  sure-stays Steps.line3 R h u = tt
  sure-stays Steps.line5 R h u = tt
  sure-stays Steps.line8 R h u = tt
  sure-stays Steps.line15 R h u = tt
  sure-stays Steps.line17 R h u = tt
  sure-stays Steps.line18 R h u = tt
  sure-stays Steps.line24 R h u = tt
  sure-stays Steps.line25 R h u = tt
  sure-stays Steps.line28 R h u = tt
  sure-stays Steps.line31 R h u = tt
  sure-stays Steps.line39 R h u = tt
  sure-stays Steps.line40 R h u = tt
  sure-stays Steps.line42 R h u = tt
  sure-stays Steps.line48 R h u = tt
  sure-stays Steps.line51 R h u = tt
  sure-stays Steps.line54 R h u = tt
  sure-stays Steps.line56 R h u = tt
  sure-stays Steps.line58 R h u = tt
  sure-stays Steps.line60 R h u = tt
  sure-stays Steps.line67 R h u = tt
  sure-stays Steps.line68 R h u = tt
  sure-stays Steps.line69 R h u = tt
  sure-stays Steps.line70 R h u = tt
  sure-stays Steps.line72 R h u = tt
  sure-stays Steps.line62 R h u = pair-stays (R in_a refl) (R in_b refl) h.relies.A-old h.relies.B-old u
  sure-stays Steps.line64 R h u = Y-then t.B (R in_b refl) (cc h.relies.B-spur) u
  sure-stays Steps.line74 R h u = Y-then t.B (R in_b refl) (cc h.relies) u
  sure-stays Steps.line77 R h u = Y-then t.A (R in_a refl) (cc h.relies.A-spur) u
  sure-stays Steps.line78 R h u = Y-then t.A (R in_a refl) (cc h.relies.A-spur) u
  sure-stays Steps.line79 R h u =
      let A-Y = Y-then t.A (R in_a refl) (cc h.relies.A-spur) u.0 in
      let B-Y = Y-then t.B (R in_b refl) (cc h.relies.B-spur) u.1 in
      (A-Y, B-Y)
  sure-stays Steps.line81 R h u = Y-then t.A (R in_a refl) (cc h.relies) u
  sure-stays Steps.line82 R h u = Y-then t.A (R in_a refl) (cc h.relies) u

-- ---- The tick.
module _ {L : ℕ} {held : ℕ → Bool} {M : View} {ts : ℕ → Task} {class : ℕ → Class} {r : ℕ → List ℕ}
    (I : Invariant L M ts class r) (R : Roots L held M ts) (H : LinksHaveRemovers M ts)
    (k g f : ℕ) (busy : (ts k).operation ≢ idle) (free-f : f ≢ no_node → held f ≡ false) where
  abbrev s : Side
  s = (ts k).side

  abbrev o : Side
  o = opposite (ts k).side

  abbrev m : View
  m = view s M

  abbrev e : Effect
  e = effect_in M ts k g f

  abbrev m' : View
  m' = written (ts k).lane s e.writes m

  abbrev M' : View
  M' = view s m'

  abbrev ts' : ℕ → Task
  ts' = update ts k e.task

  x-cut : (n : ℕ) → m.val n ≡ X s → m.out n ≢ no_node → m.val (m.out n) ≡ Y s
  x-cut n v ne =
      let c = (H.has-removers s).remover end n v ne in
      let j = c.cutter in
      let u = subst (λ (z : Side). Sure (duty (ts j).step) z (view z M) (ts j)) c.on-side (H.sure j) in
      end-leads-to-Y (duty (ts j).step) s m (ts j) n (m.out n) c.cuts u

  effect-ok : TickOk held L k s o m class (λ l. row_from s (r l)) (ts k) e
  effect-ok =
      tick-ok held k (lanes-view s I.lanes) (ts k) (I.own_lane k) g f (λ h. take-ok I R s f (free-f h)) busy
      (ts k).step (I.task-ok k)

  cutters : RemoversAfter held class (ts k).lane s o m (duty (ts k).step) (ts k) e
  cutters =
      removers-after L held k s o (sides s) m class x-cut (ts k) g f (λ h. take-ok I R s f (free-f h)) (ts k).step refl
      (I.task-ok k) (H.sure k)

  -- ---- The nodes.

  -- The task that ticked cuts.
  own-cut : (μ : Mark) (n l : ℕ) → Cuts (duty e.task.step) μ e.task n l → CutBy ts' s μ n l
  own-cut μ n l c = go effect-ok.kept
    where
      same : ts' k ≡ e.task
      same = update_same ts k e.task

      go : Kept (ts k) e → CutBy ts' s μ n l
      go (goes_on a q) =
          record {
            cutter = k;
            on-side = ap (λ (t : Task). t.side) same ∙ ap (λ (x : Note). x.side) q;
            cuts = subst (λ (t : Task). Cuts (duty t.step) μ t n l) (sym same) c;
          }
      go (has_answered a q) = absurd (subst (λ (t : Task). Cuts (duty t.step) μ t n l) q c)

  -- Another task still cuts.
  other_cut : {z : Side} (μ : Mark) (n l : ℕ) (c : CutBy ts z μ n l) → c.cutter ≢ k → CutBy ts' z μ n l
  other_cut μ n l c ne =
      let same = update_other ts k e.task c.cutter ne in
      record {
        cutter = c.cutter;
        on-side = ap (λ (t : Task). t.side) same ∙ c.on-side;
        cuts = subst (λ (t : Task). Cuts (duty t.step) μ t n l) (sym same) c.cuts;
      }

  near-removers : HasRemovers ts' s m'
  near-removers = record { remover = λ μ n v ne. go μ n ne (cutters.near.still-cut μ n v ne) }
    where
      go : (μ : Mark) (n : ℕ) → m'.out n ≢ no_node
          → StillCut s m m' (duty (ts k).step) (duty e.task.step) (ts k) e.task μ n
          → CutBy ts' s μ n (m'.out n)
      go μ n ne (newly c) = own-cut μ n (m'.out n) c
      go μ n ne (as_before v q c) =
          let b = (H.has-removers s).remover μ n v (λ p. ne (sym q ∙ p)) in
          subst (λ (l : ℕ). CutBy ts' s μ n l) q
          (elim (b.cutter ≟ k) [
            | yes i ↦
                own-cut μ n (m.out n)
                (c (subst (λ (j : ℕ). Cuts (duty (ts j).step) μ (ts j) n (m.out n)) i b.cuts))
            | no i ↦ other_cut μ n (m.out n) b i
          ])

  -- A task on this side is not on the other.
  not-far : (w : Opposite s o) (j : ℕ) → (ts j).side ≡ o → j ≢ k
  not-far w j h i = refute (cc)

  far-removers : HasRemovers ts' o (swapped m')
  far-removers = record { remover = λ μ n v ne. go μ n ne (cutters.far.still-cut μ n v ne) }
    where
      go : (μ : Mark) (n : ℕ) → m'.inn n ≢ no_node
          → StillCut o (swapped m) (swapped m') no-duty no-duty (ts k) e.task μ n
          → CutBy ts' o μ n (m'.inn n)
      go μ n ne (newly c) = absurd c
      go μ n ne (as_before v q c) =
          let b = (removers-beyond s M (H.has-removers o)).remover μ n v (λ p. ne (sym q ∙ p)) in
          subst (λ (l : ℕ). CutBy ts' o μ n l) q
          (other_cut μ n (m.inn n) b (not-far (sides s) b.cutter b.on-side))

  -- ---- The tasks.
  links-after : (z : Side) → LinksStay held class z (view z M) (view z M')
  links-after z =
      links-view s z M m' (record { stays = cutters.near.link_stays }) (record { stays = cutters.far.link_stays })

  other-sure : (j : ℕ) → j ≢ k → Sure (duty (ts j).step) (ts j).side (view (ts j).side M') (ts j)
  other-sure j ne =
      let z : Side = (ts j).side in
      let D = lanes-view z I.lanes in
      let S = (D.lane (ts j).lane (I.own_lane j)).structure in
      let G = guarantees-view s z M m' effect-ok.guarantees in
      sure-stays (view z M) (view z M') S.none_free G.near.Y-stays (Y-in-spur S (every-lane D)) (links-after z)
      (ts j) (ts j).step (R.registers j) (I.task-ok j) (H.sure j)

  own-sure : Sure (duty e.task.step) e.task.side (view e.task.side M') e.task
  own-sure = go effect-ok.kept
    where
      x : Task
      x = e.task

      go : Kept (ts k) e → Sure (duty x.step) x.side (view x.side M') x
      go (goes_on a q) =
          let side_same : x.side ≡ s = ap (λ (n : Note). n.side) q in
          subst (λ (z : Side). Sure (duty x.step) z (view z M') x) (sym side_same)
          (subst (λ (y : View). Sure (duty x.step) s y x) (sym (view-view s m')) cutters.sure)
      go (has_answered a q) =
          subst (λ (y : Task). Sure (duty y.step) y.side (view y.side M') y) (sym q) tt

  pub removers-after-tick : LinksHaveRemovers
      (view_after (ts k).lane (ts k).side (effect_in M ts k g f).writes M) (update ts k (effect_in M ts k g f).task)
  removers-after-tick =
      record {
        has-removers = λ z. removers-view s z m' near-removers far-removers;
        sure =
            wrote-all (λ j x. Sure (duty x.step) x.side (view x.side M') x) (update-wrote ts k e.task)
            own-sure other-sure;
      }
