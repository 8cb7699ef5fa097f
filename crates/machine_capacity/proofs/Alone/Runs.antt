-- A call that gets all the ticks, tick by tick: its record and the view from its side, and what they lead to.
use mathlib.Core.Path.{◌≡◌, refl, sym, ap, ◌∙◌, subst}
use mathlib.Core.Logic.{◌≢◌}
use mathlib.Core.Bool.{true}
use mathlib.Core.List.{List}
use mathlib.Core.Option.{none}
use Prim.Native.Nat.{ℕ, ◌<◌}
use Rattle.machine.specs.Outcomes.Answer.{Answer, Going, Pushed, Bag, Empty, Full, Yes, No, Refused}
use Rattle.machine.specs.Outcomes.Reply.{Accepted}
use Rattle.machine.specs.Choice.{◌≟◌}
use Rattle.machine.specs.Sides.{Side, opposite, side_number, side_of}
use Rattle.machine.specs.Values.{stored}
use Rattle.machine.specs.Operations.{Operation, operation_number, operation_of}
use Rattle.machine.specs.Tasks.{Task, fresh, goal}
use Rattle.machine.specs.Table.{node_count, growth, lane_count, task}
use Rattle.machine.specs.Allocate.{allocate}
use Rattle.machine.specs.Row.{Note}
use Rattle.machine.specs.Lines.{seen, Effect, act}
use Rattle.machine.specs.Answers.{refusal_of, ends_call}
use Rattle.machine.specs.Calls.{tick_refusal, begun_task, begin, effect_of, Ticked, tick_on, tick}
use Rattle.machine.specs.Demand3.{begin_call}
use Rattle.machine.specs.Begun.{Begun, by_call}
use Rattle.machine_capacity.specs.NoLeak.{Idle}
use Rattle.machine_capacity.specs.Capacity.{AloneTo, ends_now, ends-later}
use Rattle.machine.proofs.Basics.Contradiction.{clash}
use Rattle.machine.proofs.Basics.Updates.{update_same, update_other}
use Rattle.machine.proofs.Words.Memories.{View, viewed, written, seen_in}
use Rattle.machine.proofs.Words.TickLaws.{tick-answer}
use Rattle.machine.proofs.Words.RecordLaws.{operation-of-number, side-of-number}
use Rattle.machine.proofs.Words.ValueLaws.{number-stored}
use Rattle.machine.proofs.Shape.ShapeLaws.{well-shaped}
use Rattle.machine.proofs.Shape.TickKeeps.{idle-fresh, tick-allowed}
use Rattle.machine.proofs.Linearizability.Model.Invariant.{Kept, goes_on, has_answered}
use Rattle.machine.proofs.Linearizability.Calls.Agreement.{Agrees}
use Rattle.machine.proofs.Linearizability.Calls.MadeTicks.{keeps-invariant}
use Rattle.machine.proofs.Linearizability.Corollaries.{begun-agrees, tick-passes, made-passes, begun-ticked}
use Rattle.machine.proofs.Linearizability.Begun.TableAfter.{own-viewed, own-after, other_after, nodes-after}
use Rattle.machine.proofs.Linearizability.Begun.TableAfter.{lanes-after, growth_after}
use Rattle.machine.proofs.Linearizability.Begun.TableBegun.{BegunTable, accepted-begin}

-- An answer that ends a call is no refusal, and not "going".
pub ends-made : (a : Answer) → ends_call a ≡ true → refusal_of a ≡ none
ends-made Going e = clash (cc)
ends-made Pushed e = refl
ends-made (Bag b) e = refl
ends-made Empty e = refl
ends-made Full e = refl
ends-made Yes e = refl
ends-made No e = refl
ends-made (Refused n) e = clash (cc)

-- A call on side s has answered, in a table of these sizes, and m is the view that it leaves.
pub record Answered (s : Side) (S L g : ℕ) (m : View) (vs : List ℕ) : Type 0 where
  pub begun : Begun vs
  pub idle_now : Idle vs
  pub same_nodes : node_count vs ≡ S
  pub same-lanes : lane_count vs ≡ L
  pub same_growth : growth vs ≡ g
  pub sees : viewed s vs ≡ m

module _ (k ℓ : ℕ) (s : Side) where
  -- Task k stands with the record t, on side s of lane ℓ, whose view is m; no other task is in a call.
  pub record At (t : Task) (m : View) (ws : List ℕ) : Type 0 where
    pub begun : Begun ws
    pub own : task ws k ≡ t
    pub on-lane : t.lane ≡ ℓ
    pub on-side : t.side ≡ s
    pub others : (j : ℕ) → j ≢ k → task ws j ≡ fresh
    pub sees : viewed s ws ≡ m

  pub record SameSizes (ws vs : List ℕ) : Type 0 where
    pub nodes : node_count vs ≡ node_count ws
    pub lanes : lane_count vs ≡ lane_count ws
    pub growths : growth vs ≡ growth ws

  -- ---- A tick.
  module _ {t : Task} {m : View} {ws : List ℕ} (P : At t m ws) (h : ℕ) (passes : tick_refusal ws k h ≡ none) where
    abbrev after : List ℕ
    after = (tick_on ws k h).words

    A : Agrees ws (begun-agrees P.begun).0
    A = (begun-agrees P.begun).1

    -- The line, by the record and the view.
    abbrev line : Effect
    line = act t.step s (opposite s) (seen_in ℓ s m) t (goal (growth ws) t) (allocate ws h)

    effect_is : effect_of ws k h ≡ line
    unfolding effect_of
    effect_is =
        let f = allocate ws h in
        let g = growth ws in
        ap (λ (x : Task). act x.step x.side (opposite x.side) (seen x.lane x.side ws) x (goal g x) f)
        P.own
        ∙ ap (λ (z : Side). act t.step z (opposite z) (seen t.lane z ws) t (goal g t) f) P.on-side
        ∙ ap (λ (l : ℕ). act t.step s (opposite s) (seen l s ws) t (goal g t) f) P.on-lane
        ∙ ap (λ (y : View). act t.step s (opposite s) (seen_in ℓ s y) t (goal g t) f) P.sees

    sees-then : viewed s after ≡ written ℓ s (effect_of ws k h).writes m
    sees-then =
        let w = (effect_of ws k h).writes in
        subst (λ (l : ℕ). viewed s after ≡ written l s w m) P.on-lane
        (subst (λ (x : Task). viewed s after ≡ written x.lane s w m) P.own
        (subst (λ (y : View). viewed s after ≡ written (task ws k).lane s w y) P.sees
        (subst (λ (z : Side). viewed z after ≡ written (task ws k).lane z w (viewed z ws))
        (ap (λ (x : Task). x.side) P.own ∙ P.on-side) (own-viewed A k h passes))))

    -- It goes on, to the record and the view that its line leaves.
    goes : {e : Effect} → effect_of ws k h ≡ e → e.answer ≡ Going → At e.task (written ℓ s e.writes m) after
    goes {e} same going = go (keeps-invariant A k h passes).kept
      where
        go : Kept (task ws k) (effect_of ws k h) → At e.task (written ℓ s e.writes m) after
        go (has_answered ne _) = absurd (ne (ap (λ (x : Effect). x.answer) same ∙ going))
        go (goes_on _ note) =
            let now : (effect_of ws k h).task ≡ e.task = ap (λ (x : Effect). x.task) same in
            record {
              begun = begun-ticked P.begun k h;
              own = own-after A k h passes ∙ now;
              on-lane =
                  ap (λ (x : Task). x.lane) (sym now)
                  ∙ ap (λ (n : Note). n.lane) note
                  ∙ ap (λ (x : Task). x.lane) P.own
                  ∙ P.on-lane;
              on-side =
                  ap (λ (x : Task). x.side) (sym now)
                  ∙ ap (λ (n : Note). n.side) note
                  ∙ ap (λ (x : Task). x.side) P.own
                  ∙ P.on-side;
              others = λ j ne. other_after A k h passes j ne ∙ P.others j ne;
              sees = sees-then ∙ ap (λ (x : Effect). written ℓ s x.writes m) same;
            }

    sizes-then : SameSizes ws after
    sizes-then =
        record {
          nodes = nodes-after A k h passes;
          lanes = lanes-after A k h passes;
          growths = growth_after A k h passes;
        }

    -- It answers.
    ends : {e : Effect} → effect_of ws k h ≡ e → e.answer ≢ Going
        → Answered s (node_count ws) (lane_count ws) (growth ws) (written ℓ s e.writes m) after
    ends {e} same answers =
        record {
          begun = begun-ticked P.begun k h;
          idle_now =
              λ j. elim (j ≟ k) [
                | yes i ↦
                    ap (λ (x : ℕ). (task after x).operation) i
                    ∙ ap (λ (x : Task). x.operation) (own-after A k h passes)
                    ∙ ap (λ (x : Task). x.operation) (fresh-then (keeps-invariant A k h passes).kept)
                | no i ↦ ap (λ (x : Task). x.operation) (other_after A k h passes j i ∙ P.others j i)
              ];
          same_nodes = sizes-then.nodes;
          same-lanes = sizes-then.lanes;
          same_growth = sizes-then.growths;
          sees = sees-then ∙ ap (λ (x : Effect). written ℓ s x.writes m) same;
        }
      where
        fresh-then : Kept (task ws k) (effect_of ws k h) → (effect_of ws k h).task ≡ fresh
        fresh-then (has_answered ne fresh-now) = fresh-now
        fresh-then (goes_on e _) = absurd (answers (ap (λ (x : Effect). x.answer) (sym same) ∙ e))

  -- ---- What a call leads to: whatever hints it gets, an answer and a table of which Q is true.
  module _ (S L g : ℕ) (Q : Answer → List ℕ → Type 0) where
    pub record Leads (t : Task) (m : View) : Type 0 where
      pub leads : {a : Answer} {vs ws : List ℕ} → At t m ws → node_count ws ≡ S → lane_count ws ≡ L → growth ws ≡ g
          → AloneTo k a vs ws
          → Q a vs

    abbrev pub line_at : Task → View → (f : ℕ) → Effect
    line_at t m f = act t.step s (opposite s) (seen_in ℓ s m) t (goal g t) f

    -- What a tick with effect e comes to.
    pub data Next (m : View) (e : Effect) : Type 0 where
      going : e.answer ≡ Going → Leads e.task (written ℓ s e.writes m) → Next m e
      ending :
          e.answer ≢ Going
          → ((vs : List ℕ) → Answered s S L g (written ℓ s e.writes m) vs → Q e.answer vs)
          → Next m e

    module _ {t : Task} {m : View} {ws : List ℕ} (P : At t m ws) (nodes : node_count ws ≡ S)
        (lanes : lane_count ws ≡ L) (growths : growth ws ≡ g) (h : ℕ) where
      is_tick : tick ws k h ≡ tick_on ws k h
      is_tick = tick-passes (begun-agrees P.begun).1 k h

      says : (passes : tick_refusal ws k h ≡ none) → (tick ws k h).answer ≡ (effect_of ws k h).answer
      says passes = ap (λ (r : Ticked). r.answer) is_tick ∙ tick-answer ws k h passes

      line-is : tick_refusal ws k h ≡ none → effect_of ws k h ≡ line_at t m (allocate ws h)
      line-is passes =
          effect_is P h passes
          ∙ ap (λ (i : ℕ). act t.step s (opposite s) (seen_in ℓ s m) t (goal i t) (allocate ws h)) growths

      abbrev e : Effect
      e = line_at t m (allocate ws h)

      last-tick : {a : Answer} {vs : List ℕ} → tick_refusal ws k h ≡ none → ends_call a ≡ true
          → (tick ws k h).answer ≡ a
          → (tick ws k h).words ≡ vs
          → Next m (line_at t m (allocate ws h))
          → Q a vs
      last-tick {a} {vs} passes is-end is-a leaves (going goes-on-now next) =
          let x = says passes in
          let y = ap (λ (r : Effect). r.answer) (line-is passes) in
          let z : a ≡ Going = cc in
          clash (cc)
      last-tick {a} {vs} passes is-end is-a leaves (ending ne done) =
          let line = line-is passes in
          let A = ends P h passes line ne in
          let words : (tick_on ws k h).words ≡ vs = ap (λ (r : Ticked). r.words) (sym is_tick) ∙ leaves in
          subst (λ (x : Answer). Q x vs)
          (ap (λ (r : Effect). r.answer) (sym line) ∙ sym (says passes) ∙ is-a)
          (done vs
          (subst (Answered s S L g (written ℓ s e.writes m)) words
          (record {
            begun = A.begun;
            idle_now = A.idle_now;
            same_nodes = A.same_nodes ∙ nodes;
            same-lanes = A.same-lanes ∙ lanes;
            same_growth = A.same_growth ∙ growths;
            sees = A.sees;
          })))

      one_more : {a : Answer} {vs : List ℕ} → tick_refusal ws k h ≡ none → (tick ws k h).answer ≡ Going
          → AloneTo k a vs (tick ws k h).words
          → Next m (line_at t m (allocate ws h))
          → Q a vs
      one_more {a} {vs} passes is-going more (ending ne done) =
          absurd (ne (ap (λ (r : Effect). r.answer) (sym (line-is passes)) ∙ sym (says passes) ∙ is-going))
      one_more {a} {vs} passes is-going more (going goes-on-now next) =
          let z = sizes-then P h passes in
          next.leads (goes P h passes (line-is passes) goes-on-now) (z.nodes ∙ nodes) (z.lanes ∙ lanes)
          (z.growths ∙ growths)
          (subst (λ (r : Ticked). AloneTo k a vs r.words) is_tick more)

    module _ {t : Task} {m : View}
        (known :
        (ws : List ℕ)
        → At t m ws
        → node_count ws ≡ S
        → lane_count ws ≡ L
        → (h : ℕ)
        → h < node_count ws
        → Next m (line_at t m (allocate ws h))) where
      run : {a : Answer} {vs ws : List ℕ} → At t m ws → node_count ws ≡ S → lane_count ws ≡ L → growth ws ≡ g
          → AloneTo k a vs ws
          → Q a vs
      run {a} {vs} {ws} P nodes lanes growths (ends_now h is-end is-a leaves) =
          let passes = made-passes P.begun k h (ap refusal_of is-a ∙ ends-made a is-end) in
          last-tick P nodes lanes growths h passes is-end is-a leaves
          (known ws P nodes lanes h (tick-allowed ws k h passes).1)
      run {a} {vs} {ws} P nodes lanes growths (ends-later h is-going more) =
          let passes = made-passes P.begun k h (ap refusal_of is-going) in
          one_more P nodes lanes growths h passes is-going more
          (known ws P nodes lanes h (tick-allowed ws k h passes).1)

      pub search-leads : Leads t m
      search-leads = record { leads = run }

    -- A line that does not search.
    pub line-leads : {t : Task} {m : View} → ((f : ℕ) → Next m (line_at t m f)) → Leads t m
    line-leads next = search-leads (λ ws P _ _ h _. next (allocate ws h))

-- ---- The begin.
module _ {ws : List ℕ} (B : Begun ws) (idle_now : Idle ws) (k ℓ : ℕ) (op : Operation) (s : Side) (v : ℕ)
    (accepted : (begin ws k ℓ (operation_number op) (side_number s) (stored v)).reply ≡ Accepted) where
  abbrev begun-words : List ℕ
  begun-words = (begin ws k ℓ (operation_number op) (side_number s) (stored v)).words

  pub begun-table : BegunTable ws begun-words k (begun_task ℓ op s v)
  begun-table =
      subst (λ (o : Operation). BegunTable ws begun-words k (begun_task ℓ o s v)) (operation-of-number op)
      (subst (λ (z : Side). BegunTable ws begun-words k (begun_task ℓ (operation_of (operation_number op)) z v))
      (side-of-number s)
      (subst
      (λ n. BegunTable ws begun-words k (begun_task ℓ (operation_of (operation_number op)) (side_of (side_number s)) n))
      (number-stored v)
      (accepted-begin (begun-agrees B).1 k ℓ (operation_number op) (side_number s) (stored v) accepted)))

  pub begun-at : At k ℓ s (begun_task ℓ op s v) (viewed s ws) begun-words
  begun-at =
      let T = begun-table in
      record {
        begun = by_call B (begin_call k ℓ (operation_number op) (side_number s) (stored v));
        own = ap (λ (f : ℕ → Task). f k) T.tasks-then ∙ update_same (task ws) k _;
        on-lane = refl;
        on-side = refl;
        others =
            λ j ne.
            let ok = (begun-agrees B).1.accepted in
            ap (λ (f : ℕ → Task). f j) T.tasks-then
            ∙ update_other (task ws) k _ j ne
            ∙ idle-fresh ws (well-shaped ws ok.length_passes ok.shape_passes) j (idle_now j);
        sees = T.viewed-same s;
      }

  -- What the call leads to.
  pub call-leads : {Q : Answer → List ℕ → Type 0} {a : Answer} {vs : List ℕ}
      → Leads k ℓ s (node_count ws) (lane_count ws) (growth ws) Q (begun_task ℓ op s v) (viewed s ws)
      → AloneTo k a vs begun-words
      → Q a vs
  call-leads L alone = let T = begun-table in L.leads begun-at T.same_nodes T.same-lanes T.same_growth alone
