-- One whole call on a table that stands as a state: it answers as the state says, and the table stands as the next one.
use mathlib.Core.Path.{◌≡◌, refl, sym, ap, ◌∙◌, subst}
use mathlib.Core.Bool.{Bool, true, false}
use mathlib.Core.List.{List, [], ◌∷◌}
use mathlib.Core.Option.{Option, some, none}
use Prim.Native.Nat.{ℕ, ◌+◌, ◌*◌, ◌≤◌, ◌<◌}
use native.Mathlib.Omega.{arith}
use lib.ListN.{length}
use Rattle.machine.specs.Outcomes.Reply.{Accepted}
use Rattle.machine.specs.declared.Stored.{Stored}
use Rattle.machine.specs.Choice.{◌≟◌}
use Rattle.machine.specs.Sides.{Side, left, right, opposite, side_number, side_of}
use Rattle.machine.specs.Values.{stored, number}
use Rattle.machine.specs.Operations.{Operation, operation_number, operation_of}
use Rattle.machine.specs.Table.{task_count, lane_count}
use Rattle.machine.specs.Answers.{is_going}
use Rattle.machine.specs.Calls.{begin_refusal, Changed, begin, Ticked, tick}
use Rattle.machine.specs.Demand3.{begin_call, tick_call}
use Rattle.machine.specs.Begun.{Begun, by_call}
use Rattle.machine_progress.specs.Solo.{HintsBelow}
use Rattle.machine_capacity.specs.NoLeak.{IdleTable, AllCounted}
use Rattle.machine_capacity.specs.Alone.{CallOutcome, alone, spare_of, spur_of, LeavesIdle, alone_at, ticks_with}
use Rattle.machine_capacity.specs.OneUser.{
  LaneState,
  State,
  WholeCall,
  refusal,
  outcome,
  with_side,
  state_then,
  AfterCall,
  after_call,
  one_call,
}
use Rattle.machine_capacity.specs.OneUserExactly.{ticks_then, whole_call}
use Rattle.machine.proofs.Basics.Choices.{by-if}
use Rattle.machine.proofs.Words.RecordLaws.{number-of-operation, number-of-side}
use Rattle.machine.proofs.Words.ValueLaws.{argument-stored}
use Rattle.machine.proofs.Shape.ShapeKept.{CallFits, begin-allowed, tick-call-kept}
use Rattle.machine.proofs.Linearizability.Corollaries.{begun-agrees}
use Rattle.machine.proofs.Linearizability.Begun.TableBegun.{accepted-begin}
use Rattle.machine_capacity.proofs.Theorem.{no-leak}
use Rattle.machine_capacity.proofs.Alone.Theorem.{answers-exactly, free-after}
use Rattle.machine_capacity.proofs.OneUser.Standing.{Standing, refusal_is}

-- ---- As many tasks as before.
ticks-tasks : (k : ℕ) (hints : List ℕ) {ws : List ℕ} → Begun ws → task_count (ticks_with hints ws k).words ≡ task_count ws
unfolding ticks_with
ticks-tasks k [] B = refl
ticks-tasks k (h ∷ hints) {ws} B =
    go (is_going (tick ws k h).answer) refl (ticks-tasks k hints (by_call B (tick_call k h)))
  where
    once : task_count (tick ws k h).words ≡ task_count ws
    once = ap (λ z. z.task_count) (tick-call-kept ws (begun-agrees B).1.accepted k h).same-sizes

    go : (b : Bool) → is_going (tick ws k h).answer ≡ b
        → task_count (ticks_with hints (tick ws k h).words k).words ≡ task_count (tick ws k h).words
        → task_count (ticks_with (h ∷ hints) ws k).words ≡ task_count ws
    go true e rest = rw (e, ticks_with) (rest ∙ once)
    go false e rest = rw (e, ticks_with) once

-- ---- The numbers of the two sides.
side_then : (s : Side) (f g : Side → ℕ) (n : ℕ) → f s ≡ n → f (opposite s) ≡ g (opposite s) → (z : Side)
    → f z ≡ with_side s n g z
side_then left f g n own far left = own
side_then left f g n own far right = far
side_then right f g n own far left = far
side_then right f g n own far right = own

module _ {S : ℕ} {ws : List ℕ} {σ : State} (P : Standing S ws σ) where
  -- ---- What a call alone comes to, by the state.
  outcome-is : (l : ℕ) → l < lane_count ws → (op : Operation) (s : Side) (v : ℕ)
      → alone_at ws P.table P.counted l op s v ≡ outcome σ l op s v
  outcome-is l h op s v =
      let I = P.table.shape l in
      ap (λ (n : ℕ). alone op s v n P.counted.free I.bags (spare_of s I) (spur_of s I)) P.growth_is
      ∙ ap (λ (n : ℕ). alone op s v σ.growth n I.bags (spare_of s I) (spur_of s I)) P.free-is
      ∙ ap (λ (b : List ℕ). alone op s v σ.growth σ.free b (spare_of s I) (spur_of s I)) (P.bags-are l h)
      ∙ ap (λ (n : ℕ). alone op s v σ.growth σ.free (σ.lane l).bags n (spur_of s I)) (P.spare_is l h s)
      ∙ ap (λ (n : ℕ). alone op s v σ.growth σ.free (σ.lane l).bags ((σ.lane l).spare s) n) (P.spur_is l h s)

  -- ---- The table that it leaves.
  module _ {vs : List ℕ} (l : ℕ) (h : l < lane_count ws) (s : Side) (o : CallOutcome)
      (K : LeavesIdle ws vs P.table l s o)
      (same_tasks : task_count vs ≡ task_count ws) where
    abbrev T' : IdleTable vs
    T' = (no-leak vs K.begun K.idle_now).0

    C' : AllCounted vs T'
    C' = (no-leak vs K.begun K.idle_now).1

    there : (j : ℕ) → j < lane_count vs → j < lane_count ws
    there j q = subst (λ (n : ℕ). j < n) K.same-lanes q

    left-standing : Standing S vs (state_then σ l s o)
    left-standing =
        record {
          begun = K.begun;
          no_call = K.idle_now;
          nodes-are = K.same_nodes ∙ P.nodes-are;
          tasks_are = same_tasks ∙ P.tasks_are;
          growth_is = K.same_growth ∙ P.growth_is;
          lanes_are = K.same-lanes ∙ P.lanes_are;
          table = T';
          counted = C';
          bags-are =
              λ j q.
              by-if (λ (i : LaneState). (T'.shape j).bags ≡ i.bags) (j ≟ l)
              (λ e. ap (λ (n : ℕ). (T'.shape n).bags) e ∙ K.own_bags T')
              (λ ne. (K.others T' j (there j q) ne).same-bags ∙ P.bags-are j (there j q));
          spare_is =
              λ j q z.
              by-if (λ (i : LaneState). spare_of z (T'.shape j) ≡ i.spare z) (j ≟ l)
              (λ e.
              ap (λ (n : ℕ). spare_of z (T'.shape n)) e
              ∙ side_then s (λ y. spare_of y (T'.shape l)) (σ.lane l).spare o.spare (K.own_spare T')
              (K.far_spare T' ∙ P.spare_is l h (opposite s)) z)
              (λ ne. (K.others T' j (there j q) ne).same_spare z ∙ P.spare_is j (there j q) z);
          spur_is =
              λ j q z.
              by-if (λ (i : LaneState). spur_of z (T'.shape j) ≡ i.spur z) (j ≟ l)
              (λ e.
              ap (λ (n : ℕ). spur_of z (T'.shape n)) e
              ∙ side_then s (λ y. spur_of y (T'.shape l)) (σ.lane l).spur o.spur (K.own_spur T')
              (K.far_spur T' ∙ P.spur_is l h (opposite s)) z)
              (λ ne. (K.others T' j (there j q) ne).same_spur z ∙ P.spur_is j (there j q) z);
          free-is =
              let sum = free-after ws vs P.table P.counted l h s o K T' C' in
              let a = P.free-is in
              let b = P.spare_is l h s in
              let c = P.spur_is l h s in
              let d = ap length (P.bags-are l h) in
              omega arith;
        }

  -- ---- One call.
  pub record Step (c : WholeCall) (r : Ticked) (d : AfterCall) : Type 0 where
    pub answers : r.answer ≡ d.answer
    pub stands : Standing S r.words d.state

  module _ (c : WholeCall) (hints : List ℕ) (lows : HintsBelow S hints) (long : 4 * S + 154 ≤ length hints) where
    abbrev k : ℕ
    k = c.task

    abbrev op : Operation
    op = operation_of c.operation

    abbrev s : Side
    s = side_of c.side

    abbrev v : ℕ
    v = number c.argument

    abbrev begun-now : Changed
    begun-now = begin ws c.task c.lane c.operation c.side c.argument

    module _ (passes : begin_refusal ws c.task c.lane c.operation c.side c.argument ≡ none) where
      allowed : CallFits ws c.task c.lane c.operation c.side c.argument
      allowed = (begin-allowed ws c.task c.lane c.operation c.side c.argument passes).fits

      accepted : begun-now.reply ≡ Accepted
      unfolding begin
      accepted = rw passes

      -- By the operation, the side and the number.
      same-begin : begin ws k c.lane (operation_number op) (side_number s) (stored v) ≡ begun-now
      same-begin =
          ap (λ (n : ℕ). begin ws k c.lane n (side_number s) (stored v))
          (number-of-operation c.operation allowed.last-operation)
          ∙ ap (λ (n : ℕ). begin ws k c.lane c.operation n (stored v))
          (number-of-side c.side allowed.last-side)
          ∙ ap (λ (u : Stored). begin ws k c.lane c.operation c.side u)
          (argument-stored op c.argument allowed.argument-fits)

      done : Ticked
      done = ticks_with hints begun-now.words k

      says : (done.answer ≡ (outcome σ c.lane op s v).answer)
          × LeavesIdle ws done.words P.table c.lane s (outcome σ c.lane op s v)
      unfolding done
      says =
          subst
          (λ (o : CallOutcome).
          ((ticks_with hints begun-now.words k).answer ≡ o.answer)
          × LeavesIdle ws (ticks_with hints begun-now.words k).words P.table c.lane s o)
          (outcome-is c.lane allowed.is_lane op s v)
          (subst
          (λ (b : Changed).
          ((ticks_with hints b.words k).answer ≡ (alone_at ws P.table P.counted c.lane op s v).answer)
          × LeavesIdle ws (ticks_with hints b.words k).words P.table c.lane s
          (alone_at ws P.table P.counted c.lane op s v))
          same-begin
          (answers-exactly op ws P.begun P.no_call P.table P.counted k c.lane s v
          (ap (λ (b : Changed). b.reply) same-begin ∙ accepted) hints
          (subst (λ (n : ℕ). HintsBelow n hints) (sym P.nodes-are) lows)
          (subst (λ (n : ℕ). 4 * n + 154 ≤ length hints) (sym P.nodes-are) long)))

      tasks-then : task_count done.words ≡ task_count ws
      unfolding done
      tasks-then =
          let A = (begun-agrees P.begun).1 in
          ticks-tasks k hints
          (by_call P.begun (begin_call c.task c.lane c.operation c.side c.argument))
          ∙ (accepted-begin A c.task c.lane c.operation c.side c.argument accepted).same_count

      by-accepted : Step c (whole_call ws c hints) (after_call none σ c)
      unfolding done
      by-accepted =
          subst (λ r. Step c (ticks_then r hints begun-now.words k) (after_call none σ c)) (sym accepted)
          (record {
            answers = says.0;
            stands = left-standing c.lane allowed.is_lane s (outcome σ c.lane op s v) says.1 tasks-then;
          })

    by-refused : (n : ℕ) → begin_refusal ws c.task c.lane c.operation c.side c.argument ≡ some n
        → Step c (whole_call ws c hints) (after_call (some n) σ c)
    unfolding begin
    by-refused n e = rw e (record { answers = refl; stands = P })

    pub one-call : Step c (whole_call ws c hints) (one_call σ c)
    one-call = go (refusal σ c) (refusal_is P c)
      where
        go : (r : Option ℕ) → begin_refusal ws c.task c.lane c.operation c.side c.argument ≡ r
            → Step c (whole_call ws c hints) (after_call r σ c)
        go (some n) e = by-refused n e
        go none e = by-accepted e
