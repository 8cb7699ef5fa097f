-- Request 2026-07: a busy task gets its tick within T dispatches. Each one that ticks another task comes nearer to it.
use mathlib.Core.Path.{◌≡◌, refl, sym, ap, ◌∙◌, subst}
use mathlib.Core.Logic.{◌≢◌, inl, inr}
use mathlib.Core.Bool.{Bool, true, false}
use mathlib.Core.List.{List, [], ◌∷◌}
use mathlib.Core.Option.{Option, some, none}
use Prim.Native.Nat.{ℕ, zero, suc, ◌+◌, ◌<◌, ◌≤◌}
use native.Mathlib.Omega.{arith}
use Rattle.machine.specs.Outcomes.Dispatch.{Answered}
use Rattle.machine.specs.Round.{following}
use Rattle.machine.specs.Tasks.{Task}
use Rattle.machine.specs.Table.{task_count, dispatched, task, set_dispatched}
use Rattle.machine.specs.Shape.{WellFormed, sizes_of, WellSized}
use Rattle.machine.specs.Answers.{refusal_of, dispatch_refusal_of, dispatch_goes_on}
use Rattle.machine.specs.Calls.{
  start_refusal,
  tick_refusal,
  changed,
  start_words,
  start,
  effect_of,
  Ticked,
  tick_on,
  tick,
  is_busy,
  is_busy_task,
  next_busy,
  Dispatched,
  dispatch,
  dispatches,
  dispatches_made,
  went_on,
}
use Rattle.machine.specs.Demand3.{Call, dispatch_call, after}
use Rattle.machine.specs.Kinds.{Asked, a_start, a_begin, ticks-of, dispatches_with, a_look, asked, Did}
use Rattle.machine.specs.Fair.{
  LeavesDispatched,
  OthersLeaveDispatched,
  Repeat,
  dispatches_in,
  dispatches_of,
  dispatch_count,
  NoneRefused,
  IsTickOf,
  GetsTick,
  ticks_it,
  after_it,
  BusyThroughout,
  Fair,
  TickedOrEnded,
  gets_tick,
  ends_first,
  still_busy,
  FairUnlessEnded,
}
use Rattle.machine.proofs.Basics.Contradiction.{clash, refute, equal?}
use Rattle.machine.proofs.Basics.Tests.{test-passed, tests_left}
use Rattle.machine.proofs.Basics.Updates.{update_other}
use Rattle.machine.proofs.Basics.Rounds.{following-below, away, away-below, none_passes, found-or-nearer}
use Rattle.machine.proofs.Words.Columns.{columns, put_dispatched}
use Rattle.machine.proofs.Words.TableLaws.{columns-set_dispatched}
use Rattle.machine.proofs.Words.EffectLaws.{task-set-dispatched}
use Rattle.machine.proofs.Words.StartLaws.{task-start}
use Rattle.machine.proofs.Words.TickLaws.{tick-answer, tick-task}
use Rattle.machine.proofs.Words.DispatchLaws.{
  going-dispatch,
  others-follow,
  one-more-made,
  none-follows,
  one-made,
}
use Rattle.machine.proofs.Words.Kinds.{
  Comes,
  left_alone,
  is-started,
  is-begun,
  is-lent-begun,
  are-ticked,
  are-dispatched,
  call-comes,
}
use Rattle.machine.proofs.Shape.ShapeLaws.{WellShaped, well_sized, well-shaped}
use Rattle.machine.proofs.Shape.TickKeeps.{Kept, words-unchanged, busy-is-task, tick-kept}
use Rattle.machine.proofs.Shape.DispatchCases.{by_dispatch}
use Rattle.machine.proofs.Shape.ShapeKept.{
  is-accepted,
  begin-kept,
  list-kept,
  tick-passes,
  start-sized,
  call-accepted,
}

-- How far task k is from the one last dispatched: how many busy tasks may get their tick before it.
abbrev pub waits : List ℕ → (k : ℕ) → ℕ
waits ws k = away (task_count ws) (following (task_count ws) (dispatched ws)) k

-- What a dispatch does for a busy task k: it ticks it, or leaves it busy, and nearer.
data Served (ws : List ℕ) (k h : ℕ) (done : Dispatched) : Type 0 where
  ticked : IsTickOf k h ws done → Served ws k h done
  nearer-now :
      is_busy_task done.words k ≡ true → waits done.words k < waits ws k → Served ws k h done

module _ (ws : List ℕ) (A : WellFormed ws) where
  Z : WellSized (sizes_of ws)
  Z = well_sized ws A.length_passes

  W : WellShaped (columns ws)
  W = well-shaped ws A.length_passes A.shape_passes

  next-is-task : following (task_count ws) (dispatched ws) < task_count ws
  next-is-task = following-below (task_count ws) (dispatched ws) W.counts-ok.is_task

  -- ---- Calls that are no dispatches.

  -- They touch neither T nor the task last dispatched; an accepted start does, and leaves no task busy.
  leaves-dispatched : (c : Call) → LeavesDispatched (asked c) ws (after c ws)
  leaves-dispatched c = go (call-comes c ws)
    where
      alone : (a : Asked) → LeavesDispatched a ws ws
      alone (a_start S T g L) = tt
      alone (a_begin k l op side argument) = refl
      alone (ticks-of list) = refl
      alone (dispatches_with h n) = tt
      alone a_look = refl

      go : {a : Asked} {vs : List ℕ} {d : Did} → Comes ws a vs d → LeavesDispatched a ws vs
      go (left_alone a e) = alone a
      go (is-started S T g L e) = tt
      go (is-begun k l op side argument e) = (begin-kept ws k l op side argument Z W).same_dispatched
      go (is-lent-begun lent whole k l op side argument e) = refl
      go (are-ticked i list ts) = (list-kept i list ws Z W).same_dispatched
      go (are-dispatched h n ts) = tt

  module _ (k : ℕ) where
    abbrev SameWait : List ℕ → Type 0
    SameWait vs = is_busy_task vs k ≡ true → waits vs k ≡ waits ws k

    by-kept : {vs : List ℕ} → Kept ws vs → SameWait vs
    by-kept K busy = let same_count = ap (λ z. z.task_count) K.same-sizes in rw (same_count, K.same_dispatched)

    start-waits : (S T g L : ℕ) → SameWait (start ws S T g L).words
    unfolding start
    start-waits S T g L = go (start_refusal ws S T g L) refl
      where
        go : (r : Option ℕ) → start_refusal ws S T g L ≡ r → SameWait (changed r ws (start_words S T g L)).words
        go (some n) e = by-kept (words-unchanged ws Z W)
        go none e = λ busy.
            let Y = start-sized S T g L (search test-passed) (search (test-passed, tests_left)) in
            let at_rest = task-start S T g L Y.lanes_fit Y.most-lanes k in
            clash (cc (ap (λ (t : Task). is_busy t.operation) at_rest))

    other-waits : (c : Call) → dispatches_of c ≡ none → SameWait (after c ws)
    other-waits c = go (call-comes c ws)
      where
        go : {a : Asked} {vs : List ℕ} {d : Did} → Comes ws a vs d → dispatches_in a ≡ none → SameWait vs
        go (left_alone a e) unrefused = by-kept (words-unchanged ws Z W)
        go (is-started S T g L e) unrefused = start-waits S T g L
        go (is-begun j l op side argument e) unrefused = by-kept (begin-kept ws j l op side argument Z W)
        go (is-lent-begun lent whole j l op side argument e) unrefused = by-kept (words-unchanged ws Z W)
        go (are-ticked i list ts) unrefused = by-kept (list-kept i list ws Z W)
        go (are-dispatched h n ts) unrefused = clash (cc)

  -- ---- Dispatches.
  module _ (k : ℕ) (busy : is_busy_task ws k ≡ true) (h : ℕ) where
    is_task : k < task_count ws
    is_task = busy-is-task ws k busy

    -- Some task is busy, so it is not idle.
    some-busy : next_busy ws ≡ none → ⊥
    some-busy e =
        let T = task_count ws in
        let idle =
        none_passes T (is_busy_task ws) T (following T (dispatched ws)) next-is-task e k is_task
        (away-below T k is_task (following T (dispatched ws)) next-is-task) in
        refute (cc)

    -- The tick of task j that it makes.
    module _ (j : ℕ) (chosen : next_busy ws ≡ some j) (passes : tick_refusal ws j h ≡ none)
        (made : refusal_of (tick_on ws j h).answer ≡ none) where
      abbrev vs : List ℕ
      vs = (tick_on ws j h).words

      abbrev done : Dispatched
      done = record { answer = Answered (tick_on ws j h).answer; words = set_dispatched j vs }

      own_tick : j ≡ k → IsTickOf k h ws done
      own_tick e =
          let same : tick ws k h ≡ tick_on ws j h = tick-passes ws A k h ∙ ap (λ i. tick_on ws i h) (sym e) in
          record {
            made = ap (λ (r : Ticked). refusal_of r.answer) same ∙ made;
            same_answer = ap (λ (r : Ticked). Answered r.answer) (sym same);
            same-words =
                ap (λ (r : Ticked). set_dispatched j r.words) (sym same)
                ∙ ap (λ i. set_dispatched i (tick ws k h).words) e;
          }

      K : Kept ws vs
      K = tick-kept ws Z W j h

      columns-then : columns (set_dispatched j vs) ≡ put_dispatched j (columns vs)
      columns-then = columns-set_dispatched vs K.well_sized.sized j

      same_count : task_count (set_dispatched j vs) ≡ task_count ws
      same_count = ap (λ c. c.sizes.task_count) columns-then ∙ ap (λ z. z.task_count) K.same-sizes

      now-dispatched : dispatched (set_dispatched j vs) ≡ j
      now-dispatched = ap (λ c. c.counts.dispatched) columns-then

      other-task : k ≢ j → task (set_dispatched j vs) k ≡ task ws k
      other-task ne =
          let Line-made = ap refusal_of (sym (tick-answer ws j h passes)) ∙ made in
          ap (λ (f : ℕ → Task). f k)
          (task-set-dispatched vs K.well_sized.sized j ∙ tick-task ws j h passes Z W Line-made)
          ∙ update_other (task ws) j (effect_of ws j h).task k ne

      other-tick : j ≢ k → Served ws k h done
      other-tick ne =
          nearer-now (ap (λ (t : Task). is_busy t.operation) (other-task (λ e. ne (sym e))) ∙ busy)
          (rw (same_count, now-dispatched)
          (found-or-nearer (task_count ws) (is_busy_task ws) (task_count ws) (following (task_count ws) (dispatched ws))
          next-is-task chosen k is_task busy ne))

    dispatch-serves : dispatch_refusal_of (dispatch ws h).answer ≡ none → Served ws k h (dispatch ws h)
    dispatch-serves =
        by_dispatch ws A h (λ (r : Dispatched). dispatch_refusal_of r.answer ≡ none → Served ws k h r)
        (λ e. clash (cc)) (λ none-busy e. absurd (some-busy none-busy)) (λ j n chosen q e. clash (cc))
        (λ j chosen passes made e.
        elim (equal? j k) [
          | inl same ↦ ticked (own_tick j chosen passes made same)
          | inr ne ↦ other-tick j chosen passes made ne
        ])

pub others-leave-dispatched : OthersLeaveDispatched
others-leave-dispatched ws passes = leaves-dispatched ws (is-accepted ws passes)

-- ---- Consecutive dispatches.

-- What they do for a busy task k: one of them ticks it, or they leave it busy, and nearer by as many as are made.
data RowServed (ws : List ℕ) (k h n : ℕ) : Type 0 where
  ticked-at :
      (i : ℕ)
      → i < dispatches_made n ws h
      → IsTickOf k h (dispatches i ws h).words (dispatch (dispatches i ws h).words h)
      → RowServed ws k h n
  nearer-by :
      is_busy_task (dispatches n ws h).words k ≡ true
      → waits (dispatches n ws h).words k + dispatches_made n ws h ≤ waits ws k
      → RowServed ws k h n

row-serves : (n : ℕ) (ws : List ℕ) → WellFormed ws → (k : ℕ) → is_busy_task ws k ≡ true → (h : ℕ)
    → dispatch_refusal_of (dispatches n ws h).answer ≡ none
    → RowServed ws k h n
unfolding dispatches went_on
row-serves zero ws A k busy h unrefused = nearer-by busy (omega arith)
row-serves (suc n) ws A k busy h unrefused =
    go (dispatch_goes_on (dispatch ws h).answer) refl
    (λ b. row-serves n (dispatch ws h).words (call-accepted ws A (dispatch_call h)) k b h)
  where
    first : dispatch_refusal_of (dispatch ws h).answer ≡ none → Served ws k h (dispatch ws h)
    first = dispatch-serves ws A k busy h

    is_last : dispatch_goes_on (dispatch ws h).answer ≡ false → Served ws k h (dispatch ws h) → RowServed ws k h (suc n)
    is_last e (ticked it) = ticked-at 0 (rw (one-made n ws h e) (omega arith)) it
    is_last e (nearer-now b w) =
        nearer-by (rw (none-follows n ws h e) b) (rw (none-follows n ws h e, one-made n ws h e) (omega arith))

    follow : dispatch_goes_on (dispatch ws h).answer ≡ true
        → waits (dispatch ws h).words k < waits ws k
        → RowServed (dispatch ws h).words k h n
        → RowServed ws k h (suc n)
    follow e w (ticked-at i m it) =
        ticked-at (suc i) (rw (one-more-made n ws h e) (omega arith)) (rw (others-follow i ws h e) it)
    follow e w (nearer-by b near) =
        nearer-by (rw (others-follow n ws h e) b)
        (rw (others-follow n ws h e, one-more-made n ws h e) (omega arith))

    goes_on : dispatch_goes_on (dispatch ws h).answer ≡ true
        → (is_busy_task (dispatch ws h).words k ≡ true → RowServed (dispatch ws h).words k h n)
        → Served ws k h (dispatch ws h)
        → RowServed ws k h (suc n)
    goes_on e others (ticked it) = ticked-at 0 (rw (one-more-made n ws h e) (omega arith)) it
    goes_on e others (nearer-now b w) = follow e w (others b)

    go : (b : Bool) → dispatch_goes_on (dispatch ws h).answer ≡ b
        → (is_busy_task (dispatch ws h).words k ≡ true
        → dispatch_refusal_of (dispatches n (dispatch ws h).words h).answer ≡ none
        → RowServed (dispatch ws h).words k h n)
        → RowServed ws k h (suc n)
    go false e others =
        is_last e (first (ap (λ (d : Dispatched). dispatch_refusal_of d.answer) (sym (none-follows n ws h e))
        ∙ unrefused))
    go true e others =
        goes_on e
        (λ b. others b (ap (λ (d : Dispatched). dispatch_refusal_of d.answer) (sym (others-follow n ws h e))
        ∙ unrefused))
        (first (ap dispatch_refusal_of (going-dispatch (dispatch ws h).answer e)))

-- ---- Lists of calls.

-- The table that dispatches leave.
after-row : (c : Call) (d : Repeat) → dispatches_of c ≡ some d → (ws : List ℕ)
    → after c ws ≡ (dispatches d.times ws d.hint).words
after-row c d e ws = go (call-comes c ws) e
  where
    go : {a : Asked} {vs : List ℕ} {done : Did} → Comes ws a vs done → dispatches_in a ≡ some d
        → vs ≡ (dispatches d.times ws d.hint).words
    go (left_alone a unrefused) q = clash (cc)
    go (is-started S T g L _) q = clash (cc)
    go (is-begun k l op side argument _) q = clash (cc)
    go (is-lent-begun lent whole k l op side argument _) q = clash (cc)
    go (are-ticked i list ts) q = clash (cc)
    go (are-dispatched h n ts) q =
        let same : record { hint = h; times = n } ≡ d = cc in
        ap (λ (x : Repeat). (dispatches x.times ws x.hint).words) same

-- With more dispatches to come than the task waits.
fair-from : (calls : List Call) (ws : List ℕ) → WellFormed ws → (k : ℕ) → is_busy_task ws k ≡ true → NoneRefused calls ws
    → waits ws k < dispatch_count calls ws
    → TickedOrEnded k calls ws
fair-from [] ws A k busy unrefused near = absurd (omega arith)
fair-from (c ∷ cs) ws A k busy unrefused near =
    go (dispatches_of c) refl near (λ b w. fair-from cs (after c ws) (call-accepted ws A c) k b unrefused.1 w)
  where
    Others : Type 0
    Others =
        is_busy_task (after c ws) k ≡ true
        → waits (after c ws) k < dispatch_count cs (after c ws)
        → TickedOrEnded k cs (after c ws)

    by_row : (d : Repeat) → dispatches_of c ≡ some d
        → waits ws k < dispatches_made d.times ws d.hint + dispatch_count cs (after c ws)
        → Others
        → RowServed ws k d.hint d.times
        → TickedOrEnded k (c ∷ cs) ws
    by_row d e near others (ticked-at i m it) =
        gets_tick c (record { row = d; asked = e; place = i; is_made = m; is_tick = it })
    by_row d e near others (nearer-by b w) =
        let same = after-row c d e ws in
        let still : is_busy_task (after c ws) k ≡ true = rw same b in
        let near-then : waits (after c ws) k < dispatch_count cs (after c ws) =
        subst (λ vs. waits vs k < dispatch_count cs (after c ws)) (sym same) (omega arith) in
        still_busy c still (others still near-then)

    no_row : dispatches_of c ≡ none → waits ws k < dispatch_count cs (after c ws) → Others → (b : Bool)
        → is_busy_task (after c ws) k ≡ b
        → TickedOrEnded k (c ∷ cs) ws
    no_row e near others false b = ends_first {cs = cs} c e b (omega (arith, near))
    no_row e near others true b = still_busy c b (others b (rw (other-waits ws A k c e b) near))

    go : (o : Option Repeat) → dispatches_of c ≡ o
        → waits ws k
        < elim o as (λ _. ℕ) [ some d ↦ dispatches_made d.times ws d.hint | none ↦ 0 ]
        + dispatch_count cs (after c ws)
        → Others
        → TickedOrEnded k (c ∷ cs) ws
    go (some d) e near others =
        by_row d e near others (row-serves d.times ws A k busy d.hint (unrefused.0 d e))
    go none e near others = no_row e (omega arith) others (is_busy_task (after c ws) k) refl

pub fair-unless-ended : FairUnlessEnded
fair-unless-ended ws passes k busy calls unrefused enough =
    let A = is-accepted ws passes in
    let next = following (task_count ws) (dispatched ws) in
    let at_most = away-below (task_count ws) k (busy-is-task ws k busy) next (next-is-task ws A) in
    fair-from calls ws A k busy unrefused (omega arith)

-- ---- A task that stays busy.
not-ended : (k : ℕ) (calls : List Call) (ws : List ℕ) → TickedOrEnded k calls ws → BusyThroughout k calls ws
    → GetsTick k calls ws
not-ended k calls ws (gets_tick c it) B = ticks_it c it
not-ended k (c ∷ []) ws (ends_first d e q more) B = absurd (omega arith)
not-ended k (c ∷ b ∷ cs) ws (ends_first d e q more) B = clash (cc B.1.0)
not-ended k (c ∷ cs) ws (still_busy d q later) B = after_it c (not-ended k cs (after c ws) later B.1)

pub fair : Fair
fair ws passes k calls B unrefused enough =
    let T = (well_sized ws (is-accepted ws passes).length_passes).one_task in
    not-ended k calls ws (fair-unless-ended ws passes k (first calls B enough T) calls unrefused enough) B
  where
    first : (calls : List Call) → BusyThroughout k calls ws → task_count ws ≤ dispatch_count calls ws → 1 ≤ task_count ws
        → is_busy_task ws k ≡ true
    first [] B enough one = absurd (omega arith)
    first (c ∷ cs) B enough one = B.0
