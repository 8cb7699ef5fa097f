-- The machine for one user: the table gives its answers.
use mathlib.Core.Path.{◌≡◌, refl, ap, ◌∙◌, subst}
use mathlib.Core.Logic.{◌≢◌, ◌⊎◌, inl, inr}
use mathlib.Core.Bool.{Bool, true, false, not, ◌&&◌}
use mathlib.Core.List.{List, [], ◌∷◌}
use mathlib.Core.Option.{Option, some, none}
use Prim.Native.Nat.{ℕ, zero, suc, ◌+◌, ◌*◌, ◌≤◌}
use native.Mathlib.Omega.{arith}
use lib.Dec.{leb, ltb}
use lib.ListN.{replicate, length-replicate}
use borrow.Author.Tests.{leb-true}
use Rattle.machine.specs.Outcomes.Answer.{Answer, Going, Refused}
use Rattle.machine.specs.Outcomes.Reply.{Reply, Accepted, Refused as Reply-Refused}
use Rattle.machine.specs.Choice.{◌≟◌, ◌<?◌}
use Rattle.machine.specs.Sides.{Side, side_of}
use Rattle.machine.specs.Values.{number}
use Rattle.machine.specs.Operations.{Operation, idle, push, pop, add, remove, operation_of, argument_ok}
use Rattle.machine.specs.Table.{node_count, task_count, growth, lane_count}
use Rattle.machine.specs.Answers.{is_going}
use Rattle.machine.specs.Calls.{unless, start, begin, Ticked, tick, ticks}
use Rattle.machine.specs.Begun.{Begun}
use Rattle.machine_capacity.specs.NoLeak.{Idle, IdleTable, AllCounted}
use Rattle.machine_capacity.specs.Alone.{CallOutcome, from_end, pop_from, alone, spare_of, spur_of, ticks_with}
use Rattle.machine_capacity.specs.OneUser.{
  State,
  start_state,
  WholeCall,
  is_twice,
  refusal,
  outcome,
  after_call,
  one_call,
  all_calls,
}
use Rattle.machine_capacity.specs.OneUserExactly.{
  whole_call,
  Hinted,
  calls_of,
  Enough,
  whole_calls,
  StandsAs,
  OneUser,
  NeverGoing,
  FiveRefusals,
  FromAnyIdle,
  ticks_then,
  row_then,
  ByConsecutiveTicks,
  OneHint,
  calls_of_one,
  HintedBelow,
  Played,
  row_calls,
  OneUserByConsecutiveTicks,
}
use Rattle.machine.proofs.Basics.Contradiction.{clash, refute}
use Rattle.machine.proofs.Basics.Choices.{by-if}
use Rattle.machine.proofs.Basics.Tests.{and_left, and_right, test-passed, tests_left}
use Rattle.machine_capacity.proofs.Theorem.{no-leak}
use Rattle.machine_capacity.proofs.Alone.Theorem.{same-hints}
use Rattle.machine_capacity.proofs.OneUser.Standing.{Standing, stands-as}
use Rattle.machine_capacity.proofs.OneUser.Step.{one-call}
use Rattle.machine_capacity.proofs.OneUser.Started.{start-stands}

plays : (S : ℕ) (calls : List Hinted) {ws : List ℕ} {σ : State} → Standing S ws σ → Enough S calls
    → ((whole_calls ws calls).answers ≡ (all_calls σ (calls_of calls)).answers)
    × StandsAs (whole_calls ws calls).words (all_calls σ (calls_of calls)).state
unfolding whole_calls all_calls
plays S [] P enough = (refl, stands-as P)
plays S (c ∷ calls) {ws} {σ} P enough =
    let one = one-call P c.call c.hints enough.0 enough.1 in
    let rest = plays S calls one.stands enough.2 in
    let first = one.answers in (
      ap (λ (a : Answer). a ∷ (whole_calls (whole_call ws c.call c.hints).words calls).answers) first
          ∙ ap (λ (l : List Answer). (one_call σ c.call).answer ∷ l) rest.0,
      rest.1,
    )

pub one-user : OneUser
one-user S T g L old accepted calls enough = plays S calls (start-stands S T g L old accepted) enough

-- ---- From any table with no task in a call.
module _ (ws : List ℕ) (B : Begun ws) (idle_now : Idle ws) where
  abbrev table : IdleTable ws
  table = (no-leak ws B idle_now).0

  abbrev counted : AllCounted ws table
  counted = (no-leak ws B idle_now).1

  abbrev state : State
  state =
      record {
        tasks = task_count ws;
        growth = growth ws;
        lanes = lane_count ws;
        lane =
            λ l.
            record {
              bags = (table.shape l).bags;
              spare = λ s. spare_of s (table.shape l);
              spur = λ s. spur_of s (table.shape l);
            };
        free = counted.free;
      }

  standing : Standing (node_count ws) ws state
  standing =
      record {
        begun = B;
        no_call = idle_now;
        nodes-are = refl;
        tasks_are = refl;
        growth_is = refl;
        lanes_are = refl;
        table = table;
        counted = counted;
        bags-are = λ l h. refl;
        spare_is = λ l h s. refl;
        spur_is = λ l h s. refl;
        free-is = refl;
      }

pub from-any-idle : FromAnyIdle
from-any-idle ws B idle_now =
    let P = standing ws B idle_now in
    (state ws B idle_now, stands-as P, (λ calls enough. plays (node_count ws) calls P enough))

-- ---- Answers.
abbrev Ends : CallOutcome → Type 0
Ends o = (o.answer ≢ Going) × ((m : ℕ) → o.answer ≢ Refused m)

answers-all : (op : Operation) (s : Side) (n g f : ℕ) (bags : List ℕ) (r y : ℕ) → op ≢ idle
    → Ends (alone op s n g f bags r y)
answers-all idle s n g f bags r y ne = absurd (ne refl)
answers-all push s n g f bags r y ne =
    by-if Ends (1 <? r) (λ _. ((λ e. refute (cc)), (λ m e. refute (cc)))) (λ _.
    by-if Ends (f + y ≟ 0) (λ _. ((λ e. refute (cc)), (λ m e. refute (cc))))
    (λ _. ((λ e. refute (cc)), (λ m e. refute (cc)))))
answers-all pop s n g f bags r y ne = go (from_end s bags)
  where
    go : (l : List ℕ) → Ends (pop_from s l r y)
    go [] = ((λ e. refute (cc)), (λ m e. refute (cc)))
    go (b ∷ l) = ((λ e. refute (cc)), (λ m e. refute (cc)))
answers-all add s n g f bags r y ne =
    by-if Ends (f ≟ 0) (λ _. ((λ e. refute (cc)), (λ m e. refute (cc))))
    (λ _. ((λ e. refute (cc)), (λ m e. refute (cc))))
answers-all remove s n g f bags r y ne =
    by-if Ends (y ≟ 1) (λ _. ((λ e. refute (cc)), (λ m e. refute (cc)))) (λ _.
    by-if Ends (r <? n + 2) (λ _. ((λ e. refute (cc)), (λ m e. refute (cc)))) (λ _.
    by-if Ends (r ≟ n + 2) (λ _. ((λ e. refute (cc)), (λ m e. refute (cc))))
    (λ _. ((λ e. refute (cc)), (λ m e. refute (cc))))))

some-operation : (n : ℕ) → 1 ≤ n → operation_of n ≢ idle
some-operation n h =
    by-if (λ op. op ≢ idle) (n ≟ 0) (λ e. absurd (omega arith)) (λ _.
    by-if (λ op. op ≢ idle) (n ≟ 1) (λ _ e. refute (cc)) (λ _.
    by-if (λ op. op ≢ idle) (n ≟ 2) (λ _ e. refute (cc)) (λ _.
    by-if (λ op. op ≢ idle) (n ≟ 3) (λ _ e. refute (cc)) (λ _ e. refute (cc)))))

module _ (σ : State) (c : WholeCall) where
  not-idle : refusal σ c ≡ none → operation_of c.operation ≢ idle
  not-idle e =
      let numbers : leb 1 c.operation && leb c.operation 4 && leb c.side 1 ≡ true =
      search (test-passed, tests_left) in
      let b : leb 1 c.operation ≡ true = search (and_left, and_right) in
      some-operation c.operation (leb-true 1 c.operation b)

  call_ends : refusal σ c ≡ none
      → Ends (outcome σ c.lane (operation_of c.operation) (side_of c.side) (number c.argument))
  call_ends e =
      let i = σ.lane c.lane in
      let s = side_of c.side in
      answers-all (operation_of c.operation) s (number c.argument) σ.growth σ.free i.bags (i.spare s)
      (i.spur s) (not-idle e)

  going-not : (r : Option ℕ) → refusal σ c ≡ r → (after_call r σ c).answer ≢ Going
  going-not (some n) e q = refute (cc)
  going-not none e q = (call_ends e).0 q

  refused-by : (r : Option ℕ) → refusal σ c ≡ r → (n : ℕ) → (after_call r σ c).answer ≡ Refused n
      → refusal σ c ≡ some n
  refused-by (some m) e n q = cc
  refused-by none e n q = absurd ((call_ends e).1 n q)

pub never-going : NeverGoing
never-going σ c = going-not σ c (refusal σ c) refl

these : (a b c d e : Bool) (n : ℕ)
    → unless a 26 (unless b 5 (unless c 6 (unless d 7 (unless e 16 none)))) ≡ some n
    → (n ≡ 26) ⊎ (n ≡ 5) ⊎ (n ≡ 6) ⊎ (n ≡ 7) ⊎ (n ≡ 16)
these false b c d e n q = inl (cc)
these true false c d e n q = inr (inl (cc))
these true true false d e n q = inr (inr (inl (cc)))
these true true true false e n q = inr (inr (inr (inl (cc))))
these true true true true false n q = inr (inr (inr (inr (cc))))
these true true true true true n q = clash (cc)

pub five-refusals : FiveRefusals
five-refusals σ c n e =
    these (ltb c.lane σ.lanes) (ltb c.task σ.tasks)
    (leb 1 c.operation && leb c.operation 4 && leb c.side 1)
    (argument_ok (operation_of c.operation) c.argument)
    (not (is_twice σ (operation_of c.operation) (number c.argument))) n
    (refused-by σ c (refusal σ c) refl n e)

-- ---- One hint.
row-ticks : (n : ℕ) (ws : List ℕ) (k h : ℕ) → ticks_with (replicate n h) ws k ≡ ticks n ws k h
unfolding ticks_with ticks
row-ticks zero ws k h = refl
row-ticks (suc n) ws k h =
    ap
    (λ (r : Ticked).
    elim (is_going (tick ws k h).answer) as (λ _. Ticked) [ true ↦ r | false ↦ tick ws k h ])
    (row-ticks n (tick ws k h).words k h)

by-consecutive-ticks : ByConsecutiveTicks
by-consecutive-ticks ws c n h =
    let b = begin ws c.task c.lane c.operation c.side c.argument in
    go b.reply b.words
  where
    go : (r : Reply) (us : List ℕ) → ticks_then r (replicate n h) us c.task ≡ row_then r n us c.task h
    go Accepted us = row-ticks n us c.task h
    go (Reply-Refused m) us = refl

abbrev spread : (n : ℕ) → List OneHint → List Hinted
spread n [] = []
spread n (c ∷ cs) = record { call = c.call; hints = replicate n c.hint } ∷ spread n cs

spread-calls : (n : ℕ) (calls : List OneHint) → calls_of (spread n calls) ≡ calls_of_one calls
spread-calls n [] = refl
spread-calls n (c ∷ calls) = ap (λ (l : List WholeCall). c.call ∷ l) (spread-calls n calls)

spread-enough : (S : ℕ) (calls : List OneHint) → HintedBelow S calls → Enough S (spread (4 * S + 154) calls)
spread-enough S [] b = tt
spread-enough S (c ∷ calls) b =
    let long = length-replicate (4 * S + 154) c.hint in
    (same-hints S (4 * S + 154) c.hint b.0, omega arith, spread-enough S calls b.1)

rows_are : (n : ℕ) (calls : List OneHint) (ws : List ℕ) → whole_calls ws (spread n calls) ≡ row_calls n ws calls
unfolding whole_calls row_calls
rows_are n [] ws = refl
rows_are n (c ∷ calls) ws =
    let r = whole_call ws c.call (replicate n c.hint) in
    ap (λ (p : Played). record { answers = r.answer ∷ p.answers; words = p.words }) (rows_are n calls r.words)
    ∙ ap
    (λ (q : Ticked).
    record {
      answers = q.answer ∷ (row_calls n q.words calls).answers;
      words = (row_calls n q.words calls).words;
    })
    (by-consecutive-ticks ws c.call n c.hint)

pub one-user-by-consecutive-ticks : OneUserByConsecutiveTicks
one-user-by-consecutive-ticks S T g L old accepted calls b =
    let n = 4 * S + 154 in
    let ws = (start old S T g L).words in
    let σ = start_state S T g L in
    subst
    (λ (l : List WholeCall).
    ((row_calls n ws calls).answers ≡ (all_calls σ l).answers) × StandsAs (row_calls n ws calls).words
    (all_calls σ l).state)
    (spread-calls n calls)
    (subst
    (λ (p : Played).
    (p.answers ≡ (all_calls σ (calls_of (spread n calls))).answers)
    × StandsAs p.words (all_calls σ (calls_of (spread n calls))).state)
    (rows_are n calls ws)
    (one-user S T g L old accepted (spread n calls) (spread-enough S calls b)))
