-- What fits, by the state alone: how many new tags an end takes, and when a call is "full".
use mathlib.Core.Path.{◌≡◌, refl, sym, ap, ◌∙◌, subst}
use mathlib.Core.Logic.{◌≢◌}
use mathlib.Core.Bool.{Bool, true, false, ◌||◌}
use mathlib.Core.List.{List, [], ◌∷◌}
use mathlib.Core.Option.{Option, some, none}
use Prim.Native.Nat.{ℕ, suc, ◌+◌, ◌-◌, ◌≤◌, ◌<◌}
use native.Mathlib.Omega.{arith}
use native.Mathlib.Decide.{ℕ_discrete}
use lib.Dec.{leb, ltb, eqb}
use lib.ListN.{length}
use borrow.Author.Tests.{eqb-false, ltb-true, lt-ltb}
use Rattle.machine.specs.Outcomes.Answer.{Answer, Pushed, Full}
use Rattle.machine.specs.Choice.{◌≟◌, ◌<?◌}
use Rattle.machine.specs.Sides.{Side, left, right, side_number, side_of}
use Rattle.machine.specs.Values.{stored, number, bag_ok}
use Rattle.machine.specs.Operations.{Operation, idle, push, pop, add, remove, operation_of}
use Rattle.machine.specs.Calls.{is_among}
use Rattle.machine.specs.Row.{put}
use Rattle.machine.specs.Counts.{count}
use Rattle.machine.specs.Twice.{rows_below}
use Rattle.machine_capacity.specs.Alone.{CallOutcome, from_end, push_alone, pop_from, alone}
use Rattle.machine_capacity.specs.OneUser.{
  LaneState,
  State,
  WholeCall,
  call_of,
  bags_of,
  refusal,
  outcome,
  free_then,
  state_then,
  AfterCall,
  after_call,
  one_call,
  all_calls,
  Holds,
}
use Rattle.machine_capacity.specs.Room.{
  room,
  Pushes,
  push_answers,
  RoomRule,
  push_calls,
  AllNew,
  NewTagsFit,
  StartRoom,
}
use Rattle.machine.proofs.Basics.Contradiction.{clash}
use Rattle.machine.proofs.Basics.Choices.{by-if}
use Rattle.machine.proofs.Basics.Tests.{test-passed}
use Rattle.machine.proofs.Words.RecordLaws.{operation-of-number, side-of-number}
use Rattle.machine.proofs.Words.ValueLaws.{number-stored}
use Rattle.machine.proofs.Basics.Counts.{count-append}
use Rattle.machine.proofs.Linearizability.Twice.Lists.{count-other, not-counted, not-among, rows-changed}
use Rattle.machine_capacity.proofs.Alone.Outcomes.{one_more, no_room, push-outcome}
use Rattle.machine_capacity.proofs.OneUser.States.{spare-then, spur-then, call-done}

-- ---- The room in the next state.
module _ (σ : State) (l : ℕ) (s : Side) (o : CallOutcome) where
  room-then : room (state_then σ l s o) l s ≡ o.spare + o.spur + free_then σ l s o - 1
  room-then = let a = spare-then σ l s o in let b = spur-then σ l s o in omega arith

-- ---- A push that is not refused.
pub data Pushed-to (m : ℕ) (l : ℕ) (s : Side) (d : AfterCall) : Type 0 where
  is-pushed : (n : ℕ) → m ≡ suc n → room d.state l s ≡ n → d.answer ≡ Pushed → 1 ≤ (d.state.lane l).spare s
      → Pushed-to m l s d
  is_full : m ≡ 0 → room d.state l s ≡ 0 → d.answer ≡ Full → 1 ≤ (d.state.lane l).spare s → Pushed-to m l s d

by-outcome : (σ : State) (l : ℕ) (s : Side) (v : ℕ) → 1 ≤ (σ.lane l).spare s
    → Pushed-to (room σ l s) l s
    (record { answer = (outcome σ l push s v).answer; state = state_then σ l s (outcome σ l push s v) })
by-outcome σ l s v h =
    let o = outcome σ l push s v in
    elim (push-outcome s v σ.growth σ.free (σ.lane l).bags ((σ.lane l).spare s) ((σ.lane l).spur s) h) [
      | one_more n e e' a kept ↦
          is-pushed n e (room-then σ l s o ∙ e') a (subst (λ (i : ℕ). 1 ≤ i) (sym (spare-then σ l s o)) kept)
      | no_room e e' a kept ↦
          is_full e (room-then σ l s o ∙ e') a (subst (λ (i : ℕ). 1 ≤ i) (sym (spare-then σ l s o)) kept)
    ]

pub one-push : (σ : State) (l : ℕ) (s : Side) (c : WholeCall) → 1 ≤ (σ.lane l).spare s → refusal σ c ≡ none
    → c.lane ≡ l
    → operation_of c.operation ≡ push
    → side_of c.side ≡ s
    → Pushed-to (room σ l s) l s (one_call σ c)
one-push σ l s c h passes at is-push on =
    let v = number c.argument in
    let F : ℕ → Operation → Side → AfterCall = λ j op z.
    record { answer = (outcome σ j op z v).answer; state = state_then σ j z (outcome σ j op z v) } in
    subst (Pushed-to (room σ l s) l s)
    (sym (ap (λ (r : Option ℕ). after_call r σ c) passes
    ∙ ap (λ (j : ℕ). F j (operation_of c.operation) (side_of c.side)) at
    ∙ ap (λ (op : Operation). F l op (side_of c.side)) is-push
    ∙ ap (F l push) on))
    (by-outcome σ l s v h)

pub room-rule : RoomRule
unfolding all_calls push_answers
room-rule σ l s h [] pushes = refl
room-rule σ l s h (c ∷ calls) pushes =
    elim (one-push σ l s c h pushes.0 pushes.1 pushes.2 pushes.3) [
      | is-pushed n e then-room a kept ↦
          let rest = room-rule (one_call σ c).state l s kept calls pushes.4 in
          rw e
          (ap (λ (x : Answer). x ∷ (all_calls (one_call σ c).state calls).answers) a
          ∙ ap (λ (x : List Answer). Pushed ∷ x) (rest ∙ ap (λ (i : ℕ). push_answers i (length calls)) then-room))
      | is_full e then-room a kept ↦
          let rest = room-rule (one_call σ c).state l s kept calls pushes.4 in
          rw e
          (ap (λ (x : Answer). x ∷ (all_calls (one_call σ c).state calls).answers) a
          ∙ ap (λ (x : List Answer). Full ∷ x) (rest ∙ ap (λ (i : ℕ). push_answers i (length calls)) then-room))
    ]

-- ---- New tags: none is refused.
put_count : (s : Side) (w v : ℕ) (bags : List ℕ) → w ≢ v → count w (put s v bags) ≡ count w bags
unfolding count
put_count left w v bags ne = count-other w v bags (λ e. ne (sym e))
put_count right w v bags ne =
    let a = count-append w bags (v ∷ []) in
    let b = count-other w v [] (λ e. ne (sym e)) in
    omega arith

push-count : (s : Side) (w v g f : ℕ) (bags : List ℕ) (r y : ℕ) → w ≢ v
    → count w (push_alone s v g f bags r y).bags ≡ count w bags
push-count s w v g f bags r y ne =
    by-if (λ (o : CallOutcome). count w o.bags ≡ count w bags) (1 <? r) (λ _. put_count s w v bags ne) (λ _.
    by-if (λ (o : CallOutcome). count w o.bags ≡ count w bags) (f + y ≟ 0) (λ _. refl)
    (λ _. put_count s w v bags ne))

-- A bag that was in no lane is in none, if it is another than the one pushed.
still-new : (σ : State) (l : ℕ) (s : Side) (v w : ℕ) → l < σ.lanes → w ≢ v → is_among w (bags_of σ) ≡ false
    → is_among w (bags_of (state_then σ l s (outcome σ l push s v))) ≡ false
still-new σ l s v w h ne new =
    let o = outcome σ l push s v in
    let f : ℕ → List ℕ = λ j. (σ.lane j).bags in
    let f' : ℕ → List ℕ = λ j. ((state_then σ l s o).lane j).bags in
    let own : f' l ≡ o.bags =
    by-if (λ (i : LaneState). i.bags ≡ o.bags) (l ≟ l) (λ _. refl) (λ no-l. absurd (no-l refl)) in
    let other : (j : ℕ) → j ≢ l → f' j ≡ f j = λ j no-l.
    by-if (λ (i : LaneState). i.bags ≡ f j) (j ≟ l) (λ e. absurd (no-l e)) (λ _. refl) in
    let kept = push-count s w v σ.growth σ.free (σ.lane l).bags ((σ.lane l).spare s) ((σ.lane l).spur s) ne in
    let here : count w (f' l) ≡ count w (f l) = ap (count w) own ∙ kept in
    let sum = rows-changed f f' l other w σ.lanes h in
    let zero-before = not-counted w (bags_of σ) new in
    not-among w (rows_below f' σ.lanes) (omega arith)

or-none : (a b : Bool) → a || b ≡ false → (a ≡ false) × (b ≡ false)
or-none true b e = clash (cc)
or-none false b e = (refl, e)

all_new : (bags bags' : List ℕ) (v : ℕ)
    → ((w : ℕ) → w ≢ v → is_among w bags ≡ false → is_among w bags' ≡ false)
    → (tags : List ℕ)
    → is_among v tags ≡ false
    → AllNew bags tags
    → AllNew bags' tags
all_new bags bags' v keeps [] off new = tt
all_new bags bags' v keeps (w ∷ tags) off new =
    let both = or-none (eqb v w) (is_among v tags) off in (
      new.0,
      keeps w (λ e. eqb-false v w both.0 (sym e)) new.1,
      new.2,
      all_new bags bags' v keeps tags both.1 new.3,
    )

pub side-passes : (z : Side) → leb (side_number z) 1 ≡ true
side-passes left = refl
side-passes right = refl

module _ (k l : ℕ) (s : Side) where
  pub not-refused : (σ : State) (v : ℕ) → k < σ.tasks → l < σ.lanes → bag_ok (stored v) ≡ true
      → is_among v (bags_of σ) ≡ false
      → refusal σ (call_of k l push s v) ≡ none
  unfolding ℕ_discrete
  not-refused σ v is_task is_lane is-bag new =
      let new' : is_among (number (stored v)) (bags_of σ) ≡ false =
      ap (λ (n : ℕ). is_among n (bags_of σ)) (number-stored v) ∙ new in
      rw (lt-ltb l σ.lanes is_lane, lt-ltb k σ.tasks is_task, side-passes s, is-bag, new')

  pushes-new : (σ : State) (tags : List ℕ) → k < σ.tasks → l < σ.lanes → AllNew (bags_of σ) tags
      → Pushes l s σ (push_calls k l s tags)
  pushes-new σ [] is_task is_lane new = tt
  pushes-new σ (v ∷ tags) is_task is_lane new =
      let passes = not-refused σ v is_task is_lane new.0 new.1 in
      let next = state_then σ l s (outcome σ l push s v) in (
        passes,
        refl,
        (operation-of-number push),
        side-of-number s,
        subst (λ (τ : State). Pushes l s τ (push_calls k l s tags))
            (sym (ap (λ (d : AfterCall). d.state) (call-done σ k l push s v passes)))
            (pushes-new next tags is_task is_lane
            (all_new (bags_of σ) (bags_of next) v (λ w ne q. still-new σ l s v w is_lane ne q) tags new.2 new.3)),
      )

length-pushes : (k l : ℕ) (s : Side) (tags : List ℕ) → length (push_calls k l s tags) ≡ length tags
length-pushes k l s [] = refl
length-pushes k l s (v ∷ tags) = ap suc (length-pushes k l s tags)

pub new-tags-fit : NewTagsFit
new-tags-fit σ k l s tags is_task is_lane some_spare new =
    room-rule σ l s some_spare (push_calls k l s tags) (pushes-new k l s σ tags is_task is_lane new)
    ∙ ap (push_answers (room σ l s)) (length-pushes k l s tags)

pub start-room : StartRoom
start-room S T g s h = omega arith

-- ---- What is known of a state at each of its ends.
pub record EndsHold (σ : State) : Type 0 where
  pub some_spare : (l : ℕ) → l < σ.lanes → (s : Side) → 1 ≤ (σ.lane l).spare s
  pub one_spur : (l : ℕ) → l < σ.lanes → (s : Side) → (σ.lane l).spur s ≤ 1

pub ends-hold : {S : ℕ} {σ : State} → Holds S σ → EndsHold σ
ends-hold H = record { some_spare = H.some_spare; one_spur = H.one_spur }

-- ---- A call that is "full" is a push, at an end that has no room.
full-pushes : (op : Operation) (s : Side) (n g f : ℕ) (bags : List ℕ) (r y : ℕ)
    → (alone op s n g f bags r y).answer ≡ Full
    → op ≡ push
full-pushes push s n g f bags r y = λ e. refl
full-pushes idle s n g f bags r y = λ e. clash (cc)
full-pushes pop s n g f bags r y = go (from_end s bags)
  where
    go : (l : List ℕ) → (pop_from s l r y).answer ≡ Full → pop ≡ push
    go [] e = clash (cc)
    go (b ∷ l) e = clash (cc)
full-pushes add s n g f bags r y =
    by-if (λ (o : CallOutcome). o.answer ≡ Full → add ≡ push) (f ≟ 0) (λ _ e. clash (cc)) (λ _ e. clash (cc))
full-pushes remove s n g f bags r y =
    by-if (λ (o : CallOutcome). o.answer ≡ Full → remove ≡ push) (y ≟ 1) (λ _ e. clash (cc)) (λ _.
    by-if (λ (o : CallOutcome). o.answer ≡ Full → remove ≡ push) (r <? n + 2) (λ _ e. clash (cc)) (λ _.
    by-if (λ (o : CallOutcome). o.answer ≡ Full → remove ≡ push) (r ≟ n + 2) (λ _ e. clash (cc)) (λ _ e. clash (cc))))

-- A push that is not refused, at the end of a lane that there is.
pub record IsPush (σ : State) (c : WholeCall) : Type 0 where
  pub passes : refusal σ c ≡ none
  pub is-push : operation_of c.operation ≡ push
  pub is_lane : c.lane < σ.lanes

lane-passes : (σ : State) (c : WholeCall) → refusal σ c ≡ none → c.lane < σ.lanes
lane-passes σ c e = ltb-true c.lane σ.lanes (test-passed (ltb c.lane σ.lanes) 26 _ e)

pub full-push : (σ : State) (c : WholeCall) → (one_call σ c).answer ≡ Full → IsPush σ c
full-push σ c = go (refusal σ c) refl
  where
    go : (o : Option ℕ) → refusal σ c ≡ o → (after_call o σ c).answer ≡ Full → IsPush σ c
    go (some n) q e = clash (cc)
    go none q e =
        let i = σ.lane c.lane in
        let s = side_of c.side in
        record {
          passes = q;
          is-push =
              full-pushes (operation_of c.operation) s (number c.argument) σ.growth σ.free i.bags
              (i.spare s) (i.spur s) e;
          is_lane = lane-passes σ c q;
        }

-- Whether it is "full" is a matter of the room at its end.
module _ {σ : State} (H : EndsHold σ) (c : WholeCall) (P : IsPush σ c) where
  abbrev own_room : ℕ
  own_room = room σ c.lane (side_of c.side)

  pushed-to : Pushed-to (room σ c.lane (side_of c.side)) c.lane (side_of c.side) (one_call σ c)
  pushed-to =
      one-push σ c.lane (side_of c.side) c (H.some_spare c.lane P.is_lane (side_of c.side)) P.passes
      refl P.is-push refl

  pub with-room : 1 ≤ own_room → (one_call σ c).answer ≡ Pushed
  with-room l = elim pushed-to [ is-pushed n e q a kept ↦ a | is_full e q a kept ↦ absurd (omega arith) ]

  pub without-room : own_room ≡ 0 → (one_call σ c).answer ≡ Full
  without-room z = elim pushed-to [ is-pushed n e q a kept ↦ absurd (omega arith) | is_full e q a kept ↦ a ]

  pub full-no-room : (one_call σ c).answer ≡ Full → own_room ≡ 0
  full-no-room full = elim pushed-to [ is-pushed n e q a kept ↦ clash (cc) | is_full e q a kept ↦ e ]
