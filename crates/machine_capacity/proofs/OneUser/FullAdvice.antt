-- What to do about "full": after the three calls at another end the push that was "full" is "pushed", if that end had
-- room for two tags; and so for one end after another.
use mathlib.Core.Path.{◌≡◌, refl, sym, ap, ◌∙◌, subst}
use mathlib.Core.Logic.{◌⊎◌, inl, inr}
use mathlib.Core.List.{List, [], ◌∷◌}
use mathlib.Core.Option.{Option}
use Prim.Native.Nat.{ℕ, ◌+◌, ◌≤◌, ◌<◌}
use native.Mathlib.Omega.{arith}
use lib.ListN.{length}
use Rattle.machine.specs.Choice.{◌≟◌, ◌<?◌, if?◌then◌else◌}
use Rattle.machine.specs.Outcomes.Answer.{Answer, Pushed, Full}
use Rattle.machine.specs.Sides.{Side, left, right, opposite, side_of}
use Rattle.machine.specs.Values.{number}
use Rattle.machine.specs.Operations.{Operation, push}
use Rattle.machine.specs.Answers.{kind_of}
use Rattle.machine.specs.Calls.{is_among}
use Rattle.machine_capacity.specs.NoLeak.{total}
use Rattle.machine_capacity.specs.Alone.{CallOutcome, leaves, push_alone}
use Rattle.machine_capacity.specs.OneUser.{
  LaneState,
  State,
  WholeCall,
  call_of,
  outcome,
  state_then,
  AfterCall,
  after_call,
  one_call,
  size_of,
}
use Rattle.machine_capacity.specs.Room.{
  room,
  Loader,
  CanPush,
  room_at,
  give_back,
  given_back,
  GivenBack,
  FullAdvice,
  last_answer,
  found_room,
  AllCanPush,
  FullToTheLast,
  OneLaneFull,
  AllFull,
}
use Rattle.machine.proofs.Basics.Contradiction.{clash, equal?, less?}
use Rattle.machine.proofs.Basics.Choices.{by-if, if_yes, if_no}
use Rattle.machine.proofs.Words.RecordLaws.{side-of-number}
use Rattle.machine.proofs.Linearizability.Model.Sides.{sides}
use Rattle.machine_capacity.proofs.Counting.{total-two, total-same, length-rows, total-const}
use Rattle.machine_capacity.proofs.OneUser.States.{
  Elsewhere,
  own_lane,
  spare-then,
  spur-then,
  state-elsewhere,
  bags-same,
  refusal-same,
}
use Rattle.machine_capacity.proofs.OneUser.Room.{
  EndsHold,
  ends-hold,
  IsPush,
  full-push,
  with-room,
  without-room,
  full-no-room,
}
use Rattle.machine_capacity.proofs.OneUser.GiveBack.{Back, given-back}

-- ---- All ends of a state that is another at one end alone.
record Like (σ τ : State) : Type 0 where
  pub same_tasks : τ.tasks ≡ σ.tasks
  pub same-lanes : τ.lanes ≡ σ.lanes
  pub same-bags : (j : ℕ) → (τ.lane j).bags ≡ (σ.lane j).bags
  pub same-room : (j : ℕ) (z : Side) → room τ j z ≡ room σ j z
  pub holds : EndsHold τ

module _ {σ τ : State} {l : ℕ} {s : Side} (E : Elsewhere σ τ l s) where
  by_end : (Q : (j : ℕ) → Side → Type 0) → Q l s
      → ((j : ℕ) (z : Side) → (τ.lane j).spare z ≡ (σ.lane j).spare z → (τ.lane j).spur z ≡ (σ.lane j).spur z → Q j z)
      → (j : ℕ) (z : Side)
      → Q j z
  by_end Q own other j z =
      elim (equal? j l) [
        | inr ne ↦ other j z (E.same_spare j z (inl ne)) (E.same_spur j z (inl ne))
        | inl e ↦
            elim ((sides s).either z) [
              | inr q ↦ other j z (E.same_spare j z (inr q)) (E.same_spur j z (inr q))
              | inl q ↦ subst (λ (i : ℕ). Q i z) (sym e) (subst (Q l) (sym q) own)
            ]
      ]

  all-bags : (τ.lane l).bags ≡ (σ.lane l).bags → (j : ℕ) → (τ.lane j).bags ≡ (σ.lane j).bags
  all-bags own j =
      elim (equal? j l) [
        | inl e ↦ ap (λ (i : ℕ). (τ.lane i).bags) e ∙ own ∙ ap (λ (i : ℕ). (σ.lane i).bags) (sym e)
        | inr ne ↦ E.same-bags j ne
      ]

  all_hold : EndsHold σ → 1 ≤ (τ.lane l).spare s → (τ.lane l).spur s ≤ 1 → EndsHold τ
  all_hold H own_spare own_spur =
      record {
        some_spare =
            λ j h z.
            by_end (λ i y. i < σ.lanes → 1 ≤ (τ.lane i).spare y) (λ _. own_spare)
            (λ i y e _ k. subst (λ (n : ℕ). 1 ≤ n) (sym e) (H.some_spare i k y)) j z (there j h);
        one_spur =
            λ j h z.
            by_end (λ i y. i < σ.lanes → (τ.lane i).spur y ≤ 1) (λ _. own_spur)
            (λ i y _ e k. subst (λ (n : ℕ). n ≤ 1) (sym e) (H.one_spur i k y)) j z (there j h);
      }
    where
      there : (j : ℕ) → j < τ.lanes → j < σ.lanes
      there j h = subst (λ (n : ℕ). j < n) E.same-lanes h

  -- With the same sum at that end, and as much free, it is like the one before.
  like-by : EndsHold σ → (τ.lane l).bags ≡ (σ.lane l).bags → 1 ≤ (τ.lane l).spare s → (τ.lane l).spur s ≤ 1
      → τ.free ≡ σ.free
      → (τ.lane l).spare s + (τ.lane l).spur s ≡ (σ.lane l).spare s + (σ.lane l).spur s
      → Like σ τ
  like-by H own own_spare own_spur free sum =
      record {
        same_tasks = E.same_tasks;
        same-lanes = E.same-lanes;
        same-bags = all-bags own;
        same-room = by_end (λ j z. room τ j z ≡ room σ j z) (omega arith) (λ j z a b. omega arith);
        holds = all_hold H own_spare own_spur;
      }

-- A push stays one, and a loader can push.
module _ (σ τ : State) (tasks : τ.tasks ≡ σ.tasks) (lanes : τ.lanes ≡ σ.lanes)
    (bags : (j : ℕ) → (τ.lane j).bags ≡ (σ.lane j).bags) where
  still-push : {c : WholeCall} → IsPush σ c → IsPush τ c
  still-push {c} P =
      record {
        passes = refusal-same σ τ tasks lanes bags c ∙ P.passes;
        is-push = P.is-push;
        is_lane = subst (λ (n : ℕ). c.lane < n) (sym lanes) P.is_lane;
      }

  still-can : {p : Loader} → CanPush σ p → CanPush τ p
  still-can {p} P =
      record {
        is_task = subst (λ (n : ℕ). p.task < n) (sym tasks) P.is_task;
        is_lane = subst (λ (n : ℕ). p.lane < n) (sym lanes) P.is_lane;
        is-tag = P.is-tag;
        is_new = ap (is_among p.tag) (bags-same σ τ tasks lanes bags) ∙ P.is_new;
      }

  still-all : (ps : List Loader) → AllCanPush σ ps → AllCanPush τ ps
  still-all [] P = tt
  still-all (p ∷ ps) P = (still-can P.0, still-all ps P.1)

-- ---- A call that is "full", and the three calls.
module _ {σ : State} (H : EndsHold σ) (c : WholeCall) (full : (one_call σ c).answer ≡ Full) where
  is-push : IsPush σ c
  is-push = full-push σ c full

  none-there : room σ c.lane (side_of c.side) ≡ 0
  none-there = full-no-room H c is-push full

  none_free : σ.free ≡ 0
  none_free =
      let one = H.some_spare c.lane is-push.is_lane (side_of c.side) in
      omega (arith, none-there)

  module _ (p : Loader) (P : CanPush σ p) where
    abbrev rp : ℕ
    rp = (σ.lane p.lane).spare p.side

    abbrev yp : ℕ
    yp = (σ.lane p.lane).spur p.side

    some-p : 1 ≤ rp
    some-p = H.some_spare p.lane P.is_lane p.side

    one-p : yp ≤ 1
    one-p = H.one_spur p.lane P.is_lane p.side

    B : Back σ (give_back σ p) p (given_back rp yp)
    B = given-back p P none_free some-p one-p

    abbrev τ : State
    τ = give_back σ p

    back-bags : (j : ℕ) → (τ.lane j).bags ≡ (σ.lane j).bags
    back-bags = all-bags B.elsewhere B.own_bags

    back-holds : EndsHold τ
    back-holds = all_hold B.elsewhere H B.some_spare B.one_spur

    back-push : IsPush τ c
    back-push = still-push σ τ B.elsewhere.same_tasks B.elsewhere.same-lanes back-bags is-push

    -- With room for two tags there, some nodes are free now; with less, none.
    some-given : 2 ≤ room_at σ p → 1 ≤ given_back rp yp
    some-given l =
        let a = none_free in
        let b = one-p in
        by-if (λ (n : ℕ). 1 ≤ n) (rp <? 2) (λ h. absurd (omega arith)) (λ h.
        by-if (λ (n : ℕ). 1 ≤ n) (rp ≟ 2) (λ e. omega arith) (λ ne. omega arith))

    none-given : room_at σ p < 2 → given_back rp yp ≡ 0
    none-given l =
        let a = none_free in
        let b = some-p in
        by-if (λ (n : ℕ). n ≡ 0) (rp <? 2) (λ h. refl) (λ h.
        by-if (λ (n : ℕ). n ≡ 0) (rp ≟ 2) (λ e. omega arith) (λ ne. omega arith))

    -- An end without room has some then: it is not the loader's, whose room stays.
    room-now : 2 ≤ room_at σ p → (j : ℕ) (z : Side) → j < σ.lanes → room σ j z ≡ 0 → 1 ≤ room τ j z
    room-now l =
        let f = B.free-is in
        let g = some-given l in
        by_end B.elsewhere (λ j z. j < σ.lanes → room σ j z ≡ 0 → 1 ≤ room τ j z)
        (λ h e. absurd (omega arith))
        (λ j z a b h e. let one = H.some_spare j h z in omega arith)

    like-before : room_at σ p < 2 → Like σ τ
    like-before l =
        let f = B.free-is in
        let g = none-given l in
        let a = none_free in
        let sum = B.same_sum in
        like-by B.elsewhere H B.own_bags B.some_spare B.one_spur (omega arith) (omega arith)

    given : GivenBack σ c p
    given =
        record {
          same-bags = back-bags;
          free-then = B.free-is;
          then_pushed =
              λ l.
              with-room back-holds c back-push
              (room-now l c.lane (side_of c.side) is-push.is_lane none-there);
          still_full =
              λ l.
              without-room back-holds c back-push
              ((like-before l).same-room c.lane (side_of c.side) ∙ none-there);
        }

pub full-advice : FullAdvice
full-advice S σ H c p full P = given (ends-hold H) c full p P

-- ---- One end after another.

-- A call that is "full" leaves the state as it was.
full-leaves : (s : Side) (v g f : ℕ) (bags : List ℕ) (r y : ℕ) → (push_alone s v g f bags r y).answer ≡ Full
    → push_alone s v g f bags r y ≡ leaves Full bags r y
full-leaves s v g f bags r y =
    by-if (λ (o : CallOutcome). o.answer ≡ Full → o ≡ leaves Full bags r y) (1 <? r) (λ _ e. clash (cc)) (λ _.
    by-if (λ (o : CallOutcome). o.answer ≡ Full → o ≡ leaves Full bags r y) (f + y ≟ 0) (λ _ _. refl)
    (λ _ e. clash (cc)))

module _ {σ : State} (H : EndsHold σ) (c : WholeCall) (full : (one_call σ c).answer ≡ Full) where
  abbrev own_side : Side
  own_side = side_of c.side

  abbrev own : LaneState
  own = σ.lane c.lane

  abbrev unchanged : CallOutcome
  unchanged = leaves Full own.bags (own.spare own_side) (own.spur own_side)

  P : IsPush σ c
  P = full-push σ c full

  comes-to : one_call σ c ≡ record { answer = Full; state = state_then σ c.lane own_side unchanged }
  comes-to =
      let v = number c.argument in
      let F : CallOutcome → AfterCall = λ o. record { answer = o.answer; state = state_then σ c.lane own_side o } in
      let push-is : one_call σ c ≡ F (outcome σ c.lane push own_side v) =
      ap (λ (r : Option ℕ). after_call r σ c) P.passes
      ∙ ap (λ (op : Operation). F (outcome σ c.lane op own_side v)) P.is-push in
      push-is
      ∙ ap F
      (full-leaves own_side v σ.growth σ.free own.bags (own.spare own_side) (own.spur own_side)
      (ap (λ (d : AfterCall). d.answer) (sym push-is) ∙ full))

  full-like : Like σ (one_call σ c).state
  full-like =
      let E = state-elsewhere σ c.lane own_side unchanged in
      let bags = ap (λ (i : LaneState). i.bags) (own_lane σ c.lane own_side unchanged) in
      let spare = spare-then σ c.lane own_side unchanged in
      let spur = spur-then σ c.lane own_side unchanged in
      let some_spare = H.some_spare c.lane P.is_lane own_side in
      let one_spur = H.one_spur c.lane P.is_lane own_side in
      subst (Like σ) (sym (ap (λ (d : AfterCall). d.state) comes-to))
      (like-by E H bags (omega arith) (omega arith) (omega arith) (omega arith))

-- In a state that is like it, it is "full" again.
full-again : {σ τ : State} → EndsHold σ → Like σ τ → (c : WholeCall) → (one_call σ c).answer ≡ Full
    → (one_call τ c).answer ≡ Full
full-again {σ} {τ} H K c full =
    without-room K.holds c (still-push σ τ K.same_tasks K.same-lanes K.same-bags (full-push σ c full))
    (K.same-room c.lane (side_of c.side) ∙ none-there H c full)

found-same : {σ τ : State} → Like σ τ → (ps : List Loader) → found_room τ ps ≡ found_room σ ps
found-same K [] = refl
found-same {σ} {τ} K (p ∷ ps) =
    ap (λ (n : ℕ). if? 1 <? n then Pushed else found_room τ ps) (K.same-room p.lane p.side)
    ∙ ap (λ (a : Answer). if? 1 <? room_at σ p then Pushed else a) (found-same K ps)

pushed-ends : (σ : State) (c : WholeCall) → (one_call σ c).answer ≡ Pushed → (ps : List Loader)
    → last_answer σ c ps ≡ Pushed
unfolding last_answer
pushed-ends σ c pushed [] = pushed
pushed-ends σ c pushed (p ∷ ps) =
    if_no (kind_of (one_call σ c).answer ≟ kind_of Full) _ _
    (λ e. let q : ◌≡◌ {A = ℕ} 1 4 = ap kind_of (sym pushed) ∙ e in omega arith)
    ∙ pushed

last-is : (c : WholeCall) (ps : List Loader) {σ : State} → EndsHold σ → (one_call σ c).answer ≡ Full → AllCanPush σ ps
    → last_answer σ c ps ≡ found_room σ ps
unfolding last_answer
last-is c [] H full can = full
last-is c (p ∷ ps) {σ} H full can =
    let σ' = (one_call σ c).state in
    let K = full-like H c full in
    let all = still-all σ σ' K.same_tasks K.same-lanes K.same-bags (p ∷ ps) can in
    let again = full-again H K c full in
    let G = given K.holds c again p all.0 in
    let tried : last_answer σ c (p ∷ ps) ≡ last_answer (give_back σ' p) c ps =
    if_yes (kind_of (one_call σ c).answer ≟ kind_of Full) _ _ (ap kind_of full) in
    elim (less? 1 (room_at σ p)) [
      | inl more ↦
          let enough : 2 ≤ room_at σ' p = omega (arith, K.same-room p.lane p.side) in
          tried
          ∙ pushed-ends (give_back σ' p) c (G.then_pushed enough) ps
          ∙ sym (if_yes (1 <? room_at σ p) _ _ more)
      | inr few ↦
          let too_few : room_at σ' p < 2 = omega (arith, K.same-room p.lane p.side) in
          let L = like-before K.holds c again p all.0 too_few in
          let rest =
          last-is c ps L.holds (G.still_full too_few)
          (still-all σ' (give_back σ' p) L.same_tasks L.same-lanes L.same-bags ps all.1) in
          tried ∙ rest ∙ found-same L ps ∙ found-same K ps ∙ sym (if_no (1 <? room_at σ p) _ _ (λ h. omega arith))
    ]

pub full-to-the-last : FullToTheLast
full-to-the-last S σ H c full ps can = last-is c ps (ends-hold H) full can

-- ---- With one lane.
one-total : (f : ℕ → ℕ) → total f 1 ≡ f 0
unfolding total
one-total f = omega arith

pub one-lane-full : OneLaneFull
one-lane-full S σ H one_lane k s tag full =
    by_side s (subst (λ (z : Side). room σ 0 z ≡ 0) (side-of-number s)
    (none-there (ends-hold H) (call_of k 0 push s tag) full))
  where
    here : 0 < σ.lanes
    here = omega arith

    sum : σ.free + size_of (σ.lane 0) ≡ S
    sum =
        let e = ap (total (λ l. size_of (σ.lane l))) one_lane in
        omega (arith, H.all_counted, one-total (λ l. size_of (σ.lane l)))

    by_side : (s : Side) → room σ 0 s ≡ 0 → room σ 0 (opposite s) < 2
        → (length (σ.lane 0).bags + 2 ≡ S) ⊎ ((length (σ.lane 0).bags + 3 ≡ S) × (room σ 0 (opposite s) ≡ 1))
    by_side left e few =
        let a = H.some_spare 0 here left in
        let b = H.some_spare 0 here right in
        elim (equal? (room σ 0 right) 1) [
          | inl one ↦ inr (omega (arith, sum), one)
          | inr ne ↦ inl (omega (arith, sum))
        ]
    by_side right e few =
        let a = H.some_spare 0 here left in
        let b = H.some_spare 0 here right in
        elim (equal? (room σ 0 left) 1) [
          | inl one ↦ inr (omega (arith, sum), one)
          | inr ne ↦ inl (omega (arith, sum))
        ]

-- ---- With no room anywhere.
pub all-full : AllFull
all-full S σ H some_lane full =
    let lengths : ℕ → ℕ = λ l. length (σ.lane l).bags in
    let none_left = full 0 some_lane left in
    let one = H.some_spare 0 some_lane left in
    let same = total-same (λ l. size_of (σ.lane l)) (λ l. lengths l + 2) σ.lanes bags-and-ends in
    let both = total-two lengths (λ l. 2) σ.lanes in
    let rows = length-rows (λ l. (σ.lane l).bags) σ.lanes in
    omega (arith, H.all_counted, total-const 2 σ.lanes)
  where
    bags-and-ends : (l : ℕ) → l < σ.lanes → size_of (σ.lane l) ≡ length (σ.lane l).bags + 2
    bags-and-ends l h =
        let a = full l h left in
        let b = full l h right in
        let c = H.some_spare l h left in
        let d = H.some_spare l h right in
        omega arith
