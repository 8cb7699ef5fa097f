-- Pushes alone come to "full": each that is "pushed" leaves room for one less at its end.
use mathlib.Core.Path.{◌≡◌, refl, sym, ap, ◌∙◌, subst}
use mathlib.Core.Logic.{inl, inr}
use mathlib.Core.Bool.{true}
use mathlib.Core.List.{List}
use Prim.Native.Nat.{ℕ, zero, suc, ◌+◌, ◌*◌, ◌-◌, ◌≤◌, ◌<◌}
use native.Mathlib.Omega.{arith}
use lib.ListN.{replicate, length-replicate}
use Rattle.machine.specs.Outcomes.Answer.{Answer, Pushed, Full}
use Rattle.machine.specs.Outcomes.Reply.{Accepted}
use Rattle.machine.specs.Sides.{Side, left, right, side_number}
use Rattle.machine.specs.Values.{stored, bag_ok}
use Rattle.machine.specs.Operations.{push, operation_number}
use Rattle.machine.specs.Table.{node_count, growth, lane_count}
use Rattle.machine.specs.Calls.{is_idle, begin}
use Rattle.machine.specs.Begun.{Begun}
use Rattle.machine.specs.Twice.{all_bags, SeenIn}
use Rattle.machine_capacity.specs.NoLeak.{Idle, lane_size, IdleTable, AllCounted}
use Rattle.machine_capacity.specs.Capacity.{
  PushAlone,
  NeverFull,
  FilledFrom,
  is_full,
  one_more,
  FillsUp,
  PushedTo,
  one_pushed,
  ComeToAnEnd,
}
use Rattle.machine_capacity.specs.Alone.{CallOutcome, spare_of, spur_of, LeavesIdle, alone_at}
use Rattle.machine.proofs.Basics.Contradiction.{clash, refute}
use Rattle.machine.proofs.Words.ValueLaws.{number-stored, bag-ok}
use Rattle.machine.proofs.Shape.ShapeLaws.{well_sized}
use Rattle.machine.proofs.Linearizability.Calls.Agreement.{all-lanes-are-rows}
use Rattle.machine.proofs.Linearizability.Corollaries.{begun-agrees}
use Rattle.machine.proofs.Linearizability.Begun.TableBegun.{accepted-begin}
use Rattle.machine.proofs.Linearizability.Twice.Begins.{noted-busy, begins-new}
use Rattle.machine_capacity.proofs.Counting.{total-at}
use Rattle.machine_capacity.proofs.Theorem.{no-leak}
use Rattle.machine_capacity.proofs.Alone.Ends.{spur-by-hat, idle-end}
use Rattle.machine_capacity.proofs.Alone.Outcomes as Outcomes
use Rattle.machine_capacity.proofs.Alone.Outcomes.{Pushing, no_room, room_then, push-outcome}
use Rattle.machine_capacity.proofs.Alone.Theorem.{calls_alone, same-hints, comes-to-answer, free-after}
use Rattle.machine_capacity.proofs.MostBags.{most-bags}
use Rattle.machine_capacity.proofs.NewNumber.{new-number}

-- ---- A push alone, by the numbers that it finds.
module _ {ws : List ℕ} (B : Begun ws) (idle_now : Idle ws) where
  abbrev pub table_of : IdleTable ws
  table_of = (no-leak ws B idle_now).0

  abbrev pub count_of : AllCounted ws table_of
  count_of = (no-leak ws B idle_now).1

  some_spare : (ℓ : ℕ) → ℓ < lane_count ws → (s : Side) → 1 ≤ spare_of s (table_of.shape ℓ)
  some_spare ℓ h s = (idle-end (table_of.idle_lane ℓ h) s).spares.some

  abbrev room_of : (ℓ : ℕ) → Side → ℕ
  room_of ℓ s = spare_of s (table_of.shape ℓ) + spur_of s (table_of.shape ℓ) + count_of.free - 1

  -- What it leaves, and whether there was room.
  pub record PushDone (ℓ : ℕ) (s : Side) (a : Answer) (vs : List ℕ) : Type 0 where
    pub outcome : CallOutcome
    pub answers : a ≡ outcome.answer
    pub left-idle : LeavesIdle ws vs table_of ℓ s outcome
    pub is_lane : ℓ < lane_count ws
    pub by-room :
        Pushing (room_of ℓ s)
        (room_then count_of.free (table_of.shape ℓ).bags (spare_of s (table_of.shape ℓ)) (spur_of s (table_of.shape ℓ))
        outcome)
        outcome

  pub push-done : {ℓ : ℕ} {s : Side} {a : Answer} {vs : List ℕ} → PushAlone ℓ s a ws vs → PushDone ℓ s a vs
  push-done {ℓ} {s} {a} {vs} P =
      let I = table_of.shape ℓ in
      let here =
      (accepted-begin (begun-agrees B).1 P.k ℓ (operation_number push) (side_number s) (stored P.bag) P.begins
      ).is_lane in
      let done = calls_alone push ws vs B idle_now table_of count_of P.k ℓ s P.bag a P.begins P.alone in
      record {
        outcome = alone_at ws table_of count_of ℓ push s P.bag;
        answers = done.0;
        left-idle = done.1;
        is_lane = here;
        by-room =
            push-outcome s P.bag (growth ws) count_of.free I.bags (spare_of s I) (spur_of s I)
            (some_spare ℓ here s);
      }

  -- "Full" says that there was no room, "pushed" that there was.
  full-room : {ℓ : ℕ} {s : Side} {a : Answer} {vs : List ℕ} → PushDone ℓ s a vs → a ≡ Full → room_of ℓ s ≡ 0
  full-room D e = elim D.by-room [ Outcomes.one_more n m m' p k ↦ clash (cc D.answers) | no_room m m' p k ↦ m ]

-- The room afterwards.
module _ {ws vs : List ℕ} (B : Begun ws) (idle_now : Idle ws) {ℓ : ℕ} {s : Side} {a : Answer}
    (D : PushDone B idle_now ℓ s a vs) where
  abbrev begun-then : Begun vs
  begun-then = D.left-idle.begun

  abbrev pub idle_then : Idle vs
  idle_then = D.left-idle.idle_now

  pub room-then : room_of begun-then idle_then ℓ s
      ≡ room_then (count_of B idle_now).free ((table_of B idle_now).shape ℓ).bags
      (spare_of s ((table_of B idle_now).shape ℓ)) (spur_of s ((table_of B idle_now).shape ℓ)) D.outcome
  room-then =
      let K = D.left-idle in
      let T' = table_of begun-then idle_then in
      let sum =
      free-after ws vs (table_of B idle_now) (count_of B idle_now) ℓ D.is_lane s D.outcome K T'
      (count_of begun-then idle_then) in
      let a = K.own_spare T' in
      let b = K.own_spur T' in
      omega arith

-- ---- A push at a hat beside its list: the spur is room.
pub never-full : NeverFull
never-full ws vs B idle_now ℓ s beside P =
    let D = push-done B idle_now P in
    let spur = (spur-by-hat (idle-end ((table_of B idle_now).idle_lane ℓ D.is_lane) s)).0 beside in
    let one = some_spare B idle_now ℓ D.is_lane s in
    let none_left = full-room B idle_now D refl in
    omega arith

-- ---- A push of a bag that is in no lane is begun, and answers.
module _ {ws : List ℕ} (B : Begun ws) where
  abbrev bags-now : List ℕ
  bags-now = all_bags (begun-agrees B).0

  abbrev new-bag : ℕ
  new-bag = (new-number bags-now).0

  is-bag : bag_ok (stored new-bag) ≡ true
  is-bag =
      let x = new-number bags-now in
      let most = most-bags ws bags-now B (all-lanes-are-rows (begun-agrees B).1) in
      let few = (well_sized ws (begun-agrees B).1.accepted.length_passes).most_nodes in
      bag-ok new-bag x.1 (omega (arith, x.2))

  begins-push : Idle ws → (ℓ : ℕ) → ℓ < lane_count ws → (s : Side)
      → (begin ws 0 ℓ (operation_number push) (side_number s) (stored new-bag)).reply ≡ Accepted
  begins-push idle_now ℓ is_lane s =
      let A = (begun-agrees B).1 in
      let one_task = (well_sized ws A.accepted.length_passes).one_task in
      (begins-new A 0 ℓ s (stored new-bag) one_task is_lane is-bag).when_new
      (λ seen. not_seen (subst (SeenIn (begun-agrees B).0) (number-stored new-bag) seen))
      (ap is_idle (idle_now 0))
    where
      not_seen : SeenIn (begun-agrees B).0 new-bag → ⊥
      not_seen (inl there) = refute (cc (new-number bags-now).3)
      not_seen (inr N) =
          refute (cc ((noted-busy (begun-agrees B).1 N.0 new-bag N.1).0, idle_now N.0))

  some-push : Idle ws → (ℓ : ℕ) → ℓ < lane_count ws → (s : Side) → (a : Answer) × (vs : List ℕ) × PushAlone ℓ s a ws vs
  some-push idle_now ℓ is_lane s =
      let begins = begins-push idle_now ℓ is_lane s in
      let ticks = 4 * node_count ws + 154 in
      let Z = well_sized ws (begun-agrees B).1.accepted.length_passes in
      let one = Z.one_lane in
      let fit = Z.lanes_fit in
      let long = length-replicate {A = ℕ} ticks 0 in (
        _,
        _,
        record {
          k = 0;
          bag = new-bag;
          begins = begins;
          alone =
              comes-to-answer push B idle_now 0 ℓ s new-bag begins (replicate ticks 0)
              (same-hints (node_count ws) ticks 0 (omega arith)) (omega arith);
        },
      )

-- ---- One after another: with room for d bags, d are "pushed".
module _ {ws : List ℕ} (B : Begun ws) (idle_now : Idle ws) (ℓ : ℕ) (is_lane : ℓ < lane_count ws) (s : Side) where
  -- One push is "full", or there is room for one less.
  data OnePush : Type 0 where
    full-now : {vs : List ℕ} → PushAlone ℓ s Full ws vs → OnePush
    pushed-one :
        {vs : List ℕ} (n : ℕ)
        → room_of B idle_now ℓ s ≡ suc n
        → PushAlone ℓ s Pushed ws vs
        → (B' : Begun vs) (idle' : Idle vs)
        → ℓ < lane_count vs
        → room_of B' idle' ℓ s ≡ n
        → OnePush

  one-push : OnePush
  one-push =
      let some = some-push B idle_now ℓ is_lane s in
      let D = push-done B idle_now some.2 in
      let K = D.left-idle in
      elim D.by-room [
        | no_room m m' full k ↦
            full-now (subst (λ (a : Answer). PushAlone ℓ s a ws some.1) (D.answers ∙ full) some.2)
        | Outcomes.one_more n m m' pushed k ↦
            pushed-one n m (subst (λ (a : Answer). PushAlone ℓ s a ws some.1) (D.answers ∙ pushed) some.2)
            K.begun K.idle_now (subst (λ (i : ℕ). ℓ < i) (sym K.same-lanes) is_lane)
            (room-then B idle_now D ∙ m')
      ]

fills-with : (d : ℕ) {ws : List ℕ} (B : Begun ws) (idle_now : Idle ws) (ℓ : ℕ) → ℓ < lane_count ws → (s : Side)
    → room_of B idle_now ℓ s ≡ d
    → (vs : List ℕ) × FilledFrom ℓ s vs ws
fills-with zero B idle_now ℓ is_lane s e =
    elim (one-push B idle_now ℓ is_lane s) [
      | full-now {vs} P ↦ (vs, is_full P)
      | pushed-one n m P B' idle' h q ↦ absurd (omega arith)
    ]
fills-with (suc d) B idle_now ℓ is_lane s e =
    elim (one-push B idle_now ℓ is_lane s) [
      | full-now {vs} P ↦ (vs, is_full P)
      | pushed-one n m P B' idle' h q ↦
          let rest = fills-with d B' idle' ℓ h s (omega arith) in (rest.0, one_more P rest.1)
    ]

pub fills_up : FillsUp
fills_up ws B idle_now ℓ is_lane s = fills-with (room_of B idle_now ℓ s) B idle_now ℓ is_lane s refl

-- ---- Every chain of pushes: each that is "pushed" takes one of the room that there is.
within-room : (n : ℕ) {ws vs : List ℕ} (B : Begun ws) (idle_now : Idle ws) (ℓ : ℕ) (s : Side) → PushedTo ℓ s vs n ws
    → n ≤ room_of B idle_now ℓ s
within-room zero B idle_now ℓ s P = omega arith
within-room (suc n) B idle_now ℓ s (one_pushed P more) =
    let D = push-done B idle_now P in
    let rest = within-room n D.left-idle.begun D.left-idle.idle_now ℓ s more in
    elim D.by-room [
      | no_room m m' full k ↦ clash (cc D.answers)
      | Outcomes.one_more r m m' pushed k ↦
          let then = room-then B idle_now D in
          omega arith
    ]

-- The other end of the lane and both ends of every other have a spare node.
most-room : {ws : List ℕ} (B : Begun ws) (idle_now : Idle ws) (ℓ : ℕ) → ℓ < lane_count ws → (s : Side)
    → room_of B idle_now ℓ s + 2 * lane_count ws ≤ node_count ws
most-room {ws} B idle_now ℓ h s =
    let I = (table_of B idle_now).shape ℓ in
    let two = total-at (λ j. lane_size ((table_of B idle_now).shape j)) 2 (spare_of s I + spur_of s I - 1) ℓ (lane_count ws) h
    (λ j l. two-spare j l) (by_side s) in
    let one = some_spare B idle_now ℓ h s in
    omega (arith, (count_of B idle_now).all_counted)
  where
    two-spare : (j : ℕ) → j < lane_count ws → 2 ≤ lane_size ((table_of B idle_now).shape j)
    two-spare j l = omega (arith, some_spare B idle_now j l left, some_spare B idle_now j l right)

    by_side : (z : Side)
        → 2 + (spare_of z ((table_of B idle_now).shape ℓ) + spur_of z ((table_of B idle_now).shape ℓ) - 1)
        ≤ lane_size ((table_of B idle_now).shape ℓ)
    by_side left = omega (arith, some_spare B idle_now ℓ h left, some_spare B idle_now ℓ h right)
    by_side right = omega (arith, some_spare B idle_now ℓ h left, some_spare B idle_now ℓ h right)

pub come-to-an-end : ComeToAnEnd
come-to-an-end ws vs B idle_now ℓ s zero P =
    let fit = (well_sized ws (begun-agrees B).1.accepted.length_passes).lanes_fit in omega arith
come-to-an-end ws vs B idle_now ℓ s (suc n) P =
    omega (arith, within-room (suc n) B idle_now ℓ s P, most-room B idle_now ℓ (is_lane P) s)
  where
    is_lane : PushedTo ℓ s vs (suc n) ws → ℓ < lane_count ws
    is_lane (one_pushed Q more) = (push-done B idle_now Q).is_lane
