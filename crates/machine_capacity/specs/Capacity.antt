-- What fits: a table of S nodes carries at most S bags less two for each lane, and pushes that get all the ticks fill
-- it with just so many.
use Rattle.std.specs.Prelude.{◌≡◌, true, List, [], ◌∷◌, ℕ, suc, ◌+◌, ◌*◌, ◌≤◌, ◌<◌, length}
use Rattle.std.proofs.Math.Option.{some}
use Rattle.machine.specs.Outcomes.Answer.{Answer, Going, Pushed, Full}
use Rattle.machine.specs.Outcomes.Reply.{Accepted}
use Rattle.machine.specs.Sides.{Side, side_number}
use Rattle.machine.specs.Values.{Y, stored}
use Rattle.machine.specs.Operations.{push, operation_number}
use Rattle.machine.specs.Table.{node_count, lane_count, hat, value}
use Rattle.machine.specs.Calls.{begin, tick, all_lanes}
use Rattle.machine.specs.Begun.{Begun}
use Rattle.machine.specs.Answers.{ends_call}
use Rattle.machine_capacity.specs.NoLeak.{Idle}

-- At every moment, whoever is in a call: the two ends of each lane's list carry no bag.
abbrev pub MostBags : Type 0
MostBags =
    (ws bags : List ℕ) → Begun ws → all_lanes ws ≡ some bags → length bags + 2 * lane_count ws ≤ node_count ws

-- ---- A push that gets all the ticks.

-- Task k gets ticks, with any hints, and nothing else is done: from ws on they say "going", and the last one ends the
-- call with the answer a and leaves the table vs.
pub data AloneTo (k : ℕ) (a : Answer) (vs : List ℕ) : (ws : List ℕ) → Type 0 where
  ends_now :
      {ws : List ℕ} (h : ℕ)
      → ends_call a ≡ true
      → (tick ws k h).answer ≡ a
      → (tick ws k h).words ≡ vs
      → AloneTo k a vs ws
  ends-later :
      {ws : List ℕ} (h : ℕ)
      → (tick ws k h).answer ≡ Going
      → AloneTo k a vs (tick ws k h).words
      → AloneTo k a vs ws

-- Some task begins a push of some bag on side s of lane ℓ at the table ws, and alone comes to the answer a and the
-- table vs.
pub record PushAlone (ℓ : ℕ) (s : Side) (a : Answer) (ws vs : List ℕ) : Type 0 where
  pub k : ℕ
  pub bag : ℕ
  pub begins : (begin ws k ℓ (operation_number push) (side_number s) (stored bag)).reply ≡ Accepted
  pub alone : AloneTo k a vs (begin ws k ℓ (operation_number push) (side_number s) (stored bag)).words

-- A push at a hat beside its list, with no other task in a call, is never "full".
abbrev pub NeverFull : Type 0
NeverFull =
    (ws vs : List ℕ)
    → Begun ws
    → Idle ws
    → (ℓ : ℕ) (s : Side)
    → value ws (hat ws ℓ s) ≡ Y s
    → PushAlone ℓ s Full ws vs
    → ⊥

-- ---- Pushes on side s of lane ℓ, one after another, until one is "full".
pub data FilledFrom (ℓ : ℕ) (s : Side) (vs : List ℕ) : (ws : List ℕ) → Type 0 where
  is_full : {ws : List ℕ} → PushAlone ℓ s Full ws vs → FilledFrom ℓ s vs ws
  one_more : {ws us : List ℕ} → PushAlone ℓ s Pushed ws us → FilledFrom ℓ s vs us → FilledFrom ℓ s vs ws

-- From any table with no task in a call they come to an end.
abbrev pub FillsUp : Type 0
FillsUp =
    (ws : List ℕ)
    → Begun ws
    → Idle ws
    → (ℓ : ℕ)
    → ℓ < lane_count ws
    → (s : Side)
    → (vs : List ℕ) × FilledFrom ℓ s vs ws

-- And so does every chain of them: where n pushes, one after another and each of them "pushed", lead from ws to vs, n
-- is at most S less two for each lane. (How many are "pushed", exactly, is `Room.RoomRule`.)
pub data PushedTo (ℓ : ℕ) (s : Side) (vs : List ℕ) : (n : ℕ) (ws : List ℕ) → Type 0 where
  none_pushed : PushedTo ℓ s vs 0 vs
  one_pushed :
      {n : ℕ} {ws us : List ℕ}
      → PushAlone ℓ s Pushed ws us
      → PushedTo ℓ s vs n us
      → PushedTo ℓ s vs (suc n) ws

abbrev pub ComeToAnEnd : Type 0
ComeToAnEnd =
    (ws vs : List ℕ)
    → Begun ws
    → Idle ws
    → (ℓ : ℕ) (s : Side) (n : ℕ)
    → PushedTo ℓ s vs n ws
    → n + 2 * lane_count ws ≤ node_count ws

-- ---- Ends of lanes so filled, one after another.
abbrev pub End : Type 0
End = ℕ × Side

pub data FilledEnds (vs : List ℕ) : (ends : List End) → (ws : List ℕ) → Type 0 where
  all_filled : FilledEnds vs [] vs
  next_filled : {ws us : List ℕ} {ends : List End} (ℓ : ℕ) (s : Side) → FilledFrom ℓ s us ws → FilledEnds vs ends us
      → FilledEnds vs ((ℓ, s) ∷ ends) ws

-- An end is among those.
pub data Among (e : End) : List End → Type 0 where
  first : {ends : List End} → Among e (e ∷ ends)
  later : {f : End} {ends : List End} → Among e ends → Among e (f ∷ ends)

-- And when all ends of all lanes were so filled, in any order, the lanes have S bags less two for each lane.
abbrev pub Capacity : Type 0
Capacity =
    (ws vs : List ℕ) (ends : List End)
    → Begun ws
    → Idle ws
    → ((ℓ : ℕ) → ℓ < lane_count ws → (s : Side) → Among (ℓ, s) ends)
    → FilledEnds vs ends ws
    → (bags : List ℕ) × (all_lanes vs ≡ some bags) × (length bags + 2 * lane_count ws ≡ node_count ws)
