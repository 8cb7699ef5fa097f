-- No node leaks: when no task is in a call, the main lists of the lanes and the nodes under the hats are all that is
-- held.
use Rattle.std.specs.Prelude.{◌≡◌, List, ℕ, zero, suc, ◌+◌, ◌-◌, ◌≤◌, ◌<◌, length, get_or}
use Rattle.std.proofs.Math.Option.{some}
use Rattle.machine.specs.Sides.{Side, left, right, opposite}
use Rattle.machine.specs.Values.{bag, N, X, Y}
use Rattle.machine.specs.Operations.{idle}
use Rattle.machine.specs.Tasks.{no_node}
use Rattle.machine.specs.Table.{node_count, lane_count, hat, link, value, task}
use Rattle.machine.specs.Reach.{Reachable, Free}
use Rattle.machine.specs.Calls.{lane}
use Rattle.machine.specs.Begun.{Begun}

-- No task is in a call.
abbrev pub Idle : List ℕ → Type 0
Idle ws = (k : ℕ) → (task ws k).operation ≡ idle

-- ---- The main list of a lane, from left to right: l spare nodes of the left side, the bags, r spare nodes of the
-- right side.
abbrev pub list_size : (l : ℕ) → (bags : List ℕ) → (r : ℕ) → ℕ
list_size l bags r = l + length bags + r

-- at i is the node at place i.
pub record MainList (ws : List ℕ) (at : ℕ → ℕ) (l : ℕ) (bags : List ℕ) (r : ℕ) : Type 0 where
  pub some_left : 1 ≤ l
  pub some_right : 1 ≤ r
  -- The values: X left, then N left; the bags; N right, and at last X right.
  pub X-left : value ws (at 0) ≡ X left
  pub N-left : (i : ℕ) → 0 < i → i < l → value ws (at i) ≡ N left
  pub bag_at : (i : ℕ) → i < length bags → value ws (at (l + i)) ≡ bag (get_or bags i 0)
  pub N-right : (i : ℕ) → suc i < r → value ws (at (l + length bags + i)) ≡ N right
  pub X-right : (i : ℕ) → suc i ≡ r → value ws (at (l + length bags + i)) ≡ X right
  -- The links: each node and the next lead to each other, and the two ends lead to none.
  pub leads_right : (i : ℕ) → suc i < list_size l bags r → link ws right (at i) ≡ at (suc i)
  pub leads_left : (i : ℕ) → suc i < list_size l bags r → link ws left (at (suc i)) ≡ at i
  pub left_end : link ws left (at 0) ≡ no_node
  pub right_end : (i : ℕ) → suc i ≡ list_size l bags r → link ws right (at i) ≡ no_node
  pub different : (i j : ℕ) → i < list_size l bags r → j < list_size l bags r → at i ≡ at j → i ≡ j

-- ---- The hats.

-- A hat of lane ℓ is at the innermost spare node of its side; or at a node beside the list, which is Y, has no outward
-- link, and leads inward to the node next to the innermost spare one. The last number is how many nodes beside the list
-- the hat holds.
pub data HatPlace (ws : List ℕ) (ℓ : ℕ) (s : Side) (spare next : ℕ) : (beside : ℕ) → Type 0 where
  in_list : hat ws ℓ s ≡ spare → HatPlace ws ℓ s spare next 0
  beside :
      value ws (hat ws ℓ s) ≡ Y s
      → link ws s (hat ws ℓ s) ≡ no_node
      → link ws (opposite s) (hat ws ℓ s) ≡ next
      → HatPlace ws ℓ s spare next 1

-- ---- A lane of an idle table: its places and five numbers, l, how many bags, r, and x and y, how many nodes beside
-- the list the left hat and the right hat hold.
pub record LaneShape : Type 0 where
  pub at : ℕ → ℕ
  pub l : ℕ
  pub bags : List ℕ
  pub r : ℕ
  pub x : ℕ
  pub y : ℕ

abbrev pub list_of : LaneShape → ℕ
list_of I = list_size I.l I.bags I.r

abbrev pub lane_size : LaneShape → ℕ
lane_size I = list_of I + (I.x + I.y)

pub record IdleLane (ws : List ℕ) (ℓ : ℕ) (I : LaneShape) : Type 0 where
  pub lane_is : lane ws ℓ ≡ some I.bags
  pub main_list : MainList ws I.at I.l I.bags I.r
  pub left_hat : HatPlace ws ℓ left (I.at (I.l - 1)) (I.at I.l) I.x
  pub right_hat :
      HatPlace ws ℓ right (I.at (I.l + length I.bags)) (I.at (I.l + length I.bags - 1)) I.y
  pub reached : (i : ℕ) → i < list_of I → Reachable ws (I.at i)

-- ---- What a lane holds: the nodes of its list, and the nodes under its hats.
pub data Held (ws : List ℕ) (ℓ : ℕ) (I : LaneShape) (x : ℕ) : Type 0 where
  listed : (i : ℕ) → i < list_of I → I.at i ≡ x → Held ws ℓ I x
  under_hat : (s : Side) → hat ws ℓ s ≡ x → value ws x ≡ Y s → Held ws ℓ I x

-- An idle table is five numbers for each lane.
pub record IdleTable (ws : List ℕ) : Type 0 where
  pub shape : (lane : ℕ) → LaneShape
  pub idle_lane : (ℓ : ℕ) → ℓ < lane_count ws → IdleLane ws ℓ (shape ℓ)
  -- All that is reachable is held by a lane, and no node is in the lists of two.
  pub held : (x : ℕ) → Reachable ws x → (ℓ : ℕ) × (ℓ < lane_count ws) × Held ws ℓ (shape ℓ) x
  pub lists_apart :
      (ℓ j p q : ℕ) → ℓ < lane_count ws → j < lane_count ws → p < list_of (shape ℓ) → q < list_of (shape j)
      → (shape ℓ).at p ≡ (shape j).at q
      → ℓ ≡ j

-- ---- How many nodes are free.

-- c of the numbers below n are such as P says.
pub data CountBelow (P : ℕ → Type 0) : (n c : ℕ) → Type 0 where
  none_below : CountBelow P 0 0
  one_more : {n c : ℕ} → P n → CountBelow P n c → CountBelow P (suc n) (suc c)
  not_this : {n c : ℕ} → (P n → ⊥) → CountBelow P n c → CountBelow P (suc n) c

-- f 0 + .. + f (n - 1).
unfoldable pub total : (ℕ → ℕ) → (n : ℕ) → ℕ
total f zero = 0
total f (suc n) = total f n + f n

-- All nodes but the lists' and those beside them are free: free = S - the lanes' (l + b + r) - (x + y).
pub record AllCounted (ws : List ℕ) (T : IdleTable ws) : Type 0 where
  pub free : ℕ
  pub free_nodes : CountBelow (Free ws) (node_count ws) free
  pub all_counted : free + total (λ ℓ. lane_size (T.shape ℓ)) (lane_count ws) ≡ node_count ws

-- Every table that our calls lead to is such a table at every moment when no task is in a call.
abbrev pub NoLeak : Type 0
NoLeak = (ws : List ℕ) → Begun ws → Idle ws → (T : IdleTable ws) × AllCounted ws T
