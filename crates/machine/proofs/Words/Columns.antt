-- The table taken apart into columns: what each kind of word holds, as functions of the side, the node and the task.
use mathlib.Core.Path.{◌≡◌, refl, ap, ◌∙◌, fun_ext}
use mathlib.Core.Logic.{◌≢◌}
use mathlib.Core.List.{List, [], ◌∷◌}
use Prim.Native.Nat.{ℕ, ◌-◌, ◌<◌}
use Rattle.machine.specs.declared.Stored.{Stored}
use Rattle.machine.specs.Choice.{◌<?◌, if?◌then◌else◌}
use Rattle.machine.specs.Sides.{Side, opposite}
use Rattle.machine.specs.Values.{never, encode, decode}
use Rattle.machine.specs.Tasks.{Task, fresh, words_of, task_of}
use Rattle.machine.specs.Table.{node_count, task_count, tick_count, dispatched, hat, word14, word15, link, value_words, record_words}
use Rattle.machine.specs.Shape.{Sizes, sizes_of}
use Rattle.machine.specs.Lines.{Write, out≔, inn≔, val≔, hat≔}
use Rattle.machine.proofs.Basics.Updates.{is-update, update, update_side, update_hat}
use Rattle.machine.proofs.Words.Memories.{View}

-- A function below a bound, with one value from the bound on.
abbrev pub column : {T : Type 0} → ℕ → T → (ℕ → T) → ℕ → T
column n other f x = if? x <? n then f x else other

-- The header's other words but the hats: the counts that change, and the last two words.
pub record Counts : Type 0 where
  pub tick_count : ℕ
  pub dispatched : ℕ
  pub word14 : ℕ
  pub word15 : ℕ

-- As start leaves them, with another tick count, and with another task last dispatched.
abbrev pub start_counts : (T : ℕ) → Counts
start_counts T = record { tick_count = 0; dispatched = T - 1; word14 = 0; word15 = 0 }

abbrev pub counted_as : ℕ → Counts → Counts
counted_as n c = record { tick_count = n; dispatched = c.dispatched; word14 = c.word14; word15 = c.word15 }

abbrev pub dispatched_to : ℕ → Counts → Counts
dispatched_to k c = record { tick_count = c.tick_count; dispatched = k; word14 = c.word14; word15 = c.word15 }

-- The words of the table. A number that is no node has the words of never used, one that is no task has a fresh record.
pub record Columns : Type 0 where
  pub sizes : Sizes
  pub hats : (lane : ℕ) → Side → ℕ
  pub counts : Counts
  pub links : Side → ℕ → ℕ
  pub values : ℕ → Stored
  pub records : ℕ → List ℕ

abbrev pub counts_of : List ℕ → Counts
counts_of ws =
    record { tick_count = tick_count ws; dispatched = dispatched ws; word14 = word14 ws; word15 = word15 ws }

abbrev pub columns : List ℕ → Columns
columns ws =
    record {
      sizes = sizes_of ws;
      hats = hat ws;
      counts = counts_of ws;
      links = link ws;
      values = column (node_count ws) (encode never) (value_words ws);
      records = column (task_count ws) (words_of fresh) (record_words ws);
    }

-- ---- What the columns mean.
abbrev pub view_of : Side → Columns → View
view_of s c =
    record {
      out = c.links s;
      inn = c.links (opposite s);
      val = λ x. decode (c.values x);
      hats = c.hats;
    }

abbrev pub tasks : Columns → ℕ → Task
tasks c k = task_of (c.records k)

-- ---- Writes to the columns: in the header, and after it.
abbrev put_header : (hats : ℕ → Side → ℕ) → Counts → Columns → Columns
put_header hats counts c =
    record {
      sizes = c.sizes;
      hats = hats;
      counts = counts;
      links = c.links;
      values = c.values;
      records = c.records;
    }

abbrev pub put_body : (links : Side → ℕ → ℕ) (values : ℕ → Stored) (records : ℕ → List ℕ) → Columns → Columns
put_body links values records c =
    record {
      sizes = c.sizes;
      hats = c.hats;
      counts = c.counts;
      links = links;
      values = values;
      records = records;
    }

abbrev pub put_hat : (lane : ℕ) → Side → ℕ → Columns → Columns
put_hat l s x c = put_header (update_hat c.hats l s x) c.counts c

abbrev pub put_tick_count : ℕ → Columns → Columns
put_tick_count n c = put_header c.hats (counted_as n c.counts) c

abbrev pub put_dispatched : ℕ → Columns → Columns
put_dispatched k c = put_header c.hats (dispatched_to k c.counts) c

abbrev pub put_link : Side → ℕ → ℕ → Columns → Columns
put_link s x y c = put_body (update_side c.links s (update (c.links s) x y)) c.values c.records c

abbrev pub put_value : ℕ → Stored → Columns → Columns
put_value x u c = put_body c.links (update c.values x u) c.records c

abbrev pub put_record : ℕ → List ℕ → Columns → Columns
put_record k r c = put_body c.links c.values (update c.records k r) c

-- One write of a task on side s of a lane, and several in order.
abbrev pub put_one : (lane : ℕ) → Side → Write → Columns → Columns
put_one l s (out≔ x y) c = put_link s x y c
put_one l s (inn≔ x y) c = put_link (opposite s) x y c
put_one l s (val≔ x v) c = put_value x (encode v) c
put_one l s (hat≔ x) c = put_hat l s x c

abbrev pub put_all : (lane : ℕ) → Side → List Write → Columns → Columns
put_all l s [] c = c
put_all l s (w ∷ more) c = put_all l s more (put_one l s w c)

-- ---- Equal columns.
pub sizes-equal :
    {y z : Sizes}
    → y.length ≡ z.length
    → y.node_count ≡ z.node_count
    → y.task_count ≡ z.task_count
    → y.growth ≡ z.growth
    → y.lane_count ≡ z.lane_count
    → y ≡ z
sizes-equal p q r s t =
    λ i. record { length = p i; node_count = q i; task_count = r i; growth = s i; lane_count = t i }

pub counts-equal :
    {m n : Counts}
    → m.tick_count ≡ n.tick_count
    → m.dispatched ≡ n.dispatched
    → m.word14 ≡ n.word14
    → m.word15 ≡ n.word15
    → m ≡ n
counts-equal p q r s = λ i. record { tick_count = p i; dispatched = q i; word14 = r i; word15 = s i }

pub columns-equal :
    {b c : Columns}
    → b.sizes ≡ c.sizes
    → b.hats ≡ c.hats
    → b.counts ≡ c.counts
    → b.links ≡ c.links
    → b.values ≡ c.values
    → b.records ≡ c.records
    → b ≡ c
columns-equal p q r s t u =
    λ i. record { sizes = p i; hats = q i; counts = r i; links = s i; values = t i; records = u i }

module _ {T : Type 0} (other : T) (f f' : ℕ → T) {n n' : ℕ} (bound : n' ≡ n) where
  pub column-kept : ((x : ℕ) → x < n → f' x ≡ f x) → column n' other f' ≡ column n other f
  column-kept same = ap (λ m. column m other f') bound ∙ fun_ext (λ x. go x (x <? n))
    where
      go : (x : ℕ) (d : Dec (x < n)) → (if? d then f' x else other) ≡ (if? d then f x else other)
      go x (yes h) = same x h
      go x (no h) = refl

  pub column-written :
      (y : ℕ) (v : T)
      → y < n
      → f' y ≡ v
      → ((x : ℕ) → x < n → x ≢ y → f' x ≡ f x)
      → column n' other f' ≡ update (column n other f) y v
  column-written y v l here same =
      ap (λ m. column m other f') bound ∙ is-update (column n other f) y v (column n other f') (at_y (y <? n)) elsewhere
    where
      at_y : (d : Dec (y < n)) → (if? d then f' y else other) ≡ v
      at_y (yes h) = here
      at_y (no h) = absurd (h l)

      elsewhere : (x : ℕ) → x ≢ y → column n other f' x ≡ column n other f x
      elsewhere x k = go (x <? n)
        where
          go : (d : Dec (x < n)) → (if? d then f' x else other) ≡ (if? d then f x else other)
          go (yes h) = same x h k
          go (no h) = refl
