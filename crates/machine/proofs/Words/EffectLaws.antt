-- What a tick's effect on the words is on the view and the tasks that the words stand for.
use mathlib.Core.Path.{◌≡◌, refl, ap, sym, ◌∙◌, subst, fun_ext}
use mathlib.Core.List.{List, [], ◌∷◌}
use Prim.Native.Nat.{ℕ, ◌+◌, ◌%◌, ◌^◌, ◌<◌}
use Rattle.machine.specs.Choice.{◌<?◌, if?◌then◌else◌}
use Rattle.machine.specs.Sides.{Side, left, right, opposite}
use Rattle.machine.specs.Values.{encode, decode}
use Rattle.machine.specs.Tasks.{Task, fresh, words_of, task_of}
use Rattle.machine.specs.Table.{
  node_count,
  task_count,
  lane_count,
  most_lanes,
  tick_count,
  dispatched,
  value,
  record_words,
  task,
  set_dispatched,
  set_task,
}
use Rattle.machine.specs.Lines.{Write, out≔, inn≔, val≔, hat≔, write_one, write_all}
use Rattle.machine.specs.Calls.{tick_counted}
use Rattle.machine.specs.Shape.{sizes_of, Sized}
use Rattle.machine.proofs.Words.ValueLaws.{HasWord}
use Rattle.machine.proofs.Words.RecordLaws.{task-of-words, fresh-of-words}
use Rattle.machine.proofs.Basics.Updates.{map-update, update}
use Rattle.machine.proofs.Words.Memories.{viewed, write, written, view, view_after, view-viewed, view-equal}
use Rattle.machine.proofs.Words.Columns.{
  Columns,
  columns,
  view_of,
  tasks,
  put_tick_count,
  put_record,
  put_one,
  put_all,
}
use Rattle.machine.proofs.Words.TableLaws.{
  columns-set_hat,
  columns-set_tick_count,
  columns-set_dispatched,
  columns-set_link,
  columns-set_value,
  columns-set_task,
}

-- ---- Writes that stay within the nodes, of values that have words.
abbrev pub InRange : (S : ℕ) → Write → Type 0
InRange S (out≔ x y) = x < S
InRange S (inn≔ x y) = x < S
InRange S (val≔ x v) = (x < S) × HasWord v
InRange S (hat≔ x) = Unit {0}

abbrev pub AllInRange : (S : ℕ) → List Write → Type 0
AllInRange S [] = Unit {0}
AllInRange S (w ∷ l) = InRange S w × AllInRange S l

-- ---- On the columns.
-- What no line writes: the sizes, the counts and the records.
pub record Untouched (b c : Columns) : Type 0 where
  pub sizes : b.sizes ≡ c.sizes
  pub counts : b.counts ≡ c.counts
  pub records : b.records ≡ c.records

pub put-one-rest : (j : ℕ) (s : Side) (w : Write) (c : Columns) → Untouched (put_one j s w c) c
put-one-rest j s (out≔ x y) c = record { sizes = refl; counts = refl; records = refl }
put-one-rest j s (inn≔ x y) c = record { sizes = refl; counts = refl; records = refl }
put-one-rest j s (val≔ x v) c = record { sizes = refl; counts = refl; records = refl }
put-one-rest j s (hat≔ x) c = record { sizes = refl; counts = refl; records = refl }

pub put-all-rest : (j : ℕ) (s : Side) (l : List Write) (c : Columns) → Untouched (put_all j s l c) c
put-all-rest j s [] c = record { sizes = refl; counts = refl; records = refl }
put-all-rest j s (w ∷ l) c =
    let a = put-all-rest j s l (put_one j s w c) in
    let b = put-one-rest j s w c in
    record {
      sizes = a.sizes ∙ b.sizes;
      counts = a.counts ∙ b.counts;
      records = a.records ∙ b.records;
    }

-- Writes as columns hold them are writes as a view has them.
view-put-one :
    (S j : ℕ) (s : Side) (w : Write) (c : Columns) → InRange S w → view_of s (put_one j s w c) ≡ write j s w (view_of s c)
view-put-one S j left (out≔ x y) c h = refl
view-put-one S j right (out≔ x y) c h = refl
view-put-one S j left (inn≔ x y) c h = refl
view-put-one S j right (inn≔ x y) c h = refl
view-put-one S j s (val≔ x v) c h =
    view-equal refl refl (map-update decode c.values x (encode v) v h.1) refl
view-put-one S j left (hat≔ x) c h = refl
view-put-one S j right (hat≔ x) c h = refl

view-put-all :
    (S j : ℕ) (s : Side) (l : List Write) (c : Columns)
    → AllInRange S l
    → view_of s (put_all j s l c) ≡ written j s l (view_of s c)
view-put-all S j s [] c h = refl
view-put-all S j s (w ∷ l) c h =
    view-put-all S j s l (put_one j s w c) h.1 ∙ ap (written j s l) (view-put-one S j s w c h.0)

-- ---- On the words.
module _ (j : ℕ) (is_lane : j < most_lanes) (s : Side) where
  columns-write-one :
      (w : Write) (ws : List ℕ)
      → Sized (sizes_of ws)
      → InRange (node_count ws) w
      → columns (write_one j s w ws) ≡ put_one j s w (columns ws)
  columns-write-one (out≔ x y) ws sized h = columns-set_link ws sized s x y h
  columns-write-one (inn≔ x y) ws sized h = columns-set_link ws sized (opposite s) x y h
  columns-write-one (val≔ x v) ws sized h = columns-set_value ws sized x v h.0
  columns-write-one (hat≔ x) ws sized h = columns-set_hat ws sized j is_lane s x

  columns-write-all :
      (l : List Write) (ws : List ℕ)
      → Sized (sizes_of ws)
      → AllInRange (node_count ws) l
      → columns (write_all j s l ws) ≡ put_all j s l (columns ws)
  unfolding write_all
  columns-write-all [] ws sized h = refl
  columns-write-all (w ∷ l) ws sized h =
      let one = columns-write-one w ws sized h.0 in
      let vs = write_one j s w ws in
      let same : sizes_of vs ≡ sizes_of ws = ap (λ c. c.sizes) one ∙ (put-one-rest j s w (columns ws)).sizes in
      columns-write-all l vs (subst Sized (sym same) sized)
      (subst (λ z. AllInRange z.node_count l) (sym same) h.1)
      ∙ ap (put_all j s l) one

view-columns : (s : Side) (c : Columns) → view_of right c ≡ view s (view_of s c)
view-columns left c = refl
view-columns right c = refl

pub task-by-columns : (ws : List ℕ) → task ws ≡ tasks (columns ws)
unfolding task
task-by-columns ws = fun_ext (λ k. go k (k <? task_count ws))
  where
    go :
        (k : ℕ) (d : Dec (k < task_count ws))
        → (if? d then task_of (record_words ws k) else fresh) ≡ task_of (if? d then record_words ws k else words_of fresh)
    go k (yes h) = refl
    go k (no h) = sym fresh-of-words

tasks-put-record :
    (k : ℕ) (t : Task) (c : Columns) → HasWord t.value → tasks (put_record k (words_of t) c) ≡ update (tasks c) k t
tasks-put-record k t c h = map-update task_of c.records k (words_of t) t (task-of-words t h)

-- ---- The task last dispatched: nothing else changes.
module _ (ws : List ℕ) (sized : Sized (sizes_of ws)) (k : ℕ) where
  pub viewed-set-dispatched : (s : Side) → viewed s (set_dispatched k ws) ≡ viewed s ws
  unfolding value
  viewed-set-dispatched s = ap (view_of s) (columns-set_dispatched ws sized k)

  pub task-set-dispatched : task (set_dispatched k ws) ≡ task ws
  task-set-dispatched =
      task-by-columns (set_dispatched k ws)
      ∙ ap tasks (columns-set_dispatched ws sized k)
      ∙ sym (task-by-columns ws)

  pub lanes-set-dispatched : lane_count (set_dispatched k ws) ≡ lane_count ws
  lanes-set-dispatched = ap (λ c. c.sizes.lane_count) (columns-set_dispatched ws sized k)

-- ---- A record written: begin.
module _ (ws : List ℕ) (sized : Sized (sizes_of ws)) (k : ℕ) (is_task : k < task_count ws) (t : Task) where
  pub viewed-set-task : (s : Side) → viewed s (set_task k t ws) ≡ viewed s ws
  unfolding value
  viewed-set-task s = ap (view_of s) (columns-set_task ws sized k t is_task)

  pub task-set-task : HasWord t.value → task (set_task k t ws) ≡ update (task ws) k t
  task-set-task h =
      task-by-columns (set_task k t ws)
      ∙ ap tasks (columns-set_task ws sized k t is_task)
      ∙ tasks-put-record k t (columns ws) h
      ∙ ap (λ (f : ℕ → Task). update f k t) (sym (task-by-columns ws))

-- ---- A whole effect: the words that `applied` gives where the answer is no refusal.
abbrev pub effect_words : (lane : ℕ) → Side → List Write → (k : ℕ) → Task → List ℕ → List ℕ
effect_words j s l k t ws = tick_counted (set_task k t (write_all j s l ws))

module _
    (ws : List ℕ)
    (sized : Sized (sizes_of ws))
    (j : ℕ)
    (is_lane : j < most_lanes)
    (s : Side)
    (l : List Write)
    (in-range : AllInRange (node_count ws) l)
    (k : ℕ)
    (is_task : k < task_count ws)
    (t : Task) where
  -- The columns once the writes are made, and once the record is set too.
  columns-written : columns (write_all j s l ws) ≡ put_all j s l (columns ws)
  columns-written = columns-write-all j is_lane s l ws sized in-range

  recorded : columns (set_task k t (write_all j s l ws)) ≡ put_record k (words_of t) (put_all j s l (columns ws))
  recorded =
      let same = ap (λ c. c.sizes) columns-written ∙ (put-all-rest j s l (columns ws)).sizes in
      columns-set_task (write_all j s l ws) (subst Sized (sym same) sized) k t
      (subst (λ z. k < z.task_count) (sym same) is_task)
      ∙ ap (put_record k (words_of t)) columns-written

  pub columns-effect :
      columns (effect_words j s l k t ws)
      ≡ put_tick_count ((tick_count ws + 1) % 2 ^ 32) (put_record k (words_of t) (put_all j s l (columns ws)))
  columns-effect =
      let vs = set_task k t (write_all j s l ws) in
      let rest = put-all-rest j s l (columns ws) in
      let same = ap (λ c. c.sizes) recorded ∙ rest.sizes in
      let ticks : tick_count vs ≡ tick_count ws
      = ap (λ c. c.counts.tick_count) recorded ∙ ap (λ n. n.tick_count) rest.counts in
      columns-set_tick_count vs (subst Sized (sym same) sized) ((tick_count vs + 1) % 2 ^ 32)
      ∙ ap (λ n. put_tick_count ((n + 1) % 2 ^ 32) (columns vs)) ticks
      ∙ ap (put_tick_count ((tick_count ws + 1) % 2 ^ 32)) recorded

  pub effect-sizes : sizes_of (effect_words j s l k t ws) ≡ sizes_of ws
  effect-sizes = ap (λ c. c.sizes) columns-effect ∙ (put-all-rest j s l (columns ws)).sizes

  pub effect-dispatched : dispatched (effect_words j s l k t ws) ≡ dispatched ws
  effect-dispatched =
      ap (λ c. c.counts.dispatched) columns-effect
      ∙ ap (λ n. n.dispatched) (put-all-rest j s l (columns ws)).counts

  pub viewed-effect : viewed right (effect_words j s l k t ws) ≡ view_after j s l (viewed right ws)
  unfolding value
  viewed-effect =
      let c = columns ws in
      ap (view_of right) columns-effect
      ∙ view-columns s (put_all j s l c)
      ∙ ap (view s) (view-put-all (node_count ws) j s l c in-range)
      ∙ ap (λ m. view s (written j s l m)) (sym (view-viewed s ws))

  pub task-effect : HasWord t.value → task (effect_words j s l k t ws) ≡ update (task ws) k t
  task-effect h =
      let c = columns ws in
      task-by-columns (effect_words j s l k t ws)
      ∙ ap tasks columns-effect
      ∙ tasks-put-record k t (put_all j s l c) h
      ∙ ap (λ (r : ℕ → List ℕ). update (λ i. task_of (r i)) k t) (put-all-rest j s l c).records
      ∙ ap (λ (f : ℕ → Task). update f k t) (sym (task-by-columns ws))
