-- What the tasks and the lanes say of a tag, one by one, and that they refuse a push whatever tests come after.
use mathlib.Core.Path.{◌≡◌, refl, sym, ap, ◌∙◌}
use mathlib.Core.Bool.{Bool, true, false, not, ◌||◌, ◌&&◌}
use mathlib.Core.List.{List, [], ◌∷◌, ◌++◌}
use mathlib.Core.Option.{Option, some, none, map, bind}
use Prim.Native.Nat.{ℕ, zero, suc, ◌+◌, ◌-◌, ◌≤◌, ◌<◌}
use native.Mathlib.Omega.{arith}
use lib.Dec.{eqb}
use lib.ListN.{length}
use Rattle.std.specs.Prelude.{Ok, Err}
use Rattle.machine.specs.declared.refusal.Refusal.{Refusal}
use Rattle.machine.specs.declared.refusal.Refusal.TheVariants.{NoSlot}
use Rattle.machine.specs.Operations.{Operation, idle, push, pop, add, remove}
use Rattle.machine.specs.Table.{task, lane_count, task_count}
use Rattle.machine.specs.Calls.{
  unless,
  lane,
  lanes_below,
  all_lanes,
  is_push,
  is_among,
  is_begun,
  seen_refusal,
  twice_refusal,
}
use Rattle.machine.proofs.Basics.Contradiction.{clash}
use Rattle.lane_walk.specs.declared.Walk.{Walk}
use Rattle.lane_walk.specs.Walks.{walk_of}
use Rattle.call_begin.specs.OwnRecord.{is_push_of}
use Rattle.table_layout.proofs.Laws.Views.{task-read}
use Rattle.call_begin.specs.Seen.{standing}

-- ---- The tasks: a push among the first of them is one of all.
begun-more : (ws : List ℕ) (n m more : ℕ) → is_begun ws m n ≡ true → is_begun ws (m + more) n ≡ true
unfolding is_begun
begun-more ws n m zero e = let here : m + 0 ≡ m = omega arith in rw here e
begun-more ws n m (suc more) e =
    let here : m + suc more ≡ suc (m + more) = omega arith in
    let t = task ws (m + more) in
    rw (here, begun-more ws n m more e) (go (is_push t.operation) (eqb n t.argument))
  where
    go : (a b : Bool) → (a && b || true) ≡ true
    go true true = refl
    go true false = refl
    go false b = refl

pub begun-here : (ws : List ℕ) (n j : ℕ) → is_push_of n (task ws j) ≡ true → is_begun ws (j + 1) n ≡ true
unfolding is_begun
begun-here ws n j h = let here : j + 1 ≡ suc j = omega arith in rw (here, h)

pub begun-of-all : (ws : List ℕ) (n m : ℕ) → m ≤ task_count ws → is_begun ws m n ≡ true
    → is_begun ws (task_count ws) n ≡ true
begun-of-all ws n m h e =
    let all : m + (task_count ws - m) ≡ task_count ws = omega arith in
    ap (λ (j : ℕ). is_begun ws j n) (sym all) ∙ begun-more ws n m (task_count ws - m) e

-- ---- The lanes.
module _ (ws : List ℕ) (n : ℕ) where
  among-both : (xs ys : List ℕ) → is_among n (xs ++ ys) ≡ is_among n xs || is_among n ys
  among-both [] ys = refl
  among-both (x ∷ xs) ys = go (eqb n x) (is_among n xs) (is_among n ys) (among-both xs ys)
    where
      go : (b d e : Bool) {c : Bool} → c ≡ d || e → b || c ≡ (b || d) || e
      go true d e h = refl
      go false d e h = h

  pub none-walked : standing n (lanes_below ws 0) ≡ standing n (some [])
  unfolding lanes_below
  none-walked = refl

  -- One more of them is walked.
  pub one_more : (l : ℕ) {found : Bool} {w : Walk} → Ok found ≡ standing n (lanes_below ws l)
      → Ok w ≡ walk_of n (lane ws l) → Ok (found || w.found) ≡ standing n (lanes_below ws (l + 1))
  unfolding lanes_below bind
  one_more l {found} {w} e f =
      let next : l + 1 ≡ suc l = omega arith in rw next (go (lanes_below ws l) (lane ws l) e f)
    where
      go : (xs ys : Option (List ℕ)) → Ok found ≡ standing n xs → Ok w ≡ walk_of n ys
          → Ok (found || w.found) ≡ standing n (bind xs (λ before. map (◌++◌ before) ys))
      go none ys e f = clash (cc)
      go (some xs) none e f = clash (cc)
      go (some xs) (some ys) e f =
          let a : found ≡ is_among n xs = cc in
          let b : w ≡ record { bags = length ys; found = is_among n ys } = cc in
          rw (a, b, among-both xs ys)

  -- One of them has no end: so has none of all.
  no-end-below : (l more : ℕ) → lane ws l ≡ none → lanes_below ws (suc (l + more)) ≡ none
  unfolding lanes_below bind
  no-end-below l zero e =
      let here : l + 0 ≡ l = omega arith in
      rw (here, e) (go (lanes_below ws l))
    where
      go : (xs : Option (List ℕ)) → bind xs (λ before. map (◌++◌ before) none) ≡ none
      go none = refl
      go (some xs) = refl
  no-end-below l (suc more) e =
      let here : l + suc more ≡ suc (l + more) = omega arith in
      rw (here, no-end-below l more e)

  pub no-end : (l : ℕ) {r : Refusal} → l < lane_count ws → Err r ≡ walk_of n (lane ws l)
      → Err r ≡ standing n (all_lanes ws)
  no-end l {r} h e = go (lane ws l) refl e
    where
      all : suc (l + (lane_count ws - suc l)) ≡ lane_count ws
      all = omega arith

      go : (xs : Option (List ℕ)) → lane ws l ≡ xs → Err r ≡ walk_of n xs → Err r ≡ standing n (all_lanes ws)
      go none f e =
          let none_of_all : none ≡ all_lanes ws =
          sym (no-end-below l (lane_count ws - suc l) f) ∙ ap (lanes_below ws) all in
          let is : r ≡ NoSlot = cc in
          rw is (ap (standing n) none_of_all)
      go (some bags) f e = clash (cc)

-- What a walk of the lanes rests on, and a task read in the table.
pub ruleset walks = (none-walked, one_more, no-end)

pub ruleset records = (task-read)

-- ---- What refuses a push refuses it whatever tests come after.
pub twice-refused : (ws : List ℕ) (n : ℕ) (op : Operation) (others : Option ℕ) {m : ℕ}
    → some m ≡ twice_refusal ws op n none → some m ≡ twice_refusal ws op n others
twice-refused ws n idle others e = clash (cc)
twice-refused ws n push others {m} e = go (all_lanes ws) e
  where
    at : (b : Bool) → some m ≡ unless b 16 none → some m ≡ unless b 16 others
    at true e = clash (cc)
    at false e = e

    go : (l : Option (List ℕ)) → some m ≡ seen_refusal ws n l none → some m ≡ seen_refusal ws n l others
    go none e = e
    go (some bags) e = at (not (is_among n bags || is_begun ws (task_count ws) n)) e
twice-refused ws n pop others e = clash (cc)
twice-refused ws n add others e = clash (cc)
twice-refused ws n remove others e = clash (cc)
