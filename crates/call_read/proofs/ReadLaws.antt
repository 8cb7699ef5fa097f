-- What a read writes, bag by bag, and what it answers, by what the walk answers.
use mathlib.Core.Path.{◌≡◌, sym, ap, ◌∙◌}
use mathlib.Core.Bool.{true}
use mathlib.Core.List.{List, [], ◌∷◌, ◌++◌, append_assoc}
use mathlib.Core.Option.{Option, some, none, map}
use Prim.Native.Nat.{ℕ, suc, ◌+◌, ◌*◌, ◌≤◌, ◌-◌, ◌<◌}
use native.Mathlib.Omega.{arith}
use lib.ListN.{length, take, drop, take-append-drop}
use lib.Seq.{sets, drop-drop}
use borrow.Author.Tests.{le-leb}
use Rattle.tag.specs.Tags.{tag_words, all_tag_words}
use Rattle.std.specs.Prelude.{Ok}
use Rattle.machine.specs.declared.Stored.{Stored}
use Rattle.machine.specs.Values.{bag_ok}
use Rattle.machine.specs.Table.{node_count, value_words}
use Rattle.machine.specs.Calls.{is_among, read_into}
use Rattle.machine.specs.Results.{read_of}
use Rattle.machine.proofs.Basics.Contradiction.{clash}
use Rattle.table_layout.proofs.Laws.Fronts.{front-grows, rest-stays}
use Rattle.lane_walk.specs.declared.Walk.{Walk}
use Rattle.lane_walk.specs.Walks.{ahead, count_of, walk_of}
use Rattle.lane_walk.proofs.Laws.Ahead.{lane-ahead, BagAhead, bag-ahead}
use Rattle.call_read.specs.Laid.{laid}

-- ---- The loop that writes: i bags are written, two words each, and those ahead come after them.
abbrev pub written : ℕ → Option (List ℕ) → List ℕ → List ℕ
written i l out = take (2 * i) out ++ laid l (drop (2 * i) out)

drop-next : (n i : ℕ) (out : List ℕ) → drop (2 * n) (drop (2 * i + 2) out) ≡ drop (2 * suc n) (drop (2 * i) out)
drop-next n i out =
    let e : 2 * i + 2 + 2 * n ≡ 2 * i + 2 * suc n = omega arith in
    drop-drop (2 * n) (2 * i + 2) out ∙ ap (λ (j : ℕ). drop j out) e ∙ sym (drop-drop (2 * suc n) (2 * i) out)

pub one_written : (i w k : ℕ) (l : Option (List ℕ)) (out : List ℕ) → count_of l ≡ some k → 2 * i + 2 ≤ length out
    → written (i + 1) l (sets out (2 * i) (tag_words w)) ≡ written i (map (◌∷◌ w) l) out
unfolding all_tag_words
one_written i w k none out h b = clash (cc)
one_written i w k (some bags) out h b =
    let n = length bags in
    let s : 2 * (i + 1) ≡ 2 * i + 2 = omega arith in
    rw (s, front-grows out (tag_words w) (2 * i) b, rest-stays out (tag_words w) (2 * i) b, drop-next n i out)
    (append_assoc (take (2 * i) out) (tag_words w) (all_tag_words bags ++ drop (2 * suc n) (drop (2 * i) out)))

pub write-ends : (i : ℕ) (l : Option (List ℕ)) (out : List ℕ) → count_of l ≡ some 0 → written i l out ≡ out
unfolding all_tag_words
write-ends i none out h = clash (cc)
write-ends i (some []) out h = take-append-drop (2 * i) out
write-ends i (some (b ∷ bags)) out h = clash (cc)

-- ---- While there are bags to write, one is ahead.
module _ (ws : List ℕ) (n i x : ℕ) (more : i < n) (left : count_of (ahead ws x) ≡ some (n - i)) where
  pub here : BagAhead ws (node_count ws) x (n - (i + 1))
  here =
      let e : n - i ≡ suc (n - (i + 1)) = omega arith in
      bag-ahead ws x (n - (i + 1)) (node_count ws) (left ∙ ap some e)

  pub node-here : x < node_count ws
  node-here = here.is_node

  pub tag-here : {u : Stored} → u ≡ value_words ws x → bag_ok u ≡ true
  tag-here read = rw read here.is-tag

pub ruleset turns = (node-here, tag-here, write-ends)

-- ---- What the walk says of its count, and what the read answers by it.
module _ (w : ℕ) where
  pub bags-counted : (l : Option (List ℕ)) {r : Walk} → Ok r ≡ walk_of w l → count_of l ≡ some r.bags
  bags-counted none e = clash (cc)
  bags-counted (some bags) {r} e =
      let said : r ≡ record { bags = length bags; found = is_among w bags } = cc in
      ap (λ (q : Walk). some q.bags) (sym said)

  pub read_all : (out : List ℕ) (l : Option (List ℕ)) {r : Walk} → Ok r ≡ walk_of w l → 2 * r.bags ≤ length out
      → read_of (Ok r.bags) (laid l out) ≡ read_into l out
  unfolding read_into
  read_all out none e room = clash (cc)
  read_all out (some bags) {r} e room =
      let said : r ≡ record { bags = length bags; found = is_among w bags } = cc in
      let n : r.bags ≡ length bags = ap (λ (q : Walk). q.bags) said in
      rw (n, le-leb (2 * length bags) (length out) (omega arith), read_into)

pub ruleset whole = (bags-counted, read_all, lane-ahead)
