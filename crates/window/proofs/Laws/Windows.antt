-- What a window that passes the tests of refusal 23 is.
use Rattle.std.proofs.Common.{◌≡◌, ℕ, ◌+◌, ◌<◌, ◌≤◌, Bool, true, false, cond, ◌&&◌, eqb, ltb, leb, List, length, take, drop, set, replicate, refl, arith, ltb-false, ltb-true, eqb-true, leb-true}
use Rattle.window.specs.Window.{
  width,
  fed_count,
  next_place,
  last_count,
  places,
  sizes_ok,
  fed_ok,
  next_ok,
  last_ok,
  at_most,
  places_ok,
  header_ok,
  is_window,
  fresh_leaves,
}
use Rattle.window.proofs.Laws.Tests.{clash, and_left, and_right}
use Rattle.window.proofs.Laws.Filling.{fresh-filled}

-- ---- The sizes.
pub record Sized (l W : ℕ) : Type 0 where
  pub least : 1 ≤ W
  pub most : W ≤ 4_096
  pub long : l ≡ W + 4

pub sizes-sized : (l W : ℕ) → sizes_ok l W ≡ true → Sized l W
sizes-sized l W t =
    let ranges = and_left (leb 1 W && leb W 4_096) (eqb l (W + 4)) t in
    record {
      least = leb-true 1 W (and_left (leb 1 W) (leb W 4_096) ranges);
      most = leb-true W 4_096 (and_right (leb 1 W) (leb W 4_096) ranges);
      long = eqb-true l (W + 4) (and_right (leb 1 W && leb W 4_096) (eqb l (W + 4)) t);
    }

-- ---- A fresh window.
pub leaves-fresh : (ws : List ℕ) (W : ℕ) {zeros : List ℕ} → sizes_ok (length ws) W ≡ true
    → zeros ≡ replicate (length ws) 0
    → set zeros 0 W ≡ fresh_leaves ws W
leaves-fresh ws W t filled = rw (filled, t) (fresh-filled W (length ws) (sizes-sized (length ws) W t).long)

-- ---- The next place.
record InRing (W fed next : ℕ) : Type 0 where
  is-place : next < W
  at-fed : fed < W → next ≡ fed

in-ring : (W fed next : ℕ) → next_ok W fed next ≡ true → InRing W fed next
in-ring W fed next t = go (ltb fed W) refl t
  where
    go : (b : Bool) → ltb fed W ≡ b → cond b (eqb next fed) (ltb next W) ≡ true → InRing W fed next
    go true e t =
        let same = eqb-true next fed t in
        record { is-place = omega (arith, ltb-true fed W e); at-fed = λ _. same }
    go false e t =
        record { is-place = ltb-true next W t; at-fed = λ l. clash (omega (arith, ltb-false fed W e)) }

-- ---- A window whose header has passed: its sizes fit, no more than W places are fed, and the next place is one.
pub record Header (ws : List ℕ) : Type 0 where
  pub least : 1 ≤ width ws
  pub most : width ws ≤ 4_096
  pub long : length ws ≡ width ws + 4
  pub few : fed_count ws ≤ width ws
  pub is-place : next_place ws < width ws
  pub at-fed : fed_count ws < width ws → next_place ws ≡ fed_count ws
  pub last-is : last_ok (fed_count ws) (last_count ws) ≡ true

pub header-facts : (ws : List ℕ) → header_ok ws ≡ true → Header ws
header-facts ws t =
    let sizes = sizes_ok (length ws) (width ws) in
    let fed = fed_ok (width ws) (fed_count ws) in
    let next = next_ok (width ws) (fed_count ws) (next_place ws) in
    let last = last_ok (fed_count ws) (last_count ws) in
    let three = and_left (sizes && fed && next) last t in
    let two = and_left (sizes && fed) next three in
    let S = sizes-sized (length ws) (width ws) (and_left sizes fed two) in
    let R = in-ring (width ws) (fed_count ws) (next_place ws) (and_right (sizes && fed) next three) in
    record {
      least = S.least;
      most = S.most;
      long = S.long;
      few = leb-true (fed_count ws) (width ws) (and_right sizes fed two);
      is-place = R.is-place;
      at-fed = R.at-fed;
      last-is = and_right (sizes && fed && next) last t;
    }

-- ---- A window.
module _ (ws : List ℕ) (t : is_window ws ≡ true) where
  abbrev ones : Bool
  ones = at_most 1 (take (fed_count ws) (places ws))

  abbrev zeros : Bool
  zeros = at_most 0 (drop (fed_count ws) (places ws))

  pub passed-header : header_ok ws ≡ true
  passed-header = and_left (header_ok ws) (places_ok (fed_count ws) (places ws)) t

  passed-places : places_ok (fed_count ws) (places ws) ≡ true
  passed-places = and_right (header_ok ws) (places_ok (fed_count ws) (places ws)) t

  pub ones-passed : ones ≡ true
  ones-passed = and_left ones zeros passed-places

  pub zeros-passed : zeros ≡ true
  zeros-passed = and_right ones zeros passed-places
