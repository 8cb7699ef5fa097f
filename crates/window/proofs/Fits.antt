-- The parts of a window, as facts about each: that they are what refusal 23 tests, and that one feed keeps them.
use Rattle.std.proofs.Common.{◌≡◌, ℕ, zero, suc, ◌+◌, ◌-◌, ◌<◌, ◌≤◌, Bool, true, false, cond, ◌||◌, eqb, ltb, List, [], ◌∷◌, length, get_or, take, drop, set, replicate, sym, refl, ap, ◌∙◌, arith, length-drop, length-set, length-take-le, get_or-drop, get_or-set_other, get_or-take, get_or-set_same, ltb-false, ltb-true, lt-ltb, eq-eqb, eqb-true, le-leb}
use native.Mathlib.Decide.{ℕ_discrete}
use lib.ListN.{length-replicate}
use Rattle.window.specs.Lost.{lost_word}
use Rattle.window.specs.Window.{
  window_of,
  width,
  fed_count,
  next_place,
  last_count,
  places,
  next_ok,
  last_ok,
  places_ok,
  is_window,
  count_follows,
  one_more,
  go_round,
  answered,
  feed,
}
use Rattle.window.specs.History.{Feed, fed_to}
use Rattle.window.proofs.Laws.Tests.{clash, both_hold}
use Rattle.window.proofs.Laws.Counting.{at-most-all, at-most-at}
use Rattle.window.proofs.Laws.Windows.{header-facts, passed-header, ones-passed, zeros-passed}

-- ---- The two choices of a feed, by cases.
pub by-more : (P : ℕ → Type 0) (W fed : ℕ) → (fed < W → P (fed + 1)) → (W ≤ fed → P fed) → P (one_more W fed)
by-more P W fed f g = go (ltb fed W) refl
  where
    go : (b : Bool) → ltb fed W ≡ b → P (cond b (fed + 1) fed)
    go true e = f (ltb-true fed W e)
    go false e = g (ltb-false fed W e)

pub by-round : (P : ℕ → Type 0) (W next : ℕ) → (next + 1 < W → P (next + 1)) → (W ≤ next + 1 → P 0)
    → P (go_round W next)
by-round P W next f g = go (ltb (next + 1) W) refl
  where
    go : (b : Bool) → ltb (next + 1) W ≡ b → P (cond b (next + 1) 0)
    go true e = f (ltb-true (next + 1) W e)
    go false e = g (ltb-false (next + 1) W e)

-- ---- The parts.
pub record Fits (W fed next last : ℕ) (ps : List ℕ) : Type 0 where
  pub most : W ≤ 4_096
  pub long : length ps ≡ W
  pub few : fed ≤ W
  pub is-place : next < W
  pub at-fed : fed < W → next ≡ fed
  pub none_last : fed ≡ 0 → last ≡ 0
  pub bits : (i : ℕ) → get_or ps i 0 ≤ 1
  pub zeros : (i : ℕ) → fed ≤ i → get_or ps i 0 ≡ 0

-- They pass the tests.
module _ {W fed next last : ℕ} {ps : List ℕ} (F : Fits W fed next last ps) where
  next-passes : next_ok W fed next ≡ true
  next-passes = go (ltb fed W) refl
    where
      go : (b : Bool) → ltb fed W ≡ b → cond b (eqb next fed) (ltb next W) ≡ true
      go true e = eq-eqb next fed (F.at-fed (ltb-true fed W e))
      go false e = lt-ltb next W F.is-place

  last-passes : last_ok fed last ≡ true
  last-passes = go (ltb 0 fed) refl
    where
      go : (b : Bool) → ltb 0 fed ≡ b → (b || eqb last 0) ≡ true
      go true e = refl
      go false e = eq-eqb last 0 (F.none_last (omega (arith, ltb-false 0 fed e)))

  places-pass : places_ok fed ps ≡ true
  places-pass =
      both_hold
      (at-most-all 1 (take fed ps) (λ i l.
      rw (get_or-take fed ps i 0 (omega (arith, l, length-take-le fed ps (omega (arith, F.few, F.long))))) (F.bits i)))
      (at-most-all 0 (drop fed ps) (λ i l.
      rw (get_or-drop fed ps i 0) (omega (arith, F.zeros (fed + i) (omega arith)))))

  pub fits-window : is_window (window_of W fed next last ps) ≡ true
  fits-window =
      both_hold
      (both_hold
      (both_hold
      (both_hold
      (both_hold (both_hold (le-leb 1 W (omega (arith, F.is-place))) (le-leb W 4_096 F.most))
      (eq-eqb (length (window_of W fed next last ps)) (W + 4) (omega (arith, F.long))))
      (le-leb fed W F.few))
      next-passes)
      last-passes)
      places-pass

  -- So a count in turn is taken.
  pub fed_then : (f : Feed) → count_follows fed last f.count ≡ true
      → fed_to (window_of W fed next last ps) f
      ≡ answered
      (window_of W (one_more W fed) (go_round W next) f.count (set ps next (lost_word f.before f.after)))
  unfolding feed
  fed_then f turn = rw (fits-window, turn)

-- What passes the tests has such parts.
pub its-parts : (ws : List ℕ) → 4 ≤ length ws
    → ws ≡ window_of (width ws) (fed_count ws) (next_place ws) (last_count ws) (places ws)
its-parts [] h = clash (omega arith)
its-parts (a ∷ []) h = clash (omega arith)
its-parts (a ∷ b ∷ []) h = clash (omega arith)
its-parts (a ∷ b ∷ c ∷ []) h = clash (omega arith)
its-parts (a ∷ b ∷ c ∷ d ∷ ps) h = refl

module _ (ws : List ℕ) (t : is_window ws ≡ true) where
  abbrev ps : List ℕ
  ps = places ws

  abbrev fed : ℕ
  fed = fed_count ws

  unfed : (i : ℕ) → fed ≤ i → get_or ps i 0 ≡ 0
  unfed i l =
      let j = i - fed in
      let same : fed + j ≡ i = omega arith in
      let zero-there = at-most-at 0 (drop fed ps) (zeros-passed ws t) j in
      ap (λ (n : ℕ). get_or ps n 0) (sym same) ∙ sym (get_or-drop fed ps j 0) ∙ omega arith

  bit : (i : ℕ) → get_or ps i 0 ≤ 1
  bit i = go (ltb i fed) refl
    where
      go : (b : Bool) → ltb i fed ≡ b → get_or ps i 0 ≤ 1
      go true e =
          rw (get_or-take fed ps i 0 (ltb-true i fed e)) at (at-most-at 1 (take fed ps) (ones-passed ws t) i)
      go false e = omega (arith, unfed i (ltb-false i fed e))

  pub window-fits : Fits (width ws) fed (next_place ws) (last_count ws) ps
  window-fits =
      let H = header-facts ws (passed-header ws t) in
      record {
        most = H.most;
        long = length-drop 4 ws ∙ omega (arith, H.long);
        few = H.few;
        is-place = H.is-place;
        at-fed = H.at-fed;
        none_last = λ e. eqb-true (last_count ws) 0 (rw e at H.last-is);
        bits = bit;
        zeros = unfed;
      }

-- ---- A fresh window, and one feed.
pub zero-at : (n i : ℕ) → ◌≡◌ {A = ℕ} (get_or (replicate n 0) i 0) 0
zero-at zero i = refl
zero-at (suc n) zero = refl
zero-at (suc n) (suc i) = zero-at n i

pub fits_fresh : (W : ℕ) → 1 ≤ W → W ≤ 4_096 → Fits W 0 0 0 (replicate W 0)
fits_fresh W least most =
    record {
      most = most;
      long = length-replicate W 0;
      few = omega arith;
      is-place = least;
      at-fed = λ l. refl;
      none_last = λ e. refl;
      bits = λ i. omega (arith, zero-at W i);
      zeros = λ i l. zero-at W i;
    }

module _ {W fed next last : ℕ} {ps : List ℕ} (F : Fits W fed next last ps) (count v : ℕ) (bit : v ≤ 1) where
  inside : next < length ps
  inside = omega (arith, F.long, F.is-place)

  bits-after : (i : ℕ) → get_or (set ps next v) i 0 ≤ 1
  bits-after i = go (ℕ_discrete i next)
    where
      go : Dec (i ≡ next) → get_or (set ps next v) i 0 ≤ 1
      go (yes e) = rw (e, get_or-set_same ps next v 0 inside) bit
      go (no n) = rw (get_or-set_other ps next i v 0 n) (F.bits i)

  zeros-after : (i : ℕ) → one_more W fed ≤ i → get_or (set ps next v) i 0 ≡ 0
  zeros-after i =
      by-more (λ n. n ≤ i → get_or (set ps next v) i 0 ≡ 0) W fed
      (λ few l. unfed (λ e. omega (arith, F.at-fed few)) (omega arith))
      (λ all l. unfed (λ e. omega (arith, F.is-place)) l)
    where
      unfed : (i ≡ next → ⊥) → fed ≤ i → get_or (set ps next v) i 0 ≡ 0
      unfed apart l = get_or-set_other ps next i v 0 apart ∙ F.zeros i l

  pub fits-fed : Fits W (one_more W fed) (go_round W next) count (set ps next v)
  fits-fed =
      record {
        most = F.most;
        long = length-set ps next v ∙ F.long;
        few = by-more (λ n. n ≤ W) W fed (λ l. omega arith) (λ l. F.few);
        is-place = by-round (λ n. n < W) W next (λ l. l) (λ l. omega (arith, F.is-place));
        at-fed =
            by-more (λ n. n < W → go_round W next ≡ n) W fed
            (λ few l.
            let same = F.at-fed few in
            by-round (λ n. n ≡ fed + 1) W next (λ m. omega arith) (λ m. clash (omega arith)))
            (λ all l. clash (omega arith));
        none_last =
            by-more (λ n. n ≡ 0 → count ≡ 0) W fed (λ few e. clash (omega arith))
            (λ all e. clash (omega (arith, F.is-place)));
        bits = bits-after;
        zeros = zeros-after;
      }
