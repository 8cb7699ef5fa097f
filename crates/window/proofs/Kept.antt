-- A window with its history, and one feed.
use Rattle.std.proofs.Common.{◌≡◌, ℕ, zero, suc, ◌+◌, ◌<◌, ◌≤◌, Bool, true, false, ltb, List, [], ◌∷◌, map, length, take, set, replicate, sym, refl, ap, ◌∙◌, subst, arith, ltb-false, ltb-true, eq-eqb, ne_eqb}
use Rattle.window.specs.Lost.{lost_word}
use Rattle.window.specs.Window.{
  window_of,
  is_window,
  fresh_words,
  count_follows,
  one_more,
  go_round,
  total,
  lost,
  refused,
  FeedOutcome,
  outcome,
  feed,
}
use Rattle.window.specs.History.{Feed, fed_to, lost_among, follows, answer_by, taken}
use Rattle.window.proofs.Laws.Tests.{clash}
use Rattle.window.proofs.Laws.Feeds.{lost-is-bit}
use Rattle.window.proofs.Fits.{Fits, by-more, fits-window, fed_then, fits_fresh, fits-fed}
use Rattle.window.proofs.Ring.{Holds, holds-none, holds_more}

-- The word of a tick fed, and the count of the newest one.
abbrev word_of : Feed → ℕ
word_of f = lost_word f.before f.after

abbrev newest : List Feed → ℕ
newest [] = 0
newest (f ∷ h) = f.count

total-lost : (n : ℕ) (h : List Feed) → total (take n (map word_of h)) ≡ lost_among (take n h)
unfolding total lost_among
total-lost zero h = refl
total-lost (suc n) [] = refl
total-lost (suc n) (f ∷ h) = ap (◌+◌ (word_of f)) (total-lost n h)

-- ---- The parts of a window whose history is h.
record Parts (W : ℕ) (h : List Feed) (fed next last : ℕ) (ps : List ℕ) : Type 0 where
  fits : Fits W fed next last ps
  holds : Holds W next ps (map word_of h)
  filling : length h < W → fed ≡ length h
  full : W ≤ length h → fed ≡ W
  last-is : last ≡ newest h

pub record Kept (W : ℕ) (h : List Feed) (ws : List ℕ) : Type 0 where
  fed : ℕ
  next : ℕ
  last : ℕ
  ps : List ℕ
  is : ws ≡ window_of W fed next last ps
  parts : Parts W h fed next last ps

pub kept-window : {W : ℕ} {h : List Feed} {ws : List ℕ} → Kept W h ws → is_window ws ≡ true
kept-window K = rw K.is (fits-window K.parts.fits)

pub kept_fresh : (W : ℕ) → 1 ≤ W → W ≤ 4_096 → Kept W [] (fresh_words W)
unfolding fresh_words
kept_fresh W least most =
    record {
      fed = 0;
      next = 0;
      last = 0;
      ps = replicate W 0;
      is = refl;
      parts =
          record {
            fits = fits_fresh W least most;
            holds = holds-none W least;
            filling = λ l. refl;
            full = λ l. clash (omega arith);
            last-is = refl;
          };
    }

-- ---- The count is in turn exactly if it follows the history.
turn_is :
    {W : ℕ} (h : List Feed) {fed next last : ℕ} {ps : List ℕ}
    → Parts W h fed next last ps
    → (f : Feed)
    → count_follows fed last f.count ≡ follows h f
turn_is [] {fed} P f = rw (eq-eqb fed 0 (P.filling (omega (arith, P.fits.is-place))))
turn_is {W} (g ∷ h) {fed} P f = rw (ne_eqb fed 0 (go (ltb (length (g ∷ h)) W) refl), P.last-is)
  where
    go : (b : Bool) → ltb (length (g ∷ h)) W ≡ b → fed ≡ 0 → ⊥
    go true e none = omega (arith, P.filling (ltb-true (length (g ∷ h)) W e))
    go false e none = omega (arith, P.full (ltb-false (length (g ∷ h)) W e), P.fits.is-place)

-- ---- One feed.
pub record Step (W : ℕ) (h : List Feed) (ws : List ℕ) (f : Feed) : Type 0 where
  pub answer-is : (fed_to ws f).answer ≡ answer_by W h f
  pub kept : Kept W (taken h f) (fed_to ws f).words

module _
    {W : ℕ}
    (h : List Feed)
    {fed next last : ℕ}
    {ps : List ℕ}
    (P : Parts W h fed next last ps)
    (f : Feed) where
  abbrev ws : List ℕ
  ws = window_of W fed next last ps

  fed-is : length (f ∷ h) < W → one_more W fed ≡ length (f ∷ h)
  fed-is l =
      by-more (λ n. n ≡ length (f ∷ h)) W fed (λ few. omega (arith, P.filling (omega arith)))
      (λ all. clash (omega (arith, P.filling (omega arith))))

  fed-all : W ≤ length (f ∷ h) → one_more W fed ≡ W
  fed-all l = by-more (λ n. n ≡ W) W fed (go (ltb (length h) W) refl) (λ all. omega (arith, P.fits.few))
    where
      go : (b : Bool) → ltb (length h) W ≡ b → fed < W → fed + 1 ≡ W
      go true e few = omega (arith, P.filling (ltb-true (length h) W e))
      go false e few = clash (omega (arith, P.full (ltb-false (length h) W e)))

  parts-after : Parts W (f ∷ h) (one_more W fed) (go_round W next) f.count (set ps next (word_of f))
  parts-after =
      record {
        fits = fits-fed P.fits f.count (word_of f) (lost-is-bit f.before f.after);
        holds = holds_more (word_of f) P.holds;
        filling = fed-is;
        full = fed-all;
        last-is = refl;
      }

  refused-then : follows h f ≡ false → fed_to ws f ≡ outcome (refused 24) ws
  unfolding feed
  refused-then e = rw (fits-window P.fits, turn_is h P f ∙ e)

  parts-step : Step W h ws f
  parts-step = go (follows h f) refl
    where
      go : (b : Bool) → follows h f ≡ b → Step W h ws f
      go true e =
          let then = fed_then P.fits f (turn_is h P f ∙ e) in
          record {
            answer-is =
                ap (λ (o : FeedOutcome). o.answer) then
                ∙ rw e (ap lost (parts-after.holds.sum ∙ total-lost W (f ∷ h)));
            kept =
                rw (then, e)
                (record {
                  fed = one_more W fed;
                  next = go_round W next;
                  last = f.count;
                  ps = set ps next (word_of f);
                  is = refl;
                  parts = parts-after;
                });
          }
      go false e =
          record {
            answer-is = ap (λ (o : FeedOutcome). o.answer) (refused-then e) ∙ rw e;
            kept =
                rw (refused-then e, e)
                (record { fed = fed; next = next; last = last; ps = ps; is = refl; parts = P });
          }

pub kept_step : {W : ℕ} {h : List Feed} {ws : List ℕ} → Kept W h ws → (f : Feed) → Step W h ws f
kept_step {W} {h} {ws} K f =
    subst (λ (vs : List ℕ). Step W h vs f) (sym K.is) (parts-step h K.parts f)

-- A tick that follows the history is taken.
pub kept_on : {W : ℕ} {h : List Feed} {ws : List ℕ} → Kept W h ws → (f : Feed) → follows h f ≡ true
    → Kept W (f ∷ h) (fed_to ws f).words
kept_on K f e = rw e at (kept_step K f).kept

pub answer-on : {W : ℕ} {h : List Feed} {ws : List ℕ} → Kept W h ws → (f : Feed) → follows h f ≡ true
    → (fed_to ws f).answer ≡ lost (lost_among (take W (f ∷ h)))
answer-on K f e = (kept_step K f).answer-is ∙ rw e
