-- What a window answers, said without a ring: by the ticks fed to it, the newest first.
use Rattle.std.specs.Prelude.{◌≡◌, ℕ, ◌+◌, ◌%◌, ◌^◌, ◌<◌, ◌≤◌, Bool, true, cond, List, [], ◌∷◌, reverse, take, ◌==◌}
use Rattle.window.specs.Lost.{lost_word}
use Rattle.window.specs.Window.{Answer, lost, refused, FeedOutcome, width, last_count, is_window, fresh_words, feed}

-- ---- One feed: a tick's count, and the task's step before and after.
pub record Feed : Type 0 where
  pub count : ℕ
  pub before : ℕ
  pub after : ℕ

abbrev pub fed_to : List ℕ → Feed → FeedOutcome
fed_to ws f = feed ws f.count f.before f.after

-- How many ticks of a list are lost swaps.
unfoldable pub lost_among : List Feed → ℕ
lost_among [] = 0
lost_among (f ∷ fs) = lost_word f.before f.after + lost_among fs

-- ---- The history: the ticks taken, the newest first.

-- 02: "The first count fed may be any number"; a later one is "the last one plus 1, with 0 after 4,294,967,295".
abbrev pub follows : (history : List Feed) → Feed → Bool
follows [] f = true
follows (g ∷ h) f = f.count == (g.count + 1) % 2 ^ 32

-- 02: "the lost swaps among the last W ticks fed", or 24.
abbrev pub answer_by : (W : ℕ) (history : List Feed) → Feed → Answer
answer_by W h f = cond (follows h f) (lost (lost_among (take W (f ∷ h)))) (refused 24)

-- A tick that is refused is not taken.
abbrev pub taken : (history : List Feed) → Feed → List Feed
taken h f = cond (follows h f) (f ∷ h) h

-- ---- Feeds one after another, refused ones included: what the history answers, what a window answers, and the window
-- that they leave.
unfoldable pub answers_by : (W : ℕ) (history : List Feed) → List Feed → List Answer
answers_by W h [] = []
answers_by W h (f ∷ fs) = answer_by W h f ∷ answers_by W (taken h f) fs

unfoldable pub answers_of : List ℕ → List Feed → List Answer
answers_of ws [] = []
answers_of ws (f ∷ fs) = (fed_to ws f).answer ∷ answers_of (fed_to ws f).words fs

unfoldable pub window_after : List Feed → List ℕ → List ℕ
window_after [] ws = ws
window_after (f ∷ fs) ws = window_after fs (fed_to ws f).words

-- ---- The claims, for every width and every list of feeds from a fresh window.

-- A window answers by its history. So 23 is never answered.
abbrev pub AnswersByHistory : Type 0
AnswersByHistory =
    (W : ℕ) → 1 ≤ W → W ≤ 4_096 → (fs : List Feed) → answers_of (fresh_words W) fs ≡ answers_by W [] fs

abbrev pub StaysWindow : Type 0
StaysWindow = (W : ℕ) → 1 ≤ W → W ≤ 4_096 → (fs : List Feed) → is_window (window_after fs (fresh_words W)) ≡ true

-- No feed of a list was refused.
abbrev pub NoneRefused : List Answer → Type 0
NoneRefused [] = Unit {0}
NoneRefused (a ∷ answers) = ((n : ℕ) × (a ≡ lost n)) × NoneRefused answers

-- 02's own words: where none was refused, the answer to one feed more is the number of lost swaps among the last W of
-- all.
abbrev pub LastOfList : Type 0
LastOfList =
    (W : ℕ) → 1 ≤ W → W ≤ 4_096
    → (fs : List Feed) → NoneRefused (answers_of (fresh_words W) fs)
    → (f : Feed) (n : ℕ) → (fed_to (window_after fs (fresh_words W)) f).answer ≡ lost n
    → n ≡ lost_among (take W (f ∷ reverse fs))

-- ---- For every window, also one that was not fed from a fresh one.

-- 23 refuses no window that feeds lead to, as said above, and takes no other: each that it takes, of words of 32 bits,
-- is what some feeds lead to from a fresh one, none refused.
abbrev pub EachIsFed : Type 0
EachIsFed =
    (ws : List ℕ) → is_window ws ≡ true → last_count ws < 2 ^ 32
    → (fs : List Feed)
    × NoneRefused (answers_of (fresh_words (width ws)) fs)
    × (window_after fs (fresh_words (width ws)) ≡ ws)

-- A refusal leaves every word as it was.
abbrev pub RefusalLeaves : Type 0
RefusalLeaves = (ws : List ℕ) (f : Feed) (n : ℕ) → (fed_to ws f).answer ≡ refused n → (fed_to ws f).words ≡ ws
