-- A window fed from a fresh one answers by its history.
use Rattle.std.proofs.Common.{◌≡◌, ℕ, Bool, true, false, cond, List, [], ◌∷◌, take, sym, refl, ap, ◌∙◌}
use mathlib.Core.List.{reverse_aux}
use Rattle.window.specs.Window.{
  is_window,
  fresh_words,
  in_turn,
  fed_words,
  Answer,
  lost,
  refused,
  outcome,
  answered,
  feed,
}
use Rattle.window.specs.Lost.{lost_word}
use Rattle.window.specs.History.{
  Feed,
  fed_to,
  lost_among,
  follows,
  answer_by,
  taken,
  answers_by,
  answers_of,
  window_after,
  AnswersByHistory,
  StaysWindow,
  NoneRefused,
  LastOfList,
  RefusalLeaves,
}
use Rattle.window.proofs.Laws.Tests.{clash}
use Rattle.window.proofs.Kept.{Kept, kept-window, kept_fresh, kept_step}

-- ---- Feeds one after another.
answers-kept :
    (W : ℕ) (h : List Feed) (ws : List ℕ) (fs : List Feed)
    → Kept W h ws
    → answers_of ws fs ≡ answers_by W h fs
unfolding answers_of answers_by
answers-kept W h ws [] K = refl
answers-kept W h ws (f ∷ fs) K =
    let S = kept_step K f in
    ap (λ (a : Answer). a ∷ answers_of (fed_to ws f).words fs) S.answer-is
    ∙ ap (◌∷◌ (answer_by W h f)) (answers-kept W (taken h f) (fed_to ws f).words fs S.kept)

window-kept :
    (W : ℕ) (h : List Feed) (ws : List ℕ) (fs : List Feed)
    → Kept W h ws
    → is_window (window_after fs ws) ≡ true
unfolding window_after
window-kept W h ws [] K = kept-window K
window-kept W h ws (f ∷ fs) K = window-kept W (taken h f) (fed_to ws f).words fs (kept_step K f).kept

-- Only a tick that is taken is answered with a number.
answered-taken :
    (W : ℕ) (h : List Feed) (f : Feed) {n : ℕ}
    → answer_by W h f ≡ lost n
    → (taken h f ≡ f ∷ h) × (n ≡ lost_among (take W (f ∷ h)))
answered-taken W h f {n} = go (follows h f)
  where
    go :
        (b : Bool)
        → cond b (lost (lost_among (take W (f ∷ h)))) (refused 24) ≡ lost n
        → (cond b (f ∷ h) h ≡ f ∷ h) × (n ≡ lost_among (take W (f ∷ h)))
    go true e = (refl, cc)
    go false e = clash (cc)

history-kept :
    (W : ℕ) (h : List Feed) (ws : List ℕ) (fs : List Feed)
    → Kept W h ws
    → NoneRefused (answers_of ws fs)
    → Kept W (reverse_aux fs h) (window_after fs ws)
unfolding answers_of window_after
history-kept W h ws [] K t = K
history-kept W h ws (f ∷ fs) K t =
    let S = kept_step K f in
    let was-taken = (answered-taken W h f (sym S.answer-is ∙ t.0.1)).0 in
    let next : Kept W (f ∷ h) (fed_to ws f).words = rw was-taken at S.kept in
    history-kept W (f ∷ h) (fed_to ws f).words fs next t.1

-- ---- The claims.
pub answers-by-history : AnswersByHistory
answers-by-history W least most fs = answers-kept W [] (fresh_words W) fs (kept_fresh W least most)

pub stays-window : StaysWindow
stays-window W least most fs = window-kept W [] (fresh_words W) fs (kept_fresh W least most)

pub last-of-list : LastOfList
last-of-list W least most fs t f n e =
    let K = history-kept W [] (fresh_words W) fs (kept_fresh W least most) t in
    (answered-taken W (reverse_aux fs []) f (sym (kept_step K f).answer-is ∙ e)).1

-- ---- A refusal, of any words.
pub refusal-leaves : RefusalLeaves
unfolding feed
refusal-leaves ws f n =
    go (is_window ws) (in_turn ws f.count) (fed_words ws f.count (lost_word f.before f.after))
  where
    go :
        (b c : Bool) (vs : List ℕ)
        → (let o = cond b (cond c (answered vs) (outcome (refused 24) ws)) (outcome (refused 23) ws) in
        o.answer ≡ refused n → o.words ≡ ws)
    go true true vs e = clash (cc)
    go true false vs e = refl
    go false c vs e = refl
