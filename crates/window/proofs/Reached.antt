-- Every window that passes the tests is what some feeds lead to from a fresh one.
use Rattle.std.proofs.Common.{◌≡◌, ℕ, zero, suc, ◌+◌, ◌-◌, ◌%◌, ◌^◌, ◌<◌, ◌≤◌, Bool, true, false, eqb, ltb, ◌≢◌, List, [], ◌∷◌, ◌++◌, get_or, set, replicate, sym, refl, ap, ◌∙◌, subst, arith, length-set, get_or-set_other, get_or-set_same, ext_get_or, set-set, ltb-false, ltb-true, eq-eqb}
use mathlib.Core.Bool.{or-true}
use native.Mathlib.Decide.{ℕ_discrete}
use lib.ListN.{length-replicate}
use lib.Seq.{set-get_or}
use Rattle.window.specs.Lost.{lost_word}
use Rattle.window.specs.Window.{
  window_of,
  width,
  fed_count,
  next_place,
  last_count,
  places,
  fresh_words,
  count_follows,
  one_more,
  go_round,
  FeedOutcome,
}
use Rattle.window.specs.History.{Feed, fed_to, answers_of, window_after, NoneRefused, EachIsFed}
use Rattle.window.proofs.Laws.Tests.{clash}
use Rattle.window.proofs.Laws.Windows.{header-facts, passed-header}
use Rattle.window.proofs.Fits.{Fits, by-more, by-round, fed_then, its-parts, window-fits, zero-at}

-- ---- One feed more.
abbrev Led : (W : ℕ) → List ℕ → Type 0
Led W ws =
    (fs : List Feed) × NoneRefused (answers_of (fresh_words W) fs) × (window_after fs (fresh_words W) ≡ ws)

after_both : (fs gs : List Feed) (ws : List ℕ) → window_after (fs ++ gs) ws ≡ window_after gs (window_after fs ws)
unfolding window_after
after_both [] gs ws = refl
after_both (f ∷ fs) gs ws = after_both fs gs (fed_to ws f).words

none-refused-in-both : (fs gs : List Feed) (ws : List ℕ)
    → NoneRefused (answers_of ws fs)
    → NoneRefused (answers_of (window_after fs ws) gs)
    → NoneRefused (answers_of ws (fs ++ gs))
unfolding answers_of window_after
none-refused-in-both [] gs ws first then = then
none-refused-in-both (f ∷ fs) gs ws first then =
    (first.0, none-refused-in-both fs gs (fed_to ws f).words first.1 then)

-- A feed whose word is a bit.
abbrev bit_feed : (count bit : ℕ) → Feed
bit_feed count zero = record { count = count; before = 0; after = 0 }
bit_feed count (suc n) = record { count = count; before = 5; after = 8 }

bit-fed : (count bit : ℕ) → bit ≤ 1 → lost_word (bit_feed count bit).before (bit_feed count bit).after ≡ bit
bit-fed count zero h = refl
bit-fed count (suc n) h = omega arith

same_count : (count bit : ℕ) → (bit_feed count bit).count ≡ count
same_count count zero = refl
same_count count (suc n) = refl

-- A window is led to where feeds lead to the one before it.
module _ {W fed next last : ℕ} {ps : List ℕ} (F : Fits W fed next last ps) where
  led_on : (count : ℕ) {fed' next' : ℕ} {ps' : List ℕ}
      → Led W (window_of W fed next last ps)
      → count_follows fed last count ≡ true
      → one_more W fed ≡ fed'
      → go_round W next ≡ next'
      → get_or ps' next 0 ≤ 1
      → set ps next (get_or ps' next 0) ≡ ps'
      → Led W (window_of W fed' next' count ps')
  unfolding answers_of window_after
  led_on count {fed'} {next'} {ps'} L turn more round bit same =
      let f = bit_feed count (get_or ps' next 0) in
      let follows : count_follows fed last f.count ≡ true = rw (same_count count (get_or ps' next 0)) turn in
      let then = fed_then F f follows in
      let word = bit-fed count (get_or ps' next 0) bit in
      let left : (fed_to (window_of W fed next last ps) f).words ≡ window_of W fed' next' count ps'
      = ap (λ (o : FeedOutcome). o.words) then
      ∙ rw (more, round, same_count count (get_or ps' next 0), word, same) in
      let taken = ap (λ (o : FeedOutcome). o.answer) then in (
        L.0 ++ (f ∷ []),
        none-refused-in-both L.0 (f ∷ []) (fresh_words W) L.1 (rw L.2 ((_, taken), tt)),
        after_both L.0 (f ∷ []) (fresh_words W) ∙ rw L.2 left,
      )

-- ---- The window before, by cases.

-- The count before another one, and the last count before a feed; 0 where none was fed.
abbrev count_before : ℕ → ℕ
count_before count = (count + 4_294_967_295) % 2 ^ 32

abbrev last_before : (fed count : ℕ) → ℕ
last_before zero count = 0
last_before (suc n) count = count_before count

count-follows : (fed count : ℕ) → count < 2 ^ 32 → count_follows fed (count_before count) count ≡ true
count-follows fed count small =
    let next : count ≡ (count_before count + 1) % 2 ^ 32 = omega arith in
    rw (eq-eqb count ((count_before count + 1) % 2 ^ 32) next) (or-true (eqb fed 0))

last-follows : (fed count : ℕ) → count < 2 ^ 32 → count_follows fed (last_before fed count) count ≡ true
last-follows zero count small = refl
last-follows (suc n) count small = count-follows (suc n) count small

last-small : (fed count : ℕ) → last_before fed count < 2 ^ 32
last-small zero count = omega arith
last-small (suc n) count = omega arith

last_none : (fed count : ℕ) → fed ≡ 0 → last_before fed count ≡ 0
last_none zero count e = refl
last_none (suc n) count e = clash (omega arith)

-- Places with one less fed, the last.
module _ {W last : ℕ} (fed next : ℕ) {ps : List ℕ} (F : Fits W (suc fed) next last ps) where
  abbrev ps₀ : List ℕ
  ps₀ = set ps fed 0

  one-less-at : (P : ℕ → Type 0) (i : ℕ) → (i ≡ fed → P 0) → (i ≢ fed → P (get_or ps i 0)) → P (get_or ps₀ i 0)
  one-less-at P i here there = go (ℕ_discrete i fed)
    where
      go : Dec (i ≡ fed) → P (get_or ps₀ i 0)
      go (yes e) = rw (e, get_or-set_same ps fed 0 0 (omega (arith, F.few, F.long))) (here e)
      go (no n) = rw (get_or-set_other ps fed i 0 0 n) (there n)

  one_less : (count : ℕ) → (fed ≡ 0 → count ≡ 0) → Fits W fed fed count ps₀
  one_less count none =
      record {
        most = F.most;
        long = length-set ps fed 0 ∙ F.long;
        few = omega (arith, F.few);
        is-place = omega (arith, F.few);
        at-fed = λ l. refl;
        none_last = none;
        bits = λ i. one-less-at (λ n. n ≤ 1) i (λ e. omega arith) (λ n. F.bits i);
        zeros = λ i l. one-less-at (λ n. n ≡ 0) i (λ e. refl) (λ n. F.zeros i (omega arith));
      }

  put_back : set ps₀ fed (get_or ps fed 0) ≡ ps
  put_back = set-set ps fed 0 (get_or ps fed 0) ∙ set-get_or ps fed 0

-- While places are being filled: none is fed, or one less was.
none-fed : {W last : ℕ} {ps : List ℕ} → Fits W 0 0 last ps → fresh_words W ≡ window_of W 0 0 last ps
unfolding fresh_words
none-fed {W} {last} {ps} F =
    let zeros : replicate W 0 ≡ ps
    = ext_get_or 0 (replicate W 0) ps (length-replicate W 0 ∙ sym F.long)
    (λ i l. zero-at W i ∙ sym (F.zeros i (omega arith))) in
    ap (window_of W 0 0 0) zeros ∙ ap (λ (n : ℕ). window_of W 0 0 n ps) (sym (F.none_last refl))

led-filling : {W last : ℕ} (fed : ℕ) {ps : List ℕ} → fed < W → last < 2 ^ 32 → Fits W fed fed last ps
    → Led W (window_of W fed fed last ps)
unfolding answers_of window_after
led-filling zero l small F = ([], tt, none-fed F)
led-filling {W} {last} (suc fed) l small F =
    let F₀ = one_less fed (suc fed) F (last_before fed last) (last_none fed last) in
    led_on F₀ last (led-filling {last = last_before fed last} fed (omega arith) (last-small fed last) F₀)
    (last-follows fed last small)
    (by-more (λ n. n ≡ suc fed) W fed (λ m. omega arith) (λ m. clash (omega arith)))
    (by-round (λ n. n ≡ suc fed) W fed (λ m. omega arith) (λ m. clash (omega arith)))
    (F.bits fed)
    (put_back fed (suc fed) F)

-- All are fed: the next place is the first, and one less was fed; or it is a later one, and so were all before.
led-full : {W last : ℕ} (next : ℕ) {ps : List ℕ} → last < 2 ^ 32 → Fits W W next last ps
    → Led W (window_of W W next last ps)
led-full {W} {last} zero {ps} small F =
    let n = W - 1 in
    let all : W ≡ suc n = omega (arith, F.is-place) in
    let F₁ : Fits W (suc n) 0 last ps = subst (λ (m : ℕ). Fits W m 0 last ps) all F in
    let F₀ = one_less n 0 F₁ (last_before n last) (last_none n last) in
    led_on F₀ last (led-filling n (omega arith) (last-small n last) F₀) (last-follows n last small)
    (by-more (λ m. m ≡ W) W n (λ l. omega arith) (λ l. clash (omega arith)))
    (by-round (λ m. m ≡ 0) W n (λ l. clash (omega arith)) (λ l. refl))
    (F.bits n)
    (put_back n 0 F₁)
led-full {W} {last} (suc next) {ps} small F =
    let F₀ : Fits W W next (count_before last) ps
    = record {
      most = F.most;
      long = F.long;
      few = F.few;
      is-place = omega (arith, F.is-place);
      at-fed = λ l. clash (omega arith);
      none_last = λ e. clash (omega (arith, F.is-place));
      bits = F.bits;
      zeros = F.zeros;
    } in
    led_on F₀ last (led-full {last = count_before last} next (omega arith) F₀) (count-follows W last small)
    (by-more (λ m. m ≡ W) W W (λ l. clash (omega arith)) (λ l. refl))
    (by-round (λ m. m ≡ suc next) W next (λ l. omega arith) (λ l. clash (omega (arith, F.is-place))))
    (F.bits next)
    (set-get_or ps next 0)

-- ---- The claim.
pub each-is-fed : EachIsFed
each-is-fed ws t small =
    subst (Led (width ws)) (sym (its-parts ws (omega (arith, (header-facts ws (passed-header ws t)).long))))
    (go (ltb (fed_count ws) (width ws)) refl)
  where
    Here : (fed next : ℕ) → Type 0
    Here fed next = Led (width ws) (window_of (width ws) fed next (last_count ws) (places ws))

    F : Fits (width ws) (fed_count ws) (next_place ws) (last_count ws) (places ws)
    F = window-fits ws t

    go : (b : Bool) → ltb (fed_count ws) (width ws) ≡ b → Here (fed_count ws) (next_place ws)
    go true e =
        let l = ltb-true (fed_count ws) (width ws) e in
        let same = F.at-fed l in
        subst (λ (n : ℕ). Here (fed_count ws) n) (sym same)
        (led-filling (fed_count ws) l small
        (subst (λ (n : ℕ). Fits (width ws) (fed_count ws) n (last_count ws) (places ws)) same F))
    go false e =
        let all : fed_count ws ≡ width ws = omega (arith, F.few, ltb-false (fed_count ws) (width ws) e) in
        subst (λ (n : ℕ). Here n (next_place ws)) (sym all)
        (led-full (next_place ws) small
        (subst (λ (n : ℕ). Fits (width ws) n (next_place ws) (last_count ws) (places ws)) all F))
