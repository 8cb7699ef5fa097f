-- The places of a window, those fed and the others, each part tested.
use Rattle.std.proofs.Common.{◌≡◌, ℕ, ◌-◌, ◌≤◌, Bool, true, ◌&&◌, List, length, take, drop, sym, ap, ◌∙◌, arith, length-drop, take-append-drop, length-take-le, take_all}
use Rattle.std.proofs.Common.{Some, refl}
use Rattle.std.specs.Bool.{then_some}
use Rattle.window.proofs.Laws.Tests.{same-then, passed-then}
use Rattle.window.specs.Window.{fed_count, places, at_most, total, header_ok, is_window}
use Rattle.window.proofs.Laws.Counting.{zero-total, total-append, total-few}
use Rattle.window.proofs.Laws.Windows.{header-facts, passed-header, ones-passed, zeros-passed}

module _ (ws : List ℕ) (passed : header_ok ws ≡ true) where
  abbrev fed : ℕ
  fed = fed_count ws

  fed-short : length (take fed (places ws)) ≤ 4_096
  fed-short =
      let H = header-facts ws passed in
      let l : length (drop 4 ws) ≡ length ws - 4 = length-drop 4 ws in
      omega (arith, length-take-le fed (places ws) (omega (arith, H.long, H.few)), H.few, H.most)

  -- What the two tests say of the window.
  pub scan-ok : {p q : List ℕ} {b c : Bool}
      → p ≡ take fed (places ws)
      → q ≡ drop fed (places ws)
      → b ≡ at_most 1 p
      → c ≡ at_most 0 q
      → (b && c) ≡ is_window ws
  scan-ok first rest b-is c-is = rw (passed, b-is, c-is, first, rest)

-- ---- The sum over a window.
module _ (ws : List ℕ) (t : is_window ws ≡ true) where
  fed-total : total (places ws) ≡ total (take (fed_count ws) (places ws))
  fed-total =
      let fed = fed_count ws in
      let whole = total-append (take fed (places ws)) (drop fed (places ws)) in
      rw (take-append-drop fed (places ws)) at whole
      ∙ omega (arith, zero-total (drop fed (places ws)) (zeros-passed ws t))

  -- It is what was counted of the places fed.
  pub scan-lost : {p : List ℕ} {n : ℕ} → p ≡ take (fed_count ws) (places ws) → (at_most 1 p ≡ true → n ≡ total p)
      → n ≡ total (places ws)
  scan-lost first n-is = n-is (ap (at_most 1) first ∙ ones-passed ws t) ∙ ap total first ∙ sym fed-total

  pub few-lost : total (places ws) ≤ 4_096
  few-lost =
      let fed = take (fed_count ws) (places ws) in
      omega (arith, fed-total, total-few fed (ones-passed ws t), fed-short ws (passed-header ws t))

-- The places, as the part that is lent.
pub lent-places : (ws : List ℕ) → take (length ws - 4) (drop 4 ws) ≡ places ws
lent-places ws = take_all (length ws - 4) (drop 4 ws) (omega (arith, length-drop 4 ws))

-- ---- What is counted of the places fed, where the others are 0.
pub scan-is : (ws : List ℕ) (passed : header_ok ws ≡ true) {first others : List ℕ} {counted : ℕ}
    → first ≡ take (fed_count ws) (places ws)
    → others ≡ drop (fed_count ws) (places ws)
    → Some counted ≡ then_some (at_most 1 first) (total first)
    → then_some (at_most 0 others) counted ≡ then_some (is_window ws) (total (places ws))
scan-is ws passed {first} {others} first-is others-is found =
    let p = passed-then (at_most 1 first) found in
    same-then (at_most 0 others) (is_window ws) (scan-ok ws passed first-is others-is (sym p.0) refl)
    (λ t. scan-lost ws t first-is (λ _. p.1))
