-- A session does not depend on how its input is cut into chunks.
use mathlib.Core.Path.{◌≡◌, refl, sym, ap, ◌∙◌}
use mathlib.Core.List.{List, [], ◌∷◌, ◌++◌, append_assoc}
use Prim.Native.Nat.{ℕ}
use Rattle.program_stream.specs.Session.{Step, after, Service, take_byte, take_bytes}

module _ {S : Type 0} where
  after-after : (xs ys : List ℕ) (step : Step S) → after xs (after ys step) ≡ after (xs ++ ys) step
  after-after xs ys step =
      ap (λ (text : List ℕ). record { state = step.state; text = text }) (sym (append_assoc xs ys step.text))

  -- Bytes and then others: what the first print, and then what the others print from where the first led.
  pub take_bytes-append : (v : Service S) (xs ys : List ℕ) (s : S)
      → take_bytes v (xs ++ ys) s ≡ after (take_bytes v xs s).text (take_bytes v ys (take_bytes v xs s).state)
  unfolding take_bytes
  take_bytes-append v [] ys s = refl
  take_bytes-append v (x ∷ xs) ys s =
      let one = take_byte v x s in
      let rest = take_bytes v xs one.state in
      ap (after one.text) (take_bytes-append v xs ys one.state)
      ∙ after-after one.text rest.text (take_bytes v ys rest.state)
