-- Which outcome a call alone has, by what it finds at its end: the rows of `alone`.
use mathlib.Core.Path.{◌≡◌, refl, ap, ◌∙◌}
use mathlib.Core.Logic.{◌≢◌}
use mathlib.Core.List.{List, [], ◌∷◌}
use Prim.Native.Nat.{ℕ, suc, ◌+◌, ◌-◌, ◌≤◌, ◌<◌}
use native.Mathlib.Omega.{arith}
use lib.ListN.{length}
use Rattle.machine.specs.Choice.{◌≟◌, ◌<?◌}
use Rattle.machine.specs.Outcomes.Answer.{Pushed, Bag, Empty, Full, Yes, No}
use Rattle.machine.specs.Sides.{Side, left, right}
use Rattle.machine.specs.Row.{put}
use Rattle.machine_capacity.specs.Alone.{
  CallOutcome,
  leaves,
  from_end,
  least,
  push_alone,
  pop_from,
  pop_alone,
  add_alone,
  remove_alone,
}
use Rattle.machine.proofs.Basics.Choices.{by-if, if_yes, if_no}
use Rattle.machine_capacity.proofs.Alone.Rows.{length-put}

-- ---- The lesser of two numbers.
pub least_first : (a b : ℕ) → a ≤ b → least a b ≡ a
least_first a b h = by-if (λ (n : ℕ). n ≡ a) (_ <? _) (λ _. refl) (λ k. omega arith)

pub least-second : (a b : ℕ) → b ≤ a → least a b ≡ b
least-second a b h = by-if (λ (n : ℕ). n ≡ b) (_ <? _) (λ k. omega arith) (λ _. refl)

-- ---- A push.
module _ (s : Side) (v g f : ℕ) (bags : List ℕ) (r y : ℕ) where
  pub push-spare : 1 < r → push_alone s v g f bags r y ≡ leaves Pushed (put s v bags) (r - 1) 0
  push-spare more = if_yes (_ <? _) _ _ (omega arith)

  pub push-takes : r ≡ 1 → f + y ≢ 0
      → push_alone s v g f bags r y ≡ leaves Pushed (put s v bags) (least (f + y) (suc g)) 0
  push-takes single enough = if_no (_ <? _) _ _ (λ h. omega arith) ∙ if_no (_ ≟ _) _ _ (λ h. omega arith)

  pub push-full : r ≡ 1 → f + y ≡ 0 → push_alone s v g f bags r y ≡ leaves Full bags r y
  push-full single none_left = if_no (_ <? _) _ _ (λ h. omega arith) ∙ if_yes (_ ≟ _) _ _ (omega arith)

-- ---- A pop.
module _ (s : Side) (bags : List ℕ) (r y : ℕ) where
  pub pop-bag : (b : ℕ) (rest : List ℕ) → from_end s bags ≡ b ∷ rest
      → pop_alone s bags r y ≡ leaves (Bag b) (from_end s rest) (suc r) 0
  pop-bag b rest e = ap (λ (l : List ℕ). pop_from s l r y) e

pub pop-empty : (s : Side) (r y : ℕ) → pop_alone s [] r y ≡ leaves Empty [] r y
pop-empty left r y = refl
pop-empty right r y = refl

-- ---- An add.
module _ (n f : ℕ) (bags : List ℕ) (r y : ℕ) where
  pub add-takes : f ≢ 0 → add_alone n f bags r y ≡ leaves Yes bags (r + least f (suc n)) 0
  add-takes enough = if_no (_ ≟ _) _ _ (λ h. omega arith)

  pub add_none : f ≡ 0 → add_alone n f bags r y ≡ leaves No bags r y
  add_none none_left = if_yes (_ ≟ _) _ _ (omega arith)

-- ---- A remove.
module _ (n : ℕ) (bags : List ℕ) (r y : ℕ) where
  pub remove-spur : y ≡ 1 → remove_alone n bags r y ≡ leaves Yes bags r y
  remove-spur e = if_yes (_ ≟ _) _ _ (omega arith)

  pub remove-few : y ≡ 0 → r < n + 2 → remove_alone n bags r y ≡ leaves Yes bags r y
  remove-few e l = if_no (_ ≟ _) _ _ (λ h. omega arith) ∙ if_yes (_ <? _) _ _ (omega arith)

  pub remove-one : y ≡ 0 → r ≡ n + 2 → remove_alone n bags r y ≡ leaves No bags r y
  remove-one e q =
      if_no (_ ≟ _) _ _ (λ h. omega arith)
      ∙ if_no (_ <? _) _ _ (λ h. omega arith)
      ∙ if_yes (_ ≟ _) _ _ (omega arith)

  pub remove-more : y ≡ 0 → n + 2 < r → remove_alone n bags r y ≡ leaves Yes bags (suc n) 0
  remove-more e l =
      if_no (_ ≟ _) _ _ (λ h. omega arith)
      ∙ if_no (_ <? _) _ _ (λ h. omega arith)
      ∙ if_no (_ ≟ _) _ _ (λ h. omega arith)

-- ---- A push and the room at its end: it is "pushed" where there is room, which is then one less, and "full" where
-- there is none.
pub data Pushing (m m' : ℕ) (o : CallOutcome) : Type 0 where
  one_more : (n : ℕ) → m ≡ suc n → m' ≡ n → o.answer ≡ Pushed → 1 ≤ o.spare → Pushing m m' o
  no_room : m ≡ 0 → m' ≡ 0 → o.answer ≡ Full → 1 ≤ o.spare → Pushing m m' o

least-some : (a b : ℕ) → 1 ≤ a → 1 ≤ b → 1 ≤ least a b
least-some a b h k = by-if (λ (n : ℕ). 1 ≤ n) (a <? b) (λ _. h) (λ _. k)

least-below : (a b : ℕ) → least a b ≤ a
least-below a b = by-if (λ (n : ℕ). n ≤ a) (a <? b) (λ _. omega arith) (λ ne. omega arith)

-- The own numbers and what is free keep their sum.
abbrev pub room_then : (f : ℕ) → (bags : List ℕ) → (r y : ℕ) → CallOutcome → ℕ
room_then f bags r y o =
    o.spare + o.spur + (f + (r + y + length bags) - (o.spare + o.spur + length o.bags)) - 1

module _ (s : Side) (v g f : ℕ) (bags : List ℕ) (r y : ℕ) (some_spare : 1 ≤ r) where
  pub push-outcome :
      Pushing (r + y + f - 1) (room_then f bags r y (push_alone s v g f bags r y)) (push_alone s v g f bags r y)
  push-outcome =
      let longer = length-put s v bags in
      by-if (λ (o : CallOutcome). Pushing (r + y + f - 1) (room_then f bags r y o) o) (1 <? r)
      (λ more. one_more (r + y + f - 2) (omega arith) (omega arith) refl (omega arith))
      (λ single.
      by-if (λ (o : CallOutcome). Pushing (r + y + f - 1) (room_then f bags r y o) o) (f + y ≟ 0)
      (λ none_left. no_room (omega arith) (omega arith) refl some_spare)
      (λ some_left.
      let a = least-some (f + y) (suc g) (omega arith) (omega arith) in
      let b = least-below (f + y) (suc g) in
      one_more (r + y + f - 2) (omega arith) (omega arith) refl a))
