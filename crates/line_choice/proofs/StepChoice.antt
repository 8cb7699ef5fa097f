-- A step number that is one of a list is told by comparing it with all but the last.
use mathlib.Core.Path.{◌≡◌, refl, sym, ap, ◌∙◌}
use mathlib.Core.Logic.{◌≢◌, inl, inr}
use mathlib.Core.Bool.{Bool, true, false, not, ◌||◌, ◌&&◌}
use mathlib.Core.List.{List, [], ◌∷◌, ◌++◌}
use Prim.Native.Nat.{ℕ, ◌≤◌}
use lib.Dec.{eqb, leb}
use borrow.Author.Tests.{eqb-true, eq-eqb, ne_eqb, le-leb, leb-true}
use types.Run.{OneOf}
use Rattle.machine.specs.Steps.{Step, step_number, step_of, is_step_in}
use Rattle.table_record.specs.declared.Task as Tasks
use Rattle.line_parts.specs.Lent.{line_of}
use Rattle.line_choice.specs.Groups.{other_lines, ReadyIn}
use Rattle.machine.proofs.Basics.Contradiction.{clash}
use Rattle.machine.proofs.Basics.Tests.{or-either, or_right, and_left, and_right}
use Rattle.machine.proofs.Words.StepLaws.{step-of-number}

module _ (n : ℕ) (st : Step) (sts : List Step) (h : is_step_in (st ∷ sts) n ≡ true) where
  not_first : n ≢ step_number st → is_step_in sts n ≡ true
  unfolding is_step_in
  not_first ne =
      elim (or-either (eqb n (step_number st)) (is_step_in sts n) h) [
        | inl e ↦ absurd (ne (eqb-true n (step_number st) e))
        | inr e ↦ e
      ]

the_last : (n : ℕ) (st : Step) → is_step_in (st ∷ []) n ≡ true → n ≡ step_number st
unfolding is_step_in
the_last n st h =
    elim (or-either (eqb n (step_number st)) false h) [
      | inl e ↦ eqb-true n (step_number st) e
      | inr e ↦ clash (cc)
    ]

-- What the last arm of a match knows: T, and that the number is none of those before.
abbrev Besides : Type 0 → List Step → ℕ → Type 0
Besides T [] n = T
Besides T (st ∷ sts) n = Besides (T × (n ≢ step_number st)) sts n

known : (T : Type 0) (sts : List Step) (n : ℕ) → Besides T sts n → T
known T [] n b = b
known T (st ∷ sts) n b = (known (T × (n ≢ step_number st)) sts n b).0

-- Of a list, it is then the last.
pub left_over :
    (T : Type 0) (sts : List Step) (st : Step) (n : ℕ)
    → Besides T sts n
    → is_step_in (sts ++ (st ∷ [])) n ≡ true
    → n ≡ step_number st
left_over T [] st n b h = the_last n st h
left_over T (s ∷ sts) st n b h =
    let ne = (known (T × (n ≢ step_number s)) sts n b).1 in
    left_over (T × (n ≢ step_number s)) sts st n b (not_first n s (sts ++ (st ∷ [])) h ne)

-- The step of a number that is a step's.
step-at : {n : ℕ} (st : Step) → n ≡ step_number st → st ≡ step_of n
step-at st e = sym (ap step_of e ∙ step-of-number st)

pub line_at :
    (st : Step) {n : ℕ} → n ≡ step_number st → (ns : List ℕ) (h : ℕ) (t : Tasks.Task) (g f : ℕ)
    → line_of st ns h t g f ≡ line_of (step_of n) ns h t g f
line_at st e ns h t g f = ap (λ (u : Step). line_of u ns h t g f) (step-at st e)

-- ---- A number that is a step's, and its group: one computed test over all the steps that it may be.
abbrev pub every : (ℕ → Bool) → List Step → Bool
every p [] = true
every p (st ∷ sts) = p (step_number st) && every p sts

pub every-at : (p : ℕ → Bool) (sts : List Step) (n : ℕ) → every p sts ≡ true → is_step_in sts n ≡ true → p n ≡ true
unfolding is_step_in
every-at p [] n h i = clash (cc)
every-at p (st ∷ sts) n h i =
    elim (or-either (eqb n (step_number st)) (is_step_in sts n) i) [
      | inl e ↦ ap p (eqb-true n (step_number st) e) ∙ and_left (p (step_number st)) (every p sts) h
      | inr e ↦ every-at p sts n (and_right (p (step_number st)) (every p sts) h) e
    ]

-- A task that is ready in a group is ready in another that has its step.
pub ready-regrouped : {group other : List Step} {ns : List ℕ} {t : Tasks.Task}
    → ReadyIn group ns t
    → is_step_in other t.step ≡ true
    → ReadyIn other ns t
ready-regrouped R i = record { ready = R.ready; in_group = i; bag_at_51 = R.bag_at_51 }

-- Between lo and hi only steps of the group stand, and steps that are left out.
abbrev between : (lo hi : ℕ) → (out group : List Step) → ℕ → Bool
between lo hi out group n = not (leb lo n && leb n hi) || (is_step_in out n || is_step_in group n)

-- A ready task whose step is between lo and hi, and not left out, is ready in the group there.
pub ready-within :
    (out group : List Step) (lo hi : ℕ) {ns : List ℕ} {t : Tasks.Task}
    → every (between lo hi out group) other_lines ≡ true
    → ReadyIn other_lines ns t
    → lo ≤ t.step
    → t.step ≤ hi
    → is_step_in out t.step ≡ false
    → ReadyIn group ns t
ready-within out group lo hi {ns} {t} all R l h f =
    ready-regrouped R (narrowed (every-at (between lo hi out group) other_lines t.step all R.in_group))
  where
    narrowed : between lo hi out group t.step ≡ true → is_step_in group t.step ≡ true
    narrowed e = rw (le-leb lo t.step l, le-leb t.step hi h, f) at e

-- ---- The single numbers of an arm.
abbrev numbers : List Step → List ℕ
numbers [] = []
numbers (st ∷ sts) = step_number st ∷ numbers sts

is_key : (keys : List Step) (n : ℕ) → OneOf (numbers keys) n → is_step_in keys n ≡ true
unfolding is_step_in
is_key [] n o = absurd o
is_key (st ∷ []) n o = rw (eq-eqb n (step_number st) o)
is_key (st ∷ s ∷ sts) n (inl e) = rw (eq-eqb n (step_number st) e)
is_key (st ∷ s ∷ sts) n (inr o) = or_right (eqb n (step_number st)) (is_step_in (s ∷ sts) n) (is_key (s ∷ sts) n o)

-- A ready task whose step is one of them is ready in the arm's group.
pub ready-keyed :
    (keys group : List Step) {from : List Step} {ns : List ℕ} {t : Tasks.Task}
    → every (is_step_in group) keys ≡ true
    → ReadyIn from ns t
    → OneOf (numbers keys) t.step
    → ReadyIn group ns t
ready-keyed keys group {from} {ns} {t} all R o =
    ready-regrouped R (every-at (is_step_in group) keys t.step all (is_key keys t.step o))

pub no_key : (keys : List Step) (n : ℕ) → (OneOf (numbers keys) n → ⊥) → is_step_in keys n ≡ false
unfolding is_step_in
no_key [] n f = refl
no_key (st ∷ []) n f = rw (ne_eqb n (step_number st) f)
no_key (st ∷ s ∷ sts) n f =
    rw (ne_eqb n (step_number st) (λ e. f (inl e))) (no_key (s ∷ sts) n (λ o. f (inr o)))

-- There is no task that is ready in a group without its step.
pub ready-nowhere : {group : List Step} {ns : List ℕ} {t : Tasks.Task} {A : Type 0}
    → ReadyIn group ns t
    → is_step_in group t.step ≡ false
    → A
ready-nowhere R f = let i = R.in_group in clash (cc)

-- The last line is 82.
pub step-bound : (n : ℕ) → is_step_in other_lines n ≡ true → n ≤ 82
step-bound n i = leb-true n 82 (every-at (λ m. leb m 82) other_lines n refl i)
