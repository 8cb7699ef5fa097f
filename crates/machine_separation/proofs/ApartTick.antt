-- A tick leaves the lanes of other tasks as they are, and its own leads to one node more at most, the one taken; so
-- lanes stay apart.
use mathlib.Core.Path.{◌≡◌, refl, sym, ap, ◌∙◌, subst}
use mathlib.Core.Logic.{◌≢◌, ◌⊎◌, inl, inr}
use mathlib.Core.Bool.{Bool, true, false}
use mathlib.Core.List.{List}
use Prim.Native.Nat.{ℕ}
use Rattle.machine.specs.Choice.{◌≟◌}
use Rattle.machine.specs.Sides.{Side, left, right, opposite}
use Rattle.machine.specs.Values.{Value}
use Rattle.machine.specs.Operations.{idle}
use Rattle.machine.specs.Tasks.{Task, no_node, Register, register}
use Rattle.machine.specs.Registers.{holding, holds}
use Rattle.machine.specs.Lines.{Effect}
use Rattle.machine.specs.Row.{Note}
use Rattle.machine.proofs.Basics.Contradiction.{refute}
use Rattle.machine.proofs.Basics.Updates.{update, update_other, update-wrote, wrote-all}
use Rattle.machine.proofs.Words.Memories.{View, written, view}
use Rattle.machine.proofs.Linearizability.Model.Classes.{Class}
use Rattle.machine.proofs.Linearizability.Model.Invariant.{Invariant, Roots, Kept, goes_on, has_answered}
use Rattle.machine.proofs.Linearizability.Lines.InvariantTick.{effect_in, invariant-tick}
use Rattle.machine_separation.proofs.Within.{
  OrNone,
  LeadsInto,
  Within,
  one-register,
  all-registers,
  SameAt,
  other-hats,
  writes-untouched,
  own-hats,
  out-into,
  inn-into,
}
use Rattle.machine_separation.proofs.LinesWithin.{With, Confined, stays, takes, lines-within}
use Rattle.machine_separation.proofs.Leads.{
  link_of,
  seen-out,
  seen-inn,
  by-links,
  Leads,
  from_hat,
  from_register,
  along,
  Apart,
  HasLane,
  has-led-to,
  HoldsSame,
  Stays,
  was-led,
}

-- Hats and values are the same from both sides.
same-hats-seen : (s : Side) (m : View) → (view s m).hats ≡ m.hats
same-hats-seen left m = refl
same-hats-seen right m = refl

same-values-seen : (s : Side) (m : View) → (view s m).val ≡ m.val
same-values-seen left m = refl
same-values-seen right m = refl

module _ {L : ℕ} {held : ℕ → Bool} {M : View} {ts : ℕ → Task} {class : ℕ → Class} {bags : ℕ → List ℕ}
    (I : Invariant L M ts class bags) (R : Roots L held M ts) (A : Apart L M ts)
    (k g f : ℕ) (busy : (ts k).operation ≢ idle) (free-f : f ≢ no_node → held f ≡ false) where
  abbrev ℓ : ℕ
  ℓ = (ts k).lane

  abbrev s : Side
  s = (ts k).side

  abbrev e : Effect
  e = effect_in M ts k g f

  -- The view before and after, from the task's side.
  abbrev m : View
  m = view s M

  abbrev m' : View
  m' = written ℓ s e.writes m

  abbrev M' : View
  M' = view s m'

  abbrev ts' : ℕ → Task
  ts' = update ts k e.task

  -- What the task's lane leads to.
  abbrev Own : ℕ → Type 0
  Own = Leads L M ts ℓ

  -- ---- What the task's line stays within.
  led-is-held : (l x : ℕ) → Leads L M ts l x → held x ≡ true
  led-is-held l x c =
      has-led-to
      (record {
        has-hats = λ z h. R.closed.hats-held l z h;
        has-registers = λ j r _ h n. R.registers j r h n;
        closed = closed;
      }) c
    where
      closed : (z : Side) (y : ℕ) → held y ≡ true → link_of M z y ≢ no_node → held (link_of M z y) ≡ true
      closed left y h n = R.closed.inn-closed y h n
      closed right y h n = R.closed.out-closed y h n

  own-hat : (z : Side) → Own (m.hats ℓ z)
  own-hat z = rw (same-hats-seen s M) (from_hat z (I.own_lane k))

  confined : Confined Own f ℓ s m e
  confined =
      lines-within Own ℓ s (opposite s) m (ts k) g f (own-hat s)
      (seen-out (λ link. LeadsInto Own Own link) s M (λ z x c n. along z c n))
      (seen-inn (λ link. LeadsInto Own Own link) s M (λ z x c n. along z c n))
      (all-registers Own (ts k) (holding (ts k).step) (λ r h n. from_register k r refl h n))

  kept : Kept (ts k) e
  kept = (invariant-tick I R k g f busy free-f).kept

  -- A node is the one taken.
  abbrev Found : ℕ → Type 0
  Found x = (x ≡ f) × (f ≢ no_node)

  -- Nothing leads to it.
  not_found : (n x : ℕ) → Leads L M ts n x → Found x → ⊥
  not_found n x c found =
      let is_held_lem = led-is-held n x c in
      let same = found.0 in
      let not-held = free-f found.1 in
      refute (cc)

  -- The other lanes stay as they are, and the task's own leads to what it led to and perhaps to the node taken.
  pub record TickLeaves : Type 0 where
    pub others_same : (n : ℕ) → n ≢ ℓ → Stays L M ts M' ts' n
    pub own-or-found : (x : ℕ) → Leads L M' ts' ℓ x → Own x ⊎ Found x

  -- ---- What follows where the line stays within Q: what the own lane leads to, perhaps with the node taken, whose
  -- links then lead into Q.
  module _ (Q : ℕ → Type 0)
      (old : (x : ℕ) → Own x → Q x)
      (new : (x : ℕ) → Q x → Own x ⊎ Found x)
      (W : Within Q e)
      (links : (x : ℕ) → Q x → Own x ⊎ (OrNone Q (m'.out x) × OrNone Q (m'.inn x))) where
    -- No other lane leads there.
    not-other : (n x : ℕ) → n ≢ ℓ → Leads L M ts n x → Q x → ⊥
    not-other n x ne c q =
        elim (new x q) [
          | inl own ↦ ne (A n ℓ x c own)
          | inr found ↦ not_found n x c found
        ]

    same_at : (n x : ℕ) → n ≢ ℓ → Leads L M ts n x → SameAt m m' x
    same_at n x ne c = writes-untouched ℓ s Q e.writes m W.writes-in x (not-other n x ne c)

    out-closed : LeadsInto Q Q m'.out
    out-closed x q =
        elim (links x q) [
          | inl own ↦
              out-into ℓ s Q Own e.writes m W.writes-in
              (seen-out (λ link. LeadsInto Q Own link) s M (λ z y c n. old _ (along z c n))) x own
          | inr both ↦ both.0
        ]

    inn-closed : LeadsInto Q Q m'.inn
    inn-closed x q =
        elim (links x q) [
          | inl own ↦
              inn-into ℓ s Q Own e.writes m W.writes-in
              (seen-inn (λ link. LeadsInto Q Own link) s M (λ z y c n. old _ (along z c n))) x own
          | inr both ↦ both.1
        ]

    has-own-lane : HasLane L M' ts' ℓ Q
    has-own-lane =
        record {
          has-hats =
              λ z _.
              rw (same-hats-seen s m')
              (own-hats ℓ s Q e.writes m W.writes-in (λ y. old _ (own-hat y)) z);
          has-registers =
              λ j r.
              wrote-all
              (λ i t. t.lane ≡ ℓ → holds t.step r ≡ true → register t r ≢ no_node → Q (register t r))
              (update-wrote ts k e.task)
              (λ _ h n. one-register Q e.task (holding e.task.step) W.registers-in r h n)
              (λ i _ q h n. old _ (from_register i r q h n)) j;
          closed = by-links (λ _ link. LeadsInto Q Q link) s M m' out-closed inn-closed;
        }

    within-own : (x : ℕ) → Leads L M' ts' ℓ x → Own x ⊎ Found x
    within-own x c = new x (has-led-to has-own-lane c)

    others-stay : (n : ℕ) → n ≢ ℓ → Stays L M ts M' ts' n
    others-stay n ne =
        record {
          same_hats =
              λ z.
              ap (λ (h : ℕ → Side → ℕ). h n z) (same-hats-seen s m')
              ∙ ap (λ (h : Side → ℕ). h z) (other-hats ℓ s e.writes m n ne)
              ∙ ap (λ (h : ℕ → Side → ℕ). h n z) (same-hats-seen s M);
          same_links =
              λ x c.
              let S = same_at n x ne c in
              by-links (λ (b a : ℕ → ℕ). a x ≡ b x) s M m' S.same_out S.same-inn;
          same_values =
              λ x c.
              ap (λ (v : ℕ → Value). v x) (same-values-seen s m')
              ∙ (same_at n x ne c).same-val
              ∙ ap (λ (v : ℕ → Value). v x) (same-values-seen s M);
          still-held =
              λ j r q _ _.
              update_other ts k e.task j (λ i. ne (sym q ∙ ap (λ (y : ℕ). (ts y).lane) i));
          was-held =
              wrote-all (λ i t. HoldsSame n t (ts i)) (update-wrote ts k e.task)
              (λ r q h _. absurd (own-elsewhere kept r q h)) (λ i _ r _ _ _. refl);
        }
      where
        -- Afterwards the task holds nothing for another lane: its call is on its lane, or has ended.
        own-elsewhere : Kept (ts k) e → (r : Register) → e.task.lane ≡ n → holds e.task.step r ≡ true → ⊥
        own-elsewhere (goes_on _ same) r q h = ne (sym q ∙ ap (λ (x : Note). x.lane) same)
        own-elsewhere (has_answered _ ended) r q h =
            let none-held : holds e.task.step r ≡ false = ap (λ (t : Task). holds t.step r) ended in
            refute (cc)

    leaves : TickLeaves
    leaves = record { others_same = others-stay; own-or-found = within-own }

  -- ---- The tick.
  pub tick-leaves : TickLeaves
  tick-leaves = go confined
    where
      go : Confined Own f ℓ s m e → TickLeaves
      go (stays W) = leaves Own (λ x c. c) (λ x c. inl c) W (λ x c. inl c)
      go (takes found W out-f inn-f) = leaves (With f Own) (λ x c. inl c) new W links
        where
          new : (x : ℕ) → With f Own x → Own x ⊎ Found x
          new x (inl c) = inl c
          new x (inr q) = inr (q, found)

          links : (x : ℕ) → With f Own x
              → Own x ⊎ (OrNone (With f Own) (m'.out x) × OrNone (With f Own) (m'.inn x))
          links x (inl c) = inl c
          links x (inr q) =
              inr
              (subst (λ (y : ℕ). OrNone (With f Own) (m'.out y) × OrNone (With f Own) (m'.inn y)) (sym q)
              (out-f, inn-f))

  pub apart-after-tick : Apart L M' ts'
  apart-after-tick l n x a b = go (l ≟ ℓ) (n ≟ ℓ)
    where
      T : TickLeaves
      T = tick-leaves

      -- What another lane leads to now, it led to before, and the own lane neither led to it nor takes it.
      other-and-own : (i : ℕ) → i ≢ ℓ → Leads L M' ts' i x → Leads L M' ts' ℓ x → ⊥
      other-and-own i ne c d =
          let before = was-led (T.others_same i ne) c in
          elim (T.own-or-found x d) [
            | inl own ↦ ne (A i ℓ x before own)
            | inr found ↦ not_found i x before found
          ]

      go : Dec (l ≡ ℓ) → Dec (n ≡ ℓ) → l ≡ n
      go (yes p) (yes q) = p ∙ sym q
      go (yes p) (no q) = absurd (other-and-own n q b (subst (λ (i : ℕ). Leads L M' ts' i x) p a))
      go (no p) (yes q) = absurd (other-and-own l p a (subst (λ (i : ℕ). Leads L M' ts' i x) q b))
      go (no p) (no q) = A l n x (was-led (T.others_same l p) a) (was-led (T.others_same n q) b)
