-- What the lines use and set is what the columns of Registers.antt say: two records that agree in all but registers
-- that the line does not use have the same effect, and go one of the line's ways.
use mathlib.Core.Path.{◌≡◌, refl, sym, subst}
use mathlib.Core.Logic.{inl, inr}
use mathlib.Core.List.{List, [], ◌∷◌}
use Prim.Native.Nat.{ℕ, suc}
use Rattle.machine.specs.Outcomes.Answer.{Answer, Going}
use Rattle.machine.specs.Choice.{◌≟◌, if?◌then◌else◌}
use Rattle.machine.specs.Sides.{Side}
use Rattle.machine.specs.Values.{Value, never, bag, N, X, Y, ◌≟ᵛ◌}
use Rattle.machine.specs.Operations.{Operation, idle, push, pop, add, remove}
use Rattle.machine.specs.Steps.{
  Step,
  rest,
  line2,
  line3,
  line5,
  line8,
  line15,
  line17,
  line18,
  line24,
  line25,
  line28,
  line31,
  line39,
  line40,
  line42,
  line48,
  line51,
  line54,
  line56,
  line58,
  line60,
  line62,
  line64,
  line67,
  line68,
  line69,
  line70,
  line72,
  line74,
  line77,
  line78,
  line79,
  line81,
  line82,
}
use Rattle.machine.specs.Tasks.{
  Task,
  no_node,
  in_a,
  in_b,
  in_c,
  in_d,
  with_a,
  with_b,
  with_c,
  with_d,
  with_counted,
  with_value,
}
use Rattle.machine.specs.Registers.{among}
use Rattle.machine_registers.specs.Paths.{uses, Way, ◌setting◌, to, ways, OneOf}
use Rattle.machine.specs.Lines.{
  Memory,
  Write,
  Effect,
  next,
  answers,
  writing,
  through,
  dcas,
  back_of,
  spliced,
  after_read,
  act,
}
use Rattle.machine_registers.specs.LinesUse.{
  mixed,
  AgreeOn,
  goes_on,
  has_answered,
  turned_back,
  SameEffect,
  UsesEnough,
}
use Rattle.machine.proofs.Basics.Choices.{by-if}

-- ---- How a line ends.
module _ {st : Step} {t u : Task} where
  goes : (w : Way) {l : List Write} {t' u' : Task}
      → OneOf w (ways st)
      → t'.step ≡ w.next
      → t' ≡ mixed (among w.sets) t' t
      → u' ≡ mixed (among w.sets) t' u
      → SameEffect st t u (record { writes = l; task = t'; answer = Going })
      (record { writes = l; task = u'; answer = Going })
  goes w o n a b = record { same_writes = refl; same_answer = refl; after = goes_on w o refl n a b }

  answered : {l : List Write} {a : Answer} → SameEffect st t u (writing l (answers a)) (writing l (answers a))
  answered = record { same_writes = refl; same_answer = refl; after = has_answered refl refl }

  -- ---- How a line branches.
  by-either : {P : Type 0} {e e' f f' : Effect} (d : Dec P) → SameEffect st t u e f → SameEffect st t u e' f'
      → SameEffect st t u (if? d then e else e') (if? d then f else f')
  by-either (yes p) a b = a
  by-either (no p) a b = b

  by-through : {e f : Effect} (x : ℕ) → SameEffect st t u e f → SameEffect st t u (through x t e) (through x u f)
  by-through x a =
      by-either (_ ≟ _) (record { same_writes = refl; same_answer = refl; after = turned_back refl refl }) a

  by-dcas : {P Q : Type 0} {e e' f f' : Effect} (d : Dec P) (c : Dec Q) → SameEffect st t u e f
      → SameEffect st t u e' f'
      → SameEffect st t u (dcas d c e e') (dcas d c f f')
  unfolding dcas
  by-dcas (yes p) (yes q) a b = a
  by-dcas (yes p) (no q) a b = b
  by-dcas (no p) c a b = b

by-back : (P : Step → Type 0) (op : Operation) {x : ℕ} (d : Dec (x ≡ no_node)) → P line2 → P line15 → P (back_of op d)
by-back P push (yes h) a b = a
by-back P push (no h) a b = b
by-back P idle d a b = b
by-back P pop d a b = b
by-back P add d a b = b
by-back P remove d a b = b

by_read : (P : Step → Type 0) (o : Side) (v : Value) → P line51 → P line48 → P line39 → P (after_read o v)
by_read P o never a b c = c
by_read P o (bag n) a b c = a
by_read P o (N z) a b c = by-if P (_ ≟ᵛ _) (λ _. b) (λ _. c)
by_read P o (X z) a b c = by-if P (_ ≟ᵛ _) (λ _. b) (λ _. c)
by_read P o (Y z) a b c = c

-- ---- The lines.
module _ (s o : Side) (m : Memory) (t u : Task) (g x : ℕ) where
  -- The record t, with the registers that the step does not use taken from u.
  abbrev beside : Step → Task
  beside st = mixed (among (uses st)) t u

  -- Both records go on to the step n, changed alike and with the same writes.
  abbrev Next : (st : Step) → (Task → Task) → List Write → Step → Type 0
  Next st F l n = SameEffect st t (beside st) (writing l (next (F t) n)) (writing l (next (F (beside st)) n))

  by-splice : (op : Operation) (l : List Write)
      → SameEffect line25 t (beside line25) (spliced op l t) (spliced op l (beside line25))
  by-splice push l = goes (line2 setting (in_d ∷ [])) (inr (inl refl)) refl refl refl
  by-splice add l = answered
  by-splice idle l = answered
  by-splice pop l = answered
  by-splice remove l = answered

  line_same : (st : Step) → SameEffect st t (beside st) (act st s o m t g x) (act st s o m (beside st) g x)
  unfolding act
  line_same rest = goes (to rest) (inl refl) refl refl refl
  line_same line2 = goes (line3 setting (in_a ∷ [])) (inl refl) refl refl refl
  line_same line3 =
      by-through _ (let b = m.out t.A in
      by-if (Next line3 (λ y. with_b y b) []) (_ ≟ _)
      (λ _. goes (line8 setting (in_b ∷ [])) (inl refl) refl refl refl)
      (λ _. goes (line5 setting (in_b ∷ [])) (inr (inl refl)) refl refl refl))
  line_same line5 =
      by-through _ (by-through _ (by-dcas _ _ answered (goes (to line8) (inl refl) refl refl refl)))
  line_same line8 =
      by-through _ (by-if (Next line8 (λ y. y) []) (_ ≟ᵛ _)
      (λ _. goes (to line28) (inl refl) refl refl refl)
      (λ _. goes (to line67) (inr (inl refl)) refl refl refl))
  line_same line67 = goes (line68 setting (in_a ∷ [])) (inl refl) refl refl refl
  line_same line68 =
      by-through _ (by-if (Next line68 (λ y. y) []) (_ ≟ᵛ _) (λ _. goes (to line69) (inl refl) refl refl refl)
      (λ _. by-back (Next line68 (λ y. y) []) t.operation (t.D ≟ no_node)
      (goes (to line2) (inr (inl refl)) refl refl refl)
      (goes (to line15) (inr (inr (inl refl))) refl refl refl)))
  line_same line69 = by-through _ (goes (line70 setting (in_b ∷ [])) (inl refl) refl refl refl)
  line_same line70 =
      by-through _ (let c = m.out t.B in
      by-if (Next line70 (λ y. with_c y c) []) (_ ≟ _)
      (λ _. by-back (Next line70 (λ y. with_c y c) []) t.operation (t.D ≟ no_node)
      (goes (line2 setting (in_c ∷ [])) (inl refl) refl refl refl)
      (goes (line15 setting (in_c ∷ [])) (inr (inl refl)) refl refl refl))
      (λ _. goes (line72 setting (in_c ∷ [])) (inr (inr (inl refl))) refl refl refl))
  line_same line72 =
      by-through _ (by-back (Next line72 (λ y. y) _)
      t.operation (t.D ≟ no_node)
      (goes (to line2) (inl refl) refl refl refl)
      (goes (to line15) (inr (inl refl)) refl refl refl))
  line_same line28 =
      by-either (_ ≟ _) answered
      (by-if (Next line28 (λ y. with_counted (with_d y x) 0) _) (_ ≟ _)
      (λ _. goes (line15 setting (in_d ∷ [])) (inl refl) refl refl refl)
      (λ _. goes (line31 setting (in_d ∷ [])) (inr (inl refl)) refl refl refl))
  line_same line31 =
      by-through _ (by-either (_ ≟ _) (goes (to line15) (inl refl) refl refl refl)
      (by-if (Next line31 (λ y. with_counted (with_d y x) (suc t.counted)) _) (_ ≟ _)
      (λ _. goes (line15 setting (in_d ∷ [])) (inr (inl refl)) refl refl refl)
      (λ _. goes (line31 setting (in_d ∷ [])) (inr (inr (inl refl))) refl refl refl)))
  line_same line15 = goes (line17 setting (in_a ∷ [])) (inl refl) refl refl refl
  line_same line17 =
      by-through _ (let v = m.val t.A in
      by-if (Next line17 (λ y. with_value y v) []) (_ ≟ᵛ _) (λ _. goes (to line18) (inl refl) refl refl refl)
      (λ _. by-if (Next line17 (λ y. with_value y v) []) (_ ≟ᵛ _)
      (λ _. goes (to line67) (inr (inl refl)) refl refl refl)
      (λ _. by-if (Next line17 (λ y. with_value y v) []) (_ ≟ᵛ _)
      (λ _. goes (to line24) (inr (inr (inl refl))) refl refl refl)
      (λ _. goes (to line15) (inr (inr (inr (inl refl)))) refl refl refl))))
  line_same line18 =
      by-through _ (let a = m.out t.A in
      by-if (Next line18 (λ y. with_a y a) []) (_ ≟ _)
      (λ _. goes (line15 setting (in_a ∷ [])) (inl refl) refl refl refl)
      (λ _. goes (line17 setting (in_a ∷ [])) (inr (inl refl)) refl refl refl))
  line_same line24 =
      by-through _ (by-through _ (goes (line25 setting (in_b ∷ [])) (inl refl) refl refl refl))
  line_same line25 =
      by-through _ (by-dcas _ _
      (by-splice t.operation _)
      (goes (to line15) (inl refl) refl refl refl))
  line_same line39 = goes (line40 setting (in_a ∷ [])) (inl refl) refl refl refl
  line_same line40 =
      by-through _ (let b = m.inn t.A in
      by-if (Next line40 (λ y. with_b y b) []) (_ ≟ _)
      (λ _. goes (line39 setting (in_b ∷ [])) (inl refl) refl refl refl)
      (λ _. goes (line42 setting (in_b ∷ [])) (inr (inl refl)) refl refl refl))
  line_same line42 =
      by-through _ (let v = m.val t.B in
      by_read (Next line42 (λ y. with_value y v) []) o v
      (goes (to line51) (inl refl) refl refl refl)
      (goes (to line48) (inr (inl refl)) refl refl refl)
      (goes (to line39) (inr (inr (inl refl))) refl refl refl))
  line_same line48 =
      by-through _ (by-dcas _ _ answered
      (goes (to line39) (inl refl) refl refl refl))
  line_same line51 =
      by-through _ (by-dcas _ _ answered
      (goes (to line39) (inl refl) refl refl refl))
  line_same line54 =
      by-if (Next line54 (λ y. with_a y m.hat) []) (_ ≟ _)
      (λ _. goes (line60 setting (in_a ∷ [])) (inl refl) refl refl refl)
      (λ _. goes (line56 setting (in_a ∷ [])) (inr (inl refl)) refl refl refl)
  line_same line56 =
      by-through _ (by-either (_ ≟ᵛ _) answered (goes (to line58) (inl refl) refl refl refl))
  line_same line58 =
      by-through _ (let a = m.out t.A in
      by-either (_ ≟ _) answered
      (by-if (Next line58 (λ y. with_counted (with_a y a) (suc t.counted)) []) (_ ≟ _)
      (λ _. goes (line60 setting (in_a ∷ [])) (inl refl) refl refl refl)
      (λ _. goes (line56 setting (in_a ∷ [])) (inr (inl refl)) refl refl refl)))
  line_same line60 =
      by-through _ (by-either (_ ≟ _) answered
      (goes (line62 setting (in_b ∷ [])) (inl refl) refl refl refl))
  line_same line62 =
      by-through _ (by-through _ (by-dcas _ _ (goes (to line64) (inl refl) refl refl refl) answered))
  line_same line64 = by-through _ (goes (to line74) (inl refl) refl refl refl)
  line_same line74 =
      by-through _ (let b = m.out t.B in
      by-if (Next line74 (λ y. with_b (with_a y t.B) b) []) (_ ≟ _)
      (λ _. goes (line82 setting (in_a ∷ in_b ∷ [])) (inl refl) refl refl refl)
      (λ _. goes (line77 setting (in_a ∷ in_b ∷ [])) (inr (inl refl)) refl refl refl))
  line_same line77 = by-through _ (goes (to line78) (inl refl) refl refl refl)
  line_same line78 =
      by-through _ (by-either (_ ≟ᵛ _)
      (goes (to line79) (inr (inl refl)) refl refl refl)
      (goes (to line77) (inl refl) refl refl refl))
  line_same line79 = by-through _ (goes (line81 setting (in_a ∷ [])) (inl refl) refl refl refl)
  line_same line81 =
      by-through _ (let b = m.out t.A in
      by-if (Next line81 (λ y. with_b y b) []) (_ ≟ _)
      (λ _. goes (line82 setting (in_b ∷ [])) (inl refl) refl refl refl)
      (λ _. by-if (Next line81 (λ y. with_b y b) []) (_ ≟ᵛ _)
      (λ _. goes (line82 setting (in_b ∷ [])) (inl refl) refl refl refl)
      (λ _. goes (line77 setting (in_b ∷ [])) (inr (inl refl)) refl refl refl)))
  line_same line82 = by-through _ answered

  -- Whatever stands in registers that a line does not use, its effect is the same.
  lines-use : (st : Step) → AgreeOn (among (uses st)) t u
      → SameEffect st t u (act st s o m t g x) (act st s o m u g x)
  lines-use st e =
      subst (λ (v : Task). SameEffect st t v (act st s o m t g x) (act st s o m v g x)) (sym e) (line_same st)

pub uses-enough : UsesEnough
uses-enough st s o m t u g f agree = lines-use s o m t u g f st agree
