-- The branches of the lines: what was found, the writes, the record and the step or the answer afterwards. A line takes
-- one of its branches, so a fact about every line is a function by cases on branches and does not look at `act`.
use mathlib.Core.Path.{◌≡◌, refl}
use mathlib.Core.Logic.{◌≢◌, ◌⊎◌, inl, inr}
use mathlib.Core.List.{List, [], ◌∷◌}
use Prim.Native.Nat.{ℕ, suc}
use Rattle.machine.specs.Outcomes.Answer.{Answer, Going, Pushed, Bag, Empty, Full, Yes, No}
use Rattle.machine.specs.Choice.{◌≟◌, if?◌then◌else◌}
use Rattle.machine.specs.Sides.{Side}
use Rattle.machine.specs.Values.{Value, never, bag, N, X, Y, ◌≟ᵛ◌}
use Rattle.machine.specs.Operations.{Operation, idle, push, pop, add, remove}
use Rattle.machine.specs.Steps.{Step, rest}
use Rattle.machine.specs.Steps as Steps
use Rattle.machine.specs.Tasks.{Task, no_node, further, with_a, with_b, with_c, with_d, with_counted, with_value}
use Rattle.machine.specs.Lines.{Memory, Write, out≔, inn≔, val≔, hat≔, Effect, next, answers, writing, refused}
use Rattle.machine.specs.Lines.{through, back_of, back, none_free, spliced, after_read, bag_of, act}
use Rattle.machine.proofs.Basics.Contradiction.{refute, clash}
use Rattle.machine.proofs.Basics.Choices.{by-if}
use Rattle.machine.proofs.Lines.Connectives.{ok-if, ok-through, ok-swap}

-- ---- Steps chosen by the operation, and by the value read.
pub data Back (t : Task) : Step → Type 0 where
  to-2 : t.operation ≡ push → t.D ≡ no_node → Back t Steps.line2
  to-15 : (t.operation ≡ push → t.D ≢ no_node) → Back t Steps.line15

pub data Read (o : Side) (v : Value) : Step → Type 0 where
  to-51 : (b : ℕ) → v ≡ bag b → Read o v Steps.line51
  to-48 : (v ≡ N o) ⊎ (v ≡ X o) → Read o v Steps.line48
  to-39 : ((b : ℕ) → v ≢ bag b) → v ≢ N o → v ≢ X o → Read o v Steps.line39

back_is : (t : Task) (op : Operation) → t.operation ≡ op → (d : Dec (t.D ≡ no_node)) → Back t (back_of op d)
back_is t push e (yes h) = to-2 e h
back_is t push e (no h) = to-15 (λ _. h)
back_is t idle e d = to-15 (λ q. clash (cc))
back_is t pop e d = to-15 (λ q. clash (cc))
back_is t add e d = to-15 (λ q. clash (cc))
back_is t remove e d = to-15 (λ q. clash (cc))

read_is : (o : Side) (v : Value) → Read o v (after_read o v)
read_is o never = to-39 (λ b e. refute (cc)) (λ e. refute (cc)) (λ e. refute (cc))
read_is o (bag n) = to-51 n refl
read_is o (N z) =
    by-if (Read o (N z)) (_ ≟ᵛ _) (λ e. to-48 (inl e)) (λ n. to-39 (λ b e. refute (cc)) n (λ e. refute (cc)))
read_is o (X z) =
    by-if (Read o (X z)) (_ ≟ᵛ _) (λ e. to-48 (inr e)) (λ n. to-39 (λ b e. refute (cc)) (λ e. refute (cc)) n)
read_is o (Y z) = to-39 (λ b e. refute (cc)) (λ e. refute (cc)) (λ e. refute (cc))

-- The record with which a task goes on is that of the same call.
abbrev pub onward : (t u : Task) → Step → Task
onward t u st = further t st u.counted u.value u.A u.B u.C u.D

-- ---- The branches of a task t on side s whose opposite is o, that sees m, has the goal g and would take f.

module _ (s o : Side) (m : Memory) (t : Task) (g f : ℕ) where
  -- A register through which the line goes is none.
  pub data Stuck : Step → Type 0 where
    A-3 : t.A ≡ no_node → Stuck Steps.line3
    A-5 : t.A ≡ no_node → Stuck Steps.line5
    B-5 : t.B ≡ no_node → Stuck Steps.line5
    A-8 : t.A ≡ no_node → Stuck Steps.line8
    A-68 : t.A ≡ no_node → Stuck Steps.line68
    A-69 : t.A ≡ no_node → Stuck Steps.line69
    B-70 : t.B ≡ no_node → Stuck Steps.line70
    C-72 : t.C ≡ no_node → Stuck Steps.line72
    D-31 : t.D ≡ no_node → Stuck Steps.line31
    A-17 : t.A ≡ no_node → Stuck Steps.line17
    A-18 : t.A ≡ no_node → Stuck Steps.line18
    A-24 : t.A ≡ no_node → Stuck Steps.line24
    D-24 : t.D ≡ no_node → Stuck Steps.line24
    A-25 : t.A ≡ no_node → Stuck Steps.line25
    A-40 : t.A ≡ no_node → Stuck Steps.line40
    B-42 : t.B ≡ no_node → Stuck Steps.line42
    B-48 : t.B ≡ no_node → Stuck Steps.line48
    B-51 : t.B ≡ no_node → Stuck Steps.line51
    A-56 : t.A ≡ no_node → Stuck Steps.line56
    A-58 : t.A ≡ no_node → Stuck Steps.line58
    A-60 : t.A ≡ no_node → Stuck Steps.line60
    A-62 : t.A ≡ no_node → Stuck Steps.line62
    B-62 : t.B ≡ no_node → Stuck Steps.line62
    A-64 : t.A ≡ no_node → Stuck Steps.line64
    B-74 : t.B ≡ no_node → Stuck Steps.line74
    B-77 : t.B ≡ no_node → Stuck Steps.line77
    B-78 : t.B ≡ no_node → Stuck Steps.line78
    A-79 : t.A ≡ no_node → Stuck Steps.line79
    A-81 : t.A ≡ no_node → Stuck Steps.line81
    A-82 : t.A ≡ no_node → Stuck Steps.line82

  -- The line writes nothing, and the task goes on with another record to another step.
  pub data Moves : Step → Task → Step → Type 0 where
    rests : Moves rest t rest
    hat-2 : Moves Steps.line2 (with_a t m.hat) Steps.line3
    none-3 : t.A ≢ no_node → m.out t.A ≡ no_node → Moves Steps.line3 (with_b t (m.out t.A)) Steps.line8
    some-3 : t.A ≢ no_node → m.out t.A ≢ no_node → Moves Steps.line3 (with_b t (m.out t.A)) Steps.line5
    lost-5 : ¬ ((m.hat ≡ t.A) × (m.val t.A ≡ N s)) → Moves Steps.line5 t Steps.line8
    end-8 : t.A ≢ no_node → m.val t.A ≡ X s → Moves Steps.line8 t Steps.line28
    else-8 : t.A ≢ no_node → m.val t.A ≢ X s → Moves Steps.line8 t Steps.line67
    hat-67 : Moves Steps.line67 (with_a t m.hat) Steps.line68
    spur-68 : t.A ≢ no_node → m.val t.A ≡ Y s → Moves Steps.line68 t Steps.line69
    else-68 : {st : Step} → t.A ≢ no_node → m.val t.A ≢ Y s → Back t st → Moves Steps.line68 t st
    link-69 : t.A ≢ no_node → Moves Steps.line69 (with_b t (m.inn t.A)) Steps.line70
    none-70 : {st : Step} → t.B ≢ no_node → m.out t.B ≡ no_node → Back t st
        → Moves Steps.line70 (with_c t (m.out t.B)) st
    some-70 : t.B ≢ no_node → m.out t.B ≢ no_node → Moves Steps.line70 (with_c t (m.out t.B)) Steps.line72
    lost-72 : {st : Step} → t.C ≢ no_node → m.hat ≢ t.A → Back t st → Moves Steps.line72 t st
    full-31 : t.D ≢ no_node → f ≡ no_node → Moves Steps.line31 t Steps.line15
    hat-15 : Moves Steps.line15 (with_a t m.hat) Steps.line17
    inner-17 : t.A ≢ no_node → m.val t.A ≡ N s → Moves Steps.line17 (with_value t (m.val t.A)) Steps.line18
    spur-17 : t.A ≢ no_node → m.val t.A ≡ Y s → Moves Steps.line17 (with_value t (m.val t.A)) Steps.line67
    end-17 : t.A ≢ no_node → m.val t.A ≡ X s → Moves Steps.line17 (with_value t (m.val t.A)) Steps.line24
    else-17 : t.A ≢ no_node → m.val t.A ≢ N s → m.val t.A ≢ Y s → m.val t.A ≢ X s
        → Moves Steps.line17 (with_value t (m.val t.A)) Steps.line15
    none-18 : t.A ≢ no_node → m.out t.A ≡ no_node → Moves Steps.line18 (with_a t (m.out t.A)) Steps.line15
    some-18 : t.A ≢ no_node → m.out t.A ≢ no_node → Moves Steps.line18 (with_a t (m.out t.A)) Steps.line17
    lost-25 : ¬ ((m.out t.A ≡ t.B) × (m.val t.A ≡ X s)) → Moves Steps.line25 t Steps.line15
    hat-39 : Moves Steps.line39 (with_a t m.hat) Steps.line40
    none-40 : t.A ≢ no_node → m.inn t.A ≡ no_node → Moves Steps.line40 (with_b t (m.inn t.A)) Steps.line39
    some-40 : t.A ≢ no_node → m.inn t.A ≢ no_node → Moves Steps.line40 (with_b t (m.inn t.A)) Steps.line42
    value-42 : {st : Step} → t.B ≢ no_node → Read o (m.val t.B) st
        → Moves Steps.line42 (with_value t (m.val t.B)) st
    lost-48 : ¬ ((m.hat ≡ t.A) × (m.val t.B ≡ t.value)) → Moves Steps.line48 t Steps.line39
    lost-51 : ¬ ((m.hat ≡ t.A) × (m.val t.B ≡ t.value)) → Moves Steps.line51 t Steps.line39
    reached-54 : g ≡ 0 → Moves Steps.line54 (with_a t m.hat) Steps.line60
    hat-54 : g ≢ 0 → Moves Steps.line54 (with_a t m.hat) Steps.line56
    else-56 : t.A ≢ no_node → m.val t.A ≢ X s → Moves Steps.line56 t Steps.line58
    reached-58 : t.A ≢ no_node → m.out t.A ≢ no_node → suc t.counted ≡ g
        → Moves Steps.line58 (with_counted (with_a t (m.out t.A)) (suc t.counted)) Steps.line60
    some-58 : t.A ≢ no_node → m.out t.A ≢ no_node → suc t.counted ≢ g
        → Moves Steps.line58 (with_counted (with_a t (m.out t.A)) (suc t.counted)) Steps.line56
    some-60 : t.A ≢ no_node → m.out t.A ≢ no_node → Moves Steps.line60 (with_b t (m.out t.A)) Steps.line62
    lost-64 : t.A ≢ no_node → m.out t.A ≢ t.B → Moves Steps.line64 t Steps.line74
    none-74 : t.B ≢ no_node → m.out t.B ≡ no_node
        → Moves Steps.line74 (with_b (with_a t t.B) (m.out t.B)) Steps.line82
    some-74 : t.B ≢ no_node → m.out t.B ≢ no_node
        → Moves Steps.line74 (with_b (with_a t t.B) (m.out t.B)) Steps.line77
    value-77 : t.B ≢ no_node → Moves Steps.line77 (with_value t (m.val t.B)) Steps.line78
    lost-78 : t.B ≢ no_node → m.val t.B ≢ t.value → Moves Steps.line78 t Steps.line77
    none-81 : t.A ≢ no_node → m.out t.A ≡ no_node → Moves Steps.line81 (with_b t (m.out t.A)) Steps.line82
    end-81 : t.A ≢ no_node → m.out t.A ≢ no_node → t.value ≡ X s
        → Moves Steps.line81 (with_b t (m.out t.A)) Steps.line82
    some-81 : t.A ≢ no_node → m.out t.A ≢ no_node → t.value ≢ X s
        → Moves Steps.line81 (with_b t (m.out t.A)) Steps.line77

  -- The line writes, and the task goes on.
  pub data Writes : Step → List Write → Task → Step → Type 0 where
    done-72 : {st : Step} → t.C ≢ no_node → m.hat ≡ t.A → Back t st → Writes Steps.line72 (hat≔ t.C ∷ []) t st
    reached-28 : f ≢ no_node → g ≡ 0 → Writes Steps.line28 (out≔ f no_node ∷ inn≔ f no_node ∷ val≔ f (X s) ∷ [])
        (with_counted (with_d t f) 0) Steps.line15
    taken-28 : f ≢ no_node → g ≢ 0 → Writes Steps.line28 (out≔ f no_node ∷ inn≔ f no_node ∷ val≔ f (X s) ∷ [])
        (with_counted (with_d t f) 0) Steps.line31
    reached-31 : t.D ≢ no_node → f ≢ no_node → suc t.counted ≡ g
        → Writes Steps.line31 (val≔ f (N s) ∷ inn≔ f no_node ∷ out≔ f t.D ∷ inn≔ t.D f ∷ [])
        (with_counted (with_d t f) (suc t.counted)) Steps.line15
    taken-31 : t.D ≢ no_node → f ≢ no_node → suc t.counted ≢ g
        → Writes Steps.line31 (val≔ f (N s) ∷ inn≔ f no_node ∷ out≔ f t.D ∷ inn≔ t.D f ∷ [])
        (with_counted (with_d t f) (suc t.counted)) Steps.line31
    link-24 : t.A ≢ no_node → t.D ≢ no_node
        → Writes Steps.line24 (inn≔ t.D t.A ∷ []) (with_b t (m.out t.A)) Steps.line25
    push-25 : t.A ≢ no_node → m.out t.A ≡ t.B → m.val t.A ≡ X s → t.operation ≡ push
        → Writes Steps.line25 (out≔ t.A t.D ∷ val≔ t.A (N s) ∷ []) (with_counted (with_d t no_node) 0) Steps.line2
    done-62 : t.A ≢ no_node → t.B ≢ no_node → m.val t.A ≡ N s → m.val t.B ≡ N s
        → Writes Steps.line62 (val≔ t.A (X s) ∷ val≔ t.B (Y s) ∷ []) t Steps.line64
    done-64 : t.A ≢ no_node → m.out t.A ≡ t.B → Writes Steps.line64 (out≔ t.A no_node ∷ []) t Steps.line74
    done-78 : t.B ≢ no_node → m.val t.B ≡ t.value → Writes Steps.line78 (val≔ t.B (Y s) ∷ []) t Steps.line79
    done-79 : t.A ≢ no_node → Writes Steps.line79 (out≔ t.A no_node ∷ []) (with_a t t.B) Steps.line81

  -- The task answers.
  pub data Ends : Step → List Write → Answer → Type 0 where
    done-5 : t.A ≢ no_node → t.B ≢ no_node → m.hat ≡ t.A → m.val t.A ≡ N s
        → Ends Steps.line5 (hat≔ t.B ∷ val≔ t.A (bag t.argument) ∷ []) Pushed
    full-28 : f ≡ no_node → t.operation ≡ push → Ends Steps.line28 [] Full
    no-28 : f ≡ no_node → t.operation ≢ push → Ends Steps.line28 [] No
    done-25 : t.A ≢ no_node → m.out t.A ≡ t.B → m.val t.A ≡ X s → t.operation ≢ push
        → Ends Steps.line25 (out≔ t.A t.D ∷ val≔ t.A (N s) ∷ []) Yes
    done-48 : t.B ≢ no_node → m.hat ≡ t.A → m.val t.B ≡ t.value → Ends Steps.line48 [] Empty
    done-51 : t.B ≢ no_node → m.hat ≡ t.A → m.val t.B ≡ t.value
        → Ends Steps.line51 (hat≔ t.B ∷ val≔ t.B (N s) ∷ []) (Bag (bag_of t.value))
    end-56 : t.A ≢ no_node → m.val t.A ≡ X s → Ends Steps.line56 [] Yes
    none-58 : t.A ≢ no_node → m.out t.A ≡ no_node → Ends Steps.line58 [] Yes
    none-60 : t.A ≢ no_node → m.out t.A ≡ no_node → Ends Steps.line60 [] Yes
    lost-62 : ¬ ((m.val t.A ≡ N s) × (m.val t.B ≡ N s)) → Ends Steps.line62 [] No
    done-82 : t.A ≢ no_node → Ends Steps.line82 (out≔ t.A no_node ∷ []) Yes

  pub data Branch (st : Step) : Effect → Type 0 where
    stuck : Stuck st → Branch st (refused t)
    moves : {u : Task} {st' : Step} → Moves st u st'
        → Branch st (record { writes = []; task = onward t u st'; answer = Going })
    writes : {l : List Write} {u : Task} {st' : Step} → Writes st l u st'
        → Branch st (record { writes = l; task = onward t u st'; answer = Going })
    ends : {l : List Write} {a : Answer} → Ends st l a → Branch st (writing l (answers a))

  -- ---- A line takes one of its branches.
  past : {st : Step} {x : ℕ} {e : Effect} → (x ≡ no_node → Stuck st) → (x ≢ no_node → Branch st e)
      → Branch st (through x t e)
  past {st} h = ok-through (Branch st) (λ e. stuck (h e))

  by-step : {st : Step} {A : Type 0} (F : Task → Task) {x y : Step} (d : Dec A)
      → (A → Branch st (next (F t) x))
      → (¬ A → Branch st (next (F t) y))
      → Branch st (next (F t) (if? d then x else y))
  by-step {st} F = ok-if (Branch st) (λ n. next (F t) n)

  none-taken : f ≡ no_node → (op : Operation) → t.operation ≡ op → Branch Steps.line28 (answers (none_free op))
  none-taken h push e = ends (full-28 h e)
  none-taken h idle e = ends (no-28 h (λ q. refute (cc)))
  none-taken h pop e = ends (no-28 h (λ q. refute (cc)))
  none-taken h add e = ends (no-28 h (λ q. refute (cc)))
  none-taken h remove e = ends (no-28 h (λ q. refute (cc)))

  splices : t.A ≢ no_node → m.out t.A ≡ t.B → m.val t.A ≡ X s → (op : Operation) → t.operation ≡ op
      → Branch Steps.line25 (spliced op (out≔ t.A t.D ∷ val≔ t.A (N s) ∷ []) t)
  splices a h v push e = writes (push-25 a h v e)
  splices a h v idle e = ends (done-25 a h v (λ q. refute (cc)))
  splices a h v pop e = ends (done-25 a h v (λ q. refute (cc)))
  splices a h v add e = ends (done-25 a h v (λ q. refute (cc)))
  splices a h v remove e = ends (done-25 a h v (λ q. refute (cc)))

  went_back : Back t (back t)
  went_back = back_is t t.operation refl (t.D ≟ no_node)

  pub branch : (st : Step) → Branch st (act st s o m t g f)
  unfolding act
  branch rest = moves rests
  branch Steps.line2 = moves hat-2
  branch Steps.line3 = past A-3 (λ a.
      by-step (λ y. with_b y (m.out t.A)) (_ ≟ _) (λ e. moves (none-3 a e)) (λ e. moves (some-3 a e)))
  branch Steps.line5 = past A-5 (λ a. past B-5 (λ b.
      ok-swap (Branch Steps.line5) _ _ (λ h v. ends (done-5 a b h v)) (λ n. moves (lost-5 n))))
  branch Steps.line8 = past A-8 (λ a.
      by-step (λ y. y) (_ ≟ᵛ _) (λ e. moves (end-8 a e)) (λ e. moves (else-8 a e)))
  branch Steps.line67 = moves hat-67
  branch Steps.line68 = past A-68 (λ a.
      by-step (λ y. y) (_ ≟ᵛ _) (λ e. moves (spur-68 a e)) (λ e. moves (else-68 a e went_back)))
  branch Steps.line69 = past A-69 (λ a. moves (link-69 a))
  branch Steps.line70 = past B-70 (λ b.
      by-step (λ y. with_c y (m.out t.B)) (_ ≟ _) (λ e. moves (none-70 b e went_back)) (λ e. moves (some-70 b e)))
  branch Steps.line72 = past C-72 (λ c.
      ok-if (Branch Steps.line72) (λ l. writing l (next t (back t))) (_ ≟ _)
      (λ e. writes (done-72 c e went_back)) (λ e. moves (lost-72 c e went_back)))
  branch Steps.line28 = ok-if (Branch Steps.line28) (λ e. e) (_ ≟ _) (λ h. none-taken h t.operation refl) (λ h.
      ok-if (Branch Steps.line28)
      (λ n. writing (out≔ f no_node ∷ inn≔ f no_node ∷ val≔ f (X s) ∷ []) (next (with_counted (with_d t f) 0) n)) (_ ≟ _)
      (λ e. writes (reached-28 h e)) (λ e. writes (taken-28 h e)))
  branch Steps.line31 = past D-31 (λ d.
      ok-if (Branch Steps.line31) (λ e. e) (_ ≟ _) (λ h. moves (full-31 d h)) (λ h. ok-if (Branch Steps.line31)
      (λ n. writing (val≔ f (N s) ∷ inn≔ f no_node ∷ out≔ f t.D ∷ inn≔ t.D f ∷ [])
      (next (with_counted (with_d t f) (suc t.counted)) n)) (_ ≟ _)
      (λ e. writes (reached-31 d h e)) (λ e. writes (taken-31 d h e))))
  branch Steps.line15 = moves hat-15
  branch Steps.line17 = past A-17 (λ a.
      let F : Task → Task = λ y. with_value y (m.val t.A) in by-step F (_ ≟ᵛ _) (λ e. moves (inner-17 a e)) (λ n.
      by-step F (_ ≟ᵛ _) (λ e. moves (spur-17 a e)) (λ y.
      by-step F (_ ≟ᵛ _) (λ e. moves (end-17 a e)) (λ x. moves (else-17 a n y x)))))
  branch Steps.line18 = past A-18 (λ a.
      by-step (λ y. with_a y (m.out t.A)) (_ ≟ _) (λ e. moves (none-18 a e)) (λ e. moves (some-18 a e)))
  branch Steps.line24 = past A-24 (λ a. past D-24 (λ d. writes (link-24 a d)))
  branch Steps.line25 = past A-25 (λ a.
      ok-swap (Branch Steps.line25) _ _ (λ h v. splices a h v t.operation refl) (λ n. moves (lost-25 n)))
  branch Steps.line39 = moves hat-39
  branch Steps.line40 = past A-40 (λ a.
      by-step (λ y. with_b y (m.inn t.A)) (_ ≟ _) (λ e. moves (none-40 a e)) (λ e. moves (some-40 a e)))
  branch Steps.line42 = past B-42 (λ b. moves (value-42 b (read_is o (m.val t.B))))
  branch Steps.line48 = past B-48 (λ b.
      ok-swap (Branch Steps.line48) _ _ (λ h v. ends (done-48 b (cc) (cc))) (λ n. moves (lost-48 (λ p. n (cc, cc)))))
  branch Steps.line51 = past B-51 (λ b.
      ok-swap (Branch Steps.line51) _ _ (λ h v. ends (done-51 b h v)) (λ n. moves (lost-51 n)))
  branch Steps.line54 = by-step (λ y. with_a y m.hat) (_ ≟ _) (λ e. moves (reached-54 e)) (λ e. moves (hat-54 e))
  branch Steps.line56 = past A-56 (λ a.
      ok-if (Branch Steps.line56) (λ e. e) (_ ≟ᵛ _) (λ e. ends (end-56 a e)) (λ e. moves (else-56 a e)))
  branch Steps.line58 = past A-58 (λ a.
      ok-if (Branch Steps.line58) (λ e. e) (_ ≟ _) (λ e. ends (none-58 a e)) (λ n.
      by-step (λ y. with_counted (with_a y (m.out t.A)) (suc t.counted)) (_ ≟ _)
      (λ e. moves (reached-58 a n e)) (λ e. moves (some-58 a n e))))
  branch Steps.line60 = past A-60 (λ a.
      ok-if (Branch Steps.line60) (λ e. e) (_ ≟ _) (λ e. ends (none-60 a e)) (λ e. moves (some-60 a e)))
  branch Steps.line62 = past A-62 (λ a. past B-62 (λ b.
      ok-swap (Branch Steps.line62) _ _ (λ h v. writes (done-62 a b (cc) (cc))) (λ n. ends (lost-62 (λ p. n (cc, cc))))))
  branch Steps.line64 = past A-64 (λ a.
      ok-if (Branch Steps.line64) (λ l. writing l (next t Steps.line74)) (_ ≟ _)
      (λ e. writes (done-64 a e)) (λ e. moves (lost-64 a e)))
  branch Steps.line74 = past B-74 (λ b.
      by-step (λ y. with_b (with_a y t.B) (m.out t.B)) (_ ≟ _)
      (λ e. moves (none-74 b e)) (λ e. moves (some-74 b e)))
  branch Steps.line77 = past B-77 (λ b. moves (value-77 b))
  branch Steps.line78 = past B-78 (λ b.
      ok-if (Branch Steps.line78) (λ e. e) (_ ≟ᵛ _) (λ e. writes (done-78 b e)) (λ e. moves (lost-78 b e)))
  branch Steps.line79 = past A-79 (λ a. writes (done-79 a))
  branch Steps.line81 = past A-81 (λ a.
      let F : Task → Task = λ y. with_b y (m.out t.A) in by-step F (_ ≟ _) (λ e. moves (none-81 a e)) (λ n.
      by-step F (_ ≟ᵛ _) (λ e. moves (end-81 a n e)) (λ x. moves (some-81 a n x))))
  branch Steps.line82 = past A-82 (λ a. ends (done-82 a))

module _ {s o : Side} {m : Memory} {t : Task} {g f : ℕ} where
  -- An answer that ends a call.
  pub ends_it : {st : Step} {l : List Write} {a : Answer} → Ends s o m t g f st l a → a ≢ Going
  ends_it (done-5 _ _ _ _) e = refute (cc)
  ends_it (full-28 _ _) e = refute (cc)
  ends_it (no-28 _ _) e = refute (cc)
  ends_it (done-25 _ _ _ _) e = refute (cc)
  ends_it (done-48 _ _ _) e = refute (cc)
  ends_it (done-51 _ _ _) e = refute (cc)
  ends_it (end-56 _ _) e = refute (cc)
  ends_it (none-58 _ _) e = refute (cc)
  ends_it (none-60 _ _) e = refute (cc)
  ends_it (lost-62 _) e = refute (cc)
  ends_it (done-82 _) e = refute (cc)
