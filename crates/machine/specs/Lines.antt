-- The lines of the figure as single ticks, for a side given as a parameter.
-- Each clause of `act` stands under the sentence of 01 that it renders; 01 writes the right side.
use Rattle.std.specs.Prelude.{◌≡◌, List, [], ◌∷◌, ℕ, suc}
use Rattle.machine.specs.Outcomes.Answer.{Answer, Going, Pushed, Bag, Empty, Full, Yes, No, Refused}
use Rattle.machine.specs.Choice.{◌≟◌, if?◌then◌else◌}
use Rattle.machine.specs.Sides.{Side, opposite}
use Rattle.machine.specs.Values.{Value, never, bag, N, X, Y, ◌≟ᵛ◌}
use Rattle.machine.specs.Operations.{Operation, idle, push, pop, add, remove}
use Rattle.machine.specs.Steps.{
  Step,
  rest,
  line2,
  line3,
  line5,
  line8,
  line15,
  line17,
  line18,
  line24,
  line25,
  line28,
  line31,
  line39,
  line40,
  line42,
  line48,
  line51,
  line54,
  line56,
  line58,
  line60,
  line62,
  line64,
  line67,
  line68,
  line69,
  line70,
  line72,
  line74,
  line77,
  line78,
  line79,
  line81,
  line82,
}
use Rattle.machine.specs.Tasks.{
  Task,
  fresh,
  no_node,
  goto,
  with_a,
  with_b,
  with_c,
  with_d,
  with_counted,
  with_value,
}
use Rattle.machine.specs.Table.{hat, link, value, set_hat, set_link, set_value}

-- ---- What a task sees of the table.

-- 01: the left side exchanges the hats, L with R, and each mark with its mirror. So a task sees its own hat, which
-- since 2026-12 is that of its lane, links that lead outward (R on the right side) and inward, and marks that carry a
-- side.
pub record Memory : Type 0 where
  pub out : ℕ → ℕ
  pub inn : ℕ → ℕ
  pub val : ℕ → Value
  pub hat : ℕ

abbrev pub seen : (lane : ℕ) → Side → List ℕ → Memory
seen l s ws = record { out = link ws s; inn = link ws (opposite s); val = value ws; hat = hat ws l s }

-- ---- What a tick does: its writes in the order named, the record afterwards, the answer.
pub data Write : Type 0 where
  out≔ : ℕ → ℕ → Write
  inn≔ : ℕ → ℕ → Write
  val≔ : ℕ → Value → Write
  hat≔ : ℕ → Write

pub record Effect : Type 0 where
  pub writes : List Write
  pub task : Task
  pub answer : Answer

-- One write of a task on side s of a lane, and several in order.
abbrev pub write_one : (lane : ℕ) → Side → Write → List ℕ → List ℕ
write_one l s (out≔ x y) ws = set_link s x y ws
write_one l s (inn≔ x y) ws = set_link (opposite s) x y ws
write_one l s (val≔ x v) ws = set_value x v ws
write_one l s (hat≔ x) ws = set_hat l s x ws

unfoldable pub write_all : (lane : ℕ) → Side → List Write → List ℕ → List ℕ
write_all l s [] ws = ws
write_all l s (w ∷ more) ws = write_all l s more (write_one l s w ws)

-- ---- How a tick ends.

-- The task goes to a step; 01: other ticks answer "going".
abbrev pub next : Task → Step → Effect
next t st = record { writes = []; task = goto t st; answer = Going }

-- 01: an answering tick also makes the record fresh.
abbrev pub answers : Answer → Effect
answers a = record { writes = []; task = fresh; answer = a }

-- The same end, with writes.
abbrev pub writing : List Write → Effect → Effect
writing l e = record { writes = l; task = e.task; answer = e.answer }

-- Refusal 11: a step through a register that is none, or that would set a hat to none, tested before any compare.
abbrev pub refused : Task → Effect
refused t = record { writes = []; task = t; answer = Refused 11 }

abbrev pub through : ℕ → Task → Effect → Effect
through x t e = if? x ≟ no_node then refused t else e

-- 01's swap (the figure's DCAS): both places are compared, then both are written. 02: "A swap compares and writes the
-- digit with V as one thing": a value is compared and written whole.
unfoldable pub dcas : {P Q : Type 0} → Dec P → Dec Q → Effect → Effect → Effect
dcas (yes p) (yes q) done failed = done
dcas (yes p) (no q) done failed = failed
dcas (no p) e done failed = failed

-- ---- Choices of 01 that go by the operation or the value.

-- 01: back is 2 for a push whose D is none, else 15.
abbrev pub back_of : Operation → {x : ℕ} → Dec (x ≡ no_node) → Step
back_of push (yes h) = line2
back_of push (no h) = line15
back_of idle d = line15
back_of pop d = line15
back_of add d = line15
back_of remove d = line15

abbrev pub back : Task → Step
back t = back_of t.operation (t.D ≟ no_node)

-- 01: none free: push answers "full", add "no".
abbrev pub none_free : Operation → Answer
none_free push = Full
none_free add = No
none_free idle = No
none_free pop = No
none_free remove = No

-- 01: done: add answers "yes", push sets D none, counted 0, goes to 2.
abbrev pub spliced : Operation → List Write → Task → Effect
spliced add l t = writing l (answers Yes)
spliced push l t = writing l (next (with_counted (with_d t no_node) 0) line2)
spliced idle l t = writing l (answers Yes)
spliced pop l t = writing l (answers Yes)
spliced remove l t = writing l (answers Yes)

-- 01: a bag 51, LN or LX 48, else 39; on the side whose opposite is o.
abbrev pub after_read : (o : Side) → Value → Step
after_read o never = line39
after_read o (bag n) = line51
after_read o (N z) = if? N z ≟ᵛ N o then line48 else line39
after_read o (X z) = if? X z ≟ᵛ X o then line48 else line39
after_read o (Y z) = line39

-- The bag number of a value that is a bag.
abbrev pub bag_of : Value → ℕ
bag_of (bag n) = n
bag_of never = 0
bag_of (N z) = 0
bag_of (X z) = 0
bag_of (Y z) = 0

-- ---- The lines. t is the task at the line, on side s, whose opposite is o; m is what it sees; g is its goal; f is the
-- node that a search finds, or none.
unfoldable pub act : Step → (s o : Side) → Memory → Task → (g f : ℕ) → Effect
act rest s o m t g f = next t rest
-- 2: A = hat; 3.
act line2 s o m t g f = next (with_a t m.hat) line3
-- 3: B = A.R; none 8, else 5.
act line3 s o m t g f =
    through t.A t
    (let b = m.out t.A in next (with_b t b) (if? b ≟ no_node then line8 else line5))
-- 5: swap hat A to B and A.V RN to the argument; done "pushed", failed 8.
act line5 s o m t g f =
    through t.A t (through t.B t
    (dcas (m.hat ≟ t.A) (m.val t.A ≟ᵛ N s)
    (writing (hat≔ t.B ∷ val≔ t.A (bag t.argument) ∷ []) (answers Pushed))
    (next t line8)))
-- 8: A.V is RX 28, else 67.
act line8 s o m t g f =
    through t.A t (next t (if? m.val t.A ≟ᵛ X s then line28 else line67))
-- 67: A = hat; 68.
act line67 s o m t g f = next (with_a t m.hat) line68
-- 68: A.V is RY 69, else back.
act line68 s o m t g f =
    through t.A t (next t (if? m.val t.A ≟ᵛ Y s then line69 else back t))
-- 69: B = A.L; 70.
act line69 s o m t g f = through t.A t (next (with_b t (m.inn t.A)) line70)
-- 70: C = B.R; none back, else 72.
act line70 s o m t g f =
    through t.B t
    (let c = m.out t.B in next (with_c t c) (if? c ≟ no_node then back t else line72))
-- 72: swap hat A to C; back either way.
act line72 s o m t g f =
    through t.C t
    (writing (if? m.hat ≟ t.A then hat≔ t.C ∷ [] else []) (next t (back t)))
-- 28: take a free slot, links none, V RX; D = it; counted 0; goal 0 then 15, else 31.
-- None free: push answers "full", add "no".
act line28 s o m t g f =
    if? f ≟ no_node then answers (none_free t.operation) else
    writing (out≔ f no_node ∷ inn≔ f no_node ∷ val≔ f (X s) ∷ [])
    (next (with_counted (with_d t f) 0) (if? g ≟ 0 then line15 else line31))
-- 31: take a free slot N, V RN, N.L none, N.R = D, D.L = N, D = N, counted + 1; goal reached 15, else 31.
-- None free: 15 with the chain so far.
act line31 s o m t g f =
    through t.D t
    (if? f ≟ no_node then next t line15 else
    writing (val≔ f (N s) ∷ inn≔ f no_node ∷ out≔ f t.D ∷ inn≔ t.D f ∷ [])
    (next (with_counted (with_d t f) (suc t.counted)) (if? suc t.counted ≟ g then line15 else line31)))
-- 15: A = hat; 17.
act line15 s o m t g f = next (with_a t m.hat) line17
-- 17: value = A.V; RN 18, RY 67, RX 24, else 15.
act line17 s o m t g f =
    through t.A t
    (let v = m.val t.A in
    next (with_value t v)
    (if? v ≟ᵛ N s then line18 else if? v ≟ᵛ Y s then line67 else if? v ≟ᵛ X s then line24 else line15))
-- 18: A = A.R; none 15, else 17.
act line18 s o m t g f =
    through t.A t
    (let a = m.out t.A in next (with_a t a) (if? a ≟ no_node then line15 else line17))
-- 24: D.L = A, B = A.R; 25.
act line24 s o m t g f =
    through t.A t (through t.D t
    (writing (inn≔ t.D t.A ∷ []) (next (with_b t (m.out t.A)) line25)))
-- 25: swap A.R from B to D and A.V RX to RN; failed 15; done: see `spliced`.
act line25 s o m t g f =
    through t.A t
    (dcas (m.out t.A ≟ t.B) (m.val t.A ≟ᵛ X s)
    (spliced t.operation (out≔ t.A t.D ∷ val≔ t.A (N s) ∷ []) t)
    (next t line15))
-- 39: A = hat; 40.
act line39 s o m t g f = next (with_a t m.hat) line40
-- 40: B = A.L; none 39, else 42.
act line40 s o m t g f =
    through t.A t
    (let b = m.inn t.A in next (with_b t b) (if? b ≟ no_node then line39 else line42))
-- 42: value = B.V; a bag 51, LN or LX 48, else 39.
act line42 s o m t g f =
    through t.B t
    (let v = m.val t.B in next (with_value t v) (after_read o v))
-- 48: hat equals A and B.V equals value: "empty", else 39.
act line48 s o m t g f =
    through t.B t
    (dcas (m.hat ≟ t.A) (m.val t.B ≟ᵛ t.value) (answers Empty) (next t line39))
-- 51: swap hat A to B and B.V from value to RN; done answers the bag, failed 39.
act line51 s o m t g f =
    through t.B t
    (dcas (m.hat ≟ t.A) (m.val t.B ≟ᵛ t.value)
    (writing (hat≔ t.B ∷ val≔ t.B (N s) ∷ []) (answers (Bag (bag_of t.value))))
    (next t line39))
-- 54: A = hat; goal 0 then 60, else 56.
act line54 s o m t g f = next (with_a t m.hat) (if? g ≟ 0 then line60 else line56)
-- 56: A.V is RX: "yes", else 58.
act line56 s o m t g f =
    through t.A t (if? m.val t.A ≟ᵛ X s then answers Yes else next t line58)
-- 58: A = A.R; none "yes"; counted + 1; goal reached 60, else 56.
act line58 s o m t g f =
    through t.A t
    (let a = m.out t.A in
    if? a ≟ no_node then answers Yes else
    next (with_counted (with_a t a) (suc t.counted)) (if? suc t.counted ≟ g then line60 else line56))
-- 60: B = A.R; none "yes", else 62.
act line60 s o m t g f =
    through t.A t
    (let b = m.out t.A in if? b ≟ no_node then answers Yes else next (with_b t b) line62)
-- 62: swap A.V RN to RX and B.V RN to RY; failed "no", else 64.
act line62 s o m t g f =
    through t.A t (through t.B t
    (dcas (m.val t.A ≟ᵛ N s) (m.val t.B ≟ᵛ N s)
    (writing (val≔ t.A (X s) ∷ val≔ t.B (Y s) ∷ []) (next t line64))
    (answers No)))
-- 64: swap A.R B to none; 74 either way.
act line64 s o m t g f =
    through t.A t
    (writing (if? m.out t.A ≟ t.B then out≔ t.A no_node ∷ [] else []) (next t line74))
-- 74: A = B, then B = A.R; none 82, else 77.
act line74 s o m t g f =
    through t.B t
    (let b = m.out t.B in next (with_b (with_a t t.B) b) (if? b ≟ no_node then line82 else line77))
-- 77: value = B.V; 78.
act line77 s o m t g f = through t.B t (next (with_value t (m.val t.B)) line78)
-- 78: swap B.V from value to RY; failed 77, done 79.
act line78 s o m t g f =
    through t.B t
    (if? m.val t.B ≟ᵛ t.value then writing (val≔ t.B (Y s) ∷ []) (next t line79) else next t line77)
-- 79: A.R = none, A = B; 81.
act line79 s o m t g f =
    through t.A t (writing (out≔ t.A no_node ∷ []) (next (with_a t t.B) line81))
-- 81: B = A.R; none or value RX 82, else 77.
act line81 s o m t g f =
    through t.A t
    (let b = m.out t.A in
    next (with_b t b) (if? b ≟ no_node then line82 else if? t.value ≟ᵛ X s then line82 else line77))
-- 82: A.R = none; "yes".
act line82 s o m t g f = through t.A t (writing (out≔ t.A no_node ∷ []) (answers Yes))
