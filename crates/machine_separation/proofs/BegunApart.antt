-- In every table that our calls lead to, lanes are apart.
use mathlib.Core.Path.{◌≡◌, refl, sym, ap, ◌∙◌}
use mathlib.Core.Logic.{◌≢◌}
use mathlib.Core.Bool.{true, false}
use mathlib.Core.List.{List}
use Prim.Native.Nat.{ℕ, ◌+◌, ◌*◌, ◌/◌, ◌%◌}
use native.Mathlib.Omega.{arith}
use Rattle.machine.specs.Choice.{◌≟◌, ◌<?◌}
use Rattle.machine.specs.Sides.{Side, left, right, side_number}
use Rattle.machine.specs.Operations.{Operation}
use Rattle.machine.specs.Tasks.{Task, fresh, no_node, Register, in_a, in_b, in_c, in_d, register}
use Rattle.machine.specs.Registers.{holds}
use Rattle.machine.specs.Table.{lane_count, task}
use Rattle.machine.specs.Calls.{begun_task}
use Rattle.machine.specs.Begun.{Begun}
use Rattle.machine.proofs.Basics.Contradiction.{refute}
use Rattle.machine.proofs.Basics.Choices.{by-if}
use Rattle.machine.proofs.Basics.Updates.{Wrote, update, update-wrote, wrote-all}
use Rattle.machine.proofs.Words.Memories.{View, viewed}
use Rattle.machine.proofs.Words.StartLaws.{start_view}
use Rattle.machine.proofs.Linearizability.Begun.Lasting.{LastsFor, begun-has}
use Rattle.machine_separation.proofs.Leads.{link_of, Apart, HasLane, has-led-to, HoldsSame, Stays, was-led}
use Rattle.machine_separation.proofs.ApartTick.{apart-after-tick}

-- A fresh record holds nothing.
fresh_holds : (t : Task) → t ≡ fresh → (r : Register) → holds t.step r ≡ true → ⊥
fresh_holds t is-fresh r h =
    let none-held : holds t.step r ≡ false = ap (λ (u : Task). holds u.step r) is-fresh in
    refute (cc)

-- ---- Start: node x is of lane x / 2, and all tasks are fresh.
start-links : (L l : ℕ) (z : Side) (x : ℕ) → x / 2 ≡ l → link_of (start_view L) z x ≢ no_node
    → link_of (start_view L) z x / 2 ≡ l
start-links L l left x e =
    by-if (λ y. y ≢ no_node → y / 2 ≡ l) (x <? 2 * L)
    (λ h. by-if (λ y. y ≢ no_node → y / 2 ≡ l) (x % 2 ≟ 0) (λ _ n. absurd (n refl)) (λ odd _. omega arith))
    (λ _ n. absurd (n refl))
start-links L l right x e =
    by-if (λ y. y ≢ no_node → y / 2 ≡ l) (x <? 2 * L)
    (λ h. by-if (λ y. y ≢ no_node → y / 2 ≡ l) (x % 2 ≟ 0) (λ even _. omega arith) (λ _ n. absurd (n refl)))
    (λ _ n. absurd (n refl))

start-lane : (L l : ℕ) {ts : ℕ → Task} → ((k : ℕ) → ts k ≡ fresh) → HasLane L (start_view L) ts l (λ x. x / 2 ≡ l)
start-lane L l {ts} fresh-tasks =
    record {
      has-hats = λ s h. by-if (λ y. y / 2 ≡ l) (l <? L) (λ _. in_pair s) (λ n. absurd (n h));
      has-registers = λ k r _ h _. absurd (fresh_holds (ts k) (fresh-tasks k) r h);
      closed = start-links L l;
    }
  where
    in_pair : (s : Side) → (2 * l + side_number s) / 2 ≡ l
    in_pair left = omega arith
    in_pair right = omega arith

apart-at-start : (L : ℕ) {ts : ℕ → Task} → ((k : ℕ) → ts k ≡ fresh) → Apart L (start_view L) ts
apart-at-start L fresh-tasks l n x a b =
    sym (has-led-to (start-lane L l fresh-tasks) a) ∙ has-led-to (start-lane L n fresh-tasks) b

-- ---- Begin: the record written has no node.
pub begin-stays : {L : ℕ} {M : View} {ts : ℕ → Task} (k : ℕ) → ts k ≡ fresh
    → (l : ℕ) (op : Operation) (s : Side) (argument : ℕ) (n : ℕ)
    → Stays L M ts M (update ts k (begun_task l op s argument)) n
begin-stays {ts = ts} k was-fresh l op s argument n =
    record {
      same_hats = λ z. refl;
      same_links = λ x c z. refl;
      same_values = λ x c. refl;
      still-held =
          wrote-all (λ j t. HoldsSame n (ts j) t) W
          (λ r _ h _. absurd (fresh_holds (ts k) was-fresh r h)) (λ j _ r _ _ _. refl);
      was-held = wrote-all (λ j t. HoldsSame n t (ts j)) W (λ r _ _ ne. absurd (ne (no-node r))) (λ j _ r _ _ _. refl);
    }
  where
    t : Task
    t = begun_task l op s argument

    W : Wrote ts k t (update ts k t)
    W = update-wrote ts k t

    no-node : (r : Register) → register t r ≡ no_node
    no-node in_a = refl
    no-node in_b = refl
    no-node in_c = refl
    no-node in_d = refl

-- ---- The calls.
apart-lasts : LastsFor Apart
apart-lasts =
    record {
      at-start = λ L _ fresh-tasks. apart-at-start L fresh-tasks;
      at_begin =
          λ A k was-fresh l op s argument i n x a b.
          A i n x (was-led (begin-stays k was-fresh l op s argument i) a)
          (was-led (begin-stays k was-fresh l op s argument n) b);
      at_tick = λ A I R k g f busy free-f. apart-after-tick I R A k g f busy free-f;
    }

pub begun-apart : {ws : List ℕ} → Begun ws → Apart (lane_count ws) (viewed right ws) (task ws)
begun-apart B = begun-has apart-lasts B
