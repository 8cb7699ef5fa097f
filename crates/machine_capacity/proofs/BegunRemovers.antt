-- In every table that our calls lead to, links have removers.
use mathlib.Core.Path.{◌≡◌, refl, sym, ap, ◌∙◌, subst}
use mathlib.Core.List.{List}
use Prim.Native.Nat.{ℕ, ◌+◌, ◌*◌, ◌-◌, ◌%◌, ◌<◌}
use Rattle.machine.specs.Choice.{◌≟◌, ◌<?◌, if?◌then◌else◌}
use Rattle.machine.specs.Sides.{Side, left, right}
use Rattle.machine.specs.Values.{never, X}
use Rattle.machine.specs.Operations.{Operation, idle, push, pop, add, remove}
use Rattle.machine.specs.Steps.{first_step}
use Rattle.machine.specs.Tasks.{Task, no_node, fresh}
use Rattle.machine.specs.Table.{task}
use Rattle.machine.specs.Calls.{begun_task}
use Rattle.machine.specs.Begun.{Begun}
use Rattle.machine.proofs.Basics.Contradiction.{clash}
use Rattle.machine.proofs.Basics.Updates.{update, update-wrote, update_other, wrote-all}
use Rattle.machine.proofs.Words.Memories.{View, viewed, view}
use Rattle.machine.proofs.Words.StartLaws.{start_view}
use Rattle.machine.proofs.Linearizability.Begun.Lasting.{Lasts, begun-has}
use Rattle.machine_capacity.proofs.Removers.{
  Duty,
  no-duty,
  duty,
  Mark,
  end,
  cut,
  marked,
  Cuts,
  Sure,
  CutBy,
  LinksHaveRemovers,
}
use Rattle.machine_capacity.proofs.RemoversTick.{removers-after-tick}

-- ---- Start: no X and no Y has an outward link, and every task is fresh.
no-links-no-removers : {M : View} {ts : ℕ → Task}
    → ((j : ℕ) → ts j ≡ fresh)
    → ((s : Side) (μ : Mark) (n : ℕ) → (view s M).val n ≡ marked μ s → (view s M).out n ≡ no_node)
    → LinksHaveRemovers M ts
no-links-no-removers {M} fresh-tasks no-link =
    record {
      has-removers = λ s. record { remover = λ μ n v ne. absurd (ne (no-link s μ n v)) };
      sure =
          λ j.
          subst (λ (t : Task). Sure (duty t.step) t.side (view t.side M) t) (sym (fresh-tasks j)) tt;
    }

start-no-link : (L : ℕ) (s : Side) (μ : Mark) (n : ℕ)
    → (view s (start_view L)).val n ≡ marked μ s
    → (view s (start_view L)).out n ≡ no_node
start-no-link L left μ n v = go μ (n <? 2 * L) (n % 2 ≟ 0) v
  where
    go : (μ : Mark) (d : Dec (n < 2 * L)) (p : Dec (n % 2 ≡ 0))
        → (if? d then (if? p then X left else X right) else never) ≡ marked μ left
        → (if? d then (if? p then no_node else n - 1) else no_node) ≡ no_node
    go μ (no h) p v = refl
    go μ (yes h) (yes e) v = refl
    go end (yes h) (no e) v = clash (cc)
    go cut (yes h) (no e) v = clash (cc)
start-no-link L right μ n v = go μ (n <? 2 * L) (n % 2 ≟ 0) v
  where
    go : (μ : Mark) (d : Dec (n < 2 * L)) (p : Dec (n % 2 ≡ 0))
        → (if? d then (if? p then X left else X right) else never) ≡ marked μ right
        → (if? d then (if? p then n + 1 else no_node) else no_node) ≡ no_node
    go μ (no h) p v = refl
    go end (yes h) (yes e) v = clash (cc)
    go cut (yes h) (yes e) v = clash (cc)
    go μ (yes h) (no e) v = refl

-- ---- Begin: a record without a duty is put in the place of another.
module _ {M : View} {ts : ℕ → Task} (H : LinksHaveRemovers M ts) (k : ℕ) (t : Task)
    (before : duty (ts k).step ≡ no-duty) (now : duty t.step ≡ no-duty) where
  same-cutter : (z : Side) (μ : Mark) (n l : ℕ) → CutBy ts z μ n l → CutBy (update ts k t) z μ n l
  same-cutter z μ n l c =
      elim (c.cutter ≟ k) [
        | yes i ↦
            let at-k = subst (λ (j : ℕ). Cuts (duty (ts j).step) μ (ts j) n l) i c.cuts in
            absurd (subst (λ (d : Duty). Cuts d μ (ts k) n l) before at-k)
        | no i ↦
            let same = update_other ts k t c.cutter i in
            record {
              cutter = c.cutter;
              on-side = ap (λ (x : Task). x.side) same ∙ c.on-side;
              cuts = subst (λ (x : Task). Cuts (duty x.step) μ x n l) (sym same) c.cuts;
            }
      ]

  removers-after-begin : LinksHaveRemovers M (update ts k t)
  removers-after-begin =
      record {
        has-removers =
            λ z.
            record {
              remover = λ μ n v ne. same-cutter z μ n ((view z M).out n) ((H.has-removers z).remover μ n v ne);
            };
        sure =
            wrote-all (λ j x. Sure (duty x.step) x.side (view x.side M) x) (update-wrote ts k t)
            (subst (λ (d : Duty). Sure d t.side (view t.side M) t) (sym now) tt) (λ j _. H.sure j);
      }

first-no-duty : (op : Operation) → duty (first_step op) ≡ no-duty
first-no-duty idle = refl
first-no-duty push = refl
first-no-duty pop = refl
first-no-duty add = refl
first-no-duty remove = refl

-- ---- The calls.
removers-last : Lasts LinksHaveRemovers
removers-last =
    record {
      at-start = λ L few fresh-tasks. no-links-no-removers fresh-tasks (start-no-link L);
      at_begin =
          λ H k was-fresh l op s argument.
          removers-after-begin H k (begun_task l op s argument) (ap (λ (x : Task). duty x.step) was-fresh)
          (first-no-duty op);
      at_tick = λ H I R k g f busy free-f. removers-after-tick I R H k g f busy free-f;
    }

pub begun-removers : {ws : List ℕ} → Begun ws → LinksHaveRemovers (viewed right ws) (task ws)
begun-removers B = begun-has removers-last B
