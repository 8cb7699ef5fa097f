-- A call that begins leaves the potential as it is: an idle task's share is that of any call.
use mathlib.Core.Path.{◌≡◌, refl, sym, ap, ◌∙◌, subst}
use mathlib.Core.Logic.{◌≢◌, inl, inr}
use mathlib.Core.List.{List}
use Prim.Native.Nat.{ℕ, suc, ◌+◌, ◌≤◌, ◌<◌}
use native.Mathlib.Omega.{arith}
use Rattle.machine.specs.declared.Stored.{Stored}
use Rattle.machine.specs.Sides.{right}
use Rattle.machine.specs.Tasks.{Task}
use Rattle.machine.specs.Table.{node_count, task_count, growth, lane_count, task}
use Rattle.machine.specs.Calls.{is_busy, begin}
use Rattle.machine.specs.Demand3.{begin_call}
use Rattle.machine.proofs.Basics.Contradiction.{equal?}
use Rattle.machine.proofs.Basics.Updates.{update_other}
use Rattle.machine.proofs.Words.Memories.{View, viewed, view}
use Rattle.machine.proofs.Linearizability.Calls.Agreement.{Agrees}
use Rattle.machine.proofs.Linearizability.Begun.TableBegun.{BegunTable, by-begin}
use Rattle.machine_progress.proofs.SoloBound.Led.{Led, led-call}
use Rattle.machine_progress.proofs.LockFree.Disturbances.{HatDisturbs, disturbs-at-first}
use Rattle.machine_progress.proofs.LockFree.Sums.{sum}
use Rattle.machine_progress.proofs.SoloBound.AtFirst.{most}
use Rattle.machine_progress.proofs.LockFree.TableTick.{DisturbsIn, CalmlyLeft}
use Rattle.machine_progress.proofs.LockFree.HatMoves.{both_hats}
use Rattle.machine_progress.proofs.LockFree.Potential.{Potential, patient-first}

-- The begin is accepted: one task is another, and nothing else.
module _ {ws after : List ℕ} (X : Led after) {k : ℕ} {t : Task} (B : BegunTable ws after k t) {D P : ℕ}
    (Φ : Potential ws D P) where
  other : (j : ℕ) → j ≢ k → task after j ≡ task ws j
  other j ne = ap (λ (f : ℕ → Task). f j) B.tasks-then ∙ update_other (task ws) k t j ne

  same-for : (F : (S T gr : ℕ) → View → Task → Type 0) (j : ℕ) {x : Task} → task after j ≡ x
      → F (node_count ws) (task_count ws) (growth ws) (viewed right ws) x
      → F (node_count after) (task_count after) (growth after) (viewed right after) (task after j)
  same-for F j {x} q b =
      subst (λ (y : Task). F (node_count after) (task_count after) (growth after) (viewed right after) y) (sym q)
      (subst (λ (y : View). F (node_count after) (task_count after) (growth after) y x) (sym (B.viewed-same right))
      (subst (λ (S : ℕ). F S (task_count after) (growth after) (viewed right ws) x) (sym B.same_nodes)
      (subst (λ (T : ℕ). F (node_count ws) T (growth after) (viewed right ws) x) (sym B.same_count)
      (subst (λ (gr : ℕ). F (node_count ws) (task_count ws) gr (viewed right ws) x) (sym B.same_growth) b))))

  busy-before : (j : ℕ) → j ≢ k → is_busy (task after j).operation ≡ is_busy (task ws j).operation
  busy-before j ne = ap (λ (x : Task). is_busy x.operation) (other j ne)

  share : (suc (task_count ws) ≤ Φ.d k) × (Φ.p k ≡ most 2 (node_count ws))
  share = Φ.idle-yet k (ap (λ (x : Task). is_busy x.operation) B.was-fresh)

  begun-keeps : Potential after D P
  begun-keeps =
      record {
        d = Φ.d;
        hats = Φ.hats;
        p = Φ.p;
        may-disturb =
            λ j busy. elim (equal? j k) [
              | inl q ↦
                  let same_tasks = B.same_count in
                  let same-d : Φ.d j ≡ Φ.d k = ap Φ.d q in
                  let x = task after j in
                  disturbs-at-first x.step (task_count after) x.side (view x.side (viewed right after)) x
                  (Φ.d j) (omega arith) (omega (arith, share.0))
              | inr ne ↦
                  same-for (λ S T gr m x. DisturbsIn T m x (Φ.d j)) j (other j ne)
                  (Φ.may-disturb j (sym (busy-before j ne) ∙ busy))
            ];
        hats-move =
            λ l q z.
            same-for (λ S T gr m x. HatDisturbs l z (view z m) (Φ.hats l z)) k refl
            (Φ.hats-move l (subst (λ (n : ℕ). l < n) B.same-lanes q) z);
        patience =
            λ j busy. elim (equal? j k) [
              | inl q ↦
                  subst
                  (λ (n : ℕ).
                  CalmlyLeft (node_count after) (growth after) (viewed right after) (task after j) n)
                  (sym (ap Φ.p q ∙ share.1 ∙ ap (most 2) (sym B.same_nodes)))
                  (patient-first X j busy)
              | inr ne ↦
                  same-for (λ S T gr m x. CalmlyLeft S gr m x (Φ.p j)) j (other j ne)
                  (Φ.patience j (sym (busy-before j ne) ∙ busy))
            ];
        idle-yet =
            λ j idle_now.
            let same_tasks = B.same_count in
            let b : (suc (task_count ws) ≤ Φ.d j) × (Φ.p j ≡ most 2 (node_count ws)) =
            elim (equal? j k) [
              | inl q ↦
                  subst (λ (i : ℕ). (suc (task_count ws) ≤ Φ.d i) × (Φ.p i ≡ most 2 (node_count ws))) (sym q) share
              | inr ne ↦ Φ.idle-yet j (sym (busy-before j ne) ∙ idle_now)
            ] in
            (omega (arith, b.0), b.1 ∙ ap (most 2) (sym B.same_nodes));
        few-disturbances =
            subst (λ (T : ℕ). sum T Φ.d + sum (lane_count after) (both_hats Φ.hats) ≤ D) (sym B.same_count)
            (subst (λ (n : ℕ). sum (task_count ws) Φ.d + sum n (both_hats Φ.hats) ≤ D) (sym B.same-lanes)
            Φ.few-disturbances);
        few-ticks = subst (λ (T : ℕ). sum T Φ.p ≤ P) (sym B.same_count) Φ.few-ticks;
      }

-- A begin, accepted or refused.
module _ {ws : List ℕ} (X : Led ws) (k l op side : ℕ) (argument : Stored) where
  abbrev then : List ℕ
  then = (begin ws k l op side argument).words

  A : Agrees ws X.row
  A = X.agrees

  pub begin-nodes : node_count then ≡ node_count ws
  begin-nodes =
      by-begin A k l op side argument (λ c. node_count c.words ≡ node_count ws) (λ n. refl) (λ vs T. T.same_nodes)

  pub begin-tasks : task_count then ≡ task_count ws
  begin-tasks =
      by-begin A k l op side argument (λ c. task_count c.words ≡ task_count ws) (λ n. refl) (λ vs T. T.same_count)

  pub begin-keeps : {D P : ℕ} → Potential ws D P → Potential then D P
  begin-keeps {D} {P} Φ =
      by-begin A k l op side argument (λ c. Led c.words → Potential c.words D P) (λ n _. Φ)
      (λ vs T B. begun-keeps B T Φ) (led-call X (begin_call k l op side argument))
