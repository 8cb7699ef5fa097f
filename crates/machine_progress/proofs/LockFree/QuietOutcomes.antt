-- The lines that write nothing: how often the task may still disturb.
use mathlib.Core.Path.{◌≡◌}
use mathlib.Core.Logic.{◌≢◌, ◌⊎◌, inl, inr}
use mathlib.Core.List.{List}
use Prim.Native.Nat.{ℕ, ◌≤◌, ◌<◌}
use native.Mathlib.Omega.{arith}
use Rattle.machine.specs.Sides.{Side}
use Rattle.machine.specs.Values.{N, X, Y}
use Rattle.machine.specs.Operations.{idle, push}
use Rattle.machine.specs.Steps.{Step}
use Rattle.machine.specs.Tasks.{Task, no_node, with_c}
use Rattle.machine.proofs.Basics.Contradiction.{clash, refute}
use Rattle.machine.proofs.Words.Memories.{View, seen_in}
use Rattle.machine.proofs.Lines.Branches as B
use Rattle.machine.proofs.Linearizability.Model.Classes.{Class}
use Rattle.machine.proofs.Linearizability.Model.Invariant.{Lanes}
use Rattle.machine.proofs.Linearizability.Model.Phases.{MaybeChain, with-chain, without-chain, TaskOk}
use Rattle.machine.proofs.Linearizability.Writes.ChainGrowth.{head-some}
use Rattle.machine_progress.proofs.LockFree.Change.{past}
use Rattle.machine_progress.proofs.LockFree.Disturbances.{Room, Disturbs}
use Rattle.machine_progress.proofs.SoloBound.AtHat.{hat-N, hat-X, hat-Y, hat-value, hat-at, past-hat}
use Rattle.machine_progress.proofs.SoloBound.Budget.{SoonOrLate, soon, late, in-any-case}

-- Back, to 2 without a chain and to 15 with one.
pub back-disturbs : (T : ℕ) (s : Side) (m : View) (t u : Task) {n : ℕ} {st : Step}
    → B.Back t st
    → (t.D ≡ no_node → t.operation ≡ push)
    → SoonOrLate ((t.D ≡ no_node) × Room t.lane s m) 0 1 n
    → Disturbs st T s m (B.onward t u st) n
back-disturbs T s m t u (B.to-2 _ _) f (soon p h) = soon p.1 h
back-disturbs T s m t u (B.to-2 _ _) f (late h) = late h
back-disturbs T s m t u (B.to-15 ne) f (soon p h) = absurd (ne (f p.0) p.0)
back-disturbs T s m t u (B.to-15 ne) f (late h) = h

module _ (T k : ℕ) {L : ℕ} {s o : Side} {m : View} {class : ℕ → Class} {r : ℕ → List ℕ}
    (D : Lanes L s o m class r) (t : Task) (own : t.lane < L) (g f n : ℕ) where
  -- A task without a chain is a push.
  pub chain-op : MaybeChain k s m class t.D t.operation → t.D ≡ no_node → t.operation ≡ push
  chain-op (with-chain H) e = absurd (head-some H (D.lane t.lane own).structure.none_free e)
  chain-op (without-chain H p) e = p

  -- The hat off Y is at its index.
  hat-past : m.val (m.hats t.lane s) ≢ Y s → m.hats t.lane s ≡ past t.lane s m
  hat-past ne = cc (hat-at (D.lane t.lane own).structure ne, past-hat (D.lane t.lane own).structure)

  no-X-at-hat : Room t.lane s m → m.val (m.hats t.lane s) ≢ X s
  no-X-at-hat v x = let q = hat-past (λ y. refute (cc)) in refute (cc)

  abbrev Sought : Type 0
  Sought = SoonOrLate (Room t.lane s m ⊎ (t.A ≡ past t.lane s m) ⊎ (m.val t.A ≡ Y s)) 1 2 n

  on-N : m.val t.A ≡ N s → Sought → SoonOrLate (Room t.lane s m) 1 2 n
  on-N v (soon (inl p) l) = soon p l
  on-N v (soon (inr (inl e)) l) = soon (cc) l
  on-N v (soon (inr (inr y)) l) = clash (cc)
  on-N v (late l) = late l

  on-X : m.val t.A ≡ X s → Sought → SoonOrLate (Room t.lane s m ⊎ (t.A ≡ past t.lane s m)) 1 2 n
  on-X v (soon (inl p) l) = soon (inl p) l
  on-X v (soon (inr (inl e)) l) = soon (inr e) l
  on-X v (soon (inr (inr y)) l) = clash (cc)
  on-X v (late l) = late l

  on-link : SoonOrLate (Room t.lane s m) 1 2 n
      → SoonOrLate (Room t.lane s m ⊎ (m.out t.A ≡ past t.lane s m) ⊎ (m.val (m.out t.A) ≡ Y s)) 1 2 n
  on-link (soon p l) = soon (inl p) l
  on-link (late l) = late l

  more : {P : Type 0} {i : ℕ} → i ≤ n → SoonOrLate P 0 1 i → SoonOrLate P 0 1 n
  more l (soon p h) = soon p (omega arith)
  more l (late h) = late (omega arith)

  pub moved : (t.operation ≢ idle) → {st st' : Step} {u : Task} → B.Moves s o (seen_in t.lane s m) t g f st u st'
      → TaskOk k s o m class st t → Disturbs st T s m t n → Disturbs st' T s m (B.onward t u st') n
  moved busy B.rests h b = absurd (busy h.belongs)
  moved busy B.hat-2 h (soon v l) = soon (v, no-X-at-hat v) l
  moved busy B.hat-2 h (late l) = late l
  moved busy (B.none-3 _ _) h b = b
  moved busy (B.some-3 _ _) h b = b
  moved busy (B.lost-5 _) h b = b
  moved busy (B.end-8 _ v) h (soon p l) = absurd (p.1 v)
  moved busy (B.end-8 _ v) h (late l) = l
  moved busy (B.else-8 _ _) h (soon p l) = soon (h.chain.no-head, p.0) l
  moved busy (B.else-8 _ _) h (late l) = late l
  moved busy B.hat-67 h b = b
  moved busy (B.spur-68 _ _) h b = b
  moved busy (B.else-68 _ _ c) h b = back-disturbs T s m t t c (chain-op h.chain) b
  moved busy (B.link-69 _) h b = b
  moved busy (B.none-70 _ _ c) h b = back-disturbs T s m t (with_c t (m.out t.B)) c (chain-op h.chain) b
  moved busy (B.some-70 _ _) h b =
      record { splices = n; may-splice = b; may-move = soon (λ e. cc h.relies.B-inward) (omega arith) }
  moved busy (B.lost-72 _ _ c) h w =
      back-disturbs T s m t t c (chain-op h.chain) (more (in-any-case (omega arith) w.may-move) w.may-splice)
  moved busy (B.full-31 _ _) h b = b
  moved busy B.hat-15 h b =
      elim (hat-value (D.lane t.lane own).structure) [
        | hat-N v ↦ soon (inr (inl (hat-past (λ y. refute (cc))))) b
        | hat-X v ↦ soon (inr (inl (hat-past (λ y. refute (cc))))) b
        | hat-Y v ↦ soon (inr (inr v)) b
      ]
  moved busy (B.inner-17 _ v) h b = on-N v b
  moved busy (B.spur-17 _ _) h b = late (in-any-case (omega arith) b)
  moved busy (B.end-17 _ v) h b = on-X v b
  moved busy (B.else-17 _ _ _ _) h b = in-any-case (omega arith) b
  moved busy (B.none-18 _ _) h b = in-any-case (omega arith) b
  moved busy (B.some-18 _ _) h b = on-link b
  moved busy (B.lost-25 _) h b = in-any-case (omega arith) b
  moved busy B.hat-39 h b = tt
  moved busy (B.none-40 _ _) h b = tt
  moved busy (B.some-40 _ _) h b = tt
  moved busy (B.value-42 _ (B.to-51 _ _)) h b = tt
  moved busy (B.value-42 _ (B.to-48 _)) h b = tt
  moved busy (B.value-42 _ (B.to-39 _ _ _)) h b = tt
  moved busy (B.lost-48 _) h b = tt
  moved busy (B.lost-51 _) h b = tt
  moved busy (B.reached-54 _) h b = b
  moved busy (B.hat-54 _) h b = b
  moved busy (B.else-56 _ _) h b = b
  moved busy (B.reached-58 _ _ _) h b = b
  moved busy (B.some-58 _ _ _) h b = b
  moved busy (B.some-60 _ _) h b = b
  moved busy (B.lost-64 _ _) h b = tt
  moved busy (B.none-74 _ _) h b = tt
  moved busy (B.some-74 _ _) h b = tt
  moved busy (B.value-77 _) h b = tt
  moved busy (B.lost-78 _ _) h b = tt
  moved busy (B.none-81 _ _) h b = tt
  moved busy (B.end-81 _ _ _) h b = tt
  moved busy (B.some-81 _ _ _) h b = tt
