-- A node outside a set that is closed under links and holds the roots may be taken: it is in no chain.
use mathlib.Core.Path.{◌≡◌, refl}
use mathlib.Core.Logic.{◌≢◌}
use mathlib.Core.Bool.{Bool, true, false}
use mathlib.Core.List.{List}
use Prim.Native.Nat.{ℕ, ◌≤◌}
use native.Mathlib.Omega.{arith}
use Rattle.machine.specs.Sides.{Side}
use Rattle.machine.specs.Tasks.{Task, no_node, Register, in_d}
use Rattle.machine.specs.Registers.{among, holds}
use Rattle.machine.proofs.Basics.Contradiction.{refute}
use Rattle.machine.proofs.Words.Memories.{View, view}
use Rattle.machine.proofs.Linearizability.Model.Classes.{Class, new}
use Rattle.machine.proofs.Linearizability.Model.Chain.{HasChainIn}
use Rattle.machine.proofs.Linearizability.Writes.ChainGrowth.{head-some}
use Rattle.machine.proofs.Linearizability.Model.Held.{closed-view, line-held}
use Rattle.machine.proofs.Linearizability.Model.Phases.{
  Phase,
  resting,
  pushing,
  growing,
  building,
  unspurring,
  popping,
  removing,
  with-chain,
  without-chain,
  leading,
  Chains,
  facts,
  leading-holds,
}
use Rattle.machine.proofs.Linearizability.Model.Invariant.{Invariant, none-is-free, Roots}
use Rattle.machine.proofs.Linearizability.Writes.Take.{TakeOk}

module _ {L : ℕ} {held : ℕ → Bool} {M : View} {ts : ℕ → Task} {class : ℕ → Class} {r : ℕ → List ℕ}
    (I : Invariant L M ts class r) (R : Roots L held M ts) where
  chain_held : (j : ℕ) (s : Side)
      → holds (ts j).step in_d ≡ true
      → HasChainIn j s (view s M) class (ts j).D
      → (x : ℕ)
      → class x ≡ new j
      → held x ≡ true
  chain_held j s d H x h =
      let C = H.chain in
      let l = C.place-le x h in
      let D-held = R.registers j in_d d (head-some H (none-is-free I)) in
      let e = C.node-place x h in
      cc (line-held (closed-view s R.closed) C.links some 0 (H.place x) (omega arith) l (cc H.head))
    where
      some : (i : ℕ) → i ≤ H.m → H.node i ≢ no_node
      some i q e = refute (cc (H.chain.is_new i q, none-is-free I))

  new-held : (j x : ℕ) → class x ≡ new j → held x ≡ true
  new-held j x h = go (facts (ts j).step).phase (leading-holds (ts j).step) (I.task-ok j).chain
    where
      s : Side
      s = (ts j).side

      go : (p : Phase) → ((y : Register) → among (leading p) y ≡ true → holds (ts j).step y ≡ true)
          → Chains p j s (view s M) class (ts j)
          → held x ≡ true
      go resting d H = absurd (H.none-new x h)
      go pushing d H = absurd (H.none-new x h)
      go growing d H = absurd (H.none-new x h)
      go building d H = chain_held j s (d in_d refl) H x h
      go unspurring d (with-chain H) = chain_held j s (d in_d refl) H x h
      go unspurring d (without-chain H e) = absurd (H.none-new x h)
      go popping d H = absurd (H.none-new x h)
      go removing d H = absurd (H.none-new x h)

  pub take-ok : (s : Side) (f : ℕ) → held f ≡ false → TakeOk L held (view s M) class f
  take-ok s f h =
      record {
        closed = closed-view s R.closed;
        not-held = h;
        not_new = λ j q. refute (cc (new-held j f q));
      }
