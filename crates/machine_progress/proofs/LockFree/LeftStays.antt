-- The ticks that a task has left stay as many through a calm change by another task.
use mathlib.Core.Path.{◌≡◌, refl}
use mathlib.Core.Logic.{◌≢◌, inl, inr}
use mathlib.Core.Bool.{Bool, true}
use Prim.Native.Nat.{ℕ, ◌+◌, ◌≤◌, ◌<◌}
use native.Mathlib.Omega.{arith}
use Rattle.machine.specs.Sides.{Side}
use Rattle.machine.specs.Values.{Value, Y}
use Rattle.machine.specs.Steps.{Step, rest}
use Rattle.machine.specs.Steps as Steps
use Rattle.machine.specs.Tasks.{Task, no_node, in_a, in_b}
use Rattle.machine.specs.Registers.{holds}
use Rattle.machine.proofs.Basics.Contradiction.{refute}
use Rattle.machine.proofs.Words.Memories.{View}
use Rattle.machine.proofs.Linearizability.Model.Held.{ClosedSet}
use Rattle.machine.proofs.Linearizability.Model.Classes.{Class, main, spur, Old}
use Rattle.machine.proofs.Linearizability.Model.Structure.{linked, cut_off, Frame, Structure, InLanes}
use Rattle.machine.proofs.Linearizability.Model.Nodes.{old-some, own-mark-not-far}
use Rattle.machine.proofs.Linearizability.Model.Guarantee.{Guarantee}
use Rattle.machine.proofs.Linearizability.Model.Reliance.{PopPair}
use Rattle.machine.proofs.Linearizability.Model.Phases.{TaskOk}
use Rattle.machine.proofs.Linearizability.Model.Invariant.{RegistersHeld}
use Rattle.machine_progress.proofs.SoloBound.AtHat.{
  at-hat,
  on-path,
  path-at,
  hat-N,
  hat-X,
  hat-Y,
  hat-value,
  j,
  j-next,
  inn-hat,
}
use Rattle.machine_progress.proofs.SoloBound.Budget.{
  SoonOrLate,
  soon,
  late,
  start-N,
  start-off-Y,
  start-anywhere,
  Pushing,
  push-N,
  push-X,
  push-Y,
  push-stale,
  choose-X,
  choose-Y,
  choose-stale,
  OnPath,
  seek-sure,
  seek-Y,
  seek-stale,
  step-sure,
  step-stale,
  AtEnd,
  Walking,
  Reading,
  reads-Y,
  reads,
  Marking,
  marks-Y,
  marks,
  fails-once,
  fails,
  Left,
}
use Rattle.machine_progress.proofs.LockFree.Change.{kept, marked, Calm}
use Rattle.machine_progress.proofs.LockFree.Calmness.{
  hat-inn-same,
  hat-val-same,
  behind-words,
  past_words,
  Y-kept,
}

module _ {L : ℕ} {held : ℕ → Bool} {s o : Side} {m m' : View} {class class' : ℕ → Class} {F : Frame}
    (t : Task) (Z : Structure t.lane s o m class F) (every : InLanes s o m class) (H : ClosedSet L held m)
    (own : t.lane < L) (C : Calm held class m m')
    (G : Guarantee held s m.out m.inn m.val class m'.out m'.inn m'.val class') where
  hat-value-same : m'.val (m'.hats t.lane s) ≡ m.val (m.hats t.lane s)
  hat-value-same = cc (C.same_hats, hat-val-same Z every H own C G)

  off-Y : m.val (m.hats t.lane s) ≢ Y s → m'.val (m'.hats t.lane s) ≢ Y s
  off-Y ne y = ne (cc (hat-value-same))

  path-main : {i x : ℕ} → OnPath t.lane s m i x → class x ≡ main t.lane
  path-main {i} P = let w = path-at Z P in let q = w.0 in cc (Z.main_list.is-main (F.b + i) w.1)

  path-stays : {i x : ℕ} → OnPath t.lane s m i x → OnPath t.lane s m' i x
  path-stays {x = x} (at-hat e ne) = at-hat {x = x} (cc C.same_hats) (off-Y ne)
  path-stays (on-path {x = x} {y = y} P v e) =
      let w = C.main-same x t.lane (path-main P) in
      on-path {y = y} (path-stays P) (cc w.same-val) (cc w.same_out)

  end_stays : {x : ℕ} → AtEnd t.lane s m x → AtEnd t.lane s m' x
  end_stays {x} E =
      record {
        links = E.links;
        path = path-stays E.path;
        is-X = cc ((C.main-same x t.lane (path-main E.path)).same-val, E.is-X);
      }

  end-out : {x : ℕ} → AtEnd t.lane s m x → m'.out x ≡ m.out x
  end-out {x} E = (C.main-same x t.lane (path-main E.path)).same_out

  -- What a pop found at its hat.
  module _ {A B : ℕ} (P : PopPair o m class A B) (e : m.hats t.lane s ≡ A) (marked : m.val B ≢ Y o) where
    found-behind : B ≡ m.inn (m.hats t.lane s)
    found-behind =
        elim P.B-precedes [
          | inl c ↦ elim (hat-value Z) [
            | hat-N v ↦ absurd (own-mark-not-far Z A (cc) c)
            | hat-X v ↦ absurd (own-mark-not-far Z A (cc) c)
            | hat-Y v ↦ absurd (own-mark-not-far Z A (cc) c)
          ]
          | inr (linked q) ↦ cc
          | inr (cut_off c v) ↦ absurd (marked v)
        ]

    found-same : m'.val B ≡ m.val B
    found-same = let q = found-behind in cc (behind-words Z every H own C G).same-val

  -- A remove's walk, and the node that it reads and marks.
  walk-stays : {extra i x c d : ℕ} → held x ≡ true → Old class x → d ≤ c → Walking extra m.out x c i
      → Walking extra m'.out x d i
  walk-stays {x = x} r h le w =
      record {
        links = w.links;
        ends = C.out-ends w.links x r h w.ends;
        within = omega (arith, w.within);
      }

  module _ {B : ℕ} (r : held B ≡ true) (c : class B ≡ spur s) where
    B-old : Old class B
    B-old = cc

    reading-stays : {extra i : ℕ} → Reading extra s m B i → Reading extra s m' B i
    reading-stays (reads-Y v w) = reads-Y (G.Y-stays B r c v) (walk-stays r B-old (omega arith) w)
    reading-stays (reads w) = reads (walk-stays r B-old (omega arith) w)

    -- Another may have marked B after it was read: two ticks more.
    marking-stays : {extra i : ℕ} → 2 ≤ extra → {v : Value} → Marking extra s m B v i → Marking extra s m' B v i
    marking-stays two (marks-Y e y w) =
        let y' = G.Y-stays B r c y in marks-Y (cc) y' (walk-stays r B-old (omega arith) w)
    marking-stays two (marks e w) =
        elim (C.values B r B-old) [
          | kept q ↦ marks (cc) (walk-stays r B-old (omega arith) w)
          | marked d q ↦ fails-once (cc) (walk-stays r B-old (omega arith) w)
        ]
    marking-stays two (fails-once y w) = fails-once (G.Y-stays B r c y) (walk-stays r B-old (omega arith) w)
    marking-stays two (fails w) = fails (walk-stays r B-old (omega arith) w)

  A-held : (t.A ≢ no_node → held t.A ≡ true) → Old class t.A → held t.A ≡ true
  A-held u h = u (old-some Z t.A h)

  B-held : (t.B ≢ no_node → held t.B ≡ true) → Old class t.B → held t.B ≡ true
  B-held u h = u (old-some Z t.B h)

  B-walk : {extra i c : ℕ} → (t.B ≢ no_node → held t.B ≡ true) → class t.B ≡ spur s
      → Walking extra m.out t.B c i
      → Walking extra m'.out t.B c i
  B-walk u q w = walk-stays (B-held u (cc)) (cc) (omega arith) w

  A-walk : {extra i c : ℕ} → (t.A ≢ no_node → held t.A ≡ true) → Old class t.A
      → Walking extra m.out t.A c i
      → Walking extra m'.out t.A c i
  A-walk u h w = walk-stays (A-held u h) h (omega arith) w

  soon-stays : {P Q : Type 0} {x y i : ℕ} → (P → Q) → SoonOrLate P x y i → SoonOrLate Q x y i
  soon-stays f (soon p h) = soon (f p) h
  soon-stays f (late h) = late h

  pushing-stays : {x y z u i : ℕ} → Pushing t.lane s m t.A x y z u i → Pushing t.lane s m' t.A x y z u i
  pushing-stays (push-N e v h) = push-N (cc C.same_hats) (cc (C.same_hats, hat-value-same)) (omega arith)
  pushing-stays (push-X e v h) = push-X (cc C.same_hats) (cc (C.same_hats, hat-value-same)) (omega arith)
  pushing-stays (push-Y e v h) = push-Y (cc C.same_hats) (cc (C.same_hats, hat-value-same)) (omega arith)
  pushing-stays (push-stale h) = push-stale (omega arith)

  pub left-stays : (extra i S g k : ℕ) → 2 ≤ extra → (st : Step)
      → RegistersHeld held (holds st) t
      → TaskOk k s o m class st t
      → Left extra st S g s m t i
      → Left extra st S g s m' t i
  left-stays x i S g k two rest R h b = b
  left-stays x i S g k two Steps.line2 R h (start-N v c) = start-N (cc (hat-value-same)) (omega arith)
  left-stays x i S g k two Steps.line2 R h (start-off-Y ne c) = start-off-Y (off-Y ne) (omega arith)
  left-stays x i S g k two Steps.line2 R h (start-anywhere c) = start-anywhere (omega arith)
  left-stays x i S g k two Steps.line3 R h b = pushing-stays b
  left-stays x i S g k two Steps.line5 R h b = pushing-stays b
  left-stays x i S g k two Steps.line8 R h (choose-X e v c) =
      choose-X (cc C.same_hats) (cc (C.same_hats, hat-value-same)) (omega arith)
  left-stays x i S g k two Steps.line8 R h (choose-Y v c) =
      choose-Y (Y-kept Z every H own C G t.A (A-held (R in_a refl) h.relies) h.relies v) (omega arith)
  left-stays x i S g k two Steps.line8 R h (choose-stale c) = choose-stale (omega arith)
  left-stays x i S g k two Steps.line67 R h b = omega arith
  left-stays x i S g k two Steps.line68 R h b = soon-stays (λ e. cc C.same_hats) b
  left-stays x i S g k two Steps.line69 R h b = soon-stays (λ e. cc C.same_hats) b
  left-stays x i S g k two Steps.line70 R h b =
      soon-stays (λ p. let e = p.0 in let q = p.1 in (cc C.same_hats, cc (hat-inn-same Z every H own C G))) b
  left-stays x i S g k two Steps.line72 R h b =
      soon-stays (λ p.
      let e = p.0 in
      let q = inn-hat Z in
      let j-main : class (m.inn t.A) ≡ main t.lane =
      cc (Z.main_list.is-main (j Z) (omega (arith, j-next Z, Z.b≤n))) in (
        cc C.same_hats,
        λ y.
            elim (h.relies.C-follows t.lane j-main) [
              | inl f ↦ p.1 (cc (past_words Z every H own C G).same-val)
              | inr f ↦ p.1 f.is-Y
            ],
      )) b
  left-stays x i S g k two Steps.line28 R h b = soon-stays (λ v. cc (hat-value-same)) b
  left-stays x i S g k two Steps.line31 R h b =
      record { below = b.below; when = soon-stays off-Y b.when }
  left-stays x i S g k two Steps.line15 R h b = soon-stays off-Y b
  left-stays x i S g k two Steps.line17 R h (seek-sure P c) = seek-sure (path-stays P) (omega arith)
  left-stays x i S g k two Steps.line17 R h (seek-Y v c) =
      seek-Y (Y-kept Z every H own C G t.A (A-held (R in_a refl) h.relies) h.relies v) (omega arith)
  left-stays x i S g k two Steps.line17 R h (seek-stale {j = d} w c) =
      seek-stale (C.out-ends d t.A (A-held (R in_a refl) h.relies) h.relies w) (omega arith)
  left-stays x i S g k two Steps.line18 R h (step-sure P v c) =
      step-sure (path-stays P) (cc (C.main-same t.A t.lane (path-main P)).same-val) (omega arith)
  left-stays x i S g k two Steps.line18 R h (step-stale {j = d} w c) =
      step-stale (C.out-ends d t.A (A-held (R in_a refl) h.relies) h.relies w) (omega arith)
  left-stays x i S g k two Steps.line24 R h b = soon-stays end_stays b
  left-stays x i S g k two Steps.line25 R h b =
      soon-stays (λ p. let q = p.1 in (end_stays p.0, cc (end-out p.0))) b
  left-stays x i S g k two Steps.line39 R h b = omega arith
  left-stays x i S g k two Steps.line40 R h b = soon-stays (λ e. cc C.same_hats) b
  left-stays x i S g k two Steps.line42 R h b =
      soon-stays (λ p. let e = p.0 in let q = p.1 in (cc C.same_hats, cc (hat-inn-same Z every H own C G))) b
  left-stays x i S g k two Steps.line48 R h b =
      soon-stays (λ p.
      let e = p.0 in
      let v = p.1 in
      let off : m.val t.B ≢ Y o =
      λ y. elim h.relies.read-mark [ inl u ↦ refute (cc) | inr u ↦ refute (cc) ] in
      (cc C.same_hats, cc (found-same h.relies.pair e off))) b
  left-stays x i S g k two Steps.line51 R h b =
      soon-stays (λ p.
      let e = p.0 in
      let v = p.1 in
      let u = h.relies.read-bag in
      let off : m.val t.B ≢ Y o = λ y. refute (cc) in
      (cc C.same_hats, cc (found-same h.relies.pair e off))) b
  left-stays x i S g k two Steps.line54 R h b = b
  left-stays x i S g k two Steps.line56 R h b = A-walk (R in_a refl) h.relies b
  left-stays x i S g k two Steps.line58 R h b = A-walk (R in_a refl) h.relies b
  left-stays x i S g k two Steps.line60 R h b = A-walk (R in_a refl) h.relies b
  left-stays x i S g k two Steps.line62 R h b =
      walk-stays (B-held (R in_b refl) h.relies.B-old) h.relies.B-old (omega arith) b
  left-stays x i S g k two Steps.line64 R h b = B-walk (R in_b refl) h.relies.B-spur b
  left-stays x i S g k two Steps.line74 R h b = B-walk (R in_b refl) h.relies b
  left-stays x i S g k two Steps.line77 R h b =
      reading-stays (B-held (R in_b refl) (cc h.relies.B-spur)) h.relies.B-spur b
  left-stays x i S g k two Steps.line78 R h b =
      marking-stays (B-held (R in_b refl) (cc h.relies.B-spur)) h.relies.B-spur two b
  left-stays x i S g k two Steps.line79 R h b = B-walk (R in_b refl) h.relies.B-spur b
  left-stays x i S g k two Steps.line81 R h b = let c = h.relies in A-walk (R in_a refl) (cc) b
  left-stays x i S g k two Steps.line82 R h b = b
