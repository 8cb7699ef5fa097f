-- Every line, seen from the side of the task that ticks: a tick that goes on leaves one tick less.
use mathlib.Core.Path.{◌≡◌, refl, sym, subst}
use mathlib.Core.Logic.{◌≢◌, ◌⊎◌, inl, inr}
use mathlib.Core.List.{List, [], ◌∷◌}
use Prim.Native.Nat.{ℕ, suc, ◌+◌, ◌*◌, ◌-◌, ◌≤◌}
use native.Mathlib.Omega.{arith}
use Rattle.machine.specs.Sides.{Side}
use Rattle.machine.specs.Values.{Value, N, X, Y}
use Rattle.machine.specs.Operations.{push, add}
use Rattle.machine.specs.Steps.{Step}
use Rattle.machine.specs.Tasks.{Task, no_node, with_c}
use Rattle.machine.specs.Lines.{Write, hat≔, Effect, act}
use Rattle.machine.proofs.Basics.Contradiction.{clash, refute}
use Rattle.machine.proofs.Basics.Updates.{Wrote, it-is, it-is-not, update, update-wrote, wrote?, update_hat-same}
use Rattle.machine.proofs.Words.Memories.{View, seen_in, written}
use Rattle.machine.proofs.Lines.Branches as B
use Rattle.machine.proofs.Linearizability.Model.Classes.{Class}
use Rattle.machine.proofs.Linearizability.Model.Phases.{TaskOk}
use Rattle.machine.proofs.Linearizability.Model.Invariant.{Lane}
use Rattle.machine_progress.proofs.SoloBound.Walks.{EndsWithin, ends_on, ends-cut}
use Rattle.machine_progress.proofs.SoloBound.AtHat.{Popped, a-bag, far-N, far-X, behind-some, behind-value}
use Rattle.machine_progress.proofs.SoloBound.AtHat.{at-hat, on-path, path-at, path-leads, path-value, path-ready}
use Rattle.machine_progress.proofs.SoloBound.AtHat.{hat-N, hat-X, hat-Y, hat-value, hat-leads, past-some}
use Rattle.machine_progress.proofs.SoloBound.AtHat.{past-off-Y}
use Rattle.machine_progress.proofs.SoloBound.Budget.{soon, late, walk_ticks, Walking, reads-Y, reads, marks-Y}
use Rattle.machine_progress.proofs.SoloBound.Budget.{marks, fails-once, fails, start-N, start-off-Y}
use Rattle.machine_progress.proofs.SoloBound.Budget.{start-anywhere, push-N, push-X, push-Y, push-stale}
use Rattle.machine_progress.proofs.SoloBound.Budget.{choose-X, choose-Y, choose-stale, Seeking, seek-sure}
use Rattle.machine_progress.proofs.SoloBound.Budget.{seek-Y, seek-stale, step-sure, step-stale, Left, Spends}

-- The same walk with other numbers, the walk one link on, and the walk after a cut.
module _ {extra : ℕ} {out : ℕ → ℕ} {x c n : ℕ} (w : Walking extra out x c n) where
  same-walk : {d k : ℕ} → (walk_ticks extra w.links + c ≤ n → walk_ticks extra w.links + d ≤ k)
      → Walking extra out x d k
  same-walk h = record { links = w.links; ends = w.ends; within = h w.within }

  next-walk : {d k : ℕ} → out x ≢ no_node → ((j : ℕ) → walk_ticks extra (suc j) + c ≤ n → walk_ticks extra j + d ≤ k)
      → Walking extra out (out x) d k
  next-walk ne h =
      let r = ends_on ne w.ends in
      let here = subst (λ (i : ℕ). walk_ticks extra i + c ≤ n) (sym r.1) w.within in
      record { links = r.0; ends = r.2; within = h r.0 here }

  cut-walk : {d k a : ℕ} {out' : ℕ → ℕ} → Wrote out a no_node out'
      → (walk_ticks extra w.links + c ≤ n → walk_ticks extra w.links + d ≤ k)
      → Walking extra out' x d k
  cut-walk wrote h = record { links = w.links; ends = ends-cut wrote w.ends; within = h w.within }

module _ (k extra S g : ℕ) {s o : Side} {m : View} {class : ℕ → Class} {r : List ℕ}
    (t : Task) (L : Lane t.lane s o m class r) (size : L.frame.n ≤ S) (short : (x : ℕ) → EndsWithin m.out S x)
    (f n : ℕ) (few : (t.operation ≡ push) ⊎ (t.operation ≡ add) → g ≤ 64) where
  -- One tick less, at a step, after writes.
  abbrev Less : List Write → Task → Step → Type 0
  Less l u st = (1 ≤ n) × Left extra st S g s (written t.lane s l m) (B.onward t u st) (n - 1)

  -- Back, to 2 or to 15, with a hat off Y, and with any.
  back-off-Y : (l : List Write) (u : Task) {st : Step} → 2 * S + 78 ≤ n
      → (written t.lane s l m).val ((written t.lane s l m).hats t.lane s) ≢ Y s → B.Back t st → Less l u st
  back-off-Y l u h ne (B.to-2 _ _) = (omega arith, start-off-Y ne (omega arith))
  back-off-Y l u h ne (B.to-15 _) = (omega arith, soon ne (omega arith))

  back-anywhere : (l : List Write) (u : Task) {st : Step} → 2 * S + 87 ≤ n → B.Back t st → Less l u st
  back-anywhere l u h (B.to-2 _ _) = (omega arith, start-anywhere (omega arith))
  back-anywhere l u h (B.to-15 _) = (omega arith, late (omega arith))

  -- A value other than Y, written anywhere, leaves a hat off Y there.
  still-off-Y : (x : ℕ) (v : Value) → v ≢ Y s → m.val (m.hats t.lane s) ≢ Y s
      → update m.val x v (m.hats t.lane s) ≢ Y s
  still-off-Y x v nv ne y =
      elim (wrote? (update-wrote m.val x v) (m.hats t.lane s)) [
        | it-is e q ↦ nv (cc)
        | it-is-not e q ↦ ne (cc)
      ]

  seeks : (k : ℕ) → m.val (m.hats t.lane s) ≢ Y s → 2 * S + 6 ≤ k → Seeking S t.lane s m (m.hats t.lane s) k
  seeks k ne h = seek-sure (at-hat refl ne) (omega arith)

  hat-N-after : (m.val (m.hats t.lane s) ≡ N s) ⊎ (m.hats t.lane s ≡ t.A)
      → update m.val t.A (N s) (m.hats t.lane s) ≡ N s
  hat-N-after R =
      elim (wrote? (update-wrote m.val t.A (N s)) (m.hats t.lane s)) [
        | it-is e q ↦ q
        | it-is-not ne q ↦ elim R [ inl u ↦ cc | inr e ↦ absurd (ne e) ]
      ]

  from_hat : {c k : ℕ} → walk_ticks extra S + c ≤ k → Walking extra m.out (m.hats t.lane s) c k
  from_hat l = record { links = S; ends = short (m.hats t.lane s); within = l }

  moved : {st st' : Step} {u : Task} → B.Moves s o (seen_in t.lane s m) t g f st u st'
      → TaskOk k s o m class st t → Left extra st S g s m t n → Less [] u st'
  moved B.rests h b = absurd b
  moved B.hat-2 h (start-N v l) = (omega arith, push-N refl v (omega arith))
  moved B.hat-2 h (start-off-Y ne l) = (
    omega arith,
    elim (hat-value L.structure) [
      | hat-N v ↦ push-N refl v (omega arith)
      | hat-X v ↦ push-X refl v (omega arith)
      | hat-Y v ↦ absurd (ne v)
    ],
  )
  moved B.hat-2 h (start-anywhere l) = (
    omega arith,
    elim (hat-value L.structure) [
      | hat-N v ↦ push-N refl v (omega arith)
      | hat-X v ↦ push-X refl v (omega arith)
      | hat-Y v ↦ push-Y refl v (omega arith)
    ],
  )
  moved (B.none-3 _ q) h (push-N e v l) = absurd (hat-leads L.structure (cc) (cc))
  moved (B.none-3 _ q) h (push-X e v l) = (omega arith, choose-X e v (omega arith))
  moved (B.none-3 _ q) h (push-Y e v l) = (omega arith, choose-Y v (omega arith))
  moved (B.none-3 _ q) h (push-stale l) = (omega arith, choose-stale (omega arith))
  moved (B.some-3 _ q) h (push-N e v l) = (omega arith, push-N e v (omega arith))
  moved (B.some-3 _ q) h (push-X e v l) = (omega arith, push-X e v (omega arith))
  moved (B.some-3 _ q) h (push-Y e v l) = (omega arith, push-Y e v (omega arith))
  moved (B.some-3 _ q) h (push-stale l) = (omega arith, push-stale (omega arith))
  moved (B.lost-5 ne) h (push-N e v l) = absurd (ne (e, v))
  moved (B.lost-5 ne) h (push-X e v l) = (omega arith, choose-X e v (omega arith))
  moved (B.lost-5 ne) h (push-Y e v l) = (omega arith, choose-Y v (omega arith))
  moved (B.lost-5 ne) h (push-stale l) = (omega arith, choose-stale (omega arith))
  moved (B.end-8 _ q) h (choose-X e v l) = (omega arith, soon (cc) (omega arith))
  moved (B.end-8 _ q) h (choose-Y v l) = clash (cc)
  moved (B.end-8 _ q) h (choose-stale l) = (omega arith, late (omega arith))
  moved (B.else-8 _ q) h (choose-X e v l) = absurd (q v)
  moved (B.else-8 _ q) h (choose-Y v l) = (omega arith, omega arith)
  moved (B.else-8 _ q) h (choose-stale l) = (omega arith, omega arith)
  moved B.hat-67 h l = (omega arith, soon refl (omega arith))
  moved (B.spur-68 _ q) h (soon e l) = (omega arith, soon e (omega arith))
  moved (B.spur-68 _ q) h (late l) = (omega arith, late (omega arith))
  moved (B.else-68 _ q b) h (soon e l) = back-off-Y [] t (omega arith) (λ y. q (cc)) b
  moved (B.else-68 _ q b) h (late l) = back-anywhere [] t (omega arith) b
  moved (B.link-69 _) h (soon e l) = (omega arith, soon (e, refl) (omega arith))
  moved (B.link-69 _) h (late l) = (omega arith, late (omega arith))
  moved (B.none-70 _ q b) h (soon e l) = let at = e.0 in let inward = e.1 in absurd (past-some L.structure (cc))
  moved (B.none-70 _ q b) h (late l) = back-anywhere [] (with_c t (m.out t.B)) (omega arith) b
  moved (B.some-70 _ q) h (soon e l) =
      let inward = e.1 in (omega arith, soon (e.0, λ y. past-off-Y L.structure (cc)) (omega arith))
  moved (B.some-70 _ q) h (late l) = (omega arith, late (omega arith))
  moved (B.lost-72 _ q b) h (soon e l) = absurd (q e.0)
  moved (B.lost-72 _ q b) h (late l) = back-anywhere [] t (omega arith) b
  moved (B.full-31 _ _) h G =
      let below = G.below in
      elim G.when [
        | soon ne l ↦ (omega arith, soon ne (omega arith))
        | late l ↦ (omega arith, late (omega arith))
      ]
  moved B.hat-15 h (soon ne l) = (omega arith, seeks (n - 1) ne (omega arith))
  moved B.hat-15 h (late l) = (
    omega arith,
    elim (hat-value L.structure) [
      | hat-N v ↦ seeks (n - 1) (λ y. refute (cc)) (omega arith)
      | hat-X v ↦ seeks (n - 1) (λ y. refute (cc)) (omega arith)
      | hat-Y v ↦ seek-Y v (omega arith)
    ],
  )
  moved (B.inner-17 _ v) h (seek-sure P l) =
      let links = (path-at L.structure P).1 in (omega (arith, size), step-sure P v (omega arith))
  moved (B.inner-17 _ v) h (seek-Y y l) = clash (cc)
  moved (B.inner-17 _ v) h (seek-stale W l) = (omega arith, step-stale W (omega arith))
  moved (B.spur-17 _ v) h (seek-sure P l) =
      elim (path-value L.structure P) [ inl u ↦ clash (cc) | inr u ↦ clash (cc) ]
  moved (B.spur-17 _ v) h (seek-Y y l) = (omega arith, omega arith)
  moved (B.spur-17 _ v) h (seek-stale W l) = (omega arith, omega arith)
  moved (B.end-17 _ v) h (seek-sure {i} P l) =
      let links = (path-at L.structure P).1 in
      (omega (arith, size), soon (record { links = i; path = P; is-X = v }) (omega (arith, size)))
  moved (B.end-17 _ v) h (seek-Y y l) = clash (cc)
  moved (B.end-17 _ v) h (seek-stale W l) = (omega arith, late (omega arith))
  moved (B.else-17 _ nn ny nx) h (seek-sure P l) =
      elim (path-value L.structure P) [ inl u ↦ absurd (nn u) | inr u ↦ absurd (nx u) ]
  moved (B.else-17 _ nn ny nx) h (seek-Y y l) = absurd (ny y)
  moved (B.else-17 _ nn ny nx) h (seek-stale W l) = (omega arith, late (omega arith))
  moved (B.none-18 _ q) h (step-sure P v l) = absurd (path-leads L.structure P v q)
  moved (B.none-18 _ q) h (step-stale W l) = (omega arith, late (omega arith))
  moved (B.some-18 _ q) h (step-sure P v l) =
      let links = (path-at L.structure P).1 in
      (omega (arith, size), seek-sure (on-path P v refl) (omega (arith, size)))
  moved (B.some-18 _ q) h (step-stale W l) =
      let w = ends_on q W in let e = w.1 in (omega arith, seek-stale w.2 (omega arith))
  moved (B.lost-25 ne) h (soon e l) = absurd (ne (e.1, e.0.is-X))
  moved (B.lost-25 ne) h (late l) = (omega arith, late (omega arith))
  moved B.hat-39 h l = (omega arith, soon refl (omega arith))
  moved (B.none-40 _ q) h (soon e l) = absurd (behind-some L.structure (cc))
  moved (B.none-40 _ q) h (late l) = (omega arith, omega arith)
  moved (B.some-40 _ q) h (soon e l) = (omega arith, soon (e, refl) (omega arith))
  moved (B.some-40 _ q) h (late l) = (omega arith, late (omega arith))
  moved (B.value-42 _ (B.to-51 b v)) h (soon e l) = (omega arith, soon (e.0, refl) (omega arith))
  moved (B.value-42 _ (B.to-51 b v)) h (late l) = (omega arith, late (omega arith))
  moved (B.value-42 _ (B.to-48 v)) h (soon e l) = (omega arith, soon (e.0, refl) (omega arith))
  moved (B.value-42 _ (B.to-48 v)) h (late l) = (omega arith, late (omega arith))
  moved (B.value-42 _ (B.to-39 nb nn nx)) h (soon e l) =
      let q = e.0 in
      let u = e.1 in
      let read : Popped o (m.val t.B) = rw (u, ← q) (behind-value L.structure) in
      elim read [ a-bag b p ↦ absurd (nb b p) | far-N p ↦ absurd (nn p) | far-X p ↦ absurd (nx p) ]
  moved (B.value-42 _ (B.to-39 nb nn nx)) h (late l) = (omega arith, omega arith)
  moved (B.lost-48 ne) h (soon e l) = absurd (ne e)
  moved (B.lost-48 ne) h (late l) = (omega arith, omega arith)
  moved (B.lost-51 ne) h (soon e l) = absurd (ne e)
  moved (B.lost-51 ne) h (late l) = (omega arith, omega arith)
  moved (B.reached-54 _) h l = (omega arith, from_hat (omega arith))
  moved (B.hat-54 _) h l = (omega arith, from_hat (omega arith))
  moved (B.else-56 _ _) h w = (omega (arith, w.within), same-walk w (λ l. omega arith))
  moved (B.reached-58 _ ne _) h w = (omega (arith, w.within), next-walk w ne (λ j l. omega arith))
  moved (B.some-58 _ ne _) h w = (omega (arith, w.within), next-walk w ne (λ j l. omega arith))
  moved (B.some-60 _ ne) h w = (omega (arith, w.within), next-walk w ne (λ j l. omega arith))
  moved (B.lost-64 _ _) h w = (omega (arith, w.within), same-walk w (λ l. omega arith))
  moved (B.none-74 _ _) h w = (omega (arith, w.within), omega (arith, w.within))
  moved (B.some-74 _ ne) h w = (omega (arith, w.within), reads (next-walk w ne (λ j l. omega arith)))
  moved (B.value-77 _) h (reads-Y v w) = (omega (arith, w.within), marks-Y refl v (same-walk w (λ l. omega arith)))
  moved (B.value-77 _) h (reads w) = (omega (arith, w.within), marks refl (same-walk w (λ l. omega arith)))
  moved (B.lost-78 _ ne) h (marks-Y e v w) = absurd (ne e)
  moved (B.lost-78 _ ne) h (marks e w) = absurd (ne e)
  moved (B.lost-78 _ ne) h (fails-once v w) = (omega (arith, w.within), reads-Y v (same-walk w (λ l. omega arith)))
  moved (B.lost-78 _ ne) h (fails w) = (omega (arith, w.within), reads (same-walk w (λ l. omega arith)))
  moved (B.none-81 _ _) h w = (omega (arith, w.within), omega (arith, w.within))
  moved (B.end-81 _ _ _) h w = (omega (arith, w.within), omega (arith, w.within))
  moved (B.some-81 _ ne _) h w = (omega (arith, w.within), reads (next-walk w ne (λ j l. omega arith)))

  wrote : {st st' : Step} {l : List Write} {u : Task} → B.Writes s o (seen_in t.lane s m) t g f st l u st'
      → TaskOk k s o m class st t → Left extra st S g s m t n → Less l u st'
  wrote (B.done-72 _ q b) h (soon e l) =
      back-off-Y (hat≔ t.C ∷ []) t (omega arith) (rw (update_hat-same m.hats t.lane s t.C) e.1) b
  wrote (B.done-72 _ q b) h (late l) = back-anywhere (hat≔ t.C ∷ []) t (omega arith) b
  wrote (B.reached-28 _ _) h (soon v l) =
      (omega arith, soon (still-off-Y f (X s) (λ q. refute (cc)) (λ y. refute (cc))) (omega arith))
  wrote (B.reached-28 _ _) h (late l) = (omega arith, late (omega arith))
  wrote (B.taken-28 _ some) h (soon v l) =
      let most = few h.belongs in
      let off = still-off-Y f (X s) (λ q. refute (cc)) (λ y. refute (cc)) in
      (omega arith, record { below = omega arith; when = soon off (omega arith) })
  wrote (B.taken-28 _ some) h (late l) =
      let most = few h.belongs in (omega arith, record { below = omega arith; when = late (omega arith) })
  wrote (B.reached-31 _ _ e) h G =
      elim G.when [
        | soon ne l ↦ (omega arith, soon (still-off-Y f (N s) (λ q. refute (cc)) ne) (omega arith))
        | late l ↦ (omega arith, late (omega arith))
      ]
  wrote (B.taken-31 _ _ more) h G =
      let below = G.below in
      elim G.when [
        | soon ne l ↦
            let off = still-off-Y f (N s) (λ q. refute (cc)) ne in
            (omega arith, record { below = omega arith; when = soon off (omega arith) })
        | late l ↦ (omega arith, record { below = omega arith; when = late (omega arith) })
      ]
  wrote (B.link-24 _ _) h (soon e l) =
      (omega arith, soon (record { links = e.links; path = e.path; is-X = e.is-X }, refl) (omega arith))
  wrote (B.link-24 _ _) h (late l) = (omega arith, late (omega arith))
  wrote (B.push-25 _ _ _ _) h (soon e l) =
      (omega arith, start-N (hat-N-after (path-ready e.0.path)) (omega arith))
  wrote (B.push-25 _ _ _ _) h (late l) = (omega arith, start-anywhere (omega arith))
  wrote (B.done-62 _ _ _ _) h w = (omega (arith, w.within), same-walk w (λ l. omega arith))
  wrote (B.done-64 _ _) h w =
      (omega (arith, w.within), cut-walk w (update-wrote m.out t.A no_node) (λ l. omega arith))
  wrote (B.done-78 _ e) h (marks-Y q v w) = (omega (arith, w.within), same-walk w (λ l. omega arith))
  wrote (B.done-78 _ e) h (marks q w) = (omega (arith, w.within), same-walk w (λ l. omega arith))
  wrote (B.done-78 _ e) h (fails-once v w) = (omega (arith, w.within), same-walk w (λ l. omega arith))
  wrote (B.done-78 _ e) h (fails w) = (omega (arith, w.within), same-walk w (λ l. omega arith))
  wrote (B.done-79 _) h w =
      (omega (arith, w.within), cut-walk w (update-wrote m.out t.A no_node) (λ l. omega arith))

  branch-spends : {st : Step} {e : Effect} → B.Branch s o (seen_in t.lane s m) t g f st e
      → TaskOk k s o m class st t → Left extra st S g s m t n → Spends extra S g t.lane s m n e
  branch-spends (B.stuck _) h b = record { spends = λ e. clash (cc) }
  branch-spends (B.moves c) h b = record { spends = λ _. moved c h b }
  branch-spends (B.writes c) h b = record { spends = λ _. wrote c h b }
  branch-spends (B.ends c) h b = record { spends = λ e. absurd (B.ends_it c e) }

  pub line-spends : (st : Step) → TaskOk k s o m class st t → Left extra st S g s m t n
      → Spends extra S g t.lane s m n (act st s o (seen_in t.lane s m) t g f)
  line-spends st = branch-spends (B.branch s o (seen_in t.lane s m) t g f st)
