-- Every line, seen from the side of the task that ticks.
use mathlib.Core.Path.{refl}
use mathlib.Core.Logic.{◌≢◌, inl, inr}
use mathlib.Core.Bool.{Bool}
use mathlib.Core.List.{List}
use Prim.Native.Nat.{ℕ, ◌<◌}
use Rattle.machine.specs.Outcomes.Answer.{Answer, Going, Empty, Full, Yes, No}
use Rattle.machine.specs.Sides.{Side}
use Rattle.machine.specs.Operations.{idle}
use Rattle.machine.specs.Steps.{Step}
use Rattle.machine.specs.Steps as Steps
use Rattle.machine.specs.Tasks.{Task, no_node}
use Rattle.machine.specs.Lines.{Write, Effect, answers, writing, act}
use Rattle.machine.proofs.Words.Memories.{View, seen_in}
use Rattle.machine.proofs.Linearizability.Model.Classes.{Class}
use Rattle.machine.proofs.Linearizability.Model.Phases.{TaskOk}
use Rattle.machine.proofs.Linearizability.Model.Invariant.{Lanes, goes_on, has_answered, TickOk}
use Rattle.machine.proofs.Linearizability.Writes.Take.{TakeOk}
use Rattle.machine.proofs.Basics.Contradiction.{refute}
use Rattle.machine.proofs.Lines.Branches as B
use Rattle.machine.proofs.Linearizability.Lines.LineEnds.{fresh_ok, line-continues, answers-ok}
use Rattle.machine.proofs.Linearizability.Lines.QuietLines.{never_stuck, moved, row-empty}
use Rattle.machine.proofs.Linearizability.Lines.WritingLines.{done-5, done-51, done-72}
use Rattle.machine.proofs.Linearizability.Lines.CuttingLines.{done-62, done-64, done-78, done-79, done-82}
use Rattle.machine.proofs.Linearizability.Lines.TakingLines.{first-chain, taken-28, more-chain, taken-31}
use Rattle.machine.proofs.Linearizability.Lines.SplicingLines.{done-24, done-25}

module _ (held : ℕ → Bool) (k : ℕ) {L : ℕ} {s o : Side} {m : View} {class : ℕ → Class} {r : ℕ → List ℕ}
    (D : Lanes L s o m class r) (t : Task) (own : t.lane < L) (g f : ℕ)
    (free-f : f ≢ no_node → TakeOk L held m class f) (busy : t.operation ≢ idle) where
  abbrev Ok : Effect → Type 0
  Ok e = TickOk held L k s o m class r t e

  wrote : {st st' : Step} {l : List Write} {u : Task} → B.Writes s o (seen_in t.lane s m) t g f st l u st'
      → TaskOk k s o m class st t → Ok (record { writes = l; task = B.onward t u st'; answer = Going })
  wrote (B.done-72 _ e c) h = done-72 held k D t own h e c
  wrote (B.reached-28 q _) h =
      let K = free-f q in
      taken-28 held k D t own f h K q Steps.line15
      (record { relies = tt; chain = first-chain held k D t own f h K q; belongs = h.belongs })
  wrote (B.taken-28 q _) h =
      let K = free-f q in
      taken-28 held k D t own f h K q Steps.line31
      (record { relies = tt; chain = first-chain held k D t own f h K q; belongs = h.belongs })
  wrote (B.reached-31 _ q _) h =
      let K = free-f q in
      taken-31 held k D t own f h K q Steps.line15
      (record { relies = tt; chain = more-chain held k D t own f h K q; belongs = h.belongs })
  wrote (B.taken-31 _ q _) h =
      let K = free-f q in
      taken-31 held k D t own f h K q Steps.line31
      (record { relies = tt; chain = more-chain held k D t own f h K q; belongs = h.belongs })
  wrote (B.link-24 _ _) h = done-24 held k D t own h
  wrote (B.push-25 _ _ v e) h =
      done-25 held k D t own h v (λ class' D' G none-new.
      record {
        class' = class';
        r' = r;
        lanes = D';
        row_step = refl;
        other-rows = λ j ne. refl;
        guarantees = G;
        task-ok = record { relies = tt; chain = record { none-new = none-new; no-head = refl }; belongs = e };
        kept = goes_on refl refl;
      })
  wrote (B.done-62 _ _ v w) h = done-62 held k D t own h v w
  wrote (B.done-64 _ e) h = done-64 held k D t own h e
  wrote (B.done-78 _ _) h = done-78 held k D t own h
  wrote (B.done-79 _) h = done-79 held k D t own h

  ended : {st : Step} {l : List Write} {a : Answer} → B.Ends s o (seen_in t.lane s m) t g f st l a
      → TaskOk k s o m class st t → Ok (writing l (answers a))
  ended (B.done-5 _ _ e v) h = done-5 held k D t own h e v
  ended (B.full-28 _ e) h = answers-ok D Full (λ q. refute (cc)) (e, refl) h.chain
  ended (B.no-28 _ n) h =
      answers-ok D No (λ q. refute (cc)) (elim h.belongs [ inl e ↦ absurd (n e) | inr e ↦ inl e ], refl) h.chain
  ended (B.done-25 _ _ v n) h =
      done-25 held k D t own h v (λ class' D' G none-new.
      record {
        class' = class';
        r' = r;
        lanes = D';
        row_step = (elim h.belongs [ inl e ↦ absurd (n e) | inr e ↦ inl e ], refl);
        other-rows = λ j ne. refl;
        guarantees = G;
        task-ok = fresh_ok none-new;
        kept = has_answered (λ e. refute (cc)) refl;
      })
  ended (B.done-48 _ e v) h =
      let q = row-empty k D t own g f h.relies e v in
      answers-ok D Empty (λ e. refute (cc)) (h.belongs, q, q) h.chain
  ended (B.done-51 _ e v) h = done-51 held k D t own h e v
  ended (B.end-56 _ _) h = answers-ok D Yes (λ e. refute (cc)) (inr h.belongs, refl) h.chain
  ended (B.none-58 _ _) h = answers-ok D Yes (λ e. refute (cc)) (inr h.belongs, refl) h.chain
  ended (B.none-60 _ _) h = answers-ok D Yes (λ e. refute (cc)) (inr h.belongs, refl) h.chain
  ended (B.lost-62 _) h = answers-ok D No (λ e. refute (cc)) (inr h.belongs, refl) h.chain
  ended (B.done-82 _) h = done-82 held k D t own h

  branch-ok : {st : Step} {e : Effect} → B.Branch s o (seen_in t.lane s m) t g f st e → TaskOk k s o m class st t
      → Ok e
  branch-ok (B.stuck c) h = absurd (never_stuck k D t own g f c h)
  branch-ok (B.moves c) h = line-continues D refl (moved k D t own g f c h)
  branch-ok (B.writes c) h = wrote c h
  branch-ok (B.ends c) h = ended c h

  pub tick-ok : (st : Step) → TaskOk k s o m class st t → Ok (act st s o (seen_in t.lane s m) t g f)
  tick-ok st = branch-ok (B.branch s o (seen_in t.lane s m) t g f st)
