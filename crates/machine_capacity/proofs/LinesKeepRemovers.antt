-- Every line, seen from the side of the task that ticks.
use mathlib.Core.Path.{◌≡◌, refl}
use mathlib.Core.Logic.{◌≢◌, inl}
use mathlib.Core.Bool.{Bool}
use mathlib.Core.List.{List, []}
use Prim.Native.Nat.{ℕ}
use Rattle.machine.specs.Outcomes.Answer.{Answer, Going}
use Rattle.machine.specs.Sides.{Side}
use Rattle.machine.specs.Values.{X, Y}
use Rattle.machine.specs.Steps.{Step}
use Rattle.machine.specs.Tasks.{Task, no_node}
use Rattle.machine.specs.Lines.{Write, Effect, answers, writing, act}
use Rattle.machine.proofs.Words.Memories.{View, seen_in}
use Rattle.machine.proofs.Lines.Branches as B
use Rattle.machine.proofs.Linearizability.Model.Sides.{Opposite}
use Rattle.machine.proofs.Linearizability.Model.Classes.{Class}
use Rattle.machine.proofs.Linearizability.Model.Phases.{TaskOk}
use Rattle.machine.proofs.Linearizability.Writes.Take.{TakeOk}
use Rattle.machine_capacity.proofs.Removers.{Duty, no-duty, before-cut, duty, Sure}
use Rattle.machine_capacity.proofs.KeepsRemovers.{RemoversAfter}
use Rattle.machine_capacity.proofs.LineEnds.{duty-stays, duty-off, duty-goes}
use Rattle.machine_capacity.proofs.WritingLines.{done-5, done-24, done-25, done-28, done-31, done-51, done-72}
use Rattle.machine_capacity.proofs.RemoveLines.{done-62, done-64, lost-64, moved-74, same_A, done-78, done-79}
use Rattle.machine_capacity.proofs.RemoveLines.{done-82}

-- x-cut: where an X leads, there is a Y.
module _ (L : ℕ) (held : ℕ → Bool) (k : ℕ) (s o : Side) (w : Opposite s o) (m : View) (class : ℕ → Class)
    (x-cut : (n : ℕ) → m.val n ≡ X s → m.out n ≢ no_node → m.val (m.out n) ≡ Y s)
    (t : Task) (g f : ℕ) where
  abbrev Ok : Duty → Effect → Type 0
  Ok d e = RemoversAfter held class t.lane s o m d t e

  moved : {st st' : Step} {u : Task} → B.Moves s o (seen_in t.lane s m) t g f st u st' → Sure (duty st) s m t
      → Ok (duty st) (record { writes = []; task = B.onward t u st'; answer = Going })
  moved B.rests u = duty-off refl
  moved B.hat-2 u = duty-off refl
  moved (B.none-3 _ _) u = duty-off refl
  moved (B.some-3 _ _) u = duty-off refl
  moved (B.lost-5 _) u = duty-off refl
  moved (B.end-8 _ _) u = duty-off refl
  moved (B.else-8 _ _) u = duty-off refl
  moved B.hat-67 u = duty-off refl
  moved (B.spur-68 _ _) u = duty-off refl
  moved (B.else-68 _ _ (B.to-2 _ _)) u = duty-off refl
  moved (B.else-68 _ _ (B.to-15 _)) u = duty-off refl
  moved (B.link-69 _) u = duty-off refl
  moved (B.none-70 _ _ (B.to-2 _ _)) u = duty-off refl
  moved (B.none-70 _ _ (B.to-15 _)) u = duty-off refl
  moved (B.some-70 _ _) u = duty-off refl
  moved (B.lost-72 _ _ (B.to-2 _ _)) u = duty-off refl
  moved (B.lost-72 _ _ (B.to-15 _)) u = duty-off refl
  moved (B.full-31 _ _) u = duty-off refl
  moved B.hat-15 u = duty-off refl
  moved (B.inner-17 _ _) u = duty-off refl
  moved (B.spur-17 _ _) u = duty-off refl
  moved (B.end-17 _ _) u = duty-off refl
  moved (B.else-17 _ _ _ _) u = duty-off refl
  moved (B.none-18 _ _) u = duty-off refl
  moved (B.some-18 _ _) u = duty-off refl
  moved (B.lost-25 _) u = duty-off refl
  moved B.hat-39 u = duty-off refl
  moved (B.none-40 _ _) u = duty-off refl
  moved (B.some-40 _ _) u = duty-off refl
  moved (B.value-42 _ (B.to-51 _ _)) u = duty-off refl
  moved (B.value-42 _ (B.to-48 _)) u = duty-off refl
  moved (B.value-42 _ (B.to-39 _ _ _)) u = duty-off refl
  moved (B.lost-48 _) u = duty-off refl
  moved (B.lost-51 _) u = duty-off refl
  moved (B.reached-54 _) u = duty-off refl
  moved (B.hat-54 _) u = duty-off refl
  moved (B.else-56 _ _) u = duty-off refl
  moved (B.reached-58 _ _ _) u = duty-off refl
  moved (B.some-58 _ _ _) u = duty-off refl
  moved (B.some-60 _ _) u = duty-goes no-duty (inl refl) (λ μ n c. absurd c)
  moved (B.lost-64 _ q) u = lost-64 held s o w m class t u q
  moved (B.none-74 _ _) u = moved-74 held s o w m class t u refl
  moved (B.some-74 _ _) u = moved-74 held s o w m class t u refl
  moved (B.value-77 _) u = same_A held s o w m class t refl refl u
  moved (B.lost-78 _ _) u = same_A held s o w m class t refl refl u
  moved (B.none-81 _ _) u = same_A held s o w m class t refl refl u
  moved (B.end-81 _ _ _) u = same_A held s o w m class t refl refl u
  moved (B.some-81 _ _ _) u = same_A held s o w m class t refl refl u

  module _ (free-f : f ≢ no_node → TakeOk L held m class f) where
    wrote : {st st' : Step} {l : List Write} {u : Task} → B.Writes s o (seen_in t.lane s m) t g f st l u st'
        → TaskOk k s o m class st t → Sure (duty st) s m t
        → Ok (duty st) (record { writes = l; task = B.onward t u st'; answer = Going })
    wrote (B.done-72 _ _ (B.to-2 _ _)) h u = done-72 L held k s o w m class x-cut t f refl
    wrote (B.done-72 _ _ (B.to-15 _)) h u = done-72 L held k s o w m class x-cut t f refl
    wrote (B.reached-28 q _) h u = done-28 L held k s o w m class x-cut t f (free-f q) refl
    wrote (B.taken-28 q _) h u = done-28 L held k s o w m class x-cut t f (free-f q) refl
    wrote (B.reached-31 _ q _) h u = done-31 L held k s o w m class x-cut t f (free-f q) h refl
    wrote (B.taken-31 _ q _) h u = done-31 L held k s o w m class x-cut t f (free-f q) h refl
    wrote (B.link-24 _ _) h u = done-24 L held k s o w m class x-cut t f h refl
    wrote (B.push-25 _ _ v _) h u = done-25 L held k s o w m class x-cut t f v refl
    wrote (B.done-62 _ _ a b) h u = done-62 held s o w m class t u a b
    wrote (B.done-64 _ q) h u = done-64 held s o w m class t u q
    wrote (B.done-78 _ _) h u = done-78 held s o w m class t u
    wrote (B.done-79 _) h u = done-79 held s o w m class t u

    ended : {st : Step} {l : List Write} {a : Answer} → B.Ends s o (seen_in t.lane s m) t g f st l a
        → Sure (duty st) s m t → Ok (duty st) (writing l (answers a))
    ended (B.done-5 _ _ _ _) u = done-5 L held k s o w m class x-cut t f
    ended (B.full-28 _ _) u = duty-off refl
    ended (B.no-28 _ _) u = duty-off refl
    ended (B.done-25 _ _ v _) u = done-25 L held k s o w m class x-cut t f v refl
    ended (B.done-48 _ _ _) u = duty-off refl
    ended (B.done-51 _ _ _) u = done-51 L held k s o w m class x-cut t f
    ended (B.end-56 _ _) u = duty-off refl
    ended (B.none-58 _ _) u = duty-off refl
    ended (B.none-60 _ _) u = duty-off refl
    ended (B.lost-62 _) u = duty-goes before-cut tt (λ μ n c. absurd c)
    ended (B.done-82 _) u = done-82 held s o w m class t u

    branch_keeps : {st : Step} {e : Effect} → B.Branch s o (seen_in t.lane s m) t g f st e → t.step ≡ st
        → TaskOk k s o m class st t → Sure (duty st) s m t → Ok (duty st) e
    branch_keeps (B.stuck _) e h u = duty-stays e u
    branch_keeps (B.moves c) e h u = moved c u
    branch_keeps (B.writes c) e h u = wrote c h u
    branch_keeps (B.ends c) e h u = ended c u

    pub removers-after : (st : Step) → t.step ≡ st → TaskOk k s o m class st t → Sure (duty st) s m t
        → Ok (duty st) (act st s o (seen_in t.lane s m) t g f)
    removers-after st = branch_keeps (B.branch s o (seen_in t.lane s m) t g f st)
