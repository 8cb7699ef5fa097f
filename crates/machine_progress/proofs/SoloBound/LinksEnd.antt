-- Every tick leaves links along which all walks end, of nodes in any class: lines 24, 25 and 31 join walks, 28, 64, 79
-- and 82 cut them, and the others leave the links as they were.
use mathlib.Core.Path.{◌≡◌, ◌∙◌}
use mathlib.Core.Logic.{◌≢◌, inl, inr}
use mathlib.Core.Bool.{Bool}
use mathlib.Core.List.{List, [], ◌∷◌}
use Prim.Native.Nat.{ℕ, suc}
use native.Mathlib.Omega.{arith}
use Rattle.machine.specs.Outcomes.Answer.{Answer}
use Rattle.machine.specs.Sides.{Side}
use Rattle.machine.specs.Values.{X, Value, N}
use Rattle.machine.specs.Steps.{Step}
use Rattle.machine.specs.Steps as Steps
use Rattle.machine.specs.Tasks.{Task, no_node}
use Rattle.machine.specs.Lines.{Write, inn≔, out≔, val≔, Effect, act}
use Rattle.machine.proofs.Basics.Contradiction.{less?, refute}
use Rattle.machine.proofs.Basics.Updates.{Wrote, update, update-wrote}
use Rattle.machine.proofs.Words.Memories.{View, seen_in, written}
use Rattle.machine.proofs.Linearizability.Model.Classes.{Class, new, Old}
use Rattle.machine.proofs.Linearizability.Model.Chain.{HasChain, HasChainIn}
use Rattle.machine.proofs.Linearizability.Writes.ChainGrowth.{head-new}
use Rattle.machine.proofs.Linearizability.Model.Phases.{TaskOk}
use Rattle.machine.proofs.Linearizability.Writes.Take.{TakeOk}
use Rattle.machine.proofs.Lines.Branches as B
use Rattle.machine_progress.proofs.SoloBound.Walks.{EndsWithin, stops, WalksEnd, ends_same, walks-cut}
use Rattle.machine_progress.proofs.SoloBound.Walks.{walks-joined}

-- All walks end, outward and inward.
abbrev pub LinksEnd : View → Type 0
LinksEnd m = WalksEnd m.out × WalksEnd m.inn

-- They end after an effect.
pub record EndsAfter (ℓ : ℕ) (s : Side) (m : View) (e : Effect) : Type 0 where
  pub links_end : LinksEnd (written ℓ s e.writes m)

-- A chain leads outward to itself or to none.
chain-out : {k : ℕ} {s : Side} {out inn : ℕ → ℕ} {val : ℕ → Value} {class : ℕ → Class} {d : ℕ}
    → HasChain k s out inn val class d
    → (x : ℕ)
    → class x ≡ new k
    → out x ≢ no_node
    → class (out x) ≡ new k
chain-out H x c ne =
    let C = H.chain in
    let e = C.node-place x c in
    elim (less? (H.place x) H.m) [
      | inl l ↦ cc (C.links.links-out (H.place x) l, C.is_new (suc (H.place x)) l)
      | inr l ↦
          let z : H.place x ≡ H.m = omega (arith, C.place-le x c) in
          absurd (ne (cc C.last_out))
    ]

-- Of the structure it is only used that inward links of old nodes lead to old nodes.
module _ (L : ℕ) (held : ℕ → Bool) (k : ℕ) (s o : Side) (m : View) (class : ℕ → Class)
    (inn-closed : (x : ℕ) → Old class x → m.inn x ≢ no_node → Old class (m.inn x))
    (E : LinksEnd m) (t : Task) (g f : ℕ) where
  abbrev After : List Write → Type 0
  After l = LinksEnd (written t.lane s l m)

  -- An outward link is cut.
  cut : (x : ℕ) → After (out≔ x no_node ∷ [])
  cut x = (walks-cut (update-wrote m.out x no_node) E.0, E.1)

  -- A new node's walk outward is in the chain, so a write elsewhere leaves it.
  head-ends : HasChainIn k s m class t.D → {out' : ℕ → ℕ} {x y : ℕ} → Wrote m.out x y out' → class x ≢ new k
      → EndsWithin out' (E.0 t.D).0 t.D
  head-ends H w old =
      ends_same (λ x. class x ≡ new k) (chain-out H) (λ x c. w.elsewhere x (λ e. old (cc))) (head-new H)
      (E.0 t.D).1

  -- Line 24.
  linked : TaskOk k s o m class Steps.line24 t → After (inn≔ t.D t.A ∷ [])
  linked h =
      let w = update-wrote m.inn t.D t.A in
      let A-ends = ends_same (Old class) inn-closed
      (λ x old. w.elsewhere x (λ e. refute (cc (head-new h.chain)))) h.relies (E.1 t.A).1 in
      (E.0, walks-joined w A-ends E.1)

  -- Line 25.
  joined : TaskOk k s o m class Steps.line25 t → After (out≔ t.A t.D ∷ val≔ t.A (N s) ∷ [])
  joined h =
      let w = update-wrote m.out t.A t.D in
      let A-not-new : class t.A ≢ new k = λ e. refute (cc h.relies.A-old) in
      (walks-joined w (head-ends h.chain w A-not-new) E.0, E.1)

  -- Lines 28 and 31.
  first_taken : After (out≔ f no_node ∷ inn≔ f no_node ∷ val≔ f (X s) ∷ [])
  first_taken = (walks-cut (update-wrote m.out f no_node) E.0, walks-cut (update-wrote m.inn f no_node) E.1)

  next-taken : TakeOk L held m class f → TaskOk k s o m class Steps.line31 t
      → After (val≔ f (N s) ∷ inn≔ f no_node ∷ out≔ f t.D ∷ inn≔ t.D f ∷ [])
  next-taken K h =
      let w-out = update-wrote m.out f t.D in
      let cut-inn = update-wrote m.inn f no_node in
      let w-inn = update-wrote (update m.inn f no_node) t.D f in
      let apart : f ≢ t.D = λ e. K.not_new k (cc (head-new h.chain)) in
      let f-ends : EndsWithin (update (update m.inn f no_node) t.D f) 0 f =
      stops (w-inn.elsewhere f apart ∙ cut-inn.here) in (
        walks-joined w-out (head-ends h.chain w-out (K.not_new k)) E.0,
        walks-joined w-inn f-ends (walks-cut cut-inn E.1),
      )

  module _ (free-f : f ≢ no_node → TakeOk L held m class f) where
    wrote : {st st' : Step} {l : List Write} {u : Task} → B.Writes s o (seen_in t.lane s m) t g f st l u st'
        → TaskOk k s o m class st t → After l
    wrote (B.done-72 _ _ _) h = E
    wrote (B.reached-28 _ _) h = first_taken
    wrote (B.taken-28 _ _) h = first_taken
    wrote (B.reached-31 _ q _) h = next-taken (free-f q) h
    wrote (B.taken-31 _ q _) h = next-taken (free-f q) h
    wrote (B.link-24 _ _) h = linked h
    wrote (B.push-25 _ _ _ _) h = joined h
    wrote (B.done-62 _ _ _ _) h = E
    wrote (B.done-64 _ _) h = cut t.A
    wrote (B.done-78 _ _) h = E
    wrote (B.done-79 _) h = cut t.A

    ended : {st : Step} {l : List Write} {a : Answer} → B.Ends s o (seen_in t.lane s m) t g f st l a
        → TaskOk k s o m class st t → After l
    ended (B.done-5 _ _ _ _) h = E
    ended (B.full-28 _ _) h = E
    ended (B.no-28 _ _) h = E
    ended (B.done-25 _ _ _ _) h = joined h
    ended (B.done-48 _ _ _) h = E
    ended (B.done-51 _ _ _) h = E
    ended (B.end-56 _ _) h = E
    ended (B.none-58 _ _) h = E
    ended (B.none-60 _ _) h = E
    ended (B.lost-62 _) h = E
    ended (B.done-82 _) h = cut t.A

    branch-ends : {st : Step} {e : Effect} → B.Branch s o (seen_in t.lane s m) t g f st e
        → TaskOk k s o m class st t → EndsAfter t.lane s m e
    branch-ends (B.stuck _) h = record { links_end = E }
    branch-ends (B.moves _) h = record { links_end = E }
    branch-ends (B.writes c) h = record { links_end = wrote c h }
    branch-ends (B.ends c) h = record { links_end = ended c h }

    pub links-end-after : (st : Step) → TaskOk k s o m class st t
        → EndsAfter t.lane s m (act st s o (seen_in t.lane s m) t g f)
    links-end-after st = branch-ends (B.branch s o (seen_in t.lane s m) t g f st)
