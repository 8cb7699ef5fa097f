-- Line by line: a tick writes to nodes that its hat, the registers that hold and links lead to, and holds such nodes
-- afterwards; at 28 and 31 to the node taken too.
use mathlib.Core.Path.{◌≡◌, refl, ◌∙◌}
use mathlib.Core.Logic.{◌≢◌, ◌⊎◌, inl, inr}
use mathlib.Core.List.{List, [], ◌∷◌}
use Prim.Native.Nat.{ℕ}
use Rattle.machine.specs.Outcomes.Answer.{Answer, Going}
use Rattle.machine.specs.Sides.{Side}
use Rattle.machine.specs.Values.{N, X}
use Rattle.machine.specs.Steps.{Step}
use Rattle.machine.specs.Tasks.{Task, no_node, goto, with_d, with_counted}
use Rattle.machine.specs.Registers.{holding}
use Rattle.machine.specs.Lines.{Write, out≔, inn≔, val≔, Effect, next, writing, act}
use Rattle.machine.proofs.Basics.Updates.{update, update_same, update-wrote, WroteAt, it-is, it-is-not, wrote?}
use Rattle.machine.proofs.Words.Memories.{View, seen_in, written}
use Rattle.machine.proofs.Lines.Branches as B
use Rattle.machine_separation.proofs.Within.{OrNone, to_none, LeadsInto, WritesIn, RegistersIn, Within}

-- The set with one node more.
abbrev pub With : ℕ → (ℕ → Type 0) → ℕ → Type 0
With f P x = P x ⊎ (x ≡ f)

-- An effect stays within the set; or it takes f and stays within the set with f, and sets both links of f so that they
-- lead there.
pub data Confined (P : ℕ → Type 0) (f l : ℕ) (s : Side) (m : View) (e : Effect) : Type 0 where
  stays : Within P e → Confined P f l s m e
  takes : f ≢ no_node
      → Within (With f P) e
      → OrNone (With f P) ((written l s e.writes m).out f)
      → OrNone (With f P) ((written l s e.writes m).inn f)
      → Confined P f l s m e

module _ (P : ℕ → Type 0) (l : ℕ) (s o : Side) (m : View) (t : Task) (g f : ℕ)
    (hat-in : P (m.hats l s)) (out-in : LeadsInto P P m.out) (inn-in : LeadsInto P P m.inn)
    (own : RegistersIn P (holding t.step) t) where
  abbrev Ok : Effect → Type 0
  Ok e = Confined P f l s m e

  -- ---- How a line ends.
  goes : {e : Effect} → WritesIn P e.writes → RegistersIn P (holding e.task.step) e.task → Ok e
  goes w r = stays (record { writes-in = w; registers-in = r })

  -- ---- The node taken: the first of a chain, and one more.
  module _ {st : Step} {n : ℕ} (found : f ≢ no_node)
      (D-in : RegistersIn (With f P) (holding st) (goto (with_counted (with_d t f) n) st)) where
    first_taken : Ok (writing (out≔ f no_node ∷ inn≔ f no_node ∷ val≔ f (X s) ∷ []) (next (with_counted (with_d t f) n) st))
    first_taken =
        takes found
        (record {
          writes-in = ((inr refl, to_none (With f P)), ((inr refl, to_none (With f P)), (inr refl, tt)));
          registers-in = D-in;
        })
        (λ k. absurd (k (update_same m.out f no_node)))
        (λ k. absurd (k (update_same m.inn f no_node)))

    next-taken : P t.D
        → Ok (writing (val≔ f (N s) ∷ inn≔ f no_node ∷ out≔ f t.D ∷ inn≔ t.D f ∷ [])
        (next (with_counted (with_d t f) n) st))
    next-taken chain-in =
        takes found
        (record {
          writes-in = (
            inr refl,
            ((inr refl, to_none (With f P)), ((inr refl, λ _. inl chain-in), ((inl chain-in, λ _. inr refl), tt))),
          );
          registers-in = D-in;
        })
        (λ _. rw (update_same m.out f t.D) (inl chain-in))
        (λ k. go k (wrote? (update-wrote (update m.inn f no_node) t.D f) f))
      where
        inn-of-f : ℕ
        inn-of-f = update (update m.inn f no_node) t.D f f

        go : inn-of-f ≢ no_node → WroteAt (update m.inn f no_node) t.D f
            (update (update m.inn f no_node) t.D f) f
            → With f P inn-of-f
        go k (it-is e q) = inr q
        go k (it-is-not ne q) = absurd (k (q ∙ update_same m.inn f no_node))

  -- ---- The branches.
  moved : {st st' : Step} {u : Task} → B.Moves s o (seen_in l s m) t g f st u st' → RegistersIn P (holding st) t
      → RegistersIn P (holding st') (B.onward t u st')
  moved B.rests h = h
  moved B.hat-2 h = ((λ _. hat-in), h)
  moved (B.none-3 _ _) h = h
  moved (B.some-3 a _) h = (h.0, (out-in _ (h.0 a), h.1))
  moved (B.lost-5 _) h = (h.0, h.1.1)
  moved (B.end-8 _ _) h = tt
  moved (B.else-8 _ _) h = h.1
  moved B.hat-67 h = ((λ _. hat-in), h)
  moved (B.spur-68 _ _) h = h
  moved (B.else-68 _ _ (B.to-2 _ _)) h = h.1
  moved (B.else-68 _ _ (B.to-15 _)) h = h.1
  moved (B.link-69 a) h = (h.0, (inn-in _ (h.0 a), h.1))
  moved (B.none-70 _ _ (B.to-2 _ _)) h = h.1.1
  moved (B.none-70 _ _ (B.to-15 _)) h = h.1.1
  moved (B.some-70 b _) h = (h.0, (out-in _ (h.1.0 b), h.1.1))
  moved (B.lost-72 _ _ (B.to-2 _ _)) h = h.1.1
  moved (B.lost-72 _ _ (B.to-15 _)) h = h.1.1
  moved (B.full-31 _ _) h = h
  moved B.hat-15 h = ((λ _. hat-in), h)
  moved (B.inner-17 _ _) h = h
  moved (B.spur-17 _ _) h = h.1
  moved (B.end-17 _ _) h = h
  moved (B.else-17 _ _ _ _) h = h.1
  moved (B.none-18 _ _) h = h.1
  moved (B.some-18 a _) h = (out-in _ (h.0 a), h.1)
  moved (B.lost-25 _) h = h.1.1
  moved B.hat-39 h = ((λ _. hat-in), tt)
  moved (B.none-40 _ _) h = tt
  moved (B.some-40 a _) h = (h.0, (inn-in _ (h.0 a), tt))
  moved (B.value-42 _ (B.to-51 _ _)) h = h
  moved (B.value-42 _ (B.to-48 _)) h = h
  moved (B.value-42 _ (B.to-39 _ _ _)) h = tt
  moved (B.lost-48 _) h = tt
  moved (B.lost-51 _) h = tt
  moved (B.reached-54 _) h = ((λ _. hat-in), tt)
  moved (B.hat-54 _) h = ((λ _. hat-in), tt)
  moved (B.else-56 _ _) h = h
  moved (B.reached-58 a _ _) h = (out-in _ (h.0 a), tt)
  moved (B.some-58 a _ _) h = (out-in _ (h.0 a), tt)
  moved (B.some-60 a _) h = (h.0, (out-in _ (h.0 a), tt))
  moved (B.lost-64 _ _) h = h.1
  moved (B.none-74 _ _) h = h
  moved (B.some-74 b _) h = (h.0, (out-in _ (h.0 b), tt))
  moved (B.value-77 _) h = h
  moved (B.lost-78 _ _) h = h
  moved (B.none-81 _ _) h = h
  moved (B.end-81 _ _ _) h = h
  moved (B.some-81 a _ _) h = (h.0, (out-in _ (h.0 a), tt))

  wrote : {st st' : Step} {ws : List Write} {u : Task} → B.Writes s o (seen_in l s m) t g f st ws u st'
      → RegistersIn P (holding st) t → Ok (record { writes = ws; task = B.onward t u st'; answer = Going })
  wrote (B.done-72 c _ (B.to-2 _ _)) h = goes (h.1.0 c, tt) h.1.1
  wrote (B.done-72 c _ (B.to-15 _)) h = goes (h.1.0 c, tt) h.1.1
  wrote (B.reached-28 n _) h = first_taken n ((λ _. inr refl), tt)
  wrote (B.taken-28 n _) h = first_taken n ((λ _. inr refl), tt)
  wrote (B.reached-31 d n _) h = next-taken n ((λ _. inr refl), tt) (h.0 d)
  wrote (B.taken-31 d n _) h = next-taken n ((λ _. inr refl), tt) (h.0 d)
  wrote (B.link-24 a d) h = goes ((h.1.0 d, h.0), tt) (h.0, (out-in _ (h.0 a), h.1))
  wrote (B.push-25 a _ _ _) h = goes ((h.0 a, h.1.1.0), (h.0 a, tt)) (to_none P, tt)
  wrote (B.done-62 a b _ _) h = goes (h.0 a, (h.1.0 b, tt)) h
  wrote (B.done-64 a _) h = goes ((h.0 a, to_none P), tt) h.1
  wrote (B.done-78 b _) h = goes (h.1.0 b, tt) h
  wrote (B.done-79 a) h = goes ((h.0 a, to_none P), tt) h.1

  ended : {st : Step} {ws : List Write} {a : Answer} → B.Ends s o (seen_in l s m) t g f st ws a
      → RegistersIn P (holding st) t → WritesIn P ws
  ended (B.done-5 a b _ _) h = (h.1.0 b, (h.0 a, tt))
  ended (B.full-28 _ _) h = tt
  ended (B.no-28 _ _) h = tt
  ended (B.done-25 a _ _ _) h = ((h.0 a, h.1.1.0), (h.0 a, tt))
  ended (B.done-48 _ _ _) h = tt
  ended (B.done-51 b _ _) h = (h.1.0 b, (h.1.0 b, tt))
  ended (B.end-56 _ _) h = tt
  ended (B.none-58 _ _) h = tt
  ended (B.none-60 _ _) h = tt
  ended (B.lost-62 _) h = tt
  ended (B.done-82 a) h = ((h.0 a, to_none P), tt)

  pub branch-within : {st : Step} {e : Effect} → B.Branch s o (seen_in l s m) t g f st e
      → RegistersIn P (holding st) t → Ok e
  branch-within (B.stuck _) h = goes tt own
  branch-within (B.moves c) h = goes tt (moved c h)
  branch-within (B.writes c) h = wrote c h
  branch-within (B.ends c) h = goes (ended c h) tt

-- The line at which the task stands.
pub lines-within : (P : ℕ → Type 0) (l : ℕ) (s o : Side) (m : View) (t : Task) (g f : ℕ)
    → P (m.hats l s)
    → LeadsInto P P m.out
    → LeadsInto P P m.inn
    → RegistersIn P (holding t.step) t
    → Confined P f l s m (act t.step s o (seen_in l s m) t g f)
lines-within P l s o m t g f hat-in out-in inn-in own =
    branch-within P l s o m t g f hat-in out-in inn-in own (B.branch s o (seen_in l s m) t g f t.step) own
