-- 01's starred cases as one list of data: what is done to a table, and what must come out.
use Rattle.std.specs.Prelude.{true, false, List, [], ◌∷◌, map, ℕ, zero, suc, replicate}
use Rattle.std.proofs.Math.Option.{Option, some}
use Rattle.machine.specs.Outcomes.Answer.{Answer, Going, Pushed, Bag, Empty, Full, Yes, No, Refused}
use Rattle.machine.specs.Outcomes.Reply.{Reply, Accepted, Refused as Reply-Refused}
use Rattle.machine.specs.Sides.{Side, left, right}
use Rattle.machine.specs.Values.{Value, N, X, Y, stored_of}
use Rattle.machine.specs.Tasks.{no_node, fresh, words_of}
use Rattle.machine.specs.Table.{hat, link, value}
use Rattle.machine.specs.Answers.{is_going}
use Rattle.machine.specs.Calls.{start, begin, tick, lane}
use Rattle.machine.specs.Lent.{lent_to, begin_lent}

-- What is done: a call, a begin over a fresh lent record that is then copied to its task's place, ticks of one task
-- until it answers (at most so many), or a look at the table.
pub data Action : Type 0 where
  starts : (S T growth lanes : ℕ) → Action
  begins : (k lane operation side digit argument : ℕ) → Action
  copies_begun : (k lane operation side digit argument : ℕ) → Action
  ticks : (k hint most : ℕ) → Action
  looks_at_lane : (lane : ℕ) → Action
  looks_at_hat : (lane : ℕ) → Side → Action
  looks_at_node : ℕ → Action

-- What comes out: a reply; an answer and at which tick, counted from 1; the lane; a hat; a node's L, R and V.
pub data Outcome : Type 0 where
  replies : Reply → Outcome
  answers : (at_tick : ℕ) → Answer → Outcome
  lane_is : Option (List ℕ) → Outcome
  hat_is : ℕ → Outcome
  node_is : (l r : ℕ) → Value → Outcome

pub record Expected : Type 0 where
  pub action : Action
  pub outcome : Outcome

infix 80 ◌⟶◌
abbrev pub ◌⟶◌ : Action → Outcome → Expected
◌⟶◌ a o = record { action = a; outcome = o }

-- A case: the length of the slice that is lent, and what is done on it, one after another.
pub record Case : Type 0 where
  pub words : ℕ
  pub script : List Expected

-- The table after an action, and what came out.
pub record Acted : Type 0 where
  pub outcome : Outcome
  pub table : List ℕ

unfoldable pub tick_until : (most made : ℕ) → List ℕ → (k hint : ℕ) → Acted
tick_until zero made ws k h = record { outcome = answers made Going; table = ws }
tick_until (suc n) made ws k h =
    let one = tick ws k h in
    elim (is_going one.answer) as (λ _. Acted) [
      | true ↦ tick_until n (suc made) one.words k h
      | false ↦ record { outcome = answers (suc made) one.answer; table = one.words }
    ]

unfoldable pub acts : Action → List ℕ → Acted
acts (starts S T g lanes) ws = let r = start ws S T g lanes in record { outcome = replies r.reply; table = r.words }
acts (begins k l op side digit argument) ws =
    let r = begin ws k l op side (stored_of digit argument) in record { outcome = replies r.reply; table = r.words }
acts (copies_begun k l op side digit argument) ws =
    let r = begin_lent ws (words_of fresh) k l op side (stored_of digit argument) in
    record { outcome = replies r.reply; table = lent_to ws k r.words }
acts (ticks k h most) ws = tick_until most 0 ws k h
acts (looks_at_lane l) ws = record { outcome = lane_is (lane ws l); table = ws }
acts (looks_at_hat l s) ws = record { outcome = hat_is (hat ws l s); table = ws }
acts (looks_at_node x) ws =
    record { outcome = node_is (link ws left x) (link ws right x) (value ws x); table = ws }

unfoldable pub plays : List Expected → List ℕ → List Outcome
plays [] ws = []
plays (e ∷ es) ws = let r = acts e.action ws in r.outcome ∷ plays es r.table

-- What comes out of a case, on a slice whose old words are all 7, and what it says must come out.
unfoldable pub outcomes : Case → List Outcome
outcomes c = plays c.script (replicate c.words 7)

abbrev pub expectations : Case → List Outcome
expectations c = map (λ (e : Expected). e.outcome) c.script

abbrev pub ok : Outcome
ok = replies Accepted

abbrev pub refused : ℕ → Outcome
refused n = replies (Reply-Refused n)

abbrev pub cases : List Case
cases =
    -- 1. The four answers of the belt run, 11, 4 and 4 ticks.
    record {
      words = 45;
      script =
          starts 4 1 0 1 ⟶ ok
          ∷ begins 0 0 1 1 0 51 ⟶ ok
          ∷ ticks 0 0 100 ⟶ answers 11 Pushed
          ∷ looks_at_lane 0 ⟶ lane_is (some (51 ∷ []))
          ∷ begins 0 0 2 0 0 0 ⟶ ok
          ∷ ticks 0 0 100 ⟶ answers 4 (Bag 51)
          ∷ begins 0 0 2 1 0 0 ⟶ ok
          ∷ ticks 0 0 100 ⟶ answers 4 Empty
          ∷ ticks 0 0 1 ⟶ answers 1 (Refused 10)
          ∷ [];
    }
    -- 2. S 2: a push answers "full" at tick 4.
    ∷ record {
      words = 37;
      script = starts 2 1 0 1 ⟶ ok ∷ begins 0 0 1 1 0 51 ⟶ ok ∷ ticks 0 0 100 ⟶ answers 4 Full ∷ [];
    }
    -- 3. S 3: add right 2 answers "yes" at tick 6, one slot gained: node 2, beyond the old end.
    ∷ record {
      words = 41;
      script =
          starts 3 1 0 1 ⟶ ok
          ∷ begins 0 0 3 1 0 2 ⟶ ok
          ∷ ticks 0 0 100 ⟶ answers 6 Yes
          ∷ looks_at_node 1 ⟶ node_is 0 2 (N right)
          ∷ looks_at_node 2 ⟶ node_is 1 no_node (X right)
          ∷ [];
    }
    -- 4. S 8, growth 0, add right 0, then remove right 0: "no" at tick 3, since RN is followed by RX.
    ∷ record {
      words = 61;
      script =
          starts 8 1 0 1 ⟶ ok
          ∷ begins 0 0 3 1 0 0 ⟶ ok
          ∷ ticks 0 0 100 ⟶ answers 5 Yes
          ∷ looks_at_node 1 ⟶ node_is 0 2 (N right)
          ∷ looks_at_node 2 ⟶ node_is 1 no_node (X right)
          ∷ begins 0 0 4 1 0 0 ⟶ ok
          ∷ ticks 0 0 100 ⟶ answers 3 No
          ∷ [];
    }
    -- 5. S 8, T 2, growth 0, hints 0: a stale push moves the hat to a spur, and the next push brings it back.
    ∷ record {
      words = 74;
      script =
          starts 8 2 0 1 ⟶ ok
          ∷ begins 0 0 3 1 0 2 ⟶ ok
          ∷ ticks 0 0 100 ⟶ answers 7 Yes
          ∷ begins 1 0 1 1 0 51 ⟶ ok
          ∷ ticks 1 0 2 ⟶ answers 2 Going
          ∷ begins 0 0 4 1 0 0 ⟶ ok
          ∷ ticks 0 0 100 ⟶ answers 14 Yes
          ∷ begins 0 0 3 1 0 0 ⟶ ok
          ∷ ticks 0 0 100 ⟶ answers 5 Yes
          ∷ looks_at_node 1 ⟶ node_is 0 2 (N right)
          ∷ looks_at_node 2 ⟶ node_is 1 no_node (X right)
          ∷ ticks 1 0 1 ⟶ answers 1 Pushed
          ∷ looks_at_hat 0 right ⟶ hat_is 4
          ∷ looks_at_node 4 ⟶ node_is 1 no_node (Y right)
          ∷ begins 0 0 1 1 0 52 ⟶ ok
          ∷ ticks 0 0 100 ⟶ answers 19 Pushed
          ∷ looks_at_lane 0 ⟶ lane_is (some (51 ∷ 52 ∷ []))
          ∷ [];
    }
    -- 6. 02: "at least 37": 37 words start S 2, T 1; 36 give 2.
    ∷ record { words = 37; script = starts 2 1 0 1 ⟶ ok ∷ [] }
    ∷ record { words = 36; script = starts 2 1 0 1 ⟶ refused 2 ∷ [] }
    -- 7. S 1,025 gives 1.
    ∷ record { words = 37; script = starts 1025 1 0 1 ⟶ refused 1 ∷ [] }
    -- 8. 02: "The limit cases of 01 move to the new largest tag": 0 and 10,000,000,000 give 7, by whichever words;
    -- 9,999,999,999 is taken. A digit that is not 0 gives 7 to the others.
    ∷ record {
      words = 37;
      script =
          starts 2 1 0 1 ⟶ ok
          ∷ begins 0 0 1 1 0 0 ⟶ refused 7
          ∷ begins 0 0 1 1 10 0 ⟶ refused 7
          ∷ begins 0 0 1 1 9 1000000000 ⟶ refused 7
          ∷ begins 0 0 2 1 1 0 ⟶ refused 7
          ∷ begins 0 0 3 1 1 0 ⟶ refused 7
          ∷ begins 0 0 4 1 1 0 ⟶ refused 7
          ∷ begins 0 0 1 1 9 999999999 ⟶ ok
          ∷ [];
    }
    -- 2026-06. S 4, T 2, growth 0, hints 0: at 28 the push's B still names a slot that was cut off, and no step will
    -- read it. While every register held its slot, the push answered "full" here.
    ∷ record {
      words = 58;
      script =
          starts 4 2 0 1 ⟶ ok
          ∷ begins 0 0 3 1 0 0 ⟶ ok
          ∷ ticks 0 0 100 ⟶ answers 5 Yes
          ∷ begins 0 0 3 1 0 0 ⟶ ok
          ∷ ticks 0 0 100 ⟶ answers 7 Yes
          ∷ begins 0 0 4 1 0 0 ⟶ ok
          ∷ ticks 0 0 3 ⟶ answers 3 Going
          ∷ begins 1 0 1 1 0 51 ⟶ ok
          ∷ ticks 1 0 2 ⟶ answers 2 Going
          ∷ ticks 0 0 100 ⟶ answers 7 Yes
          ∷ begins 0 0 3 1 0 0 ⟶ ok
          ∷ ticks 0 0 1 ⟶ answers 1 Going
          ∷ ticks 1 0 2 ⟶ answers 2 Going
          ∷ ticks 1 0 100 ⟶ answers 8 Pushed
          ∷ looks_at_lane 0 ⟶ lane_is (some (51 ∷ []))
          ∷ [];
    }
    -- 2026-12. S 5, T 2, lanes 2: a tag is looked for in the other lane, busy or there; its slots make the push "full".
    ∷ record {
      words = 62;
      script =
          starts 5 2 0 2 ⟶ ok
          ∷ looks_at_hat 1 left ⟶ hat_is 2
          ∷ looks_at_hat 1 right ⟶ hat_is 3
          ∷ looks_at_hat 2 left ⟶ hat_is no_node
          ∷ looks_at_node 2 ⟶ node_is no_node 3 (X left)
          ∷ looks_at_node 3 ⟶ node_is 2 no_node (X right)
          ∷ begins 0 0 1 1 0 51 ⟶ ok
          ∷ begins 1 1 1 0 0 51 ⟶ refused 16
          ∷ ticks 0 0 100 ⟶ answers 11 Pushed
          ∷ begins 1 1 1 0 0 51 ⟶ refused 16
          ∷ begins 1 2 1 0 0 52 ⟶ refused 26
          ∷ begins 2 2 1 0 0 52 ⟶ refused 26
          ∷ begins 2 1 1 0 0 52 ⟶ refused 5
          ∷ begins 1 1 1 0 0 52 ⟶ ok
          ∷ ticks 1 0 100 ⟶ answers 4 Full
          ∷ looks_at_lane 0 ⟶ lane_is (some (51 ∷ []))
          ∷ looks_at_lane 1 ⟶ lane_is (some [])
          ∷ begins 1 1 2 0 0 0 ⟶ ok
          ∷ ticks 1 0 100 ⟶ answers 4 Empty
          ∷ begins 1 0 2 0 0 0 ⟶ ok
          ∷ ticks 1 0 100 ⟶ answers 4 (Bag 51)
          ∷ [];
    }
    -- Two lanes side by side, each with its own bags.
    ∷ record {
      words = 86;
      script =
          starts 11 2 0 2 ⟶ ok
          ∷ begins 0 0 1 1 0 51 ⟶ ok
          ∷ begins 1 1 1 1 0 52 ⟶ ok
          ∷ ticks 0 0 5 ⟶ answers 5 Going
          ∷ ticks 1 0 100 ⟶ answers 11 Pushed
          ∷ ticks 0 0 100 ⟶ answers 6 Pushed
          ∷ begins 1 1 1 0 0 53 ⟶ ok
          ∷ ticks 1 0 100 ⟶ answers 11 Pushed
          ∷ looks_at_lane 0 ⟶ lane_is (some (51 ∷ []))
          ∷ looks_at_lane 1 ⟶ lane_is (some (53 ∷ 52 ∷ []))
          ∷ [];
    }
    -- Lanes out of range give 25 before 1; S under twice the lanes gives 1.
    ∷ record { words = 37; script = starts 2 1 0 0 ⟶ refused 25 ∷ starts 1 0 65 5 ⟶ refused 25 ∷ [] }
    ∷ record { words = 57; script = starts 7 1 0 4 ⟶ refused 1 ∷ [] }
    ∷ record { words = 61; script = starts 8 1 0 4 ⟶ ok ∷ looks_at_hat 3 right ⟶ hat_is 7 ∷ [] }
    ∷ []
