-- Three calls at an end where a push was "full" elsewhere: push a tag, pop the bag again, remove 0; what they leave.
use mathlib.Core.Path.{◌≡◌, refl, sym, ap, ◌∙◌, subst}
use mathlib.Core.Logic.{inl, inr}
use mathlib.Core.List.{List}
use mathlib.Core.Option.{none}
use Prim.Native.Nat.{ℕ, suc, ◌+◌, ◌-◌, ◌≤◌, ◌<◌}
use native.Mathlib.Omega.{arith}
use native.Mathlib.Decide.{ℕ_discrete}
use lib.ListN.{length}
use borrow.Author.Tests.{lt-ltb}
use Rattle.machine.specs.Choice.{◌≟◌, ◌<?◌}
use Rattle.machine.specs.Outcomes.Answer.{Answer, Pushed, Bag, Full, Yes, No}
use Rattle.machine.specs.Sides.{Side}
use Rattle.machine.specs.Operations.{push, pop, remove}
use Rattle.machine.specs.Answers.{kind_of}
use Rattle.machine.specs.Row.{put}
use Rattle.machine_capacity.specs.Alone.{leaves, from_end, pop_alone, alone}
use Rattle.machine_capacity.specs.OneUser.{State, call_of, refusal, AfterCall, one_call}
use Rattle.machine_capacity.specs.Room.{Loader, CanPush, pop_and_remove, give_back, given_back}
use Rattle.machine.proofs.Basics.Contradiction.{equal?, less?}
use Rattle.machine.proofs.Basics.Choices.{if_yes, if_no}
use Rattle.machine_capacity.proofs.Alone.Rows.{length-put, put_from_end, from-end-back}
use Rattle.machine_capacity.proofs.Alone.Outcomes.{
  least_first,
  push-spare,
  push-takes,
  push-full,
  pop-bag,
  remove-one,
  remove-more,
}
use Rattle.machine_capacity.proofs.OneUser.States.{
  Numbers,
  Elsewhere,
  elsewhere-then,
  call-answers,
  call-numbers,
  call-elsewhere,
}
use Rattle.machine_capacity.proofs.OneUser.Room.{not-refused, side-passes}

-- A pop and a remove of 0 are not refused.
sized-calls : (σ : State) (k l : ℕ) (s : Side) → k < σ.tasks → l < σ.lanes
    → (refusal σ (call_of k l pop s 0) ≡ none) × (refusal σ (call_of k l remove s 0) ≡ none)
unfolding ℕ_discrete
sized-calls σ k l s is_task is_lane = (
  rw (lt-ltb l σ.lanes is_lane, lt-ltb k σ.tasks is_task, side-passes s) refl,
  rw (lt-ltb l σ.lanes is_lane, lt-ltb k σ.tasks is_task, side-passes s) refl,
)

-- A pop gives the bag just pushed.
pops-back : (s : Side) (v : ℕ) (bags : List ℕ) (r y : ℕ)
    → pop_alone s (put s v bags) r y ≡ leaves (Bag v) bags (suc r) 0
pops-back s v bags r y =
    pop-bag s (put s v bags) r y v (from_end s bags) (put_from_end s v bags)
    ∙ ap (λ (l : List ℕ). leaves (Bag v) l (suc r) 0) (from-end-back s bags)

-- Whether they are made is a matter of the first answer.
module _ (σ : State) (p : Loader) where
  abbrev pushed_now : AfterCall
  pushed_now = one_call σ (call_of p.task p.lane push p.side p.tag)

  none_made : pushed_now.answer ≡ Full → give_back σ p ≡ pushed_now.state
  none_made full =
      if_no (kind_of pushed_now.answer ≟ kind_of Pushed) (pop_and_remove pushed_now.state p) pushed_now.state
      (λ e. let q : ◌≡◌ {A = ℕ} 4 1 = ap kind_of (sym full) ∙ e in omega arith)

  all_made : pushed_now.answer ≡ Pushed → give_back σ p ≡ pop_and_remove pushed_now.state p
  all_made pushed =
      if_yes (kind_of pushed_now.answer ≟ kind_of Pushed) (pop_and_remove pushed_now.state p) pushed_now.state
      (ap kind_of pushed)

-- What they leave, of a state with none free: f are free.
pub record Back (σ τ : State) (p : Loader) (f : ℕ) : Type 0 where
  pub elsewhere : Elsewhere σ τ p.lane p.side
  pub own_bags : (τ.lane p.lane).bags ≡ (σ.lane p.lane).bags
  pub free-is : τ.free ≡ f
  pub some_spare : 1 ≤ (τ.lane p.lane).spare p.side
  pub one_spur : (τ.lane p.lane).spur p.side ≤ 1
  pub same_sum :
      (τ.lane p.lane).spare p.side + (τ.lane p.lane).spur p.side + τ.free
      ≡ (σ.lane p.lane).spare p.side + (σ.lane p.lane).spur p.side

module _ {σ : State} (p : Loader) (P : CanPush σ p) (none_free : σ.free ≡ 0)
    (spare-there : 1 ≤ (σ.lane p.lane).spare p.side) (one : (σ.lane p.lane).spur p.side ≤ 1) where
  abbrev k : ℕ
  k = p.task

  abbrev l : ℕ
  l = p.lane

  abbrev s : Side
  s = p.side

  abbrev bags : List ℕ
  bags = (σ.lane p.lane).bags

  abbrev r : ℕ
  r = (σ.lane p.lane).spare p.side

  abbrev y : ℕ
  y = (σ.lane p.lane).spur p.side

  first : Numbers σ l s bags r y 0
  first = record { bags-are = refl; spare_is = refl; spur_is = refl; free-is = none_free }

  passes : refusal σ (call_of k l push s p.tag) ≡ none
  passes = not-refused k l s σ p.tag P.is_task P.is_lane P.is-tag P.is_new

  longer : length (put s p.tag bags) ≡ suc (length bags)
  longer = length-put s p.tag bags

  abbrev σ₁ : State
  σ₁ = (one_call σ (call_of k l push s p.tag)).state

  abbrev σ₂ : State
  σ₂ = (one_call σ₁ (call_of k l pop s 0)).state

  abbrev σ₃ : State
  σ₃ = (one_call σ₂ (call_of k l remove s 0)).state

  -- With the push "full".
  stays : r ≡ 1 → y ≡ 0 → Back σ (give_back σ p) p 0
  stays single no-spur =
      let o = leaves Full bags r y in
      let comes-to : alone push s p.tag σ.growth 0 bags r y ≡ o =
      push-full s p.tag σ.growth 0 bags r y single (omega arith) in
      let a = call-answers first k push p.tag passes comes-to in
      let N = call-numbers first k push p.tag passes comes-to 0 refl in
      subst (λ (τ : State). Back σ τ p 0) (sym (none_made σ p a))
      (record {
        elsewhere = call-elsewhere first k push p.tag passes comes-to;
        own_bags = N.bags-are;
        free-is = N.free-is;
        some_spare = omega (arith, N.spare_is);
        one_spur = omega (arith, N.spur_is);
        same_sum = omega (arith, N.spare_is, N.spur_is, N.free-is);
      })

  -- With the push "pushed": it leaves c spare nodes and f free ones, and the remove d and f'.
  module _ (c f : ℕ) (comes-to : alone push s p.tag σ.growth 0 bags r y ≡ leaves Pushed (put s p.tag bags) c 0)
      (sum : f + suc c ≡ r + y) (a : Answer) (d f' : ℕ)
      (cuts : alone remove s 0 σ.growth f bags (suc c) 0 ≡ leaves a bags d 0) (sum' : f' + d ≡ f + suc c)
      (keeps : 1 ≤ d) where
    N₁ : Numbers σ₁ l s (put s p.tag bags) c 0 f
    N₁ = call-numbers first k push p.tag passes comes-to f (omega (arith, longer))

    E₁ : Elsewhere σ σ₁ l s
    E₁ = call-elsewhere first k push p.tag passes comes-to

    passes₁ : refusal σ₁ (call_of k l pop s 0) ≡ none
    passes₁ =
        (sized-calls σ₁ k l s (subst (λ (i : ℕ). k < i) (sym E₁.same_tasks) P.is_task)
        (subst (λ (i : ℕ). l < i) (sym E₁.same-lanes) P.is_lane)).0

    N₂ : Numbers σ₂ l s bags (suc c) 0 f
    N₂ = call-numbers N₁ k pop 0 passes₁ (pops-back s p.tag bags c 0) f (omega (arith, longer))

    E₂ : Elsewhere σ σ₂ l s
    E₂ = elsewhere-then E₁ (call-elsewhere N₁ k pop 0 passes₁ (pops-back s p.tag bags c 0))

    passes₂ : refusal σ₂ (call_of k l remove s 0) ≡ none
    passes₂ =
        (sized-calls σ₂ k l s (subst (λ (i : ℕ). k < i) (sym E₂.same_tasks) P.is_task)
        (subst (λ (i : ℕ). l < i) (sym E₂.same-lanes) P.is_lane)).1

    cuts₂ : alone remove s 0 σ₂.growth f bags (suc c) 0 ≡ leaves a bags d 0
    cuts₂ = cuts

    N₃ : Numbers σ₃ l s bags d 0 f'
    N₃ = call-numbers N₂ k remove 0 passes₂ cuts₂ f' (omega arith)

    goes_back : Back σ (give_back σ p) p f'
    goes_back =
        let pushed = call-answers first k push p.tag passes comes-to in
        subst (λ (τ : State). Back σ τ p f') (sym (all_made σ p pushed))
        (record {
          elsewhere = elsewhere-then E₂ (call-elsewhere N₂ k remove 0 passes₂ cuts₂);
          own_bags = N₃.bags-are;
          free-is = N₃.free-is;
          some_spare = omega (arith, N₃.spare_is);
          one_spur = omega (arith, N₃.spur_is);
          same_sum = omega (arith, N₃.spare_is, N₃.spur_is, N₃.free-is);
        })

  -- Of two spare nodes a remove cuts off none, of more all but the last.
  two-stay : (f : ℕ) → alone remove s 0 σ.growth f bags 2 0 ≡ leaves No bags 2 0
  two-stay f = remove-one 0 bags 2 0 refl refl

  pub given-back : Back σ (give_back σ p) p (given_back r y)
  given-back =
      elim (less? r 2) [
        | inl few ↦
            subst (Back σ (give_back σ p) p) (sym (if_yes (r <? 2) _ _ few))
            (elim (equal? y 0) [
              | inl z ↦ stays (omega arith) z
              | inr nz ↦
                  goes_back 1 0
                  (push-takes s p.tag σ.growth 0 bags r y (omega arith) (λ e. omega arith)
                  ∙ ap (λ (i : ℕ). leaves Pushed (put s p.tag bags) i 0)
                  (least_first (0 + y) (suc σ.growth) (omega arith) ∙ omega arith))
                  (omega arith) No 2 0 (two-stay 0) (omega arith) (omega arith)
            ])
        | inr many ↦
            let spare-left = push-spare s p.tag σ.growth 0 bags r y (omega arith) in
            elim (equal? r 2) [
              | inl e ↦
                  let c-is : r - 1 ≡ 1 = omega arith in
                  subst (Back σ (give_back σ p) p)
                  (sym (if_no (r <? 2) _ _ (λ h. omega arith) ∙ if_yes (r ≟ 2) _ _ e))
                  (goes_back 1 y
                  (spare-left ∙ ap (λ (i : ℕ). leaves Pushed (put s p.tag bags) i 0) c-is)
                  (omega arith) No 2 y (two-stay y) (omega arith) (omega arith))
              | inr ne ↦
                  subst (Back σ (give_back σ p) p)
                  (sym (if_no (r <? 2) _ _ (λ h. omega arith) ∙ if_no (r ≟ 2) _ _ ne))
                  (goes_back (r - 1) y spare-left (omega arith) Yes 1 (r + y - 1)
                  (remove-more 0 bags (suc (r - 1)) 0 refl (omega arith)) (omega arith) (omega arith))
            ]
      ]
