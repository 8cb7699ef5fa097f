-- The order of the airlines does not matter.
use mathlib.Core.Path.{◌≡◌, refl, sym, ap, ◌∙◌, subst}
use mathlib.Core.Bool.{Bool, true, false}
use mathlib.Core.Logic.{◌⊎◌, inl, inr}
use mathlib.Core.List.{List, [], ◌∷◌}
use Prim.Native.Nat.{ℕ}
use borrow.Author.Tests.{eq-eqb, eqb-true}
use lib.Dec.{eqb}
use Rattle.tag.proofs.TagLaws.{clash}
use Rattle.airline_list.specs.declared.End.{End}
use Rattle.airline_list.specs.Outcomes.{To}
use Rattle.airline_list.specs.Lists.{code_of, Entry, entry, named, end_for}
use Rattle.airline_list.specs.Accepted.{Reordered, empty, first, swapped, twice, OrderDoesNotMatter}
use Rattle.airline_list.proofs.Laws.AcceptedLaws.{Distinct, accepted}

abbrev In : Entry → List Entry → Type 0
In e [] = ⊥
In e (d ∷ es) = (e ≡ d) ⊎ In e es

still-in : (e : Entry) {es fs : List Entry} → Reordered es fs → In e es → In e fs
still-in e empty i = i
still-in e (first r) (inl p) = inl p
still-in e (first r) (inr i) = inr (still-in e r i)
still-in e swapped (inl p) = inr (inl p)
still-in e swapped (inr (inl p)) = inl p
still-in e swapped (inr (inr i)) = inr (inr i)
still-in e (twice r s) i = still-in e s (still-in e r i)

back : {es fs : List Entry} → Reordered es fs → Reordered fs es
back empty = empty
back (first r) = first (back r)
back swapped = swapped
back (twice r s) = twice (back s) (back r)

in-named : (e : Entry) (es : List Entry) → In e es → named e.code es ≡ true
unfolding named
in-named e [] i = elim i [ ]
in-named e (d ∷ es) (inl p) = rw (eq-eqb e.code d.code (ap (λ x. x.code) p))
in-named e (d ∷ es) (inr i) = go (eqb e.code d.code) refl (in-named e es i)
  where
    go : (b : Bool) → eqb e.code d.code ≡ b → named e.code es ≡ true → named e.code (d ∷ es) ≡ true
    go true h r = rw h
    go false h r = rw h r

end-in : (e : Entry) (es : List Entry) (closing : End) → Distinct es → In e es → end_for e.code es closing ≡ e.end
unfolding end_for
end-in e [] closing D i = elim i [ ]
end-in e (d ∷ es) closing D (inl p) =
    rw (eq-eqb e.code d.code (ap (λ x. x.code) p)) (ap (λ x. x.end) (sym p))
end-in e (d ∷ es) closing D (inr i) = go (eqb e.code d.code) refl (end-in e es closing D.1 i)
  where
    go : (b : Bool) → eqb e.code d.code ≡ b → end_for e.code es closing ≡ e.end
        → end_for e.code (d ∷ es) closing ≡ e.end
    go true h r =
        let same = eqb-true e.code d.code h in
        let n : named e.code es ≡ true = in-named e es i in
        let m : named e.code es ≡ false = rw same D.0 in
        clash (cc)
    go false h r = rw h r

-- A code is an airline's, or none has it and it goes where all others go.
abbrev Found : (code : ℕ) (es : List Entry) (closing : End) → Type 0
Found code es closing =
    In (entry code (end_for code es closing)) es ⊎ ((end_for code es closing ≡ closing) × (named code es ≡ false))

found : (code : ℕ) (es : List Entry) (closing : End) → Found code es closing
unfolding end_for named
found code [] closing = inr (refl, refl)
found code (d ∷ es) closing = go (eqb code d.code) refl (found code es closing)
  where
    go : (b : Bool) → eqb code d.code ≡ b → Found code es closing → Found code (d ∷ es) closing
    go true h r = let c = eqb-true code d.code h in inl (inl (rw h (λ i. entry (c i) d.end)))
    go false h (inl i) =
        let further : end_for code (d ∷ es) closing ≡ end_for code es closing = rw h refl in
        inl (inr (subst (λ (x : End). In (entry code x) es) (sym further) i))
    go false h (inr n) = inr (rw h n)

same_end : (code : ℕ) (es fs : List Entry) (closing : End) → Distinct fs → Reordered es fs
    → end_for code es closing ≡ end_for code fs closing
same_end code es fs closing D r = go (found code es closing) (found code fs closing)
  where
    go : Found code es closing → Found code fs closing → end_for code es closing ≡ end_for code fs closing
    go (inl i) other = sym (end-in (entry code (end_for code es closing)) fs closing D (still-in _ r i))
    go (inr n) (inl i) =
        let m = in-named (entry code (end_for code fs closing)) es (still-in _ (back r) i) in
        clash (cc n.1)
    go (inr n) (inr m) = n.0 ∙ sym m.0

pub order-does-not-matter : OrderDoesNotMatter
order-does-not-matter one other es fs closing h k r tag =
    let distinct = (accepted other fs closing k).distinct in
    rw (h, k) (ap To (same_end (code_of tag) es fs closing distinct r))
