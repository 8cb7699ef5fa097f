-- The words of a value and the value of words: each gives back the other. No other proof names a word of a value.
use mathlib.Core.Path.{◌≡◌, refl, ap, sym, ◌∙◌, subst}
use mathlib.Core.Logic.{◌⊎◌, inl, inr}
use mathlib.Core.Bool.{Bool, true, false, cond, ◌&&◌}
use mathlib.Core.List.{List}
use Prim.Native.Nat.{ℕ, suc, ◌+◌, ◌≤◌, ◌<◌}
use lib.Dec.{leb, eqb}
use lib.ListN.{length, length-set, get_or, set}
use lib.Seq.{sets, get_or-set_same, get_or-set_other}
use native.Mathlib.Omega.{arith}
use native.Mathlib.Nat.{add-zero}
use native.Mathlib.Numerals.{add-one}
use native.Mathlib.Decide.{ℕ_discrete}
use borrow.Author.Tests.{leb-true, le-leb, eqb-true, eq-eqb}
use Rattle.tag.specs.Tags.{billion, largest_tag}
use Rattle.tag.proofs.TagLaws.{
  tag-of-words,
  digit-of-tag,
  low-of-tag,
  TagRange,
  tag-range,
  is-tag,
  number-is-tag,
}
use Rattle.machine.specs.declared.Stored.{Stored}
use Rattle.machine.specs.Choice.{◌≟◌, if?◌then◌else◌}
use Rattle.machine.specs.Sides.{Side, left, right}
use Rattle.machine.specs.Values.{
  Value,
  never,
  bag,
  N,
  X,
  Y,
  stored_length,
  stored_words,
  stored_at,
  same_stored,
  stored,
  number,
  mark,
  encode,
  decode,
  bag_ok,
  value_ok,
}
use Rattle.machine.specs.Operations.{Operation, idle, push, pop, add, remove, argument_ok}
use Rattle.machine.proofs.Basics.Tests.{and_left, and_right, or-either}
use Rattle.machine.proofs.Basics.Contradiction.{clash, refute}

-- ---- The words themselves.
pub same-stored : {u w : Stored} → same_stored u w ≡ true → u ≡ w
same-stored {u} {w} h =
    λ i. record { word = eqb-true u.word w.word first i; digit = eqb-true u.digit w.digit second i }
  where
    first : eqb u.word w.word ≡ true
    first = and_left (eqb u.word w.word) (eqb u.digit w.digit) h

    second : eqb u.digit w.digit ≡ true
    second = and_right (eqb u.word w.word) (eqb u.digit w.digit) h

pub stored_same : {u w : Stored} → u ≡ w → same_stored u w ≡ true
stored_same {u} {w} e =
    rw (
      eq-eqb u.word w.word (ap (λ (v : Stored). v.word) e),
      eq-eqb u.digit w.digit
          (ap (λ (v : Stored). v.digit) e),
    )

pub number-stored : (n : ℕ) → number (stored n) ≡ n
number-stored n = tag-of-words n

-- Words of which the nine digits below are no more are those of their number.
of_number : (u : Stored) → u.word < billion → stored (number u) ≡ u
of_number u h =
    λ i. record { word = low-of-tag u.digit u.word h i; digit = digit-of-tag u.digit u.word h i }

-- Read from a place whose words are those at a place of another list, and where they were written.
pub stored-alike :
    (ws vs : List ℕ) (p q : ℕ)
    → ((c : ℕ) → c < stored_length → get_or vs (p + c) 0 ≡ get_or ws (q + c) 0)
    → stored_at vs p ≡ stored_at ws q
stored-alike ws vs p q same = λ i. record { word = first i; digit = same 1 (omega arith) i }
  where
    first : get_or vs p 0 ≡ get_or ws q 0
    first = rw (add-zero p, add-zero q) at (same 0 (omega arith))

pub stored-written :
    (ws : List ℕ) (p : ℕ) (u : Stored) → p + stored_length ≤ length ws → stored_at (sets ws p (stored_words u)) p ≡ u
stored-written ws p u h = λ i. record { word = first i; digit = second i }
  where
    after : List ℕ
    after = set ws p u.word

    first : get_or (set after (suc p) u.digit) p 0 ≡ u.word
    first = get_or-set_other after (suc p) p u.digit 0 (omega arith) ∙ get_or-set_same ws p u.word 0 (omega arith)

    second : get_or (set after (suc p) u.digit) (p + 1) 0 ≡ u.digit
    second =
        ap (λ q. get_or (set after (suc p) u.digit) q 0) (add-one p)
        ∙ get_or-set_same after (suc p) u.digit 0 (rw (length-set ws p u.word) (omega arith))

-- The value can be read back from its words.
abbrev pub HasWord : Value → Type 0
HasWord v = decode (encode v) ≡ v

-- The marks of a side.
pub data IsMark (s : Side) : Value → Type 0 where
  N-mark : IsMark s (N s)
  X-mark : IsMark s (X s)
  Y-mark : IsMark s (Y s)

-- ---- From the tests of words to facts, and back.
pub bag-range : (u : Stored) → bag_ok u ≡ true → (1 ≤ number u) × (number u ≤ largest_tag)
bag-range u h = let r = tag-range u.digit u.word h in (r.not-zero, r.at_most)

pub stored-number : (u : Stored) → bag_ok u ≡ true → stored (number u) ≡ u
stored-number u h = of_number u (tag-range u.digit u.word h).low_small

pub bag-ok : (n : ℕ) → 1 ≤ n → n ≤ largest_tag → bag_ok (stored n) ≡ true
bag-ok n h k = number-is-tag n h k

-- The words of an argument, which are those of its number.
pub argument-stored : (op : Operation) (u : Stored) → argument_ok op u ≡ true → stored (number u) ≡ u
argument-stored op u h = go op h
  where
    small : (n : ℕ) → n < billion → number u ≤ n → stored (number u) ≡ u
    small n l k = of_number u (omega arith)

    go : (op : Operation) → argument_ok op u ≡ true → stored (number u) ≡ u
    go idle h = let e = eqb-true (number u) 0 h in small 0 (omega arith) (omega arith)
    go push h = stored-number u h
    go pop h = let e = eqb-true (number u) 0 h in small 0 (omega arith) (omega arith)
    go add h = small 64 (omega arith) (leb-true (number u) 64 h)
    go remove h = small 1023 (omega arith) (leb-true (number u) 1023 h)

-- Nine digits below a leading one.
abbrev pub Digits : Stored → Type 0
Digits u = (u.word ≤ 999_999_999) × (u.digit ≤ 9)

-- From LN's word to RY's, with digit 0.
abbrev MarkRange : Stored → Type 0
MarkRange u = (1000000001 ≤ u.word) × (u.word ≤ 1000000006) × (u.digit ≡ 0)

pub value-range : (u : Stored) → value_ok u ≡ true → Digits u ⊎ MarkRange u
value-range u h =
    let w = u.word in
    let d = u.digit in
    let a = leb w 999_999_999 in
    let b = leb d 9 in
    let c = leb 1000000001 w in
    let e = leb w 1000000006 in
    let f = eqb d 0 in
    elim (or-either (a && b) (c && e && f) h) [
      | inl x ↦ inl (leb-true w 999_999_999 (and_left a b x), leb-true d 9 (and_right a b x))
      | inr x ↦
          let y = and_left (c && e) f x in
          inr (
            leb-true 1000000001 w (and_left c e y),
            leb-true w 1000000006 (and_right c e y),
            eqb-true d 0
                (and_right (c && e) f x),
          )
    ]

value-ok-digits : (u : Stored) → Digits u → value_ok u ≡ true
value-ok-digits u h = rw (le-leb u.word 999_999_999 h.0, le-leb u.digit 9 h.1)

-- Words of digits are 0 or a bag's.
digits-bag : (u : Stored) → Digits u → same_stored u (encode never) ≡ false → bag_ok u ≡ true
digits-bag u h e =
    is-tag u.digit u.word h.1 (omega arith) (elim (number u ≟ 0) [
      | yes z ↦ absurd (refute (cc (e, stored_same {u = u} {w = encode never} (zero z))))
      | no n ↦ omega arith
    ])
  where
    zero : number u ≡ 0 → u ≡ encode never
    zero z = let w : u.word ≡ 0 = omega arith in let d : u.digit
        ≡ 0 = omega arith in λ i. record { word = w i; digit = d i }

-- ---- How words are decoded.
data Decoded (u : Stored) : Value → Type 0 where
  as-never : u ≡ encode never → Decoded u never
  as-bag : bag_ok u ≡ true → Decoded u (bag (number u))
  as-mark : {s : Side} {v : Value} → IsMark s v → u ≡ encode v → Decoded u v
  as-other : {s : Side} {v : Value} → IsMark s v → (value_ok u ≡ true → ⊥) → Decoded u v

decoded : (u : Stored) → Decoded u (decode u)
unfolding decode
decoded u =
    go (same_stored u (encode never)) (bag_ok u) refl refl
    (w ≟ 1000000001) (w ≟ 1000000002) (w ≟ 1000000003) (w ≟ 1000000004) (w ≟ 1000000005)
  where
    w : ℕ
    w = u.word

    -- A word of a mark, which is one if its digit is 0.
    marked : {s : Side} {v : Value} → IsMark s v → (n : ℕ) → 999_999_999 < n → encode v ≡ mark n → w ≡ n → Decoded u v
    marked m n l e h =
        elim (u.digit ≟ 0) [
          | yes d ↦ as-mark m ((λ i. record { word = h i; digit = d i }) ∙ sym e)
          | no d ↦ as-other m (λ ok. elim (value-range u ok)
              [ inl r ↦ absurd (omega (arith, r.0)) | inr r ↦ d r.2 ])
        ]

    last :
        same_stored u (encode never) ≡ false
        → bag_ok u ≡ false
        → (MarkRange u → w ≡ 1000000006)
        → Dec (w ≡ 1000000006)
        → Decoded u (Y right)
    last a b e (yes h) = marked {s = right} Y-mark 1000000006 (omega arith) refl h
    last a b e (no h) =
        as-other {s = right} Y-mark (λ ok. elim (value-range u ok) [
          | inl r ↦ refute (cc (b, digits-bag u r a))
          | inr r ↦ h (e r)
        ])

    go :
        (a b : Bool)
        → same_stored u (encode never) ≡ a
        → bag_ok u ≡ b
        → (c : Dec (w ≡ 1000000001))
        (d : Dec (w ≡ 1000000002))
        (e : Dec (w ≡ 1000000003))
        (f : Dec (w ≡ 1000000004))
        (g : Dec (w ≡ 1000000005))
        → Decoded u
        (cond a never
        (cond b (bag (number u))
        (if? c then N left else
        if? d then X left else
        if? e then Y left else
        if? f then N right else
        if? g then X right else
        Y right)))
    go true b p q c d e f g = as-never (same-stored {w = encode never} p)
    go false true p q c d e f g = as-bag q
    go false false p q (yes c) d e f g = marked {s = left} N-mark 1000000001 (omega arith) refl c
    go false false p q (no c) (yes d) e f g = marked {s = left} X-mark 1000000002 (omega arith) refl d
    go false false p q (no c) (no d) (yes e) f g = marked {s = left} Y-mark 1000000003 (omega arith) refl e
    go false false p q (no c) (no d) (no e) (yes f) g = marked {s = right} N-mark 1000000004 (omega arith) refl f
    go false false p q (no c) (no d) (no e) (no f) (yes g) = marked {s = right} X-mark 1000000005 (omega arith) refl g
    go false false p q (no c) (no d) (no e) (no f) (no g) = last p q (λ r. omega (arith, r.0, r.1)) (w ≟ 1000000006)

-- ---- Which values have a word, and that the word is as V may be.
pub never-has-word : HasWord never
unfolding decode
never-has-word = refl

pub bag-decoded : (u : Stored) → bag_ok u ≡ true → decode u ≡ bag (number u)
unfolding decode
bag-decoded u h = rw (not-never, h)
  where
    r : TagRange u.digit u.word
    r = tag-range u.digit u.word h

    not-never : same_stored u (encode never) ≡ false
    not-never = go (same_stored u (encode never)) refl
      where
        go : (a : Bool) → same_stored u (encode never) ≡ a → a ≡ false
        go false e = refl
        go true e =
            let z : number u ≡ 0 = ap number (same-stored {u = u} {w = encode never} e) in absurd
            (omega (arith, r.not-zero))

pub bag-has-word : (n : ℕ) → bag_ok (stored n) ≡ true → HasWord (bag n)
bag-has-word n h = bag-decoded (stored n) h ∙ ap bag (number-stored n)

pub mark-has-word : {s : Side} {v : Value} → IsMark s v → HasWord v
unfolding decode ℕ_discrete
mark-has-word {s = left} N-mark = refl
mark-has-word {s = left} X-mark = refl
mark-has-word {s = left} Y-mark = refl
mark-has-word {s = right} N-mark = refl
mark-has-word {s = right} X-mark = refl
mark-has-word {s = right} Y-mark = refl

never-value-ok : value_ok (encode never) ≡ true
never-value-ok = refl

pub bag-value-ok : (u : Stored) → bag_ok u ≡ true → value_ok u ≡ true
bag-value-ok u h =
    let r = tag-range u.digit u.word h in value-ok-digits u (omega (arith, r.low_small), r.digit-small)

pub mark-value-ok : {s : Side} {v : Value} → IsMark s v → value_ok (encode v) ≡ true
mark-value-ok {s = left} N-mark = refl
mark-value-ok {s = left} X-mark = refl
mark-value-ok {s = left} Y-mark = refl
mark-value-ok {s = right} N-mark = refl
mark-value-ok {s = right} X-mark = refl
mark-value-ok {s = right} Y-mark = refl

-- ---- What was decoded, of any words.
pub decoded-has-word : (u : Stored) → HasWord (decode u)
decoded-has-word u = go (decoded u)
  where
    go : {v : Value} → Decoded u v → HasWord v
    go (as-never e) = never-has-word
    go (as-bag h) =
        bag-has-word (number u) (subst (λ (v : Stored). bag_ok v ≡ true) (sym (stored-number u h)) h)
    go (as-mark m e) = mark-has-word m
    go (as-other m q) = mark-has-word m

pub decoded-value-ok : (u : Stored) → value_ok (encode (decode u)) ≡ true
decoded-value-ok u = go (decoded u)
  where
    go : {v : Value} → Decoded u v → value_ok (encode v) ≡ true
    go (as-never e) = never-value-ok
    go (as-bag h) = subst (λ (v : Stored). value_ok v ≡ true) (sym (stored-number u h)) (bag-value-ok u h)
    go (as-mark m e) = mark-value-ok m
    go (as-other m q) = mark-value-ok m

-- Words that decode to a bag are the bag's number.
pub decoded-bag : (u : Stored) (b : ℕ) → decode u ≡ bag b → (bag_ok u ≡ true) × (number u ≡ b)
decoded-bag u b h = go (decoded u) h
  where
    no-mark : {s : Side} {v : Value} → IsMark s v → v ≡ bag b → (bag_ok u ≡ true) × (number u ≡ b)
    no-mark N-mark q = clash (cc)
    no-mark X-mark q = clash (cc)
    no-mark Y-mark q = clash (cc)

    go : {v : Value} → Decoded u v → v ≡ bag b → (bag_ok u ≡ true) × (number u ≡ b)
    go (as-never e) q = clash (cc)
    go (as-bag h) q = (h, cc)
    go (as-mark m e) q = no-mark m q
    go (as-other m n) q = no-mark m q

-- ---- Of words that V may be.
pub encode-decode : (u : Stored) → value_ok u ≡ true → encode (decode u) ≡ u
encode-decode u h = go (decoded u)
  where
    go : {v : Value} → Decoded u v → encode v ≡ u
    go (as-never e) = sym e
    go (as-bag b) = stored-number u b
    go (as-mark m e) = sym e
    go (as-other m q) = absurd (q h)

pub decode-one-to-one : (u w : Stored) → value_ok u ≡ true → value_ok w ≡ true → decode u ≡ decode w → u ≡ w
decode-one-to-one u w h k e = sym (encode-decode u h) ∙ ap encode e ∙ encode-decode w k
