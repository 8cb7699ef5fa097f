-- Words in rows: each at its place, all of them; transposed they are the same words, and transposed twice the first.
use mathlib.Core.Path.{◌≡◌, refl, sym, ap, ◌∙◌, subst}
use mathlib.Core.List.{List, [], ◌∷◌, ◌++◌}
use Prim.Native.Nat.{ℕ, zero, suc, ◌+◌, ◌*◌, ◌<◌}
use native.Mathlib.Nat.{mul-suc}
use native.Mathlib.Omega.{arith}
use lib.ListN.{length, get_or, take, drop, length-append, length-drop, take-append-drop, get_or-append}
use lib.Seq.{length-take-le, get_or-append-add, get_or-take, get_or-drop}
use Rattle.machine.specs.Counts.{count}
use Rattle.machine.specs.Snapshots.{listed, rows, transposed}
use Rattle.machine.proofs.Basics.Counts.{count-append}

-- ---- Places in lists that are joined: in the first list, and past it.
pub at_first : (xs ys : List ℕ) {n i v : ℕ} → length xs ≡ n → i < n → get_or xs i 0 ≡ v → get_or (xs ++ ys) i 0 ≡ v
at_first xs ys {n} {i} long h e =
    get_or-append xs ys 0 i (subst (λ (m : ℕ). i < m) (sym long) h) ∙ e

pub at_second :
    (xs ys : List ℕ) {n i v : ℕ} (j : ℕ)
    → length xs ≡ n
    → i ≡ n + j
    → get_or ys j 0 ≡ v
    → get_or (xs ++ ys) i 0 ≡ v
at_second xs ys j long h e =
    ap (λ (i : ℕ). get_or (xs ++ ys) i 0) (h ∙ ap (λ (n : ℕ). n + j) (sym long)) ∙ get_or-append-add xs ys j 0 ∙ e

-- ---- One row.
length-listed : (n : ℕ) (f : ℕ → ℕ) → length (listed n f) ≡ n
unfolding listed
length-listed zero f = refl
length-listed (suc n) f = ap suc (length-listed n (λ i. f (suc i)))

at_listed : (n : ℕ) (f : ℕ → ℕ) (i : ℕ) → i < n → get_or (listed n f) i 0 ≡ f i
unfolding listed
at_listed zero f i h = absurd (omega arith)
at_listed (suc n) f zero h = refl
at_listed (suc n) f (suc i) h = at_listed n (λ j. f (suc j)) i (omega arith)

listed-alike : (n : ℕ) (f g : ℕ → ℕ) → ((i : ℕ) → i < n → f i ≡ g i) → listed n f ≡ listed n g
unfolding listed
listed-alike zero f g same = refl
listed-alike (suc n) f g same =
    ap (λ (x : ℕ). x ∷ listed n (λ i. f (suc i))) (same 0 (omega arith))
    ∙ ap (λ (l : List ℕ). g 0 ∷ l)
    (listed-alike n (λ i. f (suc i)) (λ i. g (suc i)) (λ i h. same (suc i) (omega arith)))

listed-all : (l : List ℕ) → listed (length l) (λ i. get_or l i 0) ≡ l
unfolding listed
listed-all [] = refl
listed-all (x ∷ l) = ap (λ (m : List ℕ). x ∷ m) (listed-all l)

-- ---- All rows.
length-rows : (m n : ℕ) (f : ℕ → ℕ → ℕ) → length (rows m n f) ≡ n * m
unfolding rows
length-rows zero n f = omega arith
length-rows (suc m) n f =
    let joined = length-append (listed n (f 0)) (rows m n (λ r. f (suc r))) in
    let first = length-listed n (f 0) in
    let others = length-rows m n (λ r. f (suc r)) in
    omega (arith, mul-suc n m)

at_rows : (m n : ℕ) (f : ℕ → ℕ → ℕ) (r c : ℕ) → r < m → c < n → get_or (rows m n f) (n * r + c) 0 ≡ f r c
unfolding rows
at_rows zero n f r c h k = absurd (omega arith)
at_rows (suc m) n f zero c h k =
    let place : n * 0 + c ≡ c = omega arith in
    ap (λ (i : ℕ). get_or (rows (suc m) n f) i 0) place
    ∙ at_first (listed n (f 0)) (rows m n (λ r. f (suc r))) (length-listed n (f 0)) k (at_listed n (f 0) c k)
at_rows (suc m) n f (suc r) c h k =
    at_second (listed n (f 0)) (rows m n (λ r. f (suc r))) (n * r + c) (length-listed n (f 0))
    (omega (arith, mul-suc n r)) (at_rows m n (λ r. f (suc r)) r c (omega arith) k)

rows_alike :
    (m n : ℕ) (f g : ℕ → ℕ → ℕ)
    → ((r c : ℕ) → r < m → c < n → f r c ≡ g r c)
    → rows m n f ≡ rows m n g
unfolding rows
rows_alike zero n f g same = refl
rows_alike (suc m) n f g same =
    ap (λ (l : List ℕ). l ++ rows m n (λ r. f (suc r)))
    (listed-alike n (f 0) (g 0) (λ c k. same 0 c (omega arith) k))
    ∙ ap (λ (l : List ℕ). listed n (g 0) ++ l)
    (rows_alike m n (λ r. f (suc r)) (λ r. g (suc r)) (λ r c h k. same (suc r) c (omega arith) k))

-- Words are the rows that they are cut into.
no_words : (l : List ℕ) → length l ≡ 0 → [] ≡ l
no_words [] e = refl
no_words (x ∷ l) e = absurd (omega arith)

rows_all : (m n : ℕ) (l : List ℕ) → length l ≡ n * m → rows m n (λ r c. get_or l (n * r + c) 0) ≡ l
unfolding rows
rows_all zero n l long = no_words l (omega (arith, long))
rows_all (suc m) n l long =
    ap (λ (k : List ℕ). k ++ rows m n (λ r c. get_or l (n * suc r + c) 0)) first
    ∙ ap (λ (k : List ℕ). take n l ++ k) (others ∙ rows_all m n (drop n l) left)
    ∙ take-append-drop n l
  where
    left : length (drop n l) ≡ n * m
    left = let e = length-drop n l in omega (arith, long, mul-suc n m)

    front : length (take n l) ≡ n
    front = length-take-le n l (omega (arith, long, mul-suc n m))

    first : listed n (λ c. get_or l (n * 0 + c) 0) ≡ take n l
    first =
        listed-alike n (λ c. get_or l (n * 0 + c) 0) (λ c. get_or (take n l) c 0) (λ c k.
        let place : n * 0 + c ≡ c = omega arith in
        ap (λ (i : ℕ). get_or l i 0) place ∙ sym (get_or-take n l c 0 k))
        ∙ ap (λ (i : ℕ). listed i (λ c. get_or (take n l) c 0)) (sym front)
        ∙ listed-all (take n l)

    others : rows m n (λ r c. get_or l (n * suc r + c) 0) ≡ rows m n (λ r c. get_or (drop n l) (n * r + c) 0)
    others =
        rows_alike m n (λ r c. get_or l (n * suc r + c) 0) (λ r c. get_or (drop n l) (n * r + c) 0) (λ r c h k.
        let place : n * suc r + c ≡ n + (n * r + c) = omega (arith, mul-suc n r) in
        ap (λ (i : ℕ). get_or l i 0) place ∙ sym (get_or-drop n l (n * r + c) 0))

-- ---- Columns.
pub length-transposed : (m n : ℕ) (l : List ℕ) → length (transposed m n l) ≡ m * n
unfolding transposed
length-transposed m n l = length-rows n m (λ c r. get_or l (n * r + c) 0)

pub at-transposed : (m n : ℕ) (l : List ℕ) (r c : ℕ) → r < m → c < n
    → get_or (transposed m n l) (m * c + r) 0 ≡ get_or l (n * r + c) 0
unfolding transposed
at-transposed m n l r c h k = at_rows n m (λ c r. get_or l (n * r + c) 0) c r k h

-- Nothing else has each word at its place.
is-transposed : (m n : ℕ) (l out : List ℕ) → length out ≡ m * n
    → ((r c : ℕ) → r < m → c < n → get_or out (m * c + r) 0 ≡ get_or l (n * r + c) 0)
    → out ≡ transposed m n l
unfolding transposed
is-transposed m n l out long each =
    sym (rows_all n m out long)
    ∙ rows_alike n m (λ c r. get_or out (m * c + r) 0) (λ c r. get_or l (n * r + c) 0) (λ c r k h. each r c h k)

pub transposed-twice : (m n : ℕ) (l : List ℕ) → length l ≡ n * m → transposed n m (transposed m n l) ≡ l
transposed-twice m n l long =
    sym (is-transposed n m (transposed m n l) l long (λ c r k h. sym (at-transposed m n l r c h k)))

-- ---- The same words: each number as often.
module _ (b : ℕ) where
  no-columns : (n : ℕ) (g : ℕ → ℕ → ℕ) → count b (rows n 0 g) ≡ 0
  unfolding rows listed count
  no-columns zero g = refl
  no-columns (suc n) g = no-columns n (λ c. g (suc c))

  -- The first word of each row, and the others.
  first-words : (n m : ℕ) (g : ℕ → ℕ → ℕ)
      → count b (rows n (suc m) g) ≡ count b (listed n (λ c. g c 0)) + count b (rows n m (λ c r. g c (suc r)))
  unfolding rows listed count
  first-words zero m g = refl
  first-words (suc n) m g =
      let first = listed m (λ r. g 0 (suc r)) in
      let whole = count-append b first (rows n (suc m) (λ c. g (suc c))) in
      let left = count-append b first (rows n m (λ c r. g (suc c) (suc r))) in
      let others = first-words n m (λ c. g (suc c)) in
      omega arith

  exchanged : (m n : ℕ) (f : ℕ → ℕ → ℕ) → count b (rows n m (λ c r. f r c)) ≡ count b (rows m n f)
  unfolding rows count
  exchanged zero n f = no-columns n (λ c r. f r c)
  exchanged (suc m) n f =
      let first = first-words n m (λ c r. f r c) in
      let joined = count-append b (listed n (f 0)) (rows m n (λ r. f (suc r))) in
      let others = exchanged m n (λ r. f (suc r)) in
      omega arith

  pub count-transposed : (m n : ℕ) (l : List ℕ) → length l ≡ n * m → count b (transposed m n l) ≡ count b l
  unfolding transposed
  count-transposed m n l long =
      exchanged m n (λ r c. get_or l (n * r + c) 0) ∙ ap (count b) (rows_all m n l long)
