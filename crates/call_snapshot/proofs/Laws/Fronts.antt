-- Words that are written from the front on: what stands in front after one more.
use mathlib.Core.Path.{◌≡◌, refl, sym, ap, ◌∙◌}
use mathlib.Core.List.{List, [], ◌∷◌, ◌++◌, append_assoc, append-nil}
use Prim.Native.Nat.{ℕ, zero, suc, ◌+◌, ◌*◌, ◌-◌, ◌≤◌, ◌<◌}
use native.Mathlib.Numerals.{add-one}
use native.Mathlib.Omega.{arith}
use lib.ListN.{length, get_or, set, take, drop, length-append}
use lib.Seq.{sets, take-suc-set, take_at, length-take-le, get_or-take, get_or-drop}
use borrow.Rule.Slice.PartMut.{put_mid, post_of}
use Rattle.machine.specs.Table.{node_length}
use Rattle.machine.specs.Snapshots.{listed, rows}
use Rattle.table_layout.proofs.Laws.Fronts.{front-grows}

-- ---- One word more.
last-listed : (n : ℕ) (f : ℕ → ℕ) → listed (suc n) f ≡ listed n f ++ (f n ∷ [])
unfolding listed
last-listed zero f = refl
last-listed (suc n) f = ap (λ (l : List ℕ). f 0 ∷ l) (last-listed n (λ i. f (suc i)))

pub nothing-listed : (out : List ℕ) (f : ℕ → ℕ) → take 0 out ≡ listed 0 f
unfolding listed
nothing-listed out f = refl

pub one-listed : (out : List ℕ) (f : ℕ → ℕ) (x v : ℕ) → x < length out → take x out ≡ listed x f → v ≡ f x
    → take (x + 1) (set out x v) ≡ listed (x + 1) f
one-listed out f x v h e is =
    rw (add-one x)
    (take-suc-set out x v h
    ∙ ap (λ (l : List ℕ). l ++ (v ∷ [])) e
    ∙ ap (λ (w : ℕ). listed x f ++ (w ∷ [])) is
    ∙ sym (last-listed x f))

-- ---- One row more.
last_row : (m n : ℕ) (f : ℕ → ℕ → ℕ) → rows (suc m) n f ≡ rows m n f ++ listed n (f m)
unfolding rows
last_row zero n f = append-nil (listed n (f 0))
last_row (suc m) n f =
    ap (λ (l : List ℕ). listed n (f 0) ++ l) (last_row m n (λ r. f (suc r)))
    ∙ sym (append_assoc (listed n (f 0)) (rows m n (λ r. f (suc r))) (listed n (f (suc m))))

pub no_row : (out : List ℕ) (n : ℕ) (f : ℕ → ℕ → ℕ) → take 0 out ≡ rows 0 n f
unfolding rows
no_row out n f = refl

-- A node's words, out of the four columns as the code lends them.
module _ (n : ℕ) (cs : List ℕ) (long : length cs ≡ node_length * n) (x : ℕ) (h : x < n) where
  in-column : (at k : ℕ) → n ≤ k → get_or (take k (drop at cs)) x 0 ≡ get_or cs (at + x) 0
  in-column at k enough = get_or-take k (drop at cs) x 0 (omega arith) ∙ get_or-drop at cs x 0

  pub node-words :
      get_or (take n cs) x 0
      ∷ get_or (take (2 * n - n) (drop n cs)) x 0
      ∷ get_or (take (3 * n - 2 * n) (drop (2 * n) cs)) x 0
      ∷ get_or (take (length cs - 3 * n) (drop (3 * n) cs)) x 0
      ∷ []
      ≡ listed node_length (λ c. get_or cs (n * c + x) 0)
  unfolding listed
  node-words =
      let e₀ : n * 0 + x ≡ x = omega arith in
      let e₁ : n * 1 + x ≡ n + x = omega arith in
      let e₂ : n * 2 + x ≡ 2 * n + x = omega arith in
      let e₃ : n * 3 + x ≡ 3 * n + x = omega arith in
      rw (e₀, e₁, e₂, e₃)
      (λ i.
      get_or-take n cs x 0 h i
      ∷ in-column n (2 * n - n) (omega arith) i
      ∷ in-column (2 * n) (3 * n - 2 * n) (omega arith) i
      ∷ in-column (3 * n) (length cs - 3 * n) (omega (arith, long)) i
      ∷ [])

pub one-node : (ns : List ℕ) (f : ℕ → ℕ → ℕ) (x : ℕ) (vs : List ℕ) → node_length * x + node_length ≤ length ns
    → take (node_length * x) ns ≡ rows x node_length f
    → vs ≡ listed node_length (f x)
    → length vs ≡ node_length
    → take (node_length * (x + 1)) (sets ns (node_length * x) vs) ≡ rows (x + 1) node_length f
one-node ns f x vs h e is long =
    let next : node_length * (x + 1) ≡ node_length * x + length vs = omega arith in
    ap (λ (i : ℕ). take i (sets ns (node_length * x) vs)) next
    ∙ front-grows ns vs (node_length * x) (omega arith)
    ∙ ap (λ (l : List ℕ). l ++ vs) e
    ∙ ap (λ (l : List ℕ). rows x node_length f ++ l) is
    ∙ sym (last_row x node_length f)
    ∙ ap (λ (m : ℕ). rows m node_length f) (sym (add-one x))

-- A column, lent as the part from its place on.
pub one-column : (cs : List ℕ) (f : ℕ → ℕ → ℕ) (n c at : ℕ) (ys : List ℕ) → at ≤ length cs
    → take at cs ≡ rows c n f
    → ys ≡ listed n (f c)
    → length ys ≡ n
    → take (at + n) (put_mid at ((at + n) - at) cs ys) ≡ rows (c + 1) n f
one-column cs f n c at ys h e is long =
    let front = length-take-le at cs h in
    let joined = length-append (take at cs) ys in
    ap (take (at + n)) (sym (append_assoc (take at cs) ys (post_of at ((at + n) - at) cs)))
    ∙ take_at (take at cs ++ ys) (post_of at ((at + n) - at) cs) (at + n) (omega arith)
    ∙ ap (λ (l : List ℕ). l ++ ys) e
    ∙ ap (λ (l : List ℕ). rows c n f ++ l) is
    ∙ sym (last_row c n f)
    ∙ ap (λ (m : ℕ). rows m n f) (sym (add-one c))

-- Column c is within the words of four.
pub column-ends : (n c at : ℕ) → at ≡ n * c → c < node_length → at + n ≤ node_length * n
column-ends n zero at e h = omega arith
column-ends n (suc zero) at e h = omega arith
column-ends n (suc (suc zero)) at e h = omega arith
column-ends n (suc (suc (suc zero))) at e h = omega arith
column-ends n (suc (suc (suc (suc c)))) at e h = absurd (omega arith)

-- What a column rests on.
pub ruleset listing = (one-listed)
