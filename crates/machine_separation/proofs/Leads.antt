-- What a lane leads to, in a view; and that a lane whose hats, nodes and held registers stay leads to the same nodes.
use mathlib.Core.Path.{◌≡◌, sym, ap, ◌∙◌, subst}
use mathlib.Core.Logic.{◌≢◌}
use mathlib.Core.Bool.{true}
use Prim.Native.Nat.{ℕ, ◌<◌}
use Rattle.machine.specs.Sides.{Side, left, right}
use Rattle.machine.specs.Tasks.{Task, no_node, Register, register}
use Rattle.machine.specs.Registers.{holds}
use Rattle.machine.proofs.Words.Memories.{View, view}

-- ---- The links by side, in a view from the right.
abbrev pub link_of : View → Side → ℕ → ℕ
link_of M left = M.inn
link_of M right = M.out

-- What is true of both links is true of them as a side sees them.
pub seen-out : (C : (ℕ → ℕ) → Type 0) (s : Side) (M : View) → ((z : Side) → C (link_of M z)) → C (view s M).out
seen-out C left M c = c left
seen-out C right M c = c right

pub seen-inn : (C : (ℕ → ℕ) → Type 0) (s : Side) (M : View) → ((z : Side) → C (link_of M z)) → C (view s M).inn
seen-inn C left M c = c right
seen-inn C right M c = c left

-- And what a side sees to be true of its links before and after is true of both.
pub by-links : (C : (ℕ → ℕ) → (ℕ → ℕ) → Type 0) (s : Side) (M m' : View)
    → C (view s M).out m'.out
    → C (view s M).inn m'.inn
    → (z : Side)
    → C (link_of M z) (link_of (view s m') z)
by-links C left M m' a b left = a
by-links C left M m' a b right = b
by-links C right M m' a b left = b
by-links C right M m' a b right = a

-- ---- Lane l of L leads to a node.
pub data Leads (L : ℕ) (M : View) (ts : ℕ → Task) (l : ℕ) : ℕ → Type 0 where
  from_hat : (s : Side) → l < L → Leads L M ts l (M.hats l s)
  from_register : (k : ℕ) (r : Register)
      → (ts k).lane ≡ l
      → holds (ts k).step r ≡ true
      → register (ts k) r ≢ no_node
      → Leads L M ts l (register (ts k) r)
  along : {x : ℕ} (z : Side) → Leads L M ts l x → link_of M z x ≢ no_node → Leads L M ts l (link_of M z x)

-- No node is led to from two lanes.
abbrev pub Apart : (L : ℕ) → View → (ℕ → Task) → Type 0
Apart L M ts = (l n x : ℕ) → Leads L M ts l x → Leads L M ts n x → l ≡ n

-- A set that has the roots of lane l and is closed under links has all that the lane leads to.
pub record HasLane (L : ℕ) (M : View) (ts : ℕ → Task) (l : ℕ) (P : ℕ → Type 0) : Type 0 where
  pub has-hats : (s : Side) → l < L → P (M.hats l s)
  pub has-registers : (k : ℕ) (r : Register)
      → (ts k).lane ≡ l
      → holds (ts k).step r ≡ true
      → register (ts k) r ≢ no_node
      → P (register (ts k) r)
  pub closed : (z : Side) (x : ℕ) → P x → link_of M z x ≢ no_node → P (link_of M z x)

pub has-led-to : {L : ℕ} {M : View} {ts : ℕ → Task} {l : ℕ} {P : ℕ → Type 0} → HasLane L M ts l P → {x : ℕ}
    → Leads L M ts l x
    → P x
has-led-to H (from_hat s h) = H.has-hats s h
has-led-to H (from_register k r e h n) = H.has-registers k r e h n
has-led-to H (along {x} z c n) = H.closed z x (has-led-to H c) n

-- ---- A lane that stays as it is.

-- Where the record t holds a node for lane l, the record u is the same.
abbrev pub HoldsSame : (l : ℕ) (t u : Task) → Type 0
HoldsSame l t u = (r : Register) → t.lane ≡ l → holds t.step r ≡ true → register t r ≢ no_node → u ≡ t

-- What must stay: the hats, the words of the nodes led to, and the records that hold some, before or after.
pub record Stays (L : ℕ) (M : View) (ts : ℕ → Task) (M' : View) (ts' : ℕ → Task) (l : ℕ) : Type 0 where
  pub same_hats : (s : Side) → M'.hats l s ≡ M.hats l s
  pub same_links : (x : ℕ) → Leads L M ts l x → (z : Side) → link_of M' z x ≡ link_of M z x
  pub same_values : (x : ℕ) → Leads L M ts l x → M'.val x ≡ M.val x
  pub still-held : (k : ℕ) → HoldsSame l (ts k) (ts' k)
  pub was-held : (k : ℕ) → HoldsSame l (ts' k) (ts k)

module _ {L : ℕ} {M : View} {ts : ℕ → Task} {M' : View} {ts' : ℕ → Task} {l : ℕ} (S : Stays L M ts M' ts' l) where
  pub still-leads : {x : ℕ} → Leads L M ts l x → Leads L M' ts' l x
  still-leads (from_hat s h) = subst (Leads L M' ts' l) (S.same_hats s) (from_hat s h)
  still-leads (from_register k r e h n) =
      let same = S.still-held k r e h n in
      subst (λ (t : Task). Leads L M' ts' l (register t r)) same
      (from_register k r (ap (λ (t : Task). t.lane) same ∙ e) (ap (λ (t : Task). holds t.step r) same ∙ h)
      (λ q. n (sym (ap (λ (t : Task). register t r) same) ∙ q)))
  still-leads (along {x} z c n) =
      let same = S.same_links x c z in
      subst (Leads L M' ts' l) same (along z (still-leads c) (λ q. n (sym same ∙ q)))

  pub was-led : {x : ℕ} → Leads L M' ts' l x → Leads L M ts l x
  was-led (from_hat s h) = subst (Leads L M ts l) (sym (S.same_hats s)) (from_hat s h)
  was-led (from_register k r e h n) =
      let same = S.was-held k r e h n in
      subst (λ (t : Task). Leads L M ts l (register t r)) same
      (from_register k r (ap (λ (t : Task). t.lane) same ∙ e) (ap (λ (t : Task). holds t.step r) same ∙ h)
      (λ q. n (sym (ap (λ (t : Task). register t r) same) ∙ q)))
  was-led (along {x} z c n) =
      let before = was-led c in
      let same = S.same_links x before z in
      subst (Leads L M ts l) (sym same) (along z before (λ q. n (same ∙ q)))
