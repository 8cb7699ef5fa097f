-- Effects that stay within a set of nodes, and what their writes then make of a view.
use mathlib.Core.Path.{◌≡◌, refl, sym, ◌∙◌, subst}
use mathlib.Core.Logic.{◌≢◌}
use mathlib.Core.Bool.{Bool, true, false, ◌||◌}
use mathlib.Core.List.{List, [], ◌∷◌}
use Prim.Native.Nat.{ℕ}
use lib.Dec.{eqb}
use Rattle.machine.specs.Sides.{Side}
use Rattle.machine.specs.Tasks.{Task, no_node, Register, in_a, in_b, in_c, in_d, register}
use Rattle.machine.specs.Registers.{register_number, among, holding}
use Rattle.machine.specs.Lines.{Write, out≔, inn≔, val≔, hat≔, Effect}
use Rattle.machine.proofs.Basics.Contradiction.{clash}
use Rattle.machine.proofs.Basics.Updates.{
  update,
  update_other,
  update-wrote,
  wrote-all,
  update_hat,
  update_hat-own,
  update_hat-elsewhere,
  update_side-all,
}
use Rattle.machine.proofs.Words.Memories.{View, write, written}

either : (b c : Bool) → c ≡ true → (b || c) ≡ true
either true c e = refl
either false c e = e

module _ (P : ℕ → Type 0) where
  -- A number is none or in the set.
  abbrev pub OrNone : ℕ → Type 0
  OrNone y = y ≢ no_node → P y

  pub to_none : OrNone no_node
  to_none n = absurd (n refl)

  -- The links of the nodes of a set lead into P, or to none.
  abbrev pub LeadsInto : (ℕ → Type 0) → (ℕ → ℕ) → Type 0
  LeadsInto From link = (x : ℕ) → From x → OrNone (link x)

  -- A write is to a node of the set, and what it sets there leads into it.
  abbrev WriteIn : Write → Type 0
  WriteIn (out≔ x y) = P x × OrNone y
  WriteIn (inn≔ x y) = P x × OrNone y
  WriteIn (val≔ x v) = P x
  WriteIn (hat≔ x) = P x

  abbrev pub WritesIn : List Write → Type 0
  WritesIn [] = Unit {0}
  WritesIn (w ∷ l) = WriteIn w × WritesIn l

  -- Some registers of a task, each none or in the set.
  abbrev pub RegistersIn : List Register → Task → Type 0
  RegistersIn [] t = Unit {0}
  RegistersIn (r ∷ rs) t = OrNone (register t r) × RegistersIn rs t

  -- All that the effect writes, and all that the task holds afterwards, is in the set.
  pub record Within (e : Effect) : Type 0 where
    pub writes-in : WritesIn e.writes
    pub registers-in : RegistersIn (holding e.task.step) e.task

  -- ---- The registers that hold, as a list and by name.
  pub one-register : (t : Task) (rs : List Register) → RegistersIn rs t → (r : Register) → among rs r ≡ true
      → OrNone (register t r)
  one-register t [] h r e = clash (cc)
  one-register t (in_a ∷ rs) h in_a e = h.0
  one-register t (in_a ∷ rs) h in_b e = one-register t rs h.1 in_b e
  one-register t (in_a ∷ rs) h in_c e = one-register t rs h.1 in_c e
  one-register t (in_a ∷ rs) h in_d e = one-register t rs h.1 in_d e
  one-register t (in_b ∷ rs) h in_a e = one-register t rs h.1 in_a e
  one-register t (in_b ∷ rs) h in_b e = h.0
  one-register t (in_b ∷ rs) h in_c e = one-register t rs h.1 in_c e
  one-register t (in_b ∷ rs) h in_d e = one-register t rs h.1 in_d e
  one-register t (in_c ∷ rs) h in_a e = one-register t rs h.1 in_a e
  one-register t (in_c ∷ rs) h in_b e = one-register t rs h.1 in_b e
  one-register t (in_c ∷ rs) h in_c e = h.0
  one-register t (in_c ∷ rs) h in_d e = one-register t rs h.1 in_d e
  one-register t (in_d ∷ rs) h in_a e = one-register t rs h.1 in_a e
  one-register t (in_d ∷ rs) h in_b e = one-register t rs h.1 in_b e
  one-register t (in_d ∷ rs) h in_c e = one-register t rs h.1 in_c e
  one-register t (in_d ∷ rs) h in_d e = h.0

  pub all-registers : (t : Task) (rs : List Register) → ((r : Register) → among rs r ≡ true → OrNone (register t r))
      → RegistersIn rs t
  all-registers t [] H = tt
  all-registers t (x ∷ rs) H = (
    H x (itself x),
    all-registers t rs (λ r e. H r (either (eqb (register_number x) (register_number r)) (among rs r) e)),
  )
    where
      itself : (y : Register) → among (y ∷ rs) y ≡ true
      itself in_a = refl
      itself in_b = refl
      itself in_c = refl
      itself in_d = refl

-- ---- The view afterwards.

-- At a node two views are the same.
pub record SameAt (m m' : View) (x : ℕ) : Type 0 where
  pub same_out : m'.out x ≡ m.out x
  pub same-inn : m'.inn x ≡ m.inn x
  pub same-val : m'.val x ≡ m.val x

module _ (l : ℕ) (s : Side) where
  -- The hats of other lanes stay, whatever is written.
  pub other-hats : (ws : List Write) (m : View) (j : ℕ) → j ≢ l → (written l s ws m).hats j ≡ m.hats j
  other-hats [] m j n = refl
  other-hats (out≔ x y ∷ ws) m j n = other-hats ws (write l s (out≔ x y) m) j n
  other-hats (inn≔ x y ∷ ws) m j n = other-hats ws (write l s (inn≔ x y) m) j n
  other-hats (val≔ x v ∷ ws) m j n = other-hats ws (write l s (val≔ x v) m) j n
  other-hats (hat≔ x ∷ ws) m j n =
      other-hats ws (write l s (hat≔ x) m) j n ∙ update_hat-elsewhere m.hats l s x j n

  module _ (P : ℕ → Type 0) where
    -- So do the words of nodes outside the set.
    one-untouched : (w : Write) (m : View) → WriteIn P w → (x : ℕ) → (P x → ⊥) → SameAt m (write l s w m) x
    one-untouched (out≔ y z) m h x n =
        record {
          same_out = update_other m.out y z x (λ e. n (subst P (sym e) h.0));
          same-inn = refl;
          same-val = refl;
        }
    one-untouched (inn≔ y z) m h x n =
        record {
          same_out = refl;
          same-inn = update_other m.inn y z x (λ e. n (subst P (sym e) h.0));
          same-val = refl;
        }
    one-untouched (val≔ y v) m h x n =
        record {
          same_out = refl;
          same-inn = refl;
          same-val = update_other m.val y v x (λ e. n (subst P (sym e) h));
        }
    one-untouched (hat≔ y) m h x n = record { same_out = refl; same-inn = refl; same-val = refl }

    pub writes-untouched : (ws : List Write) (m : View) → WritesIn P ws → (x : ℕ) → (P x → ⊥)
        → SameAt m (written l s ws m) x
    writes-untouched [] m h x n = record { same_out = refl; same-inn = refl; same-val = refl }
    writes-untouched (w ∷ ws) m h x n =
        let a = one-untouched w m h.0 x n in
        let b = writes-untouched ws (write l s w m) h.1 x n in
        record {
          same_out = b.same_out ∙ a.same_out;
          same-inn = b.same-inn ∙ a.same-inn;
          same-val = b.same-val ∙ a.same-val;
        }

    -- The own hats stay within the set, and links into it still lead into it.
    pub own-hats : (ws : List Write) (m : View) → WritesIn P ws → ((z : Side) → P (m.hats l z))
        → (z : Side)
        → P ((written l s ws m).hats l z)
    own-hats [] m h H z = H z
    own-hats (out≔ x y ∷ ws) m h H z = own-hats ws (write l s (out≔ x y) m) h.1 H z
    own-hats (inn≔ x y ∷ ws) m h H z = own-hats ws (write l s (inn≔ x y) m) h.1 H z
    own-hats (val≔ x v ∷ ws) m h H z = own-hats ws (write l s (val≔ x v) m) h.1 H z
    own-hats (hat≔ x ∷ ws) m h H z = own-hats ws (write l s (hat≔ x) m) h.1 moved z
      where
        moved : (y : Side) → P (update_hat m.hats l s x l y)
        moved y = rw (update_hat-own m.hats l s x) (update_side-all (m.hats l) s x P h.0 H y)

    module _ (From : ℕ → Type 0) where
      one_link : (link : ℕ → ℕ) (x y : ℕ) → OrNone P y → LeadsInto P From link → LeadsInto P From (update link x y)
      one_link link x y h H =
          wrote-all (λ z v. From z → OrNone P v) (update-wrote link x y) (λ _. h) (λ z _. H z)

      pub out-into : (ws : List Write) (m : View) → WritesIn P ws → LeadsInto P From m.out
          → LeadsInto P From (written l s ws m).out
      out-into [] m h H = H
      out-into (out≔ x y ∷ ws) m h H = out-into ws (write l s (out≔ x y) m) h.1 (one_link m.out x y h.0.1 H)
      out-into (inn≔ x y ∷ ws) m h H = out-into ws (write l s (inn≔ x y) m) h.1 H
      out-into (val≔ x v ∷ ws) m h H = out-into ws (write l s (val≔ x v) m) h.1 H
      out-into (hat≔ x ∷ ws) m h H = out-into ws (write l s (hat≔ x) m) h.1 H

      pub inn-into : (ws : List Write) (m : View) → WritesIn P ws → LeadsInto P From m.inn
          → LeadsInto P From (written l s ws m).inn
      inn-into [] m h H = H
      inn-into (out≔ x y ∷ ws) m h H = inn-into ws (write l s (out≔ x y) m) h.1 H
      inn-into (inn≔ x y ∷ ws) m h H = inn-into ws (write l s (inn≔ x y) m) h.1 (one_link m.inn x y h.0.1 H)
      inn-into (val≔ x v ∷ ws) m h H = inn-into ws (write l s (val≔ x v) m) h.1 H
      inn-into (hat≔ x ∷ ws) m h H = inn-into ws (write l s (hat≔ x) m) h.1 H
