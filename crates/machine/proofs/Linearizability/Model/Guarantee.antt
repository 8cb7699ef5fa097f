-- What a tick guarantees to the other tasks about the nodes that they rely on.
use mathlib.Core.Path.{◌≡◌, refl}
use mathlib.Core.Logic.{◌≢◌, ◌⊎◌, inl}
use mathlib.Core.Bool.{Bool, true}
use Prim.Native.Nat.{ℕ}
use Rattle.machine.specs.Sides.{Side}
use Rattle.machine.specs.Values.{Value, Y}
use Rattle.machine.specs.Tasks.{no_node}
use Rattle.machine.proofs.Basics.Contradiction.{clash, refute}
use Rattle.machine.proofs.Words.Memories.{View}
use Rattle.machine.proofs.Linearizability.Model.Classes.{Class, main, spur, new, Old}
use Rattle.machine.proofs.Linearizability.Model.Structure.{CutFrom}

-- The guarantee seen from side s. A set of nodes is held: the tick may take the spur nodes outside it.
pub record Guarantee (held : ℕ → Bool) (s : Side)
    (out inn : ℕ → ℕ) (val : ℕ → Value) (class : ℕ → Class)
    (out' inn' : ℕ → ℕ) (val' : ℕ → Value) (class' : ℕ → Class) : Type 0 where
  -- A held node of the spur stays there, with its inward link and its Y; no node of the spur returns to main.
  pub spur-stays : (x : ℕ) → held x ≡ true → class x ≡ spur s → class' x ≡ spur s
  pub spur-inward : (x : ℕ) → held x ≡ true → class x ≡ spur s → inn' x ≡ inn x
  pub Y-stays : (x : ℕ) → held x ≡ true → class x ≡ spur s → val x ≡ Y s → val' x ≡ Y s
  pub spur-not-main : (x l : ℕ) → class x ≡ spur s → class' x ≢ main l
  -- A node of main, of any lane, stays in main or is cut off; what it led to outward is still there, or was cut off
  -- behind it.
  pub main-old : (x l : ℕ) → class x ≡ main l → Old class' x
  pub main-outward : (x l : ℕ) → class x ≡ main l → out x ≢ no_node
      → (out' x ≡ out x) ⊎ CutFrom s inn' val' class' (out x) x
  -- A node that is cut off keeps its inward link, which led to main.
  pub cut-inward : (x l : ℕ) → class x ≡ main l → class' x ≡ spur s → inn' x ≡ inn x
  pub cut-behind-main : (x l : ℕ) → class x ≡ main l → class' x ≡ spur s → class (inn x) ≡ main l

-- A node's words are as before.
pub record SameWords (out inn : ℕ → ℕ) (val : ℕ → Value) (out' inn' : ℕ → ℕ) (val' : ℕ → Value) (x : ℕ) : Type 0 where
  pub same_out : out' x ≡ out x
  pub same-inn : inn' x ≡ inn x
  pub same-val : val' x ≡ val x

-- The chains of the tasks other than k keep their nodes and their words.
pub record ChainsKept (k : ℕ)
    (out inn : ℕ → ℕ) (val : ℕ → Value) (class : ℕ → Class)
    (out' inn' : ℕ → ℕ) (val' : ℕ → Value) (class' : ℕ → Class) : Type 0 where
  pub stays-new : (x j : ℕ) → j ≢ k → class x ≡ new j → class' x ≡ new j
  pub same-words : (x j : ℕ) → j ≢ k → class x ≡ new j → SameWords out inn val out' inn' val' x
  pub was-new : (x j : ℕ) → j ≢ k → class' x ≡ new j → class x ≡ new j

-- All of it: to both sides and to the chains.
pub record Guarantees (held : ℕ → Bool) (k : ℕ) (s o : Side)
    (out inn : ℕ → ℕ) (val : ℕ → Value) (class : ℕ → Class)
    (out' inn' : ℕ → ℕ) (val' : ℕ → Value) (class' : ℕ → Class) : Type 0 where
  pub near : Guarantee held s out inn val class out' inn' val' class'
  pub far : Guarantee held o inn out val class inn' out' val' class'
  pub chains : ChainsKept k out inn val class out' inn' val' class'

-- The same, of a view before and one after.
abbrev pub SameIn : (m m' : View) (x : ℕ) → Type 0
SameIn m m' x = SameWords m.out m.inn m.val m'.out m'.inn m'.val x

abbrev pub GuaranteesIn : (held : ℕ → Bool) (k : ℕ) (s o : Side)
    (m : View) (class : ℕ → Class) (m' : View) (class' : ℕ → Class) → Type 0
GuaranteesIn held k s o m class m' class' =
    Guarantees held k s o m.out m.inn m.val class m'.out m'.inn m'.val class'

-- A tick that changes neither words nor classes guarantees everything.
guarantee-refl : (held : ℕ → Bool) {s : Side} {out inn : ℕ → ℕ} {val : ℕ → Value} {class : ℕ → Class}
    → Guarantee held s out inn val class out inn val class
guarantee-refl held =
    record {
      spur-stays = λ x _ h. h;
      spur-inward = λ x _ h. refl;
      Y-stays = λ x _ h y. y;
      spur-not-main = λ x l h e. refute (cc);
      main-old = λ x l h. cc;
      main-outward = λ x l h ne. inl refl;
      cut-inward = λ x l h c. refl;
      cut-behind-main = λ x l h c. clash (cc);
    }

chains-kept-refl : (k : ℕ) {out inn : ℕ → ℕ} {val : ℕ → Value} {class : ℕ → Class}
    → ChainsKept k out inn val class out inn val class
chains-kept-refl k =
    record {
      stays-new = λ x j _ h. h;
      same-words = λ x j _ h. record { same_out = refl; same-inn = refl; same-val = refl };
      was-new = λ x j _ h. h;
    }

pub guarantees-refl : (held : ℕ → Bool) (k : ℕ) {s o : Side}
    {out inn : ℕ → ℕ} {val : ℕ → Value} {class : ℕ → Class}
    → Guarantees held k s o out inn val class out inn val class
guarantees-refl held k =
    record { near = guarantee-refl held; far = guarantee-refl held; chains = chains-kept-refl k }

-- The guarantee to all nodes is one to those that are held.
pub guarantee-weaken : (held : ℕ → Bool) {s : Side}
    {out inn : ℕ → ℕ} {val : ℕ → Value} {class : ℕ → Class} {out' inn' : ℕ → ℕ} {val' : ℕ → Value} {class' : ℕ → Class}
    → Guarantee (λ _. true) s out inn val class out' inn' val' class'
    → Guarantee held s out inn val class out' inn' val' class'
guarantee-weaken held G =
    record {
      spur-stays = λ x _ h. G.spur-stays x refl h;
      spur-inward = λ x _ h. G.spur-inward x refl h;
      Y-stays = λ x _ h. G.Y-stays x refl h;
      spur-not-main = G.spur-not-main;
      main-old = G.main-old;
      main-outward = G.main-outward;
      cut-inward = G.cut-inward;
      cut-behind-main = G.cut-behind-main;
    }

-- The guarantees seen from the other side.
pub guarantees-swap : {held : ℕ → Bool} {k : ℕ} {s o : Side}
    {out inn : ℕ → ℕ} {val : ℕ → Value} {class : ℕ → Class} {out' inn' : ℕ → ℕ} {val' : ℕ → Value} {class' : ℕ → Class}
    → Guarantees held k s o out inn val class out' inn' val' class'
    → Guarantees held k o s inn out val class inn' out' val' class'
guarantees-swap G =
    record {
      near = G.far;
      far = G.near;
      chains =
          record {
            stays-new = G.chains.stays-new;
            same-words =
                λ x j ne h. let w = G.chains.same-words x j ne h in
                record { same_out = w.same-inn; same-inn = w.same_out; same-val = w.same-val };
            was-new = G.chains.was-new;
          };
    }
