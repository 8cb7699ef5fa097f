-- What an accepted list is: its forms are those of what it says, no code comes twice, and every code is of three
-- digits.
use mathlib.Core.Path.{◌≡◌, refl, sym, ap, ◌∙◌, subst}
use mathlib.Core.Bool.{Bool, true, false, ◌||◌}
use mathlib.Core.List.{List, [], ◌∷◌, ◌++◌, map, append_assoc, append-nil}
use Prim.Native.Nat.{ℕ, suc, ◌<◌}
use borrow.Author.Tests.{ne_eqb, eqb-false}
use lib.Dec.{eqb, ltb}
use Rattle.tag.proofs.TagLaws.{clash}
use Rattle.text.specs.Lines.{lines_of}
use Rattle.airline_list.specs.declared.End.{End}
use Rattle.airline_list.specs.Forms.{Form, Airline, Others, Neither, form_of}
use Rattle.airline_list.specs.Lists.{Entry, entry, says, faulty, named, none_left, judged, verdict}
use Rattle.airline_list.specs.Read.{codes, InRange}
use Rattle.airline_list.proofs.Laws.FormLaws.{form-in-range}

-- The forms of a list that says this.
abbrev pub forms_for : List Entry → (closing : End) → List Form
forms_for [] closing = Others closing ∷ []
forms_for (e ∷ es) closing = Airline e.code e.end ∷ forms_for es closing

-- No code comes twice.
abbrev pub Distinct : List Entry → Type 0
Distinct [] = Unit {0}
Distinct (e ∷ es) = (named e.code es ≡ false) × Distinct es

abbrev pub CodesOk : List Entry → Type 0
CodesOk [] = Unit {0}
CodesOk (e ∷ es) = (e.code < codes) × CodesOk es

-- ---- One airline more.
neither-true : (a b : Bool) → a || b ≡ false → (a ≡ false) × (b ≡ false)
neither-true false false h = (refl, refl)
neither-true false true h = clash (cc)
neither-true true b h = clash (cc)

unnamed-more : (code new : ℕ) (end : End) (es : List Entry) → (code ≡ new → ⊥) → named code es ≡ false
    → named code (es ++ (entry new end ∷ [])) ≡ false
unfolding named
unnamed-more code new end [] n h = rw (ne_eqb code new n)
unnamed-more code new end (e ∷ es) n h =
    let p = neither-true (eqb code e.code) (named code es) h in
    rw p.0 (unnamed-more code new end es n p.1)

distinct_more : (es : List Entry) (code : ℕ) (end : End) → Distinct es → named code es ≡ false
    → Distinct (es ++ (entry code end ∷ []))
unfolding named
distinct_more [] code end D h = (refl, tt)
distinct_more (e ∷ es) code end D h =
    let p = neither-true (eqb code e.code) (named code es) h in
    let n = eqb-false code e.code p.0 in
    (unnamed-more e.code code end es (λ q. n (sym q)) D.0, distinct_more es code end D.1 p.1)

-- ---- What the lines from one on say, after lines that say this.
record Rest (es : List Entry) (forms : List Form) (all : List Entry) (closing : End) : Type 0 where
  pub new : List Entry
  pub all_are : all ≡ es ++ new
  pub forms-are : forms ≡ forms_for new closing
  pub distinct : Distinct all

none-are : (forms : List Form) → none_left forms ≡ true → forms ≡ []
none-are [] h = refl
none-are (form ∷ forms) h = clash (cc)

rest : (n : ℕ) (es : List Entry) (forms : List Form) (all : List Entry) (closing : End) → Distinct es
    → judged n es forms ≡ says all closing → Rest es forms all closing
unfolding judged
rest n es [] all closing D h = clash (cc)
rest n es (Neither ∷ forms) all closing D h = clash (cc)
rest n es (Others end ∷ forms) all closing D h = go (ltb 64 n) refl (none_left forms) refl
  where
    go : (many : Bool) → ltb 64 n ≡ many → (last : Bool) → none_left forms ≡ last
        → Rest es (Others end ∷ forms) all closing
    go true e last f = let z : faulty 27 n ≡ says all closing = rw e at h in clash (cc)
    go false e false f = let z : faulty 29 n ≡ says all closing = rw (e, f) at h in clash (cc)
    go false e true f =
        let z : says es end ≡ says all closing = rw (e, f) at h in
        let p : es ≡ all = cc in
        let q : end ≡ closing = cc in
        record {
          new = [];
          all_are = sym p ∙ sym (append-nil es);
          forms-are = rw (none-are forms f, q);
          distinct = subst Distinct p D;
        }
rest n es (Airline code end ∷ forms) all closing D h =
    go (ltb 64 n) refl (named code es) refl (none_left forms) refl
    (λ d r. rest (suc n) (es ++ (entry code end ∷ [])) forms all closing d r)
  where
    go : (many : Bool) → ltb 64 n ≡ many → (again : Bool) → named code es ≡ again → (last : Bool) → none_left forms
        ≡ last
        → (Distinct (es ++ (entry code end ∷ []))
        → judged (suc n) (es ++ (entry code end ∷ [])) forms ≡ says all closing
        → Rest (es ++ (entry code end ∷ [])) forms all closing)
        → Rest es (Airline code end ∷ forms) all closing
    go true e again f last g r = let z : faulty 27 n ≡ says all closing = rw e at h in clash (cc)
    go false e true f last g r = let z : faulty 28 n ≡ says all closing = rw (e, f) at h in clash (cc)
    go false e false f true g r = let z : faulty 29 n ≡ says all closing = rw (e, f, g) at h in clash (cc)
    go false e false f false g r =
        let z : judged (suc n) (es ++ (entry code end ∷ [])) forms ≡ says all closing = rw (e, f, g) at h in
        let more = r (distinct_more es code end D f) z in
        record {
          new = entry code end ∷ more.new;
          all_are = more.all_are ∙ append_assoc es (entry code end ∷ []) more.new;
          forms-are = ap (λ fs. Airline code end ∷ fs) more.forms-are;
          distinct = more.distinct;
        }

-- ---- The codes.
abbrev AllInRange : List Form → Type 0
AllInRange [] = Unit {0}
AllInRange (form ∷ forms) = InRange form × AllInRange forms

all-in-range : (lines : List (List ℕ)) → AllInRange (map form_of lines)
all-in-range [] = tt
all-in-range (line ∷ lines) = (form-in-range line, all-in-range lines)

codes-ok : (es : List Entry) (closing : End) → AllInRange (forms_for es closing) → CodesOk es
codes-ok [] closing I = tt
codes-ok (e ∷ es) closing I = (I.0, codes-ok es closing I.1)

pub record Accepted (list : List ℕ) (es : List Entry) (closing : End) : Type 0 where
  pub forms-are : map form_of (lines_of list) ≡ forms_for es closing
  pub distinct : Distinct es
  pub codes : CodesOk es

pub accepted : (list : List ℕ) (es : List Entry) (closing : End) → verdict list ≡ says es closing
    → Accepted list es closing
unfolding verdict
accepted list es closing h =
    let r = rest 1 [] (map form_of (lines_of list)) es closing tt h in
    let forms : map form_of (lines_of list) ≡ forms_for es closing =
    r.forms-are ∙ ap (λ all. forms_for all closing) (sym r.all_are) in
    record {
      forms-are = forms;
      distinct = r.distinct;
      codes = codes-ok es closing (subst AllInRange forms (all-in-range (lines_of list)));
    }
