-- Request 2026-03: no bag number is in two places of the lane, or in it and in a busy push, or in two busy pushes.
use mathlib.Core.Path.{◌≡◌, refl, sym, ap, ◌∙◌, subst}
use mathlib.Core.List.{List, [], ◌∷◌, ◌++◌}
use mathlib.Core.Option.{some, bind}
use Prim.Native.Nat.{ℕ}
use Rattle.machine.specs.Table.{task}
use Rattle.machine.specs.Calls.{start}
use Rattle.machine.specs.Row.{Row, empty_row}
use Rattle.machine.specs.Demand3.{Call, given, after, feed}
use Rattle.machine.specs.Kinds.{Asked, Did, did}
use Rattle.machine.specs.Begun.{Begun, by_start, by_call, after_all}
use Rattle.machine.specs.Twice.{
  AllDifferent,
  NoTwice,
  NoTwiceInside,
  OnceInTable,
  PushNoted,
  all_bags,
  TablesHaveOnce,
  row_after,
  RowSince,
  EachHasRow,
  RowsHaveOnce,
  PushesBeginNew,
}
use Rattle.machine.proofs.Words.Kinds.{
  Comes,
  left_alone,
  is-started,
  is-begun,
  is-lent-begun,
  are-ticked,
  are-dispatched,
  call-comes,
}
use Rattle.machine.proofs.Linearizability.Calls.Agreement.{Agrees, lanes-are-rows, all-lanes-are-rows}
use Rattle.machine.proofs.Linearizability.Calls.RowDid.{bind-some}
use Rattle.machine.proofs.Linearizability.Calls.EveryCall.{call-told, call-explained}
use Rattle.machine.proofs.Linearizability.Theorem.{started-agrees}
use Rattle.machine.proofs.Linearizability.Corollaries.{begun-inside-runs}
use Rattle.machine.proofs.Linearizability.Twice.Rows.{Once, once-in-row, once-empty, NewWhereBegun, once-did}
use Rattle.machine.proofs.Linearizability.Twice.Begins.{busy-noted, accepted-new, begins-new}

-- ---- Every call, on a table that agrees with the row.
module _ {ws : List ℕ} {ρ : Row} (A : Agrees ws ρ) where
  new-where-begun : (c : Call) → NewWhereBegun ρ (did c (given c ws))
  new-where-begun c = go (call-comes c ws)
    where
      go : {a : Asked} {vs : List ℕ} {d : Did} → Comes ws a vs d → NewWhereBegun ρ d
      go (left_alone a e) = tt
      go (is-started S T g L e) = tt
      go (is-begun k l op side argument e) = accepted-new A k l op side argument e
      go (is-lent-begun lent whole k l op side argument e) = tt
      go (are-ticked i list ts) = tt
      go (are-dispatched h n ts) = tt

  pub once-called : Once ρ → (c : Call) → Once (call-explained A c).row
  once-called O c = once-did (did c (given c ws)) O (new-where-begun c) (call-told A c).fed-what-it-did

-- ---- Rows.
rows_agree : (cs : List Call) {ws : List ℕ} {ρ ρ' : Row} → Agrees ws ρ → Once ρ → row_after cs ws ρ ≡ some ρ'
    → Agrees (after_all cs ws) ρ' × Once ρ'
unfolding row_after after_all bind
rows_agree [] {ws} {ρ} {ρ'} A O e =
    let same : ρ ≡ ρ' = cc in (subst (Agrees ws) same A, subst Once same O)
rows_agree (c ∷ cs) {ws} {ρ} {ρ'} A O e =
    let E = call-explained A c in
    rows_agree cs E.agrees (once-called A O c) (rw E.given-by-row at e)

pub row-agrees : {ws : List ℕ} {ρ : Row} → RowSince ws ρ → Agrees ws ρ × Once ρ
row-agrees {ws} {ρ} R =
    let began = started-agrees R.S R.T R.growth R.lanes R.old R.accepted in
    let x = rows_agree R.calls began (once-empty R.T R.lanes) R.row_is in
    (subst (λ (vs : List ℕ). Agrees vs ρ) R.leads_to x.0, x.1)

pub rows-have-once : RowsHaveOnce
rows-have-once ws ρ R = once-in-row (row-agrees R).1

-- One call more at the end of a list.
after-one-more : (cs : List Call) (c : Call) (ws : List ℕ) → after_all (cs ++ (c ∷ [])) ws ≡ after c (after_all cs ws)
unfolding after_all
after-one-more [] c ws = refl
after-one-more (d ∷ cs) c ws = after-one-more cs c (after d ws)

row-one-more : (cs : List Call) (c : Call) (ws : List ℕ) (ρ : Row) {ρ' ρ'' : Row} → row_after cs ws ρ ≡ some ρ'
    → feed ρ' c (given c (after_all cs ws)) ≡ some ρ''
    → row_after (cs ++ (c ∷ [])) ws ρ ≡ some ρ''
unfolding row_after after_all bind
row-one-more [] c ws ρ {ρ'} e f = let same : ρ ≡ ρ' = cc in rw (same, f)
row-one-more (d ∷ cs) c ws ρ e f =
    let x = bind-some (feed ρ d (given d ws)) _ e in
    rw x.1 (row-one-more cs c (after d ws) x.0 x.2 f)

pub one_more : {ws : List ℕ} {ρ ρ' : Row} (c : Call) → RowSince ws ρ → feed ρ c (given c ws) ≡ some ρ'
    → RowSince (after c ws) ρ'
one_more {ws} {ρ} {ρ'} c R f =
    let began = (start R.old R.S R.T R.growth R.lanes).words in
    record {
      S = R.S;
      T = R.T;
      growth = R.growth;
      lanes = R.lanes;
      old = R.old;
      accepted = R.accepted;
      calls = R.calls ++ (c ∷ []);
      leads_to = after-one-more R.calls c began ∙ ap (after c) R.leads_to;
      row_is =
          row-one-more R.calls c began (empty_row R.T R.lanes) R.row_is
          (subst (λ (vs : List ℕ). feed ρ c (given c vs) ≡ some ρ') (sym R.leads_to) f);
    }

begun-row : {ws : List ℕ} → Begun ws → (ρ : Row) × RowSince ws ρ
unfolding row_after after_all
begun-row (by_start S T g L old accepted) = (
  empty_row T L,
  record {
    S = S;
    T = T;
    growth = g;
    lanes = L;
    old = old;
    accepted = accepted;
    calls = [];
    leads_to = refl;
    row_is = refl;
  },
)
begun-row (by_call B c) =
    let x = begun-row B in
    let E = call-explained (row-agrees x.1).0 c in
    (E.row, one_more c x.1 E.given-by-row)

pub each-has-row : EachHasRow
each-has-row ws B = let x = begun-row B in (x.0, x.1, lanes-are-rows (row-agrees x.1).0)

-- ---- Tables.
pub once-in-table : {ws : List ℕ} {ρ : Row} → Agrees ws ρ → Once ρ → OnceInTable ws
once-in-table {ws} {ρ} A O =
    let R = once-in-row O in
    record {
      bags = all_bags ρ;
      lanes_are = all-lanes-are-rows A;
      different = R.different;
      not_in_lanes = λ k e. R.not_in_row k (task ws k).argument (busy-noted A k e);
      one_task = λ j k d e same.
          R.one_task j k (task ws k).argument (subst (PushNoted ρ j) same (busy-noted A j d)) (busy-noted A k e);
    }

pub tables-have-once : TablesHaveOnce
tables-have-once ws B = let x = row-agrees (begun-row B).1 in once-in-table x.0 x.1

same_some : {T : Type 0} {x y : T} → some x ≡ some y → x ≡ y
same_some e = cc

pub no-twice : NoTwice
no-twice ws B bags is_lane =
    let O = tables-have-once ws B in
    subst AllDifferent (same_some (sym O.lanes_are ∙ is_lane)) O.different

pub no-twice-inside : NoTwiceInside
no-twice-inside ws B i list = no-twice _ (begun-inside-runs i list B)

-- ---- Begin.
pub pushes-begin-new : PushesBeginNew
pushes-begin-new ws ρ R k l s argument is_task is_lane is-bag =
    begins-new (row-agrees R).0 k l s argument is_task is_lane is-bag
