-- Writes that fit keep the shape of the columns.
use mathlib.Core.Path.{◌≡◌, subst, sym}
use mathlib.Core.Bool.{true}
use mathlib.Core.List.{List, [], ◌∷◌}
use Prim.Native.Nat.{ℕ, ◌<◌}
use native.Mathlib.Omega.{arith}
use Rattle.machine.specs.declared.Stored.{Stored}
use Rattle.machine.specs.Sides.{Side, opposite}
use Rattle.machine.specs.Values.{value_ok, encode}
use Rattle.machine.specs.Shape.{record_ok}
use Rattle.machine.specs.Lines.{Write, out≔, inn≔, val≔, hat≔}
use Rattle.machine.proofs.Basics.Updates.{
  update,
  update_all,
  update_side,
  update_side-all,
  update-wrote,
  wrote-all,
}
use Rattle.machine.proofs.Words.Columns.{
  Columns,
  put_hat,
  put_tick_count,
  put_dispatched,
  put_link,
  put_value,
  put_record,
  put_one,
  put_all,
}
use Rattle.machine.proofs.Words.EffectLaws.{InRange, AllInRange, put-one-rest}
use Rattle.machine.proofs.Shape.BusyLaws.{NodeOrNone}
use Rattle.machine.proofs.Shape.ShapeLaws.{HatFits, WellShaped, counted-last-words, dispatched-last-words}
use Rattle.machine.proofs.Shape.Fits.{WriteFits, WritesFit}

-- What fits is in range.
fit-in-range : (S : ℕ) (w : Write) → WriteFits S w → InRange S w
fit-in-range S (out≔ x y) h = h.0
fit-in-range S (inn≔ x y) h = h.0
fit-in-range S (val≔ x v) h = (h.0, h.1.0)
fit-in-range S (hat≔ x) h = tt

pub all-in-range : (S : ℕ) (l : List Write) → WritesFit S l → AllInRange S l
all-in-range S [] h = tt
all-in-range S (w ∷ l) h = (fit-in-range S w h.0, all-in-range S l h.1)

-- ---- One write of each kind.
module _ (c : Columns) (W : WellShaped c) where
  put-hat-shaped : (j : ℕ) → j < c.sizes.lane_count → (s : Side) (x : ℕ) → x < c.sizes.node_count
      → WellShaped (put_hat j s x c)
  put-hat-shaped j is_lane s x h =
      let S = c.sizes.node_count in
      let L = c.sizes.lane_count in
      record {
        counts-ok = W.counts-ok;
        hats-ok =
            wrote-all (λ l f. (z : Side) → HatFits S L l (f z)) (update-wrote c.hats j (update_side (c.hats j) s x))
            (update_side-all (c.hats j) s x (λ y. HatFits S L j y)
            (record { used = λ _. h; unused = λ q. absurd (omega arith) }) (W.hats-ok j))
            (λ l _. W.hats-ok l);
        links-ok = W.links-ok;
        values-ok = W.values-ok;
        records-ok = W.records-ok;
      }

  put-link-shaped : (s : Side) (x y : ℕ) → NodeOrNone c.sizes.node_count y → WellShaped (put_link s x y c)
  put-link-shaped s x y h =
      let S = c.sizes.node_count in
      record {
        counts-ok = W.counts-ok;
        hats-ok = W.hats-ok;
        links-ok =
            update_side-all c.links s (update (c.links s) x y) (λ f. (z : ℕ) → NodeOrNone S (f z))
            (update_all (c.links s) x y (NodeOrNone S) h (W.links-ok s)) W.links-ok;
        values-ok = W.values-ok;
        records-ok = W.records-ok;
      }

  put-value-shaped : (x : ℕ) (u : Stored) → value_ok u ≡ true → WellShaped (put_value x u c)
  put-value-shaped x u h =
      record {
        counts-ok = W.counts-ok;
        hats-ok = W.hats-ok;
        links-ok = W.links-ok;
        values-ok = update_all c.values x u (λ w. value_ok w ≡ true) h W.values-ok;
        records-ok = W.records-ok;
      }

  pub put-record-shaped :
      (k : ℕ) (r : List ℕ) → record_ok c.sizes.node_count c.sizes.growth c.sizes.lane_count r ≡ true
      → WellShaped (put_record k r c)
  put-record-shaped k r h =
      record {
        counts-ok = W.counts-ok;
        hats-ok = W.hats-ok;
        links-ok = W.links-ok;
        values-ok = W.values-ok;
        records-ok =
            update_all c.records k r
            (λ q. record_ok c.sizes.node_count c.sizes.growth c.sizes.lane_count q ≡ true) h W.records-ok;
      }

  pub put-ticks-shaped : (n : ℕ) → WellShaped (put_tick_count n c)
  put-ticks-shaped n =
      record {
        counts-ok = counted-last-words n W.counts-ok;
        hats-ok = W.hats-ok;
        links-ok = W.links-ok;
        values-ok = W.values-ok;
        records-ok = W.records-ok;
      }

  pub put-dispatched-shaped : (k : ℕ) → k < c.sizes.task_count → WellShaped (put_dispatched k c)
  put-dispatched-shaped k h =
      record {
        counts-ok = dispatched-last-words k h W.counts-ok;
        hats-ok = W.hats-ok;
        links-ok = W.links-ok;
        values-ok = W.values-ok;
        records-ok = W.records-ok;
      }

  put-one-shaped : (j : ℕ) → j < c.sizes.lane_count → (s : Side) (w : Write) → WriteFits c.sizes.node_count w
      → WellShaped (put_one j s w c)
  put-one-shaped j is_lane s (out≔ x y) h = put-link-shaped s x y h.1
  put-one-shaped j is_lane s (inn≔ x y) h = put-link-shaped (opposite s) x y h.1
  put-one-shaped j is_lane s (val≔ x v) h = put-value-shaped x (encode v) h.1.1
  put-one-shaped j is_lane s (hat≔ x) h = put-hat-shaped j is_lane s x h

-- ---- Several writes.
pub put-all-shaped :
    (j : ℕ) (s : Side) (l : List Write) (c : Columns)
    → j < c.sizes.lane_count
    → WellShaped c
    → WritesFit c.sizes.node_count l
    → WellShaped (put_all j s l c)
put-all-shaped j s [] c is_lane W h = W
put-all-shaped j s (w ∷ l) c is_lane W h =
    let same = sym (put-one-rest j s w c).sizes in
    put-all-shaped j s l (put_one j s w c) (subst (λ z. j < z.lane_count) same is_lane)
    (put-one-shaped c W j is_lane s w h.0) (subst (λ z. WritesFit z.node_count l) same h.1)
