-- A chunk taken line after line: what holds after each line.
use mathlib.Core.Path.{◌≡◌, refl, ◌∙◌}
use mathlib.Core.Logic.{◌⊎◌, inl, inr}
use mathlib.Core.List.{List}
use Prim.Native.Nat.{ℕ, ◌+◌, ◌≤◌, ◌<◌}
use native.Mathlib.Omega.{arith}
use lib.ListN.{length}
use lib.Seq.{slice}
use Rattle.program_stream.specs.Session.{take_bytes}
use Rattle.program_stream.specs.Carried.{Loan, lent, Serves, InOrder, line_room, Onward}
use Rattle.program_stream.proofs.Laws.CarriedLaws.{none-served, next-served}
use Rattle.program_stream.proofs.Laws.MeantLaws.{bytes-made}

-- The bytes from start to a place are taken. If they are none, then nothing is printed.
pub record Serving (chunk : List ℕ) (start : ℕ) (first : Loan) (out₀ : List ℕ) (from : ℕ) (loan : Loan) (out : List ℕ)
    (at : ℕ) : Type 0 where
  pub forward : start ≤ from
  pub within : from ≤ length chunk
  pub further : (start < from) ⊎ (at ≡ 0)
  pub serves : Serves (take_bytes lent (slice start from chunk)) first loan out₀ 0 out at
  pub in_order : InOrder loan
  pub in-out : at ≤ length out
  pub same_out : length out ≡ length out₀

module _ (chunk : List ℕ) (start : ℕ) {first : Loan} {out₀ : List ℕ} where
  pub serving-starts : start ≤ length chunk → InOrder first → Serving chunk start first out₀ start first out₀ 0
  serving-starts h in_order =
      record {
        forward = omega arith;
        within = h;
        further = inr refl;
        serves = none-served chunk start first out₀;
        in_order = in_order;
        in-out = omega arith;
        same_out = refl;
      }

  module _ {from : ℕ} {loan : Loan} {out : List ℕ} {at : ℕ} (S : Serving chunk start first out₀ from loan out at) where
    pub serving-goes-on : from < length chunk → at + line_room ≤ length out
        → (to : ℕ) → Onward chunk from to → {next : Loan} {out' : List ℕ} {at' : ℕ}
        → Serves (take_bytes lent (slice from to chunk)) loan next out at out' at' → at' ≤ at + line_room
        → length out' ≡ length out
        → Serving chunk start first out₀ to next out' at'
    serving-goes-on more room to onward served few same_out =
        record {
          forward = omega (arith, S.forward, onward.forward);
          within = onward.within;
          further = inl (omega (arith, S.forward, onward.further more));
          serves = next-served chunk start first from to S.forward onward S.serves served;
          in_order = (bytes-made (slice from to chunk) S.in_order served).in_order;
          in-out = omega arith;
          same_out = same_out ∙ S.same_out;
        }
