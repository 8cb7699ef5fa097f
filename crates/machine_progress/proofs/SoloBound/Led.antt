-- What the bounds ask of a table: it agrees with a row, and all walks along its links end. Every table that our calls
-- lead to is one; calls keep it so, and so does every copy of a pending record, which changes no node and no hat.
use mathlib.Core.Path.{◌≡◌, sym, subst}
use mathlib.Core.List.{List}
use Prim.Native.Nat.{ℕ}
use Rattle.machine.specs.Sides.{left, right}
use Rattle.machine.specs.Calls.{Ticked, tick_on}
use Rattle.machine.specs.Lent.{lent_to}
use Rattle.machine.specs.Row.{Row}
use Rattle.machine.specs.Demand3.{Call, tick_call, after}
use Rattle.machine.specs.Begun.{Begun}
use Rattle.machine.specs.Events.{Always, every_copy}
use Rattle.machine.proofs.Words.Memories.{viewed, view-equal}
use Rattle.machine.proofs.Words.LentLaws.{lent-hats, lent-links, lent-values}
use Rattle.machine.proofs.Linearizability.Calls.Agreement.{Agrees}
use Rattle.machine.proofs.Linearizability.Corollaries.{begun-agrees, tick-passes}
use Rattle.machine.proofs.Linearizability.Theorem.{agreement-carried}
use Rattle.machine.proofs.Linearizability.Carried.{Carried, always, always-so}
use Rattle.machine.proofs.Linearizability.Begun.Lasting.{call-has, started-has}
use Rattle.machine_progress.proofs.SoloBound.LinksEnd.{LinksEnd}
use Rattle.machine_progress.proofs.SoloBound.BegunEnds.{links-last, begun-ends}

pub record Led (ws : List ℕ) : Type 0 where
  pub row : Row
  pub agrees : Agrees ws row
  pub links_end : LinksEnd (viewed right ws)

-- The same of a given row.
abbrev LedBy : List ℕ → Row → Type 0
LedBy ws ρ = Agrees ws ρ × LinksEnd (viewed right ws)

led : {ws : List ℕ} {ρ : Row} → LedBy ws ρ → Led ws
led {ws} {ρ} q = record { row = ρ; agrees = q.0; links_end = q.1 }

viewed-lent : (ws : List ℕ) (k : ℕ) (words : List ℕ) → viewed right (lent_to ws k words) ≡ viewed right ws
viewed-lent ws k words =
    let links = lent-links ws k words in
    view-equal (λ i. links i right) (λ i. links i left) (lent-values ws k words) (lent-hats ws k words)

led-carried : Carried every_copy LedBy
led-carried =
    let C = agreement-carried every_copy in
    record {
      at-start = λ S T g L old accepted.
          (C.at-start S T g L old accepted, started-has links-last S T g L old accepted);
      at_call = λ q c.
          let x = C.at_call q.0 c in (x.0, x.1, (x.2, call-has links-last q.0 q.1 c));
      at_copy = λ {ws} q p P every. (
        C.at_copy q.0 p P every,
        subst LinksEnd (sym (viewed-lent ws p.task p.words)) q.1,
      );
      agrees = λ q. q.0;
    }

-- ---- The tables that our calls lead to.
pub begun-led : {ws : List ℕ} → Begun ws → Led ws
begun-led B = led ((begun-agrees B).1, begun-ends B)

pub led-call : {ws : List ℕ} → Led ws → (c : Call) → Led (after c ws)
led-call X c = led (led-carried.at_call (X.agrees, X.links_end) c).2

pub led-ticked : {ws : List ℕ} → Led ws → (k h : ℕ) → Led (tick_on ws k h).words
led-ticked X k h =
    subst (λ (r : Ticked). Led r.words) (tick-passes X.agrees k h) (led-call X (tick_call k h))

-- ---- What is true of every such table is claimed wherever a row is known.
pub where-led : {Claim : List ℕ → Type 0} → ((ws : List ℕ) → Led ws → Claim ws) → Always every_copy (λ ws ρ. Claim ws)
where-led {Claim} so =
    always-so every_copy LedBy (λ ws ρ. Claim ws) (λ ws ρ q. so ws (led q)) (always every_copy LedBy led-carried)
