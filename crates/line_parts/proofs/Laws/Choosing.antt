-- The step after a pop has read a value, on the side whose opposite is o; the end of a push's chain.
use mathlib.Core.Path.{◌≡◌, refl}
use mathlib.Core.Bool.{true, false}
use mathlib.Core.List.{List}
use Prim.Native.Nat.{ℕ}
use Rattle.machine.specs.declared.Stored.{Stored}
use Rattle.machine.specs.Choice.{if?◌then◌else◌}
use Rattle.machine.specs.Sides.{Side}
use Rattle.machine.specs.Values.{Value, never, bag, N, X, Y, ◌≟ᵛ◌, decode, bag_ok}
use Rattle.machine.specs.Steps.{line2, line39, line48, line51}
use Rattle.machine.specs.Lines.{Write, after_read, spliced, next, writing}
use Rattle.machine.specs.Operations.{push, operation_of}
use Rattle.machine.specs.Tasks.{Task, no_node, with_counted, with_d}
use Rattle.machine.proofs.Words.RecordLaws.{operation-of-number}
use Rattle.machine.proofs.Basics.Contradiction.{clash, refute}
use Rattle.machine.proofs.Basics.Choices.{equalᵛ, unequalᵛ}
use Rattle.machine.proofs.Words.ValueLaws.{bag-decoded, decoded-bag}
use Rattle.table_values.specs.Tests.{is_same}

-- ---- The cases of `after_read`.
pub read-bag : (o : Side) (u : Stored) → bag_ok u ≡ true → after_read o (decode u) ≡ line51
read-bag o u h = rw (bag-decoded u h)

pub read-N : (o : Side) (v : Value) → is_same v (N o) ≡ true → after_read o v ≡ line48
read-N o v h = go (v ≟ᵛ N o) h
  where
    go : (d : Dec (v ≡ N o)) → (if? d then true else false) ≡ true → after_read o v ≡ line48
    go (yes e) h = rw (e, equalᵛ {u = N o} refl)
    go (no n) h = clash (cc)

pub read-other : (o : Side) (u : Stored) → bag_ok u ≡ false → is_same (decode u) (N o) ≡ false
    → after_read o (decode u) ≡ (if? decode u ≟ᵛ X o then line48 else line39)
read-other o u h k = go (decode u) refl k
  where
    no-N : (z : Side) (d : Dec (N z ≡ N o)) → (if? d then true else false) ≡ false → (if? d then line48 else line39)
        ≡ line39
    no-N z (yes e) k = clash (cc)
    no-N z (no n) k = refl

    go : (v : Value) → decode u ≡ v → is_same v (N o) ≡ false → after_read o v ≡ (if? v ≟ᵛ X o then line48 else line39)
    go never e k = rw (unequalᵛ {u = never} {v = X o} (λ e. refute (cc)))
    go (bag b) e k = clash (cc (h, (decoded-bag u b e).0))
    go (N z) e k = rw (unequalᵛ {u = N z} {v = X o} (λ e. refute (cc))) (no-N z (N z ≟ᵛ N o) k)
    go (X z) e k = refl
    go (Y z) e k = rw (unequalᵛ {u = Y z} {v = X o} (λ e. refute (cc)))

-- ---- How 25 ends where its swap is done, of a push.
pub push-spliced :
    (l : List Write) (t : Task) (n : ℕ)
    → n ≡ 1
    → spliced (operation_of n) l t ≡ writing l (next (with_counted (with_d t no_node) 0) line2)
push-spliced l t n e = rw (e, operation-of-number push)
