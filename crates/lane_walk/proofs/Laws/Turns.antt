-- One turn of the walk along R.
use mathlib.Core.Path.{◌≡◌, refl, ap, ◌∙◌}
use mathlib.Core.Logic.{◌≢◌}
use mathlib.Core.Bool.{true, false}
use mathlib.Core.List.{List, [], ◌∷◌}
use mathlib.Core.Option.{Option, some, none, map}
use Prim.Native.Nat.{ℕ, zero, suc, ◌<◌}
use Rattle.machine.specs.Choice.{◌<?◌}
use Rattle.machine.specs.Sides.{right}
use Rattle.machine.specs.Values.{Value, never, bag, N, X, Y, number, encode, decode, bag_ok}
use Rattle.machine.specs.Tasks.{no_node}
use Rattle.machine.specs.Table.{node_count, link, value, value_words}
use Rattle.machine.specs.Calls.{lane_from}
use Rattle.machine.proofs.Basics.Choices.{test-equal, test-unequal, if_yes}
use Rattle.machine.proofs.Basics.Contradiction.{clash}
use Rattle.machine.proofs.Words.LaneLaws.{at_value}
use Rattle.machine.proofs.Words.ValueLaws.{bag-decoded, decoded-bag}

module _ (ws : List ℕ) where
  -- The walk after node x, in n nodes at most.
  abbrev pub after : (n x : ℕ) → Option (List ℕ)
  after n x = lane_from ws n (link ws right x)

  -- 01: S bags with no end.
  pub no-turn : (m x : ℕ) → m ≡ 0 → lane_from ws m x ≡ none
  unfolding lane_from
  no-turn m x e = rw e refl

  -- 01: link none before a slot without a bag.
  pub no-node : (m x : ℕ) → x ≡ no_node → lane_from ws m x ≡ none
  unfolding lane_from
  no-node zero x e = refl
  no-node (suc m) x e = rw (test-equal e)

  pub at-node : (m x : ℕ) → x ≢ no_node → lane_from ws (suc m) x ≡ at_value (value ws x) (after m x)
  unfolding lane_from
  at-node m x node = rw (test-unequal node)

  -- By the words of its value.
  module _ (m m' x : ℕ) (turn : m ≡ suc m') (node : x ≢ no_node) (is_node : x < node_count ws) where
    held : value ws x ≡ decode (value_words ws x)
    unfolding value
    held = ap decode (if_yes (x <? node_count ws) (value_words ws x) (encode never) is_node)

    at_words : lane_from ws m x ≡ at_value (decode (value_words ws x)) (after m' x)
    at_words = rw turn (at-node m' x node ∙ ap (λ (v : Value). at_value v (after m' x)) held)

    pub no-bag : bag_ok (value_words ws x) ≡ false → lane_from ws m x ≡ some []
    no-bag h = at_words ∙ go (decode (value_words ws x)) refl
      where
        go : (v : Value) → decode (value_words ws x) ≡ v → at_value v (after m' x) ≡ some []
        go never e = refl
        go (bag b) e = clash (cc (h, (decoded-bag (value_words ws x) b e).0))
        go (N s) e = refl
        go (X s) e = refl
        go (Y s) e = refl

    pub one-bag : bag_ok (value_words ws x) ≡ true
        → lane_from ws m x ≡ map (◌∷◌ (number (value_words ws x))) (after m' x)
    one-bag h = at_words ∙ ap (λ (v : Value). at_value v (after m' x)) (bag-decoded (value_words ws x) h)
