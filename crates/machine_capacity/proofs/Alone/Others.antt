-- What a call on one end of a lane leaves alone: all nodes that are in use, but those of its own end; and the other
-- hats.
use mathlib.Core.Path.{◌≡◌, refl, sym, ap, ◌∙◌, subst}
use mathlib.Core.Logic.{◌≢◌, inl, inr}
use mathlib.Core.List.{List}
use Prim.Native.Nat.{ℕ, ◌<◌}
use native.Mathlib.Omega.{arith}
use Rattle.machine.specs.Sides.{Side, left, right, opposite}
use Rattle.machine.specs.Values.{N, X, Y}
use Rattle.machine.specs.Tasks.{no_node}
use Rattle.machine.specs.Table.{lane_count, hat, link, value}
use Rattle.machine.specs.Reach.{Reachable}
use Rattle.machine_capacity.specs.NoLeak.{HatPlace, in_list, beside, LaneShape, list_of, IdleLane, IdleTable}
use Rattle.machine_capacity.specs.Alone.{spare_of}
use Rattle.machine.proofs.Basics.Contradiction.{refute, equal?, less?}
use Rattle.machine.proofs.Words.Memories.{View, viewed}
use Rattle.machine.proofs.SlotRule.Reached.{WellLinked}
use Rattle.machine.proofs.Linearizability.Model.Sides.{sides}
use Rattle.machine.proofs.Linearizability.Model.Guarantee.{SameIn}
use Rattle.machine.proofs.Linearizability.Calls.MadeTicks.{well-linked}
use Rattle.machine.proofs.Linearizability.Corollaries.{begun-agrees}
use Rattle.machine_capacity.proofs.Theorem.{list-not-Y, one-hat}
use Rattle.machine_capacity.proofs.Alone.Ends.{
  OtherEnd,
  EndIs,
  not-Y,
  spare_place,
  spare_at,
  inner_at,
  spare-listed,
  inner-listed,
  idle-end,
  inner-leads,
  leads-in,
}
use Rattle.machine_capacity.proofs.Alone.Pop.{hat-inward}
use Rattle.machine_capacity.proofs.Alone.Reach.{Reach, at-hat, at-root, outward, inward, to-view, idle-root}
use Rattle.machine_capacity.proofs.Alone.Left.{OtherKept, inn-is, val_is, hat_is, same-either, reached-some}
use Rattle.machine_capacity.proofs.Alone.CallEnds.{CallEnd, spares, spare, inner}

-- The spare nodes of a lane's two ends are at different places.
places-apart : (I : LaneShape) (s : Side) (i j : ℕ) → i < spare_of s I → j < spare_of (opposite s) I
    → spare_place s I i ≢ spare_place (opposite s) I j
places-apart I left i j hi hj e = omega arith
places-apart I right i j hi hj e = omega arith

-- An end's hat holds a mark of its side.
data HatMark (ws : List ℕ) (j : ℕ) (z : Side) : Type 0 where
  is-Y : value ws (hat ws j z) ≡ Y z → HatMark ws j z
  is-N : value ws (hat ws j z) ≡ N z → HatMark ws j z
  is-X : value ws (hat ws j z) ≡ X z → HatMark ws j z

hat-mark : {ws : List ℕ} {j : ℕ} {z : Side} {at : ℕ → ℕ} {inner c y : ℕ} → EndIs ws j z at inner c y
    → HatMark ws j z
hat-mark {ws} {j} {z} {at} {inner} {c} E = go E.hat-place
  where
    go : {y : ℕ} → HatPlace ws j z (at 0) inner y → HatMark ws j z
    go (beside v o i) = is-Y v
    go (in_list e) =
        elim (less? 1 c) [
          | inl l ↦ is-N (ap (value ws) e ∙ E.spares.N-before 0 l)
          | inr l ↦ is-X (ap (value ws) e ∙ E.spares.X-last 0 (omega (arith, E.spares.some)))
        ]

module _ (end : CallEnd) where
  abbrev pub ws : List ℕ
  ws = end.words

  abbrev pub T : IdleTable end.words
  T = end.table

  abbrev pub ℓ : ℕ
  ℓ = end.lane

  abbrev pub s : Side
  s = end.side

  pub own_lane : IdleLane ws ℓ (T.shape ℓ)
  own_lane = T.idle_lane ℓ end.is_lane

  abbrev pub H : ℕ
  H = hat ws ℓ s

  W : WellLinked ws
  W = well-linked (begun-agrees end.begun).1.accepted

  -- In use, and not a spur that the hat may leave.
  pub record Alive (x : ℕ) : Type 0 where
    pub reached : Reach (lane_count ws) (viewed s ws) no_node x
    pub stays : x ≡ hat ws ℓ s → value ws (hat ws ℓ s) ≢ Y s

  to-reach : {x : ℕ} → Reachable ws x → Reach (lane_count ws) (viewed s ws) no_node x
  to-reach c = to-view s ws (idle-root end.begun end.idle_now) c

  list-alive : (j i : ℕ) (h : j < lane_count ws) → i < list_of (T.shape j) → Alive ((T.shape j).at i)
  list-alive j i h l =
      record {
        reached = to-reach ((T.idle_lane j h).reached i l);
        stays = λ e v. list-not-Y (T.idle_lane j h).main_list i l s (ap (value ws) e ∙ v);
      }

  pub spare-alive : (i : ℕ) → i < spares end → Alive (spare end i)
  spare-alive i l = list-alive ℓ _ end.is_lane (spare-listed own_lane s i l)

  pub inner-alive : Alive (inner end)
  inner-alive = list-alive ℓ _ end.is_lane (inner-listed own_lane s)

  -- The other hats are (spare end) other nodes than a spur.
  other-hat-alive : (j : ℕ) (z : Side) → j < lane_count ws → OtherEnd ℓ (opposite s) j z → Alive (hat ws j z)
  other-hat-alive j z h other =
      record {
        reached = at-hat j z h;
        stays = λ e v.
            elim ((sides s).either z) [
              | inl q ↦ on-s q e v other
              | inr q ↦ on-o q e v
            ];
      }
    where
      on-o : z ≡ opposite s → hat ws j z ≡ hat ws ℓ s → value ws (hat ws ℓ s) ≡ Y s → ⊥
      on-o q e v =
          let w = sides s in
          let u : value ws (hat ws j z) ≡ Y s = ap (value ws) e ∙ v in
          elim (hat-mark (idle-end (T.idle_lane j h) z)) [
            | is-Y x ↦ refute (cc)
            | is-N x ↦ refute (cc)
            | is-X x ↦ refute (cc)
          ]

      on-s : z ≡ s → hat ws j z ≡ hat ws ℓ s → value ws (hat ws ℓ s) ≡ Y s → OtherEnd ℓ (opposite s) j z → ⊥
      on-s q e v (inr u) = on-o u e v
      on-s q e v (inl ne) =
          ne (sym (one-hat W T s ℓ j end.is_lane h v (sym e ∙ ap (hat ws j) q)))

  -- ---- While no node of the lane is written: the hat may have left its spur.
  pub data HatNow (m : View) : Type 0 where
    on_list : m.hats ℓ s ≡ spare end 0 → HatNow m
    on-spur : value ws (hat ws ℓ s) ≡ Y s → m.hats ℓ s ≡ hat ws ℓ s → SameIn (viewed s ws) m (hat ws ℓ s) → HatNow m

  pub record Stage (m : View) : Type 0 where
    pub same : (x : ℕ) → Alive x → SameIn (viewed s ws) m x
    pub hats : (j : ℕ) (z : Side) → OtherEnd ℓ (opposite s) j z → m.hats j z ≡ hat ws j z
    pub hat-now : HatNow m

  pub some_spare : 0 < spares end
  some_spare = (idle-end own_lane s).spares.some

  pub at_some : (i : ℕ) → i < spares end → spare end i ≢ no_node
  at_some i l = reached-some end.begun (own_lane.reached _ (spare-listed own_lane s i l))

  pub p-some : inner end ≢ no_node
  p-some = reached-some end.begun (own_lane.reached _ (inner-listed own_lane s))

  module _ {m : View} (G : Stage m) {d : ℕ} where
    -- The first spare node and the one before it are reached.
    start-reached : Reach (lane_count ws) m d (spare end 0) × Reach (lane_count ws) m d (inner end)
    start-reached = go G.hat-now
      where
        go : HatNow m → Reach (lane_count ws) m d (spare end 0) × Reach (lane_count ws) m d (inner end)
        go (on_list e) =
            let at-0 : Reach (lane_count ws) m d (spare end 0) =
            subst (Reach (lane_count ws) m d) e (at-hat ℓ s end.is_lane) in
            let back : m.inn (spare end 0) ≡ inner end =
            (G.same (spare end 0) (spare-alive 0 some_spare)).same-inn ∙ leads-in own_lane s in
            (at-0, subst (Reach (lane_count ws) m d) back (inward at-0 (λ q. p-some (sym back ∙ q))))
        go (on-spur v e same-H) =
            let at_H : Reach (lane_count ws) m d H = subst (Reach (lane_count ws) m d) e (at-hat ℓ s end.is_lane) in
            let back : m.inn H ≡ inner end = same-H.same-inn ∙ hat-inward own_lane s in
            let at_p : Reach (lane_count ws) m d (inner end) =
            subst (Reach (lane_count ws) m d) back (inward at_H (λ q. p-some (sym back ∙ q))) in
            let fore : m.out (inner end) ≡ spare end 0 =
            (G.same (inner end) inner-alive).same_out ∙ inner-leads own_lane s in
            (subst (Reach (lane_count ws) m d) fore (outward at_p (λ q. at_some 0 some_spare (sym fore ∙ q))), at_p)

    -- What is alive is reached.
    alive-reached-by : {x : ℕ} → Reach (lane_count ws) (viewed s ws) no_node x
        → (x ≡ hat ws ℓ s → value ws (hat ws ℓ s) ≢ Y s)
        → Reach (lane_count ws) m d x
    alive-reached-by (at-hat j z h) stays =
        elim (equal? j ℓ) [
          | inr ne ↦ subst (Reach (lane_count ws) m d) (G.hats j z (inl ne)) (at-hat j z h)
          | inl e ↦
              elim ((sides s).either z) [
                | inr q ↦ subst (Reach (lane_count ws) m d) (G.hats j z (inr q)) (at-hat j z h)
                | inl q ↦ own (ap (λ (i : ℕ). hat ws i z) e ∙ ap (hat ws ℓ) q) (idle-end own_lane s).hat-place
              ]
        ]
      where
        own : {y : ℕ} → hat ws j z ≡ hat ws ℓ s → HatPlace ws ℓ s (spare end 0) (inner end) y
            → Reach (lane_count ws) m d (hat ws j z)
        own q (in_list e) = subst (Reach (lane_count ws) m d) (sym (q ∙ e)) start-reached.0
        own q (beside v o i) = absurd (stays q v)
    alive-reached-by (at-root ne) stays = absurd (ne refl)
    alive-reached-by (outward {x} c ne) stays = go (λ a. alive-reached-by c a) (idle-end own_lane s).hat-place
      where
        alive : ((x ≡ hat ws ℓ s → value ws (hat ws ℓ s) ≢ Y s) → Reach (lane_count ws) m d x)
            → (x ≡ hat ws ℓ s → value ws (hat ws ℓ s) ≢ Y s)
            → Reach (lane_count ws) m d (link ws s x)
        alive again a =
            let q : m.out x ≡ link ws s x = (G.same x (record { reached = c; stays = a })).same_out in
            subst (Reach (lane_count ws) m d) q (outward (again a) (λ u. ne (sym q ∙ u)))

        go : {y : ℕ} → ((x ≡ hat ws ℓ s → value ws (hat ws ℓ s) ≢ Y s) → Reach (lane_count ws) m d x)
            → HatPlace ws ℓ s (spare end 0) (inner end) y
            → Reach (lane_count ws) m d (link ws s x)
        go again (in_list e) = alive again (λ _ v. not-Y (idle-end own_lane s).spares (ap (value ws) (sym e) ∙ v))
        go again (beside v o i) =
            elim (equal? x (hat ws ℓ s)) [
              | inl q ↦ absurd (ne (ap (link ws s) q ∙ o))
              | inr nq ↦ alive again (λ q _. nq q)
            ]
    alive-reached-by (inward {x} c ne) stays = go (λ a. alive-reached-by c a) (idle-end own_lane s).hat-place
      where
        alive : ((x ≡ hat ws ℓ s → value ws (hat ws ℓ s) ≢ Y s) → Reach (lane_count ws) m d x)
            → (x ≡ hat ws ℓ s → value ws (hat ws ℓ s) ≢ Y s)
            → Reach (lane_count ws) m d (link ws (opposite s) x)
        alive again a =
            let q : m.inn x ≡ link ws (opposite s) x = (G.same x (record { reached = c; stays = a })).same-inn in
            subst (Reach (lane_count ws) m d) q (inward (again a) (λ u. ne (sym q ∙ u)))

        go : {y : ℕ} → ((x ≡ hat ws ℓ s → value ws (hat ws ℓ s) ≢ Y s) → Reach (lane_count ws) m d x)
            → HatPlace ws ℓ s (spare end 0) (inner end) y
            → Reach (lane_count ws) m d (link ws (opposite s) x)
        go again (in_list e) = alive again (λ _ v. not-Y (idle-end own_lane s).spares (ap (value ws) (sym e) ∙ v))
        go again (beside v o i) =
            elim (equal? x (hat ws ℓ s)) [
              | inl q ↦
                  subst (Reach (lane_count ws) m d) (sym (ap (link ws (opposite s)) q ∙ hat-inward own_lane s))
                  start-reached.1
              | inr nq ↦ alive again (λ q _. nq q)
            ]

    pub alive-reached : {x : ℕ} → Alive x → Reach (lane_count ws) m d x
    alive-reached a = alive-reached-by a.reached a.stays

  -- ---- At the end: own spare nodes may have been written, all else that is alive has not.
  pub record Others (m : View) : Type 0 where
    pub safe : (x : ℕ) → Alive x → ((i : ℕ) → i < spares end → spare end i ≢ x)
        → SameIn (viewed s ws) m x
    pub same-inward : (x : ℕ) → Alive x → m.inn x ≡ link ws (opposite s) x
    pub hats : (j : ℕ) (z : Side) → OtherEnd ℓ (opposite s) j z → m.hats j z ≡ hat ws j z

  pub stage-others : {m : View} → Stage m → Others m
  stage-others G =
      record { safe = λ x a _. G.same x a; same-inward = λ x a. (G.same x a).same-inn; hats = G.hats }

  module _ {m : View} (O : Others m) (vs : List ℕ) (sees : viewed s vs ≡ m) (j : ℕ) (z : Side) (h : j < lane_count ws)
      (other : OtherEnd ℓ (opposite s) j z) where
    words_same : (x : ℕ) → Alive x → ((i : ℕ) → i < spares end → spare end i ≢ x) → (y : Side)
        → link vs y x ≡ link ws y x
    words_same x a n y = let w = O.safe x a n in same-either s vs sees ws x w.same_out w.same-inn y

    value_same : (x : ℕ) → Alive x → ((i : ℕ) → i < spares end → spare end i ≢ x)
        → value vs x ≡ value ws x
    value_same x a n = val_is s vs sees x ∙ (O.safe x a n).same-val

    -- The spare nodes of the other end are not ours.
    apart-lists : (i : ℕ) → i < spares end → (q : ℕ) → q < list_of (T.shape j) → j ≢ ℓ
        → spare end i ≢ (T.shape j).at q
    apart-lists i l q lq ne e =
        ne (sym
        (T.lists_apart ℓ j (spare_place s (T.shape ℓ) i) q end.is_lane h (spare-listed own_lane s i l) lq e))

    apart-spares : (c i : ℕ) → c < spare_of z (T.shape j) → i < spares end
        → spare end i ≢ spare_at z (T.shape j) c
    apart-spares c i lc li =
        elim (equal? j ℓ) [
          | inr ne ↦ apart-lists i li _ (spare-listed (T.idle_lane j h) z c lc) ne
          | inl e ↦ by_side e other
        ]
      where
        by_side : j ≡ ℓ → OtherEnd ℓ (opposite s) j z → spare end i ≢ spare_at z (T.shape j) c
        by_side e (inl ne) = absurd (ne e)
        by_side e (inr q) = λ same.
            let c' : c < spare_of (opposite s) (T.shape ℓ) =
            subst (λ (y : Side). c < spare_of y (T.shape ℓ)) q (subst (λ (u : ℕ). c < spare_of z (T.shape u)) e lc) in
            let same' : spare end i ≡ spare_at (opposite s) (T.shape ℓ) c =
            same ∙ ap (λ (u : ℕ). spare_at z (T.shape u) c) e ∙ ap (λ (y : Side). spare_at y (T.shape ℓ) c) q in
            places-apart (T.shape ℓ) s i c li c'
            (own_lane.main_list.different _ _ (spare-listed own_lane s i li)
            (spare-listed own_lane (opposite s) c c') same')

    inner-same : link vs z (inner_at z (T.shape j)) ≡ link ws z (inner_at z (T.shape j))
    inner-same =
        let a = list-alive j _ h (inner-listed (T.idle_lane j h) z) in
        elim (equal? j ℓ) [
          | inr ne ↦
              words_same _ a (λ i l. apart-lists i l _ (inner-listed (T.idle_lane j h) z) ne) z
          | inl e ↦ by_side e a other
        ]
      where
        by_side : j ≡ ℓ → Alive (inner_at z (T.shape j)) → OtherEnd ℓ (opposite s) j z
            → link vs z (inner_at z (T.shape j)) ≡ link ws z (inner_at z (T.shape j))
        by_side e a (inl ne) = absurd (ne e)
        by_side e a (inr q) =
            let x = inner_at z (T.shape j) in
            subst (λ (y : Side). link vs y x ≡ link ws y x) (sym q) (inn-is s vs sees x ∙ O.same-inward x a)

    -- The hat's node, where it is beside the list.
    hat-safe : value ws (hat ws j z) ≡ Y z → (i : ℕ) → i < spares end → spare end i ≢ hat ws j z
    hat-safe v i l e = list-not-Y own_lane.main_list _ (spare-listed own_lane s i l) z (ap (value ws) e ∙ v)

    pub others-kept : OtherKept ws vs T j z
    others-kept =
        record {
          same-hat = hat_is s vs sees j z ∙ O.hats j z other;
          same_value =
              λ i l.
              value_same _ (list-alive j _ h (spare-listed (T.idle_lane j h) z i l)) (λ q lq. apart-spares i q l lq);
          same-link =
              λ i l.
              words_same _ (list-alive j _ h (spare-listed (T.idle_lane j h) z i l)) (λ q lq. apart-spares i q l lq) z;
          same-inner = inner-same;
          hat-value = λ v. value_same _ (other-hat-alive j z h other) (hat-safe v) ∙ v;
          hat-links = λ v y. words_same _ (other-hat-alive j z h other) (hat-safe v) y;
        }
