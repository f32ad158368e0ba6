-- The steps of a search keep its invariant.
use Rattle.std.proofs.Common.{◌≡◌, ℕ, ◌+◌, ◌*◌, ◌^◌, ◌<◌, ◌≤◌, List, [], ◌∷◌, ◌++◌, Option, Some, None, sym, refl, ap}
use Rattle.std.proofs.Common.{◌∙◌, subst, inl, inr, arith, ◌⊎◌}
use Rattle.std.specs.Prelude.{Contains, nat_lt}
use Prim.Native.Nat.{zero, suc}
use Rattle.wave_search.specs.declared.rows.Label.{Label}
use Rattle.wave_search.specs.declared.front.Entry.{Entry}
use Rattle.wave_search.specs.inner.Waiting.{Waits, IsAdded, IsTaken}
use Rattle.route_lattice.specs.declared.moves.Move.{Move}
use Rattle.route_lattice.specs.Walks.{MoveGraph, Hop, Opens, Leads, cost, IsSound, NoneCostsLess, NoneLeads, Reaches}
use Rattle.wave_search.specs.Bounds.{IsBound}
use Rattle.wave_search.specs.inner.State.{label_at, done_of, done_by, IsPut, KeepsDone, entry, Comes, IsCheap, IsState}
use Rattle.wave_search.specs.inner.State.{improves_on, is_done_by}
use Rattle.std.proofs.lemmas.Option.{some_pair_parts, none-some}
use Rattle.std.proofs.Common.{true, false}
use Rattle.std.proofs.lemmas.Bool.Decides.{nat_tests}
use Rattle.wave_search.proofs.Table.{within, at_most}

abbrev pub hop : ℕ → Move → ℕ → ℕ → Hop
hop i m to p = record { index = i; move = m; to = to; price = p }

pub same_or_not : (a b : ℕ) → (a ≡ b) ⊎ (a ≡ b → ⊥)
same_or_not zero zero = inl refl
same_or_not zero (suc b) = inr (λ e. omega arith)
same_or_not (suc a) zero = inr (λ e. omega arith)
same_or_not (suc a) (suc b) = elim (same_or_not a b) [ inl p ↦ inl (ap suc p) | inr q ↦ inr (λ e. q (omega arith)) ]

-- a node has one label
pub one_label : (t : List (Option Label)) (v : ℕ) (a b : Label) → label_at t v ≡ Some a → label_at t v ≡ Some b → a ≡ b
one_label t v a b p q = cc

-- the label that a write leaves, or the old one
pub put_cases : (t : List (Option Label)) (v : ℕ) (l : Label) (t' : List (Option Label)) → IsPut t v l t'
    → (u : ℕ) (k : Label) → label_at t' u ≡ Some k
    → ((u ≡ v) × (k ≡ l)) ⊎ ((u ≡ v → ⊥) × (label_at t u ≡ Some k))
put_cases t v l t' w u k h =
    elim (same_or_not u v) [
      | inl p ↦ inl
          (p, one_label t' v k l (subst (λ x. label_at t' x ≡ Some k) p h) w.here)
      | inr q ↦ inr (q, sym (w.others u q) ∙ h)
    ]

-- what is cheap stays cheap where a write lowers the price
pub cheap_kept : (t : List (Option Label)) (v : ℕ) (l : Label) (t' : List (Option Label)) → IsPut t v l t'
    → ((k : Label) → label_at t v ≡ Some k → l.price ≤ k.price)
    → (u q : ℕ) → IsCheap t u q → IsCheap t' u q
cheap_kept t v l t' w low u q c = elim (same_or_not u v) [
  | inl p ↦ let e : label_at t v ≡ Some c.label = subst (λ x. label_at t x ≡ Some c.label) p c.there in
      record {
        label = l;
        there = subst (λ x. label_at t' x ≡ Some l) (sym p) w.here;
        cheap =
            omega (arith, low c.label e, c.cheap);
      }
  | inr graph ↦ record { label = c.label; there = w.others u graph ∙ c.there; cheap = c.cheap }
]

-- a write to a node that is not done leaves those that are
pub done_kept : (t : List (Option Label)) (v : ℕ) (l : Label) (t' : List (Option Label)) → IsPut t v l t'
    → ((k : Label) → label_at t v ≡ Some k → k.rank ≡ 0) → KeepsDone t t'
done_kept t v l t' w waiting u k h d = elim (same_or_not u v) [
  | inl p ↦ let z : k.rank ≡ 0 = waiting k (subst (λ x. label_at t x ≡ Some k) p h) in absurd (omega (arith, z, d))
  | inr n ↦ w.others u n ∙ h
]

-- an origin that is done keeps its label where the write is to a node that is not done, or keeps price and raises the
-- rank from 0
pub comes_kept : (graph : MoveGraph) (starts : List ℕ) (t : List (Option Label)) (v : ℕ) (l : Label)
    (t' : List (Option Label)) → IsPut t v l t'
    → ((k : Label) → label_at t v ≡ Some k → k.rank ≡ 0) → (u p r : ℕ) (o : Option ℕ) → Comes graph starts t u p r o
    → Comes graph starts t' u p r o
comes_kept graph starts t v l t' w waiting u p r None c = c
comes_kept graph starts t v l t' w waiting u p r (Some o) c = elim (same_or_not o v) [
  | inl e ↦ let z : c.label.rank ≡ 0 = waiting c.label (subst (λ x. label_at t x ≡ Some c.label) e c.there) in
      absurd (omega (arith, z, c.done))
  | inr ne ↦ record {
    label = c.label;
    there = w.others o ne
        ∙ c.there;
    done = c.done;
    before = c.before;
    tight = c.tight;
  }
]

done_pos : (r : ℕ) → 0 < r → done_by r ≡ 1
done_pos zero h = absurd (omega arith)
done_pos (suc r) h = refl

done_zero : (r : ℕ) → r ≡ 0 → done_by r ≡ 0
done_zero zero h = refl
done_zero (suc r) h = absurd (omega arith)

pub not_done : (x : Option Label) → ((k : Label) → x ≡ Some k → k.rank ≡ 0) → done_of x ≡ 0
not_done None f = refl
not_done (Some k) f = done_zero k.rank (f k refl)

pub zero_or : (r : ℕ) → (0 < r → ⊥) → r ≡ 0
zero_or zero f = refl
zero_or (suc r) f = absurd (f (omega arith))

better_at : (p : ℕ) (o : Option Label) → improves_on p o ≡ true → (k : Label) → o ≡ Some k → p < k.price
better_at p None h k e = cc
better_at p (Some l) h k e = let same : l ≡ k = cc in omega (arith, below p l.price h, ap (λ (x : Label). x.price) same)
  where
    below : (a b : ℕ) → nat_lt a b ≡ true → a < b
    below a b h = grind (arith, nat_tests)

-- the price is below that of the label, if there is one
pub better_from : (t : List (Option Label)) (to p : ℕ) → improves_on p (label_at t to) ≡ true → (k : Label)
    → label_at t to ≡ Some k → p < k.price
better_from t to p h k e = better_at p (label_at t to) h k e

cheap_at : (t : List (Option Label)) (to p : ℕ) (o : Option Label) → label_at t to ≡ o → improves_on p o ≡ false
    → IsCheap t to p
cheap_at t to p None e h = cc
cheap_at t to p (Some l) e h = record { label = l; there = e; cheap = not_below p l.price h }
  where
    not_below : (a b : ℕ) → nat_lt a b ≡ false → b ≤ a
    not_below a b h = grind (arith, nat_tests)

-- there is a label, and its price is not above
pub cheap_from : (t : List (Option Label)) (to p : ℕ) → improves_on p (label_at t to) ≡ false → IsCheap t to p
cheap_from t to p h = cheap_at t to p (label_at t to) refl h

done_at : (t : List (Option Label)) (to : ℕ) (o : Option Label) → label_at t to ≡ o → is_done_by o ≡ true → (k : Label)
    × (label_at t to ≡ Some k) × (0 < k.rank)
done_at t to None e h = cc
done_at t to (Some l) e h = (l, e, grind (arith, nat_tests))

-- the node is done
pub done_from : (t : List (Option Label)) (to : ℕ) → is_done_by (label_at t to) ≡ true → (k : Label)
    × (label_at t to ≡ Some k) × (0 < k.rank)
done_from t to h = done_at t to (label_at t to) refl h

pub zero_or_pos : (r : ℕ) → (r ≡ 0) ⊎ (0 < r)
zero_or_pos zero = inl refl
zero_or_pos (suc r) = inr (omega arith)

-- one more move at the end
pub leads_on : (graph : MoveGraph) (hs : List Hop) (a b : ℕ) (h : Hop) → Leads graph a hs b → Opens graph b h
    → Leads graph a (hs ++ h ∷ []) h.to
leads_on graph [] a b h p o = (subst (λ (x : ℕ). Opens graph x h) (sym p) o, refl)
leads_on graph (k ∷ hs) a b h p o = (p.0, leads_on graph hs k.to b h p.1 o)

module _ (graph : MoveGraph) (starts goals : List ℕ) (low : ℕ → ℕ) (sound : IsSound graph)
    (bound : IsBound graph goals low) where
  -- all moves below the arity are all moves
  pub whole : (t : List (Option Label)) (q : List Entry) (level fin cur other : ℕ)
      → IsState graph starts goals low t q level fin cur graph.arity
      → IsState graph starts goals low t q level fin other graph.arity
  whole t q level fin cur other i = record {
    roots = i.roots;
    seeded = i.seeded;
    priced = i.priced;
    ranked = i.ranked;
    waits = i.waits;
    settled = i.settled;
    no_goal = i.no_goal;
    relaxed = λ v l h a d c o. i.relaxed v l h a d (λ e. o.listed) o;
    above = i.above;
    labelled = i.labelled;
    done = i.done;
  }

  -- the price of a label that is done leaves room for a move
  pub price_room : (t : List (Option Label)) (q : List Entry) (level fin cur j : ℕ)
      → IsState graph starts goals low t q level fin cur j → (v : ℕ) (l : Label) → label_at t v ≡ Some l → 0 < l.rank
      → l.price + 2 ^ 35 ≤ 2 ^ 35 * (2 ^ 24 + 1)
  price_room t q level fin cur j i v l h d =
      omega (arith, i.priced v l h, done_pos l.rank d, i.done, at_most t, i.roots.size, sound.nodes)

  -- move j of the node that is done was looked at, and needs no new label
  pub advance : (t : List (Option Label)) (q : List Entry) (level fin cur j : ℕ) (lu : Label)
      → IsState graph starts goals low t q level fin cur j → label_at t cur ≡ Some lu
      → ((h : Hop) → Opens graph cur h → h.index ≡ j → IsCheap t h.to (lu.price + h.price))
      → IsState graph starts goals low t q level fin cur (j + 1)
  advance t q level fin cur j lu i there new = record {
    roots = i.roots;
    seeded = i.seeded;
    priced = i.priced;
    ranked = i.ranked;
    waits = i.waits;
    settled = i.settled;
    no_goal = i.no_goal;
    relaxed = λ v l h a d c o. elim (same_or_not v cur) [
      | inl e ↦ elim (same_or_not h.index j) [
        | inl f ↦ let k : l ≡ lu = one_label t cur l lu (subst (λ x. label_at t x ≡ Some l) e a) there in
            let w = new h (subst (λ x. Opens graph x h) e o) f in
            record { label = w.label; there = w.there; cheap = omega (arith, w.cheap, ap (λ (x : Label). x.price) k) }
        | inr g ↦ i.relaxed v l h a d (λ e2. omega (arith, c e, g)) o
      ]
      | inr ne ↦ i.relaxed v l h a d (λ e2. absurd (ne e2)) o
    ];
    above = i.above;
    labelled = i.labelled;
    done = i.done;
  }

  -- move j is closed
  pub shut : (t : List (Option Label)) (q : List Entry) (level fin cur j : ℕ) (lu : Label)
      → IsState graph starts goals low t q level fin cur j → label_at t cur ≡ Some lu
      → (graph.open_at cur j → ⊥) → IsState graph starts goals low t q level fin cur (j + 1)
  shut t q level fin cur j lu i there not_so =
      advance t q level fin cur j lu i there
      (λ h o e. absurd (not_so (subst (λ (x : ℕ). graph.open_at cur x) e o.is_open)))

  -- move j leads nowhere
  pub nowhere : (t : List (Option Label)) (q : List Entry) (level fin cur j : ℕ) (lu : Label)
      → IsState graph starts goals low t q level fin cur j → label_at t cur ≡ Some lu
      → graph.at cur j ≡ None → IsState graph starts goals low t q level fin cur (j + 1)
  nowhere t q level fin cur j lu i there not_so = advance t q level fin cur j lu i there (λ h o e.
      let f : graph.at cur h.index ≡ graph.at cur j = ap (λ (x : ℕ). graph.at cur x) e in
      absurd (none-some (h.move, h.to) (sym not_so ∙ (sym f ∙ o.leads))))

  -- a move has one price
  one_cost : (cur j p : ℕ) → cur < graph.count → graph.priced cur j p → (h : Hop) → Opens graph cur h → h.index ≡ j
      → h.price ≡ p
  one_cost cur j p r c h o e = sound.one_price cur j h.price p r (subst (λ (x : ℕ). x < graph.arity) e o.listed)
      (subst (λ (x : ℕ). graph.priced cur x h.price) e o.costs) c

  -- move j leads to a node that has a label with no greater price
  pub unchanged : (t : List (Option Label)) (q : List Entry) (level fin cur j : ℕ) (lu : Label)
      → IsState graph starts goals low t q level fin cur j → label_at t cur ≡ Some lu
      → (m : Move) (to p : ℕ) → graph.at cur j ≡ Some (m, to) → graph.priced cur j p → IsCheap t to (lu.price + p)
      → IsState graph starts goals low t q level fin cur (j + 1)
  unchanged t q level fin cur j lu i there m to p at_is costs c = advance t q level fin cur j lu i there (λ h o e.
      let same : h.to ≡ to =
      sym (some_pair_parts m h.move to h.to (sym at_is ∙ ((λ x. graph.at cur (sym e x)) ∙ o.leads))).1 in
      let cur_in : cur < graph.count = omega (arith, within t cur lu there, i.roots.size) in
      record {
        label = c.label;
        there = subst (λ (x : ℕ). label_at t x ≡ Some c.label) (sym same) c.there;
        cheap =
            omega (arith, c.cheap, one_cost cur j p cur_in costs h o e);
      })

  -- move j leads to a node that is done
  pub done_before : (t : List (Option Label)) (q : List Entry) (level fin cur j : ℕ) (lu : Label)
      → IsState graph starts goals low t q level fin cur j → label_at t cur ≡ Some lu
      → level ≡ lu.price + low cur → (m : Move) (to : ℕ) → graph.at cur j ≡ Some (m, to)
      → is_done_by (label_at t to) ≡ true → IsState graph starts goals low t q level fin cur (j + 1)
  done_before t q level fin cur j lu i there level_is m to at_is so = advance t q level fin cur j lu i there (λ h o e.
      let same : h.to ≡ to =
      sym (some_pair_parts m h.move to h.to (sym at_is ∙ ((λ x. graph.at cur (sym e x)) ∙ o.leads))).1 in
      let cur_in : cur < graph.count = omega (arith, within t cur lu there, i.roots.size) in
      let d = done_from t to so in record {
        label = d.0;
        there = subst (λ (x : ℕ). label_at t x ≡ Some d.0) (sym same) d.1;
        cheap = omega (arith, i.settled to d.0 d.1 d.2, bound.falls cur h cur_in o, level_is, ap low same);
      })

  -- move j of the node that is done leads, for less, to a node that gets a new label and waits
  module _ (t : List (Option Label)) (q : List Entry) (level fin cur j : ℕ) (lu : Label)
      (i : IsState graph starts goals low t q level fin cur j)
      (there : label_at t cur ≡ Some lu) (is_done : 0 < lu.rank) (level_is : level ≡ lu.price + low cur)
      (m : Move) (to paid : ℕ) (o : Opens graph cur (hop j m to paid)) (l : Label)
      (price_is : l.price ≡ lu.price + paid) (rank_is : l.rank ≡ 0)
      (origin_is : l.origin ≡ Some cur)
      (better : (k : Label) → label_at t to ≡ Some k → l.price < k.price) where
    cur_in : cur < graph.count
    cur_in = omega (arith, within t cur lu there, i.roots.size)

    falls : low cur ≤ paid + low to
    falls = bound.falls cur (hop j m to paid) cur_in o

    -- the node that gets the label is not done
    waiting : (k : Label) → label_at t to ≡ Some k → k.rank ≡ 0
    waiting k e = zero_or k.rank (λ d. omega (arith, better k e, i.settled to k e d, falls, level_is, price_is))

    not_cur : to ≡ cur → ⊥
    not_cur e = omega (arith, is_done, waiting lu (subst (λ x. label_at t x ≡ Some lu) (sym e) there))

    new_comes : (t' : List (Option Label)) → IsPut t to l t' → Comes graph starts t' to l.price l.rank l.origin
    new_comes t' w = subst (λ (x : Option ℕ). Comes graph starts t' to l.price l.rank x) (sym origin_is) (record {
      label = lu;
      there = w.others cur (λ e. not_cur (sym e)) ∙ there;
      done = is_done;
      before = λ d. absurd (omega (arith, d, rank_is));
      tight = record { hop = hop j m to paid; opens = o; to_is = refl; price_is = price_is };
    })

    new_price : l.price + 2 ^ 35 * done_by l.rank ≤ 2 ^ 35 * fin
    new_price = omega (
      arith,
      done_zero l.rank rank_is,
      i.priced cur lu there,
      done_pos lu.rank is_done,
      sound.small_price cur j paid cur_in o.listed o.costs,
      price_is,
    )

    same_to : (v : ℕ) (h : Hop) → v ≡ cur → h.index ≡ j → Opens graph v h → h.to ≡ to
    same_to v h e f p = sym (some_pair_parts m h.move to h.to (sym o.leads
        ∙ ((λ x. graph.at (sym e x) (sym f x)) ∙ p.leads))).1

    pub relabel_keeps : (t' : List (Option Label)) → IsPut t to l t' → KeepsDone t t'
    relabel_keeps t' w = done_kept t to l t' w waiting

    pub relabelled : (t' : List (Option Label)) (q' : List Entry) → IsPut t to l t'
        → IsAdded q (entry (l.price + low to) to) q' → IsState graph starts goals low t' q' level fin cur (j + 1)
    relabelled t' q' w a = record {
      roots = record {
        size = w.size ∙ i.roots.size;
        comes = λ v k h. elim (put_cases t to l t' w v k h) [
          | inl p ↦ subst (λ (y : ℕ × Label). Comes graph starts t' y.0 y.1.price y.1.rank y.1.origin)
              (λ x. (sym p.0 x, sym p.1 x)) (new_comes t' w)
          | inr p ↦ comes_kept graph starts t to l t' w waiting v k.price k.rank k.origin (i.roots.comes v k p.1)
        ];
      };
      seeded = λ s c. cheap_kept t to l t' w (λ k e. omega (arith, better k e)) s 0 (i.seeded s c);
      priced = λ v k h. elim (put_cases t to l t' w v k h) [
        | inl p ↦ subst (λ (y : Label). y.price + 2 ^ 35 * done_by y.rank ≤ 2 ^ 35 * fin) (sym p.1) new_price
        | inr p ↦ i.priced v k p.1
      ];
      ranked = λ v k h. elim (put_cases t to l t' w v k h) [
        | inl p ↦ omega (arith, ap (λ (x : Label). x.rank) p.1)
        | inr p ↦ i.ranked v k p.1
      ];
      waits = λ v k h z. elim (put_cases t to l t' w v k h) [
        | inl p ↦ subst (λ (e : Entry). Waits q' e)
            (λ x. entry ((sym p.1 x).price + low (sym p.0 x)) (sym p.0 x)) a.here
        | inr p ↦ a.kept (entry (k.price + low v) v) (i.waits v k p.1 z)
      ];
      settled = λ v k h d. elim (put_cases t to l t' w v k h) [
        | inl p ↦ absurd (omega (arith, d, ap (λ (x : Label). x.rank) p.1))
        | inr p ↦ i.settled v k p.1 d
      ];
      no_goal = λ v k h d g. elim (put_cases t to l t' w v k h) [
        | inl p ↦ omega (arith, d, ap (λ (x : Label). x.rank) p.1)
        | inr p ↦ i.no_goal v k p.1 d g
      ];
      relaxed = λ v k h e d c o2. elim (put_cases t to l t' w v k e) [
        | inl p ↦ absurd (omega (arith, d, ap (λ (x : Label). x.rank) p.1))
        | inr p ↦ elim (same_or_not v cur) [
          | inl f ↦ elim (same_or_not h.index j) [
            | inl g ↦ let o3 : Opens graph cur h = subst (λ (x : ℕ). Opens graph x h) f o2 in record {
              label = l;
              there = subst (λ (x : ℕ). label_at t' x ≡ Some l) (sym (same_to v h f g o2)) w.here;
              cheap = omega (
                arith,
                price_is,
                ap (λ (x : Label). x.price)
                    (one_label t cur k lu (subst (λ (x : ℕ). label_at t x ≡ Some k) f p.1) there),
                one_cost cur j paid cur_in o.costs h o3 g,
              );
            }
            | inr g ↦ cheap_kept t to l t' w (λ k2 e2. omega (arith, better k2 e2)) h.to (k.price + h.price)
                (i.relaxed v k h p.1 d (λ e3. omega (arith, c e3, g)) o2)
          ]
          | inr f ↦ cheap_kept t to l t' w (λ k2 e2. omega (arith, better k2 e2)) h.to (k.price + h.price)
              (i.relaxed v k h p.1 d (λ e3. absurd (f e3)) o2)
        ]
      ];
      above = λ e h. elim (a.only e h) [
        | inl p ↦ i.above e p
        | inr p ↦ omega (arith, ap (λ (x : Entry). x.key) p, falls, level_is, price_is)
      ];
      labelled = λ e h. elim (a.only e h) [
        | inl p ↦ let b = i.labelled e p in
            (b.0, cheap_kept t to l t' w (λ k2 e2. omega (arith, better k2 e2)) e.node b.0 b.1, b.2)
        | inr p ↦ (
          l.price,
          record {
            label = l;
            there =
                subst (λ (x : ℕ). label_at t' x ≡ Some l) (λ x. (sym p x).node) w.here;
            cheap = omega arith;
          },
          omega (
            arith,
            ap (λ (x : Entry). x.key) p,
            ap (λ (x : Entry). low x.node) p,
          ),
        )
      ];
      done = omega (arith, w.done, not_done (label_at t to) waiting, done_zero l.rank rank_is, i.done);
    }

  -- the least entry is of a node that waits: it is done now
  module _ (t : List (Option Label)) (q : List Entry) (level fin cur : ℕ)
      (i : IsState graph starts goals low t q level fin cur graph.arity)
      (e : Entry) (q' : List Entry) (taken : IsTaken q e q') (l : Label) (there : label_at t e.node ≡ Some l)
      (rank_is : l.rank ≡ 0) where
    -- the entry's key is that of the label
    pub key_is : e.key ≡ l.price + low e.node
    key_is = let w = i.waits e.node l there rank_is in let b = i.labelled e taken.there in
        let k : b.1.label ≡ l = one_label t e.node b.1.label l b.1.there there in
        omega (
          arith,
          taken.least (entry (l.price + low e.node) e.node) w,
          b.2,
          b.1.cheap,
          ap (λ (x : Label). x.price) k,
        )

    waits_now : (k : Label) → label_at t e.node ≡ Some k → k.rank ≡ 0
    waits_now k h = ap (λ (x : Label). x.rank) (one_label t e.node k l h there) ∙ rank_is

    pub raise : (v p r r' : ℕ) (o : Option ℕ) → fin < r' → Comes graph starts t v p r o → Comes graph starts t v p r' o
    raise v p r r' None h c = c
    raise v p r r' (Some o) h c =
        record {
          label = c.label;
          there = c.there;
          done = c.done;
          before =
              λ d. omega (arith, h, i.ranked o c.label c.there);
          tight = c.tight;
        }

    pub finished : (k : Label) → k.price ≡ l.price → k.rank ≡ fin + 1 → k.origin ≡ l.origin
        → (Contains goals e.node → ⊥) → (t' : List (Option Label)) → IsPut t e.node k t'
        → IsState graph starts goals low t' q' e.key (fin + 1) e.node 0
    finished k price_is fin_is origin_is not_goal t' w = record {
      roots = record {
        size = w.size ∙ i.roots.size;
        comes = λ v x h. elim (put_cases t e.node k t' w v x h) [
          | inl p ↦ subst (λ (y : ℕ × Label). Comes graph starts t' y.0 y.1.price y.1.rank y.1.origin)
              (λ x. (sym p.0 x, sym p.1 x))
              (subst (λ (y : ℕ × Option ℕ). Comes graph starts t' e.node y.0 k.rank y.1)
              (λ x. (sym price_is x, sym origin_is x))
              (comes_kept graph starts t e.node k t' w waits_now e.node l.price k.rank l.origin
              (raise e.node l.price l.rank k.rank l.origin (omega (arith, fin_is)) (i.roots.comes e.node l there))))
          | inr p ↦ comes_kept graph starts t e.node k t' w waits_now v x.price x.rank x.origin (i.roots.comes v x p.1)
        ];
      };
      seeded = λ s c. cheap_kept t e.node k t' w same_price s 0 (i.seeded s c);
      priced = λ v x h. elim (put_cases t e.node k t' w v x h) [
        | inl p ↦ subst (λ (y : Label). y.price + 2 ^ 35 * done_by y.rank ≤ 2 ^ 35 * (fin + 1)) (sym p.1)
            (omega (
              arith,
              i.priced e.node l there,
              done_zero l.rank rank_is,
              done_pos k.rank (omega (arith, fin_is)),
              price_is,
            ))
        | inr p ↦ omega (arith, i.priced v x p.1)
      ];
      ranked = λ v x h. elim (put_cases t e.node k t' w v x h) [
        | inl p ↦ omega (arith, fin_is, ap (λ (y : Label). y.rank) p.1)
        | inr p ↦ omega (arith, i.ranked v x p.1)
      ];
      waits = λ v x h z. elim (put_cases t e.node k t' w v x h) [
        | inl p ↦ absurd (omega (arith, fin_is, z, ap (λ (y : Label). y.rank) p.1))
        | inr p ↦ elim (taken.kept (entry (x.price + low v) v) (i.waits v x p.1 z)) [
          | inl a ↦ a
          | inr a ↦ absurd
              (p.0 (ap (λ (y : Entry). y.node) a))
        ]
      ];
      settled = λ v x h d. elim (put_cases t e.node k t' w v x h) [
        | inl p ↦ omega (arith, key_is, price_is, ap (λ (y : Label). y.price) p.1, ap low p.0)
        | inr p ↦ omega (arith, i.settled v x p.1 d, i.above e taken.there)
      ];
      no_goal = λ v x h d g. elim (put_cases t e.node k t' w v x h) [
        | inl p ↦ not_goal (subst (λ (y : ℕ). Contains goals y) p.0 g)
        | inr p ↦ i.no_goal v x p.1 d g
      ];
      relaxed = λ v x h g d c o. elim (put_cases t e.node k t' w v x g) [
        | inl p ↦ absurd (omega (arith, c p.0))
        | inr p ↦ cheap_kept t e.node k t' w same_price h.to (x.price + h.price)
            (i.relaxed v x h p.1 d (λ e2. o.listed) o)
      ];
      above = λ x h. taken.least x (taken.only x h);
      labelled = λ x h. let b = i.labelled x (taken.only x h) in
          (b.0, cheap_kept t e.node k t' w same_price x.node b.0 b.1, b.2);
      done = omega (
        arith,
        w.done,
        not_done (label_at t e.node) waits_now,
        done_pos k.rank (omega (arith, fin_is)),
        i.done,
      );
    }
      where
        same_price : (y : Label) → label_at t e.node ≡ Some y → k.price ≤ y.price
        same_price y h = omega (arith, price_is, ap (λ (z : Label). z.price) (one_label t e.node y l h there))

    low_cost : (hs : List Hop) (a g : ℕ) → a < graph.count → Leads graph a hs g → Contains goals g → low a ≤ cost hs
    low_cost [] a g r p c = omega (arith, bound.at_goals g c, ap low p)
    low_cost (h ∷ hs) a g r p c =
        omega (
          arith,
          bound.falls a h r p.0,
          low_cost hs h.to g (sound.leads a h.index h.move h.to r p.0.listed p.0.leads) p.1 c,
        )

    -- a node that waits has no cheaper way to a goal
    from_waiting : (hs : List Hop) (a g : ℕ) (la : Label) → label_at t a ≡ Some la → la.rank ≡ 0 → Leads graph a hs g
        → Contains goals g → Contains goals e.node → l.price ≤ la.price + cost hs
    from_waiting hs a g la h z p c ge =
        omega (
          arith,
          taken.least (entry (la.price + low a) a) (i.waits a la h z),
          key_is,
          bound.at_goals e.node ge,
          low_cost hs a g (omega (arith, within t a la h, i.roots.size)) p c,
        )

    pub least_from : (hs : List Hop) (a g : ℕ) (la : Label) → label_at t a ≡ Some la → Leads graph a hs g
        → Contains goals g → Contains goals e.node → l.price ≤ la.price + cost hs
    least_from [] a g la h p c ge = elim (zero_or_pos la.rank) [
      | inl z ↦ from_waiting [] a g la h z p c ge
      | inr d ↦ absurd (i.no_goal a la h d (subst (λ (x : ℕ). Contains goals x) (sym p) c))
    ]
    least_from (k ∷ hs) a g la h p c ge = elim (zero_or_pos la.rank) [
      | inl z ↦ from_waiting (k ∷ hs) a g la h z p c ge
      | inr d ↦ let w = i.relaxed a la k h d (λ e2. p.0.listed) p.0 in
          omega (arith, w.cheap, least_from hs k.to g w.label w.there p.1 c ge)
    ]

    -- where the least entry is of a goal, no walk costs less
    pub none_less : Contains goals e.node → NoneCostsLess graph starts goals l.price
    none_less ge s hs g cs cg p = let w = i.seeded s cs in
        omega (arith, w.cheap, least_from hs s g w.label w.there p cg ge)

  -- nothing waits any more
  module _ (t : List (Option Label)) (level fin cur : ℕ)
      (i : IsState graph starts goals low t [] level fin cur graph.arity) where
    done_all : (v : ℕ) (l : Label) → label_at t v ≡ Some l → 0 < l.rank
    done_all v l h = elim (zero_or_pos l.rank) [ inl z ↦ absurd (i.waits v l h z) | inr d ↦ d ]

    all_along : (hs : List Hop) (a b : ℕ) (la : Label) → label_at t a ≡ Some la → Leads graph a hs b → (lb : Label)
        × (label_at t b ≡ Some lb)
    all_along [] a b la h p = (la, subst (λ (x : ℕ). label_at t x ≡ Some la) p h)
    all_along (k ∷ hs) a b la h p = let w = i.relaxed a la k h (done_all a la h) (λ e2. p.0.listed) p.0 in
        all_along hs k.to b w.label w.there p.1

    pub closed_none : NoneLeads graph starts goals
    closed_none s hs g cs cg p = let w = i.seeded s cs in let e = all_along hs s g w.label w.there p in
        i.no_goal g e.0 e.1 (done_all g e.0 e.1) cg

    pub closed_complete : (v : ℕ) → Reaches graph starts v → (l : Label) × (label_at t v ≡ Some l)
    closed_complete v r = let w = i.seeded r.0 r.2 in all_along r.1 r.0 v w.label w.there r.3

    reaches_from : (v p r : ℕ) (o : Option ℕ) → Comes graph starts t v p r o
        → ((u : ℕ) (lu : Label) → label_at t u ≡ Some lu → 0 < lu.rank → lu.rank < r → Reaches graph starts u) → 0 < r
        → Reaches graph starts v
    reaches_from v p r None c f d = (v, [], c.0, refl)
    reaches_from v p r (Some o) c f d = let x : Reaches graph starts o = f o c.label c.there c.done (c.before d) in
        let all : List Hop = x.1 ++ c.tight.hop ∷ [] in (
          x.0,
          all,
          x.2,
          subst (λ (y : ℕ). Leads graph x.0 all y) c.tight.to_is
              (leads_on graph x.1 x.0 o c.tight.hop x.3 c.tight.opens),
        )

    reaches_below : (k v : ℕ) (l : Label) → label_at t v ≡ Some l → 0 < l.rank → l.rank ≤ k → Reaches graph starts v
    reaches_below zero v l h d b = absurd (omega arith)
    reaches_below (suc k) v l h d b = reaches_from v l.price l.rank l.origin (i.roots.comes v l h)
        (λ u lu e f g. reaches_below k u lu e f (omega (arith, b, g))) d

    pub closed_reached : (v : ℕ) (l : Label) → label_at t v ≡ Some l → Reaches graph starts v
    closed_reached v l h = reaches_below l.rank v l h (done_all v l h) (omega arith)
