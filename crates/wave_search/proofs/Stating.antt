-- Of the walks of the least price the first is the one whose path the pass comes to first.
use Rattle.std.proofs.Common.{◌≡◌, ℕ, ◌+◌, ◌<◌, ◌≤◌, List, [], ◌∷◌, ◌++◌, length, map, reverse, Option, Some, None}
use Rattle.std.proofs.Common.{refl, sym}
use Rattle.std.proofs.Common.{ap, ◌∙◌, subst, inl, inr, ◌⊎◌, arith}
use Rattle.std.specs.Prelude.{Contains}
use Rattle.std.proofs.lemmas.List.{reverse-append}
use Prim.Native.Nat.{zero, suc}
use Rattle.route_lattice.specs.Walks.{MoveGraph, Hop, Opens, Leads, cost, to_of, IsSound, NoneCostsLess}
use Rattle.wave_search.specs.declared.rows.Label.{Label}
use Rattle.std.proofs.lemmas.Option.{some_pair_parts}
use Rattle.std.proofs.lemmas.Bool.{cases_lt}
use Rattle.std.proofs.lemmas.List.Elements.{Contains-append_left, Contains-push, Contains-push_cases}
use Rattle.route_lattice.specs.declared.moves.Move.{Move}
use Rattle.wave_search.specs.Bounds.{IsBound}
use Rattle.wave_search.specs.inner.State.{label_at, Comes, IsExact, IsStep}
use Rattle.wave_search.specs.inner.Spreads.{IsPath, IsBefore, IsAtMost}
use Rattle.wave_search.specs.inner.Passing.{IsPriced}
use Rattle.wave_search.specs.Stated.{IsLower, IsFirst, index_of, key_of}
use Rattle.wave_search.proofs.Steps.{leads_on, zero_or_pos}
use Rattle.wave_search.proofs.Table.{within}

-- ---- lists of numbers, told from the first or from the last
lower_front : (xs ys us vs : List ℕ) → IsLower xs ys → IsLower (xs ++ us) (ys ++ vs)
lower_front [] ys us vs p = absurd p
lower_front (x ∷ xs) [] us vs p = absurd p
lower_front (x ∷ xs) (y ∷ ys) us vs p = elim p [
  | inl s ↦ inl s
  | inr s ↦ inr (s.0, lower_front xs ys us vs s.1)
]

lower_behind : (xs us vs : List ℕ) → IsLower us vs → IsLower (xs ++ us) (xs ++ vs)
lower_behind [] us vs p = p
lower_behind (x ∷ xs) us vs p = inr (refl, lower_behind xs us vs p)

reverse_cons : (x : ℕ) (xs : List ℕ) → reverse (x ∷ xs) ≡ reverse xs ++ x ∷ []
reverse_cons x xs = reverse-append (x ∷ []) xs

-- a path that comes before another has fewer nodes, or as many and is lower from its first on
told : (p q : List ℕ) → IsBefore p q
    → (length p < length q) ⊎ ((length p ≡ length q) × IsLower (reverse p) (reverse q))
told [] [] h = absurd h
told [] (y ∷ q) h = inl (omega arith)
told (x ∷ p) [] h = absurd h
told (x ∷ p) (y ∷ q) h = elim h [
  | inl s ↦ elim (told p q s) [
    | inl t ↦ inl (omega (arith, t))
    | inr t ↦ inr (
      omega (arith, t.0),
      subst (λ (l : List ℕ). IsLower l (reverse (y ∷ q))) (sym (reverse_cons x p))
          (subst (λ (l : List ℕ). IsLower (reverse p ++ x ∷ []) l) (sym (reverse_cons y q))
          (lower_front (reverse p) (reverse q) (x ∷ []) (y ∷ []) t.1)),
    )
  ]
  | inr s ↦ inr (
    omega (arith, ap (length {A = ℕ}) s.0),
    subst (λ (l : List ℕ). IsLower l (reverse (y ∷ q))) (sym (reverse_cons x p))
        (subst (λ (l : List ℕ). IsLower (reverse p ++ x ∷ []) l) (sym (reverse_cons y q))
        (subst (λ (l : List ℕ). IsLower (reverse p ++ x ∷ []) (reverse l ++ y ∷ [])) s.0
        (lower_behind (reverse p) (x ∷ []) (y ∷ []) (inl s.1)))),
  )
]

-- ---- walks one after another
leads_append : (graph : MoveGraph) (hs ks : List Hop) (a b c : ℕ) → Leads graph a hs b → Leads graph b ks c
    → Leads graph a (hs ++ ks) c
leads_append graph [] ks a b c p q = subst (λ (x : ℕ). Leads graph x ks c) (sym p) q
leads_append graph (h ∷ hs) ks a b c p q = (p.0, leads_append graph hs ks h.to b c p.1 q)

cost_append : (hs ks : List Hop) → cost (hs ++ ks) ≡ cost hs + cost ks
cost_append [] ks = omega arith
cost_append (h ∷ hs) ks = omega (arith, cost_append hs ks)

-- a walk to a node, at its price
pub record HasWalk (graph : MoveGraph) (starts : List ℕ) (v p : ℕ) : Type 0 where
  pub from : ℕ
  pub starts_in : Contains starts from
  pub hops : List Hop
  pub leads : Leads graph from hops v
  pub price_is : p ≡ cost hops

-- the nodes of hops, put before a path that ends where they begin
abbrev pub onto_path : List Hop → List ℕ → List ℕ
onto_path [] path = path
onto_path (h ∷ hs) path = onto_path hs (h.to ∷ path)

onto_nodes : (hs : List Hop) (path : List ℕ) → reverse (onto_path hs path) ≡ reverse path ++ map to_of hs
onto_nodes [] path = sym (append_none (reverse path))
  where
    append_none : (xs : List ℕ) → xs ++ [] ≡ xs
    append_none [] = refl
    append_none (x ∷ xs) = ap (λ (l : List ℕ). x ∷ l) (append_none xs)
onto_nodes (h ∷ hs) path = onto_nodes hs (h.to ∷ path) ∙ ap (λ (l : List ℕ). l ++ map to_of hs) (reverse_cons h.to path)
    ∙ assoc (reverse path) h.to (map to_of hs)
  where
    assoc : (xs : List ℕ) (y : ℕ) (zs : List ℕ) → (xs ++ y ∷ []) ++ zs ≡ xs ++ y ∷ zs
    assoc [] y zs = refl
    assoc (x ∷ xs) y zs = ap (λ (l : List ℕ). x ∷ l) (assoc xs y zs)

onto_length : (hs : List Hop) (path : List ℕ) → length (onto_path hs path) ≡ length hs + length path
onto_length [] path = omega arith
onto_length (h ∷ hs) path = omega (arith, onto_length hs (h.to ∷ path))

-- the hop is tight between nodes that are done
pub record IsTightHop (graph : MoveGraph) (t : List (Option Label)) (u : ℕ) (h : Hop) : Type 0 where
  pub before : Label
  pub was : label_at t u ≡ Some before
  pub was_done : 0 < before.rank
  pub after : Label
  pub there : label_at t h.to ≡ Some after
  pub done : 0 < after.rank
  pub opens : Opens graph u h
  pub price_is : after.price ≡ before.price + h.price

abbrev pub AllTight : MoveGraph → List (Option Label) → ℕ → List Hop → Type 0
AllTight graph t u [] = Unit {0}
AllTight graph t u (h ∷ hs) = IsTightHop graph t u h × AllTight graph t h.to hs

-- and of the tight hops to its node the one of the least index
abbrev pub AllLeast : MoveGraph → List (Option Label) → ℕ → List Hop → Type 0
AllLeast graph t u [] = Unit {0}
AllLeast graph t u (h ∷ hs) =
    ((k : Hop) → IsTightHop graph t u k → k.to ≡ h.to → h.index ≤ k.index) × AllLeast graph t h.to hs

module _ (graph : MoveGraph) (starts goals : List ℕ) (low : ℕ → ℕ) (t : List (Option Label)) (most : ℕ)
    (sound : IsSound graph) (bound : IsBound graph goals low) (exact : IsExact graph starts low t most) where
  -- ---- labels stand for walks
  walk_from : (v p r : ℕ) (o : Option ℕ) → Comes graph starts t v p r o
      → ((u : ℕ) (lu : Label) → label_at t u ≡ Some lu → 0 < lu.rank → lu.rank < r → HasWalk graph starts u lu.price)
      → 0 < r → HasWalk graph starts v p
  walk_from v p r None c f d = record { from = v; starts_in = c.0; hops = []; leads = refl; price_is = c.1 }
  walk_from v p r (Some o) c f d =
      let w = f o c.label c.there c.done (c.before d) in
      let h = c.tight.hop in record {
        from = w.from;
        starts_in = w.starts_in;
        hops = w.hops ++ h ∷ [];
        leads = subst (λ (y : ℕ). Leads graph w.from (w.hops ++ h ∷ []) y) c.tight.to_is
            (leads_on graph w.hops w.from o h w.leads c.tight.opens);
        price_is = omega (arith, c.tight.price_is, w.price_is, cost_append w.hops (h ∷ []));
      }

  walk_below : (k v : ℕ) (l : Label) → label_at t v ≡ Some l → 0 < l.rank → l.rank ≤ k → HasWalk graph starts v l.price
  walk_below zero v l h d b = absurd (omega arith)
  walk_below (suc k) v l h d b = walk_from v l.price l.rank l.origin (exact.roots.comes v l h)
      (λ u lu e f g. walk_below k u lu e f (omega (arith, b, g))) d

  pub label_walk : (v : ℕ) (l : Label) → label_at t v ≡ Some l → 0 < l.rank → HasWalk graph starts v l.price
  label_walk v l h d = walk_below l.rank v l h d (omega arith)

  node_in : (v : ℕ) (l : Label) → label_at t v ≡ Some l → v < graph.count
  node_in v l h = omega (arith, within t v l h, exact.roots.size)

  low_cost : (hs : List Hop) (a g : ℕ) → a < graph.count → Leads graph a hs g → Contains goals g → low a ≤ cost hs
  low_cost [] a g r p c = omega (arith, bound.at_goals g c, ap low p)
  low_cost (h ∷ hs) a g r p c =
      omega (
        arith,
        bound.falls a h r p.0,
        low_cost hs h.to g (sound.leads a h.index h.move h.to r p.0.listed p.0.leads) p.1 c,
      )

  module _ (none_less : NoneCostsLess graph starts goals most) where
    -- ---- a walk of the least price goes over tight moves
    -- a label of at most what was paid has just that price
    price_now : (a g paid : ℕ) (la : Label) (hs : List Hop) → label_at t a ≡ Some la → 0 < la.rank → la.price ≤ paid
        → paid + cost hs ≡ most → Leads graph a hs g → Contains goals g → la.price ≡ paid
    price_now a g paid la hs there d cheap sum leads c =
        let w = label_walk a la there d in
        let least = none_less w.from (w.hops ++ hs) g w.starts_in c
        (leads_append graph w.hops hs w.from a g w.leads leads) in
        omega (arith, least, cost_append w.hops hs, w.price_is, cheap, sum)

    -- a node on it is done
    done_now : (a g paid : ℕ) (la : Label) (hs : List Hop) → label_at t a ≡ Some la → la.price ≤ paid
        → paid + cost hs ≡ most → Leads graph a hs g → Contains goals g → 0 < la.rank
    done_now a g paid la hs there cheap sum leads c = elim (zero_or_pos la.rank) [
      | inl z ↦ absurd (omega (
        arith,
        exact.waits a la there z,
        cheap,
        sum,
        low_cost hs a g (node_in a la there) leads c,
      ))
      | inr d ↦ d
    ]

    tight_on : (hs : List Hop) (a g paid : ℕ) (la : Label) → label_at t a ≡ Some la → 0 < la.rank → la.price ≡ paid
        → paid + cost hs ≡ most → Leads graph a hs g → Contains goals g → AllTight graph t a hs × IsPriced t g most
    tight_on [] a g paid la there d price sum leads c = (
      tt,
      record {
        label = la;
        there = subst (λ (x : ℕ). label_at t x ≡ Some la) leads there;
        done = d;
        price_is = omega (arith, price, sum);
      },
    )
    tight_on (h ∷ hs) a g paid la there d price sum leads c =
        let w = exact.relaxed a la h there d leads.0 in
        let cheap : w.label.price ≤ paid + h.price = omega (arith, w.cheap, price) in
        let rest : paid + h.price + cost hs ≡ most = omega (arith, sum) in
        let d2 = done_now h.to g (paid + h.price) w.label hs w.there cheap rest leads.1 c in
        let p2 = price_now h.to g (paid + h.price) w.label hs w.there d2 cheap rest leads.1 c in
        let later = tight_on hs h.to g (paid + h.price) w.label w.there d2 p2 rest leads.1 c in (
          (
            record {
              before = la;
              was = there;
              was_done = d;
              after = w.label;
              there = w.there;
              done = d2;
              opens = leads.0;
              price_is = omega (arith, p2, price);
            },
            later.0,
          ),
          later.1,
        )

    pub all_tight : (s : ℕ) (hs : List Hop) (g : ℕ) → Contains starts s → Contains goals g → Leads graph s hs g
        → cost hs ≡ most → AllTight graph t s hs × IsPriced t g most
    all_tight s hs g cs cg leads sum =
        let w = exact.seeded s cs in
        let whole : 0 + cost hs ≡ most = omega (arith, sum) in
        let d = done_now s g 0 w.label hs w.there w.cheap whole leads cg in
        tight_on hs s g 0 w.label w.there d (price_now s g 0 w.label hs w.there d w.cheap whole leads cg) whole leads cg

    -- ---- so its nodes are a path
    tight_path : (hs : List Hop) (u : ℕ) (back : List ℕ) → IsPath (Contains starts) (IsStep graph t) (u ∷ back)
        → AllTight graph t u hs → IsPath (Contains starts) (IsStep graph t) (onto_path hs (u ∷ back))
    tight_path [] u back p q = p
    tight_path (h ∷ hs) u back p q = tight_path hs h.to (u ∷ back) (
      record {
        before = q.0.before;
        was = q.0.was;
        was_done = q.0.was_done;
        after = q.0.after;
        there = q.0.there;
        done = q.0.done;
        tight = record { hop = h; opens = q.0.opens; to_is = refl; price_is = q.0.price_is };
      },
      p,
    ) q.1

    -- the last node of the path is where the hops lead
    path_end : (hs : List Hop) (u g : ℕ) (back : List ℕ) → Leads graph u hs g
        → (rest : List ℕ) × (onto_path hs (u ∷ back) ≡ g ∷ rest)
    path_end [] u g back p = (back, ap (λ (x : ℕ). x ∷ back) p)
    path_end (h ∷ hs) u g back p = path_end hs h.to g (u ∷ back) p.1

    -- where a goal is done at the price there is such a path
    pub some_path : (g : ℕ) → Contains goals g → IsPriced t g most → (back : List ℕ)
        × IsPath (Contains starts) (IsStep graph t) (g ∷ back)
    some_path g cg priced =
        let w = label_walk g priced.label priced.there priced.done in
        let tights = all_tight w.from w.hops g w.starts_in cg w.leads (omega (arith, w.price_is, priced.price_is)) in
        let end = path_end w.hops w.from g [] w.leads in (
          end.0,
          subst (IsPath (Contains starts) (IsStep graph t)) end.1 (tight_path w.hops w.from [] w.starts_in tights.0),
        )

    -- ---- the moves of the least indices
    first_indices : (u : ℕ) (hs ks : List Hop) → AllLeast graph t u hs → AllTight graph t u ks
        → map to_of hs ≡ map to_of ks → IsFirst (map index_of hs) (map index_of ks)
    first_indices u [] [] a b e = inr refl
    first_indices u [] (k ∷ ks) a b e = cc
    first_indices u (h ∷ hs) [] a b e = cc
    first_indices u (h ∷ hs) (k ∷ ks) a b e =
        let to : k.to ≡ h.to = sym (heads h.to k.to (map to_of hs) (map to_of ks) e) in
        let rest = first_indices h.to hs ks a.1 (subst (λ (x : ℕ). AllTight graph t x ks) to b.1)
        (tails h.to k.to (map to_of hs) (map to_of ks) e) in
        elim (less_or_same h.index k.index (a.0 k b.0 to)) [
          | inl lt ↦ inl (inl lt)
          | inr eq ↦ elim rest [
            | inl l ↦ inl (inr (eq, l))
            | inr l ↦ inr (λ i. eq i ∷ l i)
          ]
        ]
      where
        heads : (x y : ℕ) (xs ys : List ℕ) → x ∷ xs ≡ y ∷ ys → x ≡ y
        heads x y xs ys e = cc

        tails : (x y : ℕ) (xs ys : List ℕ) → x ∷ xs ≡ y ∷ ys → xs ≡ ys
        tails x y xs ys e = cc

        less_or_same : (x y : ℕ) → x ≤ y → (x < y) ⊎ (x ≡ y)
        less_or_same zero zero h = inr refl
        less_or_same zero (suc y) h = inl (omega arith)
        less_or_same (suc x) zero h = absurd (omega arith)
        less_or_same (suc x) (suc y) h = elim (less_or_same x y (omega arith)) [
          | inl p ↦ inl (omega (arith, p))
          | inr p ↦ inr (ap suc p)
        ]

    -- ---- all together
    nodes_of : (s : ℕ) (hs : List Hop) → reverse (onto_path hs (s ∷ [])) ≡ s ∷ map to_of hs
    nodes_of s hs = onto_nodes hs (s ∷ [])

    pub is_first : (s : ℕ) (hs : List Hop) → cost hs ≡ most → AllLeast graph t s hs
        → ((g : ℕ) (back : List ℕ) → IsPath (Contains starts) (IsStep graph t) (g ∷ back)
        → (Contains goals g × IsPriced t g most) → IsAtMost (onto_path hs (s ∷ [])) (g ∷ back))
        → (b : ℕ) (ks : List Hop) (g : ℕ) → Contains starts b → Contains goals g → Leads graph b ks g
        → IsFirst (key_of s hs) (key_of b ks)
    is_first s hs sum least paths b ks g cb cg leads =
        elim (less_or_same (cost hs) (cost ks) (omega (arith, none_less b ks g cb cg leads, sum))) [
          | inl lt ↦ inl (inl lt)
          | inr eq ↦
              let tights = all_tight b ks g cb cg leads (omega (arith, eq, sum)) in
              let end = path_end ks b g [] leads in
              let path = tight_path ks b [] cb tights.0 in
              let at_most : IsAtMost (onto_path hs (s ∷ [])) (onto_path ks (b ∷ [])) =
              subst (λ (l : List ℕ). IsAtMost (onto_path hs (s ∷ [])) l) (sym end.1)
              (paths g end.0 (subst (IsPath (Contains starts) (IsStep graph t)) end.1 path) (cg, tights.1)) in
              by_path eq tights.0 at_most
        ]
      where
        less_or_same : (x y : ℕ) → x ≤ y → (x < y) ⊎ (x ≡ y)
        less_or_same zero zero h = inr refl
        less_or_same zero (suc y) h = inl (omega arith)
        less_or_same (suc x) zero h = absurd (omega arith)
        less_or_same (suc x) (suc y) h = elim (less_or_same x y (omega arith)) [
          | inl p ↦ inl (omega (arith, p))
          | inr p ↦ inr (ap suc p)
        ]

        heads : (x y : ℕ) (xs ys : List ℕ) → x ∷ xs ≡ y ∷ ys → x ≡ y
        heads x y xs ys e = cc

        tails : (x y : ℕ) (xs ys : List ℕ) → x ∷ xs ≡ y ∷ ys → xs ≡ ys
        tails x y xs ys e = cc

        by_path : cost hs ≡ cost ks → AllTight graph t b ks
            → IsAtMost (onto_path hs (s ∷ [])) (onto_path ks (b ∷ [])) → IsFirst (key_of s hs) (key_of b ks)
        by_path eq tights m = elim m [
          | inl before ↦ elim (told (onto_path hs (s ∷ [])) (onto_path ks (b ∷ [])) before) [
            | inl shorter ↦ inl (inr (
              eq,
              inl (omega (
                arith,
                shorter,
                onto_length hs (s ∷ []),
                onto_length ks (b ∷ []),
              )),
            ))
            | inr lower ↦ inl (inr (
              eq,
              inr (
                omega (arith, lower.0, onto_length hs (s ∷ []), onto_length ks (b ∷ [])),
                lower_front (s ∷ map to_of hs) (b ∷ map to_of ks) (map index_of hs) (map index_of ks)
                    (subst (λ (l : List ℕ). IsLower l (b ∷ map to_of ks)) (nodes_of s hs)
                    (subst (λ (l : List ℕ). IsLower (reverse (onto_path hs (s ∷ []))) l) (nodes_of b ks) lower.1)),
              ),
            ))
          ]
          | inr same ↦
              let nodes : s ∷ map to_of hs ≡ b ∷ map to_of ks = sym (nodes_of s hs) ∙ ap (reverse {A = ℕ}) same
              ∙ nodes_of b ks in
              let many : length hs ≡ length ks = omega (
                arith,
                ap (length {A = ℕ}) same,
                onto_length hs (s ∷ []),
                onto_length ks (b ∷ []),
              ) in
              let first = heads s b (map to_of hs) (map to_of ks) nodes in
              elim (first_indices s hs ks least (subst (λ (x : ℕ). AllTight graph t x ks) (sym first) tights)
              (tails s b (map to_of hs) (map to_of ks) nodes)) [
                | inl l ↦ inl (inr (
                  eq,
                  inr (
                    many,
                    subst
                        (λ (ns : List ℕ). IsLower ((s ∷ map to_of hs) ++ map index_of hs) (ns ++ map index_of ks)) nodes
                        (lower_behind (s ∷ map to_of hs) (map index_of hs) (map index_of ks) l),
                  ),
                ))
                | inr l ↦ inr (λ i. eq i ∷ many i ∷ nodes i ++ l i)
              ]
        ]

-- the step by the move of an index leads where the move does, to the label there
pub step_to : (graph : MoveGraph) (t : List (Option Label)) (u v : ℕ) (s : IsStep graph t u v) (i : ℕ) (m : Move)
    (to : ℕ) → s.tight.hop.index ≡ i → graph.at u i ≡ Some (m, to) → label_at t to ≡ Some s.after
step_to graph t u v s i m to e at_is =
    let h = s.tight.hop in
    let same : h.to ≡ to =
    sym (some_pair_parts m h.move to h.to (sym at_is ∙ ((λ x. graph.at u (sym e x)) ∙ s.tight.opens.leads))).1 in
    subst (λ (x : ℕ). label_at t x ≡ Some s.after) (sym s.tight.to_is ∙ same) s.there

-- ---- lists that grow by one
pub more_has : (P : ℕ → Type 0) (old new : List ℕ) (x : ℕ) → new ≡ old ++ x ∷ [] → ((v : ℕ) → Contains old v → P v)
    → P x → (v : ℕ) → Contains new v → P v
more_has P old new x e f p v h =
    elim (Contains-push_cases old x v (subst (λ (l : List ℕ). Contains l v) e h)) [
      | inl a ↦ f v a
      | inr b ↦ subst P b p
    ]

pub has_more : (old new : List ℕ) (x : ℕ) → new ≡ old ++ x ∷ [] → (v : ℕ) → Contains old v → Contains new v
has_more old new x e v h = subst (λ (l : List ℕ). Contains l v) (sym e) (Contains-append_left old (x ∷ []) v h)

pub has_last : (old new : List ℕ) (x : ℕ) → new ≡ old ++ x ∷ [] → Contains new x
has_last old new x e = subst (λ (l : List ℕ). Contains l x) (sym e) (Contains-push old x)

-- below i + 1: below i, or i
pub below_or : (v i : ℕ) → v < i + 1 → (v < i) ⊎ (v ≡ i)
below_or v i h = elim (cases_lt v i) [ inl lt ↦ inl lt | inr ge ↦ inr (omega arith) ]

pub step_node : (graph : MoveGraph) (t : List (Option Label)) (u v : ℕ) (s : IsStep graph t u v) (i : ℕ) (m : Move)
    (to : ℕ) → s.tight.hop.index ≡ i → graph.at u i ≡ Some (m, to) → to ≡ v
step_node graph t u v s i m to e at_is =
    let h = s.tight.hop in
    (some_pair_parts m h.move to h.to (sym at_is ∙ ((λ x. graph.at u (sym e x)) ∙ s.tight.opens.leads))).1
    ∙ s.tight.to_is
