-- There is one stated walk, and it is a least one.
use Rattle.std.proofs.Common.{◌≡◌, ℕ, ◌≤◌, List, [], ◌∷◌, ◌++◌, length, map, refl, sym, ◌∙◌, subst}
use Rattle.std.proofs.Common.{inl, inr, arith}
use Rattle.std.proofs.lemmas.List.{length-map}
use Rattle.std.proofs.lemmas.Option.{some_pair_parts}
use Rattle.route_lattice.specs.Walks.{MoveGraph, Hop, Leads, cost, to_of, move_of}
use Rattle.wave_search.specs.Stated.{IsLower, IsFirst, index_of, key_of, AreLeastStated, AreOneStated}

-- of two lists at most one comes first
not_both : (xs ys : List ℕ) → IsLower xs ys → IsLower ys xs → ⊥
not_both [] ys p q = absurd p
not_both (x ∷ xs) [] p q = absurd p
not_both (x ∷ xs) (y ∷ ys) p q = elim p [
  | inl s ↦ elim q [ inl t ↦ omega (arith, s, t) | inr t ↦ omega (arith, s, t.0) ]
  | inr s ↦ elim q [ inl t ↦ omega (arith, s.0, t) | inr t ↦ not_both xs ys s.1 t.1 ]
]

both_first : (xs ys : List ℕ) → IsFirst xs ys → IsFirst ys xs → xs ≡ ys
both_first xs ys p q = elim p [
  | inl s ↦ elim q [
    | inl t ↦ absurd (not_both xs ys s t)
    | inr t ↦ sym t
  ]
  | inr s ↦ s
]

heads : (x y : ℕ) (xs ys : List ℕ) → x ∷ xs ≡ y ∷ ys → x ≡ y
heads x y xs ys e = cc

tails : (x y : ℕ) (xs ys : List ℕ) → x ∷ xs ≡ y ∷ ys → xs ≡ ys
tails x y xs ys e = cc

-- equal lists one after the other, of which the first are as long
split : (xs us ys vs : List ℕ) → length xs ≡ length us → xs ++ ys ≡ us ++ vs → (xs ≡ us) × (ys ≡ vs)
split [] [] ys vs n e = (refl, e)
split [] (u ∷ us) ys vs n e = absurd (omega (arith, n))
split (x ∷ xs) [] ys vs n e = absurd (omega (arith, n))
split (x ∷ xs) (u ∷ us) ys vs n e =
    let r = split xs us ys vs (omega (arith, n)) (tails x u (xs ++ ys) (us ++ vs) e) in
    let h = heads x u (xs ++ ys) (us ++ vs) e in
    ((λ i. h i ∷ r.0 i), r.1)

-- nodes and indices tell the moves
one_move : (graph : MoveGraph) (hs ks : List Hop) (a b c : ℕ) → Leads graph a hs b → Leads graph a ks c
    → map to_of hs ≡ map to_of ks → map index_of hs ≡ map index_of ks → map move_of hs ≡ map move_of ks
one_move graph [] [] a b c p q e f = refl
one_move graph [] (k ∷ ks) a b c p q e f = cc
one_move graph (h ∷ hs) [] a b c p q e f = cc
one_move graph (h ∷ hs) (k ∷ ks) a b c p q e f =
    let to = heads h.to k.to (map to_of hs) (map to_of ks) e in
    let index = heads h.index k.index (map index_of hs) (map index_of ks) f in
    let move : h.move ≡ k.move =
    (some_pair_parts h.move k.move h.to k.to (sym p.0.leads ∙ ((λ i. graph.at a (index i)) ∙ q.0.leads))).0 in
    let rest = one_move graph hs ks k.to b c (subst (λ (x : ℕ). Leads graph x hs b) to p.1) q.1
    (tails h.to k.to (map to_of hs) (map to_of ks) e)
    (tails h.index k.index (map index_of hs) (map index_of ks) f) in
    λ i. move i ∷ rest i

cost_most : (a b : ℕ) (xs ys : List ℕ) → IsFirst (a ∷ xs) (b ∷ ys) → a ≤ b
cost_most a b xs ys p = elim p [
  | inl s ↦ elim s [ inl t ↦ omega (arith, t) | inr t ↦ omega (arith, t.0) ]
  | inr s ↦ omega (arith, heads a b xs ys s)
]

pub are_least : (graph : MoveGraph) → AreLeastStated graph
are_least graph starts goals w s = record {
  walk = s.walk;
  least = λ b ks g cb cg leads. omega (
    arith,
    s.walk.price,
    cost_most (cost s.walk.hops) (cost ks) _ _ (s.first b ks g cb cg leads),
  );
  small = s.small;
}

pub are_one : (graph : MoveGraph) → AreOneStated graph
are_one graph starts goals ss gs v w same_starts same_goals p q =
    let a = p.walk in
    let b = q.walk in
    let keys : key_of a.from a.hops ≡ key_of b.from b.hops = both_first (key_of a.from a.hops) (key_of b.from b.hops)
    (p.first b.from b.hops b.to ((same_starts b.from).1 b.starts_in) ((same_goals b.to).1 b.ends_in) b.leads)
    (q.first a.from a.hops a.to ((same_starts a.from).0 a.starts_in) ((same_goals a.to).0 a.ends_in) a.leads) in
    let cost_is = heads (cost a.hops) (cost b.hops) _ _ keys in
    let rest = tails (cost a.hops) (cost b.hops) _ _ keys in
    let many = heads (length a.hops) (length b.hops) _ _ rest in
    let lists = split (a.from ∷ map to_of a.hops) (b.from ∷ map to_of b.hops) (map index_of a.hops)
    (map index_of b.hops) (omega (arith, many, length-map a.hops to_of, length-map b.hops to_of))
    (tails (length a.hops) (length b.hops) _ _ rest) in
    let from = heads a.from b.from (map to_of a.hops) (map to_of b.hops) lists.0 in
    let moves : map move_of a.hops ≡ map move_of b.hops =
    one_move graph a.hops b.hops b.from a.to b.to (subst (λ (x : ℕ). Leads graph x a.hops a.to) from a.leads) b.leads
    (tails a.from b.from (map to_of a.hops) (map to_of b.hops) lists.0) lists.1 in
    let ne : v.nodes ≡ w.nodes = a.nodes ∙ lists.0 ∙ sym b.nodes in
    let me : v.moves ≡ w.moves = a.moves ∙ moves ∙ sym b.moves in
    let pe : v.price ≡ w.price = a.price ∙ cost_is ∙ sym b.price in
    λ i. record { nodes = ne i; moves = me i; price = pe i }
