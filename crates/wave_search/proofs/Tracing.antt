-- A walk is built from its end, or from its start.
use Rattle.std.proofs.Common.{◌≡◌, ℕ, ◌+◌, ◌<◌, List, [], ◌∷◌, ◌++◌, map, reverse, Option, Some, None, refl, sym, ap}
use Rattle.std.proofs.Common.{◌∙◌, subst, arith, is_some, false}
use Rattle.std.specs.Prelude.{Contains}
use Rattle.std.proofs.lemmas.List.{reverse-append, map-append}
use Rattle.wave_search.specs.declared.rows.Label.{Label}
use Rattle.wave_search.specs.inner.State.{label_at, IsTight, ComesBy, Comes, Roots}
use Rattle.wave_search.proofs.Steps.{one_label, leads_on}
use Rattle.wave_search.proofs.Table.{within}
use Rattle.route_lattice.specs.declared.moves.Move.{Move}
use Rattle.route_lattice.specs.declared.moves.Walk.{Walk}
use Rattle.route_lattice.specs.Walks.{MoveGraph, Hop, Opens, Leads, cost, to_of, move_of, IsWalk}

-- from `at` the hops lead to the goal; the lists have the nodes and the moves, last first
pub record Walked (graph : MoveGraph) (nodes : List ℕ) (moves : List Move) (at goal left total : ℕ) : Type 0 where
  pub hops : List Hop
  pub leads : Leads graph at hops goal
  pub nodes_are : reverse nodes ≡ at ∷ map to_of hops
  pub moves_are : reverse moves ≡ map move_of hops
  pub price_is : total ≡ left + cost hops

pub walked_on : (graph : MoveGraph) (nodes : List ℕ) (moves : List Move) (at goal left total : ℕ)
    → Walked graph nodes moves at goal left total → (from : ℕ) (h : Hop) → Opens graph from h → h.to ≡ at → (rest : ℕ)
    → left ≡ rest + h.price
    → Walked graph (nodes ++ from ∷ []) (moves ++ h.move ∷ []) from goal rest total
walked_on graph nodes moves at goal left total w from h o e rest p = record {
  hops = h ∷ w.hops;
  leads = (o, subst (λ (x : ℕ). Leads graph x w.hops goal) (sym e) w.leads);
  nodes_are = reverse-push nodes from
      ∙ ap (λ (xs : List ℕ). from ∷ xs) (w.nodes_are ∙ ap (λ (x : ℕ). x ∷ map to_of w.hops) (sym e));
  moves_are = reverse-push moves h.move ∙ ap (λ (xs : List Move). h.move ∷ xs) w.moves_are;
  price_is = omega (arith, w.price_is, p);
}
  where
    reverse-push : {A : Type 0} (xs : List A) (x : A) → reverse (xs ++ x ∷ []) ≡ x ∷ reverse xs
    reverse-push xs x = reverse-append xs (x ∷ [])

pub comes_by : (graph : MoveGraph) (starts : List ℕ) (t : List (Option Label)) (v p r : ℕ) (o : Option ℕ) (x : ℕ)
    → o ≡ Some x → Comes graph starts t v p r o → ComesBy graph t v p r x
comes_by graph starts t v p r o x e c = subst (λ (y : Option ℕ). Comes graph starts t v p r y) e c

-- the origin of a label is a node, from which a tight move leads
module _ (graph : MoveGraph) (starts : List ℕ) (t : List (Option Label)) (roots : Roots graph starts t) (v : ℕ)
    (l : Label) (there : label_at t v ≡ Some l) (x : ℕ) (e : l.origin ≡ Some x) where
  by : ComesBy graph t v l.price l.rank x
  by = comes_by graph starts t v l.price l.rank l.origin x e (roots.comes v l there)

  pub origin_in : x < graph.count
  origin_in = omega (arith, within t x by.label by.there, roots.size)

  module _ (before : Label) (was : label_at t x ≡ Some before) where
    same : by.label ≡ before
    same = one_label t x by.label before by.there was

    pub tight_from : IsTight graph x before.price v l.price
    tight_from = subst (λ (k : Label). IsTight graph x k.price v l.price) same by.tight

    pub rank_pos : 0 < before.rank
    rank_pos = subst (λ (k : Label). 0 < k.rank) same by.done

    pub rank_falls : 0 < l.rank → before.rank < l.rank
    rank_falls d = subst (λ (k : Label). k.rank < l.rank) same (by.before d)

-- a tight move before
pub trace_step : (graph : MoveGraph) (nodes : List ℕ) (moves : List Move) (v goal p total x before : ℕ)
    → Walked graph nodes moves v goal p total → (mv : Move) (tight : IsTight graph x before v p) → tight.hop.move ≡ mv
    → (nodes' : List ℕ) (moves' : List Move) → nodes' ≡ nodes ++ x ∷ [] → moves' ≡ moves ++ mv ∷ []
    → Walked graph nodes' moves' x goal before total
trace_step graph nodes moves v goal p total x before w mv tight is nodes' moves' ne me =
    let w2 = walked_on graph nodes moves v goal p total w x tight.hop tight.opens tight.to_is before
    tight.price_is in
    subst (λ (ns : List ℕ). Walked graph ns moves' x goal before total) (sym ne)
    (subst (λ (ms : List Move). Walked graph (nodes ++ x ∷ []) ms x goal before total) (sym me)
    (subst (λ (m : Move). Walked graph (nodes ++ x ∷ []) (moves ++ m ∷ []) x goal before total) is w2))

-- at a start it is a walk
pub walked_walk : (graph : MoveGraph) (starts goals : List ℕ) (t : List (Option Label)) → Roots graph starts t
    → (v : ℕ) (l : Label) → label_at t v ≡ Some l → l.origin ≡ None
    → (nodes : List ℕ) (moves : List Move) (goal total : ℕ)
    → Walked graph nodes moves v goal l.price total → Contains goals goal → (w : Walk) → w.nodes ≡ reverse nodes
    → w.moves ≡ reverse moves → w.price ≡ total → IsWalk graph starts goals w
walked_walk graph starts goals t roots v l there none nodes moves goal total walked c w ne me pe =
    let s : Contains starts v × (l.price ≡ 0) = subst (λ (o : Option ℕ). Comes graph starts t v l.price l.rank o) none
    (roots.comes v l there) in record {
      from = v;
      hops = walked.hops;
      to = goal;
      starts_in = s.0;
      ends_in = c;
      leads = walked.leads;
      nodes = ne ∙ walked.nodes_are;
      moves = me ∙ walked.moves_are;
      price = omega (arith, pe, walked.price_is, s.1);
    }

-- the hops lead from a start to `at`; the lists have the nodes and the moves, first first
pub record Passed (graph : MoveGraph) (starts : List ℕ) (nodes : List ℕ) (moves : List Move) (at paid : ℕ) : Type 0
  where
    pub from : ℕ
    pub starts_in : Contains starts from
    pub hops : List Hop
    pub leads : Leads graph from hops at
    pub nodes_are : nodes ≡ from ∷ map to_of hops
    pub moves_are : moves ≡ map move_of hops
    pub price_is : paid ≡ cost hops

cost_more : (hs : List Hop) (h : Hop) → cost (hs ++ h ∷ []) ≡ cost hs + h.price
cost_more [] h = omega arith
cost_more (k ∷ hs) h = omega (arith, cost_more hs h)

pub none_of : (o : Option ℕ) → is_some o ≡ false → o ≡ None
none_of None e = refl
none_of (Some x) e = cc

-- a start is a walk of no moves
pub begun : (graph : MoveGraph) (starts : List ℕ) (t : List (Option Label)) → Roots graph starts t → (v : ℕ) (l : Label)
    → label_at t v ≡ Some l → l.origin ≡ None → (nodes : List ℕ) (moves : List Move) → nodes ≡ v ∷ [] → moves ≡ []
    → Passed graph starts nodes moves v l.price
begun graph starts t roots v l there none nodes moves ne me =
    let c : Contains starts v × (l.price ≡ 0) = subst (λ (o : Option ℕ). Comes graph starts t v l.price l.rank o) none
    (roots.comes v l there) in record {
      from = v;
      starts_in = c.0;
      hops = [];
      leads = refl;
      nodes_are = ne;
      moves_are = me;
      price_is = c.1;
    }

-- a tight move behind
pub passed_on : (graph : MoveGraph) (starts nodes : List ℕ) (moves : List Move) (at paid to price : ℕ)
    → Passed graph starts nodes moves at paid → (mv : Move) (tight : IsTight graph at paid to price)
    → tight.hop.move ≡ mv
    → (nodes' : List ℕ) (moves' : List Move) → nodes' ≡ nodes ++ to ∷ [] → moves' ≡ moves ++ mv ∷ []
    → Passed graph starts nodes' moves' to price
passed_on graph starts nodes moves at paid to price p mv tight is nodes' moves' ne me = let h : Hop = tight.hop in
    record {
      from = p.from;
      starts_in = p.starts_in;
      hops = p.hops ++ h ∷ [];
      leads = subst (λ (x : ℕ). Leads graph p.from (p.hops ++ h ∷ []) x) tight.to_is
          (leads_on graph p.hops p.from at h p.leads tight.opens);
      nodes_are = ne ∙ (λ k. p.nodes_are k ++ (sym tight.to_is k) ∷ []) ∙ ap (λ (xs : List ℕ). p.from ∷ xs)
          (sym (map-append to_of p.hops (h ∷ [])));
      moves_are = me ∙ (λ k. p.moves_are k ++ (sym is k) ∷ []) ∙ sym (map-append move_of p.hops (h ∷ []));
      price_is = omega (arith, tight.price_is, p.price_is, cost_more p.hops h);
    }

-- at a goal it is a walk
pub passed_walk : (graph : MoveGraph) (starts goals nodes : List ℕ) (moves : List Move) (at paid : ℕ)
    → Passed graph starts nodes moves at paid → Contains goals at → (w : Walk) → w.nodes ≡ nodes → w.moves ≡ moves
    → w.price ≡ paid
    → IsWalk graph starts goals w
passed_walk graph starts goals nodes moves at paid p c w ne me pe = record {
  from = p.from;
  hops = p.hops;
  to = at;
  starts_in = p.starts_in;
  ends_in = c;
  leads = p.leads;
  nodes = ne ∙ p.nodes_are;
  moves = me ∙ p.moves_are;
  price = pe ∙ p.price_is;
}

-- so is one of the same nodes and moves at the same price
pub same_walk : (graph : MoveGraph) (starts goals : List ℕ) (v : Walk) → IsWalk graph starts goals v → (w : Walk)
    → w.nodes ≡ v.nodes → w.moves ≡ v.moves → w.price ≡ v.price → IsWalk graph starts goals w
same_walk graph starts goals v k w ne me pe = record {
  from = k.from;
  hops = k.hops;
  to = k.to;
  starts_in = k.starts_in;
  ends_in = k.ends_in;
  leads = k.leads;
  nodes = ne ∙ k.nodes;
  moves = me ∙ k.moves;
  price = pe ∙ k.price;
}
