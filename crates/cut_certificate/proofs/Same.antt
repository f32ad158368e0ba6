-- What is reached over the same moves is the same.
use Rattle.std.proofs.Common.{ℕ, ◌<◌, ◌≤◌, ◌^◌, ◌+◌, List, [], ◌∷◌, sym, refl, ◌∙◌, subst, All}
use Rattle.route_lattice.specs.Walks.{MoveGraph, IsSound, Hop, Opens, Leads, Reaches, IsReach}
use Rattle.cut_certificate.specs.Same.{SameMoves}

-- moves are the same as themselves
pub same_self : (a : MoveGraph) → SameMoves a a
same_self a = record {
  count = refl;
  arity = refl;
  leads = λ node i. refl;
  opens = λ node i. (λ h. h, λ h. h);
  costs = λ node i price. (λ h. h, λ h. h);
}

-- and the other way round
pub flipped : (a b : MoveGraph) → SameMoves a b → SameMoves b a
flipped a b s = record {
  count = sym s.count;
  arity = sym s.arity;
  leads = λ node i. sym (s.leads node i);
  opens = λ node i. ((s.opens node i).1, (s.opens node i).0);
  costs = λ node i price. ((s.costs node i price).1, (s.costs node i price).0);
}

module _ (a b : MoveGraph) (s : SameMoves a b) where
  -- an open move
  pub opens_same : (v : ℕ) (h : Hop) → Opens a v h → Opens b v h
  opens_same v h o = record {
    listed = subst (λ n. h.index < n) s.arity o.listed;
    leads = sym (s.leads v h.index) ∙ o.leads;
    is_open = (s.opens v h.index).0 o.is_open;
    costs = (s.costs v h.index h.price).0 o.costs;
  }

  -- a chain of them
  pub leads_same : (hs : List Hop) (v w : ℕ) → Leads a v hs w → Leads b v hs w
  leads_same [] v w e = e
  leads_same (h ∷ hs) v w p = (opens_same v h p.0, leads_same hs h.to w p.1)

  -- what is reached
  reaches_same : (starts : List ℕ) (node : ℕ) → Reaches a starts node → Reaches b starts node
  reaches_same starts node r = (r.0, r.1, r.2, leads_same r.1 r.0 node r.3)

module _ (a b : MoveGraph) (s : SameMoves a b) where
  -- all that is reached
  pub reach_same : (starts nodes : List ℕ) → IsReach a starts nodes → IsReach b starts nodes
  reach_same starts nodes r = record {
    ascends = r.ascends;
    reached = λ node h. reaches_same a b s starts node (r.reached node h);
    complete = λ node h. r.complete node (reaches_same b a (flipped a b s) starts node h);
  }

  -- starts that are nodes
  pub starts_same : (starts : List ℕ) → All (λ v. v < a.count) starts → All (λ v. v < b.count) starts
  starts_same starts h = subst (λ n. All (λ v. v < n) starts) s.count h

  -- what a flood and a search ask of the moves
  pub sound_same : IsSound a → IsSound b
  sound_same h = record {
    nodes = subst (λ n. n ≤ 2 ^ 24 + 1) s.count h.nodes;
    leads = λ node i m to x y e.
        subst (λ n. to < n) s.count (h.leads node i m to (node_in node x) (index_in i y) (s.leads node i ∙ e));
    small_price = λ node i p x y e. h.small_price node i p (node_in node x) (index_in i y) ((s.costs node i p).1 e);
    one_price = λ node i p q x y e f.
        h.one_price node i p q (node_in node x) (index_in i y) ((s.costs node i p).1 e) ((s.costs node i q).1 f);
  }
    where
      node_in : (node : ℕ) → node < b.count → node < a.count
      node_in node x = subst (λ n. node < n) (sym s.count) x

      index_in : (i : ℕ) → i < b.arity → i < a.arity
      index_in i y = subst (λ n. i < n) (sym s.arity) y
