-- The walk that a pass ends is laid from its end, and is the stated one.
use Rattle.std.proofs.Common.{◌≡◌, ℕ, zero, suc, ◌+◌, ◌<◌, ◌^◌, List, [], ◌∷◌, ◌++◌, map, length, reverse, get_or}
use Rattle.std.proofs.Common.{Option}
use Rattle.std.proofs.Common.{Some}
use Rattle.std.proofs.Common.{refl, sym, ap, ◌∙◌, subst, inl, inr, ◌⊎◌, arith}
use Rattle.std.specs.Prelude.{Contains, slice_get}
use Rattle.std.proofs.lemmas.List.{reverse-append}
use Rattle.std.proofs.lemmas.Option.{get_or_from_slice_get, slice_get_within}
use Rattle.std.proofs.lemmas.List.{length-map}
use Rattle.route_lattice.specs.declared.moves.Move.{Move}
use Rattle.route_lattice.specs.declared.moves.Walk.{Walk}
use Rattle.route_lattice.specs.Walks.{MoveGraph, Hop, Leads, cost, to_of, move_of, IsSound, NoneCostsLess}
use Rattle.wave_search.specs.declared.rows.Label.{Label}
use Rattle.wave_search.specs.declared.stated.Pass.{Pass}
use Rattle.wave_search.specs.declared.stated.TheConstants.{NO_PLACE}
use Rattle.wave_search.specs.Bounds.{IsBound}
use Rattle.wave_search.specs.inner.State.{label_at, IsExact, IsStep}
use Rattle.wave_search.specs.inner.Spreads.{IsPath, IsAtMost}
use Rattle.wave_search.specs.Stated.{IsStated}
use Rattle.wave_search.specs.inner.Passing.{first_of, EndsAt}
use Rattle.wave_search.specs.inner.State.{IsLeastTight}
use Rattle.wave_search.proofs.Steps.{one_label}
use Rattle.wave_search.proofs.Stating.{AllLeast, onto_path, is_first}

mapped_at : (paths : List (List ℕ)) (k : ℕ) (path : List ℕ) → slice_get paths k ≡ Some path
    → get_or (map first_of paths) k 0 ≡ first_of path
mapped_at [] k path h = cc
mapped_at (x ∷ paths) zero path h = ap first_of (same_some x path h)
  where
    same_some : (x y : List ℕ) → Some x ≡ Some y → x ≡ y
    same_some x y h = cc
mapped_at (x ∷ paths) (suc k) path h = mapped_at paths k path h

-- ---- the walk is laid from its end
-- from the node at a place the hops lead on to the goal, each the one of the least index; the lists have the nodes and
-- the moves, last first
pub record IsLaying (graph : MoveGraph) (starts goals : List ℕ) (t : List (Option Label)) (most : ℕ) (p : Pass)
    (place at node : ℕ) (nodes : List ℕ) (moves : List Move) : Type 0 where
  pub ends : EndsAt graph starts goals t most p place
  pub rest : List ℕ
  pub here : slice_get ends.paths at ≡ Some (node ∷ rest)
  pub leads : IsPath (Contains starts) (IsStep graph t) (node ∷ rest)
  pub hops : List Hop
  pub walk : Leads graph node hops ends.goal
  pub nodes_are : reverse nodes ≡ node ∷ map to_of hops
  pub moves_are : reverse moves ≡ map move_of hops
  pub least : AllLeast graph t node hops
  pub path_is : ends.goal ∷ ends.back ≡ onto_path hops (node ∷ rest)
  pub paid : (l : Label) → label_at t node ≡ Some l → l.price + cost hops ≡ most

module _ (graph : MoveGraph) (starts goals : List ℕ) (t : List (Option Label)) (most : ℕ) (p : Pass) (place : ℕ) where
  pub laying_begins : (e : EndsAt graph starts goals t most p place) (node : ℕ) → node ≡ get_or p.nodes.items place 0
      → (nodes : List ℕ) (moves : List Move) → nodes ≡ node ∷ [] → moves ≡ []
      → IsLaying graph starts goals t most p place place node nodes moves
  laying_begins e node node_is nodes moves ne me =
      let same : node ≡ e.goal = node_is ∙ ap (λ (l : List ℕ). get_or l place 0) e.told.nodes_are
      ∙ mapped_at e.paths place (e.goal ∷ e.back) e.there in
      subst (λ (x : ℕ). IsLaying graph starts goals t most p place place x nodes moves) (sym same) (record {
        ends = e;
        rest = e.back;
        here = e.there;
        leads = e.leads;
        hops = [];
        walk = refl;
        nodes_are = ap (reverse {A = ℕ}) ne ∙ ap (λ (x : ℕ). x ∷ []) same;
        moves_are = ap (reverse {A = Move}) me;
        least = tt;
        path_is = refl;
        paid = λ l there. omega (
          arith,
          e.is_goal.1.price_is,
          ap (λ (x : Label). x.price) (one_label t e.goal l e.is_goal.1.label there e.is_goal.1.there),
        );
      })

  -- behind the node stands none, or the node at the place that is listed for it
  pub record IsBeyond (at node from j : ℕ) (e : EndsAt graph starts goals t most p place) (rest : List ℕ) : Type 0 where
    pub later : List ℕ
    pub below : j < at
    pub there : slice_get e.paths j ≡ Some (from ∷ later)
    pub rest_is : rest ≡ from ∷ later
    pub step : IsStep graph t from node
    pub leads : IsPath (Contains starts) (IsStep graph t) (from ∷ later)

  link_of : (e : EndsAt graph starts goals t most p place) (at node : ℕ) (rest : List ℕ)
      → slice_get e.paths at ≡ Some (node ∷ rest) → (j : ℕ) → j ≡ get_or p.before.items at 0
      → ((j ≡ NO_PLACE) × (rest ≡ [])) ⊎ ((j < at) × (slice_get e.paths j ≡ Some rest))
  link_of e at node rest here j j_is =
      let b = e.told.behind at node rest here in
      let same : b.0 ≡ j = sym (get_or_from_slice_get p.before.items at b.0 0 b.1) ∙ sym j_is in
      subst (λ (x : ℕ). ((x ≡ NO_PLACE) × (rest ≡ [])) ⊎ ((x < at) × (slice_get e.paths x ≡ Some rest))) same b.2

  -- the places are within the lists
  pub place_in : {at node : ℕ} {nodes : List ℕ} {moves : List Move}
      (l : IsLaying graph starts goals t most p place at node nodes moves) → at < length p.nodes.items
  place_in {at} {node} l = omega (
    arith,
    slice_get_within l.ends.paths at (node ∷ l.rest) l.here,
    ap (length {A = ℕ}) l.ends.told.nodes_are,
    length-map l.ends.paths first_of,
  )

  pub place_listed : {at node : ℕ} {nodes : List ℕ} {moves : List Move}
      (l : IsLaying graph starts goals t most p place at node nodes moves) → at < length p.before.items
  place_listed {at} {node} l =
      omega (arith, slice_get_within l.ends.paths at (node ∷ l.rest) l.here, l.ends.told.many)

  pub place_before : {at node : ℕ} {nodes : List ℕ} {moves : List Move}
      (l : IsLaying graph starts goals t most p place at node nodes moves) (j : ℕ) → j ≡ get_or p.before.items at 0
      → (j ≡ NO_PLACE → ⊥) → j < at
  place_before {at} {node} l j j_is real = elim (link_of l.ends at node l.rest l.here j j_is) [
    | inl q ↦ absurd (real q.0)
    | inr q ↦ q.0
  ]

  pub beyond : {at node : ℕ} {nodes : List ℕ} {moves : List Move}
      (l : IsLaying graph starts goals t most p place at node nodes moves) (j : ℕ) → j ≡ get_or p.before.items at 0
      → (j ≡ NO_PLACE → ⊥) → (from : ℕ) → from ≡ get_or p.nodes.items j 0 → IsBeyond at node from j l.ends l.rest
  beyond {at} {node} l j j_is real from from_is = elim (link_of l.ends at node l.rest l.here j j_is) [
    | inl q ↦ absurd (real q.0)
    | inr q ↦ by l.rest q.0 q.1 l.leads
  ]
    where
      from_at : (path : List ℕ) → slice_get l.ends.paths j ≡ Some path → from ≡ first_of path
      from_at path h = from_is ∙ ap (λ (x : List ℕ). get_or x j 0) l.ends.told.nodes_are
          ∙ mapped_at l.ends.paths j path h

      by : (rest : List ℕ) → j < at → slice_get l.ends.paths j ≡ Some rest
          → IsPath (Contains starts) (IsStep graph t) (node ∷ rest) → IsBeyond at node from j l.ends rest
      by [] below there leads = absurd (l.ends.told.some j there)
      by (u ∷ later) below there leads =
          let same : from ≡ u = from_at (u ∷ later) there in record {
            later = later;
            below = below;
            there = there ∙ ap (λ (x : ℕ). Some (x ∷ later)) (sym same);
            rest_is = ap (λ (x : ℕ). x ∷ later) (sym same);
            step = subst (λ (x : ℕ). IsStep graph t x node) (sym same) leads.0;
            leads = subst (λ (x : ℕ). IsPath (Contains starts) (IsStep graph t) (x ∷ later)) (sym same) leads.1;
          }

  pub laying_next : {at node : ℕ} {nodes : List ℕ} {moves : List Move}
      (l : IsLaying graph starts goals t most p place at node nodes moves) (j from : ℕ)
      → IsBeyond at node from j l.ends l.rest → (before after : Label) → label_at t from ≡ Some before
      → label_at t node ≡ Some after → (mv : Move) → IsLeastTight graph from before.price node after.price mv
      → (nodes' : List ℕ) (moves' : List Move) → nodes' ≡ nodes ++ from ∷ [] → moves' ≡ moves ++ mv ∷ []
      → IsLaying graph starts goals t most p place j from nodes' moves'
  laying_next {at} {node} {nodes} {moves} l j from b before after was there mv tight nodes' moves' ne me =
      let h : Hop = tight.tight.hop in
      let to : h.to ≡ node = tight.tight.to_is in record {
        ends = l.ends;
        rest = b.later;
        here = b.there;
        leads = b.leads;
        hops = h ∷ l.hops;
        walk = (tight.tight.opens, subst (λ (x : ℕ). Leads graph x l.hops l.ends.goal) (sym to) l.walk);
        nodes_are = ap (reverse {A = ℕ}) ne ∙ reverse-append nodes (from ∷ [])
            ∙ ap (λ (x : List ℕ). from ∷ x) (l.nodes_are ∙ ap (λ (x : ℕ). x ∷ map to_of l.hops) (sym to));
        moves_are = ap (reverse {A = Move}) me ∙ reverse-append moves (mv ∷ [])
            ∙ (λ i. sym tight.move_is i ∷ l.moves_are i);
        least = (
          λ k hop e. tight.least (record {
            hop = k;
            opens = hop.opens;
            to_is = e ∙ to;
            price_is = omega (
              arith,
              hop.price_is,
              ap (λ (x : Label). x.price) (one_label t from hop.before before hop.was was),
              ap (λ (x : Label). x.price) (one_label t node hop.after after
                  (subst (λ (x : ℕ). label_at t x ≡ Some hop.after) (e ∙ to) hop.there) there),
            );
          }),
          subst (λ (x : ℕ). AllLeast graph t x l.hops) (sym to) l.least,
        );
        path_is = l.path_is ∙ (λ i. onto_path l.hops (sym to i ∷ b.rest_is i));
        paid = λ k at_is. omega (
          arith,
          l.paid after there,
          tight.tight.price_is,
          ap (λ (x : Label). x.price) (one_label t from k before at_is was),
        );
      }

  pub laying_ends : {at node : ℕ} {nodes : List ℕ} {moves : List Move}
      (l : IsLaying graph starts goals t most p place at node nodes moves) → at < 2 ^ 32 → (j : ℕ)
      → j ≡ get_or p.before.items at 0 → j ≡ NO_PLACE → (low : ℕ → ℕ) → IsSound graph → IsBound graph goals low
      → IsExact graph starts low t most → NoneCostsLess graph starts goals most → most < 2 ^ 60 → (w : Walk)
      → w.nodes ≡ reverse nodes → w.moves ≡ reverse moves → w.price ≡ most → IsStated graph starts goals w
  laying_ends {at} {node} {nodes} {moves} l small j j_is none low sound bound exact none_less short w ne me pe =
      let rest_is : l.rest ≡ [] = elim (link_of l.ends at node l.rest l.here j j_is) [
        | inl q ↦ q.1
        | inr q ↦ absurd (omega (arith, q.0, none, small))
      ] in
      let start : Contains starts node = subst (λ (x : List ℕ). IsPath (Contains starts) (IsStep graph t) (node ∷ x))
      rest_is l.leads in
      let cheap = exact.seeded node start in
      let sum : cost l.hops ≡ most = omega (arith, l.paid cheap.label cheap.there, cheap.cheap) in
      let path_is : l.ends.goal ∷ l.ends.back ≡ onto_path l.hops (node ∷ []) = l.path_is
      ∙ ap (λ (x : List ℕ). onto_path l.hops (node ∷ x)) rest_is in
      record {
        walk = record {
          from = node;
          hops = l.hops;
          to = l.ends.goal;
          starts_in = start;
          ends_in = l.ends.is_goal.0;
          leads = l.walk;
          nodes = ne ∙ l.nodes_are;
          moves = me ∙ l.moves_are;
          price = pe ∙ sym sum;
        };
        first = is_first graph starts goals low t most sound bound exact none_less node l.hops sum l.least
            (λ g back leads is. subst (λ (x : List ℕ). IsAtMost x (g ∷ back)) path_is (l.ends.first g back leads is));
        small = omega (arith, pe, short);
      }
