-- Walks that end at a node with a legal via that touches a rib.
use Rattle.std.proofs.Common.{◌≡◌, ℕ, zero, suc, ◌<◌, ◌≤◌, ◌+◌, ◌-◌, arith, refl, sym, ap, ◌∙◌, subst, List, [], ◌∷◌}
use Rattle.std.proofs.Common.{◌++◌}
use Rattle.std.proofs.Common.{length, map, All, Contains, Option, Some, None, Bool, true, false}
use Rattle.std.specs.Prelude.{MatchOption, nat_lt}
use Rattle.std.proofs.lemmas.Bool.{ltb-false, ltb-true}
use Rattle.std.specs.Option.{option_map}
use Rattle.std.proofs.lemmas.List.{length-map}
use Rattle.std.proofs.lemmas.List.Elements.{All-contains, Contains-get_or}
use Rattle.pcb_islands.specs.declared.net.Island.{Island}
use Rattle.route_lattice.specs.declared.moves.Move.{Move}
use Rattle.route_lattice.specs.declared.moves.Walk.{Walk}
use Rattle.route_lattice.specs.Legal.{IsOpen, probe_of}
use Rattle.route_lattice.specs.Mesh.{node_count}
use Rattle.route_lattice.specs.Walks.{Hop, IsLeastWalk, IsSound, Leads, NoneLeads, move_of, to_of}
use Rattle.route_lattice.specs.Ways.{way}
use Rattle.cut_certificate.specs.Cuts.{AreStarts}
use Rattle.plane_joins.specs.Stubs.{HasNoStub, IsLeastStub, RibGround, moves_on}
use Rattle.plane_joins.specs.inner.Graph.{CanEnd, EndsBy, IsEnd, stub_graph}
use Rattle.plane_stubs.specs.inner.Landings.{EndsAtLanding, LandsAs, LandsLeast}
use Rattle.plane_joins.proofs.Landing.{at_end, end_node, ends_legal, no_stub, stub_walk}

-- a move that is a legal via leads to a node
pub end_at : (g : RibGround) (net node i : ℕ) → EndsBy g net node i → (o : Option (Move × ℕ))
    → o ≡ way g.d g.lat net node i → MatchOption o (CanEnd g net node → ⊥) (λ w. IsEnd g net node w.0 w.1)
end_at g net node i h o e =
    by o e (subst (λ (x : Option (Move × ℕ)).
    IsOpen g.d g.items net (option_map (λ (w : Move × ℕ). probe_of g.d g.lat net node w.0 w.1) x)) (sym e) h.legal)
  where
    by : (x : Option (Move × ℕ)) → x ≡ way g.d g.lat net node i
        → IsOpen g.d g.items net (option_map (λ (w : Move × ℕ). probe_of g.d g.lat net node w.0 w.1) x)
        → MatchOption x (CanEnd g net node → ⊥) (λ w. IsEnd g net node w.0 w.1)
    by None f legal = absurd legal
    by (Some w) f legal = record { index = i; ends = h; leads = sym f }

-- none of the moves before the end of the list is one
pub no_end : (g : RibGround) (net node n : ℕ) → ((j : ℕ) → j < n → EndsBy g net node j → ⊥)
    → ((h : CanEnd g net node) → h.index < n) → CanEnd g net node → ⊥
no_end g net node n none below h = none h.index (below h) h.ends

pub none_next : (P : ℕ → Type 0) (n : ℕ) → ((j : ℕ) → j < n → P j → ⊥) → (P n → ⊥) → (j : ℕ) → j < n + 1 → P j → ⊥
none_next P n none last j less p = by (nat_lt j n) refl
  where
    by : (b : Bool) → nat_lt j n ≡ b → ⊥
    by true e = none j (ltb-true j n e) p
    by false e = let past = ltb-false j n e in last (subst P (omega (arith, past, less)) p)

-- what is taken off a list that isn't empty
pub taken_off : {X : Type 0} (o : Option X) (old new : List X)
    → MatchOption o ((old ≡ []) × (new ≡ [])) (λ x. old ≡ new ++ x ∷ []) → 1 ≤ length old
    → (x : X) × (old ≡ new ++ x ∷ [])
taken_off None old new h some = let none = ap (λ xs. length xs) h.0 in absurd (omega (arith, none, some))
taken_off (Some x) old new h some = (x, h)

pub only_one : (x y : ℕ) → Contains (x ∷ []) y → y ≡ x
only_one x y (zero, within, is) = sym is
only_one x y (suc k, within, is) = absurd (omega (arith, within))

-- a least walk to the last node is such a walk
pub ends_landing : (g : RibGround) (net : ℕ) (starts : List ℕ) (w : Walk) → IsSound (moves_on g net)
    → All (λ v. v < node_count g.lat) starts → IsLeastWalk (stub_graph g net) starts (node_count g.lat ∷ []) w
    → EndsAtLanding g net w
ends_landing g net starts w sound below h =
    let to_end : h.walk.to ≡ node_count g.lat = only_one (node_count g.lat) h.walk.to h.walk.ends_in in
    let there = All-contains (λ v. v < node_count g.lat) starts h.walk.from below h.walk.starts_in in
    let leads = subst (Leads (stub_graph g net) h.walk.from h.walk.hops) to_end h.walk.leads in
    let legal = ends_legal g net sound h.walk.from h.walk.hops there leads in
    let hops = legal.some in
    let moves : length w.moves ≡ length h.walk.hops =
    ap (λ (ms : List Move). length ms) h.walk.moves ∙ length-map h.walk.hops move_of in
    let nodes : length w.nodes ≡ suc (length h.walk.hops) =
    ap (λ (vs : List ℕ). length vs) h.walk.nodes ∙ ap suc (length-map h.walk.hops to_of) in
    record {
      node = end_node h.walk.from h.walk.hops;
      at_end = at_end w h.walk.from h.walk.hops h.walk.nodes h.walk.moves legal.some;
      some = omega (arith, moves, hops);
      more = omega (arith, moves, nodes);
      there = legal.there;
      can = legal.can;
    }

-- ---- of an island
pub starts_below : (g : RibGround) (s : Island) (starts : List ℕ) → AreStarts g.d g.lat g.items s starts
    → All (λ v. v < node_count g.lat) starts
starts_below g s starts are = λ k e within. ((are.exact _).0 (Contains-get_or starts k e within)).there

pub told_stub : (g : RibGround) (s : Island) (starts : List ℕ) → AreStarts g.d g.lat g.items s starts
    → IsSound (moves_on g s.net) → (o : Option Walk)
    → MatchOption o (NoneLeads (stub_graph g s.net) starts (node_count g.lat ∷ [])) (LandsLeast g s.net starts)
    → MatchOption o (HasNoStub g s) (IsLeastStub g s)
told_stub g s starts are sound None h = no_stub g s starts are sound h
told_stub g s starts are sound (Some v) h =
    let l = h.lands in
    stub_walk g s starts are sound h.walk v h.least (record {
      node = l.node;
      mv = l.mv;
      to = l.to;
      at_end = l.at_end;
      ends = l.ends;
      front = l.front;
      end = l.end;
      nodes_were = l.nodes_were;
      nodes_are = l.nodes_are;
      before = l.before;
      last = l.last;
      moves_were = l.moves_were;
      moves_are = l.moves_are;
      price = l.price;
    })
