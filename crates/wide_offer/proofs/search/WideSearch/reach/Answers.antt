use Rattle.std.proofs.Common.{◌≡◌, ℕ, List, Result, Ok, Err, sym, ◌∙◌, subst}
use Rattle.std.specs.Prelude.{IfOk}
use Rattle.std.specs.List.Sorted.{IsStrictlyIncreasing}
use Rattle.pcb_model.specs.declared.item.Item.{Item}
use Rattle.pcb_model.specs.declared.design.Design.{Design}
use Rattle.route_lattice.specs.Mesh.{Mesh}
use Rattle.route_lattice.specs.declared.moves.Reach.{Reach}
use Rattle.route_lattice.specs.Walks.{IsSound as IsGraphSound, IsReach}
use Rattle.path_wire.specs.Diagonals.{wide_graph}
use Rattle.diag_moves.specs.Slopes.{slant_graph}
use Rattle.wide_offer.proofs.search.WideSearch.reach.Goals as goal

abbrev Parts : Type 0
Parts = Design × Mesh × List Item × ℕ × ℕ

ok_so : {E : Type 0} (P Q : Reach → Type 0) → ((r : Reach) → P r → Q r) → (o : Result Reach E) → IfOk o P → IfOk o Q
ok_so P Q f (Ok r) h = f r h
ok_so P Q f (Err e) h = h

pub flood-requires-clause-sound : goal.flood-requires-clause-sound
flood-requires-clause-sound g c =
    let e = c.of.ensures in
    subst (λ (t : Parts). IsGraphSound (slant_graph t.0 t.1 t.2 t.3 t.4))
    (λ i. (sym e.d i, sym e.lat i, g.C.Copper.items (sym e.c i), sym e.net i, sym e.via_cost i))
    (c.slant_graph_sound.ensures c.args.self.now.d.now c.args.self.now.lat.now
    (g.C.Copper.items c.args.self.now.copper.now) c.args.net
    c.args.self.now.via_cost c.requires.can_move)

pub flood-requires-2-clause-sound : goal.flood-requires-2-clause-sound
flood-requires-2-clause-sound g c =
    let e = c.of.ensures in
    subst (λ (t : Parts). IsGraphSound (wide_graph t.0 t.1 t.2 t.3 t.4))
    (λ i. (sym e.d i, sym e.lat i, g.C.Copper.items (sym e.c i), sym e.net i, sym e.via_cost i))
    (c.wide_graph_sound.ensures c.args.self.now.d.now c.args.self.now.lat.now
    (g.C.Copper.items c.args.self.now.copper.now) c.args.net
    c.args.self.now.via_cost c.requires.can_move)

pub returns-then-is_same-clause-whole : goal.returns-then-is_same-clause-whole
returns-then-is_same-clause-whole g c = λ starts h.
    let e = c.of.ensures in
    let d = c.args.self.now.d.now in
    let m = c.args.self.now.lat.now in
    let items = g.C.Copper.items c.args.self.now.copper.now in
    let same : c.in_ok-first.first.nodes ≡ c.args.legal.now =
    sym c.as_slice.ensures ∙ c.is_same.ensures.0 c.if-is_same.true ∙ c.as_slice-2.ensures in
    let reach = subst
    (λ (t : Parts). IsReach (slant_graph t.0 t.1 t.2 t.3 t.4) c.args.legal.now c.in_ok-first.first.nodes)
    (λ i. (e.d i, e.lat i, g.C.Copper.items (e.c i), e.net i, e.via_cost i)) c.in_ok-first.ensures in
    subst (λ (ns : List ℕ). IsReach (wide_graph d m items c.args.net c.args.self.now.via_cost) starts ns) (sym same)
    (c.reach_is_whole.ensures d m items c.args.net c.args.self.now.via_cost starts c.args.legal.now h
    (subst (λ (ns : List ℕ). IsReach (slant_graph d m items c.args.net c.args.self.now.via_cost) c.args.legal.now ns)
    same
    reach))

pub returns-clause-whole : goal.returns-clause-whole
returns-clause-whole g c =
    let e = c.of.ensures in
    let d = c.args.self.now.d.now in
    let m = c.args.self.now.lat.now in
    let items = g.C.Copper.items c.args.self.now.copper.now in
    ok_so (λ (r : Reach). IsReach (wide_graph c.of.result.legal.d.now c.of.result.legal.lat.now
    (g.C.Copper.items c.of.result.legal.c.now) c.of.result.legal.net c.of.result.legal.via_cost)
    c.args.legal.now r.nodes) _
    (λ r h starts legal. c.reach_goes_on.ensures d m items c.args.net c.args.self.now.via_cost starts c.args.legal.now
    r.nodes
    legal (subst (λ (t : Parts). IsReach (wide_graph t.0 t.1 t.2 t.3 t.4) c.args.legal.now r.nodes)
    (λ i. (e.d i, e.lat i, g.C.Copper.items (e.c i), e.net i, e.via_cost i)) h))
    c.flood-2.result c.flood-2.ensures

pub returns-then-is_same-clause-ascends : goal.returns-then-is_same-clause-ascends
returns-then-is_same-clause-ascends g c = c.in_ok-first.ensures.ascends

pub returns-clause-ascends : goal.returns-clause-ascends
returns-clause-ascends g c =
    ok_so (λ (r : Reach). IsReach (wide_graph c.of.result.legal.d.now c.of.result.legal.lat.now
    (g.C.Copper.items c.of.result.legal.c.now) c.of.result.legal.net c.of.result.legal.via_cost)
    c.args.legal.now r.nodes) (λ r. IsStrictlyIncreasing r.nodes) (λ r h. h.ascends) c.flood-2.result
    c.flood-2.ensures
