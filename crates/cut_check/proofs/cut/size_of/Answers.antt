use Rattle.std.proofs.Common.{◌≡◌, ◌<◌, ap, arith, get_or, length, refl, subst, sym, ℕ}
use Rattle.std.specs.Prelude.{All, Any}
use Rattle.std.proofs.lemmas.Option.{get_or_from_slice_get, slice_get_read}
use Rattle.pcb_islands.specs.declared.net.Island.{Island}
use Rattle.route_lattice.specs.Legal.{legal_graph}
use Rattle.route_lattice.specs.Mesh.{Mesh, node_count}
use Rattle.cut_certificate.proofs.Each.{unless}
use Rattle.cut_check.specs.inner.Marking.{AreMarked}
use Rattle.cut_check.specs.inner.Outs.{AreOuts, Escapes, HoldsLegal, IsBeside}
use Rattle.cut_check.proofs.Anchoring.{anchors_within}
use Rattle.cut_check.proofs.Sizing.{not_held, not_shut, set_none, sized_by}
use Rattle.cut_check.proofs.cut.size_of.Goals as goal

pub invariant_of-held : goal.invariant_of-held
invariant_of-held g c =
    let moves = c.moves-moves.result in
    let e = c.moves-moves.ensures in (
      e.ready,
      c.legal_graph_sound.ensures moves.d.now moves.lat.now (g.C.Copper.items moves.c.now) moves.net moves.via_cost
          e.ready.0,
      c.requires.ascend,
      subst (λ (m : Mesh). AreMarked (node_count m) c.args.marks.now c.args.nodes.now) (sym e.lat) c.requires.marked,
    )

pub moves-moves-requires-clause-net : goal.moves-moves-requires-clause-net
moves-moves-requires-clause-net g c = c.requires.nets c.args.k c.index-own-k.result c.requires.place

pub holds_legal-requires-clause-net : goal.holds_legal-requires-clause-net
holds_legal-requires-clause-net g c = c.requires.nets c.args.k c.index-own-k.result c.requires.place

pub holds_legal-requires-clause-starts : goal.holds_legal-requires-clause-starts
holds_legal-requires-clause-starts g c =
    let on = c.args.on.now in
    let own = c.args.own.now.islands.now in
    let anchors = c.args.own.now.anchors.now in
    let within : c.args.k < length anchors = omega (arith, c.requires.place, c.requires.anchored.all) in
    subst (All (λ v. v < node_count on.lat)) (sym c.as_slice.ensures)
    (subst (All (λ v. v < node_count on.lat)) (sym c.index-anchors-k.is)
    (anchors_within on.d on.lat on.items own anchors c.requires.anchored c.args.k
    c.index-anchors-k.result within))

pub holds_legal-requires-clause-same : goal.holds_legal-requires-clause-same
holds_legal-requires-clause-same g c = ap node_count c.moves-moves.ensures.lat

pub holds_no_other-requires : goal.holds_no_other-requires
holds_no_other-requires g c =
    let on = c.args.on.now in
    let own = c.args.own.now.islands.now in
    let anchors = c.args.own.now.anchors.now in record {
      anchors = subst (λ (m : Mesh). All (All (λ v. v < node_count m)) anchors)
          (sym c.moves-moves.ensures.lat)
          (anchors_within on.d on.lat on.items own anchors c.requires.anchored);
    }

pub returns-then-not-holds_legal : goal.returns-then-not-holds_legal
returns-then-not-holds_legal g c = λ island e set.
    let on = c.args.on.now in
    let own = c.args.own.now.islands.now in
    let anchors = c.args.own.now.anchors.now in
    let starts = c.index-anchors-k.result in
    let within : c.args.k < length anchors = omega (arith, c.requires.place, c.requires.anchored.all) in
    let starts_at = slice_get_read anchors (length anchors) c.args.k starts refl within
    c.index-anchors-k.is in
    let net = (get_or own c.args.k c.index-own-k.result).net in
    let same : net ≡ island.net =
    ap (λ (s : Island). s.net) (get_or_from_slice_get own c.args.k island c.index-own-k.result e) in
    unless c.holds_legal.result (All (HoldsLegal on.d on.lat on.items net c.args.nodes.now) c.as_slice.result.now)
    c.holds_legal.ensures c.if-not-holds_legal.true
    (subst (All (HoldsLegal on.d on.lat on.items net c.args.nodes.now)) (sym c.as_slice.ensures)
    (not_held on.d on.lat on.items own anchors c.args.k island e c.requires.anchored starts
    starts_at c.args.nodes.now net same set))

pub returns-then-not-holds_no_other : goal.returns-then-not-holds_no_other
returns-then-not-holds_no_other g c = λ island e set.
    let on = c.args.on.now in
    let own = c.args.own.now.islands.now in
    let anchors = c.args.own.now.anchors.now in
    let starts = c.index-anchors-k.result in
    let within : c.args.k < length anchors = omega (arith, c.requires.place, c.requires.anchored.all) in
    let starts_at = slice_get_read anchors (length anchors) c.args.k starts refl within
    c.index-anchors-k.is in
    unless c.holds_no_other.result ((j : ℕ) → IsBeside c.args.nodes.now anchors c.args.k j)
    c.holds_no_other.ensures c.if-not-holds_no_other.true
    (set_none on.d on.lat on.items own anchors c.args.k island e c.requires.anchored starts
    starts_at c.args.nodes.now set)

pub returns-in-None : goal.returns-in-None
returns-in-None g c = λ island e set.
    let on = c.args.on.now in
    let own = c.args.own.now.islands.now in
    let anchors = c.args.own.now.anchors.now in
    let starts = c.index-anchors-k.result in
    let within : c.args.k < length anchors = omega (arith, c.requires.place, c.requires.anchored.all) in
    let starts_at = slice_get_read anchors (length anchors) c.args.k starts refl within
    c.index-anchors-k.is in
    let m = c.moves-moves.ensures in
    let net = (get_or own c.args.k c.index-own-k.result).net in
    let same : net ≡ island.net =
    ap (λ (s : Island). s.net) (get_or_from_slice_get own c.args.k island c.index-own-k.result e) in
    let away : Any (Escapes (legal_graph on.d on.lat on.items net 0) c.args.nodes.now) c.args.nodes.now =
    rw (m.d, m.lat, m.items, m.net, m.via_cost) at c.in-None.ensures in
    not_shut on.d on.lat on.items own anchors c.args.k island e c.requires.anchored starts
    starts_at c.args.nodes.now net same set away

pub returns-in-Some : goal.returns-in-Some
returns-in-Some g c = λ island e.
    let on = c.args.on.now in
    let own = c.args.own.now.islands.now in
    let anchors = c.args.own.now.anchors.now in
    let starts = c.index-anchors-k.result in
    let within : c.args.k < length anchors = omega (arith, c.requires.place, c.requires.anchored.all) in
    let starts_at = slice_get_read anchors (length anchors) c.args.k starts refl within
    c.index-anchors-k.is in
    let m = c.moves-moves.ensures in
    let net = (get_or own c.args.k c.index-own-k.result).net in
    let same : net ≡ island.net =
    ap (λ (s : Island). s.net) (get_or_from_slice_get own c.args.k island c.index-own-k.result e) in
    let outs : AreOuts (legal_graph on.d on.lat on.items net 0) c.args.nodes.now c.in-Some.blocked =
    rw (m.d, m.lat, m.items, m.net, m.via_cost) at c.in-Some.ensures in
    sized_by on.d on.lat on.items own anchors c.args.k island e c.requires.anchored starts
    starts_at c.args.nodes.now net c.in-Some.blocked same c.requires.ascend c.requires.marked.there
    (subst (All (HoldsLegal on.d on.lat on.items net c.args.nodes.now)) c.as_slice.ensures
    (c.holds_legal.ensures.0 c.if-not-holds_legal.false))
    (c.holds_no_other.ensures.0 c.if-not-holds_no_other.false) outs

pub bounds-anchors-k : goal.bounds-anchors-k
bounds-anchors-k g c = omega (arith, c.requires.place, c.requires.anchored.all)
