use Rattle.route_lattice.specs.Whole.{lattice_of}
use Rattle.plane_stubs.proofs.Planed.{ended_whole, none_left, planed_holds}
use Rattle.plane_stubs.proofs.Scale.{lattice_whole}
use Rattle.plane_stubs.proofs.laws.planed_designs_hold.Goals as goal

pub returns-clause-holds : goal.returns-clause-holds
returns-clause-holds c = λ d lat planes via_cost e sound plain fits are h.
    planed_holds d lat planes via_cost e sound plain fits c.own_copper_agrees.ensures h
    (c.ribs_hold.ensures d planes h.ribs sound are h.are_ribs)

pub returns-clause-left : goal.returns-clause-left
returns-clause-left c = λ d lat planes via_cost e sound plain fits are h.
    none_left d lat planes via_cost e sound plain fits c.own_copper_agrees.ensures h
    (c.ribs_hold.ensures d planes h.ribs sound are h.are_ribs)

pub returns-clause-scale : goal.returns-clause-scale
returns-clause-scale c = λ d grid planes via_cost e sound plain fits are h.
    ended_whole d (lattice_of d grid) planes via_cost e sound plain fits c.own_copper_agrees.ensures h
    (c.ribs_hold.ensures d planes h.ribs sound are h.are_ribs) (lattice_whole d grid)
