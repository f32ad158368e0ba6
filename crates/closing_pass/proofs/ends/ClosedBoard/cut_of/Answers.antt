use Rattle.std.proofs.Common.{ℕ, ◌<◌, length, sym, subst}
use Rattle.pcb_model.specs.declared.design.Design.{Design}
use Rattle.pcb_board.specs.Boards.{SnapOf}
use Rattle.route_lattice.specs.Mesh.{Mesh}
use Rattle.route_lattice.specs.Legal.{legal_graph}
use Rattle.cut_certificate.specs.Same.{SameMoves}
use Rattle.cut_certificate.proofs.Same.{same_self}
use Rattle.closing_pass.specs.inner.ClosedBoard.{ClosedBoardOf}
use Rattle.closing_pass.proofs.ends.ClosedBoard.cut_of.Goals as goal

pub make_cut_with-cut-requires-clause-ready : goal.make_cut_with-cut-requires-clause-ready
make_cut_with-cut-requires-clause-ready c =
    let e = c.in-Ok-Some.ensures in
    let is = c.in-Ok-Some.field-0-is in
    let can = c.self.invariant.0 in
    let there = subst (λ (y : ClosedBoardOf). c.args.island.now.net < length y.d.nets) (sym c.self.view_is)
    c.requires.net_there in
    rw (rw is at e.d, rw is at e.lat, rw is at e.c, rw is at e.net, rw is at e.via_cost) (
      (
        record {
          sound = can.sound;
          fits = can.fits;
          net_there = there;
          small_cost = can.small_cost;
        },
        (can.own, can.serves),
      ),
      rw is at e.map,
      rw is at e.alike,
      rw is at e.own,
    )

pub make_cut_with-cut-requires-clause-legal : goal.make_cut_with-cut-requires-clause-legal
make_cut_with-cut-requires-clause-legal c =
    let e = c.in-Ok-Some.ensures in
    let is = c.in-Ok-Some.field-0-is in
    let s = c.self.inside in
    let own = legal_graph s.d.now s.lat.now s.snap.now.items c.args.island.now.net s.via_cost in
    let d = rw is at e.d in
    let lat = rw is at e.lat in
    let copper = rw is at e.c in
    let net = rw is at e.net in
    let cost = rw is at e.via_cost in
    subst (λ (y : Design × Mesh × SnapOf × ℕ × ℕ). SameMoves (legal_graph y.0 y.1 y.2.items y.3 y.4) own)
    (λ i. (sym d i, sym lat i, sym copper i, sym net i, sym cost i)) (same_self own)
