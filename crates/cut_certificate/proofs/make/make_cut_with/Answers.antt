use Rattle.std.proofs.lemmas.Result.{IfOk-weaker}
use Rattle.std.specs.Prelude.{List, Option}
use Rattle.pcb_islands.specs.declared.net.Island.{Island}
use Rattle.route_lattice.specs.Legal.{legal_graph}
use Rattle.cut_certificate.specs.declared.cut.Cut.{Cut}
use Rattle.cut_certificate.specs.Cuts.{AreGoals, Cuts}
use Rattle.cut_certificate.proofs.Same.{flipped, sound_same}
use Rattle.cut_certificate.proofs.make.make_cut_with.Goals as goal

pub invariant_of-on : goal.invariant_of-on
invariant_of-on g c = record {
  sound = c.requires.can_move.sound;
  fits = c.requires.can_move.fits;
  serves = c.requires.serves;
  in_order = c.in_order.ensures.ascends;
}

pub invariant_of-legal : goal.invariant_of-legal
invariant_of-legal g c =
    let d = c.args.d.now in
    let m = c.args.lat.now in
    let items = g.C.Copper.items c.args.c.now in
    let own = g.M.Moves.graph c.args.legal.now in
    let graph = legal_graph d m items c.args.island.now.net c.args.via_cost in (
      c.requires.ready,
      sound_same graph own (flipped own graph c.requires.legal)
          (c.legal_graph_sound.ensures d m items c.args.island.now.net c.args.via_cost c.requires.can_move),
    )

pub returns : goal.returns
returns g c =
    let d = c.args.d.now in
    let m = c.args.lat.now in
    let items = g.C.Copper.items c.args.c.now in
    IfOk-weaker c.cut_between.result
    (λ (cut : Option Cut). (others : List Island) → AreGoals d m items others c.in_ok-goals.goals
    → Cuts d m items c.args.via_cost c.args.island.now others cut)
    (Cuts d m items c.args.via_cost c.args.island.now c.args.others.now)
    (λ cut h. h c.args.others.now c.in_ok-goals.ensures) c.cut_between.ensures
