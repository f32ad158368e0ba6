use Rattle.std.proofs.Common.{refl}
use Rattle.pcb_model.specs.Pieces.{pieces_of, metal_of, probe_item}
use Rattle.pcb_model.proofs.Far.{apart_agree}
use Rattle.pcb_model.specs.Pairs.{ProbeAgrees}
use Rattle.pcb_tiles.proofs.Sought.{fails, passes}
use Rattle.pcb_tiles.proofs.search.BlockingSeeks.is_sought.Goals as goal

pub returns-then-is_far_from-clause-no : goal.returns-then-is_far_from-clause-no
returns-then-is_far_from-clause-no g c =
    apart_agree c.args.self.now.reach c.args.self.now.d.now
    (probe_item c.args.self.now.d.now c.args.self.now.net c.args.self.now.p.now) c.args.item.now
    c.requires.ready.0.reaches
    (c.if-is_far_from.ensures.apart refl
    (pieces_of c.args.self.now.d.now (metal_of c.args.self.now.p.now)) c.args.item.now.pieces
    c.requires.ready.1.pieces_fit c.requires.item_fits.pieces_fit c.requires.ready.0.extent_is
    c.requires.extent_of)

pub returns-clause-yes : goal.returns-clause-yes
returns-clause-yes g c =
    let s = c.args.self.now in
    fails c.probe_ok.result (ProbeAgrees s.d.now s.net s.p.now c.args.item.now) c.probe_ok.ensures.says

pub returns-clause-no : goal.returns-clause-no
returns-clause-no g c =
    let s = c.args.self.now in
    passes c.probe_ok.result (ProbeAgrees s.d.now s.net s.p.now c.args.item.now) c.probe_ok.ensures.says
