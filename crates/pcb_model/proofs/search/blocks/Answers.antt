use Rattle.std.proofs.Common.{refl, Some, ◌∙◌}
use Rattle.pcb_model.specs.Pieces.{pieces_of, metal_of, probe_item, kind_of}
use Rattle.pcb_model.proofs.Far.{apart_agree, clearances_within}
use Rattle.pcb_model.specs.Pairs.{ProbeAgrees}
use Rattle.pcb_model.proofs.Turned.{fails, passes}
use Rattle.pcb_model.proofs.Clearances.{side_is}
use Rattle.pcb_model.proofs.search.blocks.Goals as goal

pub returns-then-is_far_from-clause-no : goal.returns-then-is_far_from-clause-no
returns-then-is_far_from-clause-no g c =
    apart_agree c.args.q.now.reach c.args.d.now (probe_item c.args.d.now c.args.net c.args.p.now) c.args.b.now
    (clearances_within c.args.q.now.reach c.args.d.now c.requires.query.reach_is)
    (c.if-is_far_from.ensures.apart refl (pieces_of c.args.d.now (metal_of c.args.p.now)) c.args.b.now.pieces
    c.requires.p_fits.pieces_fit c.requires.b_fits.pieces_fit c.requires.query.extent_is c.requires.extent_of)

pub returns-clause-yes : goal.returns-clause-yes
returns-clause-yes g c =
    fails c.probe_agrees.result (ProbeAgrees c.args.d.now c.args.net c.args.p.now c.args.b.now) c.probe_agrees.ensures

pub returns-clause-no : goal.returns-clause-no
returns-clause-no g c =
    passes c.probe_agrees.result (ProbeAgrees c.args.d.now c.args.net c.args.p.now c.args.b.now) c.probe_agrees.ensures

pub probe_agrees-requires-clause-own_is : goal.probe_agrees-requires-clause-own_is
probe_agrees-requires-clause-own_is g c =
    c.towards.ensures
    ∙ side_is c.args.d.now (Some c.args.net) (kind_of (metal_of c.args.p.now)) c.args.q.now.side
    c.requires.query.side_is c.args.b.now.kind
