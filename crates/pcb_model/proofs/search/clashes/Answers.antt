use Rattle.pcb_model.proofs.Far.{apart_agree, clearances_within}
use Rattle.std.proofs.Common.{refl, Some, ◌∙◌}
use Rattle.pcb_model.specs.Copper.{IsOther}
use Rattle.pcb_model.specs.Pairs.{Agrees}
use Rattle.pcb_model.proofs.Turned.{fails_with, passes_with, other, not_other}
use Rattle.pcb_model.proofs.Clearances.{side_is}
use Rattle.pcb_model.proofs.search.clashes.Goals as goal

pub returns-then-is_far_from-clause-no : goal.returns-then-is_far_from-clause-no
returns-then-is_far_from-clause-no g c = λ o.
    apart_agree c.args.q.now.reach c.args.d.now c.args.a.now c.args.b.now
    (clearances_within c.args.q.now.reach c.args.d.now c.requires.query.reach_is)
    (c.if-is_far_from.ensures.apart refl c.args.a.now.pieces c.args.b.now.pieces c.requires.a_fits.pieces_fit
    c.requires.b_fits.pieces_fit c.requires.query.extent_is c.requires.extent_of)

pub returns-clause-yes : goal.returns-clause-yes
returns-clause-yes g c = fails_with c.pair_agrees.result (IsOther (Some c.args.a.now.id) c.args.b.now)
    (Agrees c.args.d.now c.args.a.now c.args.b.now) (other c.args.a.now c.args.b.now c.if-b-a.false)
    c.pair_agrees.ensures

pub returns-clause-no : goal.returns-clause-no
returns-clause-no g c = passes_with c.pair_agrees.result (IsOther (Some c.args.a.now.id) c.args.b.now)
    (Agrees c.args.d.now c.args.a.now c.args.b.now) c.pair_agrees.ensures

pub returns-then-b-a-clause-no : goal.returns-then-b-a-clause-no
returns-then-b-a-clause-no g c = λ o. absurd (not_other c.args.a.now c.args.b.now c.if-b-a.true o)

pub pair_agrees-requires-clause-own_is : goal.pair_agrees-requires-clause-own_is
pair_agrees-requires-clause-own_is g c =
    c.towards.ensures
    ∙ side_is c.args.d.now c.args.a.now.net c.args.a.now.kind c.args.q.now.side c.requires.query.side_is
    c.args.b.now.kind
