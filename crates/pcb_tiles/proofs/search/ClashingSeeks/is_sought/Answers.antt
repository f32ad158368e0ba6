use Rattle.std.proofs.Common.{refl, Some}
use Rattle.pcb_model.proofs.Far.{apart_agree}
use Rattle.pcb_model.specs.Pairs.{Agrees}
use Rattle.pcb_model.specs.Copper.{IsOther}
use Rattle.pcb_tiles.proofs.Sought.{fails_with, passes_with, other}
use Rattle.pcb_tiles.proofs.search.ClashingSeeks.is_sought.Goals as goal

pub returns-then-is_far_from-clause-no : goal.returns-then-is_far_from-clause-no
returns-then-is_far_from-clause-no g c = λ o.
    apart_agree c.args.self.now.reach c.args.self.now.d.now c.args.self.now.a.now c.args.item.now
    c.requires.ready.0.reaches
    (c.if-is_far_from.ensures.apart refl c.args.self.now.a.now.pieces c.args.item.now.pieces
    c.requires.ready.1.pieces_fit c.requires.item_fits.pieces_fit c.requires.ready.0.extent_is
    c.requires.extent_of)

pub returns-clause-yes : goal.returns-clause-yes
returns-clause-yes g c =
    let s = c.args.self.now in
    let b = c.args.item.now in
    fails_with c.pair_ok.result (IsOther (Some s.a.now.id) b) (Agrees s.d.now s.a.now b)
    (other s.a.now b c.if-item-self.false) c.pair_ok.ensures.says

pub returns-clause-no : goal.returns-clause-no
returns-clause-no g c =
    let s = c.args.self.now in
    let b = c.args.item.now in
    passes_with c.pair_ok.result (IsOther (Some s.a.now.id) b) (Agrees s.d.now s.a.now b) c.pair_ok.ensures.says
