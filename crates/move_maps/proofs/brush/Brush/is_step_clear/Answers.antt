use Rattle.std.proofs.Common.{refl}
use Rattle.std.proofs.lemmas.Bool.{OnTrue_at}
use Rattle.move_maps.proofs.Clearing.{step_told, step_shut}
use Rattle.move_maps.proofs.Spotting.{none_clear, some_clear, step_fits}
use Rattle.move_maps.proofs.brush.Brush.is_step_clear.Goals as goal

pub step_keeps-requires : goal.step_keeps-requires
step_keeps-requires c =
    let s = c.args.self.now in let t = s.group in let p = c.args.spot.now in let k = c.requires.spot in
    let r = c.told.ensures in
    step_fits t.d t.lat t.first p.node c.args.dir c.requires.dir c.in-Some.to p.layer s.margins.width p.at
    c.in-Some.ensures k.layer_is r.margins.width k.at_is r.can_move.sound r.can_move.fits k.there

pub returns-in_default : goal.returns-in_default
returns-in_default c =
    let s = c.args.self.now in let t = s.group in (
      λ e. none_clear t.d t.lat t.first c.args.spot.now.node c.args.dir c.requires.dir s.item
          c.in_default.ensures,
      λ k. refl,
    )

pub returns-then-shut : goal.returns-then-shut
returns-then-shut c =
    let s = c.args.self.now in let t = s.group in let p = c.args.spot.now in let k = c.requires.spot in
    let m = c.told.ensures.margins in
    some_clear t.d t.lat t.first p.node c.args.dir c.requires.dir c.in-Some.to p.layer s.margins.width p.at
    c.in-Some.ensures k.layer_is m.width k.at_is s.item _
    (step_shut t.d t.first s.item s.margins.wires p.layer s.margins.width p.at c.in-Some.to m.wires
    (OnTrue_at c.if-shut.true c.requires.shut))

pub returns : goal.returns
returns c =
    let s = c.args.self.now in let t = s.group in let p = c.args.spot.now in let k = c.requires.spot in
    let m = c.told.ensures.margins in
    some_clear t.d t.lat t.first p.node c.args.dir c.requires.dir c.in-Some.to p.layer s.margins.width p.at
    c.in-Some.ensures k.layer_is m.width k.at_is s.item c.step_keeps.result
    (step_told t.d t.first s.item s.margins.wires p.layer s.margins.width p.at c.in-Some.to c.step_keeps.result
    m.wires c.step_keeps.ensures)
