use Rattle.std.proofs.Common.{All, subst}
use Rattle.std.proofs.lemmas.List.{take_all}
use Rattle.std.proofs.lemmas.List.Elements.{All-nil, All-more}
use Rattle.move_maps.specs.Parts.{IsString}
use Rattle.move_maps.proofs.parts.are_strings.Goals as goal

pub loop-piece-init : goal.loop-piece-init
loop-piece-init c = All-nil IsString

pub loop-piece-preserved : goal.loop-piece-preserved
loop-piece-preserved c = All-more IsString c.args.pieces.now c.loop-piece.piece-index c.piece-item.result
    c.loop-piece-test.true
    c.loop-piece.invariant (subst IsString c.piece-item.is (c.is_string.ensures c.if-not-is_string.false))

pub returns : goal.returns
returns c = λ e. subst (All IsString) (take_all c.loop-piece.piece-index c.args.pieces.now
    c.loop-piece-test.false) c.loop-piece.invariant
