use Rattle.std.proofs.Common.{◌∙◌, ◌++◌, ◌∷◌, [], ap, arith, length, refl, sym}
use Rattle.ses_reader.specs.declared.item.SesItem.{SesItem}
use Rattle.route_check.specs.Board.{numbered}
use Rattle.route_check.proofs.Gone.{numbered_end, numbered_more}
use Rattle.route_check.proofs.board.push_items.Goals as goal

pub loop-x-init : goal.loop-x-init
loop-x-init c = refl

pub loop-x-preserved : goal.loop-x-preserved
loop-x-preserved c =
    let d = c.args.d.now in
    let before = c.loop-x.items in
    numbered_more d before _ c.args.xs.now c.loop-x.x-index c.x-item.result c.loop-x-test.true
    (c.in_ok-push_item.ensures ∙ ap (λ (x : SesItem). before ++ numbered d (length before) (x ∷ [])) c.x-item.is)
    ∙ c.loop-x.invariant

pub returns : goal.returns
returns c =
    sym (numbered_end c.args.d.now c.loop-x.items c.args.xs.now c.loop-x.x-index (omega (arith, c.loop-x-test.false)))
    ∙ c.loop-x.invariant
