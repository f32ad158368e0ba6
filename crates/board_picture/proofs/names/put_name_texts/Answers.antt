use Rattle.board_picture.specs.Picture.{names_from}
use Rattle.ses_writer.proofs.Puts.{with_next, at_end, all_put}
use Rattle.board_picture.proofs.Showing.{name_more}
use Rattle.board_picture.proofs.names.put_name_texts.Goals as goal

pub loop-c-preserved : goal.loop-c-preserved
loop-c-preserved c =
    let left = with_next (names_from c.args.s c.loop-c.shown.items) c.args.components.now c.loop-c.c-index
    c.c-item.result c.loop-c-test.true c.c-item.is c.loop-c.invariant in
    name_more c.args.s c.loop-c.shown.items _ c.c-item.result _ left c.in_ok-put_shown.ensures.put
    c.in_ok-put_shown.ensures.told

pub returns : goal.returns
returns c =
    all_put (at_end (names_from c.args.s c.loop-c.shown.items) c.args.components.now c.loop-c.c-index
    c.loop-c-test.false c.loop-c.invariant)
