use Rattle.std.proofs.Common.{refl}
use Rattle.board_picture.specs.Words.{escaped_from}
use Rattle.ses_writer.proofs.Puts.{at_end, all_put}
use Rattle.board_picture.proofs.Naming.{name_on}
use Rattle.board_picture.proofs.words.put_escaped.Goals as goal

pub loop-at-init : goal.loop-at-init
loop-at-init c = record { is = refl }

pub loop-at-preserved : goal.loop-at-preserved
loop-at-preserved c =
    name_on c.loop-at.skip c.in_ok-skip.skip c.args.name.now _ c.loop-at.at c.loop-at-test.true c.split_at.ensures.back
    c.in_ok-skip.ensures.skip c.in_ok-skip.ensures.put c.loop-at.invariant

pub returns : goal.returns
returns c = all_put (at_end (escaped_from c.loop-at.skip) c.args.name.now c.loop-at.at c.loop-at-test.false
    c.loop-at.invariant)
