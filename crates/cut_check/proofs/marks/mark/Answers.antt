use Rattle.std.proofs.Common.{length, refl}
use Rattle.cut_check.proofs.Marking.{gains_none, gains_one, marked_more, marked_read}
use Rattle.cut_check.proofs.marks.mark.Goals as goal

pub returns-then-index-clause-gains : goal.returns-then-index-clause-gains
returns-then-index-clause-gains c =
    gains_none c.args.node c.args.nodes.now.items
    ((c.requires.marked.exact c.args.node).0
    ((marked_read c.args.marks.now.items c.args.node c.index.result.now c.requires.node c.index.ensures).0
    c.if-index.true))

pub returns-clause-marked : goal.returns-clause-marked
returns-clause-marked c =
    marked_more (length c.args.marks.now.items) c.args.node c.args.marks.now.items _ c.args.nodes.now.items
    c.push.new.self.items c.requires.marked c.requires.node c.in_ok-push.ensures.items refl

pub returns-clause-gains : goal.returns-clause-gains
returns-clause-gains c =
    gains_one c.args.node c.args.nodes.now.items c.push.new.self.items c.in_ok-push.ensures.items
