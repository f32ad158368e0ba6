use Rattle.std.proofs.Common.{get_or}
use Rattle.cut_certificate.specs.declared.cut.Blocker.TheVariants.{Item}
use Rattle.cut_certificate.specs.declared.cut.Block.{Block}
use Rattle.cut_certificate.specs.Border.{IsBlock}
use Rattle.cut_certificate.proofs.Each.{each_more, each_true, each_false, unless}
use Rattle.cut_certificate.proofs.border.MoveNodes.all_blocks.Goals as goal

blank : Block
blank = record { node = 0; index = 0; by = Item 0 }

pub loop-block-preserved : goal.loop-block-preserved
unfolding blank
loop-block-preserved g c =
    each_more (IsBlock (g.M.Moves.graph c.args.self.now.on).at (g.M.Moves.graph c.args.self.now.on).arity
    (g.M.Shuts.shut_by c.args.self.now.on) c.args.self.now.nodes.now) c.args.blocked.now c.loop-block.block-index
    blank c.loop-block-test.true
    c.loop-block.invariant (c.is_block.ensures.0 c.if-not-is_block.false)

pub returns : goal.returns
returns g c =
    each_true (IsBlock (g.M.Moves.graph c.args.self.now.on).at (g.M.Moves.graph c.args.self.now.on).arity
    (g.M.Shuts.shut_by c.args.self.now.on) c.args.self.now.nodes.now) c.args.blocked.now c.loop-block.block-index
    c.loop-block-test.false
    c.loop-block.invariant

pub returns-then-not-is_block : goal.returns-then-not-is_block
unfolding blank
returns-then-not-is_block g c =
    each_false (IsBlock (g.M.Moves.graph c.args.self.now.on).at (g.M.Moves.graph c.args.self.now.on).arity
    (g.M.Shuts.shut_by c.args.self.now.on) c.args.self.now.nodes.now) c.args.blocked.now c.loop-block.block-index
    blank c.loop-block-test.true
    (unless c.is_block.result
    (IsBlock (g.M.Moves.graph c.args.self.now.on).at (g.M.Moves.graph c.args.self.now.on).arity
    (g.M.Shuts.shut_by c.args.self.now.on) c.args.self.now.nodes.now (get_or c.args.blocked.now
    c.loop-block.block-index blank))
    c.is_block.ensures c.if-not-is_block.true)
