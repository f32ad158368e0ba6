use Rattle.dsn_design.proofs.Making.{framed}
use Rattle.dsn_design.proofs.board.frame_of.Goals as goal

pub returns : goal.returns
returns c =
    framed c.args.parts.now c.args.stacks c.args.free c.bare-design.result c.outline.new.design c.populate.new.design
    c.connect.new.design c.bare-design.ensures c.in_ok-outline.ensures c.in_ok-populate.ensures c.in_ok-connect.ensures
