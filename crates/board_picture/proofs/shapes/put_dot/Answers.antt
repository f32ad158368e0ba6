use Rattle.board_picture.specs.Shapes.{hole_dot}
use Rattle.board_picture.proofs.shapes.put_dot.Goals as goal

pub returns : goal.returns
unfolding hole_dot
returns c =
    c.put_parts.ensures
