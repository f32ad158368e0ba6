use Rattle.std.specs.Prelude.{◌++◌, codes, decimal}
use Rattle.board_picture.specs.Words.{escaped}
use Rattle.board_picture.specs.Legend.{swatch_head, layer_row}
use Rattle.ses_writer.proofs.Puts.{then_put}
use Rattle.board_picture.proofs.Parts.{parted, row_named}
use Rattle.board_picture.proofs.legend.put_layer_row.Goals as goal

pub returns : goal.returns
unfolding swatch_head layer_row
returns c =
    let swatch = parted (codes "<path d=\"M0 " ++ decimal c.args.row) (codes ".5h2\" stroke-width=\"")
    (codes "0.6\"") c.in_ok-put_parts.ensures in
    let painted = then_put swatch c.in_ok-put_paint.ensures in
    let name = rw c.as_slice.ensures at c.put_parts-2.ensures in
    row_named c.put_parts-2.result _ (codes "/>") c.args.row (escaped c.args.layer.now.name) (codes "</text>\n")
    painted name
