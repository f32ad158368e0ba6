use Rattle.std.proofs.Common.{get_or, pos, refl, flat_map}
use Rattle.std.proofs.lemmas.List.{get_or_default}
use Rattle.geo_kernel.specs.declared.point.Point.{Point}
use Rattle.board_picture.specs.declared.open.OpenLine.{OpenLine}
use Rattle.board_picture.specs.Picture.{open_shape}
use Rattle.ses_writer.proofs.Puts.{with_next, at_end, leads_on, all_put}
use Rattle.board_picture.proofs.edge.put_lines.Goals as goal

-- the origin
abbrev origin : Point
origin = record { x = pos 0; y = pos 0 }

pub loop-line-init : goal.loop-line-init
loop-line-init c = record { is = refl }

pub loop-line-preserved : goal.loop-line-preserved
unfolding open_shape
loop-line-preserved c =
    let none : OpenLine = record { net = 0; from = origin; to = origin } in
    let now = get_or c.args.lines.now c.loop-line.line-index none in
    let same = get_or_default c.args.lines.now c.loop-line.line-index none now c.loop-line-test.true in
    let left = with_next (flat_map open_shape) c.args.lines.now c.loop-line.line-index now c.loop-line-test.true same
    c.loop-line.invariant in
    leads_on left c.in_ok-put_parts.ensures

pub returns : goal.returns
returns c =
    all_put (at_end (flat_map open_shape) c.args.lines.now c.loop-line.line-index c.loop-line-test.false
    c.loop-line.invariant)
