use Rattle.std.proofs.Common.{List, map, subst}
use Rattle.geo_kernel.specs.declared.point.Point.{Point}
use Rattle.geo_kernel.specs.Spine.{chain_segments}
use Rattle.move_maps.specs.Paint.{TakeIn}
use Rattle.move_maps.specs.Parts.{part}
use Rattle.move_maps.proofs.Linking.{take_piece}
use Rattle.move_maps.proofs.links.take_piece.Goals as goal

pub returns-in-Chain : goal.returns-in-Chain
returns-in-Chain c =
    take_piece c.args.group.now.d c.args.group.now.lat c.args.group.now.first c.args.piece.now c.in-Chain.points
    c.args.windows.now.items
    c.take_links.new.windows.items c.in-Chain.is
    (λ b. subst (λ (points : List Point). TakeIn c.args.group.now.d c.args.group.now.lat c.args.group.now.first
    (map (part b c.args.piece.now) (chain_segments points)) c.args.windows.now.items c.take_links.new.windows.items)
    c.as_slice.ensures (c.take_links.ensures b))
