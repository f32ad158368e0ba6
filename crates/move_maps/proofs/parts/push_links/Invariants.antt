use Rattle.std.proofs.Common.{◌≡◌, ◌++◌, map, drop}
use Rattle.geo_kernel.specs.Spine.{links, chain_segments}
use Rattle.move_maps.specs.Parts.{part}
use Rattle.move_maps.proofs.parts.push_links.Given as goal

-- the parts so far, and those of the links that are left
abbrev pub invariant-loop-to : goal.invariant-loop-to
invariant-loop-to l = l.parts ++ map (part l.item l.piece) (links l.from (drop l.to-index (drop 1 l.points)))
    ≡ l.fn.parts ++ map (part l.item l.piece) (chain_segments l.points)
