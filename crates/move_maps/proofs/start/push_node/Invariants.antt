use Rattle.std.proofs.Common.{◌≡◌, ◌++◌, map, take}
use Rattle.move_maps.specs.Starts.{start_of}
use Rattle.move_maps.proofs.start.push_node.Given as goal

-- the moves so far
abbrev pub invariant-loop-n : goal.invariant-loop-n
invariant-loop-n l = l.counts ≡ l.fn.counts ++ map (start_of l.plain) (take l.n-index l.starts)
