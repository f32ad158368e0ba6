use Rattle.std.specs.BinaryHeap.{heap_items}
use Rattle.wave_search.proofs.Heap.{popped}
use Rattle.wave_search.proofs.front.take_top.Goals as goal

pub returns-clause-top : goal.returns-clause-top
returns-clause-top c = popped (heap_items c.args.near.now)
    (heap_items c.pop.new.self) c.in-Some.field-0 c.in-Some.ensures.permutation
    (c.in-Some.ensures.below_top c.requires.ordered)
