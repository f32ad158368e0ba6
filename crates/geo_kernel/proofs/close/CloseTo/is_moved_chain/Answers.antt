use Rattle.geo_kernel.proofs.close.CloseTo.is_moved_chain.Goals as goal

pub returns : goal.returns
returns c = rw (c.chain.ensures.by, c.chain.ensures.links) at c.is_moved_path.ensures
