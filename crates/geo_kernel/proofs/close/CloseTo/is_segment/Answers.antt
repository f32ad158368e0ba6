use Rattle.std.proofs.Common.{◌^◌, ap, sym, ◌∙◌, subst}
use Rattle.geo_kernel.specs.Spine.{area_segments, chain_segments, spine_segments, IsSpineWithin}
use Rattle.geo_kernel.proofs.Moves.{still_movable, still_loops_movable}
use Rattle.geo_kernel.proofs.Keeping.{close_to}
use Rattle.geo_kernel.proofs.close.CloseTo.is_segment.Goals as goal

pub invariant_of-points-clause-movable : goal.invariant_of-points-clause-movable
invariant_of-points-clause-movable c =
    rw c.as_slice.ensures (still_movable _ (subst (IsSpineWithin (2 ^ 29)) c.in-Chain.is c.args.self.now.within))

pub invariant_of-area-clause-movable : goal.invariant_of-area-clause-movable
invariant_of-area-clause-movable c =
    rw c.as_slice-in-Area.ensures
    (still_loops_movable _ (subst (IsSpineWithin (2 ^ 29)) c.in-Area.is c.args.self.now.within))

pub returns-in-Chain : goal.returns-in-Chain
returns-in-Chain c =
    close_to c.args.self.now.how c.args.self.now.k.value _ c.args.self.now.t.now _ c.is_path.result
    (c.chain.ensures.links ∙ ap chain_segments c.as_slice.ensures ∙ sym (ap spine_segments c.in-Chain.is))
    c.is_path.ensures

pub returns-in-Area : goal.returns-in-Area
returns-in-Area c =
    close_to c.args.self.now.how c.args.self.now.k.value _ c.args.self.now.t.now _ c.is_area.result
    (ap area_segments c.as_slice-in-Area.ensures ∙ sym (ap spine_segments c.in-Area.is)) c.is_area.ensures
