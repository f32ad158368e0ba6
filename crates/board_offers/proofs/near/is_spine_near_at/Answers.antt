use Rattle.std.proofs.Common.{IsTrue, ◌↔◌, ◌^◌, All, List, map, sym, subst}
use Rattle.geo_kernel.specs.declared.point.Point.{Point}
use Rattle.geo_kernel.specs.declared.spine.Spine.{Spine}
use Rattle.geo_kernel.specs.Spine.{IsSpineWithin}
use Rattle.geo_kernel.specs.Plane.{IsWithin}
use Rattle.geo_kernel.specs.Moved.{moved, moved_spine}
use Rattle.board_offers.proofs.near.is_spine_near_at.Goals as goal

pub returns-in-Area : goal.returns-in-Area
returns-in-Area c =
    let F : List (List Point) → Type 0 = λ ls. IsTrue c.are_loops_near_at.result ↔ All (All (IsWithin (2 ^ 29)))
    (map (map (moved c.args.at)) ls) in
    let h : F c.in-Area.loops = subst F c.as_slice-in-Area.ensures c.are_loops_near_at.ensures in
    subst (λ (s : Spine). IsTrue c.are_loops_near_at.result ↔ IsSpineWithin (2 ^ 29) (moved_spine c.args.at s))
    (sym c.in-Area.is) h

pub returns-in-Chain : goal.returns-in-Chain
returns-in-Chain c =
    let F : List Point → Type 0 = λ ps. IsTrue c.are_near_at.result ↔ All (IsWithin (2 ^ 29))
    (map (moved c.args.at) ps) in
    let h : F c.in-Chain.points = subst F c.as_slice.ensures c.are_near_at.ensures in
    subst (λ (s : Spine). IsTrue c.are_near_at.result ↔ IsSpineWithin (2 ^ 29) (moved_spine c.args.at s))
    (sym c.in-Chain.is) h
