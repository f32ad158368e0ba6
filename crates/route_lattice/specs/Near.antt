-- Copper that stays within 2^29 where it is moved.
use Rattle.std.specs.Prelude.{◌^◌, nat_le, ◌&&◌, Bool, List, unsigned_abs}
use Rattle.std.specs.List.{list_all}
use Rattle.geo_kernel.specs.declared.point.Point.{Point}
use Rattle.geo_kernel.specs.declared.spine.Spine.{Spine}
use Rattle.geo_kernel.specs.declared.spine.Spine.TheVariants.{Chain, Area}
use Rattle.geo_kernel.specs.Moved.{moved}
use Rattle.pcb_model.specs.declared.item.Piece.{Piece}

-- both coordinates are at most 2^29 in absolute value
abbrev pub is_near : Point → Bool
is_near p = nat_le (unsigned_abs p.x) (2 ^ 29) && nat_le (unsigned_abs p.y) (2 ^ 29)

abbrev pub is_near_at : Point → Point → Bool
is_near_at by p = is_near (moved by p)

-- each vertex of the moved spine is
abbrev pub is_spine_near_at : Point → Spine → Bool
is_spine_near_at by (Chain ps) = list_all (is_near_at by) ps
is_spine_near_at by (Area loops) = list_all (list_all (is_near_at by)) loops

abbrev pub are_near_at : Point → List Piece → Bool
are_near_at by ps = list_all (λ (q : Piece). is_spine_near_at by q.spine) ps
