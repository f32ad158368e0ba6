-- Where a point of an image stands on the board.
use Rattle.std.specs.Prelude.{◌^◌, ◌&&◌, nat_le, neg_ℤ, Bool, Option, Some, None, unsigned_abs, if◌then◌else◌}
use Rattle.geo_kernel.specs.declared.point.Point.{Point}
use Rattle.geo_kernel.specs.Moved.{moved}
use Rattle.dsn_units.specs.declared.angle.Angle.{Angle}
use Rattle.dsn_units.specs.Turn.{turned}

abbrev pub mirrored : Point → Point
mirrored p = record { x = neg_ℤ p.x; y = p.y }

-- turned by the angle, and on the back with x negated, before the turn or last
abbrev pub flipped : Bool → Bool → Angle → Point → Point
flipped back flip_last a p =
    if back then (if flip_last then mirrored (turned a p) else turned a (mirrored p)) else turned a p

abbrev pub is_near : Point → Bool
is_near p = nat_le (unsigned_abs p.x) (2 ^ 29) && nat_le (unsigned_abs p.y) (2 ^ 29)

-- the placed point, where no coordinate passes 2 ^ 29
abbrev pub placed_point : Point → Bool → Bool → Angle → Point → Option Point
placed_point p back flip_last a at = let q = moved at (flipped back flip_last a p) in if is_near q then Some q else None
