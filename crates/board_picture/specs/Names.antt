-- Which names are shown: those in the window that meet no name shown before.
use Rattle.std.specs.Prelude.{ℕ, ℤ, pos, ◌+◌, ◌*◌, ◌/◌, ◌+ℤ◌, ◌-ℤ◌, unsigned_abs, int_le, nat_le, Bool, not, ◌&&◌}
use Rattle.std.specs.Prelude.{if◌then◌else◌, List, length}
use Rattle.std.specs.List.{list_any}
use Rattle.geo_kernel.specs.declared.point.Point.{Point}
use Rattle.pcb_model.specs.declared.design.Component.{Component}
use Rattle.board_picture.specs.declared.names.NameBox.{NameBox}
use Rattle.board_picture.specs.declared.sheet.Sheet.{Sheet}

-- where a name ends, and how wide it is taken to be: seven twentieths of the unit for each byte, and one more
abbrev pub name_box : Sheet → Component → NameBox
name_box s c = record { at = c.at; width = (length c.name + 1) * s.unit * 7 / 20 }

-- of two names that end at these places the one further right is as wide as they are apart, or wider
abbrev pub meets_across : NameBox → NameBox → Bool
meets_across a b = nat_le (unsigned_abs (a.at.x -ℤ b.at.x)) (if int_le b.at.x a.at.x then a.width else b.width)

-- and they are at most the height of a name apart, half a unit
abbrev pub meets : Sheet → NameBox → NameBox → Bool
meets s a b = meets_across a b && nat_le (unsigned_abs (a.at.y -ℤ b.at.y)) (s.unit / 2)

-- at most so far, or a unit further, or a unit to the other side
abbrev pub is_between : Sheet → ℕ → ℤ → Bool
is_between s most along = int_le (pos 0 -ℤ pos s.unit) along && int_le along (pos most +ℤ pos s.unit)

-- and that is how far it is from one place to another
abbrev pub is_within : Sheet → ℤ → ℕ → ℤ → Bool
is_within s from most to = is_between s most (to -ℤ from)

-- on the board, or at most a unit beside it
abbrev pub is_near : Sheet → Point → Bool
is_near s p = is_within s s.left s.wide p.x && is_within s p.y s.high s.top

abbrev pub is_free : Sheet → List NameBox → Component → Bool
is_free s shown c = is_near s c.at && not (list_any (meets s (name_box s c)) shown)
