-- The scale of a design's session: the design's resolution, where all is whole in it, or units of 1 nm.
use Rattle.std.proofs.Common.{◌≡◌, ℕ, zero, suc, ◌*◌, ◌/◌, ◌<◌, Bool, true, false, refl, arith}
use Rattle.std.specs.Prelude.{◌&&◌, nat_lt, if◌then◌else◌}
use Rattle.std.proofs.lemmas.Bool.{and_parts}
use Rattle.geo_kernel.specs.declared.unit.Unit.{Unit as LengthUnit}
use Rattle.geo_kernel.specs.declared.unit.Unit.TheVariants.{Inch, Mil, Cm, Mm, Um}
use Rattle.geo_kernel.specs.Units.{unit_nm}
use Rattle.pcb_model.specs.declared.design.Design.{Design}
use Rattle.pcb_model.specs.declared.design.SesScale.{SesScale}
use Rattle.pcb_model.specs.Scale.{is_on_scale, is_whole, keeps_resolution, scale_of}
use Rattle.session_law.proofs.ToldNumbers.{multiple}

-- the scale, where the resolution is kept and where it is not
abbrev pub scale_if : Bool → Design → SesScale
scale_if true d = record { unit = d.unit; per = d.per; nm = unit_nm d.unit / d.per }
scale_if false d = record { unit = Um; per = 1000; nm = 1 }

-- what holds either way holds of the scale of the session
pub of_scale : (P : SesScale → Type 0) (d : Design) → ((b : Bool) → keeps_resolution d ≡ b → P (scale_if b d))
    → P (scale_of d)
unfolding scale_of
of_scale P d each = by (keeps_resolution d) each
  where
    by : (b : Bool) → ((t : Bool) → b ≡ t → P (scale_if t d)) → P (if b then scale_if true d else scale_if false d)
    by true h = h true refl
    by false h = h false refl

-- ---- a resolution that is kept
-- its count isn't 0, a unit is a whole number of nm, and the design is whole in it
pub record IsKept (d : Design) : Type 0 where
  pub some_per : nat_lt 0 d.per ≡ true
  pub unit_is : unit_nm d.unit / d.per * d.per ≡ unit_nm d.unit
  pub on_scale : is_on_scale d (unit_nm d.unit / d.per) ≡ true

-- where the test says so
pub is_kept : (d : Design) → keeps_resolution d ≡ true → IsKept d
is_kept d e =
    let both = and_parts (nat_lt 0 d.per && is_whole d.per (unit_nm d.unit))
    (is_on_scale d (unit_nm d.unit / d.per)) e in
    let unit = and_parts (nat_lt 0 d.per) (is_whole d.per (unit_nm d.unit)) both.0 in
    record { some_per = unit.0; unit_is = multiple d.per (unit_nm d.unit) unit.1; on_scale = both.1 }

-- ---- a session's unit isn't 0 nm
-- nor is a unit of length
some_unit : (u : LengthUnit) → 0 < unit_nm u
some_unit Inch = omega arith
some_unit Mil = omega arith
some_unit Cm = omega arith
some_unit Mm = omega arith
some_unit Um = omega arith

-- where a multiple isn't 0, neither is its factor
some_factor : (q per n : ℕ) → q * per ≡ n → 0 < n → 0 < q
some_factor zero per n e h = omega arith
some_factor (suc q) per n e h = omega arith

-- neither way
pub some_if : (d : Design) (b : Bool) → keeps_resolution d ≡ b → 0 < (scale_if b d).nm
some_if d true e = some_factor (unit_nm d.unit / d.per) d.per (unit_nm d.unit) (is_kept d e).unit_is (some_unit d.unit)
some_if d false e = omega arith

-- so it is with a design's scale
pub some_scale : (d : Design) → 0 < (scale_of d).nm
some_scale d = of_scale (λ (s : SesScale). 0 < s.nm) d (some_if d)
