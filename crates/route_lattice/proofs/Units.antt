-- The session unit is at least 1 nm and at most an inch.
use Rattle.std.proofs.Common.{◌≡◌, ℕ, zero, suc, ◌<◌, ◌≤◌, ◌+◌, ◌*◌, ◌/◌, ◌%◌, arith, refl, Bool, true, false, cond}
use Rattle.std.specs.Prelude.{◌&&◌, nat_lt, if◌then◌else◌}
use Rattle.std.proofs.lemmas.Nat.{div-add-mod'}
use Rattle.std.proofs.Math.Nat.{div-le_self}
use Rattle.std.proofs.lemmas.Bool.Decides.{nat_tests}
use Rattle.geo_kernel.specs.declared.unit.Unit.{Unit as LengthUnit}
use Rattle.geo_kernel.specs.declared.unit.Unit.TheVariants.{Inch, Mil, Cm, Mm, Um}
use Rattle.pcb_model.specs.declared.design.Design.{Design}
use Rattle.pcb_model.specs.declared.design.SesScale.{SesScale}
use Rattle.geo_kernel.specs.Units.{unit_nm}
use Rattle.pcb_model.specs.Scale.{scale_of, keeps_resolution, is_on_scale, is_whole}

some_nm : (u : LengthUnit) → 0 < unit_nm u
some_nm Inch = omega arith
some_nm Mil = omega arith
some_nm Cm = omega arith
some_nm Mm = omega arith
some_nm Um = omega arith

few_nm : (u : LengthUnit) → unit_nm u ≤ 25400000
few_nm Inch = omega arith
few_nm Mil = omega arith
few_nm Cm = omega arith
few_nm Mm = omega arith
few_nm Um = omega arith

-- the scale, as its resolution is kept or not
abbrev scale_at : Design → Bool → SesScale
scale_at d b = if b then record { unit = d.unit; per = d.per; nm = unit_nm d.unit / d.per }
    else record { unit = Um; per = 1000; nm = 1 }

-- a quotient without a remainder isn't 0
quotient_some : (u per : ℕ) → 0 < u → u % per ≡ 0 → 0 < u / per
quotient_some u per h m = by (u / per) (div-add-mod' u per)
  where
    by : (q : ℕ) → q * per + u % per ≡ u → 0 < q
    by zero e = absurd (omega (arith, e, m))
    by (suc q) e = omega arith

quotient_few : (u per : ℕ) → u ≤ 25400000 → u / per ≤ 25400000
quotient_few u per h = omega (arith, div-le_self u per)

whole : (a b c : Bool) → (a && b && c) ≡ true → b ≡ true
whole true true c e = refl
whole true false c e = cc
whole false b c e = cc

none_left : (nm n : ℕ) → is_whole nm n ≡ true → n % nm ≡ 0
none_left nm n e = grind (arith, nat_tests)

module _ (d : Design) where
  some_kept : (b : Bool) → keeps_resolution d ≡ b → 0 < cond b (unit_nm d.unit / d.per) 1
  some_kept true e =
      quotient_some (unit_nm d.unit) d.per (some_nm d.unit)
      (none_left d.per (unit_nm d.unit)
      (whole (nat_lt 0 d.per) (is_whole d.per (unit_nm d.unit)) (is_on_scale d (unit_nm d.unit / d.per)) e))
  some_kept false e = omega arith

  few_kept : (b : Bool) → cond b (unit_nm d.unit / d.per) 1 ≤ 25400000
  few_kept true = quotient_few (unit_nm d.unit) d.per (few_nm d.unit)
  few_kept false = omega arith

pub unit_some : (d : Design) → 0 < (scale_of d).nm
unfolding scale_of
unit_some d = at (keeps_resolution d) (some_kept d (keeps_resolution d) refl)
  where
    at : (b : Bool) → 0 < cond b (unit_nm d.unit / d.per) 1 → 0 < (scale_at d b).nm
    at true h = h
    at false h = h

pub unit_few : (d : Design) → (scale_of d).nm ≤ 25400000
unfolding scale_of
unit_few d = at (keeps_resolution d) (few_kept d (keeps_resolution d))
  where
    at : (b : Bool) → cond b (unit_nm d.unit / d.per) 1 ≤ 25400000 → (scale_at d b).nm ≤ 25400000
    at true h = h
    at false h = h
