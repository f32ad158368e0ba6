use Rattle.std.proofs.Common.{◌≡◌, ◌∙◌, ◌<◌, ◌^◌, ◌≤ℤ◌, ℤ, true, w64, inl, inr, sym, ap₂, arith}
use Rattle.std.proofs.lemmas.Int.{ints, to_z-of_z}
use lib.Signed.{le_z, mag}
use Rattle.geo_kernel.proofs.Bounds.{seen}
use Rattle.move_maps.proofs.margins.is_beyond.Goals as goal

-- a comparison of two numbers that the code was passed, where it says yes
at_most : (y z : ℤ) → mag y < 2 ^ 63 → mag z < 2 ^ 63 → le_z (seen y) (seen z) ≡ true → y ≤ℤ z
at_most y z h k e =
    by y z (sym (ap₂ le_z (to_z-of_z w64 y (record { sfits = h })) (to_z-of_z w64 z (record { sfits = k }))) ∙ e)
  where
    by : (y z : ℤ) → le_z y z ≡ true → y ≤ℤ z
    by y z e = omega (arith, ints, e)

pub returns-then-b-area : goal.returns-then-b-area
returns-then-b-area c =
    let r = c.struct_told-2-1.given.0.1 in
    inl (inl (
      at_most c.args.a.x c.args.area.x0 c.struct_told-1.given.0.1 r c.if-a-area.true,
      at_most c.args.b.x c.args.area.x0 c.struct_told-then-a-area-1.given.0.1 r c.if-b-area.true,
    ))

pub returns-then-area-b : goal.returns-then-area-b
returns-then-area-b c =
    let r = c.struct_told-2-1.given.1.1.0.1 in
    inl (inr (
      at_most c.args.area.x1 c.args.a.x r c.struct_told-1.given.0.1 c.if-area-a.true,
      at_most c.args.area.x1 c.args.b.x r c.struct_told-then-area-a-2-1.given.0.1 c.if-area-b.true,
    ))

pub returns-then-b-area-2 : goal.returns-then-b-area-2
returns-then-b-area-2 c =
    let r = c.struct_told-2-1.given.1.0.1 in
    inr (inl (
      at_most c.args.a.y c.args.area.y0 c.struct_told-1.given.1.0.1 r c.if-a-area-2.true,
      at_most c.args.b.y c.args.area.y0 c.struct_told-then-a-area-2-2-1.given.1.0.1 r c.if-b-area-2.true,
    ))

pub returns-then-area-b-2 : goal.returns-then-area-b-2
returns-then-area-b-2 c =
    let r = c.struct_told-2-1.given.1.1.1.0.1 in
    inr (inr (
      at_most c.args.area.y1 c.args.a.y r c.struct_told-1.given.1.0.1 c.if-area-a-2.true,
      at_most c.args.area.y1 c.args.b.y r c.struct_told-then-area-a-2-3-1.given.1.0.1 c.if-area-b-2.true,
    ))

pub returns : goal.returns
returns c = tt
