use Rattle.std.proofs.Common.{◌≡◌, ℤ, pos, arith, sym, ap, ◌∙◌, subst, refl}
use Rattle.std.specs.Prelude.{◌-ℤ◌}
use Rattle.std.proofs.lemmas.Int.{to_z-of_z, to_z_pos}
use mir.Val.{SFits, to_z, of_z}
use mir.Syntax.{w64}
use Rattle.pcb_tiles.proofs.Tilings.{fits64, fits_same, fits_less, place_same}
use Rattle.pcb_tiles.proofs.block.Span.place_before.Goals as goal

pub returns : goal.returns
returns c =
    let b : SFits w64 c.args.z = fits_same c.args.z c.requires.z_within in
    let z : SFits w64 (c.args.z -ℤ pos c.args.by) =
    fits64 (c.args.z -ℤ pos c.args.by)
    (fits_less c.args.z c.args.by c.requires.z_within c.requires.by_within) in
    let p : to_z w64 c.args.by ≡ pos c.args.by = to_z_pos w64 c.args.by (omega (arith, c.requires.by_within)) in
    let q : to_z w64 (of_z w64 c.args.z) ≡ c.args.z = to_z-of_z w64 c.args.z b in
    let G : ℤ → ℤ = λ t. t -ℤ to_z w64 c.args.by in
    let H : ℤ → ℤ = λ t. c.args.z -ℤ t in
    let e : (to_z w64 (of_z w64 c.args.z) -ℤ to_z w64 c.args.by) ≡ (c.args.z -ℤ pos c.args.by) =
    ap G q ∙ ap H p in
    let F : ℤ → Type 0 = λ t. SFits w64 t in
    let y : SFits w64 (to_z w64 (of_z w64 c.args.z) -ℤ to_z w64 c.args.by) = subst F (sym e) z in
    place_same c.args.self.lo c.args.self.hi
    (to_z w64 (of_z w64 (to_z w64 (of_z w64 c.args.z) -ℤ to_z w64 c.args.by))) c.args.self.lo c.args.self.hi
    (c.args.z -ℤ pos c.args.by) c.place_of.result c.place_of.ensures.is refl refl
    (to_z-of_z w64 (to_z w64 (of_z w64 c.args.z) -ℤ to_z w64 c.args.by) y ∙ e)
