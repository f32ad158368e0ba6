use Rattle.std.proofs.Common.{List, [], ◌∷◌, Any, inl, inr, ⊎_elim, sym, ◌∙◌, subst, true≢false}
use Rattle.geo_kernel.specs.declared.point.Point.{Point}
use Rattle.geo_kernel.specs.declared.spine.Spine.{Spine}
use Rattle.geo_kernel.specs.declared.spine.Spine.TheVariants.{Chain}
use Rattle.geo_kernel.specs.Spine.{Touches, chain_segments, area_segments, SpinesTouch}
use Rattle.route_lattice.proofs.Covering.{alone, covers_chain, covers_area}
use Rattle.route_lattice.proofs.touch.covers.Goals as goal

pub returns-in-Chain : goal.returns-in-Chain
returns-in-Chain c =
    let F : Spine → Type 0 = λ s. SpinesTouch (Chain (c.args.p ∷ [])) s c.args.piece.now.width in
    let G : List Point → Type 0 = λ ps. Any (Touches c.args.piece.now.width (alone c.args.p)) (chain_segments ps) in
    let t = covers_chain c.args.p c.in-Chain.points c.args.piece.now.width in (
      λ h. subst F (sym c.in-Chain.is) (t.0 (subst G c.as_slice.ensures (c.touches_chain.ensures.0 h))),
      λ h. c.touches_chain.ensures.1 (subst G (sym c.as_slice.ensures) (t.1 (subst F c.in-Chain.is h))),
    )

pub returns-then-touches_loops : goal.returns-then-touches_loops
returns-then-touches_loops c =
    let F : Spine → Type 0 = λ s. SpinesTouch (Chain (c.args.p ∷ [])) s c.args.piece.now.width in
    let P : List (List Point) → Type 0 =
    λ ls. Any (Touches c.args.piece.now.width (alone c.args.p)) (area_segments ls) in
    let t = covers_area c.args.p c.in-Area.loops c.args.piece.now.width in (
      λ h. subst F (sym c.in-Area.is)
          (t.0 (inl (subst P c.as_slice-in-Area.ensures (c.touches_loops.ensures.0 c.if-touches_loops.true)))),
      λ h. c.if-touches_loops.true,
    )

pub returns-else-touches_loops : goal.returns-else-touches_loops
returns-else-touches_loops c =
    let F : Spine → Type 0 = λ s. SpinesTouch (Chain (c.args.p ∷ [])) s c.args.piece.now.width in
    let P : List (List Point) → Type 0 =
    λ ls. Any (Touches c.args.piece.now.width (alone c.args.p)) (area_segments ls) in
    let t = covers_area c.args.p c.in-Area.loops c.args.piece.now.width in (
      λ h. subst F (sym c.in-Area.is) (t.0 (inr (c.inside.ensures.0 h))),
      λ h. ⊎_elim
          (λ a. absurd
          (true≢false
          (sym (c.touches_loops.ensures.1 (subst P (sym c.as_slice-in-Area.ensures) a)) ∙ c.if-touches_loops.false)))
          (λ b. c.inside.ensures.1 b) (t.1 (subst F c.in-Area.is h)),
    )
