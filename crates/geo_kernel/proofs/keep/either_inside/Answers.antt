use Rattle.std.proofs.Common.{inl, inr, ⊎_elim, sym, ◌∙◌, true≢false}
use Rattle.geo_kernel.specs.Moved.{moved_spine}
use Rattle.geo_kernel.proofs.Firsts.{begins_is}
use Rattle.geo_kernel.proofs.keep.either_inside.Goals as goal

pub returns-then-holds : goal.returns-then-holds
returns-then-holds c =
    let s = moved_spine c.args.s.now.by c.args.s.now.spine.now in
    let t = moved_spine c.args.t.now.by c.args.t.now.spine.now in
    let first = begins_is s t c.first.result.at c.first.ensures in
    (λ told. inl (first.0 (c.holds.ensures.0 told)), λ h. c.if-holds.true)

pub returns-else-holds : goal.returns-else-holds
returns-else-holds c =
    let s = moved_spine c.args.s.now.by c.args.s.now.spine.now in
    let t = moved_spine c.args.t.now.by c.args.t.now.spine.now in
    let first = begins_is s t c.first.result.at c.first.ensures in
    let second = begins_is t s c.first-else-holds.result.at c.first-else-holds.ensures in (
      λ told. inr (second.0 (c.holds-else-holds.ensures.0 told)),
      ⊎_elim (λ a. absurd (true≢false (sym (c.holds.ensures.1 (first.1 a)) ∙ c.if-holds.false)))
          (λ b. c.holds-else-holds.ensures.1 (second.1 b)),
    )
