use Rattle.std.proofs.Common.{ℕ, ◌<◌, ◌≤◌, Any, List, [], arith, sym, ◌∙◌, subst, true≢false}
use Rattle.std.proofs.lemmas.Bool.{false≢true}
use Rattle.std.proofs.lemmas.List.{drop_all}
use Rattle.plane_joins.proofs.Places.{copied}
use Rattle.plane_stubs.proofs.Trying.{any_on, any_none}
use Rattle.plane_stubs.proofs.site.Site.holds_rib.Goals as goal

pub loop-id-preserved : goal.loop-id-preserved
loop-id-preserved c = λ some.
    let ids = c.as_slice-id-items.result.now in
    any_on (λ id. (c.args.self.now.first ≤ id) × (id < c.args.self.now.last)) ids c.loop-id.id-index _
    c.loop-id-test.true (copied ids c.loop-id.id-index _ c.loop-id-test.true)
    (λ p. true≢false (sym (c.is_rib.ensures.1 p) ∙ c.if-is_rib.false)) (c.loop-id.invariant some)

pub returns : goal.returns
returns c =
    let P : ℕ → Type 0 = λ id. (c.args.self.now.first ≤ id) × (id < c.args.self.now.last) in (
      λ t. absurd (false≢true t),
      λ some. absurd (any_none P (subst (Any P)
          (drop_all c.loop-id.id-index c.as_slice-id-items.result.now c.loop-id-test.false)
          (c.loop-id.invariant (subst (Any P) (sym c.as_slice-id-items.ensures) some)))),
    )
