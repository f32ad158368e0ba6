use Rattle.std.proofs.Common.{sym, ◌∙◌, true≢false, pos, refl}
use Rattle.geo_kernel.specs.Close.{IsClose}
use Rattle.geo_kernel.proofs.Paths.{any_next, any_stops, any_none}
use Rattle.geo_kernel.proofs.close.CloseTo.is_path.Goals as goal

pub returns-then-is_pair : goal.returns-then-is_pair
returns-then-is_pair c =
    let P = IsClose c.args.self.now.how c.args.self.now.k.value
    (record { from = c.args.g.from.at; to = c.args.g.to.at }) in (
      λ t. any_stops P c.args.path.now.start c.loop-p.last (record { x = pos 0; y = pos 0 }) c.args.path.now.rest.now
          c.loop-p.p-index c.loop-p.invariant.1 c.loop-p-test.true (c.is_pair.ensures.0 c.if-is_pair.true),
      λ h. refl,
    )

pub loop-p-preserved : goal.loop-p-preserved
loop-p-preserved c =
    let P = IsClose c.args.self.now.how c.args.self.now.k.value
    (record { from = c.args.g.from.at; to = c.args.g.to.at }) in (
      (c.args.path.now.rest_movable c.loop-p.p-index _ c.loop-p-test.true).0,
      any_next P c.args.path.now.start c.loop-p.last (record { x = pos 0; y = pos 0 }) c.args.path.now.rest.now
          c.loop-p.p-index c.loop-p.invariant.1 c.loop-p-test.true
          (λ x. true≢false (sym (c.is_pair.ensures.1 x) ∙ c.if-is_pair.false)),
    )

pub returns : goal.returns
returns c =
    any_none (IsClose c.args.self.now.how c.args.self.now.k.value
    (record { from = c.args.g.from.at; to = c.args.g.to.at })) c.args.path.now.start c.loop-p.last
    (record { x = pos 0; y = pos 0 }) c.args.path.now.rest.now c.loop-p.p-index c.loop-p.invariant.1
    c.loop-p-test.false
