use Rattle.std.proofs.Common.{refl}
use Rattle.std.specs.Prelude.{Contains}
use Rattle.std.proofs.lemmas.Bool.{false≢true}
use Rattle.std.proofs.lemmas.List.Elements.{All-contains, Contains-get_or}
use Rattle.cut_certificate.proofs.Each.{each_more, each_true, unless}
use Rattle.cut_check.proofs.outward.Marked.holds_none.Goals as goal

pub returns-then-has : goal.returns-then-has
returns-then-has g c = (
  λ t. absurd (false≢true t),
  λ h. absurd (h.none _ (Contains-get_or c.args.goals.now c.loop-node.node-index _ c.loop-node-test.true)
      (c.has.ensures.0 c.if-has.true)),
)

pub loop-node-preserved : goal.loop-node-preserved
loop-node-preserved g c = each_more (λ v. Contains c.args.self.now.nodes v → ⊥) c.args.goals.now
    c.loop-node.node-index _ c.loop-node-test.true c.loop-node.invariant
    (unless c.has.result _ c.has.ensures c.if-has.false)

pub returns : goal.returns
returns g c = (
  λ t. record {
    none = λ v h. All-contains (λ v. Contains c.args.self.now.nodes v → ⊥) c.args.goals.now v
        ((each_true (λ v. Contains c.args.self.now.nodes v → ⊥) c.args.goals.now c.loop-node.node-index
        c.loop-node-test.false c.loop-node.invariant).0 refl) h;
  },
  λ h. refl,
)
