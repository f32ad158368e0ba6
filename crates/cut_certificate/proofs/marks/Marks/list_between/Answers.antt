use Rattle.std.proofs.Common.{◌≡◌, ◌+◌, true≢false, sym, subst, ◌∙◌, arith}
use Rattle.cut_certificate.specs.inner.Marks.{AreListed}
use Rattle.cut_certificate.proofs.Marking.{listed_more, listed_same}
use Rattle.cut_certificate.proofs.marks.Marks.list_between.Goals as goal
use Rattle.cut_certificate.proofs.marks.Marks.list_between.Goals.{then-has+in_ok-push, else-has}

pub loop-node-init : goal.loop-node-init
loop-node-init c = (c.requires.order, c.requires.before)

pub loop-node-preserved : goal.loop-node-preserved
loop-node-preserved c =
    let marks = c.args.self.now in
    let node = c.loop-node.node in (
      omega (arith, c.loop-node-test.true),
      elim c.if-has.branch [
        | then-has+in_ok-push w ↦ subst (AreListed marks (node + 1)) (sym (w.nodes-is ∙ w.in_ok-push.ensures.ok))
            (listed_more marks node c.loop-node.nodes c.loop-node.invariant.1 (c.has.ensures.0 w.if-has.true))
        | else-has w ↦ subst (AreListed marks (node + 1)) (sym w.nodes-is)
            (listed_same marks node c.loop-node.nodes c.loop-node.invariant.1
            (λ m. true≢false (sym (c.has.ensures.1 m) ∙ w.if-has.false)))
      ],
    )

pub returns : goal.returns
returns c =
    let ends : c.loop-node.node ≡ c.args.last = omega (arith, c.loop-node.invariant.0, c.loop-node-test.false) in
    subst (λ n. AreListed c.args.self.now n c.loop-node.nodes) ends c.loop-node.invariant.1
