use Rattle.std.proofs.Common.{ℕ, arith, refl, below_more}
use Rattle.cut_certificate.specs.Border.{LeadsOut, IsListed}
use Rattle.cut_certificate.proofs.border.MoveNodes.all_listed.Goals as goal

pub loop-i-preserved : goal.loop-i-preserved
loop-i-preserved g c =
    below_more (λ (i : ℕ). LeadsOut (g.M.Moves.graph c.args.self.now.on).at c.args.self.now.nodes.now c.args.node i
    → IsListed c.args.blocked.now c.args.node i) c.loop-i.i c.loop-i.invariant
    (c.stays_or_listed.ensures.0 c.if-not-stays_or_listed.false)

pub returns : goal.returns
returns g c =
    (λ _ index h. c.loop-i.invariant index (omega (arith, h, c.arity-i-end.ensures, c.loop-i-test.false)), λ _. refl)
