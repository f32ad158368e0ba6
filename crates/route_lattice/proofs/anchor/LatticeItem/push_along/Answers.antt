use Rattle.std.proofs.Common.{ℕ, subst}
use Rattle.route_lattice.specs.Found.{Gains, IsAnchorIn, IsAnchorNode, point_at}
use Rattle.route_lattice.proofs.Gaining.{gains_first, gains_more, gains_all}
use Rattle.route_lattice.proofs.anchor.LatticeItem.push_along.Goals as goal

pub loop-k-init : goal.loop-k-init
loop-k-init c = gains_first _ _ _ _

pub loop-k-preserved : goal.loop-k-preserved
loop-k-preserved c =
    let a = c.args in
    gains_more _ _ _ _ _ _ _ c.loop-k.invariant
    (subst (λ (n : ℕ).
    Gains (IsAnchorIn a.self.now.d a.self.now.lat a.self.now.item (point_at a.chain.now n)
    (point_at a.chain.now c.loop-k.k))
    (IsAnchorNode a.self.now.d a.self.now.lat a.self.now.item) c.loop-k.found.items c.push_between.new.found.items)
    c.saturating_sub.ensures c.in_ok-push_between.ensures)

pub returns : goal.returns
returns c = gains_all _ _ _ _ _ _ _ c.loop-k-test.false c.loop-k.invariant
