use Rattle.std.proofs.Common.{◌≡◌, ℕ, subst, arith}
use Rattle.pcb_board.specs.inner.Turning.{IsRangePut}
use Rattle.pcb_board.proofs.marks.mark_range.Goals as goal

pub returns : goal.returns
returns c =
    let end : c.loop-place.place ≡ c.args.to = omega (arith, c.requires.rises) in
    subst (λ (n : ℕ). IsRangePut c.args.from n c.args.marks.now.items c.loop-place.marks.items) end
    c.loop-place.invariant
