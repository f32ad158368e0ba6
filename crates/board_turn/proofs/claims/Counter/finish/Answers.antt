use Rattle.std.proofs.Common.{◌≤◌, arith, ap, sym, ◌∙◌}
use Rattle.board_turn.specs.declared.claims.Hand.{Hand}
use Rattle.board_turn.specs.Claims.{times, once_below, Claim, CounterOf}
use Rattle.board_turn.proofs.ClaimMoves.{all_drawn}
use Rattle.board_turn.proofs.claims.Counter.finish.Goals as goal

pub free-requires : goal.free-requires
free-requires c k low = let n = c.close_with.ensures.counts in let z = c.self.invariant in absurd (omega arith)

pub returns : goal.returns
returns c x =
    let same = ap (λ (k : Claim). k.hand) c.me.view_is in
    let tasks = c.self.invariant.2 ∙ ap (λ (k : CounterOf). k.tasks) c.self.view_is in
    let floor : c.self.inside.table.shared.key ≤ c.me.inside.seat.me.0.floor = let y = ap
    (λ (k : Hand). k.floor) same in omega (arith, c.requires.all.1, tasks) in
    ap (λ (v : Hand). times x v.drawn) (sym same)
    ∙ all_drawn _ _ c.me.inside.seat.me.0 _ _ (ap (λ (v : Hand). v.shares) same
    ∙ c.requires.all.0) floor c.close_with.ensures.values.2 x ∙ ap (once_below x) tasks
