use Rattle.std.proofs.Common.{◌≡◌, ◌∙◌, ap, arith, length, refl, rules}
use Rattle.std.proofs.lemmas.List.{length-append}
use Rattle.searcher_pool.specs.Inputs.{pass_of}
use Rattle.route_run.specs.inner.Passing.{untasked}
use Rattle.route_run.proofs.Worked.{made_from}
use Rattle.route_run.proofs.state.one_pass.Goals as goal

pub overflow_sub-line : goal.overflow_sub-line
overflow_sub-line g c =
    let worked = c.in_ok-board.ensures in
    let longer = ap length worked.grows.history ∙ length-append c.args.board.history worked.grows.entries in
    let before : c.len-before.result ≡ length c.args.board.history = search rules in
    let after : c.len.result ≡ length c.in_ok-board.board.history = search rules in
    omega (arith, before, after, longer)

pub returns-clause-made : goal.returns-clause-made
returns-clause-made g c =
    let old = c.args.board in
    let worked = c.in_ok-board.ensures in
    let longer = ap length worked.grows.history ∙ length-append old.history worked.grows.entries in
    let before : c.len-before.result ≡ length old.history = search rules in
    let after : c.len.result ≡ length c.in_ok-board.board.history = search rules in
    made_from (untasked (pass_of c.args.input)) old c.in_ok-board.board c.in_ok-board.full _ c.in_ok-open_nets.open_nets
    worked (omega (arith, before, after, longer)) c.in_ok-open_nets.ensures refl
