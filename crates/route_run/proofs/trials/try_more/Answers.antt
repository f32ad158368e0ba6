use Rattle.std.proofs.Common.{◌≡◌, ◌∙◌, IfOk, inl, inr, length, rules, subst, sym}
use Rattle.std.proofs.lemmas.Iterator.Adapters.{YieldsList-from_vec}
use Rattle.std.proofs.lemmas.Iterator.Consumers.{YieldsList-turn}
use Rattle.std.proofs.lemmas.Result.{IfOk-at_ok}
use Rattle.route_run.specs.inner.States.{IsLaterOf, PassStateOf}
use Rattle.route_run.proofs.trials.try_more.Goals as goal

pub loop-passes-preserved : goal.loop-passes-preserved
loop-passes-preserved g c =
    let P : PassStateOf → Type 0 = IsLaterOf c.args.from.now in
    let all = c.in_ok-passes-items.passes-items.items in
    let items : c.into_iter-passes-iterator.result.rest.items ≡ all = search rules in
    let len : c.into_iter-passes-iterator.result.rest.len ≡ length all = search rules in
    let turn = YieldsList-turn (YieldsList-from_vec {s = c.into_iter-passes-iterator.result} all items len)
    c.loop-passes.yielded c.loop-passes.passes-iterator c.loop-passes.yielded_by c.next.result c.next.new.self
    c.in-Some.passes c.in-Some.is c.next.ensures.steps in
    let mine : IfOk c.in-Some.passes P =
    subst (λ r. IfOk r P) (sym turn.1)
    (c.in_ok-passes-items.ensures (length c.loop-passes.yielded) c.in-Some.passes turn.0) in
    let own : P c.in_ok-passes.field-0 = IfOk-at_ok P c.in_ok-passes.was mine in
    elim c.better-best.ensures [
      | inl is ↦ subst P (sym (is ∙ c.best-in-loop-passes.view_is)) c.loop-passes.invariant
      | inr is ↦ subst P (sym is) own
    ]
