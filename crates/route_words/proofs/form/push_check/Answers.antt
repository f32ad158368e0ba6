use Rattle.std.proofs.lemmas.Result.{IfOk-weaker}
use Rattle.route_words.proofs.form.push_check.Goals as goal

pub returns : goal.returns
returns c =
    IfOk-weaker c.push_name-3.result _ _ (λ _ last app made.
    let input = c.in_ok-push_name.ensures {u = tt} app made in
    last _ (c.in_ok-push_name-2.ensures {u = tt} _ input)) c.push_name-3.ensures
