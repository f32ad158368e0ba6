use Rattle.std.proofs.lemmas.Result.{IfOk-weaker}
use Rattle.route_words.proofs.form.push_route.Goals as goal

pub returns : goal.returns
returns c =
    IfOk-weaker c.push_flag-2.result _ _ (λ _ last app made.
    let input = c.in_ok-push_name.ensures {u = tt} app made in
    let output = c.in_ok-push_name-2.ensures {u = tt} _ input in
    let grid = c.in_ok-push_valued.ensures {u = tt} _ output in
    let workers = c.in_ok-push_valued-2.ensures {u = tt} _ grid in
    let passes = c.in_ok-push_valued-3.ensures {u = tt} _ workers in
    let cost = c.in_ok-push_valued-4.ensures {u = tt} _ passes in
    let tries = c.in_ok-push_valued-5.ensures {u = tt} _ cost in
    let omits = c.in_ok-push_flag.ensures {u = tt} _ tries in
    last _ (c.in_ok-push_valued-6.ensures {u = tt} _ omits)) c.push_flag-2.ensures
