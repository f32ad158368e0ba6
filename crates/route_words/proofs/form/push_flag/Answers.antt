use Rattle.std.proofs.lemmas.Result.{IfOk-weaker}
use Rattle.route_words.proofs.Forming.{adds_one, flag_is}
use Rattle.route_words.proofs.form.push_flag.Goals as goal

pub returns : goal.returns
returns c =
    let is = flag_is _ c.new.result c.long.result c.action.result c.new.ensures.rule c.new.ensures.optional.1
    c.long.ensures c.action.ensures in
    IfOk-weaker c.push.result _ _ (λ _ more. adds_one c.args.args.now.items c.push.new.list.items c.action.result _ more
    is.0 is.1) c.push.ensures
