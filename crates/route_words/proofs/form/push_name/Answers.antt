use Rattle.std.proofs.lemmas.Result.{IfOk-weaker}
use Rattle.route_words.proofs.Forming.{adds_one}
use Rattle.route_words.proofs.form.push_name.Goals as goal

pub returns : goal.returns
returns c =
    IfOk-weaker c.push.result _ _ (λ _ is. adds_one c.args.args.now.items c.push.new.list.items c.new.result _ is
    c.new.ensures.rule c.new.ensures.optional.1) c.push.ensures
