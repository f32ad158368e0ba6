use Rattle.std.proofs.Common.{subst, sym}
use Rattle.route_words.specs.inner.Forms.{Makes, bare_app, gen_app}
use Rattle.route_words.proofs.Forming.{none_make, gen_is_plain}
use Rattle.route_words.proofs.Holding.{gen_found_in, gen_refused}
use Rattle.route_words.proofs.form.find_gen.Goals as goal

pub returns-in-Ok : goal.returns-in-Ok
returns-in-Ok c =
    let none = subst (λ args. Makes args bare_app) (sym c.new-args.ensures.items) none_make in
    gen_found_in c.args.words.now _
    (c.in-Ok.ensures gen_app (c.in_ok-push_name.ensures {u = tt} bare_app none) gen_is_plain)

pub returns-in-Err : goal.returns-in-Err
returns-in-Err c =
    let none = subst (λ args. Makes args bare_app) (sym c.new-args.ensures.items) none_make in
    rw c.fault_by.ensures (gen_refused c.args.words.now c.in-Err.error
    (c.in-Err.ensures gen_app (c.in_ok-push_name.ensures {u = tt} bare_app none) gen_is_plain))
