use Rattle.std.proofs.Common.{subst, sym}
use Rattle.route_words.specs.inner.Forms.{Makes, bare_app, check_app}
use Rattle.route_words.proofs.Forming.{none_make, check_is_plain}
use Rattle.route_words.proofs.Holding.{check_found_in, check_refused}
use Rattle.route_words.proofs.form.find_check.Goals as goal

pub returns-in-Ok : goal.returns-in-Ok
returns-in-Ok c =
    let none = subst (λ args. Makes args bare_app) (sym c.new-args.ensures.items) none_make in
    check_found_in c.args.words.now _
    (c.in-Ok.ensures check_app (c.in_ok-push_check.ensures {u = tt} bare_app none) check_is_plain)

pub returns-in-Err : goal.returns-in-Err
returns-in-Err c =
    let none = subst (λ args. Makes args bare_app) (sym c.new-args.ensures.items) none_make in
    rw c.fault_by.ensures (check_refused c.args.words.now c.in-Err.error
    (c.in-Err.ensures check_app (c.in_ok-push_check.ensures {u = tt} bare_app none) check_is_plain))
