use Rattle.std.proofs.Common.{subst, sym}
use Rattle.route_words.specs.inner.Forms.{Makes, bare_app, route_app}
use Rattle.route_words.proofs.Forming.{none_make, route_is_plain}
use Rattle.route_words.proofs.Holding.{route_found_in, route_refused}
use Rattle.route_words.proofs.form.find_route.Goals as goal

pub returns-in-Ok : goal.returns-in-Ok
returns-in-Ok c =
    let none = subst (λ args. Makes args bare_app) (sym c.new-args.ensures.items) none_make in
    route_found_in c.args.words.now _
    (c.in-Ok.ensures route_app (c.in_ok-push_route.ensures {u = tt} bare_app none) route_is_plain)

pub returns-in-Err : goal.returns-in-Err
returns-in-Err c =
    let none = subst (λ args. Makes args bare_app) (sym c.new-args.ensures.items) none_make in
    rw c.fault_by.ensures (route_refused c.args.words.now c.in-Err.error
    (c.in-Err.ensures route_app (c.in_ok-push_route.ensures {u = tt} bare_app none) route_is_plain))
