use Rattle.std.proofs.Common.{ℕ, ◌==◌, ◌++◌, ◌∷◌, [], List, Bool, cond, ap, ◌∙◌}
use Rattle.std.specs.List.{list_any}
use Rattle.plane_joins.specs.declared.area.PlaneArea.{PlaneArea}
use Rattle.plane_stubs.proofs.Adding.{kept_or_not}
use Rattle.plane_stubs.proofs.nets.nets_of.Goals as goal

pub loop-net-preserved : goal.loop-net-preserved
loop-net-preserved c =
    let has : ℕ → Bool = λ net. list_any (λ (p : PlaneArea). p.net == net) c.args.planes.now in
    let net = c.loop-net.net in
    c.in_ok-push_net.ensures
    ∙ ap (λ (ns : List ℕ). ns ++ cond (has net) (net ∷ []) []) c.loop-net.invariant
    ∙ kept_or_not has net
