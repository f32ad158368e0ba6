use Rattle.std.proofs.Common.{suc, ◌≡◌, ◌+◌, ◌∙◌, ◌++◌, [], ◌∷◌, ap, sym, arith}
use Rattle.dsn_design.specs.Copper.{below}
use Rattle.dsn_wiring.proofs.Below.{range_push}
use Rattle.dsn_design.proofs.edges.below.Goals as goal

pub loop-layer-preserved : goal.loop-layer-preserved
loop-layer-preserved c =
    let i = c.loop-layer.layer in
    let e : i + 1 ≡ suc i = omega arith in
    let z : 0 + i ≡ i = omega arith in
    c.in_ok-push.ensures.ok ∙ ap (λ ls. ls ++ i ∷ []) c.loop-layer.invariant ∙ ap (λ k. below i ++ k ∷ []) (sym z)
    ∙ sym (ap below e ∙ range_push 0 i)
