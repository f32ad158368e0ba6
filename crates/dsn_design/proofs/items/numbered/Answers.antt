use Rattle.std.proofs.Common.{◌≡◌, ◌+◌, ◌∙◌, ◌++◌, [], ◌∷◌, ap, sym, length, arith}
use Rattle.dsn_design.specs.Items.{with_id}
use Rattle.dsn_design.proofs.Laid.{numbered_long, numbered_push}
use Rattle.dsn_design.proofs.items.numbered.Goals as goal

pub loop-item-preserved : goal.loop-item-preserved
loop-item-preserved c =
    let all = c.loop-item.all in
    let ys = c.loop-item.yielded in
    let item = c.in-Some.item in
    let z : length ys ≡ 0 + length ys = omega arith in
    let n : c.len.result ≡ 0 + length ys = c.len.ensures ∙ ap length c.loop-item.invariant ∙ numbered_long 0 ys ∙ z in
    c.in_ok-push.ensures.ok ∙ ap (λ k. all ++ with_id k item ∷ []) n
    ∙ ap (λ xs. xs ++ with_id (0 + length ys) item ∷ []) c.loop-item.invariant ∙ sym (numbered_push 0 ys item)
