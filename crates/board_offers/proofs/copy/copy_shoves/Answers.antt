use Rattle.std.proofs.Common.{◌∙◌, ◌++◌, [], ◌∷◌, List, ap, sym, take}
use Rattle.std.proofs.lemmas.List.{take_more}
use Rattle.geo_kernel.specs.declared.point.Point.{Point}
use Rattle.board_offers.specs.declared.offer.Shoved.{Shoved}
use Rattle.board_offers.proofs.copy.copy_shoves.Goals as goal

pub loop-s-preserved : goal.loop-s-preserved
loop-s-preserved c =
    let shoves = c.args.shoves.now in
    let i = c.loop-s.s-index in
    let reshaped : List Point → Shoved = λ points. record { id = c.s-item.result.id; chain = points } in
    c.in_ok-push.ensures.ok
    ∙ ap (λ (ss : List Shoved). ss ++ reshaped c.in_ok-from_slice.field-0 ∷ []) c.loop-s.invariant
    ∙ ap (λ (s : Shoved). take i shoves ++ s ∷ [])
    (ap reshaped (c.in_ok-from_slice.ensures ∙ c.as_slice.ensures) ∙ c.s-item.is)
    ∙ sym (take_more shoves i c.s-item.result c.loop-s-test.true)
