use Rattle.std.proofs.Common.{◌∙◌, ◌++◌, [], ◌∷◌, List, ap, sym, take}
use Rattle.std.proofs.lemmas.List.{take_more}
use Rattle.pcb_model.specs.declared.item.Metal.{Metal}
use Rattle.board_offers.proofs.copy.copy_metals.Goals as goal

pub loop-m-preserved : goal.loop-m-preserved
loop-m-preserved c =
    let metals = c.args.metals.now in
    let i = c.loop-m.m-index in
    c.in_ok-push.ensures.ok ∙ ap (λ (ms : List Metal). ms ++ c.in_ok-copy_metal.field-0 ∷ []) c.loop-m.invariant
    ∙ ap (λ (m : Metal). take i metals ++ m ∷ []) (c.in_ok-copy_metal.ensures ∙ c.m-item.is)
    ∙ sym (take_more metals i c.m-item.result c.loop-m-test.true)
