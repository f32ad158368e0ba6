use Rattle.std.proofs.Common.{◌∙◌, sym, ap, arith}
use Rattle.pcb_model.specs.declared.item.Item.{Item}
use Rattle.pcb_model.proofs.First.{nowhere}
use Rattle.pcb_model.proofs.search.index_of.Goals as goal

pub returns : goal.returns
returns c =
    nowhere c.args.items.now c.place_of-i.result c.args.id c.index-items-i.result c.requires
    (let n = c.if-i-items.false in omega (arith, n, c.place_of-i.ensures.bound)) c.index-items-i.is
    c.place_of-i.ensures.below c.place_of-i.ensures.above
    (λ e. c.if-items-i.false (ap (λ (b : Item). b.id) (sym c.index-items-i.is) ∙ e))
