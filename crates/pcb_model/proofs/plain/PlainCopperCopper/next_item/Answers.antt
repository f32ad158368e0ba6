use Rattle.std.proofs.Common.{◌≡◌, ◌<◌, List, length, arith, sym, subst}
use Rattle.pcb_model.specs.declared.item.Item.{Item}
use Rattle.pcb_model.specs.Copper.{Ascends, IsFirstFrom}
use Rattle.pcb_model.proofs.First.{first_is}
use Rattle.pcb_model.proofs.plain.PlainCopperCopper.next_item.Goals as goal

pub place_of-i-requires : goal.place_of-i-requires
place_of-i-requires c = subst Ascends (sym c.as_slice-items.ensures) c.self.invariant.ascends

pub returns : goal.returns
returns c =
    let n = c.if-i-items.false in
    let items = c.as_slice-items.result.now in
    let b = c.index-items-i.result in
    let within : c.place_of-i.result < length items = omega (arith, n, c.place_of-i.ensures.bound) in
    let F : List Item → Type 0 = λ xs. IsFirstFrom c.args.from xs b in
    let s = c.as_slice-items.ensures in
    let v = c.self.view_is in
    let e : items ≡ c.args.self.now = cc in
    subst F e
    (first_is items c.args.from c.place_of-i.result b
    (subst Ascends (sym c.as_slice-items.ensures) c.self.invariant.ascends) within c.index-items-i.is
    c.place_of-i.ensures.below (c.place_of-i.ensures.above c.place_of-i.result b (omega arith) within))
