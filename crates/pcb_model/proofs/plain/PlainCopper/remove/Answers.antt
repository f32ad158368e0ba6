use Rattle.std.proofs.Common.{◌≡◌, ◌<◌, List, length, arith, sym, ap, ◌∙◌, subst, get_or}
use Rattle.std.specs.Prelude.{remove}
use Rattle.std.proofs.lemmas.Option.{get_or_from_slice_get}
use Rattle.pcb_model.specs.declared.item.Item.{Item}
use Rattle.pcb_model.specs.declared.near.Extent.{Extent}
use Rattle.pcb_model.specs.Near.{IsExtentOf}
use Rattle.pcb_model.specs.Copper.{IsPlain, Removes, Ascends}
use Rattle.pcb_model.proofs.First.{zip_length}
use Rattle.pcb_model.proofs.Changed.{plain_remove}
use Rattle.pcb_model.proofs.plain.PlainCopper.remove.Goals as goal

pub remove-requires : goal.remove-requires
remove-requires c =
    let l = subst (λ (xs : List Item). c.in-Some.i < length xs) c.as_slice.ensures c.in-Some.ensures.within in
    omega (
      arith,
      l,
      zip_length (λ (a : Item) (e : Extent). IsExtentOf a.pieces e) c.self.inside.items
          c.self.inside.extents c.self.invariant.paired,
    )

pub invariant_of-self : goal.invariant_of-self
invariant_of-self c =
    let l = subst (λ (xs : List Item). c.in-Some.i < length xs) c.as_slice.ensures c.in-Some.ensures.within in
    let p = plain_remove c.self.inside.items c.self.inside.extents c.in-Some.i c.self.invariant l in
    subst (λ (xs : List Item). IsPlain xs c.remove.new.self) (sym c.remove-in-Some.ensures.rest)
    (subst (IsPlain (remove c.self.inside.items c.in-Some.i)) (sym c.remove.ensures.rest) p)

pub returns-in-Some-clause-some : goal.returns-in-Some-clause-some
returns-in-Some-clause-some c =
    let v = c.self.view_is in
    let e : c.self.inside.items ≡ c.args.self.now = cc in
    let b = c.remove-in-Some.result in
    let at = get_or_from_slice_get c.self.inside.items c.in-Some.i b b c.remove-in-Some.ensures.value in
    let same = ap (λ (xs : List Item). (get_or xs c.in-Some.i b).id) (sym c.as_slice.ensures) in (
      ap (λ (x : Item). x.id) (sym at) ∙ same ∙ c.in-Some.ensures.id_is b,
      subst (λ (xs : List Item). Removes xs b c.remove-in-Some.new.self) e
          (record {
            place = c.in-Some.i;
            there = c.remove-in-Some.ensures.value;
            rest_is = c.remove-in-Some.ensures.rest;
          }),
    )

pub index_of-requires : goal.index_of-requires
index_of-requires c = subst Ascends (sym c.as_slice.ensures) c.self.invariant.ascends
