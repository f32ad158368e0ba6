use Rattle.std.proofs.Common.{◌≡◌, List, length, All, Some, refl, subst, arith}
use Rattle.std.specs.Prelude.{slice_get}
use Rattle.std.proofs.lemmas.Option.{slice_get_within, slice_get_read}
use Rattle.pcb_model.specs.declared.item.Item.{Item}
use Rattle.pcb_model.specs.declared.item.Metal.TheVariants.{Pad}
use Rattle.pcb_islands.specs.inner.Progress.{IsPadAt}
use Rattle.pcb_islands.proofs.Pads.{has_pad, is_pad_of}
use Rattle.pcb_islands.proofs.pad.pad_of.Goals as goal

pub unreachable-requires : goal.unreachable-requires
unreachable-requires c =
    has_pad c.args.d.now c.requires.sound c.args.pin c.requires.pin
    (subst (λ (fixed : List Item). All (λ (a : Item). a.metal ≡ Pad c.args.pin → ⊥) fixed) c.as_slice-fixed.ensures
    c.in_default.ensures)

pub offset_bounds-fixed-place : goal.offset_bounds-fixed-place
offset_bounds-fixed-place c =
    let within = slice_get_within c.as_slice-fixed.result.now c.in-Some.place c.in-Some.ensures.pad
    c.in-Some.ensures.there in
    omega (arith, within, c.as_slice-fixed.type_inv.1)

pub bounds-fixed-place : goal.bounds-fixed-place
bounds-fixed-place c =
    slice_get_within c.as_slice-fixed.result.now c.in-Some.place c.in-Some.ensures.pad c.in-Some.ensures.there

pub returns : goal.returns
returns c =
    let fixed = c.as_slice-fixed.result.now in
    let within = slice_get_within fixed c.in-Some.place c.in-Some.ensures.pad c.in-Some.ensures.there in
    let there : slice_get fixed c.in-Some.place ≡ Some c.index-fixed-place.result =
    slice_get_read fixed (length fixed) c.in-Some.place c.index-fixed-place.result refl within c.index-fixed-place.is in
    is_pad_of c.args.d.now c.args.pin c.in-Some.place c.index-fixed-place.result
    (subst (λ (xs : List Item). IsPadAt xs c.args.pin c.in-Some.place) c.as_slice-fixed.ensures c.in-Some.ensures)
    (subst (λ (xs : List Item). slice_get xs c.in-Some.place ≡ Some c.index-fixed-place.result) c.as_slice-fixed.ensures
    there)
