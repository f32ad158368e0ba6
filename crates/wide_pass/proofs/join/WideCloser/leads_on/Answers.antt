use Rattle.std.proofs.Common.{◌≡◌, ◌∙◌, List, Some, ap, arith, length, get_or, subst, sym}
use Rattle.std.specs.Prelude.{slice_get}
use Rattle.std.proofs.lemmas.Option.{slice_get-get_or}
use Rattle.pcb_model.specs.declared.design.Design.{Design}
use Rattle.pcb_islands.specs.Islands.{AreIslands}
use Rattle.cut_certificate.specs.declared.cut.Cut.{Cut}
use Rattle.wide_pass.specs.inner.Sizes.{LooksAtPlace}
use Rattle.wide_pass.proofs.Sizing.{adds_all, adds_empty, adds_more, adds_none, has_cut_at, open_here}
use Rattle.wide_pass.proofs.join.WideCloser.leads_on.Goals as goal

pub returns-then-is_empty : goal.returns-then-is_empty
returns-then-is_empty c = adds_empty c.args.self.now.lat.now c.args.self.now.via_cost c.args.snap.now c.args.cuts.now
    c.args.wide.now (sym c.is_empty.ensures ∙ c.if-is_empty.true)

pub loop-place-init : goal.loop-place-init
loop-place-init c = record {
  islands = subst (λ (d : Design). AreIslands d c.args.snap.now.items c.args.net c.in_ok-found.found) c.design.ensures
      c.in_ok-found.ensures;
  sizes = adds_none c.args.self.now.lat.now c.args.self.now.via_cost c.args.snap.now c.args.wide.now;
}

pub bounds-as_slice-place : goal.bounds-as_slice-place
bounds-as_slice-place c =
    let count = c.len-place-end.ensures in
    let test = c.loop-place-test.true in
    let cuts = ap (λ (xs : List Cut). length xs) c.as_slice.ensures in
    omega (arith, count, test, cuts)

pub size_at-requires : goal.size_at-requires
size_at-requires c =
    let place = c.loop-place.place in
    let cut = c.index-as_slice-place.result in
    let count = c.len-place-end.ensures in
    let test = c.loop-place-test.true in
    let cuts = ap (λ (xs : List Cut). length xs) c.as_slice.ensures in
    let at : slice_get c.args.cuts.now place ≡ Some cut =
    ap (λ (xs : List Cut). slice_get xs place) (sym c.as_slice.ensures)
    ∙ slice_get-get_or c.as_slice.result.now place cut (omega (arith, count, test, cuts))
    ∙ ap (λ (x : Cut). Some x) (sym c.index-as_slice-place.is) in
    has_cut_at c.args.self.now.lat.now c.args.self.now.via_cost c.args.snap.now c.args.net c.loop-place.found
    c.args.cuts.now c.requires.can c.requires.ends (sym c.is_empty.ensures ∙ c.if-is_empty.false)
    c.loop-place.invariant.islands place cut at

pub returns : goal.returns
returns c =
    let count = c.len-place-end.ensures in
    let test = c.loop-place-test.false in
    adds_all c.args.self.now.lat.now c.args.self.now.via_cost c.args.snap.now c.args.cuts.now c.loop-place.place
    c.args.wide.now c.loop-place.wide (omega (arith, count, test)) c.loop-place.invariant.sizes

pub returns-in-None : goal.returns-in-None
returns-in-None c =
    let m = c.args.self.now.lat.now in
    let cost = c.args.self.now.via_cost in
    let place = c.loop-place.place in
    let cut = c.index-as_slice-place.result in
    let count = c.len-place-end.ensures in
    let test = c.loop-place-test.true in
    let cuts = ap (λ (xs : List Cut). length xs) c.as_slice.ensures in
    let at : slice_get c.args.cuts.now place ≡ Some cut =
    ap (λ (xs : List Cut). slice_get xs place) (sym c.as_slice.ensures)
    ∙ slice_get-get_or c.as_slice.result.now place cut (omega (arith, count, test, cuts))
    ∙ ap (λ (x : Cut). Some x) (sym c.index-as_slice-place.is) in
    open_here m cost c.args.snap.now c.args.net c.loop-place.found c.args.cuts.now c.requires.can c.requires.ends
    (sym c.is_empty.ensures ∙ c.if-is_empty.false) c.loop-place.invariant.islands place cut at
    (subst (LooksAtPlace m cost c.args.snap.now cut) c.in-None.is c.in_ok-same.ensures.looks)

pub loop-place-preserved : goal.loop-place-preserved
loop-place-preserved c =
    let m = c.args.self.now.lat.now in
    let cost = c.args.self.now.via_cost in
    let place = c.loop-place.place in
    let cut = c.index-as_slice-place.result in
    let count = c.len-place-end.ensures in
    let test = c.loop-place-test.true in
    record {
      islands = subst (AreIslands c.args.snap.now.design c.args.snap.now.items c.args.net)
          (sym c.in_ok-same.ensures.found) c.loop-place.invariant.islands;
      sizes = adds_more m cost c.args.snap.now c.args.cuts.now place cut cut c.in-Some.size c.args.wide.now
          c.loop-place.wide c.push.new.self (omega (arith, count, test))
          (c.index-as_slice-place.is ∙ ap (λ (xs : List Cut). get_or xs place cut) c.as_slice.ensures)
          c.loop-place.invariant.sizes
          (subst (LooksAtPlace m cost c.args.snap.now cut) c.in-Some.is c.in_ok-same.ensures.looks)
          c.in_ok-push-in-Some.ensures.ok;
    }
