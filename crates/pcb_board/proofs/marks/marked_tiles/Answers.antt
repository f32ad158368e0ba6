use Rattle.std.proofs.Common.{◌≡◌, ◌<◌, List, Some, length, take, refl, sym, ◌∙◌, ap, subst, arith}
use Rattle.std.specs.Prelude.{All, slice_get}
use Rattle.std.specs.List.{filter}
use Rattle.std.proofs.lemmas.List.{take_all}
use Rattle.std.proofs.lemmas.Option.{slice_get_read}
use Rattle.std.proofs.lemmas.List.Elements.{All-filter}
use Rattle.pcb_model.specs.declared.item.Item.{Item}
use Rattle.pcb_board.specs.Snaps.{AreTilesOf}
use Rattle.pcb_tiles.specs.Spread.{Spread}
use Rattle.pcb_board.specs.inner.Turning.{is_marked}
use Rattle.pcb_board.proofs.Opening.{fronts}
use Rattle.pcb_board.proofs.Turns.{passes_more, fails_more}
use Rattle.pcb_board.proofs.marks.marked_tiles.Goals as goal
use Rattle.pcb_board.proofs.marks.marked_tiles.Goals.{then-is_marked+in-Ok, else-is_marked}

pub loop-item-init : goal.loop-item-init
loop-item-init c = record {
  items = c.in_ok-tiles.ensures.empty;
  spread = c.in_ok-tiles.ensures.spread;
}

pub add_copy-requires-clause-above : goal.add_copy-requires-clause-above
add_copy-requires-clause-above c =
    let given = c.args.given.now in
    let i = c.loop-item.item-index in
    let at : slice_get c.args.given.now c.loop-item.item-index ≡ Some c.item-item.result =
    slice_get_read given (length given) i c.item-item.result refl c.loop-item-test.true c.item-item.is in
    let here = (c.requires.given i c.item-item.result at).numbered in
    let below : All (λ (b : Item). b.id < c.item-item.result.id) (take c.loop-item.item-index c.args.given.now) =
    fronts (λ (b : Item). b.id < c.item-item.result.id) i given
    (λ j b less e. let first = (c.requires.given j b e).numbered in omega (arith, first, here, less)) in
    subst (λ (xs : List Item). All (λ (b : Item). b.id < c.item-item.result.id) xs) (sym c.loop-item.invariant.items)
    (All-filter (λ (a : Item). is_marked c.args.marks.now a.id) (λ (b : Item). b.id < c.item-item.result.id)
    (take i given) below)

pub add_copy-requires-clause-fits : goal.add_copy-requires-clause-fits
add_copy-requires-clause-fits c =
    let given = c.args.given.now in
    let at : slice_get c.args.given.now c.loop-item.item-index ≡ Some c.item-item.result =
    slice_get_read given (length given) c.loop-item.item-index c.item-item.result refl c.loop-item-test.true
    c.item-item.is in
    (c.requires.given c.loop-item.item-index c.item-item.result at).fits.fits

pub loop-item-preserved : goal.loop-item-preserved
loop-item-preserved c =
    elim c.if-is_marked.branch [
      | then-is_marked+in-Ok w ↦
          let is = w.tiles-is ∙ w.in-Ok.ensures.ok in record {
            items = passes_more (λ (a : Item). is_marked c.args.marks.now a.id) c.args.given.now c.loop-item.tiles.items
                c.if-is_marked.tiles.items c.loop-item.item-index c.item-item.result c.loop-item-test.true
                c.item-item.is (sym c.is_marked.ensures ∙ w.if-is_marked.true) c.loop-item.invariant.items
                (ap (λ (t : Spread). t.items) is);
            spread = subst (λ (t : Spread). AreTilesOf c.args.d.now t.area t.reach) (sym is)
                c.loop-item.invariant.spread;
          }
      | else-is_marked w ↦ record {
        items = fails_more (λ (a : Item). is_marked c.args.marks.now a.id) c.args.given.now c.loop-item.tiles.items
            c.if-is_marked.tiles.items c.loop-item.item-index c.item-item.result c.loop-item-test.true
            c.item-item.is (sym c.is_marked.ensures ∙ w.if-is_marked.false) c.loop-item.invariant.items
            (ap (λ (t : Spread). t.items) w.tiles-is);
        spread = subst (λ (t : Spread). AreTilesOf c.args.d.now t.area t.reach) (sym w.tiles-is)
            c.loop-item.invariant.spread;
      }
    ]

pub returns-clause-items : goal.returns-clause-items
returns-clause-items c =
    c.loop-item.invariant.items
    ∙ ap (filter (λ (a : Item). is_marked c.args.marks.now a.id))
    (take_all c.loop-item.item-index c.args.given.now c.loop-item-test.false)
