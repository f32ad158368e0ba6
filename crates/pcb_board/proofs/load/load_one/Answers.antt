use Rattle.std.proofs.Common.{◌≡◌, ◌<◌, ℕ, Some, false, true≢false, length, refl, sym, ◌∙◌, ap, subst, rules}
use Rattle.std.specs.Prelude.{All}
use Rattle.pcb_model.specs.declared.item.Item.{Item}
use Rattle.pcb_model.specs.declared.item.Metal.{Metal}
use Rattle.pcb_model.specs.declared.design.FreeWire.{FreeWire}
use Rattle.pcb_model.specs.declared.design.Design.{Design}
use Rattle.pcb_model.specs.Pieces.{item_of}
use Rattle.pcb_model.specs.Bounds.{IsItemFit, IsMetalFit}
use Rattle.pcb_model.specs.Board.{IsLegal, IsRouted, IsMade}
use Rattle.pcb_board.specs.declared.load.Loaded.{Loaded}
use Rattle.pcb_board.specs.Boards.{free_item}
use Rattle.pcb_board.proofs.Starting.{free_given}
use Rattle.pcb_board.proofs.Loading.{loaded_serves, loaded_below, kept_more, kept_one, drop_kept, drop_one}
use Rattle.pcb_board.proofs.load.load_one.Goals as goal

-- what is made of a free item with the next id
made_is : (d : Design) (l : Loaded) (w : FreeWire) (id : ℕ) (metal : Metal) (item : Item)
    → id ≡ length l.given.items → metal ≡ w.metal → item ≡ item_of d id (Some w.net) false metal
    → item ≡ free_item d l.given.items w
made_is d l w id metal item id_is metal_is is =
    is ∙ ap (λ (n : ℕ). item_of d n (Some w.net) false metal) id_is
    ∙ ap (λ (m : Metal). item_of d (length l.given.items) (Some w.net) false m) metal_is

pub make_item-requires-clause-place : goal.make_item-requires-clause-place
make_item-requires-clause-place c = subst IsMetalFit (sym c.in_ok-metal.ensures) c.requires.wire.fits

pub make_item-requires-clause-padstacks : goal.make_item-requires-clause-padstacks
make_item-requires-clause-padstacks c = c.requires.sound.fits.padstacks_fit

pub fits-requires-clause-serves : goal.fits-requires-clause-serves
fits-requires-clause-serves c = loaded_serves c.args.d.now c.args.loaded.now c.requires.sound c.requires.kept

pub fits-requires-clause-above : goal.fits-requires-clause-above
fits-requires-clause-above c =
    let count : c.len-id.result ≡ length c.args.loaded.now.given.items = search rules in
    let is : c.in_ok-item.item.id ≡ length c.args.loaded.now.given.items =
    ap (λ (a : Item). a.id) c.in_ok-item.ensures ∙ count in
    subst (λ (n : ℕ). All (λ (a : Item). a.id < n) c.args.loaded.now.tiles.items) (sym is)
    (loaded_below c.args.d.now c.args.loaded.now c.requires.kept)

pub fits-requires-clause-fits : goal.fits-requires-clause-fits
fits-requires-clause-fits c =
    let count : c.len-id.result ≡ length c.args.loaded.now.given.items = search rules in
    let is = made_is c.args.d.now c.args.loaded.now c.args.w.now c.len-id.result c.in_ok-metal.metal c.in_ok-item.item
    count c.in_ok-metal.ensures c.in_ok-item.ensures in
    subst IsItemFit (sym is)
    (free_given c.args.d.now c.args.loaded.now.given.items c.args.w.now c.requires.sound c.requires.wire).fits.fits

pub fits-requires-clause-routed : goal.fits-requires-clause-routed
fits-requires-clause-routed c = subst IsRouted (sym c.in_ok-item.ensures) refl

pub fits-requires-clause-made : goal.fits-requires-clause-made
fits-requires-clause-made c =
    let count : c.len-id.result ≡ length c.args.loaded.now.given.items = search rules in
    let is = made_is c.args.d.now c.args.loaded.now c.args.w.now c.len-id.result c.in_ok-metal.metal c.in_ok-item.item
    count c.in_ok-metal.ensures c.in_ok-item.ensures in
    subst (IsMade c.args.d.now) (sym is)
    ((free_given c.args.d.now c.args.loaded.now.given.items c.args.w.now c.requires.sound c.requires.wire).made refl)

pub fits-requires-clause-legal : goal.fits-requires-clause-legal
fits-requires-clause-legal c =
    subst (IsLegal c.args.d.now) (sym c.requires.kept.held) c.requires.kept.loaded.legal

pub keep-requires-clause-above : goal.keep-requires-clause-above
keep-requires-clause-above c =
    let count : c.len-id.result ≡ length c.args.loaded.now.given.items = search rules in
    let is : c.in_ok-item.item.id ≡ length c.args.loaded.now.given.items =
    ap (λ (a : Item). a.id) c.in_ok-item.ensures ∙ count in
    subst (λ (n : ℕ). All (λ (a : Item). a.id < n) c.args.loaded.now.tiles.items) (sym is)
    (loaded_below c.args.d.now c.args.loaded.now c.requires.kept)

pub keep-requires-clause-fits : goal.keep-requires-clause-fits
keep-requires-clause-fits c =
    let count : c.len-id.result ≡ length c.args.loaded.now.given.items = search rules in
    let is = made_is c.args.d.now c.args.loaded.now c.args.w.now c.len-id.result c.in_ok-metal.metal c.in_ok-item.item
    count c.in_ok-metal.ensures c.in_ok-item.ensures in
    subst IsItemFit (sym is)
    (free_given c.args.d.now c.args.loaded.now.given.items c.args.w.now c.requires.sound c.requires.wire).fits.fits

pub returns-then-fits-clause-kept : goal.returns-then-fits-clause-kept
returns-then-fits-clause-kept c =
    let d = c.args.d.now in
    let count : c.len-id.result ≡ length c.args.loaded.now.given.items = search rules in
    let is = made_is c.args.d.now c.args.loaded.now c.args.w.now c.len-id.result c.in_ok-metal.metal c.in_ok-item.item
    count c.in_ok-metal.ensures c.in_ok-item.ensures in
    kept_more d c.args.loaded.now c.keep.new.loaded c.args.w.now c.in_ok-item.item c.keep.result c.requires.sound
    c.requires.wire c.requires.kept
    is (c.fits.ensures.0 c.if-fits.true) c.keep.ensures.tiles c.keep.ensures.given

pub returns-then-fits-clause-one : goal.returns-then-fits-clause-one
returns-then-fits-clause-one c =
    let count : c.len-id.result ≡ length c.args.loaded.now.given.items = search rules in
    let is = made_is c.args.d.now c.args.loaded.now c.args.w.now c.len-id.result c.in_ok-metal.metal c.in_ok-item.item
    count c.in_ok-metal.ensures c.in_ok-item.ensures in
    kept_one c.args.d.now c.args.loaded.now c.keep.new.loaded c.args.w.now c.in_ok-item.item c.keep.result
    c.requires.kept is (c.fits.ensures.0 c.if-fits.true) c.keep.ensures.given c.keep.ensures.dropped

pub returns-else-fits-clause-kept : goal.returns-else-fits-clause-kept
returns-else-fits-clause-kept c =
    drop_kept c.args.d.now c.args.loaded.now c.drop_place.new.loaded c.drop_place.result c.requires.kept
    c.drop_place.ensures.tiles c.drop_place.ensures.given

pub returns-else-fits-clause-one : goal.returns-else-fits-clause-one
returns-else-fits-clause-one c =
    let count : c.len-id.result ≡ length c.args.loaded.now.given.items = search rules in
    let is = made_is c.args.d.now c.args.loaded.now c.args.w.now c.len-id.result c.in_ok-metal.metal c.in_ok-item.item
    count c.in_ok-metal.ensures c.in_ok-item.ensures in
    drop_one c.args.d.now c.args.loaded.now c.drop_place.new.loaded c.args.w.now c.in_ok-item.item
    c.drop_place.result c.requires.kept is
    (λ legal. true≢false (sym (c.fits.ensures.1 legal) ∙ c.if-fits.false))
    c.drop_place.ensures.given c.drop_place.ensures.dropped
