use Rattle.std.proofs.Common.{None, arith}
use Rattle.pcb_model.specs.declared.item.Item.{Item}
use Rattle.pcb_model.specs.declared.near.Extent.{Extent}
use Rattle.pcb_model.specs.Bounds.{IsItemFit}
use Rattle.pcb_model.specs.Pairs.{ProbeAgrees}
use Rattle.pcb_model.specs.Near.{IsExtentOf}
use Rattle.pcb_model.proofs.First.{found_id, one_more, none_found, item_at, extent_at, no_extent, zip_length}
use Rattle.pcb_model.proofs.First.{none_below}
use Rattle.pcb_model.proofs.search.first_block.Goals as goal

pub bounds-extents-i : goal.bounds-extents-i
bounds-extents-i g c = omega (
  arith,
  c.loop-i-test.true,
  zip_length (λ (a : Item) (e : Extent). IsExtentOf a.pieces e) c.args.items.now c.args.extents.now c.requires.paired,
)

pub blocks-requires-clause-b_fits : goal.blocks-requires-clause-b_fits
blocks-requires-clause-b_fits g c =
    item_at IsItemFit c.args.items.now c.requires.fit c.loop-i.i c.loop-i-test.true c.index-items-i.result
    c.index-items-i.is

pub blocks-requires-clause-extent_of : goal.blocks-requires-clause-extent_of
blocks-requires-clause-extent_of g c =
    extent_at c.args.items.now c.args.extents.now c.loop-i.i c.index-items-i.result no_extent c.requires.paired
    c.loop-i-test.true c.index-items-i.is

pub returns-then-blocks-clause-finds : goal.returns-then-blocks-clause-finds
returns-then-blocks-clause-finds g c =
    found_id (λ b. ProbeAgrees c.args.d.now c.args.net c.args.p.now b → ⊥)
    (ProbeAgrees c.args.d.now c.args.net c.args.p.now) c.args.from None c.args.items.now c.loop-i.i
    c.index-items-i.result c.index-items-i-then-blocks.result c.requires.ascends c.loop-i-test.true
    c.loop-i.invariant.passed c.index-items-i.is
    (c.place_of-i.ensures.above c.loop-i.i c.index-items-i.result c.loop-i.auto.i c.loop-i-test.true)
    (λ e. cc) c.if-blocks.ensures.yes

pub returns-then-blocks-clause-cost : goal.returns-then-blocks-clause-cost
returns-then-blocks-clause-cost g c =
    omega (arith, c.blocks-in-loop-i.ensures.cost, c.loop-i.invariant.cost, c.loop-i-test.true)

pub loop-i-preserved : goal.loop-i-preserved
loop-i-preserved g c = record {
  passed = one_more (ProbeAgrees c.args.d.now c.args.net c.args.p.now) c.args.from None c.args.items.now c.loop-i.i
      c.index-items-i.result c.loop-i-test.true c.loop-i.invariant.passed c.index-items-i.is
      (λ o. c.if-blocks.ensures.no);
  cost = omega (arith, c.blocks-in-loop-i.ensures.cost, c.loop-i.invariant.cost);
}

pub returns-clause-finds : goal.returns-clause-finds
returns-clause-finds g c =
    none_found (ProbeAgrees c.args.d.now c.args.net c.args.p.now) c.args.from None c.args.items.now c.loop-i.i
    c.loop-i-test.false c.loop-i.invariant.passed

pub loop-i-init : goal.loop-i-init
loop-i-init g c = record {
  passed = none_below (ProbeAgrees c.args.d.now c.args.net c.args.p.now) c.args.from None c.args.items.now
      c.place_of-i.result c.place_of-i.ensures.below;
  cost = omega arith;
}

pub place_of-i-requires : goal.place_of-i-requires
place_of-i-requires g c = c.requires.ascends
