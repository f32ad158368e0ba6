use Rattle.std.proofs.Common.{List, All, arith, ◌∙◌, sym, subst}
use Rattle.std.proofs.lemmas.List.{take_all}
use Rattle.pcb_model.specs.declared.item.Item.{Item}
use Rattle.pcb_model.specs.Bounds.{IsItemFit}
use Rattle.pcb_tiles.specs.Scans.{is_entered, IsUnsought}
use Rattle.pcb_tiles.proofs.Scans.{count_rest, first_here, unsought_more}
use Rattle.pcb_tiles.proofs.scan.first_in_chunk.Goals as goal

pub returns-then-is_hit-clause-so : goal.returns-then-is_hit-clause-so
returns-then-is_hit-clause-so g c =
    first_here (g.S.Seeks.yes c.args.s.now) (g.S.Seeks.no c.args.s.now) c.args.from c.args.area c.args.b.now
    c.args.items.now c.loop-a.a-index c.get-item.result.now c.a-item.result c.loop-a-test.true
    (c.get-item.ensures ∙ c.a-item.is) c.loop-a.invariant.passed c.if-is_hit.ensures.yes

pub returns-then-is_hit-clause-cost : goal.returns-then-is_hit-clause-cost
returns-then-is_hit-clause-cost g c =
    omega (
      arith,
      count_rest (is_entered c.args.area c.args.b.now) c.args.items.now c.loop-a.a-index c.get-item.result.now
          c.a-item.result c.loop-a-test.true (c.get-item.ensures ∙ c.a-item.is),
      c.loop-a.invariant.cost,
      c.is_hit.ensures.cost,
    )

pub loop-a-preserved : goal.loop-a-preserved
loop-a-preserved g c = record {
  passed = unsought_more (g.S.Seeks.no c.args.s.now) c.args.from c.args.area c.args.b.now c.args.items.now
      c.loop-a.a-index c.get-item.result.now c.a-item.result c.loop-a-test.true
      (c.get-item.ensures ∙ c.a-item.is) c.loop-a.invariant.passed c.if-is_hit.ensures.no;
  cost = omega (
    arith,
    count_rest (is_entered c.args.area c.args.b.now) c.args.items.now c.loop-a.a-index c.get-item.result.now
        c.a-item.result c.loop-a-test.true (c.get-item.ensures ∙ c.a-item.is),
    c.loop-a.invariant.cost,
    c.is_hit.ensures.cost,
  );
}

pub returns-clause-so : goal.returns-clause-so
returns-clause-so g c =
    let F : List Item → Type 0 =
    All (IsUnsought (g.S.Seeks.no c.args.s.now) c.args.from c.args.area c.args.b.now) in
    subst F (take_all c.loop-a.a-index c.args.items.now (omega arith)) c.loop-a.invariant.passed

pub returns-clause-cost : goal.returns-clause-cost
returns-clause-cost g c = omega (arith, c.loop-a.invariant.cost)

pub is_hit-requires-clause-fits : goal.is_hit-requires-clause-fits
is_hit-requires-clause-fits g c =
    subst IsItemFit (sym (c.get-item.ensures ∙ c.a-item.is))
    (c.requires.fit c.loop-a.a-index c.a-item.result c.loop-a-test.true)
