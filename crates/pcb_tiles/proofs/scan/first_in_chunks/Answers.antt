use Rattle.std.proofs.Common.{List, All, arith, ◌∙◌, subst}
use Rattle.std.proofs.lemmas.List.{take_all}
use Rattle.pcb_model.specs.declared.item.Item.{Item}
use Rattle.pcb_model.specs.Bounds.{IsItemFit}
use Rattle.pcb_tiles.specs.Shelves.{flat}
use Rattle.pcb_tiles.specs.Scans.{is_entered, IsUnsought}
use Rattle.pcb_tiles.proofs.Scans.{all_in, all_more, count_rest_in, first_in}
use Rattle.pcb_tiles.proofs.scan.first_in_chunks.Goals as goal

pub first_in_chunk-requires-clause-fit : goal.first_in_chunk-requires-clause-fit
first_in_chunk-requires-clause-fit g c =
    all_in IsItemFit c.args.chunks.now c.loop-c.c-index c.as_slice.result.now c.c-item.result c.loop-c-test.true
    (c.as_slice.ensures ∙ (c.get.ensures ∙ c.c-item.is)) c.requires.fit

pub returns-in-Some-clause-so : goal.returns-in-Some-clause-so
returns-in-Some-clause-so g c =
    first_in (g.S.Seeks.yes c.args.s.now) (g.S.Seeks.no c.args.s.now) c.args.from c.args.area c.args.b.now
    c.args.chunks.now c.loop-c.c-index c.as_slice.result.now c.c-item.result c.in-Some.id c.loop-c-test.true
    (c.as_slice.ensures ∙ (c.get.ensures ∙ c.c-item.is)) c.loop-c.invariant.passed c.in-Some.ensures.so

pub returns-in-Some-clause-cost : goal.returns-in-Some-clause-cost
returns-in-Some-clause-cost g c =
    omega (
      arith,
      count_rest_in (is_entered c.args.area c.args.b.now) c.args.chunks.now c.loop-c.c-index c.as_slice.result.now
          c.c-item.result c.loop-c-test.true (c.as_slice.ensures ∙ (c.get.ensures ∙ c.c-item.is)),
      c.loop-c.invariant.cost,
      c.first_in_chunk.ensures.cost,
    )

pub loop-c-preserved : goal.loop-c-preserved
loop-c-preserved g c = record {
  passed = all_more (IsUnsought (g.S.Seeks.no c.args.s.now) c.args.from c.args.area c.args.b.now) c.args.chunks.now
      c.loop-c.c-index c.as_slice.result.now c.c-item.result c.loop-c-test.true
      (c.as_slice.ensures ∙ (c.get.ensures ∙ c.c-item.is)) c.loop-c.invariant.passed c.in-None.ensures.so;
  cost = omega (
    arith,
    count_rest_in (is_entered c.args.area c.args.b.now) c.args.chunks.now c.loop-c.c-index c.as_slice.result.now
        c.c-item.result c.loop-c-test.true (c.as_slice.ensures ∙ (c.get.ensures ∙ c.c-item.is)),
    c.loop-c.invariant.cost,
    c.first_in_chunk.ensures.cost,
  );
}

pub returns-clause-so : goal.returns-clause-so
returns-clause-so g c =
    let F : List (List Item) → Type 0 =
    λ x. All (IsUnsought (g.S.Seeks.no c.args.s.now) c.args.from c.args.area c.args.b.now) (flat x) in
    subst F (take_all c.loop-c.c-index c.args.chunks.now (omega arith)) c.loop-c.invariant.passed
