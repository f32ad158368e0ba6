use Rattle.std.proofs.Common.{sym, ◌∙◌}
use Rattle.std.proofs.lemmas.Bool.{false≢true}
use Rattle.board_offers.specs.Offers.{IsAddable}
use Rattle.pcb_model.proofs.Answered.{passed_here, failed_here, all_passed}
use Rattle.board_offers.proofs.Tests.{none_there, some_there}
use Rattle.board_offers.proofs.metals.has_metals.Goals as goal

pub returns-then-is_empty : goal.returns-then-is_empty
returns-then-is_empty c = (
  λ t. absurd (false≢true t),
  λ h. absurd (none_there c.args.add.now (sym c.is_empty.ensures ∙ c.if-is_empty.true) h.0),
)

pub loop-m-preserved : goal.loop-m-preserved
loop-m-preserved c =
    passed_here (IsAddable c.args.d.now c.args.net) c.args.add.now c.loop-m.m-index c.m-item.result
    c.loop-m-test.true c.m-item.is c.loop-m.invariant (c.is_addable.ensures.0 c.if-not-is_addable.false)

pub returns-then-not-is_addable : goal.returns-then-not-is_addable
returns-then-not-is_addable c =
    let tells = failed_here (IsAddable c.args.d.now c.args.net) c.args.add.now c.loop-m.m-index c.m-item.result
    c.is_addable.result c.loop-m-test.true c.m-item.is c.is_addable.ensures c.if-not-is_addable.true in
    (λ t. absurd (false≢true t), λ h. tells.1 h.1)

pub returns : goal.returns
returns c =
    let tells = all_passed (IsAddable c.args.d.now c.args.net) c.args.add.now c.loop-m.m-index c.loop-m-test.false
    c.loop-m.invariant in
    (λ t. (some_there c.args.add.now (sym c.is_empty.ensures ∙ c.if-is_empty.false), tells.0 t), λ h. tells.1 h.1)
