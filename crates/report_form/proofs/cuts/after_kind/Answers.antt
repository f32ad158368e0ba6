use Rattle.std.proofs.Common.{ℕ, List, subst}
use Rattle.report_form.specs.inner.Fields.{HasOne}
use Rattle.report_form.proofs.Printed.{item_from}
use Rattle.report_form.proofs.cuts.after_kind.Goals as goal

pub returns : goal.returns
returns c = record {
  item = (c.args.kind, c.in_ok-rest.field-0-0.now);
  has = item_from c.args.kind c.in_ok-rest.field-0-0.now c.in_ok-rest.rest.now c.args.text.now
      (subst (λ (w : List ℕ). HasOne w c.in_ok-rest.field-0-0.now c.in_ok-rest.rest.now c.args.text.now)
      c.word_of.ensures c.in_ok-rest.ensures);
}
