use Rattle.std.proofs.Common.{ℕ, List, Option, Bor, false, sym, subst}
use Rattle.std.specs.Option.{option_copied}
use Rattle.report_form.specs.inner.Fields.{IsPinAt}
use Rattle.report_form.proofs.Spelled.{unnamed}
use Rattle.report_form.proofs.spelling.name_at.Goals as goal

pub returns-in_ok-rest-in-None : goal.returns-in_ok-rest-in-None
returns-in_ok-rest-in-None c = subst (λ (o : Option (Bor (List ℕ))). IsPinAt (option_copied o) false
    c.in_ok-rest-in-None.rest.now c.args.text.now) (sym c.in-None.is)
    (unnamed c.in_ok-rest-in-None.field-0-0.now c.in_ok-rest-in-None.rest.now c.args.text.now
    c.in_ok-rest-in-None.ensures)
