use Rattle.std.proofs.Common.{ℕ, List, ◌++◌, ap, ◌∙◌}
use Rattle.std.specs.Prelude.{codes}
use Rattle.ses_writer.specs.Words.{spelled}
use Rattle.report_form.proofs.Options.{framed_says}
use Rattle.report_form.proofs.head.after_board.Goals as goal

pub returns : goal.returns
returns c = framed_says c.args.text.now (codes "board ") (spelled c.args.d.now.name) c.in_ok-behind.behind.now
    c.in_ok-rest.rest.now c.after-2.result c.in_ok-behind.ensures
    (c.in_ok-rest.ensures ∙ ap (λ (x : List ℕ). spelled x ++ c.in_ok-rest.rest.now) c.as_slice.ensures)
    c.after-2.ensures
