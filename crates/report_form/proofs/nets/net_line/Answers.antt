use Rattle.std.proofs.Common.{ℕ, List, ◌++◌, Option, sym, ap, ◌∙◌, subst}
use Rattle.ses_writer.specs.Words.{spelled}
use Rattle.report_form.specs.declared.nets.NetLine.{NetLine}
use Rattle.report_form.specs.inner.Halts.{IsNetLine}
use Rattle.report_form.proofs.Apart.{net_unread, net_few}
use Rattle.report_form.proofs.nets.net_line.Goals as goal

pub returns-in_err-digits : goal.returns-in_err-digits
returns-in_err-digits c = subst (λ (o : Option NetLine). IsNetLine c.args.net.now.name c.args.text.now o)
    (sym c.from_residual-in_err-digits.ensures)
    (net_unread c.args.net.now.name c.in_ok-behind.behind.now c.in_ok-words.words.now c.args.text.now
    c.in_ok-behind.ensures (c.in_ok-words.ensures
    ∙ ap (λ (x : List ℕ). spelled x ++ c.in_ok-words.words.now) c.as_slice.ensures) c.in_default.ensures
    c.in_err-digits.ensures)

pub returns-then-islands-lt2 : goal.returns-then-islands-lt2
returns-then-islands-lt2 c =
    net_few c.args.net.now.name c.in_ok-behind.behind.now c.in_ok-words.words.now c.args.text.now
    c.in_ok-digits.digits.now c.in_ok-digits.next.now c.capped-islands.result c.in_ok-behind.ensures
    (c.in_ok-words.ensures ∙ ap (λ (x : List ℕ). spelled x ++ c.in_ok-words.words.now) c.as_slice.ensures)
    c.in_default.ensures c.in_ok-digits.ensures c.capped-islands.ensures c.if-islands-lt2.true
