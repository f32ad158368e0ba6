use Rattle.std.proofs.Common.{◌∙◌, sym}
use Rattle.dsn_tokens.proofs.FoundWords.{unquoted_same}
use Rattle.dsn_tokens.proofs.lexer.unquoted.Goals as goal

pub returns-then-not-contains : goal.returns-then-not-contains
returns-then-not-contains c =
    rw (unquoted_same c.args.quote c.args.spelled.now (sym c.contains.ensures.value ∙ c.if-not-contains.true))
    c.of.ensures
