use Rattle.std.proofs.Common.{rules, arith, refl}
use Rattle.dsn_tokens.proofs.Steps.{word_found, open_found, mark_token}
use Rattle.dsn_tokens.proofs.lexer.token_front.Goals as goal

pub returns-then-eq-clause-reads : goal.returns-then-eq-clause-reads
returns-then-eq-clause-reads c = c.quoting_front.ensures.reads c.args.context (search rules)

pub returns-then-open_bytes-gt0-clause-reads : goal.returns-then-open_bytes-gt0-clause-reads
returns-then-open_bytes-gt0-clause-reads c =
    open_found c.args.context c.args.bytes.now c.args.at _ _ (search rules) c.word_front-len.ensures.rest
    c.if-open_bytes-gt0.true c.word_front-len.ensures.within c.word_front-len.ensures.open_within

pub returns-clause-reads : goal.returns-clause-reads
returns-clause-reads c = mark_token c.args.context.line _ _ _ _ _ (search rules)
    (word_found c.args.context c.args.bytes.now _ _ _ _ c.word_front-len.ensures.rest (omega arith)
    c.word_front-len.ensures.within c.requires.some c.requires.no_blank c.if-first-eq40.false
    c.if-first-eq41.false (search rules) (search rules)).word

pub returns-clause-within : goal.returns-clause-within
returns-clause-within c = (
  (word_found c.args.context c.args.bytes.now _ _ _ _ c.word_front-len.ensures.rest (omega arith)
      c.word_front-len.ensures.within c.requires.some c.requires.no_blank c.if-first-eq40.false c.if-first-eq41.false
      refl refl).long,
  c.word_front-len.ensures.within,
)
