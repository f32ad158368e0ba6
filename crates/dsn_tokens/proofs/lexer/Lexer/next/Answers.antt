use Rattle.std.proofs.Common.{rules, arith, refl, subst, length-drop, ◌∙◌, ap, length}
use Rattle.std.specs.Prelude.{Err}
use Rattle.dsn_tokens.specs.Place.{Place}
use Rattle.dsn_tokens.specs.Spelling.{Next}
use Rattle.dsn_tokens.proofs.Steps.{behind_found, ends_found, starts_unblank, fault_next}
use Rattle.dsn_tokens.proofs.lexer.Lexer.next.Goals as goal

pub returns-then-is_empty-clause-next : goal.returns-then-is_empty-clause-next
returns-then-is_empty-clause-next c =
    rw (← c.self.view_is)
    (ends_found _ c.split_at.result.1.now (c.split_at.ensures.back ∙ c.gap_front-gap.ensures.rest) (search rules), refl)

pub token_front-requires-clause-no_blank : goal.token_front-requires-clause-no_blank
token_front-requires-clause-no_blank c =
    let p : Place = record { at = c.self.inside.at; rest = c.self.inside.rest.now; context = c.self.inside.context } in
    starts_unblank _ _
    (behind_found p c.split_at.result.1.now (c.split_at.ensures.back ∙ c.gap_front-gap.ensures.rest)
    (search rules)).starts

pub returns-in-Err-clause-next : goal.returns-in-Err-clause-next
returns-in-Err-clause-next c = subst (λ p. Next p (Err c.in-Err.fault) p) c.self.view_is
    (fault_next _ c.split_at.result.1.now c.in-Err.fault _
    (behind_found _ _ (c.split_at.ensures.back ∙ c.gap_front-gap.ensures.rest) (search rules))
    (omega (arith, ap length c.split_at.ensures.back, length-drop c.gap_front-gap.result c.self.inside.rest.now))
    c.in-Err.ensures.reads)

pub returns-clause-next : goal.returns-clause-next
returns-clause-next c = rw (← c.self.view_is) (record {
  bytes = c.split_at.result.1.now;
  gap = behind_found _ _ (c.split_at.ensures.back ∙ c.gap_front-gap.ensures.rest) (search rules);
  token = rw c.split_at-2.ensures.back c.in-Ok.ensures.reads;
  token_at = omega
      (arith, ap length c.split_at.ensures.back, length-drop c.gap_front-gap.result c.self.inside.rest.now);
  same_end = omega (
    arith,
    ap length c.split_at.ensures.back,
    ap length c.split_at-2.ensures.back,
    length-drop c.gap_front-gap.result c.self.inside.rest.now,
    length-drop c.in-Ok.lexeme.len c.split_at.result.1.now,
    c.gap_front-gap.ensures.within,
    c.in-Ok.ensures.within.1,
  );
})
