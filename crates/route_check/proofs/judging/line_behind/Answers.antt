use Rattle.std.proofs.Common.{◌≡◌, ◌∙◌, ◌<◌, ◌^◌, ℕ, Some, ap, subst, sym}
use Rattle.std.proofs.lemmas.Bool.{false≢true}
use Rattle.route_check.proofs.judging.line_behind.Goals as goal

pub returns : goal.returns
returns c = λ firsts text h.
    h.not_told (λ told.
    false≢true (sym c.if-tells.false ∙ c.tells.ensures.1 (told ∙ ap Some (sym c.in_ok-count.ensures.is))))
    (subst (λ (n : ℕ). n < 2 ^ 128) c.in_ok-count.ensures.is c.in_ok-count.ensures.few)
