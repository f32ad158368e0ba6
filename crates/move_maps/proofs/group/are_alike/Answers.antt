use Rattle.std.proofs.Common.{true≢false, sym, ◌∙◌}
use Rattle.move_maps.proofs.group.are_alike.Goals as goal

pub returns-then-not-are_unruled : goal.returns-then-not-are_unruled
returns-then-not-are_unruled c = (
  λ e. absurd (true≢false (sym e)),
  λ a. absurd (true≢false (sym (c.are_unruled.ensures.1 (a.g_unruled, a.net_unruled)) ∙ c.if-not-are_unruled.true)),
)
