use Rattle.std.proofs.Common.{arith, sym, ◌∙◌, true≢false}
use Rattle.std.proofs.lemmas.Bool.{false≢true}
use Rattle.board_offers.proofs.clauses.has_ends.Goals as goal

pub returns-then-net-len : goal.returns-then-net-len
returns-then-net-len c = (
  λ t. absurd (false≢true t),
  λ h. absurd (let below = h.0 in omega (arith, below, c.len.ensures, c.if-net-len.true)),
)

pub returns-then-from-to : goal.returns-then-from-to
returns-then-from-to c = (λ t. absurd (false≢true t), λ h. absurd (h.1 c.if-from-to.true))

pub returns-then-not-is_of_net : goal.returns-then-not-is_of_net
returns-then-not-is_of_net c = (
  λ t. absurd (false≢true t),
  λ h. absurd (true≢false (sym (c.is_of_net.ensures.1 h.2) ∙ c.if-not-is_of_net.true)),
)

pub returns : goal.returns
returns c = (
  λ t. (
    omega (arith, c.len.ensures, c.if-net-len.false),
    c.if-from-to.false,
    c.is_of_net.ensures.0 c.if-not-is_of_net.false,
    c.is_of_net-2.ensures.0 t,
  ),
  λ h. c.is_of_net-2.ensures.1 h.3,
)
