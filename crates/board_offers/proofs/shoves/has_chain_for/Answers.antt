use Rattle.std.proofs.Common.{◌^◌, All, arith, subst, sym, ◌∙◌, true≢false}
use Rattle.std.proofs.lemmas.Bool.{false≢true}
use Rattle.geo_kernel.specs.Plane.{IsWithin}
use Rattle.board_offers.proofs.shoves.has_chain_for.Goals as goal

pub returns-then-not-is_in_the_way : goal.returns-then-not-is_in_the_way
returns-then-not-is_in_the_way c = (
  λ t. absurd (false≢true t),
  λ h. absurd (true≢false (sym (c.is_in_the_way.ensures.1 h.0) ∙ c.if-not-is_in_the_way.true)),
)

pub returns-then-not-is_wire : goal.returns-then-not-is_wire
returns-then-not-is_wire c = (
  λ t. absurd (false≢true t),
  λ h. absurd (true≢false (sym (c.is_wire.ensures.1 h.1) ∙ c.if-not-is_wire.true)),
)

pub returns-then-len-lt2 : goal.returns-then-len-lt2
returns-then-len-lt2 c =
    (λ t. absurd (false≢true t), λ h. absurd (let two = h.2 in omega (arith, two, c.len.ensures, c.if-len-lt2.true)))

pub returns : goal.returns
returns c = (
  λ t. (
    c.is_in_the_way.ensures.0 c.if-not-is_in_the_way.false,
    c.is_wire.ensures.0 c.if-not-is_wire.false,
    omega (arith, c.len.ensures, c.if-len-lt2.false),
    subst (All (IsWithin (2 ^ 29))) c.as_slice.ensures (c.are_near.ensures.0 t),
  ),
  λ h. c.are_near.ensures.1 (subst (All (IsWithin (2 ^ 29))) (sym c.as_slice.ensures) h.3),
)
