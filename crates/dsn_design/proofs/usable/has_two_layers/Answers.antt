use Rattle.std.proofs.Common.{◌≡◌, ◌<◌, ◌≤◌, List, arith, length, ⊎_elim, Any}
use Rattle.std.proofs.lemmas.Bool.{cases_lt}
use Rattle.pcb_model.specs.declared.item.Piece.{Piece}
use Rattle.dsn_design.specs.Usable.{HasOther, IsElsewhere}
use Rattle.dsn_design.proofs.Loops.{any_at}
use Rattle.dsn_design.proofs.usable.has_two_layers.Goals as goal

-- of two that lie on different layers, one lies on another than any third
other_than : (all : List Piece) (first : Piece) → Any (HasOther all) all → HasOther all first
other_than all first (i, a, before, a_is, (k, b, within, b_is, apart)) =
    ⊎_elim (λ (l : first.layer < a.layer).
    (i, a, before, a_is, λ (e : first.layer ≡ a.layer). absurd (omega (arith, l, e))))
    (λ (l : a.layer ≤ first.layer). ⊎_elim
    (λ (m : a.layer < first.layer). (i, a, before, a_is, λ (e : first.layer ≡ a.layer). absurd (omega (arith, m, e))))
    (λ (m : first.layer ≤ a.layer). (k, b, within, b_is, λ (e : first.layer ≡ b.layer). apart (omega (arith, l, m, e))))
    (cases_lt a.layer first.layer))
    (cases_lt first.layer a.layer)

pub returns-in-len1-up : goal.returns-in-len1-up
returns-in-len1-up c =
    let all = c.args.all.now in
    let some : 0 < length all = omega (arith, c.in-len1-up.len_at_least) in (
      λ t. any_at (HasOther all) all 0 c.first-item.result some c.first-item.is (c.has_other.ensures.0 t),
      λ h. c.has_other.ensures.1 (other_than all c.first-item.result h),
    )
