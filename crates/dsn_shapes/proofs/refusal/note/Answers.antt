use Rattle.std.proofs.Common.{◌≡◌, ◌∙◌, ap, sym, Bool, true, false, Option, Some, refl}
use Rattle.std.specs.Prelude.{if◌then◌else◌}
use Rattle.dsn_shapes.specs.declared.refusal.Refusal.{Refusal}
use Rattle.dsn_shapes.specs.Refusals.{is_before, kept}
use Rattle.dsn_shapes.proofs.refusal.note.Goals as goal

taken : (b : Bool) (x y : Option Refusal) → b ≡ true → x ≡ (if b then x else y)
taken true x y e = refl
taken false x y e = absurd (cc)

left : (b : Bool) (x y : Option Refusal) → b ≡ false → y ≡ (if b then x else y)
left true x y e = absurd (cc)
left false x y e = refl

pub returns-then-is_before : goal.returns-then-is_before
returns-then-is_before c =
    let r = c.args.refusal in
    let held = c.in-Some.held in
    taken (is_before r held) (Some r) (Some held) (sym c.is_before.ensures ∙ c.if-is_before.true)
    ∙ sym (ap (λ o. kept o r) c.in-Some.is)

pub returns-else-is_before : goal.returns-else-is_before
returns-else-is_before c =
    let r = c.args.refusal in
    let held = c.in-Some.held in
    c.in-Some.is
    ∙ left (is_before r held) (Some r) (Some held) (sym c.is_before.ensures ∙ c.if-is_before.false)
    ∙ sym (ap (λ o. kept o r) c.in-Some.is)
