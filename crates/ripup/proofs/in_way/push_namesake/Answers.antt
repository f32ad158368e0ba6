use Rattle.std.proofs.Common.{◌≡◌, ℕ, true≢false, List, length, sym, ◌∙◌, subst, ap}
use Rattle.pcb_model.specs.declared.item.Item.{Item}
use Rattle.pcb_model.specs.Pairs.{Agrees}
use Rattle.std.proofs.lemmas.List.Elements.{All-contains}
use Rattle.ripup.specs.inner.Steps.{AreInWayBelow}
use Rattle.ripup.proofs.Passing.{same_key}
use Rattle.ripup.proofs.Ripping.{none_pushed, one_pushed}
use Rattle.ripup.proofs.in_way.push_namesake.Goals as goal

pub returns-in_default : goal.returns-in_default
returns-in_default g c =
    let d = c.args.on.now.d in
    let items = c.args.on.now.items in
    let serves = c.keeps.ensures.serves in
    none_pushed d items c.args.item.now c.args.found.now.items c.keeps.ensures.sound serves c.keeps.ensures.ascends
    (λ x there e routed. absurd (All-contains (λ (y : Item). y.id ≡ c.args.item.now.id
    → ⊥) items x c.in_default.ensures there e))

pub returns-then-other : goal.returns-then-other
returns-then-other g c =
    let d = c.args.on.now.d in
    let items = c.args.on.now.items in
    let serves = c.keeps.ensures.serves in
    let b = c.in-Some.other.now in
    none_pushed d items c.args.item.now c.args.found.now.items c.keeps.ensures.sound serves c.keeps.ensures.ascends
    (λ x there e routed.
    let same : x ≡ b = same_key (λ (y : Item). y.id) items x b c.keeps.ensures.ascends there c.in-Some.ensures.0 (e
    ∙ sym c.in-Some.ensures.1) in
    absurd (true≢false (sym c.if-other.true ∙ sym (ap (λ (y : Item). y.fixed) same) ∙ routed)))

pub returns-then-agree : goal.returns-then-agree
returns-then-agree g c =
    let d = c.args.on.now.d in
    let items = c.args.on.now.items in
    let serves = c.keeps.ensures.serves in
    let b = c.in-Some.other.now in
    none_pushed d items c.args.item.now c.args.found.now.items c.keeps.ensures.sound serves c.keeps.ensures.ascends
    (λ x there e routed.
    let same : b ≡ x = same_key (λ (y : Item). y.id) items b x c.keeps.ensures.ascends c.in-Some.ensures.0 there
    (c.in-Some.ensures.1 ∙ sym e) in
    subst (λ (y : Item). Agrees d c.args.item.now y) same (c.agree.ensures.0 c.if-agree.true))

pub returns : goal.returns
returns g c =
    let d = c.args.on.now.d in
    let items = c.args.on.now.items in
    let serves = c.keeps.ensures.serves in
    let b = c.in-Some.other.now in
    subst (λ (ids : List ℕ). AreInWayBelow d items c.args.item.now (length d.fixed) c.args.found.now.items ids)
    (sym c.in_ok-push.ensures.items)
    (one_pushed d items c.args.item.now c.args.found.now.items b c.keeps.ensures.sound serves c.keeps.ensures.ascends
    c.in-Some.ensures.0 c.in-Some.ensures.1 c.if-other.false
    (λ h. true≢false (sym (c.agree.ensures.1 h) ∙ c.if-agree.false)))

pub agree-requires-clause-other_fits : goal.agree-requires-clause-other_fits
agree-requires-clause-other_fits g c = c.in-Some.ensures.2.fits
