use Rattle.std.proofs.Common.{◌≡◌, ◌∙◌, ◌+◌, ◌<◌, ◌++◌, ◌∷◌, [], List, ap, arith, drop, false, length, refl, subst}
use Rattle.std.proofs.Common.{sym}
use Rattle.ses_reader.specs.declared.item.SesItem.{SesItem}
use Rattle.route_check.specs.inner.Left.{kept}
use Rattle.route_check.proofs.Gone.{left_end, left_gone, left_there}
use Rattle.route_check.proofs.left.kept_items.Goals as goal
use Rattle.route_check.proofs.left.kept_items.Goals.{then-not-gone-i+in_ok-copy_of+in_ok-push, else-not-gone-i}

pub loop-i-init : goal.loop-i-init
loop-i-init c =
    ap (λ (left : List SesItem). left ++ kept c.args.gone.now c.args.xs.now) c.new-left.ensures

pub loop-i-preserved : goal.loop-i-preserved
loop-i-preserved c =
    let gone = c.args.gone.now in
    let xs = c.args.xs.now in
    let i = c.loop-i.i in
    let before = c.loop-i.left in
    let in_gone : i < length gone = omega (arith, c.loop-i-test.true, c.requires) in
    elim c.if-not-gone-i.branch [
      | then-not-gone-i+in_ok-copy_of+in_ok-push w ↦
          left_there before c.if-not-gone-i.left gone xs i false c.index-xs-i.result in_gone c.loop-i-test.true
          w.if-not-gone-i.true
          (w.left-is ∙ w.in_ok-push.ensures.ok
          ∙ ap (λ (x : SesItem). before ++ x ∷ []) (w.in_ok-copy_of.ensures ∙ c.index-xs-i.is))
          ∙ c.loop-i.invariant
      | else-not-gone-i w ↦ subst (λ (left : List SesItem). left ++ kept (drop (i + 1) gone) (drop (i + 1) xs)
          ≡ kept gone xs) (sym w.left-is)
          (left_gone before gone xs i false in_gone c.loop-i-test.true w.if-not-gone-i.false ∙ c.loop-i.invariant)
    ]

pub returns : goal.returns
returns c = sym (left_end c.loop-i.left c.args.gone.now c.args.xs.now c.loop-i.i
    (omega (arith, c.loop-i-test.false))) ∙ c.loop-i.invariant
