use Rattle.shove.proofs.Touching.{clash_out, replaced, refused, unless}
use Rattle.shove.proofs.replace.Replacement.can_replace.Goals as goal

pub returns-then-not-is_item_inside : goal.returns-then-not-is_item_inside
returns-then-not-is_item_inside g c = refused _
    (λ h. unless c.is_item_inside.result _ c.is_item_inside.ensures c.if-not-is_item_inside.true h.inside)

pub returns : goal.returns
returns g c =
    replaced c.args.self.now.on.d c.args.self.now.on.items c.args.self.now.old.now c.args.self.now.new.now
    c.args.self.now.one_id
    c.touches_all.result (c.is_item_inside.ensures.0 c.if-not-is_item_inside.false) c.in_default.ensures
    c.touches_all.ensures

pub returns-in-Some : goal.returns-in-Some
returns-in-Some g c =
    refused _ (clash_out c.args.self.now.on.d c.args.self.now.on.items c.args.self.now.old.now c.args.self.now.new.now
    c.args.self.now.one_id _
    c.in-Some.ensures)
