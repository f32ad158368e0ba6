use Rattle.std.proofs.Common.{Bool, refl, subst}
use Rattle.pcb_islands.specs.inner.Numbers.{IsWith}
use Rattle.pcb_islands.proofs.Taking.{taken_one, taken_again}
use Rattle.pcb_islands.proofs.flood.take_one.Goals as goal

pub returns-in_ok-push : goal.returns-in_ok-push
returns-in_ok-push c =
    taken_one c.args.reached.now c.args.waiting.now.items c.insert.new.self c.push.new.self.items c.args.id
    (subst (λ (f : Bool). IsWith c.args.reached.now c.args.id f c.insert.new.self) c.if-branch.true
    c.in_ok-insert.ensures) c.in_ok-push.ensures.items

pub returns-else-branch : goal.returns-else-branch
returns-else-branch c =
    taken_again c.args.reached.now c.args.waiting.now.items c.insert.new.self c.args.waiting.now.items c.args.id
    (subst (λ (f : Bool). IsWith c.args.reached.now c.args.id f c.insert.new.self) c.if-branch.false
    c.in_ok-insert.ensures) refl
