use Rattle.std.proofs.Common.{◌+◌, ◌∙◌, ◌++◌, [], ◌∷◌, ap, sym, subst, take}
use Rattle.std.proofs.lemmas.List.{take_more}
use Rattle.dsn_design.specs.Fit.{IsStackFit}
use Rattle.dsn_design.proofs.Padded.{padstacks_none, padstacks_push}
use Rattle.dsn_design.proofs.stacks.padstacks_about.Goals as goal

pub loop-stack-init : goal.loop-stack-init
loop-stack-init c = padstacks_none c.args.n c.new-padstacks.result c.new-padstacks.ensures

pub padstack_of-requires-clause-fit : goal.padstack_of-requires-clause-fit
padstack_of-requires-clause-fit c =
    subst IsStackFit (sym c.stack-item.is)
    (c.requires.fit c.loop-stack.stack-index c.stack-item.result c.loop-stack-test.true)

pub loop-stack-preserved : goal.loop-stack-preserved
loop-stack-preserved c =
    let i = c.loop-stack.stack-index in
    let s = c.stack-item.result in
    padstacks_push c.args.n (take i c.args.stacks.now) (take (i + 1) c.args.stacks.now) c.loop-stack.padstacks
    c.push.new.self s c.in_ok-padstack_of.field-0 c.loop-stack.invariant c.in_ok-padstack_of.ensures.is
    c.in_ok-padstack_of.ensures.usable
    (take_more c.args.stacks.now i s c.loop-stack-test.true ∙ ap (λ x. take i c.args.stacks.now ++ x ∷ [])
    (sym c.stack-item.is))
    c.in_ok-push.ensures.ok
