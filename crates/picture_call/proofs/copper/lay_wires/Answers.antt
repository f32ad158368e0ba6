use Rattle.std.proofs.Common.{List, sym, ap, subst}
use Rattle.pcb_model.specs.declared.item.Item.{Item}
use Rattle.picture_call.specs.Drawing.{laid_on}
use Rattle.picture_call.specs.inner.Growing.{IsGrown}
use Rattle.picture_call.proofs.Growing.{grown_fixed, grown_serves}
use Rattle.picture_call.proofs.copper.lay_wires.Goals as goal

pub loop-w-init : goal.loop-w-init
loop-w-init c = record {
  grown = subst (IsGrown c.args.d.now) (sym c.in_ok-copper.ensures) (grown_fixed c.args.d.now c.requires.sound);
  rest = ap (λ (items : List Item). laid_on c.args.d.now items c.args.wires.now) c.in_ok-copper.ensures;
}

pub returns-clause-serves : goal.returns-clause-serves
returns-clause-serves c = grown_serves c.args.d.now c.loop-w.copper c.requires.sound c.loop-w.invariant.grown
