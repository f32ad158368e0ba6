use Rattle.std.proofs.Common.{◌∙◌, ◌++◌, [], ◌∷◌, List, ap, refl, subst, sym, take, IfSome, ◌<◌, arith}
use Rattle.std.proofs.lemmas.List.{take_all, take_more}
use Rattle.pcb_model.specs.declared.item.Item.{Item}
use Rattle.route_check.specs.Board.{left_of, without}
use Rattle.route_check.specs.inner.Left.{kept}
use Rattle.route_check.proofs.Gone.{left_more}
use Rattle.route_check.proofs.left.Linked.take_each.Goals as goal

pub loop-a-init : goal.loop-a-init
loop-a-init c = record { count = refl; taken = refl }

pub take_away-requires-clause-net : goal.take_away-requires-clause-net
take_away-requires-clause-net c = subst (λ (a : Item). IfSome a.net (λ net. net < c.args.self.now.nets))
    (sym c.a-item.is) (c.requires.nets c.loop-a.a-index c.a-item.result c.loop-a-test.true)

pub take_away-requires-clause-count : goal.take_away-requires-clause-count
take_away-requires-clause-count c = c.loop-a.invariant.count ∙ c.requires.count

pub loop-a-preserved : goal.loop-a-preserved
loop-a-preserved c =
    let xs = c.args.self.now.xs.now in
    let fixed = c.args.fixed.now in
    let front = take c.loop-a.a-index fixed in
    let old = kept c.args.gone.now.items xs in
    record {
      count = c.take_away.ensures.count ∙ c.loop-a.invariant.count;
      taken = c.take_away.ensures.taken
          ∙ ap (without c.a-item.result) c.loop-a.invariant.taken
          ∙ sym (left_more front c.a-item.result old)
          ∙ ap (λ (a : Item). left_of (front ++ a ∷ []) old) c.a-item.is
          ∙ ap (λ (items : List Item). left_of items old)
          (sym (take_more fixed c.loop-a.a-index c.a-item.result c.loop-a-test.true));
    }

pub returns-clause-count : goal.returns-clause-count
returns-clause-count c = c.loop-a.invariant.count

pub returns-clause-taken : goal.returns-clause-taken
returns-clause-taken c = c.loop-a.invariant.taken
    ∙ ap (λ (fixed : List Item). left_of fixed (kept c.args.gone.now.items c.args.self.now.xs.now))
    (take_all c.loop-a.a-index c.args.fixed.now (omega (arith, c.loop-a-test.false)))
