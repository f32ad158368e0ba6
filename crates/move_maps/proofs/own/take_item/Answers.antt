use Rattle.std.proofs.Common.{inr, subst}
use Rattle.std.proofs.lemmas.Bool.{OnTrue_at}
use Rattle.std.proofs.lemmas.Result.{on_ok_weaker}
use Rattle.move_maps.specs.Windows.{Widens}
use Rattle.move_maps.specs.OwnCopper.{IsForeign, TakesOwn}
use Rattle.move_maps.specs.Settings.{GroupOf}
use Rattle.move_maps.proofs.Windowed.{taken_in}
use Rattle.move_maps.proofs.own.take_item.Goals as goal

pub returns-then-is_foreign : goal.returns-then-is_foreign
returns-then-is_foreign c = record {
  kept = λ a k. k;
  taken = inr (subst (λ (s : GroupOf). IsForeign s.d s.first c.args.net c.args.item.now) c.group.view_is
      (OnTrue_at c.if-is_foreign.true c.is_foreign.ensures));
}

pub of_item-requires : goal.of_item-requires
of_item-requires c = c.requires

pub cover-window-requires-clause-bounds : goal.cover-window-requires-clause-bounds
cover-window-requires-clause-bounds c = c.of_item.ensures.within

pub cover-window-requires-clause-width : goal.cover-window-requires-clause-width
cover-window-requires-clause-width c = c.of_item.ensures.has.width_within

pub returns : goal.returns
returns c =
    let s = c.args.group.now in let b = c.args.item.now in
    let w = c.cover-window.result in
    let old = c.args.windows.now.items in let new = c.add_window.new.windows.items in
    on_ok_weaker {P = Widens old w new} {Q = TakesOwn s.d s.lat s.first c.args.net b old new} c.add_window.result
    (λ wide. taken_in s.d s.lat s.first c.args.net b w old new wide
    (c.cover-window.ensures.covers b c.of_item.ensures.has)) c.add_window.ensures
