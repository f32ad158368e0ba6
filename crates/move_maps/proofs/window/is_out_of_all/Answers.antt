use Rattle.std.proofs.Common.{◌∙◌, All, refl, sym, subst, arith}
use Rattle.std.proofs.lemmas.Bool.{false≢true}
use Rattle.std.proofs.lemmas.List.{length-take, get_or-take}
use Rattle.std.proofs.lemmas.List.Elements.{All-more}
use Rattle.move_maps.specs.declared.window.Window.{Window}
use Rattle.move_maps.specs.Windows.{IsPlaceOut}
use Rattle.move_maps.proofs.window.is_out_of_all.Goals as goal

pub loop-window-preserved : goal.loop-window-preserved
loop-window-preserved c = All-more (λ (w : Window). IsPlaceOut w c.args.column c.args.row) c.args.windows.now
    c.loop-window.window-index (record { left = 0; right = 0; bottom = 0; top = 0 }) c.loop-window-test.true
    c.loop-window.invariant
    (c.is_place_out.ensures.0 c.if-not-is_place_out.false)

pub returns-then-not-is_place_out : goal.returns-then-not-is_place_out
returns-then-not-is_place_out c = (
  λ says. absurd (false≢true says),
  λ (all : All (λ (w : Window). IsPlaceOut w c.args.column c.args.row) c.args.windows.now).
      sym c.if-not-is_place_out.true ∙ c.is_place_out.ensures.1 (all c.loop-window.window-index _
      c.loop-window-test.true),
)

pub returns : goal.returns
returns c = (
  λ _ k w within. subst (λ (u : Window). IsPlaceOut u c.args.column c.args.row)
      (get_or-take c.loop-window.window-index c.args.windows.now k w (omega (arith, within, c.loop-window-test.false)))
      (c.loop-window.invariant k w
      (omega (arith, within, c.loop-window-test.false, length-take c.loop-window.window-index c.args.windows.now))),
  λ _. refl,
)
