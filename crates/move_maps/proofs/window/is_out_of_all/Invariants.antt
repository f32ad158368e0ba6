use Rattle.std.proofs.Common.{All, take}
use Rattle.move_maps.specs.declared.window.Window.{Window}
use Rattle.move_maps.specs.Windows.{IsPlaceOut}
use Rattle.move_maps.proofs.window.is_out_of_all.Given as goal

abbrev pub invariant-loop-window : goal.invariant-loop-window
invariant-loop-window l = All (λ (w : Window). IsPlaceOut w l.column l.row) (take l.window-index l.windows)
