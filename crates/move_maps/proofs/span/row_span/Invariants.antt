use Rattle.std.proofs.Common.{take}
use Rattle.move_maps.specs.Windows.{IsSpanOf}
use Rattle.move_maps.proofs.span.row_span.Given as goal

-- the windows so far
abbrev pub invariant-loop-window : goal.invariant-loop-window
invariant-loop-window l = IsSpanOf (take l.window-index l.windows) l.columns l.row l.span.left l.span.right
