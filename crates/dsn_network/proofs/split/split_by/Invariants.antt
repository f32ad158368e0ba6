use Rattle.std.proofs.Common.{◌≡◌, take, drop}
use Rattle.std.specs.Prelude.{fold}
use Rattle.dsn_network.specs.Splits.{fits_from, split_with, with_fit}
use Rattle.dsn_network.proofs.split.split_by.Given as goal

abbrev pub invariant-loop-i : goal.invariant-loop-i
invariant-loop-i g l = fold with_fit l.found (fits_from (g.P.Pins.named l.pins) (take l.i l.text) (drop l.i l.text))
    ≡ split_with (g.P.Pins.named l.pins) l.text
