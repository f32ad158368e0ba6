use Rattle.std.proofs.Common.{◌≡◌, ◌==◌, ℕ, ◌<◌, false, get_or}
use Rattle.board_offers.proofs.Parting.{no_shove}
use Rattle.board_offers.proofs.parted.lying_after.Given as goal

abbrev pub invariant-loop-i : goal.invariant-loop-i
invariant-loop-i l = (k : ℕ) → k < l.i → ((get_or l.shoves k no_shove).id == l.a.id) ≡ false
