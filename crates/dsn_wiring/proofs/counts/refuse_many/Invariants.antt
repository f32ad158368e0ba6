use Rattle.std.proofs.Common.{◌≡◌, ◌+◌, take, length}
use Rattle.std.specs.Prelude.{sum_by}
use Rattle.dsn_shapes.specs.Lists.{capped}
use Rattle.dsn_wiring.specs.Counts.{place_items}
use Rattle.dsn_wiring.proofs.counts.refuse_many.Given as goal

abbrev pub invariant-loop-place : goal.invariant-loop-place
invariant-loop-place l = l.before ≡ capped
    (length l.st.bounds
    + (length l.st.bans + sum_by (place_items l.lib.images) (take l.place-index l.places)))
