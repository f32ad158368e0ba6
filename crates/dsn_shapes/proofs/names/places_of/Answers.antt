use Rattle.std.proofs.Common.{◌+◌, arith, rules, refl, take, []}
use Rattle.std.proofs.lemmas.Grind.{common_steps}
use Rattle.dsn_shapes.specs.Index.{place_by}
use Rattle.dsn_shapes.specs.Lists.{heads_of}
use Rattle.dsn_shapes.proofs.Again.{next_names, no_names}
use Rattle.dsn_shapes.proofs.names.places_of.Goals as goal

pub loop-k-init : goal.loop-k-init
loop-k-init c = λ q. no_names c.new-places.result [] q (search rules) refl

pub loop-k-preserved : goal.loop-k-preserved
loop-k-preserved c =
    next_names (place_by c.loop-k.places) (place_by c.keep_place.new.places)
    (heads_of (take c.loop-k.k c.args.names.now)) (heads_of (take (c.loop-k.k + 1) c.args.names.now)) _ c.loop-k.k
    c.loop-k.invariant c.in_ok-keep_place.ensures (grind (arith, common_steps)) (grind (arith, common_steps))
