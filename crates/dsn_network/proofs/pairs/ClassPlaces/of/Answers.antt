use Rattle.std.proofs.Common.{◌∙◌, ◌++◌, ap, ℕ, List, [], ◌∷◌, cond, arith, rules}
use Rattle.std.specs.Str.{bytes_eq}
use Rattle.dsn_shapes.specs.Names.{place_index}
use Rattle.dsn_network.specs.Pairs.{places_named}
use Rattle.dsn_network.specs.Places.{places_by}
use Rattle.dsn_network.proofs.Naming.{place_kept}
use Rattle.dsn_network.proofs.pairs.ClassPlaces.of.Goals as goal

pub loop-k-init : goal.loop-k-init
unfolding places_named
loop-k-init c = search rules

pub loop-k-preserved : goal.loop-k-preserved
loop-k-preserved c = λ q.
    place_kept c.as_slice-trees.result.now c.loop-k.k c.index-trees-k.result q (places_by c.loop-k.places q)
    (places_by c.keep_class.new.map q) (omega arith) c.index-trees-k.is (c.loop-k.invariant q)
    (c.in_ok-keep_class.ensures q
    ∙ ap (λ (n : List ℕ). places_by c.loop-k.places q ++ cond (bytes_eq n q) (place_index c.loop-k.k ∷ []) [])
    c.name_of.ensures)
