use Rattle.std.proofs.Common.{◌≡◌, ◌≤◌, ◌∙◌, sym, subst}
use Rattle.std.specs.Prelude.{IfOk, length}
use Rattle.std.specs.List.{flat_map}
use Rattle.dsn_shapes.specs.Lists.{trees_of}
use Rattle.dsn_shapes.specs.Names.{names_at}
use Rattle.dsn_network.specs.Pairs.{pair_count, pairs_of}
use Rattle.dsn_network.specs.declared.pairs.Pairs.{Pairs}
use Rattle.dsn_network.specs.declared.pairs.TheConstants.{MOST_PAIRS}
use Rattle.dsn_network.proofs.Pairing.{few_made}
use Rattle.dsn_network.proofs.pairs.read_pairs.Goals as goal
use Rattle.dsn_network.proofs.pairs.read_pairs.Goals.{in-Ok, in-Err}

pub returns-clause-few : goal.returns-clause-few
returns-clause-few c =
    let names = names_at 1 c.in_ok-places.places.lists.now in
    let nm = c.args.scale.nm in
    elim c.match-counted.branch [
      | in-Ok w ↦
          few_made nm names (trees_of w.as_slice-in-Ok.result.now) MOST_PAIRS c.match-counted.read
          (subst
          (λ r. IfOk r (λ (v : Pairs). v.pairs ≡ flat_map (pairs_of nm names) (trees_of w.as_slice-in-Ok.result.now)))
          (sym w.read-is) w.read_each_pair-read.ensures.pairs)
          (subst (λ ts. pair_count names ts ≤ MOST_PAIRS) (c.as_slice.ensures ∙ sym w.as_slice-in-Ok.ensures)
          w.in-Ok.ensures)
      | in-Err w ↦ subst (λ r. IfOk r (λ (v : Pairs). length v.pairs ≤ MOST_PAIRS)) (sym w.read-is) tt
    ]
