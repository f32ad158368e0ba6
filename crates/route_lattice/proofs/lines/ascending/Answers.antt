use Rattle.std.proofs.Common.{◌∙◌}
use Rattle.std.specs.Ordering.{int_eq}
use Rattle.std.proofs.lemmas.List.Filters.{dedup_is}
use Rattle.route_lattice.proofs.Sets.{ascending_is}
use Rattle.route_lattice.proofs.lines.ascending.Goals as goal

pub returns-clause-ascending : goal.returns-clause-ascending
returns-clause-ascending c =
    ascending_is c.args.numbers.items c.sort.new.self.items c.from_vec.result c.sort.ensures.permutation
    c.in_ok-sort.ensures.sorted
    (c.from_vec.ensures ∙ dedup_is int_eq c.sort.new.self.items c.dedup.new.self.items c.dedup.ensures.filtered)
