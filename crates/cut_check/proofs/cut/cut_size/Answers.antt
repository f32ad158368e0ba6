use Rattle.std.proofs.Common.{◌<◌, List, [], get_or, length, subst, sym, ℕ}
use Rattle.std.specs.Prelude.{All, Contains}
use Rattle.std.proofs.lemmas.List.Elements.{Contains-get_or}
use Rattle.std.specs.List.Sorted.{IsStrictlyIncreasing}
use Rattle.route_lattice.specs.Ground.{GroundOf}
use Rattle.route_lattice.specs.Mesh.{node_count}
use Rattle.cut_certificate.proofs.Each.{unless}
use Rattle.cut_check.specs.Stretches.{AreNodesOf, IsOfSome, IsOnLattice}
use Rattle.cut_check.specs.Marks.{IsBlank}
use Rattle.cut_check.specs.inner.Marking.{AreMarked, Gains}
use Rattle.cut_check.proofs.Marking.{blank_marked, cleared_blank}
use Rattle.cut_check.proofs.Sizing.{marked_sorted, nodes_from, sized_from}
use Rattle.cut_check.proofs.cut.cut_size.Goals as goal

pub returns-then-not-all_on-clause-blank : goal.returns-then-not-all_on-clause-blank
returns-then-not-all_on-clause-blank g c = c.requires.blank

pub returns-then-not-all_on-clause-sized : goal.returns-then-not-all_on-clause-sized
returns-then-not-all_on-clause-sized g c = record {
  at = λ island e. record {
    none = λ nodes are set.
        unless c.all_on.result (All (IsOnLattice c.on.inside.lat.now) c.args.runs.now) c.all_on.ensures
        c.if-not-all_on.true
        (subst (λ (s : GroundOf). All (IsOnLattice s.lat) c.args.runs.now) (sym c.on.view_is) are.on_lattice);
  };
}

pub mark_all-requires-clause-on : goal.mark_all-requires-clause-on
mark_all-requires-clause-on g c = c.all_on.ensures.0 c.if-not-all_on.false

pub mark_all-requires-clause-marked : goal.mark_all-requires-clause-marked
mark_all-requires-clause-marked g c =
    let marks = c.args.marks.now.items in
    let count = node_count c.on.inside.lat.now in
    subst (AreMarked count marks) (sym c.new-nodes.ensures.items)
    (blank_marked count marks
    (subst (λ (s : GroundOf). IsBlank (node_count s.lat) marks) (sym c.on.view_is) c.requires.blank))

pub size_of-size-requires-clause-ascend : goal.size_of-size-requires-clause-ascend
size_of-size-requires-clause-ascend g c =
    subst IsStrictlyIncreasing (sym c.deref-2.ensures.value) c.ascending-nodes.ensures.ascends

pub size_of-size-requires-clause-marked : goal.size_of-size-requires-clause-marked
size_of-size-requires-clause-marked g c =
    let marks = c.mark_all.new.marks.items in
    let count = node_count c.args.on.now.lat in
    let nodes = c.ascending-nodes.result.items in
    let marked : AreMarked count marks c.mark_all.new.nodes.items =
    subst (λ (s : GroundOf). AreMarked (node_count s.lat) marks c.mark_all.new.nodes.items) c.on.view_is
    c.in_ok-mark_all.ensures.marked in
    subst (λ (ms : List _). AreMarked count ms c.deref-2.result.now) (sym c.deref.ensures.value)
    (subst (AreMarked count marks) (sym c.deref-2.ensures.value)
    (marked_sorted count marks c.mark_all.new.nodes.items nodes marked c.ascending-nodes.ensures))

pub clear-requires : goal.clear-requires
clear-requires g c =
    let marked : AreMarked (node_count c.args.on.now.lat) c.mark_all.new.marks.items c.mark_all.new.nodes.items =
    subst (λ (s : GroundOf). AreMarked (node_count s.lat) c.mark_all.new.marks.items c.mark_all.new.nodes.items)
    c.on.view_is c.in_ok-mark_all.ensures.marked in
    record {
      there = subst (All (λ v. v < length c.mark_all.new.marks.items)) (sym c.deref-3.ensures.value)
          (λ i v within. subst (λ (n : ℕ). get_or c.ascending-nodes.result.items i v < n) (sym marked.size)
          (marked.there (get_or c.ascending-nodes.result.items i v)
          (c.ascending-nodes.ensures.only (get_or c.ascending-nodes.result.items i v)
          (Contains-get_or c.ascending-nodes.result.items i v within))));
    }

pub returns-clause-blank : goal.returns-clause-blank
returns-clause-blank g c =
    let marks = c.mark_all.new.marks.items in
    let count = node_count c.args.on.now.lat in
    let marked : AreMarked count marks c.mark_all.new.nodes.items =
    subst (λ (s : GroundOf). AreMarked (node_count s.lat) marks c.mark_all.new.nodes.items) c.on.view_is
    c.in_ok-mark_all.ensures.marked in
    cleared_blank count marks c.clear.new.marks.items c.mark_all.new.nodes.items c.deref-3.result.now marked
    (λ v h. subst (λ (ns : List ℕ). Contains ns v) (sym c.deref-3.ensures.value) (c.ascending-nodes.ensures.all v h))
    c.clear.ensures

pub returns-clause-sized : goal.returns-clause-sized
returns-clause-sized g c =
    let on = c.args.on.now in
    let nodes = c.ascending-nodes.result.items in
    let laid : All (IsOnLattice on.lat) c.args.runs.now =
    subst (λ (s : GroundOf). All (IsOnLattice s.lat) c.args.runs.now) c.on.view_is
    (c.all_on.ensures.0 c.if-not-all_on.false) in
    let gains : Gains (IsOfSome on.lat c.args.runs.now) [] c.mark_all.new.nodes.items =
    subst (λ (s : GroundOf). Gains (IsOfSome s.lat c.args.runs.now) [] c.mark_all.new.nodes.items) c.on.view_is
    (subst (λ (xs : List ℕ). Gains (IsOfSome c.on.inside.lat.now c.args.runs.now) xs c.mark_all.new.nodes.items)
    c.new-nodes.ensures.items c.in_ok-mark_all.ensures.gains) in
    sized_from on.d on.lat on.items c.args.own.now.islands.now c.args.k c.args.runs.now c.deref-2.result.now
    c.size_of-size.result
    (subst (AreNodesOf on.lat c.args.runs.now) (sym c.deref-2.ensures.value)
    (nodes_from on.lat c.args.runs.now c.mark_all.new.nodes.items nodes laid gains c.ascending-nodes.ensures))
    c.size_of-size.ensures
