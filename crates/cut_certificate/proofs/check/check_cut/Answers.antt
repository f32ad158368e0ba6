use Rattle.std.proofs.Common.{ℕ, List, ◌<◌, All, subst}
use Rattle.std.specs.Prelude.{IsTrue, ◌↔◌}
use Rattle.std.specs.List.Sorted.{IsStrictlyIncreasing}
use Rattle.pcb_islands.specs.declared.net.Island.{Island}
use Rattle.route_lattice.specs.Mesh.{node_count}
use Rattle.route_lattice.specs.Ground.{ground_of}
use Rattle.route_lattice.specs.Ways.{way, way_count}
use Rattle.cut_certificate.specs.declared.cut.Block.{Block}
use Rattle.cut_certificate.specs.Border.{AreBlocks}
use Rattle.cut_certificate.specs.Cuts.{IsCut, IsShutBy}
use Rattle.cut_certificate.specs.inner.Checks.{HoldsStartsOf, HoldsNoneOfIsland}
use Rattle.cut_certificate.proofs.Each.{unless, refused}
use Rattle.cut_certificate.proofs.Checking.{starts_say, goals_say}
use Rattle.cut_certificate.proofs.check.check_cut.Goals as goal

pub returns : goal.returns
returns g c =
    let ascends : IsTrue c.ascends.result ↔ IsStrictlyIncreasing c.args.cut.now.reach.nodes =
    subst (λ (xs : List ℕ). IsTrue c.ascends.result ↔ IsStrictlyIncreasing xs) c.as_slice-nodes.ensures
    c.ascends.ensures in
    let there : IsTrue c.all_below.result ↔ All (λ v. v < node_count c.args.lat.now) c.args.cut.now.reach.nodes =
    subst (λ (y : List ℕ × ℕ). IsTrue c.all_below.result ↔ All (λ v. v < y.1) y.0)
    (λ i. (c.as_slice-nodes.ensures i, c.count.ensures.nodes i)) c.all_below.ensures in
    let starts =
    starts_say (ground_of c.args.d.now c.args.lat.now (g.C.Copper.items c.args.c.now)) c.args.cut.now.reach.nodes
    c.args.island.now c.all_starts_in.result
    (subst (λ (y : List ℕ × List ℕ). IsTrue c.all_starts_in.result
    ↔ All (HoldsStartsOf (ground_of c.args.d.now c.args.lat.now (g.C.Copper.items c.args.c.now))
    c.args.island.now.net y.0) y.1)
    (λ i. (c.as_slice-nodes.ensures i, c.as_slice.ensures i)) c.all_starts_in.ensures) in
    let goals =
    goals_say (ground_of c.args.d.now c.args.lat.now (g.C.Copper.items c.args.c.now)) c.args.cut.now.reach.nodes
    c.args.others.now (there.0 c.if-not-all_below.false) c.islands_out.result
    (subst (λ (y : List ℕ × List Island). IsTrue c.islands_out.result
    ↔ All (HoldsNoneOfIsland (ground_of c.args.d.now c.args.lat.now (g.C.Copper.items c.args.c.now)) y.0) y.1)
    (λ i. (c.as_slice-nodes.ensures i, c.as_slice-2.ensures i)) c.islands_out.ensures) in
    let border : IsTrue c.has_border.result
    ↔ AreBlocks (way c.args.d.now c.args.lat.now c.args.island.now.net)
    (way_count c.args.d.now c.args.lat.now c.args.island.now.net)
    (IsShutBy c.args.d.now c.args.lat.now (g.C.Copper.items c.args.c.now) c.args.island.now.net)
    c.args.cut.now.reach.nodes c.args.cut.now.blocked =
    subst (λ (y : List ℕ × List Block). IsTrue c.has_border.result
    ↔ AreBlocks (way c.args.d.now c.args.lat.now c.args.island.now.net)
    (way_count c.args.d.now c.args.lat.now c.args.island.now.net)
    (IsShutBy c.args.d.now c.args.lat.now (g.C.Copper.items c.args.c.now) c.args.island.now.net) y.0 y.1)
    (λ i. (c.as_slice-nodes.ensures i, c.as_slice-3.ensures i)) c.has_border.ensures in (
      λ h. record {
        net_is = (c.is_named.ensures.0 c.if-not-is_named.false).0;
        pin_is = (c.is_named.ensures.0 c.if-not-is_named.false).1;
        ascends = ascends.0 c.if-not-ascends.false;
        there = there.0 c.if-not-all_below.false;
        starts_in = starts.0 c.if-not-all_starts_in.false;
        goals_out = goals.0 c.if-not-islands_out.false;
        blocks = border.0 h;
      },
      λ i. border.1 i.blocks,
    )

pub returns-then-not-is_named : goal.returns-then-not-is_named
returns-then-not-is_named g c =
    refused (IsCut c.args.d.now c.args.lat.now (g.C.Copper.items c.args.c.now) c.args.island.now c.args.others.now
    c.args.cut.now)
    (λ i. unless c.is_named.result _ c.is_named.ensures c.if-not-is_named.true (i.net_is, i.pin_is))

pub returns-then-not-ascends : goal.returns-then-not-ascends
returns-then-not-ascends g c =
    let ascends : IsTrue c.ascends.result ↔ IsStrictlyIncreasing c.args.cut.now.reach.nodes =
    subst (λ (xs : List ℕ). IsTrue c.ascends.result ↔ IsStrictlyIncreasing xs) c.as_slice-nodes.ensures
    c.ascends.ensures in
    refused (IsCut c.args.d.now c.args.lat.now (g.C.Copper.items c.args.c.now) c.args.island.now c.args.others.now
    c.args.cut.now)
    (λ i. unless c.ascends.result _ ascends c.if-not-ascends.true i.ascends)

pub returns-then-not-all_below : goal.returns-then-not-all_below
returns-then-not-all_below g c =
    let there : IsTrue c.all_below.result ↔ All (λ v. v < node_count c.args.lat.now) c.args.cut.now.reach.nodes =
    subst (λ (y : List ℕ × ℕ). IsTrue c.all_below.result ↔ All (λ v. v < y.1) y.0)
    (λ i. (c.as_slice-nodes.ensures i, c.count.ensures.nodes i)) c.all_below.ensures in
    refused (IsCut c.args.d.now c.args.lat.now (g.C.Copper.items c.args.c.now) c.args.island.now c.args.others.now
    c.args.cut.now)
    (λ i. unless c.all_below.result _ there c.if-not-all_below.true i.there)

pub returns-then-not-all_starts_in : goal.returns-then-not-all_starts_in
returns-then-not-all_starts_in g c =
    let starts =
    starts_say (ground_of c.args.d.now c.args.lat.now (g.C.Copper.items c.args.c.now)) c.args.cut.now.reach.nodes
    c.args.island.now c.all_starts_in.result
    (subst (λ (y : List ℕ × List ℕ). IsTrue c.all_starts_in.result
    ↔ All (HoldsStartsOf (ground_of c.args.d.now c.args.lat.now (g.C.Copper.items c.args.c.now))
    c.args.island.now.net y.0) y.1)
    (λ i. (c.as_slice-nodes.ensures i, c.as_slice.ensures i)) c.all_starts_in.ensures) in
    refused (IsCut c.args.d.now c.args.lat.now (g.C.Copper.items c.args.c.now) c.args.island.now c.args.others.now
    c.args.cut.now)
    (λ i. unless c.all_starts_in.result _ starts c.if-not-all_starts_in.true i.starts_in)

pub returns-then-not-islands_out : goal.returns-then-not-islands_out
returns-then-not-islands_out g c =
    let there : IsTrue c.all_below.result ↔ All (λ v. v < node_count c.args.lat.now) c.args.cut.now.reach.nodes =
    subst (λ (y : List ℕ × ℕ). IsTrue c.all_below.result ↔ All (λ v. v < y.1) y.0)
    (λ i. (c.as_slice-nodes.ensures i, c.count.ensures.nodes i)) c.all_below.ensures in
    let goals =
    goals_say (ground_of c.args.d.now c.args.lat.now (g.C.Copper.items c.args.c.now)) c.args.cut.now.reach.nodes
    c.args.others.now (there.0 c.if-not-all_below.false) c.islands_out.result
    (subst (λ (y : List ℕ × List Island). IsTrue c.islands_out.result
    ↔ All (HoldsNoneOfIsland (ground_of c.args.d.now c.args.lat.now (g.C.Copper.items c.args.c.now)) y.0) y.1)
    (λ i. (c.as_slice-nodes.ensures i, c.as_slice-2.ensures i)) c.islands_out.ensures) in
    refused (IsCut c.args.d.now c.args.lat.now (g.C.Copper.items c.args.c.now) c.args.island.now c.args.others.now
    c.args.cut.now)
    (λ i. unless c.islands_out.result _ goals c.if-not-islands_out.true i.goals_out)

pub invariant_of-on : goal.invariant_of-on
invariant_of-on g c = record {
  sound = c.requires.sound;
  fits = c.requires.fits;
  serves = c.requires.serves;
  in_order = c.in_order.ensures.ascends;
}
