use Rattle.std.proofs.Common.{ℕ, ◌≡◌, ◌+◌, ◌*◌, ◌<◌, ◌≤◌, ◌^◌, ◌⊎◌, List, length, All, Any, arith, sym, subst}
use Rattle.std.proofs.lemmas.List.Elements.{All-weaker}
use Rattle.route_lattice.specs.Ground.{GroundOf}
use Rattle.route_lattice.specs.Mesh.{node_count}
use Rattle.route_lattice.specs.Ways.{way_count}
use Rattle.move_maps.specs.Groups.{IsUnruled, AreAlike}
use Rattle.move_maps.specs.Settings.{GroupOf}
use Rattle.move_maps.proofs.Grouping.{AreFirstsBelow, no_firsts, passed_by, one_first, no_room, no_nets}
use Rattle.move_maps.proofs.firsts.first_nets.Goals as goal

pub loop-net-init : goal.loop-net-init
loop-net-init g c = no_firsts c.args.on.now.d c.args.on.now.lat c.new-firsts.result c.new-firsts.ensures

pub is_old-requires-clause-firsts : goal.is_old-requires-clause-firsts
is_old-requires-clause-firsts g c =
    let d = c.on.inside.d.now in
    let low : c.loop-net.net < length d.nets = omega (arith, c.len-net-end.ensures, c.loop-net-test.true) in
    subst (All (λ n. n < length d.nets)) (sym c.as_slice.ensures)
    (All-weaker (λ n. n < c.loop-net.net) (λ n. n < length d.nets) (λ n h. omega (arith, h, low)) c.loop-net.firsts
    c.loop-net.invariant.below)

pub of-requires : goal.of-requires
of-requires g c =
    subst (λ (s : GroundOf). c.loop-net.net < length s.d.nets) c.on.view_is
    (omega (arith, c.len-net-end.ensures, c.loop-net-test.true))

pub loop-net-preserved-then-is_old : goal.loop-net-preserved-then-is_old
loop-net-preserved-then-is_old g c =
    let net = c.loop-net.net in
    passed_by c.args.on.now.d c.args.on.now.lat net c.loop-net.firsts c.loop-net.used c.loop-net.invariant
    (subst (λ (s : GroundOf). IsUnruled s.d net → Any (λ n. AreAlike s.d n net) c.loop-net.firsts) c.on.view_is
    (subst (λ (l : List ℕ). IsUnruled c.on.inside.d.now net → Any (λ n. AreAlike c.on.inside.d.now n net) l)
    c.as_slice.ensures (c.is_old.ensures.old c.if-is_old.true)))

pub returns-then-is_full : goal.returns-then-is_full
returns-then-is_full g c =
    let net = c.loop-net.net in
    let size = c.moves-size.result in
    no_room c.args.on.now.d c.args.on.now.lat net c.loop-net.firsts c.loop-net.used c.loop-net.invariant size
    (subst (λ (s : GroundOf). IsUnruled s.d net) c.on.view_is (c.is_old.ensures.unruled c.if-is_old.false))
    (subst (λ (s : GroundOf). ¬ (Any (λ n. AreAlike s.d n net) c.loop-net.firsts)) c.on.view_is
    (subst (λ (l : List ℕ). ¬ (Any (λ n. AreAlike c.on.inside.d.now n net) l)) c.as_slice.ensures
    (c.is_old.ensures.new c.if-is_old.false)))
    (subst (λ (s : GroupOf). size ≡ node_count s.lat * way_count s.d s.lat s.first) c.of.ensures
    c.moves-size.ensures.moves)
    (subst (λ n. (16 ≤ n) ⊎ (2 ^ 28 < c.loop-net.used + size)) c.len.ensures (c.is_full.ensures.full c.if-is_full.true))

pub loop-net-preserved : goal.loop-net-preserved
loop-net-preserved g c =
    let net = c.loop-net.net in
    let size = c.moves-size.result in
    subst (λ (l : List ℕ). AreFirstsBelow c.args.on.now.d c.args.on.now.lat (net + 1) l (c.loop-net.used + size))
    (sym c.in_ok-push.ensures.ok)
    (one_first c.args.on.now.d c.args.on.now.lat net c.loop-net.firsts c.loop-net.used c.loop-net.invariant size
    (subst (λ (s : GroundOf). IsUnruled s.d net) c.on.view_is (c.is_old.ensures.unruled c.if-is_old.false))
    (subst (λ (s : GroundOf). ¬ (Any (λ n. AreAlike s.d n net) c.loop-net.firsts)) c.on.view_is
    (subst (λ (l : List ℕ). ¬ (Any (λ n. AreAlike c.on.inside.d.now n net) l)) c.as_slice.ensures
    (c.is_old.ensures.new c.if-is_old.false)))
    (subst (λ (s : GroupOf). size ≡ node_count s.lat * way_count s.d s.lat s.first) c.of.ensures
    c.moves-size.ensures.moves)
    (subst (λ n. n < 16) c.len.ensures (c.is_full.ensures.groups c.if-is_full.false))
    (c.is_full.ensures.moves c.if-is_full.false))

pub returns : goal.returns
returns g c =
    no_nets c.args.on.now.d c.args.on.now.lat c.loop-net.net c.loop-net.firsts c.loop-net.used c.loop-net.invariant
    (subst (λ (s : GroundOf). length s.d.nets ≤ c.loop-net.net) c.on.view_is
    (omega (arith, c.len-net-end.ensures, c.loop-net-test.false)))
