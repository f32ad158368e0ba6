use Rattle.std.proofs.Common.{◌≡◌, ◌<◌, ℕ, List, ap, arith, length, refl, subst, sym}
use Rattle.std.specs.Prelude.{All}
use Rattle.std.proofs.lemmas.Option.{slice_get_read}
use Rattle.pcb_islands.specs.declared.net.Island.{Island}
use Rattle.route_lattice.specs.Ground.{GroundOf}
use Rattle.route_lattice.specs.Mesh.{node_count}
use Rattle.cut_check.specs.Marks.{IsBlank}
use Rattle.report_form.specs.declared.reading.ReadCut.{ReadCut}
use Rattle.route_check.specs.Judged.{islands_told}
use Rattle.route_check.specs.inner.Kept.{AreAllJudged, AreJudged}
use Rattle.route_check.proofs.Kept.{told_most}
use Rattle.route_check.proofs.Least.{all_more, all_none}
use Rattle.route_check.proofs.cuts.first_false_cut.Goals as goal

pub loop-net-init : goal.loop-net-init
loop-net-init g c =
    let on = c.args.on.now in (
      subst (λ (s : GroundOf). IsBlank (node_count s.lat) c.in_ok-marks.marks.items) c.on.view_is c.in_ok-marks.ensures,
      all_none on.d on.lat on.items c.args.found.now c.args.nets.now,
    )

pub bounds-found-net : goal.bounds-found-net
bounds-found-net g c = omega (arith, c.loop-net-test.true, c.requires.same)

pub lowered_by_net-requires-clause-nets : goal.lowered_by_net-requires-clause-nets
lowered_by_net-requires-clause-nets g c =
    let count = length c.args.on.now.d.nets in
    let within : c.loop-net.net < length c.args.found.now = omega (arith, c.loop-net-test.true, c.requires.same) in
    subst (All (λ (s : Island). s.net < count)) (sym c.as_slice-own.ensures)
    (subst (All (λ (s : Island). s.net < count)) (sym c.index-found-net.is)
    (c.requires.nets c.loop-net.net c.index-found-net.result within))

pub lowered_by_net-requires-clause-same : goal.lowered_by_net-requires-clause-same
lowered_by_net-requires-clause-same g c =
    let found = c.args.found.now in
    let nets = c.args.nets.now in
    let net = c.loop-net.net in
    let own = c.index-found-net.result in
    let cuts = c.index-nets-net.result in
    let low : net < length nets = c.loop-net-test.true in
    let own_at = slice_get_read found (length found) net own refl (omega (arith, low, c.requires.same))
    c.index-found-net.is in
    let cuts_at = slice_get_read nets (length nets) net cuts refl low c.index-nets-net.is in
    let line : length cuts ≡ islands_told own = c.requires.lines.each net own cuts own_at cuts_at in
    let most = told_most own in
    let own_long = ap length c.as_slice-own.ensures in
    let cuts_long = ap length c.as_slice-cuts.ensures in
    omega (arith, line, most, own_long, cuts_long)

pub lowered_by_net-requires-clause-blank : goal.lowered_by_net-requires-clause-blank
lowered_by_net-requires-clause-blank g c = c.loop-net.invariant.0

pub loop-net-preserved : goal.loop-net-preserved
loop-net-preserved g c =
    let on = c.args.on.now in
    let found = c.args.found.now in
    let nets = c.args.nets.now in
    let net = c.loop-net.net in
    let old = c.loop-net.least in
    let new = c.in_ok-least.least in
    let own = c.index-found-net.result in
    let cuts = c.index-nets-net.result in
    let low : net < length nets = c.loop-net-test.true in
    let own_at = slice_get_read found (length found) net own refl (omega (arith, low, c.requires.same))
    c.index-found-net.is in
    let cuts_at = slice_get_read nets (length nets) net cuts refl low c.index-nets-net.is in (
      c.in_ok-least.ensures.blank,
      all_more on.d on.lat on.items found nets net old new own cuts c.loop-net.invariant.1 own_at cuts_at
          (subst (λ (ks : List ReadCut). AreJudged on.d on.lat on.items own ks (length ks) old new)
          c.as_slice-cuts.ensures
          (subst (λ (os : List Island). AreJudged on.d on.lat on.items os c.as_slice-cuts.result.now
          (length c.as_slice-cuts.result.now) old new) c.as_slice-own.ensures c.in_ok-least.ensures.lowered)),
    )

pub returns : goal.returns
returns g c =
    let on = c.args.on.now in
    let all : c.loop-net.net ≡ length c.args.nets.now =
    omega (arith, c.loop-net-test.false, c.loop-net.auto.net-end) in
    subst (λ (count : ℕ). AreAllJudged on.d on.lat on.items c.args.found.now c.args.nets.now count c.loop-net.least) all
    c.loop-net.invariant.1
