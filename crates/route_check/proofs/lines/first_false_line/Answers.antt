use Rattle.std.proofs.Common.{◌<◌, List, arith, length, refl, sym, subst}
use Rattle.std.proofs.lemmas.Option.{slice_get_read, slice_get_within}
use Rattle.cut_certificate.proofs.Each.{unless}
use Rattle.pcb_islands.specs.declared.net.Island.{Island}
use Rattle.route_check.specs.inner.Kept.{HasItsCuts}
use Rattle.route_check.proofs.Kept.{line_more}
use Rattle.route_check.proofs.lines.first_false_line.Goals as goal

pub loop-net-init : goal.loop-net-init
loop-net-init c = λ i os ks less at there. absurd (omega (arith, less))

pub loop-net-preserved : goal.loop-net-preserved
loop-net-preserved c =
    let found = c.args.found.now in
    let nets = c.args.nets.now in
    let net = c.loop-net.net in
    let low : net < length found = c.loop-net-test.true in
    let own_at = slice_get_read found (length found) net c.index-found-net.result refl low c.index-found-net.is in
    let cuts_at = slice_get_read nets (length nets) net c.index-nets-net.result refl
    (omega (arith, low, c.requires.same)) c.index-nets-net.is in
    line_more found nets net c.index-found-net.result c.index-nets-net.result c.loop-net.invariant own_at cuts_at
    (subst (λ (os : List Island). HasItsCuts os c.index-nets-net.result) c.as_slice.ensures
    (subst (HasItsCuts c.as_slice.result.now) c.as_slice-in-loop-net.ensures
    (c.has_its_cuts.ensures.0 c.if-not-has_its_cuts.false)))

pub returns-then-not-has_its_cuts : goal.returns-then-not-has_its_cuts
returns-then-not-has_its_cuts c =
    let found = c.args.found.now in
    let nets = c.args.nets.now in
    let net = c.loop-net.net in
    let low : net < length found = c.loop-net-test.true in
    record {
      own = c.index-found-net.result;
      own_is = slice_get_read found (length found) net c.index-found-net.result refl low c.index-found-net.is;
      cuts = c.index-nets-net.result;
      cuts_is = slice_get_read nets (length nets) net c.index-nets-net.result refl
          (omega (arith, low, c.requires.same)) c.index-nets-net.is;
      not_ = λ has.
          unless c.has_its_cuts.result (HasItsCuts c.as_slice.result.now c.as_slice-in-loop-net.result.now)
          c.has_its_cuts.ensures c.if-not-has_its_cuts.true
          (subst (λ (os : List Island). HasItsCuts os c.as_slice-in-loop-net.result.now) (sym c.as_slice.ensures)
          (subst (HasItsCuts c.index-found-net.result) (sym c.as_slice-in-loop-net.ensures) has));
      before = c.loop-net.invariant;
    }

pub returns : goal.returns
returns c = record {
  each = λ net os ks at there.
      c.loop-net.invariant net os ks
      (let low = slice_get_within c.args.found.now net os at in
      omega (arith, low, c.loop-net-test.false)) at there;
}
