use Rattle.std.proofs.Common.{◌≡◌, ℕ, ℤ, ◌<◌, ap, ◌∙◌, sym, subst, arith, vec_len, get_or, length, List, Vec, Global}
use Rattle.pcb_model.specs.declared.design.Pin.{Pin}
use Rattle.route_lattice.specs.Round.{nearest}
use Rattle.route_lattice.specs.Gather.{coordinate, unit_of}
use Rattle.route_lattice.proofs.Gathers.{seen}
use Rattle.route_lattice.proofs.Units.{unit_some, unit_few}
use Rattle.plane_joins.specs.Planes.{is_own}
use Rattle.plane_joins.proofs.Owning.{own_kept, own_passed, all_anchors}
use Rattle.plane_joins.proofs.lines.own_anchors.Goals as goal
use Rattle.plane_joins.proofs.lines.own_anchors.Goals.{then-is_own+in_ok-push, else-is_own}

pub rounded_coordinate-requires-clause-some : goal.rounded_coordinate-requires-clause-some
rounded_coordinate-requires-clause-some c = subst (λ n. 0 < n) (sym c.requires.unit) (unit_some c.args.d.now)

pub rounded_coordinate-requires-clause-short : goal.rounded_coordinate-requires-clause-short
rounded_coordinate-requires-clause-short c = let f = unit_few c.args.d.now in omega (arith, f, c.requires.unit)

pub loop-i-preserved : goal.loop-i-preserved
loop-i-preserved c =
    let d = c.args.d.now in
    let q = c.index-pins-i.result in
    let read : get_or d.pins c.loop-i.i q ≡ q =
    ap (λ (ps : List Pin). get_or ps c.loop-i.i q) (sym c.as_slice-pins.ensures) ∙ sym c.index-pins-i.is in
    let within : c.loop-i.i < length d.pins =
    subst (λ (ps : List Pin). c.loop-i.i < length ps) c.as_slice-pins.ensures c.loop-i-test.true in
    elim c.if-is_own.branch [
      | then-is_own+in_ok-push w ↦ record {
        listed = own_kept d c.args.p.now c.args.upright c.loop-i.i q within c.loop-i.found.items
            c.if-is_own.found.items _
            (ap (λ (e : Pin). is_own d c.args.p.now (c.loop-i.i, e)) read ∙ sym c.is_own.ensures ∙ w.if-is_own.true)
            c.loop-i.invariant.listed
            (seen w.rounded_coordinate.result w.rounded_coordinate.ensures.within ∙ w.rounded_coordinate.ensures.value
            ∙ ap (λ (n : ℕ). nearest n (coordinate c.args.upright q.centre)) c.requires.unit
            ∙ ap (λ (e : Pin). nearest (unit_of d) (coordinate c.args.upright e.centre)) (sym read))
            (ap (λ (v : Vec ℤ Global). v.items) w.found-is ∙ w.in_ok-push.ensures.items);
        few = omega (
          arith,
          w.in_ok-push.ensures.len,
          ap (λ (v : Vec ℤ Global). vec_len v) w.found-is,
          c.loop-i.invariant.few,
        );
      }
      | else-is_own w ↦ record {
        listed = ap (λ (v : Vec ℤ Global). v.items) w.found-is ∙ own_passed d c.args.p.now c.args.upright c.loop-i.i q
            within c.loop-i.found.items
            (ap (λ (e : Pin). is_own d c.args.p.now (c.loop-i.i, e)) read ∙ sym c.is_own.ensures ∙ w.if-is_own.false)
            c.loop-i.invariant.listed;
        few = omega (arith, ap (λ (v : Vec ℤ Global). vec_len v) w.found-is, c.loop-i.invariant.few);
      }
    ]

pub returns-clause-value : goal.returns-clause-value
returns-clause-value c =
    c.loop-i.invariant.listed
    ∙ all_anchors c.args.d.now c.args.p.now c.args.upright c.loop-i.i
    (omega (arith, c.loop-i-test.false, ap (λ (ps : List Pin). length ps) c.as_slice-pins.ensures))
