use Rattle.std.proofs.Common.{◌≡◌, ap, ◌∙◌, sym, subst, arith, vec_len}
use Rattle.std.proofs.Common.{unsigned_abs, ◌≤◌, ◌^◌, get_or, Vec, Global, ℤ}
use Rattle.std.specs.Prelude.{is_some}
use Rattle.std.proofs.lemmas.List.{take_all}
use Rattle.geo_kernel.specs.Plane.{IsWithin}
use Rattle.pcb_model.specs.declared.design.Pin.{Pin}
use Rattle.route_lattice.specs.Round.{nearest}
use Rattle.route_lattice.specs.Gather.{anchors_of, coordinate}
use Rattle.route_lattice.proofs.Gathers.{seen, pin_within, pin_seen, pin_kept, pin_passed}
use Rattle.route_lattice.proofs.gather.anchors.Goals as goal
use Rattle.route_lattice.proofs.gather.anchors.Goals.{then-is_some+in_ok-push, else-is_some}

pub bounds-pins-p-index : goal.bounds-pins-p-index
bounds-pins-p-index c = c.loop-p-test.true

pub offset_bounds-pins-p-index : goal.offset_bounds-pins-p-index
offset_bounds-pins-p-index c = omega (arith, c.loop-p-test.true)

pub round_nearest-requires-clause-some : goal.round_nearest-requires-clause-some
round_nearest-requires-clause-some c = c.requires.some

pub round_nearest-requires-clause-short : goal.round_nearest-requires-clause-short
round_nearest-requires-clause-short c = c.requires.short

pub round_nearest-requires-clause-small : goal.round_nearest-requires-clause-small
round_nearest-requires-clause-small c =
    let p = c.p-item.result in
    let at : get_or c.args.pins.now c.loop-p.p-index p ≡ p = sym c.p-item.is in
    let near = subst (λ (q : Pin). IsWithin (2 ^ 29) q.centre) at
    (c.requires.near c.loop-p.p-index p c.loop-p-test.true) in
    subst (λ z. unsigned_abs z ≤ 2 ^ 29) (sym (pin_seen c.args.upright p.centre c.pick.result near c.pick.ensures))
    (pin_within c.args.upright p.centre near)

pub returns-clause-value : goal.returns-clause-value
returns-clause-value c =
    c.loop-p.invariant.listed
    ∙ ap (anchors_of c.args.unit c.args.upright) (take_all c.loop-p.p-index c.args.pins.now c.loop-p-test.false)

pub returns-clause-few : goal.returns-clause-few
returns-clause-few c = omega (arith, c.loop-p.invariant.few, c.loop-p-test.false)

pub loop-p-preserved : goal.loop-p-preserved
loop-p-preserved c =
    let pins = c.args.pins.now in
    let p = c.p-item.result in
    let read : get_or pins c.loop-p.p-index p ≡ p = sym c.p-item.is in
    elim c.if-is_some.branch [
      | then-is_some+in_ok-push w ↦ record {
        listed = pin_kept c.args.unit c.args.upright pins c.loop-p.p-index p c.loop-p-test.true c.loop-p.found.items
            c.if-is_some.found.items _ (ap (λ (q : Pin). is_some q.net) read ∙ sym w.if-is_some.ensures)
            c.loop-p.invariant.listed
            (seen w.round_nearest.result w.round_nearest.ensures.within ∙ w.round_nearest.ensures.value
            ∙ ap (nearest c.args.unit)
            (pin_seen c.args.upright (get_or pins c.loop-p.p-index p).centre w.pick.result
            (c.requires.near c.loop-p.p-index p c.loop-p-test.true)
            (w.pick.ensures ∙ ap (λ (q : Pin). coordinate c.args.upright q.centre) (sym read))))
            (ap (λ (v : Vec ℤ Global). v.items) w.found-is ∙ w.in_ok-push.ensures.items);
        few = omega (
          arith,
          w.in_ok-push.ensures.len,
          ap (λ (v : Vec ℤ Global). vec_len v) w.found-is,
          c.loop-p.invariant.few,
        );
      }
      | else-is_some w ↦ record {
        listed = ap (λ (v : Vec ℤ Global). v.items) w.found-is ∙ pin_passed c.args.unit c.args.upright pins
            c.loop-p.p-index p c.loop-p-test.true c.loop-p.found.items
            (ap (λ (q : Pin). is_some q.net) read ∙ sym w.if-is_some.ensures)
            c.loop-p.invariant.listed;
        few = omega (arith, ap (λ (v : Vec ℤ Global). vec_len v) w.found-is, c.loop-p.invariant.few);
      }
    ]
