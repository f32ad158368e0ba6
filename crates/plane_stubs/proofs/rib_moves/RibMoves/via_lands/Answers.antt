use Rattle.std.proofs.Common.{arith, sym, subst, nat_lt}
use Rattle.std.specs.Prelude.{IsTrue}
use Rattle.std.proofs.lemmas.Bool.{false≢true}
use Rattle.pcb_model.specs.declared.item.Probe.TheVariants as probe
use Rattle.plane_joins.specs.Stubs.{RibGround, TouchesRib}
use Rattle.plane_stubs.specs.inner.Landings.{NetRibs}
use Rattle.plane_stubs.proofs.Touching.{told_none, told_some}
use Rattle.plane_stubs.proofs.rib_moves.RibMoves.via_lands.Goals as goal

pub returns-in-Some : goal.returns-in-Some
returns-in-Some c =
    let s = c.self.inside in
    let few = c.self.invariant.2 in
    let p = probe.Via c.args.padstack c.args.at in
    let g : RibGround = record {
      d = s.legal.d.now;
      lat = s.legal.lat.now;
      via_cost = s.legal.via_cost;
      items = s.legal.c.now.items;
      first = s.first;
      last = s.last;
    } in
    subst (λ (n : NetRibs). (IsTrue (nat_lt c.in-Some.id s.last) → TouchesRib n.on n.net p)
    × (TouchesRib n.on n.net p → IsTrue (nat_lt c.in-Some.id s.last))) c.self.view_is
    (told_some g s.legal.net 18446744073709551615 (omega (arith, few)) p c.in_ok-via.via c.in_ok-via.ensures
    c.in-Some.id
    c.in-Some.ensures)

pub returns : goal.returns
returns c =
    let s = c.self.inside in
    let few = c.self.invariant.2 in
    let p = probe.Via c.args.padstack c.args.at in
    let g : RibGround = record {
      d = s.legal.d.now;
      lat = s.legal.lat.now;
      via_cost = s.legal.via_cost;
      items = s.legal.c.now.items;
      first = s.first;
      last = s.last;
    } in (
      λ e. absurd (false≢true e),
      λ t. absurd (told_none g s.legal.net 18446744073709551615 (omega (arith, few)) p c.in_ok-via.via
          c.in_ok-via.ensures c.in-None.ensures
          (subst (λ (n : NetRibs). TouchesRib n.on n.net p) (sym c.self.view_is) t)),
    )
