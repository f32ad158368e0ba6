use Rattle.std.proofs.Common.{ℕ, ◌-◌, ◌%◌, ◌<◌, List, length, ap, sym, ◌∙◌, subst, arith}
use Rattle.pcb_model.specs.declared.design.Net.{Net}
use Rattle.route_lattice.proofs.Steps.{div_le}
use Rattle.route_lattice.proofs.Numbered.{some_layers, via_there, level_there}
use Rattle.move_maps.proofs.Vaulting.{via_led}
use Rattle.move_maps.proofs.via.via_to.Goals as goal

pub overflow_sub-number : goal.overflow_sub-number
overflow_sub-number c = c.requires.via

pub overflow_cast-number : goal.overflow_cast-number
overflow_cast-number c = omega (arith, c.ranges.i)

pub offset_bounds-as_slice-net : goal.offset_bounds-as_slice-net
offset_bounds-as_slice-net c = omega (arith, c.ranges.net)

pub bounds-as_slice-net : goal.bounds-as_slice-net
bounds-as_slice-net c = subst (λ (xs : List Net). c.args.net < length xs) (sym c.as_slice.ensures)
    c.requires.can_move.net_there

pub nonzero_div-padstack : goal.nonzero_div-padstack
nonzero_div-padstack c =
    some_layers c.args.d.now c.args.lat.now c.args.net c.args.i _ _ c.index-as_slice-net.result _
    (ap (λ (ls : List ℕ). length ls) (c.as_slice-layers.ensures ∙ c.layers.ensures)) c.as_slice.ensures
    c.index-as_slice-net.is c.as_slice-2.ensures c.requires.can_move.net_there c.requires.index c.requires.via

pub offset_bounds-as_slice-number : goal.offset_bounds-as_slice-number
offset_bounds-as_slice-number c =
    let some = some_layers c.args.d.now c.args.lat.now c.args.net c.args.i _ _ c.index-as_slice-net.result _
    (ap (λ (ls : List ℕ). length ls) (c.as_slice-layers.ensures ∙ c.layers.ensures)) c.as_slice.ensures
    c.index-as_slice-net.is c.as_slice-2.ensures c.requires.can_move.net_there c.requires.index c.requires.via in
    omega (arith, div_le (c.args.i - 4) (length c.as_slice-layers.result.now) some, c.ranges.i)

pub bounds-as_slice-number : goal.bounds-as_slice-number
bounds-as_slice-number c =
    via_there c.args.d.now c.args.lat.now c.args.net c.args.i _ _ c.index-as_slice-net.result _
    (ap (λ (ls : List ℕ). length ls) (c.as_slice-layers.ensures ∙ c.layers.ensures)) c.as_slice.ensures
    c.index-as_slice-net.is c.as_slice-2.ensures c.requires.can_move.net_there c.requires.index c.requires.via

pub nonzero_rem-level : goal.nonzero_rem-level
nonzero_rem-level c =
    some_layers c.args.d.now c.args.lat.now c.args.net c.args.i _ _ c.index-as_slice-net.result _
    (ap (λ (ls : List ℕ). length ls) (c.as_slice-layers.ensures ∙ c.layers.ensures)) c.as_slice.ensures
    c.index-as_slice-net.is c.as_slice-2.ensures c.requires.can_move.net_there c.requires.index c.requires.via

pub bounds-layers-level : goal.bounds-layers-level
bounds-layers-level c =
    let e = ap (λ (ls : List ℕ). length ls) (c.as_slice-layers.ensures ∙ c.layers.ensures) in
    subst (λ n. (c.args.i - 4) % length c.as_slice-layers.result.now < n) (sym e)
    (level_there c.args.d.now c.args.lat.now c.args.net c.args.i _ _ c.index-as_slice-net.result _
    e c.as_slice.ensures c.index-as_slice-net.is
    c.as_slice-2.ensures c.requires.can_move.net_there c.requires.index c.requires.via)

pub node_on-requires-clause-node : goal.node_on-requires-clause-node
node_on-requires-clause-node c = c.requires.node

pub node_on-requires-clause-level : goal.node_on-requires-clause-level
node_on-requires-clause-level c =
    level_there c.args.d.now c.args.lat.now c.args.net c.args.i _ _ c.index-as_slice-net.result _
    (ap (λ (ls : List ℕ). length ls) (c.as_slice-layers.ensures ∙ c.layers.ensures)) c.as_slice.ensures
    c.index-as_slice-net.is c.as_slice-2.ensures c.requires.can_move.net_there c.requires.index c.requires.via

pub returns : goal.returns
returns c = λ padstack layer to is.
    via_led c.args.d.now c.args.lat.now c.args.net c.args.node c.args.i c.node_on.result padstack layer to
    c.requires.via
    is c.as_slice.result.now c.index-as_slice-net.result c.as_slice-2.result.now c.as_slice-layers.result.now
    c.as_slice.ensures c.requires.can_move.net_there c.as_slice-2.ensures (c.as_slice-layers.ensures ∙ c.layers.ensures)
    c.node_on.ensures
