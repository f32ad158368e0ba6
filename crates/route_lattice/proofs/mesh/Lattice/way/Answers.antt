use Rattle.std.proofs.Common.{◌-◌, ◌<◌, ℕ, Option, List, length, arith, sym, subst, ◌∙◌}
use Rattle.std.specs.Prelude.{IfSome}
use Rattle.pcb_model.specs.declared.design.Net.{Net}
use Rattle.route_lattice.specs.declared.moves.Move.{Move}
use Rattle.route_lattice.specs.Mesh.{node_count}
use Rattle.route_lattice.proofs.Leading.{way_goes}
use Rattle.route_lattice.proofs.Steps.{size, div_le}
use Rattle.route_lattice.proofs.Numbered.{way_steps, way_vias, some_layers, via_there, level_there}
use Rattle.route_lattice.proofs.mesh.Lattice.way.Goals as goal

pub step-requires-clause-dir : goal.step-requires-clause-dir
step-requires-clause-dir c = c.if-i-lt4.true

pub overflow_cast-number : goal.overflow_cast-number
overflow_cast-number c = omega (arith, c.ranges.i)

pub offset_bounds-as_slice-net : goal.offset_bounds-as_slice-net
offset_bounds-as_slice-net c = omega (arith, c.ranges.net)

pub returns-then-i-lt4-clause-value : goal.returns-then-i-lt4-clause-value
returns-then-i-lt4-clause-value c =
    c.step.ensures ∙ way_steps c.args.d.now c.args.self.now c.args.net c.args.node c.args.i c.if-i-lt4.true

pub bounds-as_slice-net : goal.bounds-as_slice-net
bounds-as_slice-net c = subst (λ (xs : List Net). c.args.net < length xs) (sym c.as_slice.ensures) c.requires.net

pub nonzero_div-padstack : goal.nonzero_div-padstack
nonzero_div-padstack c =
    some_layers c.args.d.now c.args.self.now c.args.net c.args.i _ _ c.index-as_slice-net.result _
    (size _ _ _ c.len-layers.ensures c.layers.ensures) c.as_slice.ensures c.index-as_slice-net.is c.as_slice-2.ensures
    c.requires.net c.requires.index c.if-i-lt4.false

pub nonzero_rem-number : goal.nonzero_rem-number
nonzero_rem-number c =
    some_layers c.args.d.now c.args.self.now c.args.net c.args.i _ _ c.index-as_slice-net.result _
    (size _ _ _ c.len-layers.ensures c.layers.ensures) c.as_slice.ensures c.index-as_slice-net.is c.as_slice-2.ensures
    c.requires.net c.requires.index c.if-i-lt4.false

pub bounds-as_slice-number : goal.bounds-as_slice-number
bounds-as_slice-number c =
    via_there c.args.d.now c.args.self.now c.args.net c.args.i _ _ c.index-as_slice-net.result _
    (size _ _ _ c.len-layers.ensures c.layers.ensures) c.as_slice.ensures c.index-as_slice-net.is c.as_slice-2.ensures
    c.requires.net c.requires.index c.if-i-lt4.false

pub via-requires-clause-level : goal.via-requires-clause-level
via-requires-clause-level c =
    level_there c.args.d.now c.args.self.now c.args.net c.args.i _ _ c.index-as_slice-net.result _
    (size _ _ _ c.len-layers.ensures c.layers.ensures) c.as_slice.ensures c.index-as_slice-net.is c.as_slice-2.ensures
    c.requires.net c.requires.index c.if-i-lt4.false

pub offset_bounds-as_slice-number : goal.offset_bounds-as_slice-number
offset_bounds-as_slice-number c =
    let some = some_layers c.args.d.now c.args.self.now c.args.net c.args.i _ _ c.index-as_slice-net.result _
    (size _ _ _ c.len-layers.ensures c.layers.ensures) c.as_slice.ensures c.index-as_slice-net.is c.as_slice-2.ensures
    c.requires.net c.requires.index c.if-i-lt4.false in
    omega (arith, div_le (c.args.i - 4) c.len-layers.result some, c.ranges.i)

pub returns-clause-value : goal.returns-clause-value
returns-clause-value c =
    way_vias c.args.d.now c.args.self.now c.args.net c.args.i _ _ c.index-as_slice-net.result _
    (size _ _ _ c.len-layers.ensures c.layers.ensures) c.as_slice.ensures c.index-as_slice-net.is c.as_slice-2.ensures
    c.requires.net c.args.node _ c.if-i-lt4.false c.via.ensures

pub returns-then-i-lt4-clause-leads : goal.returns-then-i-lt4-clause-leads
returns-then-i-lt4-clause-leads c =
    let m = c.args.self.now in
    subst (λ (o : Option (Move × ℕ)). IfSome o (λ (w : Move × ℕ). w.1 < node_count m))
    (sym (returns-then-i-lt4-clause-value c))
    (way_goes c.args.d.now m c.args.net c.args.node c.args.i c.requires.node)

pub returns-clause-leads : goal.returns-clause-leads
returns-clause-leads c =
    let m = c.args.self.now in
    subst (λ (o : Option (Move × ℕ)). IfSome o (λ (w : Move × ℕ). w.1 < node_count m)) (sym (returns-clause-value c))
    (way_goes c.args.d.now m c.args.net c.args.node c.args.i c.requires.node)
