use Rattle.std.proofs.Common.{◌<◌, ◌+◌, None, Some, length, subst, arith}
use Rattle.shove.specs.Shoves.{IsWire, chain_of, IsShove, Shoves}
use Rattle.shove.proofs.Touching.{unless}
use Rattle.route_plan.specs.inner.NewItems.{NewItemsOf}
use Rattle.route_plan.proofs.Fitting.{is_wire, chain_within, metal_fits, item_fits, fitting, fits_not}
use Rattle.route_plan.proofs.fit.NewItems.fit.Goals as goal

pub returns-in_default : goal.returns-in_default
returns-in_default g c = λ chain h.
    let y = c.args.self.now in
    let shoves = subst (λ (y : NewItemsOf). Shoves y.on.d y.on.lat y.on.items c.args.item.now c.args.run c.args.up
    c.in_ok-shape.field-0) c.self.view_is c.in_ok-shape.ensures in
    subst (Shoves y.on.d y.on.lat y.on.items c.args.item.now c.args.run c.args.up) {x = _} {y = None} c.in_default.is
    shoves chain h.shove

pub reshape-requires-clause-fit : goal.reshape-requires-clause-fit
reshape-requires-clause-fit g c =
    let s = c.self.inside in
    let d = s.d.now in
    let m = s.lat.now in
    let items = g.C.Copper.items s.copper.now in
    let a = c.args.item.now in
    let chain = c.in-Some.shape.chain in
    let run : c.args.run + 1 < length (chain_of a.metal) = c.requires.run in
    let wire : IsWire a.metal = is_wire a.metal (omega (arith, run)) in
    let shove : IsShove d m items a c.args.run c.args.up chain =
    subst (Shoves d m items a c.args.run c.args.up) {x = _} {y = Some c.in-Some.shape} c.in-Some.is
    c.in_ok-shape.ensures in
    metal_fits chain (c.shoved_chains.ensures.points m (chain_of a.metal) c.args.run c.args.up chain shove.shoved)
    (c.shoved_chains.ensures.within d m (chain_of a.metal) c.args.run c.args.up chain
    c.self.invariant.0.fits (chain_within a.metal c.requires.item.metal_fits) shove.shoved) a.metal wire
    c.requires.item.metal_fits

pub all_agree_with-requires : goal.all_agree_with-requires
all_agree_with-requires g c =
    let s = c.self.inside in
    let d = s.d.now in
    let m = s.lat.now in
    let items = g.C.Copper.items s.copper.now in
    let a = c.args.item.now in
    let chain = c.in-Some.shape.chain in
    let run : c.args.run + 1 < length (chain_of a.metal) = c.requires.run in
    let wire : IsWire a.metal = is_wire a.metal (omega (arith, run)) in
    let shove : IsShove d m items a c.args.run c.args.up chain =
    subst (Shoves d m items a c.args.run c.args.up) {x = _} {y = Some c.in-Some.shape} c.in-Some.is
    c.in_ok-shape.ensures in
    item_fits chain (c.shoved_chains.ensures.points m (chain_of a.metal) c.args.run c.args.up chain shove.shoved)
    (c.shoved_chains.ensures.within d m (chain_of a.metal) c.args.run c.args.up chain
    c.self.invariant.0.fits (chain_within a.metal c.requires.item.metal_fits) shove.shoved) c.args.self.now.on.d a
    c.in_ok-moved.moved wire c.requires.item.metal_fits c.in_ok-moved.ensures

pub returns-then-all_agree_with : goal.returns-then-all_agree_with
returns-then-all_agree_with g c =
    let s = c.self.inside in
    let d = s.d.now in
    let m = s.lat.now in
    let items = g.C.Copper.items s.copper.now in
    let a = c.args.item.now in
    let y = c.args.self.now in
    let chain = c.in-Some.shape.chain in
    let run : c.args.run + 1 < length (chain_of a.metal) = c.requires.run in
    let wire : IsWire a.metal = is_wire a.metal (omega (arith, run)) in
    let shove : IsShove d m items a c.args.run c.args.up chain =
    subst (Shoves d m items a c.args.run c.args.up) {x = _} {y = Some c.in-Some.shape} c.in-Some.is
    c.in_ok-shape.ensures in
    let there = subst (λ (y : NewItemsOf). IsShove y.on.d y.on.lat y.on.items a c.args.run c.args.up chain)
    c.self.view_is shove in
    let sized = item_fits chain
    (c.shoved_chains.ensures.points m (chain_of a.metal) c.args.run c.args.up chain shove.shoved)
    (c.shoved_chains.ensures.within d m (chain_of a.metal) c.args.run c.args.up chain
    c.self.invariant.0.fits (chain_within a.metal c.requires.item.metal_fits) shove.shoved) y.on.d a
    c.in_ok-moved.moved wire c.requires.item.metal_fits c.in_ok-moved.ensures in
    fitting y.on.d y.on.lat y.on.items y.new a c.args.run c.args.up chain c.in_ok-moved.moved wire there
    c.in_ok-moved.ensures (c.all_agree_with.ensures.0 c.if-all_agree_with.true) sized

pub returns-else-all_agree_with : goal.returns-else-all_agree_with
returns-else-all_agree_with g c =
    let s = c.self.inside in
    let d = s.d.now in
    let m = s.lat.now in
    let items = g.C.Copper.items s.copper.now in
    let a = c.args.item.now in
    let y = c.args.self.now in
    let chain = c.in-Some.shape.chain in
    let shove : IsShove d m items a c.args.run c.args.up chain =
    subst (Shoves d m items a c.args.run c.args.up) {x = _} {y = Some c.in-Some.shape} c.in-Some.is
    c.in_ok-shape.ensures in
    let there = subst (λ (y : NewItemsOf). IsShove y.on.d y.on.lat y.on.items a c.args.run c.args.up chain)
    c.self.view_is shove in
    fits_not y.on.d y.on.lat y.on.items y.new a c.args.run c.args.up chain c.in_ok-moved.moved
    (λ t h. c.shoved_chains.ensures.one y.on.lat (chain_of a.metal) c.args.run c.args.up t chain h there.shoved)
    c.in_ok-moved.ensures (unless c.all_agree_with.result _ c.all_agree_with.ensures c.if-all_agree_with.false)
