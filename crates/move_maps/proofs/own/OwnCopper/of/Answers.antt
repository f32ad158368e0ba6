use Rattle.std.proofs.Common.{◌≡◌, ◌+◌, ◌≤◌, ◌<◌, ◌^◌, All, refl, subst, arith}
use Rattle.std.proofs.lemmas.List.Elements.{All-contains}
use Rattle.pcb_model.specs.declared.item.Item.{Item}
use Rattle.pcb_model.specs.Copper.{Ascends, IsFirstFrom}
use Rattle.pcb_model.specs.Sound.{IsItemOf}
use Rattle.route_lattice.specs.Ground.{GroundOf}
use Rattle.move_maps.specs.OwnCopper.{TakesOwn}
use Rattle.move_maps.specs.Settings.{GroupOf}
use Rattle.move_maps.proofs.Windowed.{own_first, own_next, own_all, own_by}
use Rattle.move_maps.proofs.own.OwnCopper.of.Goals as goal

pub of-group-requires : goal.of-group-requires
of-group-requires g c = c.requires

pub take_item-requires : goal.take_item-requires
take_item-requires g c =
    let b = c.in-Some.item.now in let t = c.on.inside in
    (All-contains (IsItemOf t.d.now) (g.C.Copper.items t.c.now) b
    (g.met.C.Copper.serving t.c.now t.d.now c.on.invariant.serves).items_fit c.in-Some.ensures.there).fits

pub loop-item-init : goal.loop-item-init
loop-item-init g c =
    let s = c.args.on.now in own_first s.d s.lat c.args.first c.args.net s.items c.new-windows.result.items

pub loop-item-preserved : goal.loop-item-preserved
loop-item-preserved g c =
    let s = c.args.on.now in let b = c.in-Some.item.now in
    let old = c.loop-item.windows.items in let new = c.take_item.new.windows.items in
    let next_is : b.id + 1 ≡ c.in-Some-checked_add.next = omega (arith, c.in-Some-checked_add.ensures) in
    own_next s.d s.lat c.args.first c.args.net s.items c.loop-item.from c.in-Some-checked_add.next b old new
    (subst (λ (s : GroundOf). Ascends s.items) c.on.view_is c.in_order.ensures.ascends)
    (subst (λ (s : GroundOf). IsFirstFrom c.loop-item.from s.items b) c.on.view_is c.in-Some.ensures) next_is
    (subst (λ (t : GroupOf). TakesOwn t.d t.lat t.first c.args.net b old new) c.of-group.ensures
    c.in_ok-take_item.ensures) c.loop-item.invariant

pub returns-in_default-checked_add : goal.returns-in_default-checked_add
returns-in_default-checked_add g c =
    let s = c.args.on.now in let b = c.in-Some.item.now in
    let old = c.loop-item.windows.items in let new = c.take_item.new.windows.items in
    let high : 2 ^ 64 ≤ b.id + 1 = omega (arith, c.in_default-checked_add.ensures) in
    own_by s.d s.lat c.args.first c.args.net s.items (b.id + 1) (2 ^ 64) new high
    (subst (λ (s : GroundOf). All (λ (a : Item). a.id < 2 ^ 64) s.items) c.on.view_is c.in_order.ensures.ids)
    (own_next s.d s.lat c.args.first c.args.net s.items c.loop-item.from (b.id + 1) b old new
    (subst (λ (s : GroundOf). Ascends s.items) c.on.view_is c.in_order.ensures.ascends)
    (subst (λ (s : GroundOf). IsFirstFrom c.loop-item.from s.items b) c.on.view_is c.in-Some.ensures) refl
    (subst (λ (t : GroupOf). TakesOwn t.d t.lat t.first c.args.net b old new) c.of-group.ensures
    c.in_ok-take_item.ensures) c.loop-item.invariant)

pub returns : goal.returns
returns g c =
    let s = c.args.on.now in
    own_all s.d s.lat c.args.first c.args.net s.items c.loop-item.from c.loop-item.windows.items
    (subst (λ (s : GroundOf). All (λ (a : Item). a.id < c.loop-item.from) s.items) c.on.view_is c.in_default.ensures)
    c.loop-item.invariant
