use Rattle.std.proofs.Common.{◌≡◌, ◌+◌, ◌≤◌, ◌<◌, ◌^◌, ◌∷◌, List, All, refl, sym, subst, arith}
use Rattle.std.proofs.lemmas.List.Elements.{All-contains}
use Rattle.pcb_model.specs.declared.item.Item.{Item}
use Rattle.pcb_model.specs.Copper.{Ascends, IsFirstFrom}
use Rattle.pcb_model.specs.Sound.{IsItemOf}
use Rattle.route_lattice.specs.Ground.{GroundOf}
use Rattle.move_maps.specs.Paint.{AreTallied}
use Rattle.move_maps.specs.Settings.{GroupOf, IsTable}
use Rattle.move_maps.proofs.Starting.{painted_first, painted_next, painted_all, painted_by}
use Rattle.move_maps.proofs.fill.bring_all.Goals as goal

pub of-group-requires : goal.of-group-requires
of-group-requires g c = c.requires.first

pub loop-item-init : goal.loop-item-init
loop-item-init g c = painted_first c.args.on.now.d c.args.on.now.lat c.args.first c.args.on.now.items
    c.args.counts.now c.requires.tallied

pub loop-item-preserved : goal.loop-item-preserved
loop-item-preserved g c =
    let s = c.args.on.now in let b = c.in-Some.item.now in
    let next_is : b.id + 1 ≡ c.in-Some-checked_add.next = omega (arith, c.in-Some-checked_add.ensures) in
    painted_next s.d s.lat c.args.first s.items c.loop-item.from c.in-Some-checked_add.next b
    c.loop-item.counts c.bring.new.counts
    (subst (λ (s : GroundOf). Ascends s.items) c.on.view_is c.in_order.ensures.ascends)
    (subst (λ (s : GroundOf). IsFirstFrom c.loop-item.from s.items b) c.on.view_is c.in-Some.ensures) next_is
    (subst (λ (t : GroupOf). (done : List Item) → AreTallied t.d t.lat t.first done c.loop-item.counts
    → AreTallied t.d t.lat t.first (b ∷ done) c.bring.new.counts) c.of-group.ensures c.in_ok-bring.ensures)
    c.loop-item.invariant

pub returns-in_default-checked_add : goal.returns-in_default-checked_add
returns-in_default-checked_add g c =
    let s = c.args.on.now in let b = c.in-Some.item.now in
    let high : 2 ^ 64 ≤ b.id + 1 = omega (arith, c.in_default-checked_add.ensures) in
    painted_by s.d s.lat c.args.first s.items (b.id + 1) (2 ^ 64) c.bring.new.counts high
    (subst (λ (s : GroundOf). All (λ (a : Item). a.id < 2 ^ 64) s.items) c.on.view_is c.in_order.ensures.ids)
    (painted_next s.d s.lat c.args.first s.items c.loop-item.from (b.id + 1) b c.loop-item.counts c.bring.new.counts
    (subst (λ (s : GroundOf). Ascends s.items) c.on.view_is c.in_order.ensures.ascends)
    (subst (λ (s : GroundOf). IsFirstFrom c.loop-item.from s.items b) c.on.view_is c.in-Some.ensures) refl
    (subst (λ (t : GroupOf). (done : List Item) → AreTallied t.d t.lat t.first done c.loop-item.counts
    → AreTallied t.d t.lat t.first (b ∷ done) c.bring.new.counts) c.of-group.ensures c.in_ok-bring.ensures)
    c.loop-item.invariant)

pub returns : goal.returns
returns g c =
    let s = c.args.on.now in
    painted_all s.d s.lat c.args.first s.items c.loop-item.from c.loop-item.counts
    (subst (λ (s : GroundOf). All (λ (a : Item). a.id < c.loop-item.from) s.items) c.on.view_is c.in_default.ensures)
    c.loop-item.invariant

pub bring-requires-clause-item : goal.bring-requires-clause-item
bring-requires-clause-item g c =
    let b = c.in-Some.item.now in let t = c.on.inside in
    subst (λ (s : GroupOf). IsItemOf s.d b) (sym c.of-group.ensures)
    (subst (λ (s : GroundOf). IsItemOf s.d b) c.on.view_is
    (All-contains (IsItemOf t.d.now) (g.C.Copper.items t.c.now) b
    (g.met.C.Copper.serving t.c.now t.d.now c.on.invariant.serves).items_fit c.in-Some.ensures.there))

pub bring-requires-clause-size : goal.bring-requires-clause-size
bring-requires-clause-size g c =
    subst (λ (s : GroupOf). IsTable s c.loop-item.counts) (sym c.of-group.ensures) c.loop-item.invariant.tallied.size
