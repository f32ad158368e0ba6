use Rattle.std.proofs.Common.{◌≡◌, ◌+◌, ◌*◌, true, length, refl, sym, subst}
use Rattle.std.proofs.lemmas.Bool.{OnTrue_at}
use Rattle.std.specs.Prelude.{slice_index}
use Rattle.pcb_model.specs.declared.item.Probe.TheVariants as probe
use Rattle.pcb_model.specs.Pieces.{padstack_pieces}
use Rattle.route_lattice.specs.Near.{are_near_at}
use Rattle.route_lattice.specs.Ways.{vias_of, way_count}
use Rattle.route_lattice.specs.Legal.{probe_at}
use Rattle.move_maps.specs.Clear.{IsClearOf}
use Rattle.move_maps.specs.Paint.{IsClearAt, Paints}
use Rattle.move_maps.proofs.Painting.{one_clear, one_top, not_clear}
use Rattle.move_maps.proofs.Spotting.{via_index, stack_clear, unjoined_clear, joined_shut}
use Rattle.move_maps.proofs.brush.Brush.paint_via.Goals as goal

pub returns-then-clear : goal.returns-then-clear
returns-then-clear c =
    let s = c.args.self.now in let t = s.group in let p = c.args.spot.now in let m = t.lat in
    let n = c.args.number in let l = c.args.level in
    one_clear s.stroke t.d m t.first s.item p.node (4 + n * length m.layers + l) c.args.counts.now
    (via_index (length (vias_of t.d t.first)) (length m.layers) n l c.requires.number c.requires.level)
    (stack_clear t.d m t.first p.node n l (slice_index (vias_of t.d t.first) n) p.layer
    (slice_index m.layers l) p.at c.requires.level refl c.requires.spot.at_is c.requires.spot.layer_is refl s.item
    (c.requires.clear.0 c.if-clear.true))

pub returns-then-is_top : goal.returns-then-is_top
returns-then-is_top c =
    let s = c.args.self.now in let t = s.group in let p = c.args.spot.now in let m = t.lat in
    let n = c.args.number in let l = c.args.level in
    let i = 4 + n * length m.layers + l in
    let within = via_index (length (vias_of t.d t.first)) (length m.layers) n l c.requires.number c.requires.level in
    one_top s.stroke t.d m t.first s.item p.node i (p.node * way_count t.d m t.first + i) c.args.counts.now refl
    within (subst (λ k. slice_index c.args.counts.now (p.node * way_count t.d m t.first + k) ≡ 255)
    c.via_index-i.ensures.value (OnTrue_at c.if-is_top.true c.is_top.ensures))

pub returns-then-not-joins : goal.returns-then-not-joins
returns-then-not-joins c =
    let s = c.args.self.now in let t = s.group in let p = c.args.spot.now in let m = t.lat in
    let n = c.args.number in let l = c.args.level in
    one_clear s.stroke t.d m t.first s.item p.node (4 + n * length m.layers + l) c.args.counts.now
    (via_index (length (vias_of t.d t.first)) (length m.layers) n l c.requires.number c.requires.level)
    (unjoined_clear t.d m t.first p.node n l (slice_index (vias_of t.d t.first) n) p.layer
    (slice_index m.layers l) p.at c.requires.level refl c.requires.spot.at_is c.requires.spot.layer_is refl s.item
    c.joins.result c.joins.ensures c.if-not-joins.true)

pub turn-requires-clause-shut : goal.turn-requires-clause-shut
turn-requires-clause-shut c =
    let s = c.args.self.now in let t = s.group in let p = c.args.spot.now in let m = t.lat in
    let n = c.args.number in let l = c.args.level in
    let stack = slice_index (vias_of t.d t.first) n in
    subst (λ i. ¬ (IsClearAt t.d t.first s.item (probe_at t.d m t.first p.node i)))
    (sym c.via_index-i.ensures.value)
    (joined_shut t.d m t.first p.node n l stack p.layer (slice_index m.layers l) p.at c.requires.level refl
    c.requires.spot.at_is c.requires.spot.layer_is refl s.item c.joins.result c.joins.ensures c.if-not-joins.false
    (not_clear c.args.clear (are_near_at p.at (padstack_pieces t.d stack) ≡ true
    → IsClearOf t.d t.first (probe.Via stack p.at) s.item) c.requires.clear c.if-clear.false))

pub returns : goal.returns
returns c =
    let s = c.args.self.now in let t = s.group in let p = c.args.spot.now in let m = t.lat in
    let n = c.args.number in let l = c.args.level in
    subst (λ i. Paints s.stroke t.d m t.first s.item (p.node * way_count t.d m t.first + i)
    (p.node * way_count t.d m t.first + i + 1) c.args.counts.now c.turn.new.counts) c.via_index-i.ensures.value
    c.turn.ensures
