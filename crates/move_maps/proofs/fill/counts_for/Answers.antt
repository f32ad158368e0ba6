use Rattle.std.proofs.Common.{◌*◌, [], length, sym, subst}
use Rattle.pcb_model.specs.declared.design.Design.{Design}
use Rattle.route_lattice.specs.Mesh.{Mesh}
use Rattle.move_maps.specs.Paint.{AreTallied}
use Rattle.move_maps.specs.Starts.{AreInner}
use Rattle.move_maps.proofs.fill.counts_for.Goals as goal

pub start_counts-requires-clause-can_move : goal.start_counts-requires-clause-can_move
start_counts-requires-clause-can_move g c = c.moves-moves.ensures.ready.0

pub start_counts-requires-clause-inner : goal.start_counts-requires-clause-inner
start_counts-requires-clause-inner g c =
    let e = c.moves-moves.ensures in let s = c.moves-moves.result in
    subst (λ (x : Design). AreInner x s.lat.now (length s.lat.now.ys * length s.lat.now.xs) c.args.inner.now) (sym e.d)
    (subst (λ (x : Mesh). AreInner c.args.on.now.d x (length x.ys * length x.xs) c.args.inner.now) (sym e.lat)
    c.requires.inner)

pub bring_all-requires-clause-tallied : goal.bring_all-requires-clause-tallied
bring_all-requires-clause-tallied g c =
    let e = c.moves-moves.ensures in let s = c.moves-moves.result in let k = c.in_ok-counts.counts in
    subst (λ n. AreTallied c.args.on.now.d c.args.on.now.lat n [] k) e.net
    (subst (λ (x : Mesh). AreTallied c.args.on.now.d x s.net [] k) e.lat
    (subst (λ (x : Design). AreTallied x s.lat.now s.net [] k) e.d c.in_ok-counts.ensures))

pub returns : goal.returns
returns g c = c.in_ok-bring_all.ensures
