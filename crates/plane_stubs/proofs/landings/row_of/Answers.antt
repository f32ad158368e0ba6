use Rattle.std.proofs.Common.{ℕ, ◌+◌, sym, ap, ◌∙◌, subst, Bool, List, [], ◌∷◌, length}
use Rattle.std.specs.Prelude.{◌↔◌, IsTrue, slice_get}
use Rattle.std.proofs.lemmas.List.{length-append}
use Rattle.route_lattice.specs.Legal.{probe_at}
use Rattle.plane_joins.specs.Stubs.{Touches}
use Rattle.plane_joins.proofs.Places.{each_more}
use Rattle.plane_stubs.proofs.landings.row_of.Goals as goal

pub loop-node-preserved : goal.loop-node-preserved
loop-node-preserved c =
    let n = c.args.moves.now in
    let row = c.loop-node.row in
    let lands = c.in_ok-lands.lands in
    let P : ℕ → Bool → Type 0 = λ v b.
    IsTrue b ↔ Touches n.on n.net (probe_at n.on.d n.on.lat n.net v c.args.i) in
    record {
      count = ap (λ (xs : List Bool). length xs) c.in_ok-push.ensures.ok ∙ length-append row (lands ∷ [])
          ∙ ap (λ (k : ℕ). k + 1) c.loop-node.invariant.count;
      each = λ v b at. each_more P row lands c.loop-node.invariant.each
          (subst (λ (k : ℕ). P k lands) (sym c.loop-node.invariant.count) c.in_ok-lands.ensures) v b
          (sym (ap (λ (xs : List Bool). slice_get xs v) c.in_ok-push.ensures.ok) ∙ at);
    }
