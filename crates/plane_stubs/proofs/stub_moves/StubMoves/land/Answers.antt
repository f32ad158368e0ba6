use Rattle.std.proofs.Common.{◌≡◌, ℕ, ◌-◌, arith, refl, ap, ap₂, ◌∙◌, subst, List, length}
use Rattle.std.specs.Prelude.{slice_index}
use Rattle.std.proofs.lemmas.Option.{get_or_from_slice_get}
use Rattle.route_lattice.specs.declared.moves.Move.{Move}
use Rattle.plane_joins.specs.inner.Graph.{IsEnd}
use Rattle.plane_stubs.proofs.Ending.{taken_off}
use Rattle.plane_stubs.proofs.stub_moves.StubMoves.land.Goals as goal

pub returns : goal.returns
returns c =
    let n = c.args.self.now.on in
    let w = c.args.w in
    let ends = c.requires.ends in
    let some = ends.some in
    let more = ends.more in
    let node : slice_index c.as_slice.result.now (length c.as_slice-2.result.now - 1) ≡ ends.node =
    ap₂ (λ (xs : List ℕ) (k : ℕ). slice_index xs (k - 1)) c.as_slice.ensures
    (ap (λ (ms : List Move). length ms) c.as_slice-2.ensures)
    ∙ get_or_from_slice_get w.nodes (length w.moves - 1) ends.node 0 ends.at_end in
    let nodes = taken_off c.pop-end.result w.nodes c.pop-end.new.self c.pop-end.ensures (omega (arith, more)) in
    let moves = taken_off c.pop-last.result w.moves c.pop-last.new.self c.pop-last.ensures some in
    record {
      node = ends.node;
      mv = c.in-Some.mv;
      to = c.in-Some.to;
      at_end = ends.at_end;
      ends = subst (λ (v : ℕ). IsEnd n.on n.net v c.in-Some.mv c.in-Some.to) node c.in-Some.ensures;
      front = c.pop-end.new.self;
      end = nodes.0;
      nodes_were = nodes.1;
      nodes_are = c.in_ok-push-in-Some.ensures.ok;
      before = c.pop-last.new.self;
      last = moves.0;
      moves_were = moves.1;
      moves_are = c.in_ok-push-in-Some-2.ensures.ok;
      price = refl;
    }
