use Rattle.std.proofs.Common.{◌≡◌, ℕ, ◌-◌, arith, sym, ap, ◌∙◌, subst, Bool, false, List, get_or, Some}
use Rattle.std.specs.Prelude.{IsTrue, slice_index_or}
use Rattle.std.proofs.lemmas.Option.{slice_get-get_or}
use Rattle.route_lattice.specs.Legal.{probe_at}
use Rattle.plane_joins.specs.Stubs.{Touches}
use Rattle.plane_stubs.specs.inner.Landings.{IsLandingRow}
use Rattle.plane_stubs.proofs.stub_moves.StubMoves.touches.Goals as goal

pub returns : goal.returns
returns c =
    let n = c.args.self.now.on in
    let rows = c.args.self.now.rows.now in
    let row = c.index-as_slice-i.result in
    let k = c.args.i - 4 in
    let T = Touches n.on n.net (probe_at n.on.d n.on.lat n.net c.args.node c.args.i) in
    let count = c.requires.landings.count in
    let via = c.requires.via in
    let index = c.requires.index in
    let is : get_or rows k row ≡ row =
    sym (c.index-as_slice-i.is ∙ ap (λ (xs : List (List Bool)). get_or xs k row) c.as_slice.ensures) in
    let here : IsLandingRow n.on n.net c.args.i row =
    subst (λ (j : ℕ). IsLandingRow n.on n.net j row) (omega (arith, via))
    (c.requires.landings.each k row
    (slice_get-get_or rows k row (omega (arith, count, via, index)) ∙ ap (λ (x : List Bool). Some x) is)) in
    let wide = here.count in
    let there = c.requires.node in
    subst (λ (xs : List Bool). (IsTrue (slice_index_or xs c.args.node false) → T)
    × (T → IsTrue (slice_index_or xs c.args.node false))) (sym c.as_slice-2.ensures)
    (here.each c.args.node (get_or row c.args.node false)
    (slice_get-get_or row c.args.node false (omega (arith, wide, there))))
