use Rattle.std.proofs.Common.{◌≡◌, ℤ, pos, ◌^◌, ◌+ℤ◌, ◌∙◌, sym, ap, ap₂, List, [], ◌∷◌, ◌++◌, arith, to_z, of_z, w64}
use Rattle.std.proofs.Common.{unsigned_abs, rules, FitsSigned, ◌≤◌, ◌*◌, ◌≤ℤ◌, ◌<ℤ◌, subst, IfOk}
use Rattle.std.specs.Prelude.{map}
use Rattle.std.specs.Int.{int_gap}
use Rattle.std.proofs.lemmas.Int.{ints, to_z-of_z}
use Rattle.route_lattice.specs.Lines.{up_from}
use Rattle.route_lattice.specs.Spans.{line_of, IsAscending}
use Rattle.route_lattice.proofs.Counts.{lines_more, gap_small}
use Rattle.route_lattice.proofs.Order.{gap_stops}
use Rattle.route_lattice.proofs.lines.lines_of.Goals as goal

pub loop-i-preserved : goal.loop-i-preserved
loop-i-preserved c =
    let u = c.args.r.unit in let g = c.args.r.grid in let f = c.args.s.first in let i = c.loop-i.i in
    let small = gap_small f c.args.s.end c.requires.span.first_within c.requires.span.end_within in
    let count = c.span_len-i-end.ensures.value in
    let seen : to_z w64 (of_z w64 c.line_at.result) ≡ c.line_at.result =
    (let fit : FitsSigned w64 c.line_at.result = search rules in to_z-of_z w64 c.line_at.result fit) in
    let k : to_z w64 (of_z w64 (to_z w64 (of_z w64 f) +ℤ to_z w64 i)) ≡ f +ℤ pos i =
    omega (arith, ints, small, count, c.loop-i-test.true, c.requires.span.first_within) in
    c.in_ok-push.ensures.items ∙ ap₂ (λ (xs : List ℤ) (x : ℤ). xs ++ x ∷ []) c.loop-i.invariant
    (seen ∙ c.line_at.ensures ∙ ap (line_of u g) k) ∙ sym (lines_more u g f i)

pub line_at-requires-clause-near : goal.line_at-requires-clause-near
line_at-requires-clause-near c =
    let f = c.args.s.first in let i = c.loop-i.i in
    let small = gap_small f c.args.s.end c.requires.span.first_within c.requires.span.end_within in
    let count = c.span_len-i-end.ensures.value in
    let k : to_z w64 (of_z w64 (to_z w64 (of_z w64 f) +ℤ to_z w64 i)) ≡ f +ℤ pos i =
    omega (arith, ints, small, count, c.loop-i-test.true, c.requires.span.first_within) in
    let low : f ≤ℤ (f +ℤ pos i) = omega (arith, ints) in
    let on : (f +ℤ pos i) <ℤ (f +ℤ pos (int_gap f c.args.s.end)) = omega (arith, ints, count, c.loop-i-test.true) in
    subst (λ z. unsigned_abs z * c.args.r.grid ≤ 2 ^ 32) (sym k)
    (c.requires.near.close (f +ℤ pos i) low (gap_stops f c.args.s.end (f +ℤ pos i) low on))

pub returns : goal.returns
returns c =
    let u = c.args.r.unit in let g = c.args.r.grid in let f = c.args.s.first in
    let e : c.loop-i.i ≡ int_gap f c.args.s.end = omega (arith, c.span_len-i-end.ensures.value) in
    let items = c.in_ok-extend_from_slice.ensures.items ∙ ap (λ (xs : List ℤ). xs ++ c.args.others.now)
    (c.loop-i.invariant ∙ ap (λ n. map (line_of u g) (up_from f n)) e) in
    subst (λ (xs : List ℤ). IfOk c.ascending.result (IsAscending xs)) items c.ascending.ensures.ascending
