use Rattle.std.proofs.Common.{◌<◌, ◌^◌, ℕ, length, sym, ap, ◌∙◌, subst, arith}
use Rattle.std.specs.Prelude.{decimal}
use Rattle.std.proofs.lemmas.Bool.{both_ways}
use Rattle.report_form.proofs.Printed.{Few, sizes_of_line, sizes_line}
use Rattle.report_form.proofs.Apart.{sizes_apart}
use Rattle.report_form.proofs.head.after_sizes.Goals as goal

pub returns-in_err-line : goal.returns-in_err-line
returns-in_err-line c =
    let few : Few c.args.d.now = record {
      layers = subst (λ (n : ℕ). n < 2 ^ 64) c.len-layers.ensures (omega (arith, c.len-layers.type_inv));
      nets = subst (λ (n : ℕ). n < 2 ^ 64) c.len-nets.ensures (omega (arith, c.len-nets.type_inv));
      pins = subst (λ (n : ℕ). n < 2 ^ 64) c.len-pins.ensures (omega (arith, c.len-pins.type_inv));
    } in
    rw c.from_residual.ensures (λ r e. c.in_err-line.ensures (decimal (length c.args.d.now.layers))
    (decimal (length c.args.d.now.nets)) (decimal (length c.args.d.now.pins)) r
    (sizes_of_line c.args.d.now r c.args.text.now few e))

pub returns-then-not-writes : goal.returns-then-not-writes
returns-then-not-writes c = λ r e.
    let few : Few c.args.d.now = record {
      layers = subst (λ (n : ℕ). n < 2 ^ 64) c.len-layers.ensures (omega (arith, c.len-layers.type_inv));
      nets = subst (λ (n : ℕ). n < 2 ^ 64) c.len-nets.ensures (omega (arith, c.len-nets.type_inv));
      pins = subst (λ (n : ℕ). n < 2 ^ 64) c.len-pins.ensures (omega (arith, c.len-pins.type_inv));
    } in
    let line = c.in_ok-line.line in
    let same = sizes_apart c.args.d.now line.a.now line.b.now line.c.now line.rest.now r c.args.text.now few
    c.in_ok-line.ensures e in
    both_ways c.writes.result c.if-not-writes.true
    (c.writes.ensures.1 (same.first ∙ ap decimal (sym c.len-layers.ensures)))

pub returns-then-not-writes-2 : goal.returns-then-not-writes-2
returns-then-not-writes-2 c = λ r e.
    let few : Few c.args.d.now = record {
      layers = subst (λ (n : ℕ). n < 2 ^ 64) c.len-layers.ensures (omega (arith, c.len-layers.type_inv));
      nets = subst (λ (n : ℕ). n < 2 ^ 64) c.len-nets.ensures (omega (arith, c.len-nets.type_inv));
      pins = subst (λ (n : ℕ). n < 2 ^ 64) c.len-pins.ensures (omega (arith, c.len-pins.type_inv));
    } in
    let line = c.in_ok-line.line in
    let same = sizes_apart c.args.d.now line.a.now line.b.now line.c.now line.rest.now r c.args.text.now few
    c.in_ok-line.ensures e in
    both_ways c.writes-2.result c.if-not-writes-2.true
    (c.writes-2.ensures.1 (same.second ∙ ap decimal (sym c.len-nets.ensures)))

pub returns-then-not-writes-3 : goal.returns-then-not-writes-3
returns-then-not-writes-3 c = λ r e.
    let few : Few c.args.d.now = record {
      layers = subst (λ (n : ℕ). n < 2 ^ 64) c.len-layers.ensures (omega (arith, c.len-layers.type_inv));
      nets = subst (λ (n : ℕ). n < 2 ^ 64) c.len-nets.ensures (omega (arith, c.len-nets.type_inv));
      pins = subst (λ (n : ℕ). n < 2 ^ 64) c.len-pins.ensures (omega (arith, c.len-pins.type_inv));
    } in
    let line = c.in_ok-line.line in
    let same = sizes_apart c.args.d.now line.a.now line.b.now line.c.now line.rest.now r c.args.text.now few
    c.in_ok-line.ensures e in
    both_ways c.writes-3.result c.if-not-writes-3.true
    (c.writes-3.ensures.1 (same.third ∙ ap decimal (sym c.len-pins.ensures)))

pub returns : goal.returns
returns c =
    let line = c.in_ok-line.line in
    sizes_line c.args.d.now line.a.now line.b.now line.c.now line.rest.now c.args.text.now c.in_ok-line.ensures
    (c.writes.ensures.0 c.if-not-writes.false ∙ ap decimal c.len-layers.ensures)
    (c.writes-2.ensures.0 c.if-not-writes-2.false ∙ ap decimal c.len-nets.ensures)
    (c.writes-3.ensures.0 c.if-not-writes-3.false ∙ ap decimal c.len-pins.ensures)
