use Rattle.std.proofs.Common.{◌≡◌, ℕ, arith, ap, ◌∙◌, sym, vec_len, get_or, Vec, Global}
use Rattle.std.specs.Prelude.{not}
use Rattle.pcb_model.specs.declared.design.BoardLayer.{BoardLayer}
use Rattle.route_lattice.proofs.Gathers.{layer_kept, layer_passed, all_signals}
use Rattle.route_lattice.proofs.gather.signals.Goals as goal
use Rattle.route_lattice.proofs.gather.signals.Goals.{then-not-layer+in_ok-push, else-not-layer}

pub loop-i-preserved : goal.loop-i-preserved
loop-i-preserved c =
    let ls = c.args.layers.now in
    let l = c.index-layers-i.result in
    let read : get_or ls c.loop-i.i l ≡ l = sym c.index-layers-i.is in
    elim c.if-not-layer.branch [
      | then-not-layer+in_ok-push w ↦ record {
        listed = layer_kept ls c.loop-i.i l c.loop-i-test.true c.loop-i.found.items c.if-not-layer.found.items
            (ap (λ (b : BoardLayer). not b.power) read ∙ ap not w.if-not-layer.true) c.loop-i.invariant.listed
            (ap (λ (v : Vec ℕ Global). v.items) w.found-is ∙ w.in_ok-push.ensures.items);
        few = omega (arith, w.in_ok-push.ensures.len, ap (λ (v : Vec ℕ Global). vec_len v) w.found-is);
      }
      | else-not-layer w ↦ record {
        listed = ap (λ (v : Vec ℕ Global). v.items) w.found-is ∙ layer_passed ls c.loop-i.i l c.loop-i-test.true
            c.loop-i.found.items (ap (λ (b : BoardLayer). not b.power) read ∙ ap not w.if-not-layer.false)
            c.loop-i.invariant.listed;
        few = omega (arith, ap (λ (v : Vec ℕ Global). vec_len v) w.found-is);
      }
    ]

pub returns-clause-value : goal.returns-clause-value
returns-clause-value c = c.loop-i.invariant.listed ∙ all_signals c.args.layers.now c.loop-i.i (omega arith)
