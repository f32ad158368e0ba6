use Rattle.std.proofs.Common.{◌≡◌, ℕ, get_or}
use Rattle.std.proofs.lemmas.List.Elements.{All-more}
use Rattle.pcb_model.proofs.Answered.{get_or_any, found_here, all_missed}
use Rattle.pcb_model.proofs.legal.has_via.Goals as goal

pub returns-then-v-padstack : goal.returns-then-v-padstack
returns-then-v-padstack c =
    let v = get_or c.args.vias.now c.loop-v.v-index 0 in
    found_here (λ v. v ≡ c.args.padstack) c.args.vias.now c.loop-v.v-index v c.loop-v-test.true
    (get_or_any c.args.vias.now c.loop-v.v-index 0 v c.loop-v-test.true) c.if-v-padstack.true

pub loop-v-preserved : goal.loop-v-preserved
loop-v-preserved c =
    All-more (λ (v : ℕ). ¬ (v ≡ c.args.padstack)) c.args.vias.now c.loop-v.v-index 0 c.loop-v-test.true
    c.loop-v.invariant c.if-v-padstack.false

pub returns : goal.returns
returns c =
    all_missed (λ v. v ≡ c.args.padstack) c.args.vias.now c.loop-v.v-index c.loop-v-test.false c.loop-v.invariant
