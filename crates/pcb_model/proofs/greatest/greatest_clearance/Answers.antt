use Rattle.std.proofs.Common.{◌<◌, ◌≤◌, ◌^◌, List, length, get_or, Some, None, take, All, arith, sym, subst}
use Rattle.pcb_model.specs.declared.design.ClassPair.{ClassPair}
use Rattle.std.proofs.lemmas.List.Elements.{All-more}
use Rattle.pcb_model.specs.Bounds.{AreRulesWithin}
use Rattle.pcb_model.specs.Greatest.{IsPairCovered}
use Rattle.pcb_model.proofs.Answered.{holds_here}
use Rattle.pcb_model.proofs.Growing.{All-weaken, All-whole}
use Rattle.pcb_model.proofs.Clearances.{greatest_is, greatest_within, values_more, nets_more, pair_more}
use Rattle.pcb_model.proofs.greatest.greatest_clearance.Goals as goal

pub returns-clause-greatest : goal.returns-clause-greatest
returns-clause-greatest c =
    let i = c.loop-p.invariant in
    let P = IsPairCovered c.args.d.now c.loop-p.greatest in
    greatest_is c.args.d.now c.loop-p.greatest i.value i.none i.nets
    (All-whole P c.args.d.now.pairs c.loop-p.p-index
    (subst (λ (ps : List ClassPair). length ps ≤ c.loop-p.p-index) c.as_slice-p-items.ensures
    (omega (arith, c.loop-p-test.false))) i.pairs)

pub returns-clause-within : goal.returns-clause-within
returns-clause-within c =
    let i = c.loop-p.invariant in
    let P = IsPairCovered c.args.d.now c.loop-p.greatest in
    greatest_within c.args.d.now c.loop-p.greatest c.requires.fits.rules_within
    (greatest_is c.args.d.now c.loop-p.greatest i.value i.none i.nets
    (All-whole P c.args.d.now.pairs c.loop-p.p-index
    (subst (λ (ps : List ClassPair). length ps ≤ c.loop-p.p-index) c.as_slice-p-items.ensures
    (omega (arith, c.loop-p-test.false))) i.pairs))

pub loop-net-preserved : goal.loop-net-preserved
loop-net-preserved c =
    let r = c.raised_by_net-greatest-in-loop-net.result in
    let e = c.raised_by_net-greatest-in-loop-net.ensures in
    let i = c.loop-net.invariant in
    record {
      value = e.reached;
      none = values_more c.args.d.now None c.loop-net.greatest r e.least i.none;
      nets = nets_more c.args.d.now c.loop-net.net c.loop-net.greatest r e.least i.nets e.values;
    }

pub loop-net-init : goal.loop-net-init
loop-net-init c =
    let e = c.raised_by_net-greatest.ensures in
    record { value = e.reached; none = e.values; nets = λ n h. absurd (omega (arith, h)) }

pub loop-p-preserved : goal.loop-p-preserved
loop-p-preserved c =
    let d = c.args.d.now in
    let g = c.loop-p.greatest in
    let r = c.raised_by_pair-greatest.result in
    let e = c.raised_by_pair-greatest.ensures in
    let i = c.loop-p.invariant in
    let P = IsPairCovered d r in
    let s = c.as_slice-p-items.ensures in
    let there : c.loop-p.p-index < length d.pairs =
    subst (λ (ps : List ClassPair). c.loop-p.p-index < length ps) s c.loop-p-test.true in
    let p = c.p-item.result in
    record {
      value = e.reached;
      none = values_more d None g r e.least i.none;
      nets = λ n h. values_more d (Some n) g r e.least (i.nets n h);
      pairs = All-more P d.pairs c.loop-p.p-index p there
          (All-weaken (IsPairCovered d g) P (take c.loop-p.p-index d.pairs) (pair_more d g r e.least) i.pairs)
          (subst (λ (ps : List ClassPair). P (get_or ps c.loop-p.p-index p)) s (subst P c.p-item.is e.values));
    }

pub raised_by_pair-greatest-requires-clause-rules : goal.raised_by_pair-greatest-requires-clause-rules
raised_by_pair-greatest-requires-clause-rules c =
    let P : ClassPair → Type 0 = λ p. AreRulesWithin (2 ^ 28) p.rules in
    let within : All P c.as_slice-p-items.result.now =
    subst (All P) (sym c.as_slice-p-items.ensures) c.requires.fits.rules_within.pairs_within in
    holds_here P c.as_slice-p-items.result.now c.loop-p.p-index c.p-item.result within c.loop-p-test.true c.p-item.is
