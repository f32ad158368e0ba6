use Rattle.std.proofs.Common.{None, refl, true≢false, sym, ◌∙◌}
use Rattle.cut_certificate.specs.declared.cut.Blocker.TheVariants as blocker
use Rattle.cut_certificate.proofs.Shutting.{all_agree, shut_exactly, legal_exactly}
use Rattle.cut_certificate.proofs.shut.shuts_probe.Goals as goal

pub returns-in-Some-clause-shut : goal.returns-in-Some-clause-shut
returns-in-Some-clause-shut g c =
    shut_exactly c.args.on.now.d c.args.on.now.items c.args.net c.args.probe.now (blocker.Item c.in-Some.id)
    c.in-Some.ensures

pub returns-then-not-is_probe_inside-clause-shut : goal.returns-then-not-is_probe_inside-clause-shut
returns-then-not-is_probe_inside-clause-shut g c =
    shut_exactly c.args.on.now.d c.args.on.now.items c.args.net c.args.probe.now blocker.Outside (
      all_agree c.args.on.now.d c.args.on.now.items c.args.net c.args.probe.now c.in_default.ensures,
      λ inside. true≢false (sym (c.is_probe_inside.ensures.1 inside) ∙ c.if-not-is_probe_inside.true),
    )

pub returns-clause-legal : goal.returns-clause-legal
returns-clause-legal g c = record {
  agrees = all_agree c.args.on.now.d c.args.on.now.items c.args.net c.args.probe.now c.in_default.ensures;
  inside = c.is_probe_inside.ensures.0 c.if-not-is_probe_inside.false;
}

pub returns-clause-shut : goal.returns-clause-shut
returns-clause-shut g c =
    legal_exactly c.args.on.now.d c.args.on.now.items c.args.net c.args.probe.now (record {
      agrees = all_agree c.args.on.now.d c.args.on.now.items c.args.net c.args.probe.now c.in_default.ensures;
      inside = c.is_probe_inside.ensures.0 c.if-not-is_probe_inside.false;
    }) None refl
