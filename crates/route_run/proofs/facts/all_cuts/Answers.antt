use Rattle.std.proofs.Common.{◌≡◌, ◌∙◌, sym, ap, List, length, rules}
use Rattle.std.specs.Prelude.{flat_map}
use Rattle.std.proofs.lemmas.List.{map-id}
use Rattle.std.proofs.lemmas.Iterator.Adapters.{YieldsList-from_vec}
use Rattle.std.proofs.lemmas.Iterator.Consumers.{YieldsList-end}
use Rattle.cut_certificate.specs.declared.cut.Cut.{Cut}
use Rattle.route_run.proofs.facts.all_cuts.Goals as goal

pub returns : goal.returns
returns c =
    let items : c.into_iter-cuts-iterator.result.rest.items ≡ c.args.ends = search rules in
    let len : c.into_iter-cuts-iterator.result.rest.len ≡ length c.args.ends = search rules in
    let all = YieldsList-end (YieldsList-from_vec {s = c.into_iter-cuts-iterator.result} c.args.ends items len)
    c.loop-cuts.yielded c.loop-cuts.cuts-iterator c.loop-cuts.yielded_by c.next.result c.next.new.self c.in-None.is
    c.next.ensures.steps in
    c.from_vec.ensures
    ∙ (c.loop-cuts.invariant
    ∙ ap (flat_map (λ (cuts : List Cut). cuts)) (sym (map-id c.loop-cuts.yielded) ∙ all.0))
