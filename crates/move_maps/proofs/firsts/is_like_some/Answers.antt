use Rattle.std.proofs.Common.{ℕ, ◌<◌, get_or, length}
use Rattle.std.proofs.lemmas.List.{get_or_default}
use Rattle.pcb_model.proofs.Answered.{holds_here, found_here, missed_here, all_missed}
use Rattle.move_maps.specs.Groups.{AreAlike}
use Rattle.move_maps.proofs.firsts.is_like_some.Goals as goal

pub are_alike-requires-clause-first : goal.are_alike-requires-clause-first
are_alike-requires-clause-first c =
    let firsts = c.args.firsts.now in let i = c.loop-first.first-index in
    holds_here (λ (g : ℕ). g < length c.args.d.now.nets) firsts i (get_or firsts i 0) c.requires.firsts
    c.loop-first-test.true (get_or_default firsts i 0 (get_or firsts i 0) c.loop-first-test.true)

pub loop-first-preserved : goal.loop-first-preserved
loop-first-preserved c =
    let firsts = c.args.firsts.now in let i = c.loop-first.first-index in
    missed_here (λ (g : ℕ). AreAlike c.args.d.now g c.args.net) firsts i (get_or firsts i 0) c.are_alike.result
    c.loop-first-test.true (get_or_default firsts i 0 (get_or firsts i 0) c.loop-first-test.true)
    c.are_alike.ensures c.if-are_alike.false c.loop-first.invariant

pub returns-then-are_alike : goal.returns-then-are_alike
returns-then-are_alike c =
    let firsts = c.args.firsts.now in let i = c.loop-first.first-index in
    found_here (λ (g : ℕ). AreAlike c.args.d.now g c.args.net) firsts i (get_or firsts i 0) c.loop-first-test.true
    (get_or_default firsts i 0 (get_or firsts i 0) c.loop-first-test.true)
    (c.are_alike.ensures.0 c.if-are_alike.true)

pub returns : goal.returns
returns c =
    all_missed (λ (g : ℕ). AreAlike c.args.d.now g c.args.net) c.args.firsts.now c.loop-first.first-index
    c.loop-first-test.false c.loop-first.invariant
