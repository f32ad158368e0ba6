use Rattle.std.proofs.Common.{◌∙◌}
use Rattle.move_maps.proofs.Tallied.{changed}
use Rattle.move_maps.proofs.tally.change.Goals as goal

pub put_in-requires-clause-size : goal.put_in-requires-clause-size
put_in-requires-clause-size c = c.take_out.ensures.size ∙ c.requires.size

pub returns-clause-size : goal.returns-clause-size
returns-clause-size c = c.put_in.ensures.size ∙ c.take_out.ensures.size

pub returns-clause-changes : goal.returns-clause-changes
returns-clause-changes c = λ old new h t.
    changed c.args.group.now.d c.args.group.now.lat c.args.group.now.first old c.args.gone.now c.args.come.now new
    c.args.counts.now
    c.take_out.new.counts c.put_in.new.counts h c.take_out.ensures.goes c.put_in.ensures.comes t
