use Rattle.std.proofs.Common.{refl}
use Rattle.wave_search.proofs.query.Query.stated_end.Goals as goal

pub pass_to-requires-clause-goal : goal.pass_to-requires-clause-goal
pass_to-requires-clause-goal g c = (
  c.args.goal.node,
  c.requires.first.is_goal,
  record {
    label = c.args.goal.label;
    there = c.in_ok-settle_rest.ensures.kept c.args.goal.node c.args.goal.label c.requires.first.there
        c.requires.first.is_done;
    done = c.requires.first.is_done;
    price_is = refl;
  },
)
