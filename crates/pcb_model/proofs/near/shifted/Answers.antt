use Rattle.std.proofs.Common.{ℤ, ◌≤◌, ◌^◌, unsigned_abs, rules, sym, subst}
use Rattle.pcb_model.proofs.Boxed.{sum_value, sum_fits}
use Rattle.pcb_model.proofs.near.shifted.Goals as goal

pub overflow_add-result : goal.overflow_add-result
overflow_add-result c = sum_fits c.args.r.x0 c.args.by.x (search rules) (search rules) c.requires.x0_within

pub overflow_add-result-2 : goal.overflow_add-result-2
overflow_add-result-2 c = sum_fits c.args.r.y0 c.args.by.y (search rules) (search rules) c.requires.y0_within

pub overflow_add-result-3 : goal.overflow_add-result-3
overflow_add-result-3 c = sum_fits c.args.r.x1 c.args.by.x (search rules) (search rules) c.requires.x1_within

pub overflow_add-result-4 : goal.overflow_add-result-4
overflow_add-result-4 c = sum_fits c.args.r.y1 c.args.by.y (search rules) (search rules) c.requires.y1_within

pub returns-clause-x0 : goal.returns-clause-x0
returns-clause-x0 c = sum_value c.args.r.x0 c.args.by.x (search rules) (search rules) c.requires.x0_within

pub returns-clause-y0 : goal.returns-clause-y0
returns-clause-y0 c = sum_value c.args.r.y0 c.args.by.y (search rules) (search rules) c.requires.y0_within

pub returns-clause-x1 : goal.returns-clause-x1
returns-clause-x1 c = sum_value c.args.r.x1 c.args.by.x (search rules) (search rules) c.requires.x1_within

pub returns-clause-y1 : goal.returns-clause-y1
returns-clause-y1 c = sum_value c.args.r.y1 c.args.by.y (search rules) (search rules) c.requires.y1_within

pub returns-clause-within : goal.returns-clause-within
returns-clause-within c =
    let F : ℤ → Type 0 = λ z. unsigned_abs z ≤ 2 ^ 29 in
    record {
      x0_within = subst F (sym (returns-clause-x0 c)) c.requires.x0_within;
      y0_within = subst F (sym (returns-clause-y0 c)) c.requires.y0_within;
      x1_within = subst F (sym (returns-clause-x1 c)) c.requires.x1_within;
      y1_within = subst F (sym (returns-clause-y1 c)) c.requires.y1_within;
    }
