-- The answer for the three clauses of the law.
-- Each is a lemma of `Designs`.
use Rattle.count_law.proofs.Designs.{counts_plain, designs_plain, texts_plain}
use Rattle.count_law.proofs.counts_are_plain.Goals as goal

pub returns : goal.returns
returns c = record { trees = counts_plain; texts = texts_plain; designs = designs_plain }
