use Rattle.std.proofs.Common.{◌∙◌, refl, sym}
use Rattle.fault_notes.specs.Words.IsBadValue.{within}
use Rattle.fault_notes.proofs.words.valued_trouble.Goals as goal

pub returns-then-is_outside : goal.returns-then-is_outside
returns-then-is_outside c = (
  c.requires.among,
  sym c.range_for.ensures ∙ c.in-Some.is,
  within c.args.value.now c.requires.value (c.if-is_outside.ensures refl),
)
