use Rattle.std.proofs.Common.{◌≢◌, ℕ, ◌<◌, get_or}
use Rattle.route_words.specs.Parts.{Word}
use Rattle.fault_notes.specs.declared.trouble.Choice.TheVariants.{Grid}
use Rattle.fault_notes.specs.Words.{name_of, with_value}
use Rattle.fault_notes.proofs.look.option_look.Given as goal

-- the word is none of the options so far
abbrev pub invariant-loop-choice : goal.invariant-loop-choice
invariant-loop-choice l = (k : ℕ) → k < l.choice-index
    → (l.word ≢ name_of (get_or l.choice-items k Grid))
    × ((value : Word) → l.word ≢ with_value (get_or l.choice-items k Grid) value)
