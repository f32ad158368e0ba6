use Rattle.std.proofs.Common.{◌≡◌, ℕ, ◌<◌, ◌++◌, List, get_or}
use Rattle.fault_notes.specs.declared.said.Counted.TheVariants.{Bytes}
use Rattle.fault_notes.specs.Lines.{word_of}
use Rattle.fault_notes.proofs.line.front_counted.Given as goal

-- none of the words so far stands at the front
abbrev pub invariant-loop-counted : goal.invariant-loop-counted
invariant-loop-counted l = (k : ℕ) → k < l.counted-index
    → (rest : List ℕ) → l.bytes ≡ word_of (get_or l.counted-items k Bytes) ++ rest → ⊥
