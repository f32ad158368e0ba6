-- What is seen of a sink that keeps its first line.
use Rattle.std.specs.Prelude.{◌≡◌, ℕ, Bool, true, List, take, if◌then◌else◌}
use Rattle.fault_notes.specs.declared.kept.KeptLine.{KeptLine}

-- the sink within
abbrev pub sink_of : {S : Type 0} → KeptLine S → S
sink_of k = k.sink

-- whether anything was put
abbrev pub was_put : {S : Type 0} → KeptLine S → Bool
was_put k = k.put

-- what is kept of the first put
abbrev pub first_line : {S : Type 0} → KeptLine S → List ℕ
first_line k = take k.length k.bytes

-- the first 80 bytes are kept of the first put, and nothing of later ones
pub record KeepsFirst {S : Type 0} (old new : KeptLine S) (bytes : List ℕ) : Type 0 where
  pub line : first_line new ≡ (if was_put old then first_line old else take 80 bytes)
  pub put : was_put new ≡ true
