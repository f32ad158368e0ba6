use Rattle.std.proofs.Common.{◌≡◌, ◌++◌, drop, flat_map}
use Rattle.std.specs.Prelude.{string_bytes}
use Rattle.fault_notes.specs.inner.Parts.{part_word}
use Rattle.fault_notes.proofs.notes.put_parts.Given as goal

-- what is put, and the parts that are left
abbrev pub invariant-loop-part : goal.invariant-loop-part
invariant-loop-part l = string_bytes l.out ++ flat_map part_word (drop l.part-index l.parts)
    ≡ string_bytes l.fn.out ++ flat_map part_word l.parts
