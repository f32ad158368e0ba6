use Rattle.std.proofs.Common.{◌++◌, drop, flat_map}
use Rattle.ses_writer.proofs.Puts.{Leads}
use Rattle.board_picture.specs.Words.{part_word}
use Rattle.board_picture.proofs.words.put_parts.Given as goal

abbrev pub invariant-loop-part : goal.invariant-loop-part
invariant-loop-part l =
    Leads l.out.items (flat_map part_word (drop l.part-index l.parts)) (l.fn.out.items ++ flat_map part_word l.parts)
