-- What the private functions give: parts of a note, one after another.
use Rattle.std.specs.Prelude.{ℕ, List, [], ◌∷◌, ◌++◌, decimal}
use Rattle.fault_notes.specs.declared.notes.Part.{Part}
use Rattle.fault_notes.specs.declared.notes.Part.TheVariants.{Number, Text}

abbrev pub part_word : Part → List ℕ
part_word (Number n) = decimal n
part_word (Text text) = text.now

-- parts before others
abbrev pub words_before : Part → List Part → List ℕ
words_before part [] = part_word part
words_before part (next ∷ parts) = part_word part ++ words_before next parts

abbrev pub part_words : List Part → List ℕ
part_words [] = []
part_words (part ∷ parts) = words_before part parts
