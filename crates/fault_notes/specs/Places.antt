-- Places in a text.
use Rattle.std.specs.Prelude.{ℕ, ◌+◌, ◌==◌, nat_lt, Bool, not, ◌&&◌, ◌||◌, if◌then◌else◌, List, [], ◌∷◌, length}
use Rattle.std.specs.Prelude.{take, drop, take_while, count_by, Option, None, Some, codes}
use Rattle.std.specs.List.{after_last}
use Rattle.std.specs.Str.{bytes_eq}

abbrev pub is_line_feed : ℕ → Bool
is_line_feed c = c == 10

-- one more than the line feeds before the offset
abbrev pub line_of : List ℕ → ℕ → ℕ
line_of text at = count_by is_line_feed (take at text) + 1

-- one more than the bytes before the offset, behind the last line feed there
abbrev pub column_of : List ℕ → ℕ → ℕ
column_of text at = length (after_last is_line_feed (take at text)) + 1

-- ---- words

abbrev pub is_bracket : ℕ → Bool
is_bracket c = c == 40 || c == 41

-- a printed byte of ASCII that is neither a blank nor a bracket
abbrev pub is_word_byte : ℕ → Bool
is_word_byte c = nat_lt 32 c && (nat_lt c 127 && not (is_bracket c))

-- the word at the front, with the bracket before it
abbrev pub front_word : List ℕ → List ℕ
front_word [] = []
front_word (c ∷ rest) = if is_bracket c then c ∷ take_while is_word_byte rest else take_while is_word_byte (c ∷ rest)

-- the first 40 bytes of the word at the offset
abbrev pub word_at : List ℕ → ℕ → List ℕ
word_at text at = take 40 (front_word (drop at text))

-- ---- files that are none of the program's

abbrev pub begins_with : List ℕ → List ℕ → Bool
begins_with front text = bytes_eq (take (length front) text) front

-- what is said of a file of another kind, by how it begins
abbrev pub mistake_in : List ℕ → Option (List ℕ)
mistake_in text =
    if begins_with (codes "(kicad_pcb") text then Some (
    codes "this is a board of KiCad: in its board editor take File > Export > Specctra DSN, and give that file"
    ) else if begins_with (codes "(kicad_sch") text then Some (
    codes "this is a schematic of KiCad: open its board, and take File > Export > Specctra DSN there"
    ) else if begins_with (codes "(session") text then Some (
    codes "this is a session: give the design that it belongs to"
    ) else if begins_with (codes "{") text then Some (
    codes "this is a project of KiCad, or other JSON: open its board, and take File > Export > Specctra DSN there"
    ) else None
