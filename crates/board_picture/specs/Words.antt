-- How a picture spells lengths, points and names.
-- Source: Scalable Vector Graphics 1.1, numbers and path data; XML 1.0, predefined entities.
use Rattle.std.specs.Prelude.{ℕ, zero, suc, ◌-◌, ℤ, pos, unsigned_abs, int_lt, nat_lt, nat_le, ◌==◌, if◌then◌else◌}
use Rattle.std.specs.Prelude.{Bool, ◌&&◌, ◌||◌, List, [], ◌∷◌, ◌++◌, slice_index, take, flat_map, codes, decimal}
use Rattle.geo_kernel.specs.declared.point.Point.{Point}
use Rattle.ses_writer.specs.Words.{degrees}
use Rattle.board_picture.specs.declared.words.Part.{Part}
use Rattle.board_picture.specs.declared.words.Part.TheVariants.{Text, Name, Number, Length, Wide, At, Line}

-- ---- lengths, in mm

-- a length in nm: whole mm, and up to six digits without zeros at their end, as an angle in microdegrees is spelled
abbrev pub length_word : ℕ → List ℕ
length_word nm = degrees nm

abbrev pub sign_word : ℤ → List ℕ
sign_word nm = if int_lt nm (pos 0) then codes "-" else []

-- a coordinate in nm
unfoldable pub mm_word : ℤ → List ℕ
mm_word nm = sign_word nm ++ length_word (unsigned_abs nm)

-- a blank before each coordinate
unfoldable pub point_words : Point → List ℕ
point_words p = codes " " ++ mm_word p.x ++ codes " " ++ mm_word p.y

-- ---- names

-- the four marks that XML reads as its own, a question mark for a control byte, and any other byte as it is
abbrev pub escaped_byte : ℕ → List ℕ
escaped_byte b =
    if b == 38 then codes "&amp;" else if b == 60 then codes "&lt;" else if b == 62 then codes "&gt;"
    else if b == 34 then codes "&quot;" else if nat_lt b 32 then codes "?" else b ∷ []

-- whether a byte lies between two
abbrev pub is_in : ℕ → ℕ → ℕ → Bool
is_in least most b = nat_le least b && nat_le b most

-- a byte behind the first of a character
abbrev pub is_tail : ℕ → Bool
is_tail b = is_in 128 191 b

-- the first two bytes of a character of three or four bytes
abbrev pub leads_three : ℕ → ℕ → Bool
leads_three a b = (a == 224 && is_in 160 191 b) || (is_in 225 236 a && is_tail b) || (a == 237 && is_in 128 159 b)
    || (is_in 238 239 a && is_tail b)

abbrev pub leads_four : ℕ → ℕ → Bool
leads_four a b = (a == 240 && is_in 144 191 b) || (is_in 241 243 a && is_tail b) || (a == 244 && is_in 128 143 b)

-- how many bytes these, the first of what is there, give their character in UTF-8; 0 where they begin none.
-- Source: Unicode Standard, table of well-formed byte sequences
abbrev pub length_by : ℕ → ℕ → ℕ → ℕ → ℕ
length_by a b c d =
    if nat_lt a 128 then 1 else if is_in 194 223 a && is_tail b then 2 else if leads_three a b && is_tail c then 3
    else if leads_four a b && (is_tail c && is_tail d) then 4 else 0

-- U+FFFE or U+FFFF, which XML has not
abbrev pub is_no_xml : ℕ → ℕ → ℕ → Bool
is_no_xml a b c = a == 239 && (b == 191 && nat_le 190 c)

-- how many bytes the character at the front has
abbrev pub char_length : List ℕ → ℕ
char_length bytes = length_by (slice_index bytes 0) (slice_index bytes 1) (slice_index bytes 2) (slice_index bytes 3)

-- that character, with a question mark for what XML doesn't take
abbrev pub char_by : ℕ → List ℕ → List ℕ
char_by n bytes =
    if n == 0 then codes "?" else if n == 1 then escaped_byte (slice_index bytes 0)
    else if is_no_xml (slice_index bytes 0) (slice_index bytes 1) (slice_index bytes 2) then codes "?" else take n bytes

abbrev pub char_words : List ℕ → List ℕ
char_words bytes = char_by (char_length bytes) bytes

-- behind so many bytes of a character that is there already
abbrev pub escaped_from : ℕ → List ℕ → List ℕ
escaped_from skip [] = []
escaped_from (suc skip) (b ∷ rest) = escaped_from skip rest
escaped_from zero (b ∷ rest) = char_words (b ∷ rest) ++ escaped_from (char_length (b ∷ rest) - 1) rest

-- a name, so that each reader of XML takes it
abbrev pub escaped : List ℕ → List ℕ
escaped name = escaped_from 0 name

-- ---- what private functions put at once

abbrev pub part_word : Part → List ℕ
part_word (Text text) = text.now
part_word (Name name) = escaped name.now
part_word (Number n) = decimal n
part_word (Length nm) = length_word nm
part_word (Wide nm) = length_word nm
part_word (At p) = point_words p
part_word (Line points) = flat_map point_words points.now

-- what is there, and parts behind it
abbrev pub words_behind : List ℕ → List Part → List ℕ
words_behind before [] = before
words_behind before (part ∷ parts) = words_behind (before ++ part_word part) parts

-- parts, one after another
abbrev pub part_words : List Part → List ℕ
part_words [] = []
part_words (part ∷ parts) = words_behind (part_word part) parts
