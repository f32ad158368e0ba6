-- How a session spells names, numbers, angles and points.
-- Source: SPECCTRA reference, identifiers, numbers and the path descriptor.
use Rattle.std.specs.Prelude.{◌≡◌, ℕ, ◌*◌, ◌/◌, ◌%◌, ◌+◌, ◌==◌, ℤ, pos, ◌+ℤ◌, ◌*ℤ◌, int_lt, Bool, true, false, not}
use Rattle.std.specs.Prelude.{◌&&◌, ◌||◌, if◌then◌else◌, List, [], ◌∷◌, ◌++◌, length, reverse, flat_map, codes, decimal}
use Rattle.std.specs.List.{list_all, list_any}
use Rattle.std.specs.Char.{is_ascii_alphanumeric}
use Rattle.std.specs.Fmt.{signed_decimal}
use Rattle.std.specs.Int.{int_div_euclid}
use Rattle.geo_kernel.specs.declared.point.Point.{Point}

-- new is old with the piece at its end
pub record Appends (old new piece : List ℕ) : Type 0 where
  pub is : new ≡ old ++ piece

-- a letter, a digit or one of these marks
abbrev pub is_bare_byte : ℕ → Bool
is_bare_byte b = is_ascii_alphanumeric b || list_any (λ mark. mark == b) (codes "_.+/:[]~*")

-- such a name needs no quotes
abbrev pub is_bare : List ℕ → Bool
is_bare name = not (length name == 0) && list_all is_bare_byte name

unfoldable pub spelled : List ℕ → List ℕ
spelled name = if is_bare name then name else codes "\"" ++ name ++ codes "\""

-- a length in units of so many nm, to the nearest whole number, half upwards
abbrev pub nearest : ℕ → ℤ → ℤ
nearest nm x = int_div_euclid (pos 2 *ℤ x +ℤ pos nm) (pos (2 * nm))

-- a blank and a length
unfoldable pub length_word : ℕ → ℤ → List ℕ
length_word nm x = codes " " ++ signed_decimal (nearest nm x)

-- the digit at a place of so many microdegrees, and on to the last one that isn't 0
abbrev pub decimals : ℕ → List ℕ → List ℕ
decimals microdegrees [] = []
decimals microdegrees (place ∷ places) =
    if microdegrees % (10 * place) == 0 then [] else (48 + microdegrees / place % 10) ∷ decimals microdegrees places

abbrev pub fraction : ℕ → List ℕ
fraction microdegrees = if microdegrees % 1000000 == 0 then []
    else codes "." ++ decimals microdegrees (100000 ∷ 10000 ∷ 1000 ∷ 100 ∷ 10 ∷ 1 ∷ [])

-- whole degrees, and up to six digits without zeros at their end
unfoldable pub degrees : ℕ → List ℕ
degrees microdegrees = decimal (microdegrees / 1000000) ++ fraction microdegrees

abbrev pub point_words : ℕ → Point → List ℕ
point_words nm p = length_word nm p.x ++ length_word nm p.y

-- x before y
abbrev pub is_before : Point → Point → Bool
is_before p q = if int_lt p.x q.x then true else if int_lt q.x p.x then false else int_lt p.y q.y

-- the first list of points is the lesser
abbrev pub is_lesser : List Point → List Point → Bool
is_lesser ps [] = false
is_lesser [] (q ∷ qs) = true
is_lesser (p ∷ ps) (q ∷ qs) = if is_before p q then true else if is_before q p then false else is_lesser ps qs

-- a chain in the direction whose list of points is the lesser
abbrev pub directed : List Point → List Point
directed chain = if is_lesser (reverse chain) chain then reverse chain else chain

unfoldable pub chain_words : ℕ → List Point → List ℕ
chain_words nm chain = flat_map (point_words nm) (directed chain)

unfoldable pub area_words : ℕ → List (List Point) → List ℕ
area_words nm loops = flat_map (flat_map (point_words nm)) loops
