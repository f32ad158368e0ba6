-- The parts that the words after a command make, and which parts fit the form of the command.
use Rattle.std.specs.Prelude.{ℕ, ◌+◌, ◌==◌, nat_lt, Bool, true, false, not, ◌&&◌, if◌then◌else◌, codes}
use Rattle.std.specs.Prelude.{List, [], ◌∷◌, ◌++◌, map, Option, Some, None, is_some}
use Rattle.std.specs.List.{list_any, before_first, after_first}
use Rattle.std.specs.Str.{bytes_eq}

-- a word is its bytes
abbrev pub Word : Type 0
Word = List ℕ

-- the word is among them
abbrev pub has : List Word → Word → Bool
has words w = list_any (λ x. bytes_eq x w) words

-- what follows a command: so many names, options that take a value, and options that take none
pub record Form : Type 0 where
  pub names : ℕ
  pub valued : List Word
  pub flags : List Word

-- ---- what a word looks like
-- two hyphens alone; `--name` or `--name=value`; another word behind a hyphen; or any other, a hyphen alone among these
pub data Look : Type 0 where
  dashes : Look
  long : Word → Option Word → Look
  other : Look
  plain : Look

-- what stands behind the first `=`, if there is one (61 is `=`, and 45 a hyphen)
abbrev pub value_behind : Word → Option Word
value_behind t = if list_any (λ x. x == 61) t then Some (after_first (λ x. x == 61) t) else None

-- behind two hyphens
abbrev pub look_past_two : Word → Look
look_past_two [] = dashes
look_past_two (c ∷ rest) = long (before_first (λ x. x == 61) (c ∷ rest)) (value_behind (c ∷ rest))

-- behind one hyphen
abbrev pub look_past_one : Word → Look
look_past_one [] = plain
look_past_one (c ∷ rest) = if c == 45 then look_past_two rest else other

abbrev pub look_of : Word → Look
look_of [] = plain
look_of (c ∷ rest) = if c == 45 then look_past_one rest else plain

-- ---- the parts that words make
-- a name; an option, with its value if it has one; an option that no form has
pub data Part : Type 0 where
  name : Word → Part
  option : Word → Option Word → Part
  stray : Part

-- an option without a value waits for the next word, if it takes one
abbrev pub waits : Form → Word → Option Word → Bool
waits f x value = not (is_some value) && has f.valued x

-- an option that waited in vain
abbrev pub left_over : Option Word → List Part
left_over None = []
left_over (Some x) = option x None ∷ []

-- an option that is met: it waits, or is a part with what follows
abbrev pub option_parts : Form → Word → Option Word → (Option Word → List Part) → List Part
option_parts f x value rest = if waits f x value then rest (Some x) else option x value ∷ rest None

-- a word that is no option is the value of the one that waits, or else a name
abbrev pub plain_part : Option Word → Word → Part
plain_part None word = name word
plain_part (Some x) word = option x (Some word)

-- a word of this look behind an option that waits, if one does; the rest as names, or as what follows
abbrev pub parts_by : Form → Option Word → Word → Look → List Part → (Option Word → List Part) → List Part
parts_by f waiting word dashes names rest = left_over waiting ++ names
parts_by f waiting word (long x value) names rest = left_over waiting ++ option_parts f x value rest
parts_by f waiting word other names rest = left_over waiting ++ stray ∷ rest None
parts_by f waiting word plain names rest = plain_part waiting word ∷ rest None

-- the parts behind an option that waits for its value, if one does; behind two hyphens each word is a name
abbrev pub parts_from : Form → Option Word → List Word → List Part
parts_from f waiting [] = left_over waiting
parts_from f waiting (word ∷ words) = parts_by f waiting word (look_of word) (map name words)
    (λ w. parts_from f w words)

-- the parts of all words behind the command
abbrev pub parts_of : Form → List Word → List Part
parts_of f words = parts_from f None words

-- ---- what is asked of the parts
-- an option of the form, with a value or without as it wants
abbrev pub is_given_right : Form → Word → Option Word → Bool
is_given_right f x (Some v) = has f.valued x
is_given_right f x None = has f.flags x && not (has f.valued x)

-- behind these options and so many names: options of the form, each once, and no more names than the form has
abbrev pub fit_from : Form → List Word → ℕ → List Part → Bool
fit_from f seen n [] = true
fit_from f seen n (name t ∷ parts) = nat_lt n f.names && fit_from f seen (n + 1) parts
fit_from f seen n (option x value ∷ parts) =
    is_given_right f x value && (not (has seen x) && fit_from f (x ∷ seen) n parts)
fit_from f seen n (stray ∷ parts) = false

-- the parts fit the form, but that names may be missing
abbrev pub fit : Form → List Part → Bool
fit f parts = fit_from f [] 0 parts

-- ---- look-ups
-- the names, in order
abbrev pub names_in : List Part → List Word
names_in [] = []
names_in (name t ∷ parts) = t ∷ names_in parts
names_in (option x value ∷ parts) = names_in parts
names_in (stray ∷ parts) = names_in parts

-- the value of the first option of this name; an option without one counts as `true`
abbrev pub value_in : Word → List Part → Option Word
value_in x [] = None
value_in x (name t ∷ parts) = value_in x parts
value_in x (option y (Some v) ∷ parts) = if bytes_eq y x then Some v else value_in x parts
value_in x (option y None ∷ parts) = if bytes_eq y x then Some (codes "true") else value_in x parts
value_in x (stray ∷ parts) = value_in x parts
