-- A name byte by byte.
use Rattle.std.specs.Prelude.{ℕ, zero, suc, ◌-◌, List, []}
use Rattle.board_picture.specs.Words.{char_length, char_words}

-- what is put where the first byte comes, and so many bytes of a character are there already
abbrev pub next_words : ℕ → List ℕ → List ℕ
next_words zero bytes = char_words bytes
next_words (suc skip) bytes = []

-- how many bytes behind it are then there
abbrev pub next_skip : ℕ → List ℕ → ℕ
next_skip zero bytes = char_length bytes - 1
next_skip (suc skip) bytes = skip
