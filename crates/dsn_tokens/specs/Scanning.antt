-- How the lexer goes over bytes from left to right; what it finds is said in the gaps and words.
use Rattle.std.specs.Prelude.{◌==◌, ◌&&◌, ℕ, Bool, true, false, List, [], ◌∷◌, if◌then◌else◌, zero, suc}
use Rattle.dsn_tokens.specs.Gaps.{is_blank, blank, behind_space}
use Rattle.dsn_tokens.specs.Words.{ends_word}
use Rattle.dsn_tokens.specs.declared.context.Line.{Line}
use Rattle.dsn_tokens.specs.declared.context.Line.TheVariants.{Fresh, Begun, Quoting}

-- only blanks stand before, and no quoting byte is due
abbrev pub is_fresh : Line → Bool
is_fresh Fresh = true
is_fresh Begun = false
is_fresh Quoting = false

-- what is left behind a gap, where a line is being skipped or not
abbrev pub gap_rest : Bool → Line → List ℕ → List ℕ
gap_rest skips line [] = []
gap_rest true line (b ∷ bytes) = gap_rest (if b == 10 then false else true) line bytes
gap_rest false line (b ∷ bytes) =
    if b == 35 && is_fresh line then gap_rest true line bytes
    else (if is_blank b then gap_rest false (behind_space line (blank b)) bytes else b ∷ bytes)

-- what is left behind a word, and how many bytes the piece that is open there has, with its quoting byte
abbrev pub word_rest : ℕ → ℕ → List ℕ → List ℕ × ℕ
word_rest quote open_bytes [] = ([], open_bytes)
word_rest quote zero (b ∷ bytes) =
    if b == quote then word_rest quote 1 bytes else (if ends_word b then (b ∷ bytes, 0) else word_rest quote 0 bytes)
word_rest quote (suc k) (b ∷ bytes) =
    if b == quote then word_rest quote 0 bytes else word_rest quote (suc (suc k)) bytes
