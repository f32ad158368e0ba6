-- Words of bare and quoted pieces.
use Rattle.std.specs.Prelude.{◌≡◌, ◌≢◌, ◌+◌, ◌<◌, ◌==◌, ◌&&◌, ◌||◌, ℕ, Bool, false, List, [], ◌∷◌, ◌++◌, IsTrue, length}
use Rattle.std.specs.Prelude.{codes, if◌then◌else◌}
use Rattle.std.specs.List.{AllByRecursion, flat_map}
use Rattle.std.specs.Str.{str_eq_ignore_ascii_case}
use Rattle.dsn_tokens.specs.Gaps.{is_blank, Lacks}
use Rattle.dsn_tokens.specs.declared.context.Context.{Context}
use Rattle.dsn_tokens.specs.declared.context.Line.TheVariants.{Begun, Quoting}

-- a blank or a bracket ends a word
abbrev pub ends_word : ℕ → Bool
ends_word b = is_blank b || (b == 40 || b == 41)

-- a bare byte, or the bytes between two quoting bytes
pub data Piece : Type 0 where
  bare : ℕ → Piece
  quoted : List ℕ → Piece

-- A bare byte neither quotes nor ends a word; a quoted piece ends at the next quoting byte.
abbrev pub IsPiece : ℕ → Piece → Type 0
IsPiece quote (bare b) = (b ≢ quote) × (ends_word b ≡ false)
IsPiece quote (quoted inside) = Lacks quote inside

-- the bytes of these pieces, and then the rest
abbrev pub pieces_then : ℕ → List Piece → List ℕ → List ℕ
pieces_then quote [] rest = rest
pieces_then quote (bare b ∷ pieces) rest = b ∷ pieces_then quote pieces rest
pieces_then quote (quoted inside ∷ pieces) rest = quote ∷ (inside ++ quote ∷ pieces_then quote pieces rest)

-- a piece without its quoting bytes
abbrev pub piece_text : Piece → List ℕ
piece_text (bare b) = b ∷ []
piece_text (quoted inside) = inside

-- the end of the text, or a byte that ends a word
abbrev pub EndsWord : List ℕ → Type 0
EndsWord [] = Unit {0}
EndsWord (b ∷ rest) = IsTrue (ends_word b)

-- the bare word `string_quote`, in any case of letters, as the first of its list
abbrev pub asks_quote : Bool → List ℕ → Bool
asks_quote opened spelled = opened && str_eq_ignore_ascii_case spelled (codes "string_quote")

-- the context behind a word that is spelled so
abbrev pub behind_word : Context → List ℕ → Context
behind_word c spelled =
    record { line = if asks_quote c.opened spelled then Quoting else Begun; opened = false; quote = c.quote }

-- The bytes begin with a word, as long as it can be, that has this text; the rest and its context follow.
pub record IsWord (c : Context) (bytes text rest : List ℕ) (d : Context) : Type 0 where
  pub pieces : List Piece
  pub some : 0 < length pieces
  pub each : AllByRecursion (IsPiece c.quote) pieces
  pub spelled : bytes ≡ pieces_then c.quote pieces rest
  pub ends : EndsWord rest
  pub joined : text ≡ flat_map piece_text pieces
  pub context : d ≡ behind_word c (pieces_then c.quote pieces [])

-- The bytes begin with a word whose last quoted piece, opened at this offset, has no end. The text ends at the offset
-- last.
pub record IsOpenQuote (c : Context) (bytes : List ℕ) (last at : ℕ) : Type 0 where
  pub pieces : List Piece
  pub inside : List ℕ
  pub no_quote_due : c.line ≢ Quoting
  pub each : AllByRecursion (IsPiece c.quote) pieces
  pub unclosed : Lacks c.quote inside
  pub spelled : bytes ≡ pieces_then c.quote pieces (c.quote ∷ inside)
  pub opened_at : at + length (c.quote ∷ inside) ≡ last
