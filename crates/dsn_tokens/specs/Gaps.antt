-- What stands between tokens: blanks and skipped lines.
use Rattle.std.specs.Prelude.{◌≡◌, ◌≢◌, ◌==◌, ◌&&◌, ◌||◌, nat_le, ℕ, Bool, false, List, [], ◌∷◌, ◌++◌, IsTrue}
use Rattle.std.specs.Prelude.{if◌then◌else◌}
use Rattle.std.specs.List.{AllByRecursion}
use Rattle.dsn_tokens.specs.Place.{Place}
use Rattle.dsn_tokens.specs.declared.context.Line.{Line}
use Rattle.dsn_tokens.specs.declared.context.Line.TheVariants.{Fresh, Begun, Quoting}

-- a blank is one of the bytes 9 to 13 and 32
abbrev pub is_blank : ℕ → Bool
is_blank b = (nat_le 9 b && nat_le b 13) || b == 32

-- none of the bytes is this one
abbrev pub Lacks : ℕ → List ℕ → Type 0
Lacks stop bytes = AllByRecursion (λ b. b ≢ stop) bytes

-- a blank, or a skipped line: its bytes between the `#` and the line's end
pub data Space : Type 0 where
  blank : ℕ → Space
  skipped : List ℕ → Space

-- the bytes of these spaces, and then the rest
abbrev pub spaces_then : List Space → List ℕ → List ℕ
spaces_then [] rest = rest
spaces_then (blank b ∷ spaces) rest = b ∷ spaces_then spaces rest
spaces_then (skipped inside ∷ spaces) rest = 35 ∷ (inside ++ 10 ∷ spaces_then spaces rest)

-- a line that begins with `#` but for blanks is skipped to its byte 10
abbrev pub IsSpace : Line → Space → Type 0
IsSpace line (blank b) = IsTrue (is_blank b)
IsSpace line (skipped inside) = (line ≡ Fresh) × Lacks 10 inside

-- how the line stands behind a space
abbrev pub behind_space : Line → Space → Line
behind_space Fresh space = Fresh
behind_space Begun (blank b) = if b == 10 then Fresh else Begun
behind_space Begun (skipped inside) = Fresh
behind_space Quoting space = Quoting

-- each of them is a space, from left to right
abbrev pub IsGap : Line → List Space → Type 0
IsGap line [] = Unit {0}
IsGap line (space ∷ spaces) = IsSpace line space × IsGap (behind_space line space) spaces

-- how the line stands behind a gap
abbrev pub behind_gap : Line → List Space → Line
behind_gap line [] = line
behind_gap line (space ∷ spaces) = behind_gap (behind_space line space) spaces

-- a byte that is neither blank nor begins a skipped line
abbrev pub StartsToken : Line → List ℕ → Type 0
StartsToken line [] = ⊥
StartsToken line (b ∷ bytes) = (is_blank b ≡ false) × (line ≡ Fresh → b ≢ 35)

-- nothing, or a skipped line that the text's end cuts short
abbrev pub EndsText : Line → List ℕ → Type 0
EndsText line [] = Unit {0}
EndsText line (b ∷ bytes) = (line ≡ Fresh) × (b ≡ 35) × Lacks 10 bytes

-- From the place on there is a gap, as long as it can be, and then a token's bytes.
pub record IsBehindGap (p : Place) (bytes : List ℕ) : Type 0 where
  pub spaces : List Space
  pub is_gap : IsGap p.context.line spaces
  pub text : p.rest ≡ spaces_then spaces bytes
  pub starts : StartsToken (behind_gap p.context.line spaces) bytes

-- From the place on there is a gap to the end of the text.
pub record Ends (p : Place) : Type 0 where
  pub spaces : List Space
  pub last : List ℕ
  pub is_gap : IsGap p.context.line spaces
  pub text : p.rest ≡ spaces_then spaces last
  pub ends : EndsText (behind_gap p.context.line spaces) last
