-- How a text spells tokens.
use Rattle.std.specs.Prelude.{◌≡◌, ◌<◌, ◌+◌, ◌==◌, ◌||◌, ℕ, Bool, true, false, List, [], ◌∷◌, Option, Some, None, Ok}
use Rattle.std.specs.Prelude.{Err, Result, drop, length, IsTrue}
use Rattle.dsn_tokens.specs.Place.{Place, start, end_of, behind_token}
use Rattle.dsn_tokens.specs.Gaps.{IsBehindGap, Ends}
use Rattle.dsn_tokens.specs.Words.{IsWord, IsOpenQuote}
use Rattle.dsn_tokens.specs.declared.context.Context.{Context}
use Rattle.dsn_tokens.specs.declared.context.Line.{Line}
use Rattle.dsn_tokens.specs.declared.context.Line.TheVariants.{Fresh, Begun, Quoting}
use Rattle.dsn_tokens.specs.declared.token.Lexeme.{Lexeme}
use Rattle.dsn_tokens.specs.declared.token.Mark.{Mark}
use Rattle.dsn_tokens.specs.declared.token.Mark.TheVariants.{Left, Right, Word}
use Rattle.dsn_tokens.specs.declared.token.Token.{Token}
use Rattle.dsn_tokens.specs.declared.token.TokenFault.{TokenFault}
use Rattle.dsn_tokens.specs.declared.token.TokenFault.TheVariants.{QuoteOpen, BadQuoteByte, Memory}

-- the bytes that may become the quoting byte
abbrev pub can_quote : ℕ → Bool
can_quote b = b == 34 || (b == 39 || b == 36)

-- One byte becomes the quoting byte, and is a word of its own.
pub record IsQuotingByte (bytes : List ℕ) (mark : Mark) (rest : List ℕ) (d : Context) : Type 0 where
  pub byte : ℕ
  pub here : bytes ≡ byte ∷ rest
  pub can : IsTrue (can_quote byte)
  pub mark_is : mark ≡ Word (byte ∷ [])
  pub context : d ≡ behind_token false byte

-- A quoting byte is due, and another byte stands there.
pub record IsBadQuoteByte (c : Context) (bytes : List ℕ) : Type 0 where
  pub byte : ℕ
  pub rest : List ℕ
  pub due : c.line ≡ Quoting
  pub here : bytes ≡ byte ∷ rest
  pub other : can_quote byte ≡ false

-- A bracket or a word.
abbrev pub IsMark : Mark → Context → List ℕ → List ℕ → Context → Type 0
IsMark Left c bytes rest d = (bytes ≡ 40 ∷ rest) × (d ≡ behind_token true c.quote)
IsMark Right c bytes rest d = (bytes ≡ 41 ∷ rest) × (d ≡ behind_token false c.quote)
IsMark (Word text) c bytes rest d = IsWord c bytes text rest d

-- In this context the bytes begin with this token; the rest and its context follow.
abbrev pub IsTokenAt : Line → Mark → Context → List ℕ → List ℕ → Context → Type 0
IsTokenAt Fresh mark c bytes rest d = IsMark mark c bytes rest d
IsTokenAt Begun mark c bytes rest d = IsMark mark c bytes rest d
IsTokenAt Quoting mark c bytes rest d = IsQuotingByte bytes mark rest d

-- The same, with the line's standing taken from the context.
abbrev pub IsToken : Mark → Context → List ℕ → List ℕ → Context → Type 0
IsToken mark c bytes rest d = IsTokenAt c.line mark c bytes rest d

-- In this context the token that begins the bytes has this fault. The text ends at the offset last.
abbrev pub IsFault : Context → List ℕ → ℕ → TokenFault → Type 0
IsFault c bytes last (QuoteOpen at) = IsOpenQuote c bytes last at
IsFault c bytes last (BadQuoteByte at) = IsBadQuoteByte c bytes × (at + length bytes ≡ last)
IsFault c bytes last (Memory e) = ⊥

-- From p the token t is next, and q is behind it.
pub record Takes (p : Place) (t : Token) (q : Place) : Type 0 where
  pub bytes : List ℕ
  pub gap : IsBehindGap p bytes
  pub token : IsToken t.mark p.context bytes q.rest q.context
  pub token_at : t.at + length bytes ≡ end_of p
  pub same_end : end_of q ≡ end_of p

-- From p the next token has a fault.
pub record Faults (p : Place) (f : TokenFault) : Type 0 where
  pub bytes : List ℕ
  pub gap : IsBehindGap p bytes
  pub fault : IsFault p.context bytes (end_of p) f

-- What a call at p answers, and where it leaves off.
abbrev pub Next : Place → Result (Option Token) TokenFault → Place → Type 0
Next p (Ok None) q = Ends p × (q ≡ p)
Next p (Ok (Some t)) q = Takes p t q
Next p (Err (QuoteOpen at)) q = Faults p (QuoteOpen at) × (q ≡ p)
Next p (Err (BadQuoteByte at)) q = Faults p (BadQuoteByte at) × (q ≡ p)
Next p (Err (Memory e)) q = q ≡ p

-- A token leaves fewer bytes.
abbrev pub Shortens : Place → Result (Option Token) TokenFault → Place → Type 0
Shortens p (Ok (Some t)) q = length q.rest < length p.rest
Shortens p (Ok None) q = Unit {0}
Shortens p (Err f) q = Unit {0}

-- What reading the token that begins the bytes answers.
abbrev pub Reads : Context → List ℕ → ℕ → Result Lexeme TokenFault → Type 0
Reads c bytes last (Ok x) = IsToken x.mark c bytes (drop x.len bytes) x.context
Reads c bytes last (Err (QuoteOpen at)) = IsFault c bytes last (QuoteOpen at)
Reads c bytes last (Err (BadQuoteByte at)) = IsFault c bytes last (BadQuoteByte at)
Reads c bytes last (Err (Memory e)) = Unit {0}

-- From p come these tokens, and then the end of the text or a fault.
abbrev pub Reading : Place → List Token → Option TokenFault → Type 0
Reading p [] None = Ends p
Reading p [] (Some f) = Faults p f
Reading p (t ∷ ts) end = (q : Place) × Takes p t q × Reading q ts end

-- The text spells these tokens.
abbrev pub Spells : List ℕ → List Token → Type 0
Spells text ts = Reading (start text) ts None

-- A text has one reading.
abbrev pub OneReading : Type 0
OneReading = (text : List ℕ) (ts us : List Token) (e f : Option TokenFault) → Reading (start text) ts e
    → Reading (start text) us f → (ts ≡ us) × (e ≡ f)

-- From each place there is a reading.
abbrev pub EachRead : Type 0
EachRead = (p : Place) → (ts : List Token) × (end : Option TokenFault) × Reading p ts end
