-- Behind blanks the next token is taken.
use Rattle.std.proofs.Common.{◌≡◌, ℕ, ◌-◌, ◌≤◌, Bool, true, false, List, [], ◌∷◌, ◌++◌, length, map}
use Rattle.std.proofs.Common.{refl, ap, sym, ◌∙◌, subst, arith, true≢false, append_assoc}
use Rattle.std.specs.Prelude.{if◌then◌else◌}
use Rattle.std.specs.List.{AllByRecursion}
use Rattle.std.proofs.lemmas.List.{length-append}
use Rattle.dsn_tokens.specs.Place.{Place, end_of, behind_token}
use Rattle.dsn_tokens.specs.Gaps.{is_blank, blank, spaces_then, IsGap, behind_gap, behind_space, StartsToken, Ends}
use Rattle.dsn_tokens.specs.Words.{IsPiece, pieces_then, EndsWord, IsWord, behind_word, asks_quote}
use Rattle.dsn_tokens.specs.Spelling.{IsMark, IsTokenAt, Takes}
use Rattle.dsn_tokens.specs.declared.context.Context.{Context}
use Rattle.dsn_tokens.specs.declared.context.Line.{Line}
use Rattle.dsn_tokens.specs.declared.context.Line.TheVariants.{Fresh, Begun, Quoting}
use Rattle.dsn_tokens.specs.declared.token.Token.{Token}
use Rattle.dsn_tokens.specs.declared.token.Mark.{Mark}
use Rattle.dsn_tokens.specs.declared.token.Mark.TheVariants.{Left, Right, Word}
use Rattle.dsn_tokens.proofs.FoundWords.{pieces_split}
use Rattle.session_law.proofs.TreePlain.{StartsWord, IsSpelled}

-- blanks alone
abbrev pub AreBlanks : List ℕ → Type 0
AreBlanks gap = AllByRecursion (λ b. is_blank b ≡ true) gap

-- no quoting byte is due
abbrev pub AwaitsNoQuote : Line → Type 0
AwaitsNoQuote Fresh = Unit {0}
AwaitsNoQuote Begun = Unit {0}
AwaitsNoQuote Quoting = ⊥

-- From the place on there are blanks and then these bytes, directly behind an opening bracket or not.
pub record Stands (opened : Bool) (p : Place) (bytes : List ℕ) : Type 0 where
  pub gap : List ℕ
  pub blanks : AreBlanks gap
  pub text : p.rest ≡ gap ++ bytes
  pub no_quote : AwaitsNoQuote p.context.line
  pub opened_is : p.context.opened ≡ opened
  pub quote_is : p.context.quote ≡ 34

-- ---- gaps

-- blanks are a gap
gap_is : (line : Line) (gap : List ℕ) → AreBlanks gap → IsGap line (map blank gap)
gap_is line [] h = tt
gap_is line (b ∷ gap) h = (h.0, gap_is (behind_space line (blank b)) gap h.1)

-- which is spelled as it is
gap_then : (gap bytes : List ℕ) → spaces_then (map blank gap) bytes ≡ gap ++ bytes
gap_then [] bytes = refl
gap_then (b ∷ gap) bytes = ap (λ bs. b ∷ bs) (gap_then gap bytes)

-- a word's or a bracket's first byte starts a token on any line
starts_token : (line : Line) (bytes : List ℕ) → StartsWord bytes → StartsToken line bytes
starts_token line [] s = s
starts_token line (b ∷ bytes) s = (s.0, λ e. s.1)

-- where none is due each mark is a token
no_quote_token : (line : Line) (mark : Mark) (c : Context) (bytes rest : List ℕ) (d : Context) → AwaitsNoQuote line
    → IsMark mark c bytes rest d → IsTokenAt line mark c bytes rest d
no_quote_token Fresh mark c bytes rest d h k = k
no_quote_token Begun mark c bytes rest d h k = k
no_quote_token Quoting mark c bytes rest d h k = absurd h

-- where this many bytes are left of a text
abbrev pub place_at : Place → List ℕ → Context → Place
place_at p rest d = record { at = end_of p - length rest; rest = rest; context = d }

-- behind the blanks a mark is the next token
pub token : (o : Bool) (p : Place) (bytes rest : List ℕ) (mark : Mark) (d : Context) → Stands o p bytes
    → StartsWord bytes
    → IsMark mark p.context bytes rest d → length rest ≤ length bytes
    → Takes p (record { at = end_of p - length bytes; mark = mark }) (place_at p rest d)
token o p bytes rest mark d s w k short =
    takes (omega (arith, ap length s.text, length-append s.gap bytes))
  where
    takes : length bytes ≤ length p.rest → Takes p (record { at = end_of p - length bytes; mark = mark })
        (place_at p rest d)
    takes long = record {
      bytes = bytes;
      gap = record {
        spaces = map blank s.gap;
        is_gap = gap_is p.context.line s.gap s.blanks;
        text = s.text ∙ sym (gap_then s.gap bytes);
        starts = starts_token (behind_gap p.context.line (map blank s.gap)) bytes w;
      };
      token = no_quote_token p.context.line mark p.context bytes rest d s.no_quote k;
      token_at = omega arith;
      same_end = omega arith;
    }

-- behind the last blank the text ends
pub at_end : (o : Bool) (p : Place) → Stands o p [] → Ends p
at_end o p s = record {
  spaces = map blank s.gap;
  last = [];
  is_gap = gap_is p.context.line s.gap s.blanks;
  text = s.text ∙ sym (gap_then s.gap []);
  ends = tt;
}

-- one more blank
pub past_blank : (o : Bool) (p : Place) (b : ℕ) (bytes : List ℕ) → is_blank b ≡ true → Stands o p (b ∷ bytes)
    → Stands o p bytes
past_blank o p b bytes h s = record {
  gap = s.gap ++ b ∷ [];
  blanks = last_blank s.gap s.blanks;
  text = s.text ∙ sym (append_assoc s.gap (b ∷ []) bytes);
  no_quote = s.no_quote;
  opened_is = s.opened_is;
  quote_is = s.quote_is;
}
  where
    last_blank : (gap : List ℕ) → AreBlanks gap → AreBlanks (gap ++ b ∷ [])
    last_blank [] a = (h, tt)
    last_blank (x ∷ gap) a = (a.0, last_blank gap a.1)

-- ---- brackets and words
-- An opening or a closing bracket, or a word, is taken.
pub record Past (o : Bool) (p : Place) (mark : Mark) (rest : List ℕ) : Type 0 where
  pub t : Token
  pub q : Place
  pub takes : Takes p t q
  pub mark_is : t.mark ≡ mark
  pub stands : Stands o q rest

-- behind a token, where no quoting byte is due
stands_at : (o : Bool) (p : Place) (rest : List ℕ) (d : Context) → AwaitsNoQuote d.line → d.opened ≡ o → d.quote ≡ 34
    → Stands o (place_at p rest d) rest
stands_at o p rest d c e f = record { gap = []; blanks = tt; text = refl; no_quote = c; opened_is = e; quote_is = f }

-- an opening bracket
pub past_left : (o : Bool) (p : Place) (rest : List ℕ) → Stands o p (40 ∷ rest) → Past true p Left rest
past_left o p rest s = let d = behind_token true p.context.quote in record {
  t = record { at = end_of p - length (40 ∷ rest); mark = Left };
  q = place_at p rest d;
  takes = token o p (40 ∷ rest) rest Left d s (refl, omega arith) (refl, refl) (omega arith);
  mark_is = refl;
  stands = stands_at true p rest d tt refl s.quote_is;
}

-- a closing one
pub past_right : (o : Bool) (p : Place) (rest : List ℕ) → Stands o p (41 ∷ rest) → Past false p Right rest
past_right o p rest s = let d = behind_token false p.context.quote in record {
  t = record { at = end_of p - length (41 ∷ rest); mark = Right };
  q = place_at p rest d;
  takes = token o p (41 ∷ rest) rest Right d s (refl, omega arith) (refl, refl) (omega arith);
  mark_is = refl;
  stands = stands_at false p rest d tt refl s.quote_is;
}

-- what starts a word starts it with more behind
starts_more : (word rest : List ℕ) → StartsWord word → StartsWord (word ++ rest)
starts_more [] rest s = absurd s
starts_more (b ∷ word) rest s = s

-- none is due behind a word that doesn't ask for one
no_quote_word : (asks : Bool) → asks ≡ false → AwaitsNoQuote (if asks then Quoting else Begun)
no_quote_word true e = absurd (true≢false e)
no_quote_word false e = tt

-- a word
pub past_word : (o : Bool) (p : Place) (text word rest : List ℕ) → IsSpelled text word → asks_quote o word ≡ false
    → EndsWord rest
    → Stands o p (word ++ rest) → Past false p (Word text) rest
past_word o p text word rest w a e s =
    let d = behind_word p.context word in record {
      t = record { at = end_of p - length (word ++ rest); mark = Word text };
      q = place_at p rest d;
      takes = token o p (word ++ rest) rest (Word text) d s (starts_more word rest w.starts) is
          (omega (arith, length-append word rest));
      mark_is = refl;
      stands = stands_at false p rest d no_quote refl s.quote_is;
    }
  where
    no_quote : AwaitsNoQuote (if asks_quote p.context.opened word then Quoting else Begun)
    no_quote = no_quote_word (asks_quote p.context.opened word) (ap (λ x. asks_quote x word) s.opened_is ∙ a)

    is : IsWord p.context (word ++ rest) text rest (behind_word p.context word)
    is = record {
      pieces = w.pieces;
      some = w.some;
      each = subst (λ q. AllByRecursion (IsPiece q) w.pieces) (sym s.quote_is) w.each;
      spelled = ap (λ bs. bs ++ rest) w.spelled_so ∙ sym (pieces_split 34 w.pieces rest)
          ∙ ap (λ q. pieces_then q w.pieces rest) (sym s.quote_is);
      ends = e;
      joined = w.joined;
      context = ap (behind_word p.context) (w.spelled_so ∙ ap (λ q. pieces_then q w.pieces []) (sym s.quote_is));
    }
