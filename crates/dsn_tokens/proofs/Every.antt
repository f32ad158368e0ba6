-- Every text has a reading.
use Rattle.std.proofs.Common.{◌≡◌, ◌≢◌, ◌<◌, ◌≤◌, ◌+◌, ◌-◌, ◌==◌, ◌∙◌, ap, sym, ℕ, Bool, true, false, List, [], ◌∷◌}
use Rattle.std.proofs.Common.{length, arith, refl, zero, suc, inl, inr, length-append}
use Rattle.std.specs.Prelude.{Some, None, Option}
use Rattle.std.specs.List.{flat_map}
use Rattle.std.proofs.lemmas.Bool.Decides.{nat_tests}
use Rattle.dsn_tokens.specs.Place.{Place, end_of, behind_token}
use Rattle.dsn_tokens.specs.Gaps.{Space, blank, skipped, spaces_then, StartsToken, IsBehindGap}
use Rattle.dsn_tokens.specs.Words.{EndsWord, Piece, pieces_then, piece_text, behind_word}
use Rattle.dsn_tokens.specs.Spelling.{can_quote, IsTokenAt, IsFault, Reading, EachRead}
use Rattle.dsn_tokens.specs.declared.context.Context.{Context}
use Rattle.dsn_tokens.specs.declared.context.Line.{Line}
use Rattle.dsn_tokens.specs.declared.context.Line.TheVariants.{Fresh, Begun, Quoting}
use Rattle.dsn_tokens.specs.declared.token.Mark.{Mark}
use Rattle.dsn_tokens.specs.declared.token.Mark.TheVariants.{Left, Right, Word}
use Rattle.dsn_tokens.specs.declared.token.Token.{Token}
use Rattle.dsn_tokens.specs.declared.token.TokenFault.{TokenFault}
use Rattle.dsn_tokens.specs.declared.token.TokenFault.TheVariants.{QuoteOpen, BadQuoteByte}
use Rattle.dsn_tokens.proofs.FoundGaps.{Gapped, gapped}
use Rattle.dsn_tokens.proofs.FoundWords.{Worded, worded, pieces_split}
use Rattle.dsn_tokens.proofs.Steps.{ends_word_at, some_pieces, long_pieces, mark_token}

record TokenFound (line : Line) (c : Context) (bytes : List ℕ) : Type 0 where
  mark : Mark
  rest : List ℕ
  context : Context
  is : IsTokenAt line mark c bytes rest context
  short : length rest < length bytes

-- what stands in front of some bytes that begin a token
data Outcome (line : Line) (c : Context) (bytes : List ℕ) (last : ℕ) : Type 0 where
  token : TokenFound line c bytes → Outcome line c bytes last
  fault : (f : TokenFault) → IsFault c bytes last f → Outcome line c bytes last

minus : (last n : ℕ) → n ≤ last → last - n + n ≡ last
minus last n h = omega arith

quoting : (c : Context) (b : ℕ) (rest : List ℕ) (last : ℕ) (k : Bool) → can_quote b ≡ k → c.line ≡ Quoting
    → length (b ∷ rest) ≤ last → Outcome Quoting c (b ∷ rest) last
quoting c b rest last true e l h = token (record {
  mark = Word (b ∷ []);
  rest = rest;
  context = behind_token false b;
  is = record { byte = b; here = refl; can = e; mark_is = refl; context = refl };
  short = omega arith;
})
quoting c b rest last false e l h =
    fault (BadQuoteByte (last - length (b ∷ rest))) (
      record { byte = b; rest = rest; due = l; here = refl; other = e },
      minus last _ h,
    )

word_short : (q : ℕ) (pieces : List Piece) (bytes rest : List ℕ) → 0 < length pieces → bytes ≡ pieces_then q pieces rest
    → length rest < length bytes
word_short q pieces bytes rest some e =
    omega (
      arith,
      ap length (e ∙ pieces_split q pieces rest),
      length-append (pieces_then q pieces []) rest,
      long_pieces q pieces some,
    )

word : (line : Line) (c : Context) (bytes : List ℕ) (last : ℕ) (w : List ℕ × ℕ) → line ≡ c.line → line ≢ Quoting
    → (EndsWord bytes → ⊥) → length bytes ≤ last → Worded c.quote bytes w → Outcome line c bytes last
word line c bytes last w l nq ne h f = elim f.left [
  | inl x ↦ let some : 0 < length f.pieces = some_pieces c.quote f.pieces bytes f.behind f.text ne x.1 in
      token (record {
        mark = Word (flat_map piece_text f.pieces);
        rest = f.behind;
        context = behind_word c (pieces_then c.quote f.pieces []);
        is = mark_token line (Word (flat_map piece_text f.pieces)) c bytes f.behind _ nq
            (record {
              pieces = f.pieces;
              some = some;
              each = f.each;
              spelled = f.text;
              ends = x.1;
              joined = refl;
              context = refl;
            });
        short = word_short c.quote f.pieces bytes f.behind some f.text;
      })
  | inr x ↦ fault (QuoteOpen (last - length (c.quote ∷ x.0))) (record {
    pieces = f.pieces;
    inside = x.0;
    no_quote_due = λ e. nq (l ∙ e);
    each = f.each;
    unclosed = x.2;
    spelled = rw (← x.1) f.text;
    opened_at = minus last _
        (omega (
          arith,
          ap length (f.text ∙ pieces_split c.quote f.pieces f.behind),
          length-append (pieces_then c.quote f.pieces []) f.behind,
          ap length x.1,
        ));
  })
]

is_byte : (a b : ℕ) → (a == b) ≡ true → a ≡ b
is_byte a b e = grind (arith, nat_tests)

is_other : (a b : ℕ) → (a == b) ≡ false → a ≢ b
is_other a b e = grind (arith, nat_tests)

bracket : (line : Line) (m : Mark) (c : Context) (b : ℕ) (rest : List ℕ) (d : Context) (last : ℕ)
    → IsTokenAt line m c (b ∷ rest) rest d → Outcome line c (b ∷ rest) last
bracket line m c b rest d last is = token (record { mark = m; rest = rest; context = d; is = is; short = omega arith })

plain : (line : Line) (c : Context) (b : ℕ) (rest : List ℕ) (last : ℕ) (left right : Bool) → line ≡ c.line
    → line ≢ Quoting → StartsToken Begun (b ∷ rest) → length (b ∷ rest) ≤ last → (b == 40) ≡ left → (b == 41) ≡ right
    → Outcome line c (b ∷ rest) last
plain line c b rest last true right l nq s h e f =
    bracket line Left c b rest (behind_token true c.quote) last
    (mark_token line Left c (b ∷ rest) rest _ nq (ap (λ x. x ∷ rest) (is_byte b 40 e), refl))
plain line c b rest last false true l nq s h e f =
    bracket line Right c b rest (behind_token false c.quote) last
    (mark_token line Right c (b ∷ rest) rest _ nq (ap (λ x. x ∷ rest) (is_byte b 41 f), refl))
plain line c b rest last false false l nq s h e f =
    word line c (b ∷ rest) last _ l nq (ends_word_at (b ∷ rest) (omega arith) s.0 (is_other b 40 e) (is_other b 41 f)) h
    (worded c.quote (b ∷ rest))

unskipped : (b : ℕ) (line : Line) (rest : List ℕ) → StartsToken line (b ∷ rest) → StartsToken Begun (b ∷ rest)
unskipped b line rest s = (s.0, λ e. let f : Begun ≡ Fresh = e in cc)

outcome : (line behind : Line) (c : Context) (bytes : List ℕ) (last : ℕ) → line ≡ c.line → StartsToken behind bytes
    → length bytes ≤ last → Outcome line c bytes last
outcome line behind c [] last l s h = absurd s
outcome Quoting behind c (b ∷ rest) last l s h = quoting c b rest last (can_quote b) refl (sym l) h
outcome Fresh behind c (b ∷ rest) last l s h =
    plain Fresh c b rest last (b == 40) (b == 41) l (λ e. cc) (unskipped b behind rest s) h refl refl
outcome Begun behind c (b ∷ rest) last l s h =
    plain Begun c b rest last (b == 40) (b == 41) l (λ e. cc) (unskipped b behind rest s) h refl refl

record Read (p : Place) : Type 0 where
  ts : List Token
  end : Option TokenFault
  reading : Reading p ts end

spaces_short : (spaces : List Space) (rest : List ℕ) → length rest ≤ length (spaces_then spaces rest)
spaces_short [] rest = omega arith
spaces_short (blank b ∷ spaces) rest = omega (arith, spaces_short spaces rest)
spaces_short (skipped inside ∷ spaces) rest =
    omega (arith, spaces_short spaces rest, length-append inside (10 ∷ spaces_then spaces rest))

gap_short : (p : Place) (bytes : List ℕ) → IsBehindGap p bytes → length bytes ≤ length p.rest
gap_short p bytes g = omega (arith, ap length g.text, spaces_short g.spaces bytes)

read_on : (p : Place) (bytes : List ℕ) → IsBehindGap p bytes → ((q : Place) → length q.rest < length p.rest → Read q)
    → Outcome p.context.line p.context bytes (end_of p) → Read p
read_on p bytes g more (fault f x) =
    record { ts = []; end = Some f; reading = record { bytes = bytes; gap = g; fault = x } }
read_on p bytes g more (token x) =
    let short : length bytes ≤ length p.rest = gap_short p bytes g in
    let q : Place = record { at = end_of p - length x.rest; rest = x.rest; context = x.context } in
    let r = more q (omega (arith, x.short)) in record {
      ts = record { at = end_of p - length bytes; mark = x.mark } ∷ r.ts;
      end = r.end;
      reading = (
        q,
        record {
          bytes = bytes;
          gap = g;
          token = x.is;
          token_at = minus (end_of p) _ (omega arith);
          same_end = minus (end_of p) _ (omega (arith, x.short));
        },
        r.reading,
      );
    }

read_gap : (p : Place) (rest : List ℕ) → ((q : Place) → length q.rest < length p.rest → Read q)
    → Gapped p.context.line p.rest rest → Read p
read_gap p rest more g = elim g.left [
  | inl x ↦ let k : IsBehindGap p g.behind =
      record { spaces = g.spaces; is_gap = g.is_gap; text = g.text; starts = x.1 } in
      read_on p g.behind k more
      (outcome p.context.line _ p.context g.behind (end_of p) refl x.1 (omega (arith, gap_short p g.behind k)))
  | inr x ↦ record {
    ts = [];
    end = None;
    reading = record { spaces = g.spaces; last = g.behind; is_gap = g.is_gap; text = g.text; ends = x.1 };
  }
]

every : (fuel : ℕ) (p : Place) → length p.rest < fuel → Read p
every zero p h = absurd (omega arith)
every (suc fuel) p h = read_gap p _ (λ q l. every fuel q (omega arith)) (gapped p.context.line p.rest)

pub each_read : EachRead
each_read p = let r = every (length p.rest + 1) p (omega arith) in (r.ts, r.end, r.reading)
