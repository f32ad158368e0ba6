-- What a call of the lexer finds, in the words of the spelling.
use Rattle.std.proofs.Common.{◌≡◌, ◌≢◌, ◌==◌, ◌+◌, ◌-◌, ◌<◌, ◌≤◌, ◌∙◌, ap, sym, subst, ℕ, false, List, [], ◌∷◌, arith}
use Rattle.std.proofs.Common.{refl, zero, suc, length, drop, take, slice_index, inl, inr, length-drop}
use Rattle.std.specs.Prelude.{Err, filter, not}
use Rattle.std.proofs.lemmas.Bool.Decides.{nat_tests}
use Rattle.dsn_tokens.specs.Place.{Place, end_of}
use Rattle.dsn_tokens.specs.Gaps.{is_blank, behind_gap, StartsToken, IsBehindGap, Ends}
use Rattle.dsn_tokens.specs.Words.{Piece, bare, quoted, pieces_then, EndsWord, behind_word, IsWord, IsOpenQuote}
use Rattle.dsn_tokens.specs.Spelling.{IsMark, IsTokenAt, Reads, Next}
use Rattle.dsn_tokens.specs.Scanning.{gap_rest, word_rest}
use Rattle.dsn_tokens.specs.declared.context.Context.{Context}
use Rattle.dsn_tokens.specs.declared.context.Line.{Line}
use Rattle.dsn_tokens.specs.declared.context.Line.TheVariants.{Fresh, Begun, Quoting}
use Rattle.dsn_tokens.specs.declared.token.Mark.{Mark}
use Rattle.dsn_tokens.specs.declared.token.TokenFault.{TokenFault}
use Rattle.dsn_tokens.specs.declared.token.TokenFault.TheVariants.{QuoteOpen, BadQuoteByte, Memory}
use Rattle.dsn_tokens.proofs.FoundGaps.{Gapped, gapped}
use Rattle.dsn_tokens.proofs.FoundWords.{Worded, worded, pieces_split, pieces_text, front_is}

behind : (p : Place) (bytes rest : List ℕ) → rest ≡ bytes → 0 < length bytes → Gapped p.context.line p.rest rest
    → IsBehindGap p bytes
behind p bytes rest e some g = elim g.left [
  | inl x ↦ record { spaces = g.spaces; is_gap = g.is_gap; text = rw (← e, x.0) g.text; starts = rw (← e, x.0) x.1 }
  | inr x ↦ absurd (omega (arith, ap length e, ap length x.0))
]

-- a token's bytes stand behind the gap that was found
pub behind_found : (p : Place) (bytes : List ℕ) → bytes ≡ gap_rest false p.context.line p.rest → 0 < length bytes
    → IsBehindGap p bytes
behind_found p bytes e some = behind p bytes _ (sym e) some (gapped p.context.line p.rest)

ends : (p : Place) (rest : List ℕ) → rest ≡ [] → Gapped p.context.line p.rest rest → Ends p
ends p rest e g = elim g.left [
  | inl x ↦ absurd (subst (λ xs. StartsToken (behind_gap p.context.line g.spaces) xs) (sym x.0 ∙ e) x.1)
  | inr x ↦ record { spaces = g.spaces; last = g.behind; is_gap = g.is_gap; text = g.text; ends = x.1 }
]

-- the gap that was found leads to the end
pub ends_found : (p : Place) (bytes : List ℕ) → bytes ≡ gap_rest false p.context.line p.rest → length bytes ≤ 0 → Ends p
ends_found p bytes e none = ends p _ (sym e ∙ nothing bytes none) (gapped p.context.line p.rest)
  where
    nothing : (xs : List ℕ) → length xs ≤ 0 → xs ≡ []
    nothing [] h = refl
    nothing (x ∷ xs) h = absurd (omega arith)

-- a token doesn't begin with a blank
pub starts_unblank : (line : Line) (bytes : List ℕ) → StartsToken line bytes → is_blank (slice_index bytes 0) ≡ false
starts_unblank line [] s = absurd s
starts_unblank line (b ∷ bytes) s = s.0

pub ends_word_at : (bytes : List ℕ) → 0 < length bytes → is_blank (slice_index bytes 0) ≡ false
    → slice_index bytes 0 ≢ 40 → slice_index bytes 0 ≢ 41 → EndsWord bytes → ⊥
ends_word_at [] some nb nl nr e = absurd (omega arith)
ends_word_at (b ∷ bytes) some nb nl nr e = grind (arith, nat_tests)

pub some_pieces : (q : ℕ) (pieces : List Piece) (bytes rest : List ℕ) → bytes ≡ pieces_then q pieces rest
    → (EndsWord bytes → ⊥) → EndsWord rest → 0 < length pieces
some_pieces q [] bytes rest e n ends = absurd (n (rw e ends))
some_pieces q (p ∷ pieces) bytes rest e n ends = omega arith

pub long_pieces : (q : ℕ) (pieces : List Piece) → 0 < length pieces → 0 < length (pieces_then q pieces [])
long_pieces q [] h = absurd (omega arith)
long_pieces q (bare b ∷ pieces) h = omega arith
long_pieces q (quoted inside ∷ pieces) h = omega arith

-- a word and its length, from what stands in front
pub record WordFound (c : Context) (bytes text : List ℕ) (n : ℕ) (d : Context) : Type 0 where
  pub word : IsWord c bytes text (drop n bytes) d
  pub long : 0 < n

word_is : (c : Context) (bytes text : List ℕ) (n o : ℕ) (d : Context) → (w : List ℕ × ℕ) → w ≡ (drop n bytes, o) → o ≤ 0
    → n ≤ length bytes → (EndsWord bytes → ⊥) → text ≡ filter (λ b. not (b == c.quote)) (take n bytes)
    → d ≡ behind_word c (take n bytes) → Worded c.quote bytes w → WordFound c bytes text n d
word_is c bytes text n o d w e none within n_e t b f = elim f.left [
  | inl x ↦
      let r : drop n bytes ≡ f.behind = ap (λ w. w.0) (sym e ∙ x.0) in
      let front : take n bytes ≡ pieces_then c.quote f.pieces [] =
      front_is n bytes _ f.behind within (f.text ∙ pieces_split c.quote f.pieces f.behind) r in
      let some : 0 < length f.pieces = some_pieces c.quote f.pieces bytes f.behind f.text n_e x.1 in
      record {
        word = record {
          pieces = f.pieces;
          some = some;
          each = f.each;
          spelled = rw r f.text;
          ends = rw r x.1;
          joined = t ∙ ap (filter (λ b. not (b == c.quote))) front ∙ pieces_text c.quote f.pieces f.each;
          context = b ∙ ap (behind_word c) front;
        };
        long = omega (arith, ap length front, long_pieces c.quote f.pieces some, length_take n bytes);
      }
  | inr x ↦ absurd (omega (arith, ap (λ w. w.1) (sym e ∙ x.3)))
]
  where
    length_take : (n : ℕ) (bytes : List ℕ) → length (take n bytes) ≤ n
    length_take zero bytes = omega arith
    length_take (suc n) [] = omega arith
    length_take (suc n) (b ∷ bytes) = omega (arith, length_take n bytes)

pub word_found : (c : Context) (bytes text : List ℕ) (n o : ℕ) (d : Context)
    → word_rest c.quote 0 bytes ≡ (drop n bytes, o) → o ≤ 0 → n ≤ length bytes → 0 < length bytes
    → is_blank (slice_index bytes 0) ≡ false → slice_index bytes 0 ≢ 40 → slice_index bytes 0 ≢ 41
    → text ≡ filter (λ b. not (b == c.quote)) (take n bytes) → d ≡ behind_word c (take n bytes)
    → WordFound c bytes text n d
word_found c bytes text n o d e none within some nb nl nr t b =
    word_is c bytes text n o d _ e none within (ends_word_at bytes some nb nl nr) t b (worded c.quote bytes)

open_is : (c : Context) (bytes : List ℕ) (base n o : ℕ) (w : List ℕ × ℕ) → c.line ≢ Quoting → w ≡ (drop n bytes, o)
    → 0 < o → n ≤ length bytes → o ≤ n → Worded c.quote bytes w
    → IsOpenQuote c bytes (base + length bytes) (base + n - o)
open_is c bytes base n o w nq e pos within long f = elim f.left [
  | inl x ↦ absurd (omega (arith, ap (λ w. w.1) (sym e ∙ x.0)))
  | inr x ↦ record {
    pieces = f.pieces;
    inside = x.0;
    no_quote_due = nq;
    each = f.each;
    unclosed = x.2;
    spelled = rw (← x.1) f.text;
    opened_at = omega (arith, ap (λ w. w.1) (sym e ∙ x.3), ap (λ w. length w.0) (sym e ∙ x.3), length-drop n bytes);
  }
]

-- a quoted piece without an end, from what stands in front
pub open_found : (c : Context) (bytes : List ℕ) (base n o : ℕ) → c.line ≢ Quoting
    → word_rest c.quote 0 bytes ≡ (drop n bytes, o) → 0 < o → n ≤ length bytes → o ≤ n
    → IsOpenQuote c bytes (base + length bytes) (base + n - o)
open_found c bytes base n o nq e pos within long =
    open_is c bytes base n o _ nq e pos within long (worded c.quote bytes)

-- where no quoting byte is due, a mark is a token
pub mark_token : (line : Line) (mark : Mark) (c : Context) (bytes rest : List ℕ) (d : Context) → line ≢ Quoting
    → IsMark mark c bytes rest d → IsTokenAt line mark c bytes rest d
mark_token Fresh mark c bytes rest d n m = m
mark_token Begun mark c bytes rest d n m = m
mark_token Quoting mark c bytes rest d n m = absurd (n refl)

-- a call hands the fault of its token on
pub fault_next : (p : Place) (bytes : List ℕ) (f : TokenFault) (last : ℕ) → IsBehindGap p bytes → last ≡ end_of p
    → Reads p.context bytes last (Err f) → Next p (Err f) p
fault_next p bytes (QuoteOpen at) last g e r = (record { bytes = bytes; gap = g; fault = rw (← e) r }, refl)
fault_next p bytes (BadQuoteByte at) last g e r = (record { bytes = bytes; gap = g; fault = rw (← e) r }, refl)
fault_next p bytes (Memory m) last g e r = refl
