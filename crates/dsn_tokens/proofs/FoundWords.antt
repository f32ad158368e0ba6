-- What stands in front of some bytes: a word's pieces, and then its end or a quoted piece that has none.
use Rattle.std.proofs.Common.{◌⊎◌, ◌||◌, ◌≡◌, ◌≢◌, ◌==◌, ◌+◌, ◌≤◌, ◌∙◌, ap, sym, ℕ, Bool, true, false, List, [], ◌∷◌}
use Rattle.std.proofs.Common.{◌++◌, arith, refl, suc, length, drop, take, inl, inr, if◌then◌else◌, append_assoc}
use Rattle.std.proofs.Common.{length-append, length-drop}
use Rattle.std.specs.Prelude.{filter, not}
use Rattle.std.specs.List.{AllByRecursion, flat_map, list_any}
use Rattle.std.proofs.lemmas.List.Elements.{filter-append}
use Rattle.std.proofs.Math.Seq.{take-append_seam}
use Rattle.std.proofs.lemmas.Bool.{false≢true}
use Rattle.std.proofs.lemmas.Bool.Decides.{nat_tests}
use Rattle.dsn_tokens.specs.Gaps.{Lacks}
use Rattle.dsn_tokens.specs.Words.{Piece, bare, quoted, IsPiece, pieces_then, piece_text, ends_word, EndsWord}
use Rattle.dsn_tokens.specs.Scanning.{word_rest}

-- pieces, and what the lexer finds behind them
pub record Worded (q : ℕ) (bytes : List ℕ) (w : List ℕ × ℕ) : Type 0 where
  pub pieces : List Piece
  pub behind : List ℕ
  pub each : AllByRecursion (IsPiece q) pieces
  pub text : bytes ≡ pieces_then q pieces behind
  pub left : ((w ≡ (behind, 0)) × EndsWord behind)
      ⊎ ((inside : List ℕ) × (behind ≡ q ∷ inside) × Lacks q inside × (w ≡ ([], suc (length inside))))

-- the bytes inside a quoted piece
record Inside (q k : ℕ) (bytes : List ℕ) (w : List ℕ × ℕ) : Type 0 where
  inside : List ℕ
  lacks : Lacks q inside
  left : ((bytes ≡ inside) × (w ≡ ([], k + length inside)))
      ⊎ ((more : List ℕ) × (bytes ≡ inside ++ q ∷ more) × Worded q more w)

record Both (q : ℕ) (bytes : List ℕ) : Type 0 where
  word : Worded q bytes (word_rest q 0 bytes)
  quote : (k : ℕ) → Inside q (suc k) bytes (word_rest q (suc k) bytes)

is_byte : (a b : ℕ) → (a == b) ≡ true → a ≡ b
is_byte a b e = grind (arith, nat_tests)

is_other : (a b : ℕ) → (a == b) ≡ false → a ≢ b
is_other a b e = grind (arith, nat_tests)

longer : (k n : ℕ) → suc (suc k) + n ≡ suc k + suc n
longer k n = omega arith

inside_more : (q k b : ℕ) (bytes : List ℕ) (w : List ℕ × ℕ) → b ≢ q → Inside q (suc (suc k)) bytes w
    → Inside q (suc k) (b ∷ bytes) w
inside_more q k b bytes w n s = record {
  inside = b ∷ s.inside;
  lacks = (n, s.lacks);
  left = elim s.left [
    | inl x ↦ inl (ap (λ xs. b ∷ xs) x.0, x.1 ∙ ap (λ n. ([], n)) (longer k (length s.inside)))
    | inr x ↦ inr (x.0, ap (λ xs. b ∷ xs) x.1, x.2)
  ];
}

inside_step : (q k b : ℕ) (bytes : List ℕ) (c : Bool) → (b == q) ≡ c → Both q bytes
    → Inside q (suc k) (b ∷ bytes) (if c then word_rest q 0 bytes else word_rest q (suc (suc k)) bytes)
inside_step q k b bytes true e r =
    record { inside = []; lacks = tt; left = inr (bytes, ap (λ x. x ∷ bytes) (is_byte b q e), r.word) }
inside_step q k b bytes false e r = inside_more q k b bytes _ (is_other b q e) (r.quote (suc k))

begin_quote : (q b : ℕ) (bytes : List ℕ) (w : List ℕ × ℕ) → b ≡ q → Inside q 1 bytes w → Worded q (b ∷ bytes) w
begin_quote q b bytes w e s = elim s.left [
  | inl x ↦ record {
    pieces = [];
    behind = b ∷ bytes;
    each = tt;
    text = refl;
    left = inr (s.inside, rw (e, x.0) refl, s.lacks, x.1 ∙ ap (λ n. ([], n)) (one_more (length s.inside)));
  }
  | inr x ↦ record {
    pieces = quoted s.inside ∷ x.2.pieces;
    behind = x.2.behind;
    each = (s.lacks, x.2.each);
    text = rw (e, x.1, ← x.2.text) refl;
    left = x.2.left;
  }
]
  where
    one_more : (n : ℕ) → 1 + n ≡ suc n
    one_more n = omega arith

word_step : (q b : ℕ) (bytes : List ℕ) (c d : Bool) → (b == q) ≡ c → ends_word b ≡ d → Both q bytes
    → Worded q (b ∷ bytes) (if c then word_rest q 1 bytes else (if d then (b ∷ bytes, 0) else word_rest q 0 bytes))
word_step q b bytes true d e f r = begin_quote q b bytes _ (is_byte b q e) (r.quote 0)
word_step q b bytes false true e f r =
    record { pieces = []; behind = b ∷ bytes; each = tt; text = refl; left = inl (refl, f) }
word_step q b bytes false false e f r = let w = r.word in record {
  pieces = bare b ∷ w.pieces;
  behind = w.behind;
  each = ((is_other b q e, f), w.each);
  text = ap (λ xs. b ∷ xs) w.text;
  left = w.left;
}

both : (q : ℕ) (bytes : List ℕ) → Both q bytes
both q [] = record {
  word = record { pieces = []; behind = []; each = tt; text = refl; left = inl (refl, tt) };
  quote = λ k. record { inside = []; lacks = tt; left = inl (refl, ap (λ n. ([], n)) (plus_none k)) };
}
  where
    plus_none : (k : ℕ) → suc k ≡ suc k + 0
    plus_none k = omega arith
both q (b ∷ bytes) = let r = both q bytes in record {
  word = word_step q b bytes (b == q) (ends_word b) refl refl r;
  quote = λ k. inside_step q k b bytes (b == q) refl r;
}

pub worded : (q : ℕ) (bytes : List ℕ) → Worded q bytes (word_rest q 0 bytes)
worded q bytes = (both q bytes).word

-- pieces and the rest are the pieces' bytes and the rest
pub pieces_split : (q : ℕ) (pieces : List Piece) (rest : List ℕ) → pieces_then q pieces rest ≡ pieces_then q pieces []
    ++ rest
pieces_split q [] rest = refl
pieces_split q (bare b ∷ pieces) rest = ap (λ xs. b ∷ xs) (pieces_split q pieces rest)
pieces_split q (quoted inside ∷ pieces) rest =
    ap (λ xs. q ∷ (inside ++ q ∷ xs)) (pieces_split q pieces rest)
    ∙ ap (λ xs. q ∷ xs) (sym (append_assoc inside (q ∷ pieces_then q pieces []) rest))

differs : (b q : ℕ) → b ≢ q → (b == q) ≡ false
differs b q n = grind (arith, nat_tests)

same : (q : ℕ) → (q == q) ≡ true
same q = grind (arith, nat_tests)

keep : ℕ → List ℕ → List ℕ
keep q bytes = filter (λ b. not (b == q)) bytes

keep_all : (q : ℕ) (bytes : List ℕ) → Lacks q bytes → keep q bytes ≡ bytes
unfolding keep
keep_all q [] l = refl
keep_all q (b ∷ bytes) l = rw (differs b q l.0) (ap (λ xs. b ∷ xs) (keep_all q bytes l.1))

-- the pieces' bytes but for the quoting bytes are their texts
pub pieces_text : (q : ℕ) (pieces : List Piece) → AllByRecursion (IsPiece q) pieces
    → filter (λ b. not (b == q)) (pieces_then q pieces []) ≡ flat_map piece_text pieces
unfolding keep
pieces_text q [] each = refl
pieces_text q (bare b ∷ pieces) each = rw (differs b q each.0.0) (ap (λ xs. b ∷ xs) (pieces_text q pieces each.1))
pieces_text q (quoted inside ∷ pieces) each = rw (same q) (
    filter-append (λ b. not (b == q)) inside (q ∷ pieces_then q pieces [])
    ∙ ap (λ xs. xs ++ keep q (q ∷ pieces_then q pieces [])) (keep_all q inside each.0)
    ∙ ap (λ xs. inside ++ xs) (rw (same q) (pieces_text q pieces each.1)))

-- a front of so many bytes, from what is left behind it
pub front_is : (n : ℕ) (bytes front behind : List ℕ) → n ≤ length bytes → bytes ≡ front ++ behind
    → drop n bytes ≡ behind → take n bytes ≡ front
front_is n bytes front behind within e d = rw (e, n_is) (take-append_seam front behind)
  where
    n_is : n ≡ length front
    n_is = omega (arith, ap length e, ap length d, length-append front behind, length-drop n bytes)

-- bytes without a quoting byte are their text
pub unquoted_same : (q : ℕ) (bytes : List ℕ) → list_any (λ b. b == q) bytes ≡ false → filter (λ b. not (b == q)) bytes
    ≡ bytes
unquoted_same q [] e = refl
unquoted_same q (b ∷ bytes) e = let n = both_false (b == q) _ e in
    rw n.0 (ap (λ xs. b ∷ xs) (unquoted_same q bytes n.1))
  where
    both_false : (x y : Bool) → (x || y) ≡ false → (x ≡ false) × (y ≡ false)
    both_false true y h = absurd (false≢true (sym h))
    both_false false y h = (refl, h)
