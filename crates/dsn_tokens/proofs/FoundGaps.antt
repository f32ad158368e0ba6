-- What stands in front of some bytes: a gap, and then a token's bytes or the end of the text.
use Rattle.std.proofs.Common.{◌⊎◌, ◌≡◌, ◌≢◌, ◌==◌, ◌&&◌, ap, ℕ, Bool, true, false, List, [], ◌∷◌, ◌++◌, arith, refl}
use Rattle.std.proofs.Common.{inl, inr, if◌then◌else◌}
use Rattle.std.proofs.lemmas.Bool.Decides.{nat_tests}
use Rattle.dsn_tokens.specs.Gaps.{is_blank, Lacks, Space, blank, skipped, spaces_then, IsGap, behind_space, behind_gap}
use Rattle.dsn_tokens.specs.Gaps.{StartsToken, EndsText}
use Rattle.dsn_tokens.specs.Scanning.{gap_rest, is_fresh}
use Rattle.dsn_tokens.specs.declared.context.Line.{Line}
use Rattle.dsn_tokens.specs.declared.context.Line.TheVariants.{Fresh, Begun, Quoting}

-- a gap, and what the lexer finds behind it
pub record Gapped (line : Line) (bytes rest : List ℕ) : Type 0 where
  pub spaces : List Space
  pub behind : List ℕ
  pub is_gap : IsGap line spaces
  pub text : bytes ≡ spaces_then spaces behind
  pub left : ((rest ≡ behind) × StartsToken (behind_gap line spaces) behind)
      ⊎ ((rest ≡ []) × EndsText (behind_gap line spaces) behind)

-- the bytes inside a skipped line
record Skipping (bytes rest : List ℕ) : Type 0 where
  inside : List ℕ
  lacks : Lacks 10 inside
  left : ((bytes ≡ inside) × (rest ≡ [])) ⊎ ((more : List ℕ) × (bytes ≡ inside ++ 10 ∷ more) × Gapped Fresh more rest)

record Both (bytes : List ℕ) : Type 0 where
  gap : (line : Line) → Gapped line bytes (gap_rest false line bytes)
  skip : Skipping bytes (gap_rest true Fresh bytes)

is_byte : (a b : ℕ) → (a == b) ≡ true → a ≡ b
is_byte a b e = grind (arith, nat_tests)

is_other : (a b : ℕ) → (a == b) ≡ false → a ≢ b
is_other a b e = grind (arith, nat_tests)

skip_more : (b : ℕ) (bytes rest : List ℕ) → b ≢ 10 → Skipping bytes rest → Skipping (b ∷ bytes) rest
skip_more b bytes rest n s = record {
  inside = b ∷ s.inside;
  lacks = (n, s.lacks);
  left = elim s.left [ inl x ↦ inl (ap (λ xs. b ∷ xs) x.0, x.1) | inr x ↦ inr (x.0, ap (λ xs. b ∷ xs) x.1, x.2) ];
}

skip_step : (b : ℕ) (bytes : List ℕ) (c : Bool) → (b == 10) ≡ c → Both bytes
    → Skipping (b ∷ bytes) (gap_rest (if c then false else true) Fresh bytes)
skip_step b bytes true e r =
    record { inside = []; lacks = tt; left = inr (bytes, ap (λ x. x ∷ bytes) (is_byte b 10 e), r.gap Fresh) }
skip_step b bytes false e r = skip_more b bytes _ (is_other b 10 e) r.skip

begin_line : (b : ℕ) (bytes rest : List ℕ) → b ≡ 35 → Skipping bytes rest → Gapped Fresh (b ∷ bytes) rest
begin_line b bytes rest e s = elim s.left [
  | inl x ↦ record {
    spaces = [];
    behind = b ∷ bytes;
    is_gap = tt;
    text = refl;
    left = inr (x.1, (refl, e, rw x.0 s.lacks));
  }
  | inr x ↦ record {
    spaces = skipped s.inside ∷ x.2.spaces;
    behind = x.2.behind;
    is_gap = ((refl, s.lacks), x.2.is_gap);
    text = rw (e, x.1, ← x.2.text) refl;
    left = x.2.left;
  }
]

not_fresh : (line : Line) (b : ℕ) → (b == 35 && is_fresh line) ≡ false → line ≡ Fresh → b ≢ 35
not_fresh line b e f = grind (arith, nat_tests)

is_hash : (b : ℕ) → (b == 35 && true) ≡ true → b ≡ 35
is_hash b e = grind (arith, nat_tests)

no_hash : (b : ℕ) → (b == 35 && false) ≡ true → ⊥
no_hash b e = grind (arith, nat_tests)

gap_step : (line : Line) (b : ℕ) (bytes : List ℕ) (c d : Bool) → (b == 35 && is_fresh line) ≡ c → is_blank b ≡ d
    → Both bytes
    → Gapped line (b ∷ bytes) (if c then gap_rest true line bytes
    else (if d then gap_rest false (behind_space line (blank b)) bytes else b ∷ bytes))
gap_step Fresh b bytes true d e f r = begin_line b bytes _ (is_hash b e) r.skip
gap_step Begun b bytes true d e f r = absurd (no_hash b e)
gap_step Quoting b bytes true d e f r = absurd (no_hash b e)
gap_step line b bytes false true e f r = let g = r.gap (behind_space line (blank b)) in record {
  spaces = blank b ∷ g.spaces;
  behind = g.behind;
  is_gap = (f, g.is_gap);
  text = ap (λ xs. b ∷ xs) g.text;
  left = g.left;
}
gap_step line b bytes false false e f r =
    record { spaces = []; behind = b ∷ bytes; is_gap = tt; text = refl; left = inl (refl, (f, not_fresh line b e)) }

both : (bytes : List ℕ) → Both bytes
both [] = record {
  gap = λ line. record { spaces = []; behind = []; is_gap = tt; text = refl; left = inr (refl, tt) };
  skip = record { inside = []; lacks = tt; left = inl (refl, refl) };
}
both (b ∷ bytes) = let r = both bytes in record {
  gap = λ line. gap_step line b bytes (b == 35 && is_fresh line) (is_blank b) refl refl r;
  skip = skip_step b bytes (b == 10) refl r;
}

pub gapped : (line : Line) (bytes : List ℕ) → Gapped line bytes (gap_rest false line bytes)
gapped line bytes = (both bytes).gap line
