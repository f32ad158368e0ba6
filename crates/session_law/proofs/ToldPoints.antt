-- Printed points are told by their bytes, up to the direction of a chain.
use Rattle.std.proofs.Common.{◌≡◌, ◌⊎◌, inl, inr, ℕ, ◌-◌, ◌<◌, ◌^◌, Bool, true, false, List, [], ◌∷◌, ◌++◌, length}
use Rattle.std.proofs.Common.{get_or, drop, reverse, ap, sym, ◌∙◌, refl, subst, arith}
use Rattle.std.specs.Prelude.{All, flat_map, unsigned_abs, if◌then◌else◌}
use Rattle.std.specs.Char.{is_ascii_digit}
use Rattle.std.proofs.lemmas.List.{append_assoc, reverse-reverse, get_or-reverse, length-reverse}
use Rattle.std.proofs.lemmas.List.Elements.{All-head, All-tail}
use Rattle.std.proofs.lemmas.Bool.{and_parts}
use Rattle.geo_kernel.specs.declared.point.Point.{Point}
use Rattle.geo_kernel.specs.Plane.{IsWithin}
use Rattle.pcb_model.specs.Scale.{is_whole, is_whole_point}
use Rattle.ses_writer.specs.Words.{point_words, length_word, chain_words, directed, is_lesser}
use Rattle.told_words.specs.Stops.{Stops}
use Rattle.session_law.proofs.ToldNumbers.{IsExact, length_tells, blank_stops}

-- a point that a session prints exactly
pub record IsExactPoint (nm : ℕ) (p : Point) : Type 0 where
  pub whole : is_whole_point nm p ≡ true
  pub within : IsWithin (2 ^ 29) p

-- so is its first coordinate
pub exact_x : (nm : ℕ) (p : Point) → IsExactPoint nm p → IsExact nm p.x
exact_x nm p h = record {
  whole = (and_parts (is_whole nm (unsigned_abs p.x)) (is_whole nm (unsigned_abs p.y)) h.whole).0;
  small = h.within.0;
}

-- and its second
pub exact_y : (nm : ℕ) (p : Point) → IsExactPoint nm p → IsExact nm p.y
exact_y nm p h = record {
  whole = (and_parts (is_whole nm (unsigned_abs p.x)) (is_whole nm (unsigned_abs p.y)) h.whole).1;
  small = h.within.1;
}

-- a printed point tells the point
pub point_tells : (nm : ℕ) (p q : Point) (r t : List ℕ) → 0 < nm → IsExactPoint nm p → IsExactPoint nm q
    → Stops is_ascii_digit r → Stops is_ascii_digit t → point_words nm p ++ r ≡ point_words nm q ++ t
    → (p ≡ q) × (r ≡ t)
point_tells nm p q r t h exact other s u e =
    let first = length_tells nm p.x q.x (length_word nm p.y ++ r) (length_word nm q.y ++ t) h (exact_x nm p exact)
    (exact_x nm q other)
    (blank_stops nm p.y r) (blank_stops nm q.y t)
    (sym (append_assoc (length_word nm p.x) (length_word nm p.y) r) ∙ e
    ∙ append_assoc (length_word nm q.x) (length_word nm q.y) t) in
    let second = length_tells nm p.y q.y r t h (exact_y nm p exact) (exact_y nm q other) s u first.1 in
    ((λ i. record { x = first.0 i; y = second.0 i }), second.1)

-- the words of points, one point after another
abbrev words : ℕ → List Point → List ℕ
words nm ps = flat_map (point_words nm) ps

-- after points, before a bracket
points_stop : (nm : ℕ) (ps : List Point) (r : List ℕ) → Stops is_ascii_digit (words nm ps ++ 41 ∷ r)
unfolding length_word
points_stop nm [] r = refl
points_stop nm (p ∷ ps) r = refl

-- a bracket is no blank
no_point : (nm : ℕ) (p : Point) (ps : List Point) (r t : List ℕ) → words nm (p ∷ ps) ++ 41 ∷ r ≡ 41 ∷ t → ⊥
unfolding length_word
no_point nm p ps r t e = let k : 32 ≡ 41 = ap (λ (xs : List ℕ). get_or xs 0 0) e in omega (arith, k)

-- printed points tell the points
points_tell : (nm : ℕ) (ps qs : List Point) (r t : List ℕ) → 0 < nm → All (IsExactPoint nm) ps
    → All (IsExactPoint nm) qs → words nm ps ++ 41 ∷ r ≡ words nm qs ++ 41 ∷ t → (ps ≡ qs) × (r ≡ t)
points_tell nm [] [] r t h p q e = (refl, ap (λ (xs : List ℕ). drop 1 xs) e)
points_tell nm [] (b ∷ qs) r t h p q e = absurd (no_point nm b qs t r (sym e))
points_tell nm (a ∷ ps) [] r t h p q e = absurd (no_point nm a ps r t e)
points_tell nm (a ∷ ps) (b ∷ qs) r t h p q e =
    let first = point_tells nm a b (words nm ps ++ 41 ∷ r) (words nm qs ++ 41 ∷ t) h (All-head (IsExactPoint nm) a ps p)
    (All-head (IsExactPoint nm) b qs q) (points_stop nm ps r) (points_stop nm qs t)
    (sym (append_assoc (point_words nm a) (words nm ps) (41 ∷ r)) ∙ e
    ∙ append_assoc (point_words nm b) (words nm qs) (41 ∷ t)) in
    let rest = points_tell nm ps qs r t h (All-tail (IsExactPoint nm) a ps p) (All-tail (IsExactPoint nm) b qs q)
    first.1 in
    ((λ i. first.0 i ∷ rest.0 i), rest.1)

-- ---- direction
-- a choice between a chain and its reverse
directed_if : (b : Bool) (chain : List Point) → ((if b then reverse chain else chain) ≡ chain)
    ⊎ ((if b then reverse chain else chain) ≡ reverse chain)
directed_if true chain = inr refl
directed_if false chain = inl refl

-- a directed chain is the chain or its reverse
pub directed_is : (chain : List Point) → (directed chain ≡ chain) ⊎ (directed chain ≡ reverse chain)
directed_is chain = directed_if (is_lesser (reverse chain) chain) chain

-- chains that are directed alike are one chain or one is the other backwards
same_chain : (chain other : List Point) → directed chain ≡ directed other → (chain ≡ other) ⊎ (chain ≡ reverse other)
same_chain chain other e = elim (directed_is chain) [
  | inl a ↦ elim (directed_is other) [
    | inl b ↦ inl (sym a ∙ e ∙ b)
    | inr b ↦ inr (sym a ∙ e ∙ b)
  ]
  | inr a ↦ elim (directed_is other) [
    | inl b ↦ inr (sym (reverse-reverse chain) ∙ ap (λ (xs : List Point). reverse xs) (sym a ∙ e ∙ b))
    | inr b ↦ inl (sym (reverse-reverse chain) ∙ ap (λ (xs : List Point). reverse xs) (sym a ∙ e ∙ b)
        ∙ reverse-reverse other)
  ]
]

-- what holds of all points holds backwards
all_reversed : (P : Point → Type 0) (ps : List Point) → All P ps → All P (reverse ps)
all_reversed P ps h k d within =
    let all = length-reverse ps in
    let less : k < length ps = omega (arith, within, all) in
    subst P (sym (get_or-reverse ps k d less)) (h (length ps - 1 - k) d (omega (arith, less)))

-- and in the printed direction
pub all_directed : (P : Point → Type 0) (ps : List Point) → All P ps → All P (directed ps)
all_directed P ps h = elim (directed_is ps) [
  | inl a ↦ subst (All P) (sym a) h
  | inr a ↦ subst (All P) (sym a) (all_reversed P ps h)
]

-- a printed chain tells the chain, up to its direction
pub chain_tells : (nm : ℕ) (ps qs : List Point) (r t : List ℕ) → 0 < nm → All (IsExactPoint nm) ps
    → All (IsExactPoint nm) qs → chain_words nm ps ++ 41 ∷ r ≡ chain_words nm qs ++ 41 ∷ t
    → ((ps ≡ qs) ⊎ (ps ≡ reverse qs)) × (r ≡ t)
unfolding chain_words
chain_tells nm ps qs r t h p q e =
    let both = points_tell nm (directed ps) (directed qs) r t h (all_directed (IsExactPoint nm) ps p)
    (all_directed (IsExactPoint nm) qs q) e in
    (same_chain ps qs both.0, both.1)

-- no digit stands at the head of what follows a width
pub chain_stops : (nm : ℕ) (ps : List Point) (r : List ℕ) → Stops is_ascii_digit (chain_words nm ps ++ 41 ∷ r)
unfolding chain_words
chain_stops nm ps r = points_stop nm (directed ps) r
