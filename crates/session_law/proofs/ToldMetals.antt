-- The lines of a net's wires and vias tell the wires and vias.
use Rattle.std.proofs.Common.{◌≡◌, ◌⊎◌, inl, inr, ℕ, ◌<◌, ◌^◌, ℤ, pos, true, List, [], ◌∷◌, ◌++◌, drop, reverse}
use Rattle.std.proofs.Common.{ap, sym, ◌∙◌, refl, arith}
use Rattle.std.specs.Prelude.{All, codes}
use Rattle.std.specs.List.{list_all}
use Rattle.std.proofs.lemmas.List.{append_assoc, append_cancel_left}
use Rattle.std.proofs.lemmas.List.Elements.{All-head, All-tail, All-nil, All-cons}
use Rattle.std.proofs.lemmas.Bool.{and_parts}
use Rattle.geo_kernel.specs.declared.point.Point.{Point}
use Rattle.geo_kernel.specs.Plane.{IsWithin}
use Rattle.pcb_model.specs.declared.item.Metal.{Metal}
use Rattle.pcb_model.specs.declared.item.Metal.TheVariants.{Wire, Via}
use Rattle.pcb_model.specs.declared.design.Design.{Design}
use Rattle.pcb_model.specs.Bounds.{IsMetalFit}
use Rattle.pcb_model.specs.Scale.{is_whole, is_whole_point}
use Rattle.pcb_model.specs.Sound.{IsMetalInRange, HasDistinctNames, HasPrintableNames}
use Rattle.ses_writer.specs.Words.{is_bare_byte, length_word, point_words, chain_words}
use Rattle.ses_writer.specs.Session.{layer_word, padstack_word, metal_line}
use Rattle.session_law.specs.Told.{is_whole_copper, AreAlike}
use Rattle.told_words.specs.Stops.{Stops}
use Rattle.session_law.proofs.ToldNumbers.{IsExact, length_tells}
use Rattle.session_law.proofs.ToldPoints.{IsExactPoint, point_tells, chain_tells, chain_stops}
use Rattle.session_law.proofs.ToldNames.{layer_tells, padstack_tells}

-- what of a metal a session prints exactly
pub record IsExactMetal (d : Design) (nm : ℕ) (m : Metal) : Type 0 where
  pub fits : IsMetalFit m
  pub in_range : IsMetalInRange d m
  pub whole : is_whole_copper nm m ≡ true

-- five pieces and the rest, taken from the front
five : (a b c d e r : List ℕ) → a ++ b ++ c ++ d ++ e ++ r ≡ a ++ (b ++ (c ++ (d ++ (e ++ r))))
five a b c d e r = simp append_assoc

-- four pieces and the rest
four : (a b c d r : List ℕ) → a ++ b ++ c ++ d ++ r ≡ a ++ (b ++ (c ++ (d ++ r)))
four a b c d r = simp append_assoc

-- a blank needs quotes
blank_needs_quotes : (nm : ℕ) (x : ℤ) (r : List ℕ) → Stops is_bare_byte (length_word nm x ++ r)
unfolding length_word
blank_needs_quotes nm x r = refl

-- so does what a point begins with
point_needs_quotes : (nm : ℕ) (p : Point) (r : List ℕ) → Stops is_bare_byte (point_words nm p ++ r)
unfolding length_word
point_needs_quotes nm p r = refl

-- the points of a chain
pub exact_points : (nm : ℕ) (ps : List Point) → list_all (is_whole_point nm) ps ≡ true → All (IsWithin (2 ^ 29)) ps
    → All (IsExactPoint nm) ps
exact_points nm [] w h = All-nil (IsExactPoint nm)
exact_points nm (p ∷ ps) w h =
    let parts = and_parts (is_whole_point nm p) (list_all (is_whole_point nm) ps) w in
    All-cons (IsExactPoint nm) p ps (record { whole = parts.0; within = All-head (IsWithin (2 ^ 29)) p ps h })
    (exact_points nm ps parts.1 (All-tail (IsWithin (2 ^ 29)) p ps h))

module _ (d : Design) (nm : ℕ) (some : 0 < nm) (differ : HasDistinctNames d) (plain : HasPrintableNames d) where
  -- a wire's width is printed exactly
  wire_width : (layer width : ℕ) (chain : List Point) → IsExactMetal d nm (Wire layer width chain)
      → IsExact nm (pos width)
  wire_width layer width chain h = record {
    whole = (and_parts (is_whole nm width) (list_all (is_whole_point nm) chain) h.whole).0;
    small = omega (arith, h.fits.2);
  }

  -- so are its points
  wire_points : (layer width : ℕ) (chain : List Point) → IsExactMetal d nm (Wire layer width chain)
      → All (IsExactPoint nm) chain
  wire_points layer width chain h =
      exact_points nm chain (and_parts (is_whole nm width) (list_all (is_whole_point nm) chain) h.whole).1 h.fits.1

  -- and a via's place
  via_point : (padstack : ℕ) (at : Point) → IsExactMetal d nm (Via padstack at) → IsExactPoint nm at
  via_point padstack at h = record { whole = h.whole; within = h.fits }

  -- a wire's line tells the wire, up to the direction of its chain
  pub wires_tell : (l w : ℕ) (c : List Point) (k v : ℕ) (e : List Point) (r t : List ℕ) → IsExactMetal d nm (Wire l w c)
      → IsExactMetal d nm (Wire k v e) → metal_line d nm (Wire l w c) ++ r ≡ metal_line d nm (Wire k v e) ++ t
      → AreAlike (Wire l w c) (Wire k v e) × (r ≡ t)
  unfolding metal_line
  wires_tell l w c k v e r t p q same =
      let a = codes "        (wire (path " in
      let z = codes "))\n" in
      let at_layer = append_cancel_left a (layer_word d l ++ (length_word nm (pos w) ++ (chain_words nm c ++ (z ++ r))))
      (layer_word d k ++ (length_word nm (pos v) ++ (chain_words nm e ++ (z ++ t))))
      (sym (five a (layer_word d l) (length_word nm (pos w)) (chain_words nm c) z r) ∙ same
      ∙ five a (layer_word d k) (length_word nm (pos v)) (chain_words nm e) z t) in
      let layers = layer_tells d l k (length_word nm (pos w) ++ (chain_words nm c ++ (z ++ r)))
      (length_word nm (pos v) ++ (chain_words nm e ++ (z ++ t))) differ plain p.in_range q.in_range
      (blank_needs_quotes nm (pos w) (chain_words nm c ++ (z ++ r)))
      (blank_needs_quotes nm (pos v) (chain_words nm e ++ (z ++ t))) at_layer in
      let widths = length_tells nm (pos w) (pos v) (chain_words nm c ++ (z ++ r)) (chain_words nm e ++ (z ++ t)) some
      (wire_width l w c p) (wire_width k v e q) (chain_stops nm c (41 ∷ 10 ∷ r)) (chain_stops nm e (41 ∷ 10 ∷ t))
      layers.1 in
      let chains = chain_tells nm c e (41 ∷ 10 ∷ r) (41 ∷ 10 ∷ t) some (wire_points l w c p)
      (wire_points k v e q) widths.1 in
      let width : w ≡ v = (cc (widths.0)) in
      (alike chains.0 layers.0 width, ap (λ (xs : List ℕ). drop 2 xs) chains.1)
    where
      alike : (c ≡ e) ⊎ (c ≡ reverse e) → l ≡ k → w ≡ v → AreAlike (Wire l w c) (Wire k v e)
      alike (inl f) x y = inl (λ i. Wire (x i) (y i) (f i))
      alike (inr f) x y = inr (λ i. Wire (x i) (y i) (f i))

  -- a via's line tells the via
  pub vias_tell : (i : ℕ) (p : Point) (j : ℕ) (q : Point) (r t : List ℕ) → IsExactMetal d nm (Via i p)
      → IsExactMetal d nm (Via j q) → metal_line d nm (Via i p) ++ r ≡ metal_line d nm (Via j q) ++ t
      → AreAlike (Via i p) (Via j q) × (r ≡ t)
  unfolding metal_line
  vias_tell i p j q r t exact other same =
      let a = codes "        (via " in
      let z = codes ")\n" in
      let at_name = append_cancel_left a (padstack_word d i ++ (point_words nm p ++ (z ++ r)))
      (padstack_word d j ++ (point_words nm q ++ (z ++ t)))
      (sym (four a (padstack_word d i) (point_words nm p) z r) ∙ same
      ∙ four a (padstack_word d j) (point_words nm q) z t) in
      let stacks = padstack_tells d i j (point_words nm p ++ (z ++ r)) (point_words nm q ++ (z ++ t)) differ plain
      exact.in_range other.in_range
      (point_needs_quotes nm p (z ++ r)) (point_needs_quotes nm q (z ++ t)) at_name in
      let points = point_tells nm p q (z ++ r) (z ++ t) some (via_point i p exact) (via_point j q other) refl refl
      stacks.1 in
      (inl (λ x. Via (stacks.0 x) (points.0 x)), ap (λ (xs : List ℕ). drop 2 xs) points.1)
