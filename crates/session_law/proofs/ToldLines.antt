-- The lines of a net tell its copper, one metal after another.
use Rattle.std.proofs.Common.{◌≡◌, ℕ, ◌<◌, List, [], ◌∷◌, ◌++◌, get_or, drop, ap, sym, ◌∙◌, refl, arith}
use Rattle.std.specs.Prelude.{All, flat_map, filter, codes}
use Rattle.std.specs.List.{AllZip}
use Rattle.std.proofs.lemmas.List.{append_assoc}
use Rattle.std.proofs.lemmas.List.Elements.{All-head, All-tail}
use Rattle.geo_kernel.specs.declared.point.Point.{Point}
use Rattle.pcb_model.specs.declared.item.Metal.{Metal}
use Rattle.pcb_model.specs.declared.item.Metal.TheVariants.{Wire, Via, Pad, Ban}
use Rattle.pcb_model.specs.declared.design.Design.{Design}
use Rattle.pcb_model.specs.Sound.{IsCopper, HasDistinctNames, HasPrintableNames}
use Rattle.ses_writer.specs.Session.{metal_line}
use Rattle.session_law.specs.Told.{is_copper, AreAlike}
use Rattle.session_law.proofs.ToldMetals.{IsExactMetal, wires_tell, vias_tell}

-- the line behind a net's lines
abbrev pub net_end : List ℕ
net_end = codes "      )\n"

-- the lines of metals
abbrev pub lines : Design → ℕ → List Metal → List ℕ
lines d nm ms = flat_map (metal_line d nm) ms

module _ (d : Design) (nm : ℕ) where
  -- what isn't copper has no line
  pub copper_alone : (ms : List Metal) → lines d nm ms ≡ lines d nm (filter is_copper ms)
  unfolding metal_line
  copper_alone [] = refl
  copper_alone (Wire l w c ∷ ms) = ap (λ (xs : List ℕ). metal_line d nm (Wire l w c) ++ xs) (copper_alone ms)
  copper_alone (Via p at ∷ ms) = ap (λ (xs : List ℕ). metal_line d nm (Via p at) ++ xs) (copper_alone ms)
  copper_alone (Pad p ∷ ms) = copper_alone ms
  copper_alone (Ban w v ∷ ms) = copper_alone ms

  -- a line of copper isn't the one behind the lines
  line_goes_on : (m : Metal) (r t : List ℕ) → IsCopper m → metal_line d nm m ++ r ≡ net_end ++ t → ⊥
  unfolding metal_line
  line_goes_on (Wire l w c) r t h e = let k : 32 ≡ 41 = ap (λ (xs : List ℕ). get_or xs 6 0) e in omega (arith, k)
  line_goes_on (Via p at) r t h e = let k : 32 ≡ 41 = ap (λ (xs : List ℕ). get_or xs 6 0) e in omega (arith, k)
  line_goes_on (Pad p) r t h e = h
  line_goes_on (Ban w v) r t h e = h

  -- a wire's line isn't a via's
  no_wire_is_via : (l w : ℕ) (c : List Point) (p : ℕ) (at : Point) (r t : List ℕ)
      → metal_line d nm (Wire l w c) ++ r ≡ metal_line d nm (Via p at) ++ t → ⊥
  unfolding metal_line
  no_wire_is_via l w c p at r t e = let k : 119 ≡ 118 = ap (λ (xs : List ℕ). get_or xs 9 0) e in omega (arith, k)

module _ (d : Design) (nm : ℕ) (some : 0 < nm) (differ : HasDistinctNames d) (plain : HasPrintableNames d) where
  -- copper that a session prints exactly
  abbrev Exact : Metal → Type 0
  Exact m = IsCopper m × IsExactMetal d nm m

  -- a line tells its metal
  metal_tells : (m n : Metal) (r t : List ℕ) → Exact m → Exact n → metal_line d nm m ++ r ≡ metal_line d nm n ++ t
      → AreAlike m n × (r ≡ t)
  metal_tells (Wire l w c) (Wire k v e) r t p q same = wires_tell d nm some differ plain l w c k v e r t p.1 q.1 same
  metal_tells (Wire l w c) (Via j b) r t p q same = absurd (no_wire_is_via d nm l w c j b r t same)
  metal_tells (Wire l w c) (Pad j) r t p q same = absurd q.0
  metal_tells (Wire l w c) (Ban j b) r t p q same = absurd q.0
  metal_tells (Via i a) (Wire k v e) r t p q same = absurd (no_wire_is_via d nm k v e i a t r (sym same))
  metal_tells (Via i a) (Via j b) r t p q same = vias_tell d nm some differ plain i a j b r t p.1 q.1 same
  metal_tells (Via i a) (Pad j) r t p q same = absurd q.0
  metal_tells (Via i a) (Ban j b) r t p q same = absurd q.0
  metal_tells (Pad i) n r t p q same = absurd p.0
  metal_tells (Ban i a) n r t p q same = absurd p.0

  -- all lines of a net tell its metals, one by one
  pub lines_tell : (ms ns : List Metal) (r t : List ℕ) → All Exact ms → All Exact ns
      → lines d nm ms ++ (net_end ++ r) ≡ lines d nm ns ++ (net_end ++ t) → AllZip AreAlike ms ns × (r ≡ t)
  lines_tell [] [] r t p q e = (tt, ap (λ (xs : List ℕ). drop 8 xs) e)
  lines_tell [] (n ∷ ns) r t p q e = absurd
      (line_goes_on d nm n (lines d nm ns ++ (net_end ++ t)) r (All-head Exact n ns q).0
      (sym (append_assoc (metal_line d nm n) (lines d nm ns) (net_end ++ t)) ∙ sym e))
  lines_tell (m ∷ ms) [] r t p q e = absurd
      (line_goes_on d nm m (lines d nm ms ++ (net_end ++ r)) t (All-head Exact m ms p).0
      (sym (append_assoc (metal_line d nm m) (lines d nm ms) (net_end ++ r)) ∙ e))
  lines_tell (m ∷ ms) (n ∷ ns) r t p q e =
      let first = metal_tells m n (lines d nm ms ++ (net_end ++ r)) (lines d nm ns ++ (net_end ++ t))
      (All-head Exact m ms p) (All-head Exact n ns q)
      (sym (append_assoc (metal_line d nm m) (lines d nm ms) (net_end ++ r)) ∙ e
      ∙ append_assoc (metal_line d nm n) (lines d nm ns) (net_end ++ t)) in
      let rest = lines_tell ms ns r t (All-tail Exact m ms p) (All-tail Exact n ns q) first.1 in
      ((first.0, rest.0), rest.1)
