-- Which lines the copper of a net has in a session.
use Rattle.std.proofs.Common.{◌≡◌, ℕ, ◌<◌, Bool, true, false, cond, not, ◌&&◌, List, [], ◌∷◌, ◌++◌, get_or, map, ap}
use Rattle.std.proofs.Common.{sym, ◌∙◌, refl}
use Rattle.std.proofs.Common.{subst}
use Rattle.std.specs.Prelude.{All, filter, flat_map, Option, Some, None, is_some, ◌==◌}
use Rattle.std.specs.Option.{option_map_or}
use Rattle.std.specs.List.{AllZip}
use Rattle.std.proofs.lemmas.List.{append_assoc, append_cancel_left}
use Rattle.std.proofs.lemmas.List.Concat.{flat_map-append}
use Rattle.std.proofs.lemmas.List.Elements.{All-head, All-tail, All-filter, All-map, filter-append, filter_passes}
use Rattle.pcb_model.specs.declared.item.Item.{Item}
use Rattle.pcb_model.specs.declared.item.Metal.{Metal}
use Rattle.pcb_model.specs.declared.item.Metal.TheVariants.{Wire, Via, Pad, Ban}
use Rattle.pcb_model.specs.declared.design.Design.{Design}
use Rattle.pcb_model.specs.Board.{IsRouted}
use Rattle.pcb_model.specs.Sound.{IsCopper, IsItemOf, HasDistinctNames, HasPrintableNames}
use Rattle.ses_writer.specs.Session.{metal_line, is_of_net, is_printed, copper_lines}
use Rattle.session_law.specs.Told.{is_copper, is_routed_of, routed_copper, AreAlike, IsOnScale}
use Rattle.session_law.proofs.ToldMetals.{IsExactMetal}
use Rattle.session_law.proofs.ToldLines.{lines, net_end, copper_alone, lines_tell}

-- ---- which items are printed
-- a routed item of a net is printed
one_test : (omit : Bool) (net : Option ℕ) (k : ℕ) (fixed : Bool) → fixed ≡ false
    → ((is_some net && not (omit && fixed)) && option_map_or (λ n. n == k) net false)
    ≡ (option_map_or (λ n. n == k) net false && not fixed)
one_test omit None k fixed e = refl
one_test omit (Some n) k fixed e = subst (λ (b : Bool). ((true && not (omit && b)) && (n == k)) ≡ ((n == k) && not b))
    (sym e) (by omit (n == k))
  where
    by : (a b : Bool) → (not (a && false) && b) ≡ (b && true)
    by true true = refl
    by true false = refl
    by false true = refl
    by false false = refl

-- a second test after a first
kept_by_both : (q : Item → Bool) (a : Item) (xs : List Item) (b : Bool) → filter q (cond b (a ∷ xs) xs)
    ≡ cond (b && q a) (a ∷ filter q xs) (filter q xs)
kept_by_both q a xs true = refl
kept_by_both q a xs false = refl

-- a net's routed items are all printed
routed_printed : (omit : Bool) (k : ℕ) (items : List Item) → All IsRouted items
    → filter (is_of_net k) (filter (is_printed omit) items) ≡ filter (is_routed_of k) items
routed_printed omit k [] h = refl
routed_printed omit k (a ∷ items) h =
    let rest = routed_printed omit k items (All-tail IsRouted a items h) in
    kept_by_both (is_of_net k) a (filter (is_printed omit) items) (is_printed omit a)
    ∙ ap (λ (b : Bool). cond b (a ∷ filter (is_of_net k) (filter (is_printed omit) items))
    (filter (is_of_net k) (filter (is_printed omit) items)))
    (one_test omit a.net k a.fixed (All-head IsRouted a items h))
    ∙ ap (λ (xs : List Item). cond (is_routed_of k a) (a ∷ xs) xs) rest

-- ---- their lines
module _ (d : Design) (nm : ℕ) where
  -- an item's line
  abbrev item_line : Item → List ℕ
  item_line a = metal_line d nm a.metal

  -- it is that of its metal
  mapped : (items : List Item) → flat_map item_line items ≡ lines d nm (map (λ (a : Item). a.metal) items)
  mapped [] = refl
  mapped (a ∷ items) = ap (λ (xs : List ℕ). metal_line d nm a.metal ++ xs) (mapped items)

  -- a net's routed items have the lines of its routed copper
  routed_lines : (omit : Bool) (k : ℕ) (items : List Item) → All IsRouted items
      → flat_map item_line (filter (is_of_net k) (filter (is_printed omit) items)) ≡ lines d nm (routed_copper k items)
  routed_lines omit k items h = ap (λ (xs : List Item). flat_map item_line xs) (routed_printed omit k items h)
      ∙ mapped (filter (is_routed_of k) items)
      ∙ copper_alone d nm (map (λ (a : Item). a.metal) (filter (is_routed_of k) items))

  -- those of the fixed items stand before those of the routed copper
  net_lines_are : (omit : Bool) (k : ℕ) (fixed items : List Item) → All IsRouted items
      → copper_lines d nm (filter (is_printed omit) (fixed ++ items)) k
      ≡ copper_lines d nm (filter (is_printed omit) fixed) k ++ lines d nm (routed_copper k items)
  net_lines_are omit k fixed items h =
      let f = filter (is_printed omit) fixed in
      let r = filter (is_printed omit) items in
      ap (λ (xs : List Item). flat_map item_line (filter (is_of_net k) xs))
      (filter-append (is_printed omit) fixed items)
      ∙ ap (λ (xs : List Item). flat_map item_line xs) (filter-append (is_of_net k) f r)
      ∙ flat_map-append item_line (filter (is_of_net k) f) (filter (is_of_net k) r)
      ∙ ap (λ (xs : List ℕ). copper_lines d nm f k ++ xs) (routed_lines omit k items h)

-- ---- what they tell
-- what the test takes for copper is copper
copper_from : (m : Metal) → is_copper m ≡ true → IsCopper m
copper_from (Wire l w c) e = tt
copper_from (Via p at) e = tt
copper_from (Pad p) e = absurd (cc)
copper_from (Ban w v) e = absurd (cc)

-- routed items on scale are printed exactly
exact_items : (d : Design) (nm : ℕ) (items : List Item) → All IsRouted items → All (IsItemOf d) items
    → IsOnScale nm items → All (λ (a : Item). IsExactMetal d nm a.metal) items
exact_items d nm items routed fit scale k a within = record {
  fits = (fit k a within).metal_fits;
  in_range = (fit k a within).metal_in_range;
  whole = scale k a within (routed k a within);
}

-- so is the routed copper of a net
exact_copper : (d : Design) (nm k : ℕ) (items : List Item) → All IsRouted items → All (IsItemOf d) items
    → IsOnScale nm items → All (λ (m : Metal). IsCopper m × IsExactMetal d nm m) (routed_copper k items)
exact_copper d nm k items routed fit scale =
    let metals = map (λ (a : Item). a.metal) (filter (is_routed_of k) items) in
    let exact = All-filter is_copper (IsExactMetal d nm) metals
    (All-map (IsExactMetal d nm) (λ (a : Item). a.metal) (filter (is_routed_of k) items)
    (All-filter (is_routed_of k) (λ (a : Item). IsExactMetal d nm a.metal) items
    (exact_items d nm items routed fit scale))) in
    λ i m within. (
      copper_from (get_or (filter is_copper metals) i m) (filter_passes is_copper metals i m within),
      exact i m within,
    )

module _ (d : Design) (nm : ℕ) (some : 0 < nm) (differ : HasDistinctNames d) (plain : HasPrintableNames d) (omit : Bool)
    (fixed first second : List Item) (first_routed : All IsRouted first) (second_routed : All IsRouted second)
    (first_fit : All (IsItemOf d) first) (second_fit : All (IsItemOf d) second) (first_scale : IsOnScale nm first)
    (second_scale : IsOnScale nm second) where
  -- what a session prints of the items
  abbrev printed : List Item → List Item
  printed items = filter (is_printed omit) (fixed ++ items)

  -- a net's lines tell its routed copper
  pub copper_tells : (k : ℕ) (u v : List ℕ) → copper_lines d nm (printed first) k ++ (net_end ++ u)
      ≡ copper_lines d nm (printed second) k ++ (net_end ++ v)
      → AllZip AreAlike (routed_copper k first) (routed_copper k second) × (u ≡ v)
  copper_tells k u v e =
      let f = copper_lines d nm (filter (is_printed omit) fixed) k in
      let a = lines d nm (routed_copper k first) in
      let b = lines d nm (routed_copper k second) in
      lines_tell d nm some differ plain (routed_copper k first) (routed_copper k second) u v
      (exact_copper d nm k first first_routed first_fit first_scale)
      (exact_copper d nm k second second_routed second_fit second_scale)
      (append_cancel_left f (a ++ (net_end ++ u)) (b ++ (net_end ++ v))
      (sym (append_assoc f a (net_end ++ u))
      ∙ ap (λ (xs : List ℕ). xs ++ (net_end ++ u)) (sym (net_lines_are d nm omit k fixed first first_routed)) ∙ e
      ∙ ap (λ (xs : List ℕ). xs ++ (net_end ++ v)) (net_lines_are d nm omit k fixed second second_routed)
      ∙ append_assoc f b (net_end ++ v)))
