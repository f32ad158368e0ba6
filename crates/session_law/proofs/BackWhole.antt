-- The tree of a written session reads as its printed wiring, without a refusal.
use Rattle.std.proofs.Common.{◌≡◌, ◌∙◌, ap, sym, ℕ, ◌<◌, ◌≤◌, Bool, true, false, List, [], ◌∷◌, map, refl, Some, lit<}
use Rattle.std.specs.Prelude.{All, Option, codes, decimal, filter, is_some, unwrap_or}
use Rattle.std.specs.Option.{option_map_or}
use Rattle.std.specs.Str.{str_eq_ignore_ascii_case}
use Rattle.std.proofs.lemmas.Bool.{ltb-true}
use Rattle.geo_kernel.specs.declared.unit.Unit.{Unit as LengthUnit}
use Rattle.geo_kernel.specs.declared.unit.Unit.TheVariants.{Inch, Mil, Cm, Mm, Um}
use Rattle.pcb_model.specs.declared.item.Item.{Item}
use Rattle.pcb_model.specs.declared.design.Design.{Design}
use Rattle.pcb_model.specs.declared.design.SesScale.{SesScale}
use Rattle.pcb_model.specs.Scale.{keeps_resolution, scale_of}
use Rattle.pcb_model.specs.Sound.{HasDistinctNames, HasFewParts}
use Rattle.dsn_tree.specs.declared.tree.Tree.{Tree}
use Rattle.dsn_tree.specs.Heads.{child, is_headed}
use Rattle.dsn_units.specs.Reading.{decimal_of}
use Rattle.dsn_structure.specs.Header.{count_by, count_of, unit_of}
use Rattle.dsn_shapes.specs.Refusals.{refused}
use Rattle.dsn_shapes.specs.Lists.{at_of, name_of, place_of}
use Rattle.ses_writer.specs.Session.{is_printed, unit_word}
use Rattle.session_law.proofs.ToldScales.{is_kept, of_scale, scale_if, some_if}
use Rattle.session_law.proofs.BackMeasured.{Measure}
use Rattle.ses_reader.specs.Measures.{measure_by, measure_in, plain_measure, refused_unless, resolution_refusal}
use Rattle.ses_reader.specs.Measures.{resolution_refusals}
use Rattle.ses_reader.specs.Session.{network_items, network_refusals, routes_items, routes_refusals, session_items}
use Rattle.ses_reader.specs.Session.{session_refusals}
use Rattle.session_law.specs.Shape.{base_tree, group_tree, library_tree, network_tree, parser_tree, placement_tree}
use Rattle.session_law.specs.Shape.{resolution_tree, routes_tree, session_tree, unplaced, word_tree}
use Rattle.session_law.specs.Back.{printed_wiring, told}
use Rattle.session_law.proofs.BackNumbers.{IsScaled, count_back}
use Rattle.session_law.proofs.BackGroups.{child_is, found, headed, name_is, not_here, not_word, second_is}
use Rattle.session_law.proofs.BackMetals.{both_none, unless_none}
use Rattle.session_law.proofs.BackNets.{IsReadBack, network_none, network_told}
use Rattle.session_law.proofs.BackRefusals.{none_refused}
use Rattle.session_law.proofs.BackValues.{session_told}

-- ---- the scale
-- the measure of a scale
abbrev pub measure_of : SesScale → Measure
measure_of s = record { unit = s.unit; per = s.per }

-- the scale of a session is one of nm
scaled_if : (d : Design) → d.per ≤ 1000000 → (b : Bool) → keeps_resolution d ≡ b
    → IsScaled (measure_of (scale_if b d)) (scale_if b d).nm
scaled_if d few true e =
    let kept = is_kept d e in
    record {
      some_per = ltb-true 0 d.per kept.some_per;
      few_per = few;
      some_nm = some_if d true e;
      unit_is = sym kept.unit_is;
    }
scaled_if d few false e = record { some_per = lit< tt; few_per = lit< tt; some_nm = lit< tt; unit_is = refl }

-- of each design
pub scaled_of : (d : Design) → d.per ≤ 1000000 → IsScaled (measure_of (scale_of d)) (scale_of d).nm
scaled_of d few = of_scale (λ (s : SesScale). IsScaled (measure_of s) s.nm) d (scaled_if d few)

-- ---- the resolution
-- a printed unit is read
unit_back : (u : LengthUnit) → unit_of (unit_word u) ≡ Some u
unit_back Inch = refl
unit_back Mil = refl
unit_back Cm = refl
unit_back Mm = refl
unit_back Um = refl

-- ---- heads
-- that of a resolution
resolution_headed : (head : List ℕ) (s : SesScale)
    → is_headed head (resolution_tree s) ≡ str_eq_ignore_ascii_case (codes "resolution") head
unfolding resolution_tree
resolution_headed head s = headed head (codes "resolution") _

-- that of a parser
parser_headed : (head : List ℕ) (d : Design)
    → is_headed head (parser_tree d) ≡ str_eq_ignore_ascii_case (codes "parser") head
unfolding parser_tree
parser_headed head d = headed head (codes "parser") _

-- that of a library
library_headed : (head : List ℕ) (d : Design) (nm : ℕ) (items : List Item)
    → is_headed head (library_tree d nm items) ≡ str_eq_ignore_ascii_case (codes "library_out") head
unfolding library_tree
library_headed head d nm items = headed head (codes "library_out") _

-- that of a network
network_headed : (head : List ℕ) (d : Design) (nm : ℕ) (items : List Item)
    → is_headed head (network_tree d nm items) ≡ str_eq_ignore_ascii_case (codes "network_out") head
unfolding network_tree
network_headed head d nm items = headed head (codes "network_out") _

-- that of a base design
base_headed : (head : List ℕ) (d : Design)
    → is_headed head (base_tree d) ≡ str_eq_ignore_ascii_case (codes "base_design") head
unfolding base_tree
base_headed head d = headed head (codes "base_design") _

-- that of a placement
placement_headed : (head : List ℕ) (d : Design) (s : SesScale)
    → is_headed head (placement_tree d s) ≡ str_eq_ignore_ascii_case (codes "placement") head
unfolding placement_tree
placement_headed head d s = headed head (codes "placement") _

-- that of routes
routes_headed : (head : List ℕ) (d : Design) (s : SesScale) (items : List Item)
    → is_headed head (routes_tree d s items) ≡ str_eq_ignore_ascii_case (codes "routes") head
unfolding routes_tree
routes_headed head d s items = headed head (codes "routes") _

module _ (s : SesScale) (some : 0 < s.per) (few : s.per ≤ 1000000) where
  -- the unit of a printed resolution
  unit_read : unit_of (name_of (resolution_tree s) 1) ≡ Some s.unit
  unfolding resolution_tree
  unit_read = ap unit_of (name_is (codes "resolution") (unit_word s.unit) (word_tree (decimal s.per) ∷ []))
      ∙ unit_back s.unit

  -- its count
  count_read : count_of (resolution_tree s) ≡ Some s.per
  unfolding resolution_tree
  count_read = ap (λ (name : List ℕ). count_by (decimal_of name))
      (second_is (codes "resolution") (unit_word s.unit) (decimal s.per) []) ∙ count_back s.per some few

  -- its measure
  measure_read : measure_by (resolution_tree s) ≡ measure_of s
  measure_read = λ i. record { unit = unwrap_or (unit_read i) Um; per = unwrap_or (count_read i) 1 }

  -- without refusals
  resolution_none : resolution_refusal (resolution_tree s) ≡ []
  resolution_none =
      let t = resolution_tree s in
      both_none (refused_unless (is_some (unit_of (name_of t 1))) 2 (place_of t 1))
      (refused_unless (is_some (count_of t)) 2 (place_of t 2))
      (unless_none (is_some (unit_of (name_of t 1))) 2 (place_of t 1) (ap is_some unit_read))
      (unless_none (is_some (count_of t)) 2 (place_of t 2) (ap is_some count_read))

  -- ---- the routes
  module _ (d : Design) (items : List Item) where
    -- the resolution of the routes
    resolution_there : child (routes_tree d s items) (codes "resolution") ≡ Some (resolution_tree s)
    unfolding routes_tree
    resolution_there =
        let behind = parser_tree d ∷ library_tree d s.nm items ∷ network_tree d s.nm items ∷ [] in
        child_is (codes "resolution") (codes "routes") (resolution_tree s ∷ behind)
        ∙ found (codes "resolution") (resolution_tree s) behind (resolution_headed (codes "resolution") s)

    -- their network
    network_there : child (routes_tree d s items) (codes "network_out") ≡ Some (network_tree d s.nm items)
    unfolding routes_tree
    network_there =
        let head = codes "network_out" in
        let network = network_tree d s.nm items in
        let library = library_tree d s.nm items in
        child_is head (codes "routes") (resolution_tree s ∷ parser_tree d ∷ library ∷ network ∷ [])
        ∙ not_here head (resolution_tree s) (parser_tree d ∷ library ∷ network ∷ []) (resolution_headed head s)
        ∙ not_here head (parser_tree d) (library ∷ network ∷ []) (parser_headed head d)
        ∙ not_here head library (network ∷ []) (library_headed head d s.nm items)
        ∙ found head network [] (network_headed head d s.nm items)

    -- their measure
    measure_there : measure_in (routes_tree d s items) ≡ measure_of s
    unfolding measure_in
    measure_there = ap (λ (o : Option Tree). option_map_or measure_by o plain_measure) resolution_there ∙ measure_read

    -- the resolution isn't refused
    resolutions_none : resolution_refusals (routes_tree d s items) ≡ []
    unfolding resolution_refusals
    resolutions_none = ap (λ (o : Option Tree). option_map_or resolution_refusal o
        (refused 1 (at_of (routes_tree d s items)) ∷ [])) resolution_there ∙ resolution_none

    -- their items are those of the network
    routes_are : routes_items d (routes_tree d s items) ≡ network_items d (measure_of s) (network_tree d s.nm items)
    unfolding routes_items
    routes_are = λ i. option_map_or (network_items d (measure_there i)) (network_there i) []

    -- they have no refusal where the network has none
    routes_none : network_refusals d (measure_of s) (network_tree d s.nm items) ≡ []
        → routes_refusals d (routes_tree d s items) ≡ []
    unfolding routes_refusals
    routes_none none = both_none (resolution_refusals (routes_tree d s items))
        (option_map_or (network_refusals d (measure_in (routes_tree d s items)))
        (child (routes_tree d s items) (codes "network_out")) (refused 1 (at_of (routes_tree d s items)) ∷ []))
        resolutions_none
        ((λ i. option_map_or (network_refusals d (measure_there i)) (network_there i)
        (refused 1 (at_of (routes_tree d s items)) ∷ [])) ∙ none)

-- ---- the session
module _ (d : Design) (items : List Item) (omit_fixed : Bool) where
  -- the printed items
  abbrev printed : List Item
  printed = filter (is_printed omit_fixed) items

  -- the routes
  routes_there : child (session_tree d items omit_fixed) (codes "routes") ≡ Some (routes_tree d (scale_of d) printed)
  unfolding session_tree
  routes_there =
      let head = codes "routes" in
      let placement = placement_tree d (scale_of d) in
      let was_is = group_tree (codes "was_is") [] in
      let routes = routes_tree d (scale_of d) printed in
      child_is head (codes "session") (word_tree d.name ∷ base_tree d ∷ placement ∷ was_is ∷ routes ∷ [])
      ∙ not_word head d.name (base_tree d ∷ placement ∷ was_is ∷ routes ∷ [])
      ∙ not_here head (base_tree d) (placement ∷ was_is ∷ routes ∷ []) (base_headed head d)
      ∙ not_here head placement (was_is ∷ routes ∷ []) (placement_headed head d (scale_of d))
      ∙ not_here head was_is (routes ∷ []) (headed head (codes "was_is") [])
      ∙ found head routes [] (routes_headed head d (scale_of d) printed)

  -- its head
  session_headed : is_headed (codes "session") (session_tree d items omit_fixed) ≡ true
  unfolding session_tree
  session_headed = headed (codes "session") (codes "session") _

  module _ (few_per : d.per ≤ 1000000) (differ : HasDistinctNames d) (few : HasFewParts d)
      (back : All (λ (a : Item). IsReadBack d (measure_of (scale_of d)) (scale_of d).nm (scaled_of d few_per)
      differ few a.metal) printed) where
    -- the tree tells the wiring
    tree_told : map told (session_items d (session_tree d items omit_fixed)) ≡ printed_wiring d items omit_fixed
    unfolding session_items printed_wiring
    tree_told =
        let s = scale_of d in
        ap (λ (o : Option Tree). map told (option_map_or (routes_items d) o [])) routes_there
        ∙ ap (map told) (routes_are s (scaled_of d few_per).some_per (scaled_of d few_per).few_per d printed)
        ∙ network_told d (measure_of s) s.nm (scaled_of d few_per) differ few printed back

    -- without refusals
    tree_none : session_refusals d (session_tree d items omit_fixed) ≡ []
    unfolding session_refusals
    tree_none =
        let s = scale_of d in
        let t = session_tree d items omit_fixed in
        both_none (refused_unless (is_headed (codes "session") t) 1 (at_of t))
        (option_map_or (routes_refusals d) (child t (codes "routes")) (refused 1 (at_of t) ∷ []))
        (unless_none (is_headed (codes "session") t) 1 (at_of t) session_headed)
        (ap (λ (o : Option Tree). option_map_or (routes_refusals d) o (refused 1 (at_of t) ∷ [])) routes_there
        ∙ routes_none s (scaled_of d few_per).some_per (scaled_of d few_per).few_per d printed
        (network_none d (measure_of s) s.nm (scaled_of d few_per) differ few printed back))

    -- each tree that is this one but for places tells the wiring
    pub told_by_tree : (t : Tree) → unplaced t ≡ session_tree d items omit_fixed
        → map told (session_items d t) ≡ printed_wiring d items omit_fixed
    told_by_tree t e = sym (session_told d t) ∙ ap (λ (u : Tree). map told (session_items d u)) e ∙ tree_told

    -- without refusals
    pub none_of_tree : (t : Tree) → unplaced t ≡ session_tree d items omit_fixed → session_refusals d t ≡ []
    none_of_tree t e = none_refused d t (ap (session_refusals d) e ∙ tree_none)
