-- Where no refusal stands, a head and a structure are sound.
use Rattle.std.proofs.Common.{◌≡◌, ◌≤◌, ◌+◌, ◌/◌, ◌%◌, ◌++◌, ℕ, Bool, true, false, cond, ◌||◌, List, [], ◌∷◌, Option}
use Rattle.std.proofs.Common.{Some, None, length, map, refl, arith}
use Rattle.std.specs.Prelude.{◌==◌, nat_lt, All, IfSome, codes, is_some, slice_get, unwrap_or}
use Rattle.std.specs.List.{flat_map}
use Rattle.std.specs.Option.{option_map, option_map_or}
use Rattle.std.proofs.lemmas.Bool.{eqb-false, ltb-false, or_parts}
use Rattle.std.proofs.lemmas.List.{length-append, length-map}
use Rattle.pcb_model.specs.Sound.{IsPrintable}
use Rattle.pcb_model.specs.declared.limits.TheConstants.{MOST_ITEMS}
use Rattle.dsn_tree.specs.declared.tree.Tree.{Tree}
use Rattle.dsn_units.specs.declared.number.Decimal.{Decimal}
use Rattle.dsn_units.specs.Length.{bottom, is_below_zero, top, whole_of}
use Rattle.dsn_units.specs.Reading.{decimal_of}
use Rattle.dsn_shapes.specs.declared.refusal.What.TheVariants.{Layers, Items}
use Rattle.dsn_shapes.specs.declared.parts.Layer.{Layer}
use Rattle.dsn_shapes.specs.declared.parts.BanShape.{BanShape}
use Rattle.dsn_shapes.specs.Refusals.{least, refused}
use Rattle.dsn_shapes.specs.Lists.{at_of, name_of, nth_word, place_of, quoted_name, text_of}
use Rattle.dsn_shapes.specs.Names.{names_at, same_names}
use Rattle.dsn_shapes.specs.Rules.{rule_refusals}
use Rattle.dsn_shapes.specs.Shapes.{ban_of, ban_refusals, bound_of, bound_refusals}
use Rattle.dsn_shapes.specs.Fits.{IsBoundShape, IsShapeFit}
use Rattle.dsn_shapes.proofs.Few.{few_kept}
use Rattle.dsn_shapes.proofs.Fits.{back_nil, ban_fit, bound_fit, each_fit, front_nil, name_printable, named_differ}
use Rattle.dsn_shapes.proofs.Fits.{none_left, rules_fit, test_fails, test_holds}
use Rattle.dsn_structure.specs.Header.{count_by, count_of, count_refusal, first_of, head_of, head_refusals, host_in}
use Rattle.dsn_structure.specs.Header.{host_of, host_refusal, hosts, not_pcb, resolution_count, resolution_refusals}
use Rattle.dsn_structure.specs.Header.{resolutions, scale_refusals, some_count, unit_refusal, units}
use Rattle.dsn_structure.specs.Layout.{area_refusals, boundaries, controls, frame_layers, frame_refusals, keepouts}
use Rattle.dsn_structure.specs.Layout.{layer_lists, layer_of, layer_refusals, layers_in, lists_left_out, missing}
use Rattle.dsn_structure.specs.Layout.{no_boundary, padstacks, refusals_of, rule_lists, structure_of}
use Rattle.dsn_structure.specs.Layout.{structure_refusals, structures, value_of, via_lists, via_refusals}
use Rattle.dsn_structure.specs.Sound.{AreLayersSound, IsHeadSound, IsStructureSound}

-- ---- the resolution
abbrev IsCount : ℕ → Type 0
IsCount n = (1 ≤ n) × (n ≤ 1000000)

abbrev IsFew : ℕ → Type 0
IsFew n = n ≤ 1000000

few_if : (a b c : Bool) (n : ℕ) → (c ≡ false → IsFew n) → IfSome (cond (a || (b || c)) None (Some n)) IsFew
few_if true b c n h = tt
few_if false true c n h = tt
few_if false false true n h = tt
few_if false false false n h = h refl

whole_few : (d : Decimal) → IfSome (whole_of d 1000000) IsFew
whole_few d =
    few_if (is_below_zero d) (nat_lt 0 (top d 1 % bottom d)) (nat_lt 1000000 (top d 1 / bottom d)) (top d 1 / bottom d)
    (λ e. ltb-false _ _ e)

count_if : (b : Bool) (n : ℕ) → IsFew n → (b ≡ false → 1 ≤ n) → IfSome (cond b None (Some n)) IsCount
count_if true n h k = tt
count_if false n h k = (k refl, h)

some_from : (n : ℕ) → (n == 0) ≡ false → 1 ≤ n
some_from n e = let h : n ≡ 0 → ⊥ = eqb-false n 0 e in omega arith

some_counted : (o : Option ℕ) → IfSome o IsFew → IfSome (some_count o) IsCount
some_counted None h = tt
some_counted (Some n) h = count_if (n == 0) n h (some_from n)

decimal_counted : (o : Option Decimal) → IfSome (count_by o) IsCount
decimal_counted None = tt
decimal_counted (Some d) = some_counted (whole_of d 1000000) (whole_few d)

count_there : (o : Option ℕ) → IfSome o IsCount → is_some o ≡ true → IsCount (unwrap_or o 0)
count_there None h e = cc
count_there (Some n) h e = h

list_counted : (pcb : Tree) (o : Option Tree) → resolution_refusals pcb o ≡ []
    → IsCount (option_map_or (λ t. unwrap_or (count_of t) 0) o 0)
list_counted pcb None e = cc
list_counted pcb (Some t) e =
    count_there (count_of t) (decimal_counted (decimal_of (name_of t 2)))
    (test_holds (is_some (count_of t)) (refused 9 (place_of t 2)) [] [] (back_nil (unit_refusal t) (count_refusal t) e))

resolution_counted : (pcb : Tree) (ts us : List Tree) → scale_refusals pcb ts us ≡ [] → IsCount (resolution_count ts)
unfolding scale_refusals resolution_count
resolution_counted pcb ts us e = list_counted pcb (first_of ts) (front_nil (resolution_refusals pcb (first_of ts)) _ e)

-- ---- what wrote the design
word_printable : (o : Option Tree) → IsPrintable (option_map_or text_of o [])
    → IfSome (option_map text_of o) IsPrintable
word_printable None h = tt
word_printable (Some w) h = h

list_printable : (o : Option Tree) → option_map_or (λ t. quoted_name t 1) o [] ≡ []
    → IfSome (option_map_or host_in o None) IsPrintable
list_printable None e = tt
list_printable (Some t) e = word_printable (nth_word t 1) (name_printable t 1 e)

host_printable : (ts : List Tree) → host_refusal ts ≡ [] → IfSome (host_of ts) IsPrintable
unfolding host_of host_refusal
host_printable ts e = list_printable (first_of ts) e

-- ---- the head
pub head_sound : (pcb : Tree) → least (head_refusals pcb) ≡ None → IsHeadSound (head_of pcb)
head_sound pcb left =
    let name = back_nil (not_pcb pcb) _ (none_left (head_refusals pcb) left) in
    let scale = back_nil (quoted_name pcb 1) _ name in
    let host_cad = back_nil (scale_refusals pcb (resolutions pcb) (units pcb)) _ scale in
    let host_version = back_nil (host_refusal (hosts (codes "host_cad") pcb)) _ host_cad in
    let per = resolution_counted pcb (resolutions pcb) (units pcb)
    (front_nil (scale_refusals pcb (resolutions pcb) (units pcb)) _ scale) in
    record {
      some_per = per.0;
      few_per = per.1;
      name_printable = name_printable pcb 1 (front_nil (quoted_name pcb 1) _ name);
      host_cad_printable =
          host_printable (hosts (codes "host_cad") pcb)
          (front_nil (host_refusal (hosts (codes "host_cad") pcb)) _ host_cad);
      host_version_printable =
          host_printable (hosts (codes "host_version") pcb)
          (front_nil (host_refusal (hosts (codes "host_version") pcb)) _ host_version);
    }

-- ---- layers
layers_sound : (ts : List Tree) → 1 ≤ length ts → layer_refusals ts ≡ [] → AreLayersSound (layers_in ts)
unfolding layers_in layer_refusals
layers_sound ts some e =
    let l : length (map layer_of ts) ≡ length ts = length-map ts layer_of in
    let rest = back_nil (flat_map (λ t. quoted_name t 1) ts) _ e in
    let few : length ts ≤ 32 = few_kept Layers 0 ts (back_nil (same_names 1 ts) _ rest) in
    record {
      some = omega arith;
      few = omega arith;
      names_differ =
          named_differ layer_of (λ (a : Layer). a.name) 1 (λ t. refl) ts (front_nil (same_names 1 ts) _ rest);
      names_printable =
          each_fit (λ (a : Layer). IsPrintable a.name) (λ t. quoted_name t 1) layer_of (λ t h. name_printable t 1 h) ts
          (front_nil (flat_map (λ t. quoted_name t 1) ts) _ e);
    }

-- ---- parts that are missing
some_layers : (pcb : Tree) (structs ls bounds : List Tree) → missing pcb structs ls bounds ≡ []
    → (1 ≤ length structs) × (1 ≤ length ls)
some_layers pcb structs ls bounds e =
    let parts = or_parts (length structs == 0) (length ls == 0)
    (test_fails (length structs == 0 || length ls == 0) (refused 8 (at_of pcb)) []
    (front_nil _ (no_boundary bounds (slice_get structs 0)) e)) in
    (some_from (length structs) parts.0, some_from (length ls) parts.1)

bound_there : (structs bounds : List Tree) → 1 ≤ length structs → no_boundary bounds (slice_get structs 0) ≡ []
    → 1 ≤ length bounds
bound_there [] bounds some e = absurd (omega arith)
bound_there (t ∷ structs) bounds some e =
    some_from (length bounds) (test_fails (length bounds == 0) (refused 24 (at_of t)) [] e)

some_bounds : (pcb : Tree) (structs ls bounds : List Tree) → missing pcb structs ls bounds ≡ [] → 1 ≤ length bounds
some_bounds pcb structs ls bounds e =
    bound_there structs bounds (some_layers pcb structs ls bounds e).0
    (back_nil (cond (length structs == 0 || length ls == 0) (refused 8 (at_of pcb) ∷ []) [])
    (no_boundary bounds (slice_get structs 0)) e)

frame_sound : (pcb : Tree) (structs bounds : List Tree) → frame_refusals pcb structs bounds ≡ []
    → AreLayersSound (frame_layers structs) × (1 ≤ length bounds)
unfolding frame_layers frame_refusals
frame_sound pcb structs bounds e =
    let ls = layer_lists structs in
    let there = front_nil (missing pcb structs ls bounds) _ e in
    let layers = back_nil (lists_left_out structs ls (controls structs)) (layer_refusals ls)
    (back_nil (missing pcb structs ls bounds) _ e) in
    (layers_sound ls (some_layers pcb structs ls bounds there).1 layers, some_bounds pcb structs ls bounds there)

-- ---- boundaries and keepouts
record AreAreasFit (nm : ℕ) (layers : List Layer) (bounds bans : List Tree) : Type 0 where
  few : length bounds + length bans ≤ MOST_ITEMS
  bounds_fit : All IsBoundShape (map (bound_of nm layers) bounds)
  bans_fit : All (λ (ban : BanShape). IsShapeFit ban.shape) (map (ban_of nm layers) bans)

areas_fit : (nm : ℕ) (layers : List Layer) (bounds bans : List Tree) → area_refusals nm layers bounds bans ≡ []
    → AreAreasFit nm layers bounds bans
unfolding area_refusals
areas_fit nm layers bounds bans e =
    let rest = back_nil (flat_map (bound_refusals nm layers) bounds) _ e in
    let few : length (bounds ++ bans) ≤ MOST_ITEMS =
    few_kept Items 0 (bounds ++ bans) (back_nil (flat_map (ban_refusals nm layers) bans) _ rest) in
    record {
      few = omega (arith, length-append bounds bans);
      bounds_fit =
          each_fit IsBoundShape (bound_refusals nm layers) (bound_of nm layers) (bound_fit nm layers) bounds
          (front_nil (flat_map (bound_refusals nm layers) bounds) _ e);
      bans_fit = each_fit (λ (ban : BanShape). IsShapeFit ban.shape) (ban_refusals nm layers) (ban_of nm layers)
          (ban_fit nm layers) bans (front_nil (flat_map (ban_refusals nm layers) bans) _ rest);
    }

-- ---- the structure
parts_sound : (nm : ℕ) (pcb : Tree) (structs bounds bans rules : List Tree)
    → refusals_of nm pcb structs bounds bans rules ≡ [] → IsStructureSound (value_of nm pcb structs bounds bans rules)
unfolding refusals_of value_of
parts_sound nm pcb structs bounds bans rules e =
    let layers = frame_layers structs in
    let frame = frame_sound pcb structs bounds (front_nil (frame_refusals pcb structs bounds) _ e) in
    let behind = back_nil (frame_refusals pcb structs bounds) _ e in
    let areas = areas_fit nm layers bounds bans (front_nil (area_refusals nm layers bounds bans) _ behind) in
    let rest = back_nil (area_refusals nm layers bounds bans) _ behind in
    let some : 1 ≤ length bounds = frame.1 in
    let few : length bounds + length bans ≤ MOST_ITEMS = areas.few in
    let l : length (map (bound_of nm layers) bounds) ≡ length bounds = length-map bounds (bound_of nm layers) in
    let k : length (map (ban_of nm layers) bans) ≡ length bans = length-map bans (ban_of nm layers) in
    record {
      layers = frame.0;
      some_bounds = omega arith;
      few_items = omega arith;
      bounds_fit = areas.bounds_fit;
      bans_fit = areas.bans_fit;
      rules_fit = rules_fit nm rules
          (back_nil (via_refusals (names_at 1 (padstacks pcb)) (via_lists structs)) (rule_refusals nm rules) rest);
    }

pub structure_sound : (nm : ℕ) (pcb : Tree) → least (structure_refusals nm pcb) ≡ None
    → IsStructureSound (structure_of nm pcb)
unfolding structure_of structure_refusals
structure_sound nm pcb left =
    parts_sound nm pcb (structures pcb) (boundaries (structures pcb)) (keepouts (structures pcb))
    (rule_lists (structures pcb)) (none_left _ left)
