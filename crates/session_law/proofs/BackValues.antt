-- What a session's lists say doesn't depend on the places of their words.
use Rattle.std.proofs.Common.{◌≡◌, ◌∙◌, ap, sym, ℕ, zero, suc, Bool, true, false, cond, List, [], ◌∷◌, ◌++◌, map}
use Rattle.std.proofs.Common.{length, drop}
use Rattle.std.proofs.Common.{refl, Some, None}
use Rattle.std.specs.Prelude.{◌==◌, Option, slice_get, codes, unwrap_or}
use Rattle.std.specs.List.{flat_map}
use Rattle.std.specs.Option.{option_map, option_map_or}
use Rattle.std.proofs.lemmas.Option.{slice_get-map}
use Rattle.std.proofs.lemmas.List.{length-map, map-append}
use Rattle.pcb_model.specs.declared.item.Metal.TheVariants.{Wire, Via}
use Rattle.pcb_model.specs.declared.design.Design.{Design}
use Rattle.pcb_model.specs.Sound.{origin}
use Rattle.dsn_tree.specs.declared.tree.Tree.{Tree}
use Rattle.dsn_tree.specs.Heads.{child}
use Rattle.dsn_units.specs.Reading.{decimal_of}
use Rattle.dsn_structure.specs.Header.{count_by, unit_of}
use Rattle.dsn_shapes.specs.Forms.{points_of}
use Rattle.dsn_shapes.specs.Lists.{nth_word, words_of}
use Rattle.dsn_shapes.specs.Names.{first_place, place_index}
use Rattle.dsn_shapes.specs.Numbers.{number_by}
use Rattle.dsn_wiring.specs.Vias.{point_by}
use Rattle.dsn_wiring.specs.Wires.{no_wire, paths_in}
use Rattle.geo_kernel.specs.declared.unit.Unit.TheVariants.{Um}
use Rattle.session_law.proofs.BackMeasured.{Measure}
use Rattle.ses_reader.specs.declared.item.SesItem.{SesItem}
use Rattle.ses_reader.specs.Names.{layer_names, net_names, padstack_names}
use Rattle.ses_reader.specs.Measures.{coord_at, coord_of, extent_at, extent_of, measure_by, measure_in, plain_measure}
use Rattle.ses_reader.specs.Measures.{word_coord, word_extent}
use Rattle.ses_reader.specs.Copper.{chain_in, has_points, layer_index, metal_of, numbers_in, only, padstack_place}
use Rattle.ses_reader.specs.Copper.{path_metal, via_metal, via_point, wire_metal}
use Rattle.ses_reader.specs.Session.{copper_in, item_of, net_items, net_place, network_items, nets_in, routes_items}
use Rattle.ses_reader.specs.Session.{session_items}
use Rattle.session_law.specs.Shape.{unplaced}
use Rattle.session_law.specs.Back.{told}
use Rattle.session_law.proofs.BackPlaces.{child_kept, is_headed_kept, lists_kept, name_kept, nth_kept, of_word}
use Rattle.session_law.proofs.BackPlaces.{text_kept, words_kept}

-- ---- lists
-- what behind some trees stands
drop_kept : (i : ℕ) (ts : List Tree) → drop i (map unplaced ts) ≡ map unplaced (drop i ts)
drop_kept zero ts = refl
drop_kept (suc i) [] = refl
drop_kept (suc i) (t ∷ ts) = drop_kept i ts

-- values that know no places
pub map_kept : {X : Type 0} (f : Tree → X) → ((t : Tree) → f (unplaced t) ≡ f t) → (ts : List Tree)
    → map f (map unplaced ts) ≡ map f ts
map_kept f h [] = refl
map_kept f h (t ∷ ts) = λ i. h t i ∷ map_kept f h ts i

-- an element by a test
chosen : (b : Bool) (o : Option Tree) → cond b (option_map unplaced o) None ≡ option_map unplaced (cond b o None)
chosen true o = refl
chosen false o = refl

-- the only tree of a list
pub only_kept : (ts : List Tree) → only (map unplaced ts) ≡ option_map unplaced (only ts)
only_kept ts = ap (λ (n : ℕ). cond (n == 1) (slice_get (map unplaced ts) 0) None) (length-map ts unplaced)
    ∙ ap (λ (o : Option Tree). cond (length ts == 1) o None) (slice_get-map unplaced ts 0)
    ∙ chosen (length ts == 1) (slice_get ts 0)

module _ (d : Design) (m : Measure) where
  -- ---- numbers
  -- a word as a coordinate
  pub word_coord_kept : (w : Tree) → word_coord m (unplaced w) ≡ word_coord m w
  word_coord_kept w = ap (λ (text : List ℕ). number_by (coord_of m) (decimal_of text)) (text_kept w)

  -- a word as a width
  word_extent_kept : (w : Tree) → word_extent m (unplaced w) ≡ word_extent m w
  word_extent_kept w = ap (λ (text : List ℕ). number_by (extent_of m) (decimal_of text)) (text_kept w)

  -- word i as a coordinate
  pub coord_kept : (t : Tree) (i : ℕ) → coord_at m (unplaced t) i ≡ coord_at m t i
  coord_kept t i = ap (λ (o : Option Tree). option_map_or (word_coord m) o None) (nth_kept t i)
      ∙ of_word (word_coord m) None word_coord_kept (nth_word t i)

  -- word i as a width
  pub extent_kept : (t : Tree) (i : ℕ) → extent_at m (unplaced t) i ≡ extent_at m t i
  extent_kept t i = ap (λ (o : Option Tree). option_map_or (word_extent m) o None) (nth_kept t i)
      ∙ of_word (word_extent m) None word_extent_kept (nth_word t i)

  -- the words behind a width
  pub numbers_kept : (t : Tree) → numbers_in (unplaced t) ≡ map unplaced (numbers_in t)
  numbers_kept t = ap (drop 3) (words_kept t) ∙ drop_kept 3 (words_of t)

  -- the points of a path
  chain_kept : (t : Tree) → chain_in m (unplaced t) ≡ chain_in m t
  chain_kept t = ap (λ (ts : List Tree). points_of (map (word_coord m) ts)) (numbers_kept t)
      ∙ ap points_of (map_kept (word_coord m) word_coord_kept (numbers_in t))

  -- how many words a list has
  pub count_kept : (t : Tree) → length (words_of (unplaced t)) ≡ length (words_of t)
  count_kept t = ap length (words_kept t) ∙ length-map (words_of t) unplaced

  -- ---- copper
  -- that of a path
  path_kept : (t : Tree) → path_metal d m (unplaced t) ≡ path_metal d m t
  unfolding path_metal
  path_kept t = λ i. cond (has_points (count_kept t i))
      (Wire (layer_index (unwrap_or (first_place (name_kept t 1 i) (layer_names d)) 0))
      (unwrap_or (extent_kept t 2 i) 0) (chain_kept t i)) no_wire

  -- the paths of a wire
  pub path_there : (t : Tree) → only (paths_in (unplaced t)) ≡ option_map unplaced (only (paths_in t))
  path_there t = ap only (lists_kept (codes "path" ∷ []) t) ∙ only_kept (paths_in t)

  -- that of a wire
  wire_kept : (t : Tree) → wire_metal d m (unplaced t) ≡ wire_metal d m t
  unfolding wire_metal
  wire_kept t = ap (λ (o : Option Tree). option_map_or (path_metal d m) o no_wire) (path_there t)
      ∙ of_word (path_metal d m) no_wire path_kept (only (paths_in t))

  -- the point of a via
  pub point_kept : (t : Tree) → via_point m (unplaced t) ≡ via_point m t
  unfolding via_point
  point_kept t = λ i. point_by (coord_kept t 2 i) (coord_kept t 3 i)

  -- its padstack
  pub padstack_kept : (t : Tree) → padstack_place d (unplaced t) ≡ padstack_place d t
  padstack_kept t = ap (λ (name : List ℕ). first_place name (padstack_names d)) (name_kept t 1)

  -- that of a via
  via_kept : (t : Tree) → via_metal d m (unplaced t) ≡ via_metal d m t
  unfolding via_metal
  via_kept t = λ i. Via (place_index (unwrap_or (padstack_kept t i) 0)) (unwrap_or (point_kept t i) origin)

  -- that of a wire or via
  pub metal_kept : (t : Tree) → metal_of d m (unplaced t) ≡ metal_of d m t
  unfolding metal_of
  metal_kept t = λ i. cond (is_headed_kept (codes "via") t i) (via_kept t i) (wire_kept t i)

  -- ---- nets
  -- the copper of a net
  pub copper_kept : (t : Tree) → copper_in (unplaced t) ≡ map unplaced (copper_in t)
  copper_kept t = lists_kept (codes "wire" ∷ codes "via" ∷ []) t

  -- its place in the design
  pub place_kept : (t : Tree) → net_place d (unplaced t) ≡ net_place d t
  place_kept t = ap (λ (name : List ℕ). first_place name (net_names d)) (name_kept t 1)

  -- its items are told
  items_told : (net : ℕ) (ts : List Tree)
      → map told (map (item_of d m net) (map unplaced ts)) ≡ map told (map (item_of d m net) ts)
  items_told net [] = refl
  items_told net (t ∷ ts) = λ i. (net, metal_kept t i) ∷ items_told net ts i

  -- so they are by its list
  net_told : (t : Tree) → map told (net_items d m (unplaced t)) ≡ map told (net_items d m t)
  unfolding net_items
  net_told t = (λ i. map told (map (item_of d m (place_index (unwrap_or (place_kept t i) 0))) (copper_kept t i)))
      ∙ items_told (place_index (unwrap_or (net_place d t) 0)) (copper_in t)

  -- those of all nets
  nets_told : (ts : List Tree) → map told (flat_map (net_items d m) (map unplaced ts))
      ≡ map told (flat_map (net_items d m) ts)
  nets_told [] = refl
  nets_told (t ∷ ts) = map-append told (net_items d m (unplaced t)) (flat_map (net_items d m) (map unplaced ts))
      ∙ (λ i. net_told t i ++ nets_told ts i)
      ∙ sym (map-append told (net_items d m t) (flat_map (net_items d m) ts))

  -- those of a network
  network_told : (t : Tree) → map told (network_items d m (unplaced t)) ≡ map told (network_items d m t)
  network_told t = ap (λ (ts : List Tree). map told (flat_map (net_items d m) ts)) (lists_kept (codes "net" ∷ []) t)
      ∙ nets_told (nets_in t)

-- ---- the measure
-- the measure of a resolution
measure_by_kept : (t : Tree) → measure_by (unplaced t) ≡ measure_by t
measure_by_kept t = λ i. record {
  unit = unwrap_or (unit_of (name_kept t 1 i)) Um;
  per = unwrap_or (count_by (decimal_of (name_kept t 2 i))) 1;
}

-- the measure of routes
pub measure_kept : (t : Tree) → measure_in (unplaced t) ≡ measure_in t
unfolding measure_in
measure_kept t = ap (λ (o : Option Tree). option_map_or measure_by o plain_measure) (child_kept t (codes "resolution"))
    ∙ of_word measure_by plain_measure measure_by_kept (child t (codes "resolution"))

-- ---- the whole
-- what is told of lists that may be missing
told_of : (f : Tree → List SesItem) → ((t : Tree) → map told (f (unplaced t)) ≡ map told (f t)) → (o : Option Tree)
    → map told (option_map_or f (option_map unplaced o) []) ≡ map told (option_map_or f o [])
told_of f h None = refl
told_of f h (Some t) = h t

module _ (d : Design) where
  -- the items of routes
  routes_told : (t : Tree) → map told (routes_items d (unplaced t)) ≡ map told (routes_items d t)
  unfolding routes_items
  routes_told t =
      (λ i. map told (option_map_or (network_items d (measure_kept t i)) (child_kept t (codes "network_out") i) []))
      ∙ told_of (network_items d (measure_in t)) (network_told d (measure_in t)) (child t (codes "network_out"))

  -- the items of a session
  pub session_told : (t : Tree) → map told (session_items d (unplaced t)) ≡ map told (session_items d t)
  unfolding session_items
  session_told t = ap (λ (o : Option Tree). map told (option_map_or (routes_items d) o []))
      (child_kept t (codes "routes"))
      ∙ told_of (routes_items d) routes_told (child t (codes "routes"))
