-- How many refusals a session's lists have doesn't depend on the places of their words.
use Rattle.std.proofs.Common.{◌≡◌, ◌∙◌, ap, sym, ℕ, ◌+◌, Bool, true, false, cond, List, [], ◌∷◌, ◌++◌, map, length}
use Rattle.std.proofs.Common.{refl, Some, None, length-append, arith}
use Rattle.std.specs.Prelude.{Option, codes, is_some, not}
use Rattle.std.specs.List.{flat_map}
use Rattle.std.specs.Option.{option_map, option_map_or}
use Rattle.pcb_model.specs.declared.design.Design.{Design}
use Rattle.dsn_tree.specs.declared.tree.Tree.{Tree}
use Rattle.dsn_tree.specs.Heads.{child, is_headed}
use Rattle.dsn_units.specs.Reading.{decimal_of}
use Rattle.dsn_structure.specs.Header.{count_by, count_of, unit_of}
use Rattle.dsn_shapes.specs.declared.refusal.Refusal.{Refusal}
use Rattle.dsn_shapes.specs.Refusals.{refused}
use Rattle.dsn_shapes.specs.Lists.{at_of, name_of, place_of, words_of}
use Rattle.dsn_shapes.specs.Names.{first_place}
use Rattle.dsn_wiring.specs.Wires.{paths_in}
use Rattle.session_law.proofs.BackMeasured.{Measure}
use Rattle.ses_reader.specs.Names.{layer_names}
use Rattle.ses_reader.specs.Measures.{coord_at, coord_refusal, extent_at, extent_refusal, measure_in, refused_unless}
use Rattle.ses_reader.specs.Measures.{resolution_refusal, resolution_refusals, word_coord, word_refusal}
use Rattle.ses_reader.specs.Copper.{has_points, is_via_past, layer_place, metal_refusals, number_refusals, numbers_in}
use Rattle.ses_reader.specs.Copper.{only, padstack_at, padstack_place, path_refusals, via_point, via_refusals}
use Rattle.ses_reader.specs.Copper.{wire_refusals}
use Rattle.ses_reader.specs.Session.{copper_in, net_place, net_refusals, network_refusals, nets_in, routes_refusals}
use Rattle.ses_reader.specs.Session.{session_refusals}
use Rattle.session_law.specs.Shape.{unplaced}
use Rattle.session_law.proofs.BackPlaces.{child_kept, is_headed_kept, lists_kept, name_kept}
use Rattle.session_law.proofs.BackValues.{coord_kept, copper_kept, count_kept, extent_kept, measure_kept, numbers_kept}
use Rattle.session_law.proofs.BackValues.{padstack_kept, path_there, place_kept, point_kept, word_coord_kept}

-- ---- counts
-- one where something doesn't hold
unless_count : (b : Bool) (number at : ℕ) → length (refused_unless b number at) ≡ cond b 0 1
unless_count true number at = refl
unless_count false number at = refl

-- so many at either place
unless_kept : (b c : Bool) (number at place : ℕ) → b ≡ c
    → length (refused_unless b number at) ≡ length (refused_unless c number place)
unless_kept b c number at place e = unless_count b number at ∙ ap (λ (t : Bool). cond t 0 1) e
    ∙ sym (unless_count c number place)

-- those of two lists
both_kept : (xs ys us vs : List Refusal) → length xs ≡ length us → length ys ≡ length vs
    → length (xs ++ ys) ≡ length (us ++ vs)
both_kept xs ys us vs e f = length-append xs ys ∙ (λ i. e i + f i) ∙ sym (length-append us vs)

-- those of many trees
each_kept : (f : Tree → List Refusal) → ((t : Tree) → length (f (unplaced t)) ≡ length (f t)) → (ts : List Tree)
    → length (flat_map f (map unplaced ts)) ≡ length (flat_map f ts)
each_kept f h [] = refl
each_kept f h (t ∷ ts) = both_kept (f (unplaced t)) (flat_map f (map unplaced ts)) (f t) (flat_map f ts) (h t)
    (each_kept f h ts)

-- those of a tree that is wanted
wanted_kept : (f : Tree → List Refusal) → ((t : Tree) → length (f (unplaced t)) ≡ length (f t)) → (o : Option Tree)
    (number at place : ℕ) → length (option_map_or f (option_map unplaced o) (refused number at ∷ []))
    ≡ length (option_map_or f o (refused number place ∷ []))
wanted_kept f h None number at place = refl
wanted_kept f h (Some t) number at place = h t

-- those of a choice
choice_kept : (b c : Bool) (xs ys us vs : List Refusal) → b ≡ c → length xs ≡ length us → length ys ≡ length vs
    → length (cond b xs ys) ≡ length (cond c us vs)
choice_kept b c xs ys us vs e f g = ap (λ (t : Bool). length (cond t xs ys)) e ∙ by c
  where
    by : (t : Bool) → length (cond t xs ys) ≡ length (cond t us vs)
    by true = f
    by false = g

module _ (d : Design) (m : Measure) where
  -- ---- paths and wires
  -- those of a number
  word_kept : (w : Tree) → length (word_refusal m (unplaced w)) ≡ length (word_refusal m w)
  word_kept w = unless_kept (is_some (word_coord m (unplaced w))) (is_some (word_coord m w)) 2 (at_of (unplaced w))
      (at_of w) (ap is_some (word_coord_kept d m w))

  -- those of a path's numbers
  numbers_counted : (t : Tree) → length (number_refusals m (unplaced t)) ≡ length (number_refusals m t)
  numbers_counted t = both_kept (extent_refusal m (unplaced t) 2)
      (flat_map (word_refusal m) (numbers_in (unplaced t)))
      (extent_refusal m t 2) (flat_map (word_refusal m) (numbers_in t))
      (unless_kept (is_some (extent_at m (unplaced t) 2)) (is_some (extent_at m t 2)) 2 (place_of (unplaced t) 2)
      (place_of t 2) (ap is_some (extent_kept d m t 2)))
      (ap (λ (ts : List Tree). length (flat_map (word_refusal m) ts)) (numbers_kept d m t)
      ∙ each_kept (word_refusal m) word_kept (numbers_in t))

  -- those of a path
  path_counted : (t : Tree) → length (path_refusals d m (unplaced t)) ≡ length (path_refusals d m t)
  unfolding path_refusals
  path_counted t = both_kept (refused_unless (is_some (layer_place d (unplaced t))) 4 (place_of (unplaced t) 1))
      (cond (has_points (length (words_of (unplaced t)))) (number_refusals m (unplaced t))
      (refused 6 (at_of (unplaced t)) ∷ []))
      (refused_unless (is_some (layer_place d t)) 4 (place_of t 1))
      (cond (has_points (length (words_of t))) (number_refusals m t) (refused 6 (at_of t) ∷ []))
      (unless_kept (is_some (layer_place d (unplaced t))) (is_some (layer_place d t)) 4 (place_of (unplaced t) 1)
      (place_of t 1) (ap (λ (name : List ℕ). is_some (first_place name (layer_names d))) (name_kept t 1)))
      (choice_kept (has_points (length (words_of (unplaced t)))) (has_points (length (words_of t)))
      (number_refusals m (unplaced t)) (refused 6 (at_of (unplaced t)) ∷ []) (number_refusals m t)
      (refused 6 (at_of t) ∷ []) (ap has_points (count_kept d m t)) (numbers_counted t) refl)

  -- those of a wire
  wire_counted : (t : Tree) → length (wire_refusals d m (unplaced t)) ≡ length (wire_refusals d m t)
  unfolding wire_refusals
  wire_counted t =
      ap (λ (o : Option Tree). length (option_map_or (path_refusals d m) o (refused 6 (at_of (unplaced t)) ∷ [])))
      (path_there d m t)
      ∙ wanted_kept (path_refusals d m) path_counted (only (paths_in t)) 6 (at_of (unplaced t)) (at_of t)

  -- ---- vias
  -- those of one of its numbers
  coord_counted : (t : Tree) (i : ℕ) → length (coord_refusal m (unplaced t) i) ≡ length (coord_refusal m t i)
  coord_counted t i = unless_kept (is_some (coord_at m (unplaced t) i)) (is_some (coord_at m t i)) 2
      (place_of (unplaced t) i) (place_of t i) (ap is_some (coord_kept d m t i))

  -- those of its vertices
  abbrev past : Tree → List Refusal
  past t = refused_unless (not (is_via_past (padstack_at d (padstack_place d t)) (via_point m t))) 2 (at_of t)

  -- as many
  past_counted : (t : Tree) → length (past (unplaced t)) ≡ length (past t)
  past_counted t = unless_kept
      (not (is_via_past (padstack_at d (padstack_place d (unplaced t))) (via_point m (unplaced t))))
      (not (is_via_past (padstack_at d (padstack_place d t)) (via_point m t))) 2 (at_of (unplaced t)) (at_of t)
      (λ i. not (is_via_past (padstack_at d (padstack_kept d m t i)) (point_kept d m t i)))

  -- those of a via
  via_counted : (t : Tree) → length (via_refusals d m (unplaced t)) ≡ length (via_refusals d m t)
  unfolding via_refusals
  via_counted t =
      let u = unplaced t in
      both_kept (refused_unless (is_some (padstack_place d u)) 5 (place_of u 1))
      (coord_refusal m u 2 ++ (coord_refusal m u 3 ++ past u))
      (refused_unless (is_some (padstack_place d t)) 5 (place_of t 1))
      (coord_refusal m t 2 ++ (coord_refusal m t 3 ++ past t))
      (unless_kept (is_some (padstack_place d u)) (is_some (padstack_place d t)) 5 (place_of u 1) (place_of t 1)
      (ap is_some (padstack_kept d m t)))
      (both_kept (coord_refusal m u 2) (coord_refusal m u 3 ++ past u) (coord_refusal m t 2)
      (coord_refusal m t 3 ++ past t) (coord_counted t 2)
      (both_kept (coord_refusal m u 3) (past u) (coord_refusal m t 3) (past t) (coord_counted t 3) (past_counted t)))

  -- ---- nets
  -- those of a wire or via
  metal_counted : (t : Tree) → length (metal_refusals d m (unplaced t)) ≡ length (metal_refusals d m t)
  unfolding metal_refusals
  metal_counted t = choice_kept (is_headed (codes "via") (unplaced t)) (is_headed (codes "via") t)
      (via_refusals d m (unplaced t)) (wire_refusals d m (unplaced t)) (via_refusals d m t) (wire_refusals d m t)
      (is_headed_kept (codes "via") t) (via_counted t) (wire_counted t)

  -- those of a net
  net_counted : (t : Tree) → length (net_refusals d m (unplaced t)) ≡ length (net_refusals d m t)
  unfolding net_refusals
  net_counted t =
      let u = unplaced t in
      both_kept (refused_unless (is_some (net_place d u)) 3 (place_of u 1))
      (flat_map (metal_refusals d m) (copper_in u))
      (refused_unless (is_some (net_place d t)) 3 (place_of t 1)) (flat_map (metal_refusals d m) (copper_in t))
      (unless_kept (is_some (net_place d u)) (is_some (net_place d t)) 3 (place_of u 1) (place_of t 1)
      (ap is_some (place_kept d m t)))
      (ap (λ (ts : List Tree). length (flat_map (metal_refusals d m) ts)) (copper_kept d m t)
      ∙ each_kept (metal_refusals d m) metal_counted (copper_in t))

  -- those of a network
  network_counted : (t : Tree) → length (network_refusals d m (unplaced t)) ≡ length (network_refusals d m t)
  network_counted t =
      ap (λ (ts : List Tree). length (flat_map (net_refusals d m) ts)) (lists_kept (codes "net" ∷ []) t)
      ∙ each_kept (net_refusals d m) net_counted (nets_in t)

-- ---- the resolution
-- those of a resolution
resolution_counted : (t : Tree) → length (resolution_refusal (unplaced t)) ≡ length (resolution_refusal t)
resolution_counted t =
    let u = unplaced t in
    both_kept (refused_unless (is_some (unit_of (name_of u 1))) 2 (place_of u 1))
    (refused_unless (is_some (count_of u)) 2 (place_of u 2))
    (refused_unless (is_some (unit_of (name_of t 1))) 2 (place_of t 1))
    (refused_unless (is_some (count_of t)) 2 (place_of t 2))
    (unless_kept (is_some (unit_of (name_of u 1))) (is_some (unit_of (name_of t 1))) 2 (place_of u 1) (place_of t 1)
    (ap (λ (name : List ℕ). is_some (unit_of name)) (name_kept t 1)))
    (unless_kept (is_some (count_of u)) (is_some (count_of t)) 2 (place_of u 2) (place_of t 2)
    (ap (λ (name : List ℕ). is_some (count_by (decimal_of name))) (name_kept t 2)))

-- those of the resolution of routes
resolutions_counted : (t : Tree) → length (resolution_refusals (unplaced t)) ≡ length (resolution_refusals t)
unfolding resolution_refusals
resolutions_counted t =
    ap (λ (o : Option Tree). length (option_map_or resolution_refusal o (refused 1 (at_of (unplaced t)) ∷ [])))
    (child_kept t (codes "resolution"))
    ∙ wanted_kept resolution_refusal resolution_counted (child t (codes "resolution")) 1 (at_of (unplaced t)) (at_of t)

-- ---- the whole
module _ (d : Design) where
  -- those of routes
  routes_counted : (t : Tree) → length (routes_refusals d (unplaced t)) ≡ length (routes_refusals d t)
  unfolding routes_refusals
  routes_counted t =
      let u = unplaced t in
      let refusals = λ (v : Tree) (o : Option Tree). option_map_or (network_refusals d (measure_in v)) o
      (refused 1 (at_of v) ∷ []) in
      both_kept (resolution_refusals u) (refusals u (child u (codes "network_out")))
      (resolution_refusals t) (refusals t (child t (codes "network_out"))) (resolutions_counted t)
      ((λ i. length (option_map_or (network_refusals d (measure_kept t i)) (child_kept t (codes "network_out") i)
      (refused 1 (at_of u) ∷ [])))
      ∙ wanted_kept (network_refusals d (measure_in t)) (network_counted d (measure_in t))
      (child t (codes "network_out")) 1 (at_of u) (at_of t))

  -- those of a session
  session_counted : (t : Tree) → length (session_refusals d (unplaced t)) ≡ length (session_refusals d t)
  unfolding session_refusals
  session_counted t =
      let u = unplaced t in
      both_kept (refused_unless (is_headed (codes "session") u) 1 (at_of u))
      (option_map_or (routes_refusals d) (child u (codes "routes")) (refused 1 (at_of u) ∷ []))
      (refused_unless (is_headed (codes "session") t) 1 (at_of t))
      (option_map_or (routes_refusals d) (child t (codes "routes")) (refused 1 (at_of t) ∷ []))
      (unless_kept (is_headed (codes "session") u) (is_headed (codes "session") t) 1 (at_of u) (at_of t)
      (is_headed_kept (codes "session") t))
      (ap (λ (o : Option Tree). length (option_map_or (routes_refusals d) o (refused 1 (at_of u) ∷ [])))
      (child_kept t (codes "routes"))
      ∙ wanted_kept (routes_refusals d) routes_counted (child t (codes "routes")) 1 (at_of u) (at_of t))

  -- a list of no length
  empty : (rs : List Refusal) → length rs ≡ 0 → rs ≡ []
  empty [] e = refl
  empty (r ∷ rs) e = absurd (omega (arith, e))

  -- a session without refusals in the tree without places has none
  pub none_refused : (t : Tree) → session_refusals d (unplaced t) ≡ [] → session_refusals d t ≡ []
  none_refused t e = empty (session_refusals d t) (sym (session_counted t) ∙ ap length e)
