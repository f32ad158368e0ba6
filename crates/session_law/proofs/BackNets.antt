-- The lists of printed nets read as their copper, without a refusal.
use Rattle.std.proofs.Common.{◌≡◌, ◌∙◌, ap, sym, subst, ℕ, zero, suc, ◌+◌, ◌-◌, ◌^◌, Bool, true, false, cond, List}
use Rattle.std.proofs.Common.{[], ◌∷◌}
use Rattle.std.proofs.Common.{◌++◌, map, length, refl, arith, Some}
use Rattle.std.specs.Prelude.{◌==◌, All, codes, filter, is_some, min, slice_get, unwrap_or, flat_map}
use Rattle.std.specs.List.{enumerate_from, range_with_len}
use Rattle.std.proofs.Math.Dec.{eqb-suc-zero}
use Rattle.std.proofs.lemmas.List.{append-nil, map-append}
use Rattle.std.proofs.lemmas.List.Elements.{All-head, All-tail, All-filter, All-map, filter-append}
use Rattle.std.proofs.lemmas.Grind.{flat_map-append}
use Rattle.std.proofs.lemmas.Option.{slice_get_within}
use Rattle.pcb_model.specs.declared.item.Item.{Item}
use Rattle.pcb_model.specs.declared.item.Metal.{Metal}
use Rattle.pcb_model.specs.declared.item.Metal.TheVariants.{Wire, Via, Pad, Ban}
use Rattle.pcb_model.specs.declared.design.Net.{Net}
use Rattle.pcb_model.specs.declared.design.Design.{Design}
use Rattle.pcb_model.specs.Sound.{HasDistinctNames, HasFewParts}
use Rattle.dsn_tree.specs.declared.tree.Tree.{Tree}
use Rattle.dsn_shapes.specs.Lists.{has_head, place_of}
use Rattle.dsn_shapes.specs.Names.{first_place, place_index}
use Rattle.ses_writer.specs.Words.{directed}
use Rattle.ses_writer.specs.Session.{is_of_net}
use Rattle.session_law.specs.Told.{is_copper}
use Rattle.session_law.proofs.BackMeasured.{Measure}
use Rattle.ses_reader.specs.Names.{net_names}
use Rattle.ses_reader.specs.Measures.{refused_unless}
use Rattle.ses_reader.specs.Copper.{metal_refusals}
use Rattle.ses_reader.specs.Session.{copper_in, item_of, net_items, net_place, net_refusals, network_items}
use Rattle.ses_reader.specs.Session.{network_refusals, nets_in}
use Rattle.session_law.specs.Shape.{copper_trees, group_tree, metal_trees, net_trees, net_with, network_tree}
use Rattle.session_law.specs.Shape.{via_tree, wire_tree, word_tree}
use Rattle.session_law.specs.Back.{net_wiring, printed_metal, told}
use Rattle.session_law.proofs.BackNumbers.{IsScaled}
use Rattle.session_law.proofs.BackGroups.{here, lists_are, name_is, passed}
use Rattle.session_law.proofs.BackNamed.{found_name}
use Rattle.session_law.proofs.BackMetals.{IsVia, IsWire, both_none, unless_none, via_back, via_none}
use Rattle.session_law.proofs.BackMetals.{wire_back, wire_none}

-- ---- lists
-- the copper of items is that of their metals
of_metals : (d : Design) (nm : ℕ) (items : List Item)
    → flat_map (λ (a : Item). metal_trees d nm a.metal) items
    ≡ flat_map (metal_trees d nm) (map (λ (a : Item). a.metal) items)
of_metals d nm [] = refl
of_metals d nm (a ∷ items) = ap (λ (ts : List Tree). metal_trees d nm a.metal ++ ts) (of_metals d nm items)

-- the heads of copper
abbrev heads : List (List ℕ)
heads = codes "wire" ∷ codes "via" ∷ []

module _ (d : Design) (m : Measure) (nm : ℕ) (scaled : IsScaled m nm) (differ : HasDistinctNames d)
    (few : HasFewParts d) where
  -- what a metal has to be, where it is printed
  abbrev pub IsReadBack : Metal → Type 0
  IsReadBack (Wire layer width chain) = IsWire d m nm scaled differ few layer width (directed chain)
  IsReadBack (Via padstack at) = IsVia d m nm scaled differ few padstack at
  IsReadBack (Pad pin) = Unit {0}
  IsReadBack (Ban wires vias) = Unit {0}

  -- ---- copper
  -- the lists of some metals
  abbrev trees : List Metal → List Tree
  trees ms = flat_map (metal_trees d nm) ms

  -- their heads are those of copper
  heads_are : (ms : List Metal) → filter (has_head heads) (trees ms) ≡ trees ms
  unfolding wire_tree via_tree
  heads_are [] = refl
  heads_are (Wire l w c ∷ ms) = here heads (codes "wire") _ (trees ms) refl
      ∙ ap (λ (ts : List Tree). wire_tree d nm l w c ∷ ts) (heads_are ms)
  heads_are (Via k at ∷ ms) = here heads (codes "via") _ (trees ms) refl
      ∙ ap (λ (ts : List Tree). via_tree d nm k at ∷ ts) (heads_are ms)
  heads_are (Pad pin ∷ ms) = heads_are ms
  heads_are (Ban wires vias ∷ ms) = heads_are ms

  -- they tell the metals
  metals_told : (net : ℕ) (ms : List Metal) → All IsReadBack ms → map told (map (item_of d m net) (trees ms))
      ≡ map (λ (c : Metal). (net, printed_metal c)) (filter is_copper ms)
  unfolding wire_tree via_tree
  metals_told net [] h = refl
  metals_told net (Wire l w c ∷ ms) h =
      let back = wire_back d m nm scaled differ few l w (directed c) (All-head IsReadBack (Wire l w c) ms h) in
      let rest = metals_told net ms (All-tail IsReadBack (Wire l w c) ms h) in
      λ i. (net, back i) ∷ rest i
  metals_told net (Via k at ∷ ms) h =
      let back = via_back d m nm scaled differ few k at (All-head IsReadBack (Via k at) ms h) in
      let rest = metals_told net ms (All-tail IsReadBack (Via k at) ms h) in
      λ i. (net, back i) ∷ rest i
  metals_told net (Pad pin ∷ ms) h = metals_told net ms (All-tail IsReadBack (Pad pin) ms h)
  metals_told net (Ban wires vias ∷ ms) h = metals_told net ms (All-tail IsReadBack (Ban wires vias) ms h)

  -- without refusals
  metals_none : (ms : List Metal) → All IsReadBack ms → flat_map (metal_refusals d m) (trees ms) ≡ []
  unfolding wire_tree via_tree
  metals_none [] h = refl
  metals_none (Wire l w c ∷ ms) h = both_none (metal_refusals d m (wire_tree d nm l w c))
      (flat_map (metal_refusals d m) (trees ms))
      (wire_none d m nm scaled differ few l w (directed c) (All-head IsReadBack (Wire l w c) ms h))
      (metals_none ms (All-tail IsReadBack (Wire l w c) ms h))
  metals_none (Via k at ∷ ms) h = both_none (metal_refusals d m (via_tree d nm k at))
      (flat_map (metal_refusals d m) (trees ms))
      (via_none d m nm scaled differ few k at (All-head IsReadBack (Via k at) ms h))
      (metals_none ms (All-tail IsReadBack (Via k at) ms h))
  metals_none (Pad pin ∷ ms) h = metals_none ms (All-tail IsReadBack (Pad pin) ms h)
  metals_none (Ban wires vias ∷ ms) h = metals_none ms (All-tail IsReadBack (Ban wires vias) ms h)

  -- ---- a net
  -- the list of a net
  abbrev net_tree : List ℕ → List Tree → Tree
  net_tree name copper = group_tree (codes "net") (word_tree name ∷ copper)

  -- its copper
  copper_is : (name : List ℕ) (copper : List Tree) → filter (has_head heads) copper ≡ copper
      → copper_in (net_tree name copper) ≡ copper
  copper_is name copper e = lists_are heads (codes "net") (word_tree name ∷ copper) ∙ passed heads name copper ∙ e

  -- its place
  net_is : (k : ℕ) (n : Net) (copper : List Tree) → slice_get d.nets k ≡ Some n
      → net_place d (net_tree n.name copper) ≡ Some k
  net_is k n copper there = ap (λ (name : List ℕ). first_place name (net_names d))
      (name_is (codes "net") n.name copper)
      ∙ found_name (λ (x : Net). x.name) d.nets k n differ.nets there

  -- it tells its copper
  net_back : (k : ℕ) (n : Net) (copper : List Tree) → slice_get d.nets k ≡ Some n
      → filter (has_head heads) copper ≡ copper
      → map told (net_items d m (net_tree n.name copper)) ≡ map told (map (item_of d m k) copper)
  unfolding net_items
  net_back k n copper there e =
      let place = net_is k n copper there in
      let index : min k (2 ^ 32 - 1) ≡ k = omega (arith, slice_get_within d.nets k n there, few.few_nets) in
      (λ i. map told (map (item_of d m (place_index (unwrap_or (place i) 0))) (copper_is n.name copper e i)))
      ∙ ap (λ (net : ℕ). map told (map (item_of d m net) copper)) index

  -- without refusals
  net_none : (k : ℕ) (n : Net) (copper : List Tree) → slice_get d.nets k ≡ Some n
      → filter (has_head heads) copper ≡ copper → flat_map (metal_refusals d m) copper ≡ []
      → net_refusals d m (net_tree n.name copper) ≡ []
  unfolding net_refusals
  net_none k n copper there e none =
      let t = net_tree n.name copper in
      both_none (refused_unless (is_some (net_place d t)) 3 (place_of t 1))
      (flat_map (metal_refusals d m) (copper_in t))
      (unless_none (is_some (net_place d t)) 3 (place_of t 1) (ap is_some (net_is k n copper there)))
      (ap (λ (ts : List Tree). flat_map (metal_refusals d m) ts) (copper_is n.name copper e) ∙ none)

  -- one that is printed where it has copper
  net_told : (k : ℕ) (n : Net) (copper : List Tree) → slice_get d.nets k ≡ Some n
      → filter (has_head heads) copper ≡ copper
      → map told (flat_map (net_items d m) (net_with n.name copper)) ≡ map told (map (item_of d m k) copper)
  net_told k n [] there e = refl
  net_told k n (c ∷ cs) there e =
      ap (λ (b : Bool). map told (flat_map (net_items d m) (cond b [] (net_tree n.name (c ∷ cs) ∷ []))))
      (eqb-suc-zero (length cs))
      ∙ ap (map told) (append-nil (net_items d m (net_tree n.name (c ∷ cs)))) ∙ net_back k n (c ∷ cs) there e

  -- without refusals
  net_clear : (k : ℕ) (n : Net) (copper : List Tree) → slice_get d.nets k ≡ Some n
      → filter (has_head heads) copper ≡ copper → flat_map (metal_refusals d m) copper ≡ []
      → flat_map (net_refusals d m) (net_with n.name copper) ≡ []
  net_clear k n [] there e none = refl
  net_clear k n (c ∷ cs) there e none =
      ap (λ (b : Bool). flat_map (net_refusals d m) (cond b [] (net_tree n.name (c ∷ cs) ∷ [])))
      (eqb-suc-zero (length cs))
      ∙ append-nil (net_refusals d m (net_tree n.name (c ∷ cs))) ∙ net_none k n (c ∷ cs) there e none

  -- its head
  net_headed : (name : List ℕ) (copper : List Tree)
      → filter (has_head (codes "net" ∷ [])) (net_with name copper) ≡ net_with name copper
  net_headed name copper = by (length copper == 0)
    where
      by : (b : Bool) → filter (has_head (codes "net" ∷ [])) (cond b [] (net_tree name copper ∷ []))
          ≡ cond b [] (net_tree name copper ∷ [])
      by true = refl
      by false = here (codes "net" ∷ []) (codes "net") (word_tree name ∷ copper) [] refl

  -- ---- all nets
  module _ (items : List Item) (back : All (λ (a : Item). IsReadBack a.metal) items) where
    -- the metals of a net
    abbrev metals : ℕ → List Metal
    metals k = map (λ (a : Item). a.metal) (filter (is_of_net k) items)

    -- are read back
    metals_back : (k : ℕ) → All IsReadBack (metals k)
    metals_back k = All-map IsReadBack (λ (a : Item). a.metal) (filter (is_of_net k) items)
        (All-filter (is_of_net k) (λ (a : Item). IsReadBack a.metal) items back)

    -- their lists
    copper_of : (k : ℕ) → copper_trees d nm items k ≡ trees (metals k)
    copper_of k = of_metals d nm (filter (is_of_net k) items)

    -- whose heads are those of copper
    copper_headed : (k : ℕ) → filter (has_head heads) (copper_trees d nm items k) ≡ copper_trees d nm items k
    copper_headed k = subst (λ (ts : List Tree). filter (has_head heads) ts ≡ ts) (sym (copper_of k))
        (heads_are (metals k))

    -- they tell the wiring of the net
    copper_told : (k : ℕ) → map told (map (item_of d m k) (copper_trees d nm items k)) ≡ net_wiring items k
    copper_told k = ap (λ (ts : List Tree). map told (map (item_of d m k) ts)) (copper_of k)
        ∙ metals_told k (metals k) (metals_back k)

    -- without refusals
    copper_none : (k : ℕ) → flat_map (metal_refusals d m) (copper_trees d nm items k) ≡ []
    copper_none k = ap (λ (ts : List Tree). flat_map (metal_refusals d m) ts) (copper_of k)
        ∙ metals_none (metals k) (metals_back k)

    -- the lists of nets from a place on
    abbrev net_lists : ℕ → List Net → List Tree
    net_lists k ns = flat_map (net_trees d nm items) (enumerate_from k ns)

    -- nets that stand in the design from a place on
    record StandAt (k : ℕ) (ns : List Net) : Type 0 where
      there : (j : ℕ) (n : Net) → slice_get ns j ≡ Some n → slice_get d.nets (k + j) ≡ Some n

    -- the first
    first_there : (k : ℕ) (n : Net) (ns : List Net) → StandAt k (n ∷ ns) → slice_get d.nets k ≡ Some n
    first_there k n ns h = subst (λ (i : ℕ). slice_get d.nets i ≡ Some n) (omega arith) (h.there zero n refl)

    -- the others
    rest_there : (k : ℕ) (n : Net) (ns : List Net) → StandAt k (n ∷ ns) → StandAt (k + 1) ns
    rest_there k n ns h = record {
      there = λ j o e. subst (λ (i : ℕ). slice_get d.nets i ≡ Some o) (omega arith) (h.there (suc j) o e);
    }

    -- they tell their wiring
    nets_told : (k : ℕ) (ns : List Net) → StandAt k ns → map told (flat_map (net_items d m) (net_lists k ns))
        ≡ flat_map (net_wiring items) (range_with_len k (length ns))
    nets_told k [] h = refl
    nets_told k (n ∷ ns) h =
        let copper = copper_trees d nm items k in
        let first = net_told k n copper (first_there k n ns h) (copper_headed k) ∙ copper_told k in
        let rest = nets_told (k + 1) ns (rest_there k n ns h) in
        ap (map told) (flat_map-append (net_items d m) (net_with n.name copper) (net_lists (k + 1) ns))
        ∙ map-append told (flat_map (net_items d m) (net_with n.name copper))
        (flat_map (net_items d m) (net_lists (k + 1) ns))
        ∙ (λ i. first i ++ rest i)

    -- without refusals
    nets_none : (k : ℕ) (ns : List Net) → StandAt k ns → flat_map (net_refusals d m) (net_lists k ns) ≡ []
    nets_none k [] h = refl
    nets_none k (n ∷ ns) h =
        let copper = copper_trees d nm items k in
        flat_map-append (net_refusals d m) (net_with n.name copper) (net_lists (k + 1) ns)
        ∙ both_none (flat_map (net_refusals d m) (net_with n.name copper))
        (flat_map (net_refusals d m) (net_lists (k + 1) ns))
        (net_clear k n copper (first_there k n ns h) (copper_headed k) (copper_none k))
        (nets_none (k + 1) ns (rest_there k n ns h))

    -- each is a net
    nets_headed : (k : ℕ) (ns : List Net)
        → filter (has_head (codes "net" ∷ [])) (net_lists k ns) ≡ net_lists k ns
    nets_headed k [] = refl
    nets_headed k (n ∷ ns) =
        let copper = copper_trees d nm items k in
        filter-append (has_head (codes "net" ∷ [])) (net_with n.name copper) (net_lists (k + 1) ns)
        ∙ (λ i. net_headed n.name copper i ++ nets_headed (k + 1) ns i)

    -- all nets stand from 0 on
    all_there : StandAt 0 d.nets
    all_there = record {
      there = λ j n e. subst (λ (i : ℕ). slice_get d.nets i ≡ Some n) (let f : j ≡ 0 + j = omega arith in f) e;
    }

    -- the nets of the network
    nets_are : nets_in (network_tree d nm items) ≡ net_lists 0 d.nets
    unfolding network_tree
    nets_are = lists_are (codes "net" ∷ []) (codes "network_out") (net_lists 0 d.nets) ∙ nets_headed 0 d.nets

    -- the network tells the wiring
    pub network_told : map told (network_items d m (network_tree d nm items))
        ≡ flat_map (net_wiring items) (range_with_len 0 (length d.nets))
    network_told = ap (λ (ts : List Tree). map told (flat_map (net_items d m) ts)) nets_are
        ∙ nets_told 0 d.nets all_there

    -- without refusals
    pub network_none : network_refusals d m (network_tree d nm items) ≡ []
    network_none = ap (λ (ts : List Tree). flat_map (net_refusals d m) ts) nets_are ∙ nets_none 0 d.nets all_there
