-- A design that is made of sound parts is sound.
use Rattle.std.proofs.Common.{◌≡◌, ◌≢◌, ◌<◌, ◌≤◌, ◌^◌, ◌-◌, ◌∙◌, sym, subst, ℕ, List, Option, Some, None, length, map}
use Rattle.std.proofs.Common.{arith}
use Rattle.std.specs.Prelude.{All, AllPairs, IfSome, slice_get, unwrap_or}
use Rattle.std.specs.Option.{IsSomeAnd, option_map_or}
use Rattle.std.proofs.lemmas.List.{length-map}
use Rattle.std.proofs.lemmas.List.Elements.{All-map, All-weaker}
use Rattle.std.proofs.lemmas.Option.{slice_get-map}
use Rattle.geo_kernel.specs.declared.spine.Spine.{Spine}
use Rattle.geo_kernel.specs.declared.spine.Spine.TheVariants.{Chain, Area}
use Rattle.geo_kernel.specs.Spine.{IsSpineWithin, IsWellFormed}
use Rattle.pcb_model.specs.declared.item.Item.{Item}
use Rattle.pcb_model.specs.declared.item.Piece.{Piece}
use Rattle.pcb_model.specs.declared.design.BoardLayer.{BoardLayer}
use Rattle.pcb_model.specs.declared.design.Design.{Design}
use Rattle.pcb_model.specs.declared.design.FreeWire.{FreeWire}
use Rattle.pcb_model.specs.declared.design.Net.{Net}
use Rattle.pcb_model.specs.declared.design.Padstack.{Padstack}
use Rattle.pcb_model.specs.declared.design.Pin.{Pin}
use Rattle.pcb_model.specs.declared.design.RuleSet.{RuleSet}
use Rattle.pcb_model.specs.declared.design.ClassPair.{ClassPair}
use Rattle.pcb_model.specs.Bounds.{AreRulesWithin, HasRulesWithin, IsBoundFit, IsDesignFit, IsFit}
use Rattle.pcb_model.specs.Sound.{ArePinsOf, HasDistinctNames, HasFewParts, HasPrintableNames, IsFixedSound}
use Rattle.pcb_model.specs.Sound.{IsFreeSound, IsNetSound, IsPairSound, IsPinSound, IsPrintable, IsSound, IsUsable}
use Rattle.pcb_model.proofs.Within.{All-at}
use Rattle.dsn_shapes.specs.declared.parts.Image.{Image}
use Rattle.dsn_shapes.specs.declared.parts.Layer.{Layer}
use Rattle.dsn_shapes.specs.declared.parts.LayerShape.{LayerShape}
use Rattle.dsn_shapes.specs.declared.parts.PinRef.{PinRef}
use Rattle.dsn_shapes.specs.declared.parts.ReadClass.{ReadClass}
use Rattle.dsn_shapes.specs.declared.parts.ReadNet.{ReadNet}
use Rattle.dsn_shapes.specs.declared.parts.Stack.{Stack}
use Rattle.dsn_shapes.specs.Fits.{IsArea, IsBoundShape}
use Rattle.dsn_shapes.proofs.Fits.{pairs_to_map}
use Rattle.dsn_library.specs.Sound.{IsImageSound, IsStackSound}
use Rattle.dsn_network.specs.Sound.{IsReadClassSound, IsReadNetSound, IsReadPairSound}
use Rattle.dsn_shapes.specs.Names.{stack_names}
use Rattle.dsn_design.specs.declared.parts.Parts.{Parts}
use Rattle.dsn_design.specs.Fit.{IsStackFit}
use Rattle.dsn_design.specs.Counts.{IsCountedOf, counted_components, counted_from, counted_items, counted_number}
use Rattle.dsn_design.specs.Counts.{counted_pins, counted_with, first_pins}
use Rattle.dsn_design.specs.Items.{free_wiring, loops_of}
use Rattle.dsn_design.specs.Made.{ArePadstacksOf, board_layer, bounds_of, design_from, design_with, layers_of}
use Rattle.dsn_design.specs.Made.{structure_vias}
use Rattle.dsn_design.specs.Nets.{class_rules, class_vias, is_usable_at, net_of, stack_number, stack_numbers, usable_of}
use Rattle.dsn_design.specs.Nets.{via_list}
use Rattle.dsn_design.specs.Pins.{layer_count}
use Rattle.dsn_design.specs.Sound.{AreFewParts, ArePartsSound}
use Rattle.dsn_design.specs.Usable.{padstacks_of, usables}
use Rattle.dsn_design.proofs.FixedSound.{fixed_sound}
use Rattle.dsn_design.proofs.FreeSound.{free_sound}
use Rattle.dsn_design.proofs.Numbered.{refs_are, refs_from}
use Rattle.dsn_design.proofs.Owned.{IsPinThere, all_at, mapped, net_pins_exact, numbers_differ, own_pins}
use Rattle.dsn_design.proofs.Padded.{padstacks_fit}
use Rattle.dsn_design.proofs.Pads.{pads_sound}
use Rattle.dsn_design.proofs.Placed.{counted_are}
use Rattle.dsn_design.proofs.Padstacks.{padstacks_differ, padstacks_few, padstacks_in_range, padstacks_printable}
use Rattle.dsn_design.proofs.Padstacks.{vias_usable}
use Rattle.dsn_design.proofs.Stands.{IsPinOf, components_differ, components_few, components_printable, components_sound}
use Rattle.dsn_design.proofs.Stands.{filter_few, pins_are_of, pins_count}

-- what is made of each
made_all : {X Y : Type 0} (P : X → Type 0) (Q : Y → Type 0) (f : X → Y) → ((x : X) → P x → Q (f x)) → (xs : List X)
    → All P xs → All Q (map f xs)
made_all P Q f h xs a = All-map Q f xs (All-weaker P (λ x. Q (f x)) h xs a)

-- ---- rules
abbrev IsWidthSmall : Option ℕ → Type 0
IsWidthSmall o = IfSome o (λ w. w ≤ 2 ^ 28)

width_small : (o : Option ℕ) → IfSome o (λ w. (0 < w) × (w ≤ 2 ^ 28)) → IsWidthSmall o
width_small None h = tt
width_small (Some w) h = h.1

classes_within : (stacks : ℕ) (cs : List ReadClass) → All (IsReadClassSound stacks) cs
    → All (AreRulesWithin (2 ^ 28)) (map class_rules cs)
classes_within stacks =
    made_all (IsReadClassSound stacks) (AreRulesWithin (2 ^ 28)) class_rules (λ c h. h.rules.clearances_within)

class_widths : (stacks : ℕ) (cs : List ReadClass) → All (IsReadClassSound stacks) cs
    → All (λ (rs : RuleSet). IfSome rs.width (λ w. w ≤ 2 ^ 28)) (map class_rules cs)
class_widths stacks =
    made_all (IsReadClassSound stacks) (λ (rs : RuleSet). IsWidthSmall rs.width) class_rules
    (λ (c : ReadClass) h. width_small c.rules.width h.rules.width_within)

-- ---- boundaries
loops_fit : (s : Spine) → IsArea s → IsWellFormed s → IsSpineWithin (2 ^ 29) s → IsBoundFit (loops_of s)
loops_fit (Chain ps) a w h = absurd a
loops_fit (Area loops) a w h = record { some = w.0; loops_close = w.1; loops_within = h }

bounds_are_fit : (bs : List LayerShape) → All IsBoundShape bs → All IsBoundFit (bounds_of bs)
bounds_are_fit =
    made_all IsBoundShape IsBoundFit (λ (b : LayerShape). loops_of b.spine)
    (λ (b : LayerShape) h. loops_fit b.spine h.area h.fits.well_formed h.fits.within)

-- ---- padstacks
stacks_fit : (p : Parts) (stacks : List Padstack) → ArePartsSound p → ArePadstacksOf p stacks
    → All (λ (s : Padstack). All IsFit s.pieces) stacks
stacks_fit p stacks s h =
    let fit : All IsStackFit p.library.stacks =
    All-weaker IsStackSound IsStackFit (λ (k : Stack) f. record { shapes = f.shapes_fit }) p.library.stacks
    s.library.stacks in
    subst (All (λ (k : Padstack). All IsFit k.pieces)) (sym h.are)
    (padstacks_fit (layer_count p) (usables stacks) p.library.stacks h.usable fit)

stacks_few : (p : Parts) (stacks : List Padstack) → ArePartsSound p → ArePadstacksOf p stacks → length stacks ≤ 2 ^ 26
stacks_few p stacks s h =
    subst (λ (ss : List Padstack). length ss ≤ 2 ^ 26) (sym h.are)
    (omega (arith, padstacks_few (layer_count p) (usables stacks) p.library.stacks, s.few.stacks))

stacks_in_range : (p : Parts) (stacks : List Padstack) → ArePadstacksOf p stacks
    → All (λ (s : Padstack). All (λ (q : Piece). q.layer < length (layers_of p.structure.layers)) s.pieces) stacks
stacks_in_range p stacks h =
    let n = layer_count p in
    let us = usables stacks in
    let same : n ≡ length (layers_of p.structure.layers) = sym (length-map p.structure.layers board_layer) in
    subst (All (λ (s : Padstack). All (λ (q : Piece). q.layer < length (layers_of p.structure.layers)) s.pieces))
    (sym h.are)
    (subst (λ k. All (λ (s : Padstack). All (λ (q : Piece). q.layer < k) s.pieces) (padstacks_of n us p.library.stacks))
    same (padstacks_in_range n us p.library.stacks))

-- ---- the vias of nets
list_few : (o : Option (List ℕ)) (vs : List ℕ) (n : ℕ) → IfSome o (λ us. length us ≤ n) → length vs ≤ n
    → length (unwrap_or o vs) ≤ n
list_few None vs n h k = k
list_few (Some us) vs n h k = h

class_few : (o : Option ReadClass) (n : ℕ) → IfSome o (λ (c : ReadClass). IfSome c.vias (λ us. length us ≤ n))
    → IfSome (option_map_or (λ (c : ReadClass). c.vias) o None) (λ us. length us ≤ n)
class_few None n h = tt
class_few (Some c) n h = h

class_vias_few : (cs : List ReadClass) (o : Option ℕ) (n : ℕ)
    → All (λ (c : ReadClass). IfSome c.vias (λ us. length us ≤ n)) cs → IfSome (class_vias cs o) (λ us. length us ≤ n)
class_vias_few cs None n h = tt
class_vias_few cs (Some c) n h =
    class_few (slice_get cs c) n (All-at (λ (k : ReadClass). IfSome k.vias (λ us. length us ≤ n)) cs c h)

via_list_few : (p : Parts) (n : ReadNet) → AreFewParts p → length (via_list (structure_vias p) p.network.classes n)
    ≤ 2 ^ 26
unfolding stack_numbers
via_list_few p n few =
    list_few (class_vias p.network.classes n.class) (structure_vias p) (2 ^ 26)
    (class_vias_few p.network.classes n.class (2 ^ 26) few.class_vias)
    (omega (arith, few.structure_vias, length-map p.structure.vias (stack_number (stack_names p.library.stacks))))

usable_few : (stacks : List Padstack) (vias : List ℕ) (n : ℕ) → length vias ≤ n → length (usable_of stacks vias) ≤ n
unfolding usable_of
usable_few stacks vias n h = omega (arith, filter_few (is_usable_at stacks) vias)

-- ---- nets
abbrev net_made : Parts → List Padstack → ReadNet → Net
net_made p stacks =
    net_of stacks (counted_number (first_pins p.library p.placing.places)) (structure_vias p) p.network.classes

net_sound : (p : Parts) (stacks : List Padstack) (fixed : List Item) (free : List FreeWire) → ArePartsSound p
    → ArePadstacksOf p stacks → (n : ReadNet) → IsReadNetSound p.library p.placing (length p.network.classes) n
    → IsNetSound (counted_with p stacks fixed free) (net_made p stacks n)
unfolding design_with net_of
net_sound p stacks fixed free s h n k =
    let vias = via_list (structure_vias p) p.network.classes n in
    record {
      class_in_range =
          subst (λ m. IfSome n.class (λ c. c < m)) (sym (length-map p.network.classes class_rules)) k.class;
      few_vias = usable_few stacks vias (2 ^ 26) (via_list_few p n s.few);
      vias_usable =
          subst (λ (ss : List Padstack). All (λ v. IsSomeAnd (slice_get ss v) (λ (q : Padstack). IsUsable q.pieces))
          (usable_of ss vias)) (sym h.are)
          (vias_usable (layer_count p) (usables stacks) p.library.stacks vias h.usable);
      width_within = width_small n.rules.width k.rules.width_within;
    }

nets_sound : (p : Parts) (stacks : List Padstack) (fixed : List Item) (free : List FreeWire) → ArePartsSound p
    → ArePadstacksOf p stacks
    → All (IsNetSound (counted_with p stacks fixed free)) (map (net_made p stacks) p.network.nets)
nets_sound p stacks fixed free s h =
    made_all (IsReadNetSound p.library p.placing (length p.network.classes))
    (IsNetSound (counted_with p stacks fixed free)) (net_made p stacks) (net_sound p stacks fixed free s h)
    p.network.nets s.network.nets

nets_within : (p : Parts) (stacks : List Padstack) → ArePartsSound p
    → All (λ (n : Net). AreRulesWithin (2 ^ 28) n.rules) (map (net_made p stacks) p.network.nets)
unfolding net_of
nets_within p stacks s =
    made_all (IsReadNetSound p.library p.placing (length p.network.classes))
    (λ (n : Net). AreRulesWithin (2 ^ 28) n.rules) (net_made p stacks) (λ n k. k.rules.clearances_within) p.network.nets
    s.network.nets

net_names_differ : (p : Parts) (stacks : List Padstack) → ArePartsSound p
    → AllPairs (λ (a b : Net). a.name ≢ b.name) (map (net_made p stacks) p.network.nets)
unfolding net_of
net_names_differ p stacks s =
    pairs_to_map (λ (a b : Net). a.name ≢ b.name) (net_made p stacks) p.network.nets s.network.names

net_names_printable : (p : Parts) (stacks : List Padstack) → ArePartsSound p
    → All (λ (n : Net). IsPrintable n.name) (map (net_made p stacks) p.network.nets)
unfolding net_of
net_names_printable p stacks s =
    made_all (IsReadNetSound p.library p.placing (length p.network.classes)) (λ (n : Net). IsPrintable n.name)
    (net_made p stacks) (λ n k. k.name) p.network.nets s.network.nets

made_pins : (p : Parts) (stacks : List Padstack) (fixed : List Item) (free : List FreeWire) → ArePartsSound p
    → (n : ℕ) (k : ReadNet) → slice_get p.network.nets n ≡ Some k
    → ArePinsOf (counted_with p stacks fixed free) n (net_made p stacks k).pins
unfolding design_with net_of
made_pins p stacks fixed free s n k e =
    let lib = p.library in
    let places = p.placing.places in
    let own = own_pins lib p.placing p.network s.network in
    let few : length (refs_from lib 0 places) ≤ 2 ^ 32 - 1 = omega (arith, refs_are lib places, s.placing.few_pins) in
    let few_places : length places ≤ 2 ^ 32 - 1 = omega (arith, s.few.places) in
    let there : All (IsPinThere lib places) k.pins =
    all_at (λ (m : ReadNet). All (IsPinThere lib places) m.pins) p.network.nets n k own.there e in
    let once : AllPairs (λ (a b : PinRef). a ≢ b) k.pins =
    all_at (λ (m : ReadNet). AllPairs (λ (a b : PinRef). a ≢ b) m.pins) p.network.nets n k own.once e in
    record {
      once = numbers_differ lib places k.pins few there once;
      exact = net_pins_exact p stacks few_places few own n k e;
    }

net_pins_are : (p : Parts) (stacks : List Padstack) (fixed : List Item) (free : List FreeWire) → ArePartsSound p
    → (n : ℕ) (net : Net) → slice_get (map (net_made p stacks) p.network.nets) n ≡ Some net
    → ArePinsOf (counted_with p stacks fixed free) n net.pins
net_pins_are p stacks fixed free s n net e =
    let m = mapped (net_made p stacks) (slice_get p.network.nets n) net
    (sym (slice_get-map (net_made p stacks) p.network.nets n) ∙ e) in
    subst (λ (k : Net). ArePinsOf (counted_with p stacks fixed free) n k.pins) m.to_is
    (made_pins p stacks fixed free s n m.from m.from_is)

-- ---- pins
pins_sound : (p : Parts) (stacks : List Padstack) (fixed : List Item) (free : List FreeWire)
    → All (IsPinSound (counted_with p stacks fixed free)) (counted_pins p stacks)
unfolding design_with
pins_sound p stacks fixed free =
    let components = length (counted_components p.library p.placing.places) in
    let nets = p.network.nets in
    All-weaker (IsPinOf components (length nets)) (IsPinSound (counted_with p stacks fixed free))
    (λ (q : Pin) h. record {
      within = h.within;
      component_in_range = h.component_in_range;
      net_in_range = subst (λ m. IfSome q.net (λ n. n < m)) (sym (length-map nets (net_made p stacks))) h.net_in_range;
    })
    (counted_pins p stacks) (pins_are_of p stacks)

-- ---- class pairs
pairs_sound : (p : Parts) (stacks : List Padstack) (fixed : List Item) (free : List FreeWire) → ArePartsSound p
    → All (IsPairSound (counted_with p stacks fixed free)) p.network.pairs
unfolding design_with
pairs_sound p stacks fixed free s =
    let l : length (map class_rules p.network.classes) ≡ length p.network.classes =
    length-map p.network.classes class_rules in
    All-weaker (IsReadPairSound (length p.network.classes)) (IsPairSound (counted_with p stacks fixed free))
    (λ q h. record {
      a_in_range = subst (λ n. q.a < n) (sym l) h.a_in_range;
      b_in_range = subst (λ n. q.b < n) (sym l) h.b_in_range;
    }) p.network.pairs s.network.pairs

-- ---- the whole design
few_parts : (p : Parts) (stacks : List Padstack) (fixed : List Item) (free : List FreeWire) → ArePartsSound p
    → ArePadstacksOf p stacks → HasFewParts (counted_with p stacks fixed free)
unfolding design_with
few_parts p stacks fixed free s h = record {
  some_layers = omega (arith, length-map p.structure.layers board_layer, s.structure.layers.some);
  few_layers = omega (arith, length-map p.structure.layers board_layer, s.structure.layers.few);
  some_bounds =
      omega (arith, length-map p.structure.bounds (λ (b : LayerShape). loops_of b.spine), s.structure.some_bounds);
  few_padstacks = stacks_few p stacks s h;
  few_components = omega (arith, components_few p.library p.placing.places, s.few.places);
  few_pins = omega (arith, pins_count p stacks, s.placing.few_pins);
  few_nets = omega (arith, length-map p.network.nets (net_made p stacks), s.network.few);
  few_classes = omega (arith, length-map p.network.classes class_rules, s.few.classes);
}

design_fit : (p : Parts) (stacks : List Padstack) (fixed : List Item) (free : List FreeWire) → ArePartsSound p
    → ArePadstacksOf p stacks → IsDesignFit (counted_with p stacks fixed free)
unfolding design_with
design_fit p stacks fixed free s h =
    let rules : HasRulesWithin (2 ^ 28) (counted_with p stacks fixed free) = record {
      structure = s.structure.rules_fit.clearances_within;
      classes_within = classes_within (length p.library.stacks) p.network.classes s.network.classes;
      nets_within = nets_within p stacks s;
      pairs_within = All-weaker (IsReadPairSound (length p.network.classes))
          (λ (q : ClassPair). AreRulesWithin (2 ^ 28) q.rules) (λ q h. h.rules.clearances_within) p.network.pairs
          s.network.pairs;
    } in
    record {
      rules_within = rules;
      bounds_fit = bounds_are_fit p.structure.bounds s.structure.bounds_fit;
      padstacks_fit = stacks_fit p stacks s h;
    }

names_differ : (p : Parts) (stacks : List Padstack) (fixed : List Item) (free : List FreeWire) → ArePartsSound p
    → ArePadstacksOf p stacks → HasDistinctNames (counted_with p stacks fixed free)
unfolding design_with
names_differ p stacks fixed free s h = record {
  layers = pairs_to_map (λ (a b : BoardLayer). a.name ≢ b.name) board_layer p.structure.layers
      s.structure.layers.names_differ;
  padstacks = subst (AllPairs (λ (a b : Padstack). a.name ≢ b.name)) (sym h.are)
      (padstacks_differ (layer_count p) (usables stacks) p.library.stacks h.usable s.library.stack_names);
  components = components_differ p.library p.placing.places s.placing.names;
  nets = net_names_differ p stacks s;
}

names_printable : (p : Parts) (stacks : List Padstack) (fixed : List Item) (free : List FreeWire) → ArePartsSound p
    → ArePadstacksOf p stacks → HasPrintableNames (counted_with p stacks fixed free)
unfolding design_with
names_printable p stacks fixed free s h =
    let stack_names_printable : All (λ (k : Stack). IsPrintable k.name) p.library.stacks =
    All-weaker IsStackSound (λ (k : Stack). IsPrintable k.name) (λ k n. n.name) p.library.stacks s.library.stacks in
    let image_names_printable : All (λ (i : Image). IsPrintable i.name) p.library.images =
    All-weaker (IsImageSound (length p.library.stacks)) (λ (i : Image). IsPrintable i.name) (λ i n. n.name)
    p.library.images s.library.images in
    record {
      design = s.head.name_printable;
      host_cad = s.head.host_cad_printable;
      host_version = s.head.host_version_printable;
      layers = made_all (λ (l : Layer). IsPrintable l.name) (λ (l : BoardLayer). IsPrintable l.name) board_layer
          (λ l n. n) p.structure.layers s.structure.layers.names_printable;
      padstacks = subst (All (λ (k : Padstack). IsPrintable k.name)) (sym h.are)
          (padstacks_printable (layer_count p) (usables stacks) p.library.stacks stack_names_printable);
      components =
          components_printable p.structure.flip_last p.library p.placing.places image_names_printable s.placing.places;
      nets = net_names_printable p stacks s;
    }

abbrev AreFixedSound : Design → Type 0
AreFixedSound d = (i : ℕ) (a : Item) → slice_get d.fixed i ≡ Some a → IsFixedSound d i a

sound_from : (p : Parts) (stacks : List Padstack) → ArePartsSound p → ArePadstacksOf p stacks
    → IsSound (counted_from p stacks)
unfolding design_with
sound_from p stacks s h =
    let fixed = counted_items p stacks in
    let free = free_wiring p.wiring.wires in
    let same : counted_from p stacks ≡ design_from p stacks = counted_are p stacks s in
    record {
      parts = few_parts p stacks fixed free s h;
      fits = design_fit p stacks fixed free s h;
      some_per = s.head.some_per;
      few_per = s.head.few_per;
      width_within = width_small p.structure.rules.width s.structure.rules_fit.width_within;
      class_widths_within = class_widths (length p.library.stacks) p.network.classes s.network.classes;
      pairs = pairs_sound p stacks fixed free s;
      padstack_layers = stacks_in_range p stacks h;
      components = components_sound p.structure.flip_last p.library p.placing.places s.placing.places;
      pins = pins_sound p stacks fixed free;
      nets = nets_sound p stacks fixed free s h;
      net_pins = net_pins_are p stacks fixed free s;
      pads = pads_sound p stacks s.placing s.wiring;
      fixed = subst AreFixedSound (sym same) (fixed_sound p stacks h s.structure s.library s.wiring);
      free = subst (λ (d : Design). All (IsFreeSound d) d.free) (sym same) (free_sound p stacks h s.library s.wiring);
      distinct_names = names_differ p stacks fixed free s h;
      printable_names = names_printable p stacks fixed free s h;
    }

pub design_sound : (p : Parts) (d : Design) → ArePartsSound p → IsCountedOf p d → IsSound d
design_sound p d s h = subst IsSound (sym h.design) (sound_from p d.padstacks s h.padstacks)
