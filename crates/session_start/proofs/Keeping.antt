-- Other free wiring changes nothing else of a design.
use Rattle.std.proofs.Common.{ℕ, ◌^◌, List, All, subst, sym}
use Rattle.std.proofs.lemmas.List.Elements.{All-weaker}
use Rattle.pcb_model.specs.declared.item.Item.{Item}
use Rattle.pcb_model.specs.declared.design.Pin.{Pin}
use Rattle.pcb_model.specs.declared.design.Net.{Net}
use Rattle.pcb_model.specs.declared.design.ClassPair.{ClassPair}
use Rattle.pcb_model.specs.declared.design.FreeWire.{FreeWire}
use Rattle.pcb_model.specs.declared.design.Design.{Design}
use Rattle.pcb_model.specs.declared.item.Metal.{Metal}
use Rattle.pcb_model.specs.declared.item.Metal.TheVariants.{Wire, Via, Pad, Ban}
use Rattle.pcb_model.specs.Bounds.{HasRulesWithin, IsDesignFit, IsFit}
use Rattle.pcb_model.specs.Plain.{IsPlainCopper}
use Rattle.pcb_model.specs.Sound.{IsMetalInRange, IsItemOf, IsNetSound, IsPairSound, IsPinSound, IsFreeSound}
use Rattle.pcb_model.specs.Sound.{IsFixedSound, HasOnePad, ArePinsOf}
use Rattle.pcb_model.specs.Sound.{HasDistinctNames, HasPrintableNames, HasFewParts, IsSound}
use Rattle.session_start.specs.Starting.{with_free}
use Rattle.session_start.proofs.Alike.{same_pieces}

module _ (d : Design) (wires : List FreeWire) where
  abbrev e : Design
  e = with_free d wires

  pub parts : HasFewParts d → HasFewParts e
  parts h = record {
    some_layers = h.some_layers;
    few_layers = h.few_layers;
    some_bounds = h.some_bounds;
    few_padstacks = h.few_padstacks;
    few_components = h.few_components;
    few_pins = h.few_pins;
    few_nets = h.few_nets;
    few_classes = h.few_classes;
  }

  rules : HasRulesWithin (2 ^ 28) d → HasRulesWithin (2 ^ 28) e
  rules h = record {
    structure = h.structure;
    classes_within = h.classes_within;
    nets_within = h.nets_within;
    pairs_within = h.pairs_within;
  }

  pub fit : IsDesignFit d → IsDesignFit e
  fit h = record { rules_within = rules h.rules_within; bounds_fit = h.bounds_fit; padstacks_fit = h.padstacks_fit }

  in_range : (m : Metal) → IsMetalInRange d m → IsMetalInRange e m
  in_range (Wire layer width chain) h = h
  in_range (Via padstack at) h = h
  in_range (Pad pin) h = h
  in_range (Ban a b) h = h

  pub item_of : (a : Item) → IsItemOf d a → IsItemOf e a
  item_of a h = record {
    fits = h.fits;
    metal_fits = h.metal_fits;
    metal_in_range = in_range a.metal h.metal_in_range;
    layers_in_range = h.layers_in_range;
    net_in_range = h.net_in_range;
  }

  net : (n : Net) → IsNetSound d n → IsNetSound e n
  net n h = record {
    class_in_range = h.class_in_range;
    few_vias = h.few_vias;
    vias_usable = h.vias_usable;
    width_within = h.width_within;
  }

  pair : (p : ClassPair) → IsPairSound d p → IsPairSound e p
  pair p h = record { a_in_range = h.a_in_range; b_in_range = h.b_in_range }

  pin : (p : Pin) → IsPinSound d p → IsPinSound e p
  pin p h = record {
    within = h.within;
    component_in_range = h.component_in_range;
    net_in_range = h.net_in_range;
  }

  pad : (i : ℕ) (p : Pin) → HasOnePad d i p → HasOnePad e i p
  pad i p h = record { pad = h.pad; there = h.there; is_pad = h.is_pad; net_is = h.net_is; only = h.only }

  pins_of : (n : ℕ) (pins : List ℕ) → ArePinsOf d n pins → ArePinsOf e n pins
  pins_of n pins h = record { once = h.once; exact = h.exact }

  fixed : (i : ℕ) (a : Item) → IsFixedSound d i a → IsFixedSound e i a
  fixed i a h = record { numbered = h.numbered; fixed = h.fixed; item = item_of a h.item }

  free : (w : FreeWire) → IsFreeSound d w → IsFreeSound e w
  free w h = record {
    copper = h.copper;
    fits = h.fits;
    in_range = in_range w.metal h.in_range;
    pieces_fit = subst (All IsFit) (sym (same_pieces d wires w.metal)) h.pieces_fit;
    net_in_range = h.net_in_range;
  }

  distinct : HasDistinctNames d → HasDistinctNames e
  distinct h = record { layers = h.layers; padstacks = h.padstacks; components = h.components; nets = h.nets }

  printable : HasPrintableNames d → HasPrintableNames e
  printable h = record {
    design = h.design;
    host_cad = h.host_cad;
    host_version = h.host_version;
    layers = h.layers;
    padstacks = h.padstacks;
    components = h.components;
    nets = h.nets;
  }

  pub sound_with : IsSound d → All (IsFreeSound d) wires → IsSound (with_free d wires)
  sound_with h all = record {
    parts = parts h.parts;
    fits = fit h.fits;
    some_per = h.some_per;
    few_per = h.few_per;
    width_within = h.width_within;
    class_widths_within = h.class_widths_within;
    pairs = All-weaker (IsPairSound d) (IsPairSound e) pair d.pairs h.pairs;
    padstack_layers = h.padstack_layers;
    components = h.components;
    pins = All-weaker (IsPinSound d) (IsPinSound e) pin d.pins h.pins;
    nets = All-weaker (IsNetSound d) (IsNetSound e) net d.nets h.nets;
    net_pins = λ n x at. pins_of n x.pins (h.net_pins n x at);
    pads = λ i p at. pad i p (h.pads i p at);
    fixed = λ i a at. fixed i a (h.fixed i a at);
    free = All-weaker (IsFreeSound d) (IsFreeSound e) free wires all;
    distinct_names = distinct h.distinct_names;
    printable_names = printable h.printable_names;
  }

  pub plain_with : IsPlainCopper d → IsPlainCopper (with_free d wires)
  plain_with h = record { padstacks = h.padstacks; fixed = h.fixed }
