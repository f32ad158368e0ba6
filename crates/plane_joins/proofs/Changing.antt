-- What holds of a design holds of it with further fixed items.
use Rattle.std.proofs.Common.{◌≡◌, ℕ, ◌/◌, refl, sym, ap, ◌∙◌, subst, List}
use Rattle.std.proofs.Common.{Bool, true, false, All, Contains, inl, inr, ◌⊎◌}
use Rattle.std.specs.Prelude.{◌&&◌, nat_lt, if◌then◌else◌}
use Rattle.std.specs.List.{list_all}
use Rattle.std.proofs.lemmas.List.Elements.{All-append, All-contains, All-weaker, Contains-append_cases}
use Rattle.std.proofs.lemmas.List.Elements.{Contains-append_left}
use Rattle.std.proofs.lemmas.List.Folds.{list_all-append}
use Rattle.geo_kernel.specs.Units.{unit_nm}
use Rattle.geo_kernel.specs.declared.unit.Unit.TheVariants.{Um}
use Rattle.pcb_model.specs.declared.item.Item.{Item}
use Rattle.pcb_model.specs.declared.item.Metal.{Metal}
use Rattle.pcb_model.specs.declared.item.Metal.TheVariants.{Pad}
use Rattle.pcb_model.specs.declared.design.Component.{Component}
use Rattle.pcb_model.specs.declared.design.FreeWire.{FreeWire}
use Rattle.pcb_model.specs.declared.design.Pin.{Pin}
use Rattle.pcb_model.specs.declared.design.SesScale.{SesScale}
use Rattle.pcb_model.specs.declared.design.Design.{Design}
use Rattle.pcb_model.specs.Pairs.{Agrees}
use Rattle.pcb_model.specs.Plain.{IsPlainCopper, IsPlainItem}
use Rattle.pcb_model.specs.Scale.{is_whole, is_whole_point, is_whole_metal, is_whole_net, keeps_resolution, scale_of}
use Rattle.pcb_model.specs.Sound.{HasOnePad, IsCopper}
use Rattle.pcb_model.specs.Sound.{IsFixedSound, IsFreeSound, IsItemOf, IsNetSound, IsPairSound, IsPinSound, IsSound}
use Rattle.plane_joins.specs.Changed.{AreOnScale, MayFollow, with_fixed}

no_pad : (i : ℕ) (m : Metal) → IsCopper m → m ≡ Pad i → ⊥
no_pad i m h e = subst IsCopper e h

-- ---- soundness
module _ (d : Design) (more : List Item) where
  item_with : (a : Item) → IsItemOf d a → IsItemOf (with_fixed d more) a
  item_with a h = record {
    fits = h.fits;
    metal_fits = h.metal_fits;
    metal_in_range = h.metal_in_range;
    layers_in_range = h.layers_in_range;
    net_in_range = h.net_in_range;
  }

  fixed_with : (i : ℕ) (a : Item) → IsFixedSound d i a → IsFixedSound (with_fixed d more) i a
  fixed_with i a h = record { numbered = h.numbered; fixed = h.fixed; item = item_with a h.item }

  pad_with : All (λ (a : Item). IsCopper a.metal) more → (i : ℕ) (p : Pin) → HasOnePad d i p
      → HasOnePad (with_fixed d more) i p
  pad_with copper i p h = record {
    pad = h.pad;
    there = Contains-append_left d.fixed more h.pad h.there;
    is_pad = h.is_pad;
    net_is = h.net_is;
    only = λ b there is. by b is (Contains-append_cases d.fixed more b there);
  }
    where
      by : (b : Item) → b.metal ≡ Pad i → Contains d.fixed b ⊎ Contains more b → b.id ≡ h.pad.id
      by b is (inl there) = h.only b there is
      by b is (inr there) =
          absurd (no_pad i b.metal (All-contains (λ (a : Item). IsCopper a.metal) more b copper there) is)

  pub sound_with' : IsSound d → MayFollow d more → IsSound (with_fixed d more)
  sound_with' s h = record {
    parts = record {
      some_layers = s.parts.some_layers;
      few_layers = s.parts.few_layers;
      some_bounds = s.parts.some_bounds;
      few_padstacks = s.parts.few_padstacks;
      few_components = s.parts.few_components;
      few_pins = s.parts.few_pins;
      few_nets = s.parts.few_nets;
      few_classes = s.parts.few_classes;
    };
    fits = record {
      rules_within = record {
        structure = s.fits.rules_within.structure;
        classes_within = s.fits.rules_within.classes_within;
        nets_within = s.fits.rules_within.nets_within;
        pairs_within = s.fits.rules_within.pairs_within;
      };
      bounds_fit = s.fits.bounds_fit;
      padstacks_fit = s.fits.padstacks_fit;
    };
    some_per = s.some_per;
    few_per = s.few_per;
    width_within = s.width_within;
    class_widths_within = s.class_widths_within;
    pairs = All-weaker (IsPairSound d) (IsPairSound (with_fixed d more))
        (λ p q. record { a_in_range = q.a_in_range; b_in_range = q.b_in_range }) d.pairs s.pairs;
    padstack_layers = s.padstack_layers;
    components = s.components;
    pins = All-weaker (IsPinSound d) (IsPinSound (with_fixed d more))
        (λ p q. record { within = q.within; component_in_range = q.component_in_range; net_in_range = q.net_in_range })
        d.pins s.pins;
    nets = All-weaker (IsNetSound d) (IsNetSound (with_fixed d more))
        (λ n q. record {
          class_in_range = q.class_in_range;
          few_vias = q.few_vias;
          vias_usable = q.vias_usable;
          width_within = q.width_within;
        }) d.nets s.nets;
    net_pins = λ n net at. let q = s.net_pins n net at in record { once = q.once; exact = q.exact };
    pads = λ i p at. pad_with h.copper i p (s.pads i p at);
    fixed = λ i a at. fixed_with i a (h.each i a at);
    free = All-weaker (IsFreeSound d) (IsFreeSound (with_fixed d more))
        (λ f q. record {
          copper = q.copper;
          fits = q.fits;
          in_range = q.in_range;
          pieces_fit = q.pieces_fit;
          net_in_range = q.net_in_range;
        }) d.free s.free;
    distinct_names = record {
      layers = s.distinct_names.layers;
      padstacks = s.distinct_names.padstacks;
      components = s.distinct_names.components;
      nets = s.distinct_names.nets;
    };
    printable_names = record {
      design = s.printable_names.design;
      host_cad = s.printable_names.host_cad;
      host_version = s.printable_names.host_version;
      layers = s.printable_names.layers;
      padstacks = s.printable_names.padstacks;
      components = s.printable_names.components;
      nets = s.printable_names.nets;
    };
  }

pub sound_with : (d : Design) (more : List Item) → IsSound d → MayFollow d more → IsSound (with_fixed d more)
sound_with d more s h = sound_with' d more s h

pub plain_with : (d : Design) (more : List Item) → IsPlainCopper d → All IsPlainItem more
    → IsPlainCopper (with_fixed d more)
plain_with d more h plain = record {
  padstacks = h.padstacks;
  fixed = All-append IsPlainItem d.fixed more h.fixed plain;
}

-- ---- pairs
pub agrees_with : (d : Design) (more : List Item) (a b : Item) → Agrees d a b → Agrees (with_fixed d more) a b
agrees_with d more a b h = record { keep = h.keep; stay_off = h.stay_off }

pub agreed_with : (d : Design) (more : List Item) (a b : Item) → Agrees (with_fixed d more) a b → Agrees d a b
agreed_with d more a b h = record { keep = h.keep; stay_off = h.stay_off }

-- ---- the session's scale
and_turned : (a b : Bool) → (a && b) ≡ (b && a)
and_turned true true = refl
and_turned true false = refl
and_turned false true = refl
and_turned false false = refl

-- one test more among those of the fixed items is one test more of all
put_in : (a b c n f m r : Bool) → (a && b && (c && n && (f && m) && r)) ≡ ((a && b && (c && n && f && r)) && m)
put_in false b c n f m r = refl
put_in true false c n f m r = refl
put_in true true false n f m r = refl
put_in true true true false f m r = refl
put_in true true true true false m r = refl
put_in true true true true true m r = and_turned m r

module _ (d : Design) (more : List Item) where
  abbrev unit_is : ℕ
  unit_is = unit_nm d.unit / d.per

  keeps_with : keeps_resolution (with_fixed d more)
      ≡ (keeps_resolution d && list_all (λ (a : Item). is_whole_metal d unit_is a.metal) more)
  keeps_with =
      ap (λ (b : Bool). nat_lt 0 d.per && is_whole d.per (unit_nm d.unit)
      && (list_all (λ (c : Component). is_whole_point unit_is c.at) d.components
      && list_all (is_whole_net d unit_is) d.nets && b
      && list_all (λ (w : FreeWire). is_whole_metal d unit_is w.metal) d.free))
      (list_all-append (λ (a : Item). is_whole_metal d unit_is a.metal) d.fixed more)
      ∙ put_in (nat_lt 0 d.per) (is_whole d.per (unit_nm d.unit))
      (list_all (λ (c : Component). is_whole_point unit_is c.at) d.components)
      (list_all (is_whole_net d unit_is) d.nets)
      (list_all (λ (a : Item). is_whole_metal d unit_is a.metal) d.fixed)
      (list_all (λ (a : Item). is_whole_metal d unit_is a.metal) more)
      (list_all (λ (w : FreeWire). is_whole_metal d unit_is w.metal) d.free)

  abbrev scale_at : Bool → SesScale
  scale_at b = if b then record { unit = d.unit; per = d.per; nm = unit_is }
      else record { unit = Um; per = 1000; nm = 1 }

  scale_if : (b : Bool) → keeps_resolution d ≡ b
      → list_all (λ (a : Item). is_whole_metal d (scale_at (keeps_resolution d)).nm a.metal) more ≡ true
      → scale_at (keeps_resolution d && list_all (λ (a : Item). is_whole_metal d unit_is a.metal) more)
      ≡ scale_at (keeps_resolution d)
  scale_if true e h =
      ap (λ (b : Bool). scale_at (keeps_resolution d && b))
      (ap (λ (b : Bool). list_all (λ (a : Item). is_whole_metal d (scale_at b).nm a.metal) more) (sym e) ∙ h)
      ∙ ap scale_at (and_turned (keeps_resolution d) true)
  scale_if false e h =
      ap (λ (b : Bool). scale_at (b && list_all (λ (a : Item). is_whole_metal d unit_is a.metal) more)) e
      ∙ ap scale_at (sym e)

pub scale_with : (d : Design) (more : List Item) → AreOnScale d more → scale_of (with_fixed d more) ≡ scale_of d
unfolding scale_of
scale_with d more h = ap (scale_at d more) (keeps_with d more) ∙ scale_if d more (keeps_resolution d) refl h
