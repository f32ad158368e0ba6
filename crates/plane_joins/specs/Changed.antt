-- A design with further fixed items.
use Rattle.std.specs.Prelude.{◌≡◌, ℕ, true, List, ◌++◌, All, Some, slice_get}
use Rattle.pcb_model.specs.declared.item.Item.{Item}
use Rattle.pcb_model.specs.declared.design.Design.{Design}
use Rattle.pcb_model.specs.Scale.{is_whole_metal, scale_of}
use Rattle.pcb_model.specs.Sound.{IsCopper, IsFixedSound}
use Rattle.std.specs.List.{list_all}

abbrev pub with_fixed : Design → List Item → Design
with_fixed d more = record {
  name = d.name;
  unit = d.unit;
  per = d.per;
  host_cad = d.host_cad;
  host_version = d.host_version;
  layers = d.layers;
  bounds = d.bounds;
  padstacks = d.padstacks;
  components = d.components;
  pins = d.pins;
  nets = d.nets;
  classes = d.classes;
  rules = d.rules;
  pairs = d.pairs;
  via_at_smd = d.via_at_smd;
  fixed = d.fixed ++ more;
  free = d.free;
  notes = d.notes;
}

-- wires and vias that may stand behind the design's fixed items
pub record MayFollow (d : Design) (more : List Item) : Type 0 where
  pub each : (i : ℕ) (a : Item) → slice_get (d.fixed ++ more) i ≡ Some a → IsFixedSound d i a
  pub copper : All (λ (a : Item). IsCopper a.metal) more

-- they are whole in the session's unit
abbrev pub AreOnScale : Design → List Item → Type 0
AreOnScale d more = list_all (λ (a : Item). is_whole_metal d (scale_of d).nm a.metal) more ≡ true
