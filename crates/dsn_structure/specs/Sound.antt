-- What a head and a structure keep to where no refusal of them stands.
use Rattle.std.specs.Prelude.{◌≢◌, ◌+◌, ◌≤◌, List, length, All, AllPairs, IfSome}
use Rattle.pcb_model.specs.Sound.{IsPrintable}
use Rattle.dsn_shapes.specs.declared.parts.Head.{Head}
use Rattle.dsn_shapes.specs.declared.parts.Layer.{Layer}
use Rattle.dsn_shapes.specs.declared.parts.BanShape.{BanShape}
use Rattle.dsn_shapes.specs.declared.parts.Structure.{Structure}
use Rattle.dsn_shapes.specs.Fits.{IsBoundShape, IsRuleSetFit, IsShapeFit}
use Rattle.pcb_model.specs.declared.limits.TheConstants.{MOST_LAYERS, MOST_ITEMS, MOST_PER}

-- a resolution from 1 to 1,000,000, and names that a session can print
pub record IsHeadSound (h : Head) : Type 0 where
  pub some_per : 1 ≤ h.per
  pub few_per : h.per ≤ MOST_PER
  pub name_printable : IsPrintable h.name
  pub host_cad_printable : IfSome h.host_cad IsPrintable
  pub host_version_printable : IfSome h.host_version IsPrintable

-- at least one layer and not too many, whose names differ and can be printed
pub record AreLayersSound (layers : List Layer) : Type 0 where
  pub some : 1 ≤ length layers
  pub few : length layers ≤ MOST_LAYERS
  pub names_differ : AllPairs (λ (a b : Layer). a.name ≢ b.name) layers
  pub names_printable : All (λ (l : Layer). IsPrintable l.name) layers

-- such layers, at least one boundary, and boundaries, keepouts and rules that fit
pub record IsStructureSound (st : Structure) : Type 0 where
  pub layers : AreLayersSound st.layers
  pub some_bounds : 1 ≤ length st.bounds
  pub few_items : length st.bounds + length st.bans ≤ MOST_ITEMS
  pub bounds_fit : All IsBoundShape st.bounds
  pub bans_fit : All (λ (ban : BanShape). IsShapeFit ban.shape) st.bans
  pub rules_fit : IsRuleSetFit st.rules
