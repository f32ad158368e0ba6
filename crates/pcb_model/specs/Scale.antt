-- The scale of a session: the design's resolution, where all that a session prints is whole in it.
use Rattle.std.specs.Prelude.{ℕ, ◌/◌, ◌%◌, ◌==◌, nat_lt, Bool, true, ◌&&◌, if◌then◌else◌, map, unsigned_abs, Some}
use Rattle.std.specs.Prelude.{slice_get, ◌++◌, ◌∷◌, []}
use Rattle.std.specs.List.{list_all}
use Rattle.std.specs.Option.{option_map_or}
use Rattle.geo_kernel.specs.declared.point.Point.{Point}
use Rattle.geo_kernel.specs.declared.spine.Spine.{Spine}
use Rattle.geo_kernel.specs.declared.spine.Spine.TheVariants.{Chain, Area}
use Rattle.geo_kernel.specs.declared.unit.Unit.TheVariants.{Um}
use Rattle.geo_kernel.specs.Units.{unit_nm}
use Rattle.pcb_model.specs.declared.rules.TheConstants.{DEFAULT_WIDTH}
use Rattle.pcb_model.specs.declared.item.Piece.{Piece}
use Rattle.pcb_model.specs.declared.item.Item.{Item}
use Rattle.pcb_model.specs.declared.item.Metal.{Metal}
use Rattle.pcb_model.specs.declared.item.Metal.TheVariants.{Wire, Via, Pad, Ban}
use Rattle.pcb_model.specs.declared.design.Component.{Component}
use Rattle.pcb_model.specs.declared.design.RuleSet.{RuleSet}
use Rattle.pcb_model.specs.declared.design.Net.{Net}
use Rattle.pcb_model.specs.declared.design.Padstack.{Padstack}
use Rattle.pcb_model.specs.declared.design.FreeWire.{FreeWire}
use Rattle.pcb_model.specs.declared.design.Design.{Design}
use Rattle.pcb_model.specs.declared.design.SesScale.{SesScale}
use Rattle.pcb_model.specs.Rules.{first_present, with_class}

abbrev pub is_whole : ℕ → ℕ → Bool
is_whole nm n = n % nm == 0

abbrev pub is_whole_point : ℕ → Point → Bool
is_whole_point nm p = is_whole nm (unsigned_abs p.x) && is_whole nm (unsigned_abs p.y)

abbrev pub is_whole_spine : ℕ → Spine → Bool
is_whole_spine nm (Chain ps) = list_all (is_whole_point nm) ps
is_whole_spine nm (Area loops) = list_all (list_all (is_whole_point nm)) loops

abbrev pub is_whole_piece : ℕ → Piece → Bool
is_whole_piece nm c = is_whole nm c.width && is_whole_spine nm c.spine

-- the padstack with this number, if there is one
abbrev pub is_whole_padstack : Design → ℕ → ℕ → Bool
is_whole_padstack d nm p =
    option_map_or (λ (s : Padstack). list_all (is_whole_piece nm) s.pieces) (slice_get d.padstacks p) true

-- a wire, or a via and its padstack
abbrev pub is_whole_metal : Design → ℕ → Metal → Bool
is_whole_metal d nm (Wire layer width chain) = is_whole nm width && list_all (is_whole_point nm) chain
is_whole_metal d nm (Via padstack at) = is_whole_point nm at && is_whole_padstack d nm padstack
is_whole_metal d nm (Pad pin) = true
is_whole_metal d nm (Ban wires vias) = true

-- the width that the rules give a net, as `width_for` at its number
abbrev pub net_width : Design → Net → ℕ
net_width d n = first_present DEFAULT_WIDTH (map (λ (rs : RuleSet). rs.width) (with_class d (Some n) ++ d.rules ∷ []))

-- a net's width, and the padstacks of its vias
abbrev pub is_whole_net : Design → ℕ → Net → Bool
is_whole_net d nm n = is_whole nm (net_width d n) && list_all (is_whole_padstack d nm) n.vias

-- the component places, the nets, and the wiring, fixed and free
abbrev pub is_on_scale : Design → ℕ → Bool
is_on_scale d nm =
    list_all (λ (c : Component). is_whole_point nm c.at) d.components && list_all (is_whole_net d nm) d.nets
    && list_all (λ (a : Item). is_whole_metal d nm a.metal) d.fixed
    && list_all (λ (w : FreeWire). is_whole_metal d nm w.metal) d.free

-- a unit of the resolution is a whole number of nm, and all is whole in it
abbrev pub keeps_resolution : Design → Bool
keeps_resolution d = nat_lt 0 d.per && is_whole d.per (unit_nm d.unit) && is_on_scale d (unit_nm d.unit / d.per)

-- the design's resolution where it can be kept, or else 1000 units to the micrometre, of 1 nm
unfoldable pub scale_of : Design → SesScale
scale_of d = if keeps_resolution d then record { unit = d.unit; per = d.per; nm = unit_nm d.unit / d.per }
    else record { unit = Um; per = 1000; nm = 1 }
