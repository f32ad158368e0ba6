-- The picture of a board: its text as one concatenation, in mm, with y upwards as in the design.
-- Source: Scalable Vector Graphics 1.1.
use Rattle.std.specs.Prelude.{ℕ, zero, suc, ◌/◌, if◌then◌else◌, List, [], ◌∷◌, ◌++◌, length, flat_map, codes}
use Rattle.std.specs.Prelude.{slice_get}
use Rattle.std.specs.Option.{option_map_or}
use Rattle.geo_kernel.specs.declared.point.Point.{Point}
use Rattle.pcb_model.specs.declared.item.Item.{Item}
use Rattle.pcb_model.specs.declared.design.BoardLayer.{BoardLayer}
use Rattle.pcb_model.specs.declared.design.Component.{Component}
use Rattle.pcb_model.specs.declared.design.Design.{Design}
use Rattle.board_picture.specs.declared.open.OpenLine.{OpenLine}
use Rattle.board_picture.specs.declared.names.NameBox.{NameBox}
use Rattle.board_picture.specs.declared.shapes.Hatch.{Hatch}
use Rattle.board_picture.specs.declared.shapes.Hatch.TheVariants.{Wires, Vias, Both}
use Rattle.board_picture.specs.declared.sheet.Sheet.{Sheet}
use Rattle.board_picture.specs.Words.{length_word, mm_word, point_words, escaped}
use Rattle.board_picture.specs.Sheet.{sheet_of, sheet_width, sheet_height, rows_of, shift_x, shift_y}
use Rattle.board_picture.specs.Shapes.{loop_words, wire_on, land_on, through_shapes, keepout_shapes, hole_of}
use Rattle.board_picture.specs.Rings.{rings_of}
use Rattle.board_picture.specs.Names.{name_box, is_free}
use Rattle.board_picture.specs.Colours.{paint_words, through_paint, hatch_paint}
use Rattle.board_picture.specs.Legend.{legend_part}

-- ---- the head

-- what keepouts of wires, of vias and of both are hatched with, and the white sheet
unfoldable pub ground_words : List ℕ
ground_words = codes "<pattern id=\"no-wires\" width=\"0.8\" height=\"0.8\" patternUnits=\"userSpaceOnUse\""
    ++ codes " patternTransform=\"rotate(45)\"><path d=\"M0 0v1\" stroke=\"#777\" stroke-width=\"0.5\"/></pattern>\n"
    ++ codes "<pattern id=\"no-vias\" width=\"0.8\" height=\"0.8\" patternUnits=\"userSpaceOnUse\""
    ++ codes " patternTransform=\"rotate(-45)\"><path d=\"M0 0v1\" stroke=\"#777\""
    ++ codes " stroke-width=\"0.5\"/></pattern>\n"
    ++ codes "<pattern id=\"no-copper\" width=\"0.8\" height=\"0.8\" patternUnits=\"userSpaceOnUse\""
    ++ codes " patternTransform=\"rotate(45)\"><path d=\"M0 0v1M0 0h1\" stroke=\"#777\""
    ++ codes " stroke-width=\"0.5\"/></pattern>\n"
    ++ codes "<rect width=\"100%\" height=\"100%\" fill=\"#fff\"/>\n"

unfoldable pub head_part : Sheet → Design → List ℕ
head_part s d = codes "<svg xmlns=\"http://www.w3.org/2000/svg\" width=\"" ++ length_word (sheet_width s)
    ++ codes "mm\" height=\"" ++ length_word (sheet_height s (rows_of d)) ++ codes "mm\" viewBox=\"0 0 "
    ++ length_word (sheet_width s) ++ codes " " ++ length_word (sheet_height s (rows_of d))
    ++ codes "\" font-family=\"sans-serif\">\n<title>" ++ escaped d.name ++ codes "</title>\n" ++ ground_words

-- the board's left upper corner comes two units right of the sheet's and one below it, and y turns upwards
unfoldable pub board_head : Sheet → List ℕ
board_head s = codes "<g transform=\"translate(" ++ mm_word (shift_x s) ++ codes " " ++ mm_word (shift_y s)
    ++ codes ") scale(1 -1)\" fill-rule=\"evenodd\"" ++ codes " stroke-linecap=\"round\" stroke-linejoin=\"round\">\n"

-- ---- copper and keepouts

unfoldable pub keepout_group : Hatch → List Item → List ℕ
keepout_group hatch items = codes "<g class=\"keepouts\"" ++ hatch_paint hatch ++ codes ">\n"
    ++ flat_map (keepout_shapes hatch) items ++ codes "</g>\n"

-- those of wires, of vias and of both
unfoldable pub keepout_groups : List Item → List ℕ
keepout_groups items = keepout_group Wires items ++ keepout_group Vias items ++ keepout_group Both items

abbrev pub layer_name : Design → ℕ → List ℕ
layer_name d layer = option_map_or (λ (l : BoardLayer). l.name) (slice_get d.layers layer) []

-- pads and vias of this layer alone lie over its wires
unfoldable pub layer_group : Design → List Item → ℕ → List ℕ
layer_group d items layer =
    codes "<g id=\"" ++ escaped (layer_name d layer) ++ codes "\"" ++ paint_words layer ++ codes ">\n"
    ++ flat_map (wire_on layer) items ++ flat_map (land_on layer) items ++ codes "</g>\n"

-- the last layer lies lowest
abbrev pub layer_groups : Design → List Item → ℕ → List ℕ
layer_groups d items zero = []
layer_groups d items (suc layer) = layer_group d items layer ++ layer_groups d items layer

-- black, over all layers
unfoldable pub through_group : List Item → List ℕ
through_group items = codes "<g class=\"through\"" ++ through_paint ++ codes ">\n" ++ flat_map through_shapes items
    ++ codes "</g>\n"

-- of vias alone, below their holes
unfoldable pub ring_group : Design → List Item → List ℕ
ring_group d items = codes "<g class=\"vias\" fill=\"none\">\n" ++ flat_map (rings_of d) items ++ codes "</g>\n"

unfoldable pub hole_group : Design → List Item → List ℕ
hole_group d items = codes "<g class=\"holes\" fill=\"#fff\">\n" ++ flat_map (hole_of d) items ++ codes "</g>\n"

-- ---- edge, names and open connections

unfoldable pub bound_shape : List (List Point) → List ℕ
bound_shape loops = codes "<path d=\"" ++ flat_map loop_words loops ++ codes "\"/>\n"

unfoldable pub edge_group : Sheet → Design → List ℕ
edge_group s d = codes "<g class=\"edge\" fill=\"none\" stroke=\"#000\" stroke-width=\""
    ++ length_word (s.unit / 10) ++ codes "\">\n" ++ flat_map bound_shape d.bounds ++ codes "</g>\n"

-- turned back so that it can be read
unfoldable pub name_text : Component → List ℕ
name_text c = codes "<text transform=\"matrix(1 0 0 -1" ++ point_words c.at ++ codes ")\">" ++ escaped c.name
    ++ codes "</text>\n"

-- of these components' names those that are seen: one in the window that meets none of the names before it
abbrev pub names_from : Sheet → List NameBox → List Component → List ℕ
names_from s shown [] = []
names_from s shown (c ∷ rest) = if is_free s shown c then name_text c ++ names_from s (shown ++ name_box s c ∷ []) rest
    else names_from s shown rest

-- names end to the left of and above their components' places, where the first pad often lies
unfoldable pub name_group : Sheet → Design → List ℕ
name_group s d = codes "<g class=\"names\" transform=\"translate(-" ++ length_word (s.unit / 3)
    ++ codes " " ++ length_word (s.unit / 3) ++ codes ")\" font-size=\"" ++ length_word (s.unit / 2)
    ++ codes "\" text-anchor=\"end\" stroke=\"#fff\" stroke-width=\"" ++ length_word (s.unit / 10)
    ++ codes "\" paint-order=\"stroke\">\n" ++ names_from s [] d.components ++ codes "</g>\n"

unfoldable pub open_shape : OpenLine → List ℕ
open_shape l = codes "<path d=\"M" ++ point_words l.from ++ point_words l.to ++ codes "\"/>\n"

unfoldable pub open_group : Sheet → List OpenLine → List ℕ
open_group s lines = codes "<g class=\"open\" fill=\"none\" stroke=\"#E0007A\" stroke-width=\""
    ++ length_word (s.unit / 16) ++ codes "\" stroke-dasharray=\"" ++ length_word (s.unit / 2) ++ codes "\">\n"
    ++ flat_map open_shape lines ++ codes "</g>\n"

-- ---- the whole

unfoldable pub copper_part : Design → List Item → List ℕ
copper_part d items = keepout_groups items ++ layer_groups d items (length d.layers) ++ through_group items
    ++ ring_group d items ++ hole_group d items

unfoldable pub board_part : Sheet → Design → List Item → List OpenLine → List ℕ
board_part s d items lines = board_head s ++ copper_part d items ++ edge_group s d ++ name_group s d
    ++ open_group s lines ++ codes "</g>\n"

unfoldable pub picture_of : Design → List Item → List OpenLine → List ℕ
picture_of d items lines =
    let s = sheet_of d in
    head_part s d ++ board_part s d items lines ++ legend_part s d items lines ++ codes "</svg>\n"
