-- The legend, whose rows are one unit high.
use Rattle.std.specs.Prelude.{ℕ, ◌+◌, Bool, not, ◌&&◌, if◌then◌else◌, List, [], ◌++◌, length, count_by}
use Rattle.std.specs.Prelude.{flat_map, codes, decimal}
use Rattle.std.specs.List.{enumerate_from, list_any}
use Rattle.pcb_model.specs.declared.item.Item.{Item}
use Rattle.pcb_model.specs.declared.design.BoardLayer.{BoardLayer}
use Rattle.pcb_model.specs.declared.design.Design.{Design}
use Rattle.board_picture.specs.declared.legend.Mark.{Mark}
use Rattle.board_picture.specs.declared.legend.Mark.TheVariants.{Through, Full, Blind, NoWires, NoVias, NoCopper}
use Rattle.board_picture.specs.declared.open.OpenLine.{OpenLine}
use Rattle.board_picture.specs.declared.shapes.Hatch.{Hatch}
use Rattle.board_picture.specs.declared.shapes.Hatch.TheVariants.{Wires, Vias, Both}
use Rattle.board_picture.specs.declared.sheet.Sheet.{Sheet}
use Rattle.board_picture.specs.Words.{length_word, escaped}
use Rattle.board_picture.specs.Sheet.{legend_left}
use Rattle.board_picture.specs.Colours.{paint_words}
use Rattle.board_picture.specs.Shapes.{is_wire, is_via, is_through, is_hatched, have_breadth}
use Rattle.board_picture.specs.Rings.{spans_board}

-- ---- rows

unfoldable pub row_head : ℕ → List ℕ
row_head row = codes "<text x=\"2.5\" y=\"" ++ decimal row ++ codes ".8\">"

-- a word, and the number of what it counts
unfoldable pub count_row : ℕ → List ℕ → ℕ → List ℕ
count_row row word n = row_head row ++ word ++ decimal n ++ codes "</text>\n"

-- a sample line in a row, so wide and so painted
unfoldable pub swatch_head : ℕ → List ℕ
swatch_head row = codes "<path d=\"M0 " ++ decimal row ++ codes ".5h2\" stroke-width=\""

unfoldable pub layer_row : (ℕ × BoardLayer) → List ℕ
layer_row (i, layer) = swatch_head i ++ codes "0.6\"" ++ paint_words i ++ codes "/>"
    ++ row_head i ++ escaped layer.name ++ codes "</text>\n"

-- what a mark of the picture is drawn with, and what it means
abbrev pub swatch_words : Mark → List ℕ
swatch_words Through = codes "0.6\" fill=\"#000\" stroke=\"#000\" opacity=\"0.85\""
swatch_words Full = codes "0.3\" stroke=\"#7FFF00\""
swatch_words Blind = codes "0.3\" stroke=\"#000\" stroke-dasharray=\"0.3 0.2\""
swatch_words NoWires = codes "0.6\" stroke=\"url(#no-wires)\""
swatch_words NoVias = codes "0.6\" stroke=\"url(#no-vias)\""
swatch_words NoCopper = codes "0.6\" stroke=\"url(#no-copper)\""

abbrev pub label_words : Mark → List ℕ
label_words Through = codes "through pads and vias"
label_words Full = codes "via"
label_words Blind = codes "blind via, by its layers"
label_words NoWires = codes "no wires"
label_words NoVias = codes "no vias"
label_words NoCopper = codes "no wires and vias"

unfoldable pub mark_row : ℕ → Mark → List ℕ
mark_row row mark = codes "<path d=\"M0 " ++ decimal row ++ codes ".5h2\" stroke-width=\"" ++ swatch_words mark
    ++ codes "/><text x=\"2.5\" y=\"" ++ decimal row ++ codes ".8\">" ++ label_words mark ++ codes "</text>\n"

-- the stroke of open connections, and how many there are
unfoldable pub open_row : ℕ → ℕ → List ℕ
open_row row count = swatch_head row ++ codes "0.06\" stroke=\"#E0007A\" stroke-dasharray=\"0.5\"/>"
    ++ count_row row (codes "open ") count

-- how wide and high the board is
unfoldable pub size_row : ℕ → Sheet → List ℕ
size_row row s = row_head row ++ length_word s.wide ++ codes " x " ++ length_word s.high ++ codes " mm</text>\n"

-- ---- rows of what is there

-- a keepout is hatched where one of its pieces has a breadth
abbrev pub has_hatch : Hatch → Item → Bool
has_hatch hatch a = is_hatched hatch a.metal && have_breadth a.pieces

-- the item is a via that doesn't reach through the board of so many layers
abbrev pub is_blind : ℕ → Item → Bool
is_blind layers a = is_via a.metal && not (spans_board layers a.pieces)

abbrev pub is_full : ℕ → Item → Bool
is_full layers a = is_via a.metal && spans_board layers a.pieces

-- the item has this mark
abbrev pub has_mark : ℕ → Mark → Item → Bool
has_mark layers Through a = is_through a
has_mark layers Full a = is_full layers a
has_mark layers Blind a = is_blind layers a
has_mark layers NoWires a = has_hatch Wires a
has_mark layers NoVias a = has_hatch Vias a
has_mark layers NoCopper a = has_hatch Both a

abbrev pub is_there : ℕ → List Item → Mark → Bool
is_there layers items mark = list_any (has_mark layers mark) items

-- the row of a mark that is there, and the row that is free behind it
abbrev pub mark_words : ℕ → List Item → ℕ → Mark → List ℕ
mark_words layers items row mark = if is_there layers items mark then mark_row row mark else []

abbrev pub row_behind : ℕ → List Item → ℕ → Mark → ℕ
row_behind layers items row mark = if is_there layers items mark then row + 1 else row

-- the rows of the marks that are there, behind those of the layers
unfoldable pub mark_rows : ℕ → List Item → List ℕ
mark_rows layers items =
    let full = row_behind layers items layers Through in
    let blind = row_behind layers items full Full in
    let no_wires = row_behind layers items blind Blind in
    let no_vias = row_behind layers items no_wires NoWires in
    let no_copper = row_behind layers items no_vias NoVias in
    mark_words layers items layers Through ++ mark_words layers items full Full ++ mark_words layers items blind Blind
    ++ mark_words layers items no_wires NoWires ++ mark_words layers items no_vias NoVias
    ++ mark_words layers items no_copper NoCopper

-- the row behind all of them
abbrev pub row_behind_marks : ℕ → List Item → ℕ
row_behind_marks layers items =
    let full = row_behind layers items layers Through in
    let blind = row_behind layers items full Full in
    let no_wires = row_behind layers items blind Blind in
    let no_vias = row_behind layers items no_wires NoWires in
    let no_copper = row_behind layers items no_vias NoVias in
    row_behind layers items no_copper NoCopper

-- ---- the whole

abbrev pub wire_count : List Item → ℕ
wire_count items = count_by (λ (a : Item). is_wire a.metal) items

abbrev pub via_count : List Item → ℕ
via_count items = count_by (λ (a : Item). is_via a.metal) items

-- how many nets, wires and vias
unfoldable pub count_rows : ℕ → Design → List Item → List ℕ
count_rows row d items = count_row row (codes "nets ") (length d.nets)
    ++ count_row (row + 1) (codes "wires ") (wire_count items) ++ count_row (row + 2) (codes "vias ") (via_count items)

-- right of the board
unfoldable pub legend_head : Sheet → List ℕ
legend_head s = codes "<g transform=\"translate(" ++ length_word (legend_left s) ++ codes " "
    ++ length_word s.unit ++ codes ") scale(" ++ length_word s.unit ++ codes ")\" font-size=\"0.8\">\n"

abbrev pub layer_rows : Design → List ℕ
layer_rows d = flat_map layer_row (enumerate_from 0 d.layers)

unfoldable pub legend_part : Sheet → Design → List Item → List OpenLine → List ℕ
legend_part s d items lines =
    let row = row_behind_marks (length d.layers) items in
    legend_head s ++ layer_rows d ++ mark_rows (length d.layers) items ++ open_row row (length lines)
    ++ count_rows (row + 1) d items ++ size_row (row + 4) s ++ codes "</g>\n"
