-- How layers, and what lies on several of them, are painted.
use Rattle.std.specs.Prelude.{ℕ, ◌/◌, ◌%◌, ◌==◌, if◌then◌else◌, List, [], ◌++◌, codes, decimal}
use Rattle.board_picture.specs.declared.shapes.Hatch.{Hatch}
use Rattle.board_picture.specs.declared.shapes.Hatch.TheVariants.{Wires, Vias, Both}

-- hues of Okabe and Ito, lighter or darker than theirs so that greys differ: 101, 158, 76, 213, 51, 187, 130, 24 of 255
abbrev pub colour_word : ℕ → List ℕ
colour_word k =
    if k == 0 then codes "#BE4B00" else if k == 1 then codes "#56B4E9" else if k == 2 then codes "#00724F"
    else if k == 3 then codes "#F0E442" else if k == 4 then codes "#003F7F" else if k == 5 then codes "#E0A5C8"
    else if k == 6 then codes "#B98000" else codes "#181818"

-- layers of each further eight are dashed, with longer dashes each time
abbrev pub dash_words : ℕ → List ℕ
dash_words k = if k == 0 then [] else codes " stroke-dasharray=\"" ++ decimal k ++ codes " 1\""

-- how the layer with this number is painted
unfoldable pub paint_words : ℕ → List ℕ
paint_words layer = codes " fill=\"" ++ colour_word (layer % 8) ++ codes "\" stroke=\"" ++ colour_word (layer % 8)
    ++ codes "\" opacity=\"0.85\"" ++ dash_words (layer / 8)

-- vias and pads on two layers or more
abbrev pub through_paint : List ℕ
through_paint = codes " fill=\"#000\" stroke=\"#000\" opacity=\"0.85\""

-- keepouts, by their hatching
abbrev pub hatch_paint : Hatch → List ℕ
hatch_paint Wires = codes " fill=\"url(#no-wires)\" stroke=\"url(#no-wires)\""
hatch_paint Vias = codes " fill=\"url(#no-vias)\" stroke=\"url(#no-vias)\""
hatch_paint Both = codes " fill=\"url(#no-copper)\" stroke=\"url(#no-copper)\""
