-- The rings of vias, round their holes.
use Rattle.std.specs.Prelude.{ℕ, ◌+◌, ◌/◌, ◌%◌, ◌==◌, min, max, Bool, ◌&&◌, if◌then◌else◌, List, [], ◌++◌}
use Rattle.std.specs.Prelude.{length, codes}
use Rattle.std.specs.List.{fold}
use Rattle.geo_kernel.specs.declared.point.Point.{Point}
use Rattle.pcb_model.specs.declared.item.Piece.{Piece}
use Rattle.pcb_model.specs.declared.item.Metal.{Metal}
use Rattle.pcb_model.specs.declared.item.Metal.TheVariants.{Wire, Via, Pad, Ban}
use Rattle.pcb_model.specs.declared.item.Item.{Item}
use Rattle.pcb_model.specs.declared.design.Design.{Design}
use Rattle.board_picture.specs.Colours.{colour_word}
use Rattle.board_picture.specs.Words.{length_word, point_words}
use Rattle.board_picture.specs.Shapes.{hole_radius}

-- the first and the last layer with a piece; 255 and 0 where there is none
abbrev pub first_layer : List Piece → ℕ
first_layer pieces = fold (λ k (c : Piece). min k c.layer) 255 pieces

abbrev pub last_layer : List Piece → ℕ
last_layer pieces = fold (λ k (c : Piece). max k c.layer) 0 pieces

-- from the first of so many layers to the last
abbrev pub spans_board : ℕ → List Piece → Bool
spans_board layers pieces = first_layer pieces == 0 && last_layer pieces + 1 == layers

-- a circle round the place, whose line has this width and colour
unfoldable pub ring : Point → ℕ → ℕ → List ℕ → List ℕ
ring p radius width colour = codes "<circle r=\"" ++ length_word radius ++ codes "\" stroke-width=\""
    ++ length_word width ++ codes "\" stroke=\"" ++ colour ++ codes "\" transform=\"translate(" ++ point_words p
    ++ codes ")\"/>\n"

abbrev pub via_colour : List ℕ
via_colour = codes "#7FFF00"

abbrev pub through_ring : Point → ℕ → List ℕ
through_ring p radius = ring p radius radius via_colour

-- of a blind via: in the colour of its first layer, and within that in the colour of its last
unfoldable pub blind_rings : Point → ℕ → List Piece → List ℕ
blind_rings p radius pieces = ring p radius radius (colour_word (first_layer pieces % 8))
    ++ ring p radius (radius / 2) (colour_word (last_layer pieces % 8))

-- of a via at the place, on a board of so many layers
abbrev pub rings_at : ℕ → List Piece → Point → List ℕ
rings_at layers pieces p = if spans_board layers pieces then through_ring p (hole_radius pieces)
    else blind_rings p (hole_radius pieces) pieces

abbrev pub rings_by : ℕ → List Piece → Metal → List ℕ
rings_by layers pieces (Wire layer width chain) = []
rings_by layers pieces (Via padstack p) = rings_at layers pieces p
rings_by layers pieces (Pad pin) = []
rings_by layers pieces (Ban wires vias) = []

abbrev pub rings_of : Design → Item → List ℕ
rings_of d a = rings_by (length d.layers) a.pieces a.metal
