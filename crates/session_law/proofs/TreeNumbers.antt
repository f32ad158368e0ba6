-- What the printed numbers and points of a session spell.
use Rattle.std.proofs.Common.{ℕ, suc, ℤ, List, [], ◌∷◌, refl, append_assoc}
use Rattle.std.specs.Prelude.{codes, decimal, flat_map}
use Rattle.std.specs.Fmt.{signed_decimal}
use Rattle.geo_kernel.specs.declared.point.Point.{Point}
use Rattle.geo_kernel.specs.declared.unit.Unit.{Unit as LengthUnit}
use Rattle.geo_kernel.specs.declared.unit.Unit.TheVariants.{Inch, Mil, Cm, Mm, Um}
use Rattle.pcb_model.specs.declared.design.SesScale.{SesScale}
use Rattle.ses_writer.specs.Words.{nearest, length_word, point_words, chain_words, area_words, directed}
use Rattle.ses_writer.specs.Session.{unit_word, resolution_line}
use Rattle.session_law.specs.Shape.{number_tree, point_trees, resolution_tree}
use Rattle.session_law.proofs.TreePlain.{IsSpelled, plainly, signed_plain, decimal_plain}
use Rattle.session_law.proofs.TreeSaying.{Says, closes, end, blank, gap, word, last_word, group, constant, both, each}
use Rattle.session_law.proofs.TreeSaying.{respell}

-- ---- numbers and points
-- a blank and a length
pub number_says : (room nm : ℕ) (x : ℤ) → Says room (number_tree nm x ∷ []) (length_word nm x) []
unfolding length_word
number_says room nm x = last_word (signed_decimal (nearest nm x)) (plainly _ (signed_plain (nearest nm x)))

-- a point
pub point_says : (room nm : ℕ) (p : Point) → Says room (point_trees nm p) (point_words nm p) []
point_says room nm p = both (number_says room nm p.x) (number_says room nm p.y)

-- the points of a chain
pub chain_says : (room nm : ℕ) (chain : List Point) → Says room (flat_map (point_trees nm) (directed chain))
    (chain_words nm chain) []
unfolding chain_words
chain_says room nm chain = each (point_trees nm) (point_words nm) (point_says room nm) (directed chain)

-- the points of loops
pub area_says : (room nm : ℕ) (loops : List (List Point)) → Says room (flat_map (flat_map (point_trees nm)) loops)
    (area_words nm loops) []
unfolding area_words
area_says room nm loops =
    each (flat_map (point_trees nm)) (flat_map (point_words nm))
    (each (point_trees nm) (point_words nm) (point_says room nm)) loops

-- ---- the resolution
-- a unit is a word
unit_spelled : (u : LengthUnit) → IsSpelled (unit_word u) (unit_word u)
unit_spelled Inch = constant (codes "inch") refl
unit_spelled Mil = constant (codes "mil") refl
unit_spelled Cm = constant (codes "cm") refl
unit_spelled Mm = constant (codes "mm") refl
unit_spelled Um = constant (codes "um") refl

-- the resolution
pub resolution_says : (room : ℕ) (s : SesScale) → Says (suc room) (resolution_tree s ∷ []) (resolution_line s) []
unfolding resolution_line resolution_tree
resolution_says room s = respell
    (gap (codes "    ") refl (group (codes "resolution") refl
    (word (unit_word s.unit) (unit_spelled s.unit) (word (decimal s.per) (plainly _ (decimal_plain s.per)) closes))
    (blank 10 refl end)))
    (simp (append_assoc) refl)
