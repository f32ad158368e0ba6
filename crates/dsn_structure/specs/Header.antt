-- What stands before the sections: the design's name, its resolution and unit, and what wrote it.
use Rattle.std.specs.Prelude.{◌==◌, ◌&&◌, ◌+◌, ℕ, List, [], ◌∷◌, ◌++◌, Option, Some, None, codes, is_some, slice_get}
use Rattle.std.specs.Prelude.{unwrap_or, if◌then◌else◌}
use Rattle.std.specs.Option.{option_map, option_map_or}
use Rattle.std.specs.Str.{str_eq_ignore_ascii_case}
use Rattle.dsn_tree.specs.declared.tree.Tree.{Tree}
use Rattle.dsn_tree.specs.Heads.{is_headed, word}
use Rattle.dsn_units.specs.Reading.{decimal_of}
use Rattle.dsn_units.specs.Length.{whole_of}
use Rattle.dsn_units.specs.declared.number.Decimal.{Decimal}
use Rattle.dsn_units.specs.declared.length.Scale.{Scale}
use Rattle.geo_kernel.specs.declared.unit.Unit.{Unit}
use Rattle.geo_kernel.specs.declared.unit.Unit.TheVariants.{Inch, Mil, Cm, Mm, Um}
use Rattle.geo_kernel.specs.Units.{unit_nm}
use Rattle.dsn_shapes.specs.declared.known.ListKind.TheVariants as list
use Rattle.dsn_shapes.specs.declared.refusal.Refusal.{Refusal}
use Rattle.dsn_shapes.specs.declared.parts.Head.{Head}
use Rattle.dsn_shapes.specs.Refusals.{refused}
use Rattle.dsn_shapes.specs.Lists.{at_of, text_of, lists, name_of, nth_word, place_of, quoted_name, capped, notes_in}
use Rattle.dsn_shapes.specs.Lists.{left_out_in}
use Rattle.dsn_shapes.specs.declared.table.TheConstants.{NO_BOARD, NO_NUMBER, NO_SECTION, NO_UNIT}
use Rattle.pcb_model.specs.declared.limits.TheConstants.{MOST_PER}

-- ---- lists
abbrev pub resolutions : Tree → List Tree
resolutions pcb = lists (codes "resolution" ∷ []) (pcb ∷ [])

abbrev pub units : Tree → List Tree
units pcb = lists (codes "unit" ∷ []) (pcb ∷ [])

abbrev pub parsers : Tree → List Tree
parsers pcb = lists (codes "parser" ∷ []) (pcb ∷ [])

-- of several lists the first counts
abbrev pub first_of : List Tree → Option Tree
first_of ts = slice_get ts 0

-- the host lists of a head, in the parser lists
abbrev pub hosts : List ℕ → Tree → List Tree
hosts head pcb = lists (head ∷ []) (parsers pcb)

-- ---- the design's name
-- the group is a design and item 1 its name
abbrev pub not_pcb : Tree → List Refusal
not_pcb pcb = if is_headed (codes "pcb") pcb && is_some (word pcb 1) then [] else refused NO_BOARD (at_of pcb) ∷ []

-- ---- units
abbrev pub unit_of : List ℕ → Option Unit
unit_of text =
    if str_eq_ignore_ascii_case text (codes "inch") then Some Inch else
    (if str_eq_ignore_ascii_case text (codes "mil") then Some Mil else
    (if str_eq_ignore_ascii_case text (codes "cm") then Some Cm else
    (if str_eq_ignore_ascii_case text (codes "mm") then Some Mm else
    (if str_eq_ignore_ascii_case text (codes "um") then Some Um else
    None))))

-- word 1 of a list is its unit
abbrev pub unit_in : Tree → Unit
unit_in t = unwrap_or (unit_of (name_of t 1)) Um

abbrev pub unit_refusal : Tree → List Refusal
unit_refusal t = if is_some (unit_of (name_of t 1)) then [] else refused NO_UNIT (place_of t 1) ∷ []

-- ---- the resolution
-- a whole number from 1 to 1,000,000
abbrev pub some_count : Option ℕ → Option ℕ
some_count None = None
some_count (Some n) = if n == 0 then None else Some n

abbrev pub count_by : Option Decimal → Option ℕ
count_by None = None
count_by (Some d) = some_count (whole_of d MOST_PER)

abbrev pub count_of : Tree → Option ℕ
count_of t = count_by (decimal_of (name_of t 2))

abbrev pub count_refusal : Tree → List Refusal
count_refusal t = if is_some (count_of t) then [] else refused NO_NUMBER (place_of t 2) ∷ []

abbrev pub resolution_refusals : Tree → Option Tree → List Refusal
resolution_refusals pcb None = refused NO_SECTION (at_of pcb) ∷ []
resolution_refusals pcb (Some t) = unit_refusal t ++ count_refusal t

unfoldable pub resolution_unit : List Tree → Unit
resolution_unit ts = option_map_or unit_in (first_of ts) Um

unfoldable pub resolution_count : List Tree → ℕ
resolution_count ts = option_map_or (λ t. unwrap_or (count_of t) 0) (first_of ts) 0

-- ---- the scale of the design's numbers: its unit's, or else its resolution's
unfoldable pub scale_of : List Tree → List Tree → Scale
scale_of us ts = record { nm = unit_nm (option_map_or unit_in (first_of us) (resolution_unit ts)) }

-- ---- what wrote the design
abbrev pub host_in : Tree → Option (List ℕ)
host_in t = option_map text_of (nth_word t 1)

unfoldable pub host_of : List Tree → Option (List ℕ)
host_of ts = option_map_or host_in (first_of ts) None

unfoldable pub host_refusal : List Tree → List Refusal
host_refusal ts = option_map_or (λ t. quoted_name t 1) (first_of ts) []

-- ---- the whole
unfoldable pub scale_refusals : Tree → List Tree → List Tree → List Refusal
scale_refusals pcb ts us = resolution_refusals pcb (first_of ts) ++ option_map_or unit_refusal (first_of us) []

-- lists that are left out or passed over, beside those of the table `read_in` and `idle_in`
abbrev pub header_left_out : Tree → List Refusal
header_left_out pcb = left_out_in (pcb ∷ []) ++ left_out_in (parsers pcb)

abbrev pub header_notes : Tree → ℕ
header_notes pcb = capped (notes_in list.Pcb (pcb ∷ []) + notes_in list.Parser (parsers pcb))

-- all refusals of the head
abbrev pub head_refusals : Tree → List Refusal
head_refusals pcb = not_pcb pcb ++ (quoted_name pcb 1
    ++ (scale_refusals pcb (resolutions pcb) (units pcb)
    ++ (host_refusal (hosts (codes "host_cad") pcb) ++ (host_refusal (hosts (codes "host_version") pcb)
    ++ header_left_out pcb))))

-- its value
abbrev pub head_of : Tree → Head
head_of pcb = record {
  name = name_of pcb 1;
  unit = resolution_unit (resolutions pcb);
  per = resolution_count (resolutions pcb);
  scale = scale_of (units pcb) (resolutions pcb);
  host_cad = host_of (hosts (codes "host_cad") pcb);
  host_version = host_of (hosts (codes "host_version") pcb);
  notes = header_notes pcb;
}
