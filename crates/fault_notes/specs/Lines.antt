-- Status lines, by what they say.
use Rattle.std.specs.Prelude.{◌≡◌, ◌<◌, ◌^◌, ℕ, List, ◌++◌, Option, None, Some, IfSome, codes}
use Rattle.std.specs.Fmt.{decimal}
use Rattle.fault_notes.specs.declared.said.Counted.{Counted}
use Rattle.fault_notes.specs.declared.said.Counted.TheVariants.{Bytes, Layers, Nets, Pins, Items, Vertices, Nodes}
use Rattle.fault_notes.specs.declared.said.Said.{Said}
use Rattle.fault_notes.specs.declared.said.Said.TheVariants.{Usage, Refused, ReadFault, Limit, Check, Other}

-- the word for what is counted
abbrev pub word_of : Counted → List ℕ
word_of Bytes = codes "bytes"
word_of Layers = codes "layers"
word_of Nets = codes "nets"
word_of Pins = codes "pins"
word_of Items = codes "items"
word_of Vertices = codes "vertices"
word_of Nodes = codes "nodes"

-- the line that says it
abbrev pub line_for : Said → Option (List ℕ)
line_for (Usage number) = Some (codes "usage " ++ (decimal number ++ codes "\n"))
line_for (Refused number place) =
    Some (codes "refused " ++ (decimal number ++ (codes " at " ++ (decimal place ++ codes "\n"))))
line_for ReadFault = Some (codes "read fault\n")
line_for (Limit counted number) =
    Some (codes "limit " ++ (word_of counted ++ (codes " " ++ (decimal number ++ codes "\n"))))
line_for (Check number at) =
    Some (codes "check " ++ (decimal number ++ (codes " at " ++ (decimal at ++ codes "\n"))))
line_for Other = None

-- its numbers fit their types
abbrev pub IsInRange : Said → Type 0
IsInRange (Usage number) = number < 2 ^ 64
IsInRange (Refused number place) = (number < 2 ^ 64) × (place < 2 ^ 64)
IsInRange (Limit counted number) = number < 2 ^ 128
IsInRange (Check number at) = (number < 2 ^ 64) × (at < 2 ^ 64)
IsInRange said = Unit {0}

-- the answer is what the line says, and nothing else is
pub record Reads (line : List ℕ) (said : Said) : Type 0 where
  pub told : IfSome (line_for said) (λ told. line ≡ told)
  pub whole : (other : Said) → IsInRange other → line_for other ≡ Some line → said ≡ other
