-- The type of a session's measure, which its crate keeps to itself.
use Rattle.ses_reader.specs.Measures.{plain_measure}

-- the type of a value
abbrev type_of : {A : Type 0} → A → Type 0
type_of {A = A} a = A

-- that of a measure
abbrev pub Measure : Type 0
Measure = type_of plain_measure
