-- What is seen of a desk that keeps what it read.
use Rattle.std.specs.Prelude.{◌≡◌, ℕ, List, Option, IfSome, Result, Ok, Err, Vec, string_bytes}
use Rattle.std.specs.Option.{option_map}
use Rattle.std.specs.declared.alloc.Global.{Global}
use Rattle.desk_io.specs.declared.desk.DeskFail.{DeskFail}
use Rattle.desk_io.specs.declared.kept.KeptText.{KeptText}

-- the desk within
abbrev pub desk_of : {D : Type 0} → KeptText D → D
desk_of k = k.desk

-- the text that is kept, behind its name
abbrev pub kept_of : {D : Type 0} → KeptText D → Option (List ℕ × List ℕ)
kept_of k = option_map (λ p. (string_bytes p.0, p.1.items)) k.text

-- what is kept after a read is its text or none; after one that fails it is what was kept before
abbrev pub KeepsRead : {D : Type 0} → KeptText D → KeptText D → List ℕ → Result (Vec ℕ Global) DeskFail → Type 0
KeepsRead old new name (Ok v) = IfSome (kept_of new) (λ p. p ≡ (name, v.items))
KeepsRead old new name (Err e) = kept_of new ≡ kept_of old
