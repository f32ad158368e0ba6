-- What a word looks like.
use Rattle.std.specs.Prelude.{◌≡◌, ◌≢◌, Option, None, Some, List}
use Rattle.route_words.specs.Parts.{Word, look_of}
use Rattle.route_words.specs.Parts.Look.{plain, dashes}
use Rattle.fault_notes.specs.declared.trouble.Choice.{Choice}
use Rattle.fault_notes.specs.declared.look.Look.{Look}
use Rattle.fault_notes.specs.declared.look.Look.TheVariants.{Plain, Dashes, Bare, Valued, Strange}
use Rattle.std.specs.Borrow.{Bor}
use Rattle.std.specs.Prelude.{ℕ}
use Rattle.fault_notes.specs.Words.{name_of, with_value, IsNoChoice}

-- the word is the option alone, or has a value behind it; None where it is neither
abbrev pub IsSpelled : Choice → Word → Option (Option (Bor (List ℕ))) → Type 0
IsSpelled choice word (Some (Some value)) = word ≡ with_value choice value.now
IsSpelled choice word (Some None) = word ≡ name_of choice
IsSpelled choice word None = (word ≢ name_of choice) × ((value : Word) → word ≢ with_value choice value)

abbrev pub IsLook : Word → Look → Type 0
IsLook word Plain = look_of word ≡ plain
IsLook word Dashes = look_of word ≡ dashes
IsLook word (Bare choice) = word ≡ name_of choice
IsLook word (Valued choice value) = word ≡ with_value choice value.now
IsLook word Strange = (look_of word ≢ plain) × IsNoChoice word
