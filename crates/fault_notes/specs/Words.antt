-- What is wrong with the words of a command line.
use Rattle.std.specs.Prelude.{◌≡◌, ◌≢◌, ℕ, List, [], ◌++◌, Option, None, Some, codes, slice_get}
use Rattle.std.specs.Prelude.{String, string_bytes}
use Rattle.std.specs.Fmt.{decimal}
use Rattle.std.specs.declared.alloc.Global.{Global}
use Rattle.route_words.specs.Parts.{Word, look_of}
use Rattle.route_words.specs.Parts.Look.{plain}
use Rattle.route_words.specs.Words.{number_between}
use Rattle.route_words.specs.declared.limits.TheConstants.{LAST_BOARD, LONGEST_GRID, MOST_PASSES, MOST_VIA_COST}
use Rattle.route_words.specs.declared.limits.TheConstants.{MOST_TRIES, MOST_WORKERS}
use Rattle.fault_notes.specs.declared.trouble.Choice.{Choice}
use Rattle.fault_notes.specs.declared.trouble.Choice.TheVariants.{Grid, Workers, Passes, ViaCost, Tries, OmitFixed}
use Rattle.fault_notes.specs.declared.trouble.Choice.TheVariants.{Diagonal, From}
use Rattle.fault_notes.specs.declared.trouble.Range.{Range}
use Rattle.fault_notes.specs.declared.trouble.Trouble.{Trouble}
use Rattle.fault_notes.specs.declared.trouble.Trouble.TheVariants.{NoCommand, NotACommand, Strange, Again, NoValue}
use Rattle.fault_notes.specs.declared.trouble.Trouble.TheVariants.{Outside, Valued, NotABoard, NoOptions, Empty}
use Rattle.fault_notes.specs.declared.trouble.Trouble.TheVariants.{NoName, Surplus, Missing}
use Rattle.fault_notes.specs.Notes.{IsFramed}

-- ---- options

abbrev pub name_of : Choice → Word
name_of Grid = codes "--grid"
name_of Workers = codes "--workers"
name_of Passes = codes "--passes"
name_of ViaCost = codes "--via-cost"
name_of Tries = codes "--tries"
name_of OmitFixed = codes "--omit-fixed"
name_of From = codes "--from"
name_of Diagonal = codes "--diagonal"

-- the numbers that an option takes, if it takes one
abbrev pub range_of : Choice → Option Range
range_of Grid = Some (record { least = 1; most = LONGEST_GRID })
range_of Workers = Some (record { least = 1; most = MOST_WORKERS })
range_of Passes = Some (record { least = 1; most = MOST_PASSES })
range_of ViaCost = Some (record { least = 0; most = MOST_VIA_COST })
range_of Tries = Some (record { least = 0; most = MOST_TRIES })
range_of OmitFixed = None
range_of From = None
range_of Diagonal = None

abbrev pub board_range : Range
board_range = record { least = 1; most = LAST_BOARD }

-- the option with a value
abbrev pub with_value : Choice → Word → Word
with_value choice value = name_of choice ++ (codes "=" ++ value)

-- the word is no number in the range
abbrev pub IsOutside : Range → Word → Type 0
IsOutside range word = number_between range.least range.most word ≡ None

-- the word is no option of `route`, with a value or without
pub record IsNoChoice (word : Word) : Type 0 where
  pub alone : (choice : Choice) → word ≢ name_of choice
  pub valued : (choice : Choice) (value : Word) → word ≢ with_value choice value

-- ---- what is said

-- one of the words
pub record IsAmong (words : List (String Global)) (word : Word) : Type 0 where
  pub at : ℕ
  pub found : String Global
  pub there : slice_get words at ≡ Some found
  pub is : string_bytes found ≡ word

-- the word is the value behind the option, or holds it, and is no number in the range
pub data IsBadValue (choice : Choice) (range : Range) (words : List (String Global)) (word : Word) : Type 0 where
  behind : IsAmong words (name_of choice) → IsOutside range word → IsBadValue choice range words word
  within : (value : Word) → word ≡ with_value choice value → IsOutside range value
      → IsBadValue choice range words word

-- that is wrong with these words, the command first
abbrev pub IsTrouble : List (String Global) → Trouble → Type 0
IsTrouble words NoCommand = words ≡ []
IsTrouble words (NotACommand word) = IsAmong words word.now
IsTrouble words (Strange word) = IsAmong words word.now × (look_of word.now ≢ plain) × IsNoChoice word.now
IsTrouble words (Again word) = IsAmong words word.now
IsTrouble words (NoValue choice range) = IsAmong words (name_of choice) × (range_of choice ≡ Some range)
IsTrouble words (Outside choice range word) =
    IsAmong words word.now × (range_of choice ≡ Some range) × IsBadValue choice range words word.now
IsTrouble words (NoName word) = IsAmong words word.now
IsTrouble words (Valued word) = IsAmong words word.now
IsTrouble words (NotABoard word) = IsAmong words word.now × IsOutside board_range word.now
IsTrouble words (NoOptions word) = IsAmong words word.now
IsTrouble words Empty = IsAmong words []
IsTrouble words (Surplus word) = IsAmong words word.now
IsTrouble words Missing = Unit {0}

-- ---- how it is said

abbrev pub range_words : Range → List ℕ
range_words range = decimal range.least ++ (codes " to " ++ decimal range.most)

-- the program, the word, and what it should be where that is a number
abbrev pub trouble_front : Trouble → List ℕ
trouble_front NoCommand = codes "dsnroute: "
trouble_front (NotACommand word) = codes "dsnroute: " ++ (word.now ++ codes ": ")
trouble_front (Strange word) = codes "dsnroute: " ++ (word.now ++ codes ": ")
trouble_front (Again word) = codes "dsnroute: " ++ (word.now ++ codes ": ")
trouble_front (NoValue choice range) =
    codes "dsnroute: " ++ (name_of choice ++ (codes ": a whole number is wanted behind it, from " ++ range_words range))
trouble_front (Outside choice range word) = codes "dsnroute: " ++ (word.now
    ++ (codes ": " ++ (name_of choice ++ (codes " wants a whole number from " ++ range_words range))))
trouble_front (NoName word) = codes "dsnroute: " ++ (word.now ++ codes ": ")
trouble_front (Valued word) = codes "dsnroute: " ++ (word.now ++ codes ": ")
trouble_front (NotABoard word) =
    codes "dsnroute: " ++ (word.now ++ (codes ": gen wants a whole number from " ++ range_words board_range))
trouble_front (NoOptions word) = codes "dsnroute: " ++ (word.now ++ codes ": ")
trouble_front Empty = codes "dsnroute: "
trouble_front (Surplus word) = codes "dsnroute: " ++ (word.now ++ codes ": ")
trouble_front Missing = codes "dsnroute: "

-- the note of wrong words: what is wrong in a line, and the program's usage
abbrev pub IsWordNote : List ℕ → Trouble → List ℕ → Type 0
IsWordNote usage trouble note = IsFramed (trouble_front trouble) (codes "\n" ++ usage) note
