-- What the words of the command line mean: a command with its knobs, or why they are refused.
use Rattle.std.specs.Prelude.{◌≡◌, ◌≤◌, ◌<◌, ⊤, IfSome, String, string_bytes, map}
use Rattle.std.specs.Prelude.{ℕ, ◌*◌, ◌+◌, ◌-◌, ◌==◌, nat_le, Bool, false, ◌&&◌, ◌||◌, unwrap_or, if◌then◌else◌}
use Rattle.std.specs.Prelude.{codes, fold, length}
use Rattle.std.specs.Prelude.{List, [], ◌∷◌, Option, Some, None, is_some, option_map, option_and_then, Result, Ok, Err}
use Rattle.std.specs.declared.alloc.Global.{Global}
use Rattle.std.specs.List.{list_all}
use Rattle.std.specs.Str.{bytes_eq}
use Rattle.route_words.specs.Parts.{Word, Form, Part, fit, names_in, parts_of, value_in}
use Rattle.route_words.specs.declared.command.Command.{Command}
use Rattle.route_words.specs.declared.command.Command.TheVariants.{Route, Check, Gen}
use Rattle.route_words.specs.declared.command.Knobs.{Knobs}
use Rattle.route_words.specs.declared.command.WordFault.{WordFault}
use Rattle.route_words.specs.declared.command.WordFault.TheVariants.{NoCommand, UnknownCommand, Usage, Memory}
use Rattle.route_words.specs.declared.limits.TheConstants.{LAST_BOARD, LONGEST_GRID, MOST_PASSES, MOST_VIA_COST}
use Rattle.route_words.specs.declared.limits.TheConstants.{MOST_TRIES, MOST_WORKERS, PASSES, TRIES, VIA_COST, WORKERS}

-- ---- numbers

abbrev pub is_digit : ℕ → Bool
is_digit c = nat_le 48 c && nat_le c 57

-- the number that digits spell
abbrev pub number_in : Word → ℕ
number_in digits = fold (λ n c. 10 * n + (c - 48)) 0 digits

-- one to seven digits
abbrev pub is_short_number : Word → Bool
is_short_number word = nat_le 1 (length word) && nat_le (length word) 7 && list_all is_digit word

abbrev pub is_between : ℕ → ℕ → ℕ → Bool
is_between least most n = nat_le least n && nat_le n most

-- the number that one to seven digits spell, where it is in the range
abbrev pub number_between : ℕ → ℕ → Word → Option ℕ
number_between least most word =
    if is_short_number word && is_between least most (number_in word) then Some (number_in word) else None

-- the number of an option, or the default where the option isn't given; None where its value is no such number
abbrev pub number_or : ℕ → ℕ → ℕ → Option Word → Option ℕ
number_or default least most None = Some default
number_or default least most (Some word) = number_between least most word

-- ---- route

-- the grid in nm of a value in um, if one is given; None where the value is no such number
abbrev pub grid_in : Option Word → Option (Option ℕ)
grid_in None = Some None
grid_in (Some word) = option_map (λ um. Some (1000 * um)) (number_between 1 LONGEST_GRID word)

-- the knobs that these values of `--grid`, `--workers`, `--passes`, `--via-cost` and `--tries` give, the first and the
-- fourth in um
abbrev pub knobs_in : Option Word → Option Word → Option Word → Option Word → Option Word → Bool → Option Knobs
knobs_in grid workers passes via_cost tries omit_fixed =
    option_and_then (λ grid. option_and_then (λ workers. option_and_then (λ passes. option_and_then
    (λ um. option_map (λ tries. record {
      grid = grid;
      workers = workers;
      passes = passes;
      via_cost = 1000 * um;
      tries = tries;
      omit_fixed = omit_fixed;
    }) (number_or TRIES 0 MOST_TRIES tries)) (number_or VIA_COST 0 MOST_VIA_COST via_cost))
    (number_or PASSES 1 MOST_PASSES passes)) (number_or WORKERS 1 MOST_WORKERS workers)) (grid_in grid)

-- the knobs that the options among the parts give
abbrev pub knobs_of : List Part → Option Knobs
knobs_of parts = knobs_in (value_in (codes "grid") parts) (value_in (codes "workers") parts)
    (value_in (codes "passes") parts) (value_in (codes "via-cost") parts) (value_in (codes "tries") parts)
    (is_some (value_in (codes "omit-fixed") parts))

abbrev pub is_empty : Word → Bool
is_empty word = length word == 0

abbrev pub is_given_empty : Option Word → Bool
is_given_empty None = false
is_given_empty (Some word) = is_empty word

-- exactly two names and, where one is given, that of an earlier session, none of them empty; and knobs
abbrev pub route_with : List Word → Option Word → Bool → Option Knobs → Result Command WordFault
route_with (input ∷ output ∷ []) from diagonal (Some knobs) =
    if is_empty input || is_empty output || is_given_empty from then Err Usage
    else Ok (Route input output from diagonal knobs)
route_with names from diagonal knobs = Err Usage

abbrev pub route_form : Form
route_form = record {
  names = 2;
  valued = codes "grid" ∷ codes "workers" ∷ codes "passes" ∷ codes "via-cost" ∷ codes "tries" ∷ codes "from" ∷ [];
  flags = codes "omit-fixed" ∷ codes "diagonal" ∷ [];
}

-- what the words behind `route` ask for
abbrev pub route_of : List Word → Result Command WordFault
route_of words =
    let parts = parts_of route_form words in
    if fit route_form parts
    then route_with (names_in parts) (value_in (codes "from") parts) (is_some (value_in (codes "diagonal") parts))
    (knobs_of parts)
    else Err Usage

-- ---- check

-- exactly three names, none of them empty
abbrev pub check_with : List Word → Result Command WordFault
check_with (input ∷ session ∷ report ∷ []) =
    if is_empty input || is_empty session || is_empty report then Err Usage else Ok (Check input session report)
check_with names = Err Usage

abbrev pub check_form : Form
check_form = record { names = 3; valued = []; flags = [] }

-- what the words behind `check` ask for
abbrev pub check_of : List Word → Result Command WordFault
check_of words =
    let parts = parts_of check_form words in
    if fit check_form parts then check_with (names_in parts) else Err Usage

-- ---- gen

-- exactly one name, which is the number of a generated board
abbrev pub gen_with : List Word → Result Command WordFault
gen_with (word ∷ []) = unwrap_or (option_map (λ n. Ok (Gen n)) (number_between 1 LAST_BOARD word)) (Err Usage)
gen_with names = Err Usage

abbrev pub gen_form : Form
gen_form = record { names = 1; valued = []; flags = [] }

-- what the words behind `gen` ask for
abbrev pub gen_of : List Word → Result Command WordFault
gen_of words =
    let parts = parts_of gen_form words in
    if fit gen_form parts then gen_with (names_in parts) else Err Usage

-- ---- all

-- what the words of the command line ask for
abbrev pub command_of : List Word → Result Command WordFault
command_of [] = Err NoCommand
command_of (first ∷ words) =
    if bytes_eq first (codes "route") then route_of words
    else if bytes_eq first (codes "check") then check_of words
    else if bytes_eq first (codes "gen") then gen_of words
    else Err UnknownCommand

-- the bytes of each word
abbrev pub texts : List (String Global) → List Word
texts words = map string_bytes words

-- an answer as it is defined; want of memory is free
abbrev pub Says : {T : Type 0} → Result T WordFault → Result T WordFault → Type 0
Says told (Err (Memory e)) = ⊤
Says told (Err NoCommand) = told ≡ Err NoCommand
Says told (Err UnknownCommand) = told ≡ Err UnknownCommand
Says told (Err Usage) = told ≡ Err Usage
Says told (Ok value) = told ≡ Ok value

-- ---- what a command keeps to

-- knobs in their ranges, lengths in nm
pub record AreWithin (knobs : Knobs) : Type 0 where
  pub grid : IfSome knobs.grid (λ nm. (1000 ≤ nm) × (nm ≤ 1000 * LONGEST_GRID))
  pub workers : (1 ≤ knobs.workers) × (knobs.workers ≤ MOST_WORKERS)
  pub passes : (1 ≤ knobs.passes) × (knobs.passes ≤ MOST_PASSES)
  pub via_cost : knobs.via_cost ≤ 1000 * MOST_VIA_COST
  pub tries : knobs.tries ≤ MOST_TRIES

-- names that aren't empty, and numbers in their ranges
abbrev pub IsWithin : Command → Type 0
IsWithin (Route input output from diagonal knobs) =
    (0 < length input) × (0 < length output) × IfSome from (λ name. 0 < length name) × AreWithin knobs
IsWithin (Check input session report) = (0 < length input) × (0 < length session) × (0 < length report)
IsWithin (Gen n) = (1 ≤ n) × (n ≤ LAST_BOARD)
