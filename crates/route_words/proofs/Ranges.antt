-- What a command that words mean keeps to.
use Rattle.std.proofs.Common.{◌≡◌, ◌*◌, ◌<◌, ◌≤◌, ◌&&◌, ◌||◌, ℕ, Bool, true, false, nat_le}
use Rattle.std.proofs.Common.{refl}
use Rattle.std.proofs.Common.{subst, arith, if◌then◌else◌, List, [], ◌∷◌, length, Option, Some, None, IfSome}
use Rattle.std.proofs.Common.{Result, Ok, Err, IfOk, option_map, codes, is_some, unwrap_or, lit≤, true≢false}
use Rattle.std.specs.Prelude.{option_and_then}
use Rattle.std.specs.Str.{bytes_eq}
use Rattle.std.proofs.lemmas.Bool.{leb-true}
use Rattle.route_words.specs.Parts.{Part, Word, fit, names_in, parts_of, value_in}
use Rattle.route_words.specs.Words.{AreWithin, IsWithin, Says, check_form, check_of, check_with, command_of, gen_form}
use Rattle.route_words.specs.Words.{gen_of, gen_with, grid_in, is_between}
use Rattle.route_words.specs.Words.{is_empty, is_given_empty}
use Rattle.route_words.specs.Words.{is_short_number, knobs_in, knobs_of, number_between, number_in, number_or}
use Rattle.route_words.specs.Words.{route_form, route_of, route_with}
use Rattle.route_words.specs.declared.command.Command.{Command}
use Rattle.route_words.specs.declared.command.Command.TheVariants.{Gen}
use Rattle.route_words.specs.declared.command.Knobs.{Knobs}
use Rattle.route_words.specs.declared.command.WordFault.{WordFault}
use Rattle.route_words.specs.declared.command.WordFault.TheVariants.{UnknownCommand, Usage}
use Rattle.route_words.proofs.Bools.{and_left, and_right}

abbrev Between : ℕ → ℕ → ℕ → Type 0
Between least most n = (least ≤ n) × (n ≤ most)

between_within : (least most : ℕ) (word : Word) → IfSome (number_between least most word) (Between least most)
between_within least most word = by (is_short_number word && is_between least most (number_in word)) refl
  where
    by : (b : Bool) → (is_short_number word && is_between least most (number_in word)) ≡ b
        → IfSome (number_between least most word) (Between least most)
    by true e =
        let range = and_right (is_short_number word) (is_between least most (number_in word)) e in
        let low = and_left (nat_le least (number_in word)) (nat_le (number_in word) most) range in
        let high = and_right (nat_le least (number_in word)) (nat_le (number_in word) most) range in
        rw e (leb-true least (number_in word) low, leb-true (number_in word) most high)
    by false e = rw e tt

or_within : (default least most : ℕ) (value : Option Word) → Between least most default
    → IfSome (number_or default least most value) (Between least most)
or_within default least most None inside = inside
or_within default least most (Some word) inside = between_within least most word

abbrev GridWithin : Option ℕ → Type 0
GridWithin grid = IfSome grid (λ nm. (1000 ≤ nm) × (nm ≤ 100000000))

grid_within : (value : Option Word) → IfSome (grid_in value) GridWithin
grid_within None = tt
grid_within (Some word) = by (number_between 1 100000 word) (between_within 1 100000 word)
  where
    by : (um : Option ℕ) → IfSome um (Between 1 100000) → IfSome (option_map (λ n. Some (1000 * n)) um) GridWithin
    by None inside = tt
    by (Some um) inside = (omega arith, omega arith)

abbrev joined : Option (Option ℕ) → Option ℕ → Option ℕ → Option ℕ → Option ℕ → Bool → Option Knobs
joined grid workers passes cost tries omit_fixed =
    option_and_then (λ grid. option_and_then (λ workers. option_and_then (λ passes. option_and_then
    (λ um. option_map (λ tries. record {
      grid = grid;
      workers = workers;
      passes = passes;
      via_cost = 1000 * um;
      tries = tries;
      omit_fixed = omit_fixed;
    }) tries) cost) passes) workers) grid

joined_within : (grid : Option (Option ℕ)) (workers passes cost tries : Option ℕ) (omit_fixed : Bool)
    → IfSome grid GridWithin → IfSome workers (Between 1 16) → IfSome passes (Between 1 99)
    → IfSome cost (Between 0 1000000) → IfSome tries (Between 0 1000)
    → IfSome (joined grid workers passes cost tries omit_fixed) AreWithin
joined_within None workers passes cost tries o a b d e h = tt
joined_within (Some grid) None passes cost tries o a b d e h = tt
joined_within (Some grid) (Some workers) None cost tries o a b d e h = tt
joined_within (Some grid) (Some workers) (Some passes) None tries o a b d e h = tt
joined_within (Some grid) (Some workers) (Some passes) (Some um) None o a b d e h = tt
joined_within (Some grid) (Some workers) (Some passes) (Some um) (Some t) o a b d e h =
    record { grid = a; workers = b; passes = d; via_cost = omega (arith, e); tries = h.1 }

knobs_within : (grid workers passes cost tries : Option Word) (omit_fixed : Bool)
    → IfSome (knobs_in grid workers passes cost tries omit_fixed) AreWithin
knobs_within grid workers passes cost tries o =
    joined_within (grid_in grid) (number_or 4 1 16 workers) (number_or 10 1 99 passes) (number_or 2000 0 1000000 cost)
    (number_or 16 0 1000 tries) o
    (grid_within grid) (or_within 4 1 16 workers (lit≤ tt, lit≤ tt)) (or_within 10 1 99 passes (lit≤ tt, lit≤ tt))
    (or_within 2000 0 1000000 cost (lit≤ tt, lit≤ tt)) (or_within 16 0 1000 tries (lit≤ tt, lit≤ tt))

knobs_of_within : (parts : List Part) → IfSome (knobs_of parts) AreWithin
knobs_of_within parts =
    knobs_within (value_in (codes "grid") parts) (value_in (codes "workers") parts) (value_in (codes "passes") parts)
    (value_in (codes "via-cost") parts) (value_in (codes "tries") parts)
    (is_some (value_in (codes "omit-fixed") parts))

filled_name : (word : Word) → is_empty word ≡ false → 0 < length word
filled_name [] e = absurd (true≢false e)
filled_name (c ∷ word) e = omega arith

or_left : (a b : Bool) → (a || b) ≡ false → a ≡ false
or_left true b e = e
or_left false b e = refl

or_right : (a b : Bool) → (a || b) ≡ false → b ≡ false
or_right true b e = absurd (true≢false e)
or_right false b e = e

filled_given : (from : Option Word) → is_given_empty from ≡ false → IfSome from (λ name. 0 < length name)
filled_given None e = tt
filled_given (Some name) e = filled_name name e

named_within : (input output : Word) (from : Option Word) (diagonal : Bool) (knobs : Knobs) → AreWithin knobs
    → IfOk (route_with (input ∷ output ∷ []) from diagonal (Some knobs)) IsWithin
named_within input output from diagonal knobs within =
    by (is_empty input || is_empty output || is_given_empty from) refl
  where
    by : (b : Bool) → (is_empty input || is_empty output || is_given_empty from) ≡ b
        → IfOk (route_with (input ∷ output ∷ []) from diagonal (Some knobs)) IsWithin
    by true e = rw e tt
    by false e =
        let two = or_left (is_empty input || is_empty output) (is_given_empty from) e in
        rw e (
          filled_name input (or_left (is_empty input) (is_empty output) two),
          filled_name output (or_right (is_empty input) (is_empty output) two),
          filled_given from (or_right (is_empty input || is_empty output) (is_given_empty from) e),
          within,
        )

route_with_within : (names : List Word) (from : Option Word) (diagonal : Bool) (knobs : Option Knobs)
    → IfSome knobs AreWithin → IfOk (route_with names from diagonal knobs) IsWithin
route_with_within [] from diagonal knobs within = tt
route_with_within (a ∷ []) from diagonal knobs within = tt
route_with_within (a ∷ b ∷ []) from diagonal None within = tt
route_with_within (a ∷ b ∷ []) from diagonal (Some knobs) within = named_within a b from diagonal knobs within
route_with_within (a ∷ b ∷ d ∷ names) from diagonal knobs within = tt

if_fits : (b : Bool) (r : Result Command WordFault) → IfOk r IsWithin → IfOk (if b then r else Err Usage) IsWithin
if_fits true r within = within
if_fits false r within = tt

route_within : (words : List Word) → IfOk (route_of words) IsWithin
route_within words =
    if_fits (fit route_form (parts_of route_form words)) _
    (route_with_within (names_in (parts_of route_form words)) (value_in (codes "from") (parts_of route_form words))
    (is_some (value_in (codes "diagonal") (parts_of route_form words))) (knobs_of (parts_of route_form words))
    (knobs_of_within (parts_of route_form words)))

files_within : (input session report : Word) → IfOk (check_with (input ∷ session ∷ report ∷ [])) IsWithin
files_within input session report = by (is_empty input || is_empty session || is_empty report) refl
  where
    by : (b : Bool) → (is_empty input || is_empty session || is_empty report) ≡ b
        → IfOk (check_with (input ∷ session ∷ report ∷ [])) IsWithin
    by true e = rw e tt
    by false e =
        let two = or_left (is_empty input || is_empty session) (is_empty report) e in
        rw e (
          filled_name input (or_left (is_empty input) (is_empty session) two),
          filled_name session (or_right (is_empty input) (is_empty session) two),
          filled_name report (or_right (is_empty input || is_empty session) (is_empty report) e),
        )

check_with_within : (names : List Word) → IfOk (check_with names) IsWithin
check_with_within [] = tt
check_with_within (a ∷ []) = tt
check_with_within (a ∷ b ∷ []) = tt
check_with_within (a ∷ b ∷ d ∷ []) = files_within a b d
check_with_within (a ∷ b ∷ d ∷ e ∷ names) = tt

check_within : (words : List Word) → IfOk (check_of words) IsWithin
check_within words = if_fits (fit check_form (parts_of check_form words)) _
    (check_with_within (names_in (parts_of check_form words)))

gen_with_within : (names : List Word) → IfOk (gen_with names) IsWithin
gen_with_within [] = tt
gen_with_within (word ∷ []) = by (number_between 1 400 word) (between_within 1 400 word)
  where
    by : (n : Option ℕ) → IfSome n (Between 1 400) → IfOk (unwrap_or (option_map (λ k. Ok (Gen k)) n) (Err Usage))
        IsWithin
    by None inside = tt
    by (Some n) inside = inside
gen_with_within (a ∷ b ∷ names) = tt

gen_within : (words : List Word) → IfOk (gen_of words) IsWithin
gen_within words = if_fits (fit gen_form (parts_of gen_form words)) _
    (gen_with_within (names_in (parts_of gen_form words)))

command_within : (words : List Word) → IfOk (command_of words) IsWithin
command_within [] = tt
command_within (first ∷ words) = by (bytes_eq first (codes "route")) (bytes_eq first (codes "check"))
    (bytes_eq first (codes "gen"))
  where
    by : (a b d : Bool) → IfOk (if a then route_of words else if b then check_of words
        else if d then gen_of words else Err UnknownCommand) IsWithin
    by true b d = route_within words
    by false true d = check_within words
    by false false true = gen_within words
    by false false false = tt

-- an answer as it is defined
pub said_within : (words : List Word) (r : Result Command WordFault) → Says (command_of words) r → IfOk r IsWithin
said_within words (Ok command) says = let P : Result Command WordFault → Type 0 = λ r. IfOk r IsWithin in
    subst P says (command_within words)
said_within words (Err fault) says = tt
