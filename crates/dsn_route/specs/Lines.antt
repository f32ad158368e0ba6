-- The lines of calls that don't route.
use Rattle.std.specs.Prelude.{ℕ, List, ◌++◌, Option, Some, None, codes}
use Rattle.std.specs.Fmt.{decimal}
use Rattle.dsn_shapes.specs.declared.refusal.What.{What}
use Rattle.dsn_shapes.specs.declared.refusal.What.TheVariants.{Nothing, Layers, Nets, Pins, Items, Vertices}
use Rattle.route_words.specs.declared.command.WordFault.{WordFault}
use Rattle.route_words.specs.declared.command.WordFault.TheVariants.{NoCommand, UnknownCommand, Usage, Memory}
use Rattle.pcb_model.specs.declared.limits.TheConstants.{MOST_BYTES}

-- the most bytes of an input
abbrev pub max_bytes : ℕ
max_bytes = MOST_BYTES

-- the number by which refused words are reported; want of memory is no fault of the words
abbrev pub number_of : WordFault → Option ℕ
number_of NoCommand = Some 1
number_of UnknownCommand = Some 2
number_of Usage = Some 3
number_of (Memory e) = None

abbrev pub usage_line : ℕ → List ℕ
usage_line n = codes "usage " ++ decimal n ++ codes "\n"

abbrev pub refused_line : ℕ → ℕ → List ℕ
refused_line number place = codes "refused " ++ decimal number ++ codes " at " ++ decimal place ++ codes "\n"

abbrev pub read_fault_line : List ℕ
read_fault_line = codes "read fault\n"

abbrev pub limit_line : List ℕ
limit_line = codes "limit bytes " ++ decimal max_bytes ++ codes "\n"

-- the session and its report are as they should be
abbrev pub check_ok_line : List ℕ
check_ok_line = codes "check ok\n"

-- which check fails, and where
abbrev pub check_line : ℕ → ℕ → List ℕ
check_line number at = codes "check " ++ decimal number ++ codes " at " ++ decimal at ++ codes "\n"

-- the word for what a limit counts; a refusal that is of no limit counts nothing
abbrev pub what_word : What → List ℕ
what_word Nothing = codes "nothing"
what_word Layers = codes "layers"
what_word Nets = codes "nets"
what_word Pins = codes "pins"
what_word Items = codes "items"
what_word Vertices = codes "vertices"

abbrev pub over_line : What → ℕ → List ℕ
over_line what limit = codes "limit " ++ what_word what ++ codes " " ++ decimal limit ++ codes "\n"

abbrev pub nodes_line : ℕ → List ℕ
nodes_line count = codes "limit nodes " ++ decimal count ++ codes "\n"
