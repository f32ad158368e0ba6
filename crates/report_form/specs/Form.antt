-- The form of a report: what it says, the text that says so, and the first line that isn't in its place.
use Rattle.std.specs.Prelude.{◌≡◌, ◌≤◌, ◌⊎◌, ℕ, ◌+◌, ◌==◌, ◌&&◌, ◌||◌, not, Bool, true, false, List, []}
use Rattle.std.specs.Prelude.{◌∷◌}
use Rattle.std.specs.Prelude.{◌++◌, length, All, flat_map, take, filter, count_by, codes}
use Rattle.std.specs.Prelude.{decimal}
use Rattle.std.specs.Prelude.{Option, Some, None, IfSome, is_some, if◌then◌else◌}
use Rattle.std.specs.List.{list_all, list_any, AllZip}
use Rattle.std.specs.Char.{is_ascii_digit}
use Rattle.std.specs.Str.Parse.{digits_value}
use Rattle.pcb_model.specs.declared.item.Kind.{Kind}
use Rattle.pcb_model.specs.declared.item.Kind.TheVariants as kind
use Rattle.pcb_model.specs.declared.design.Net.{Net}
use Rattle.pcb_model.specs.declared.design.Design.{Design}
use Rattle.pcb_model.specs.Sound.{IsPrintable}
use Rattle.route_lattice.specs.Mesh.{node_count}
use Rattle.route_lattice.specs.Whole.{lattice_of}
use Rattle.ses_writer.specs.Words.{spelled}

-- ---- numbers
-- digits without a leading zero, as many as there may be
abbrev pub is_number : List ℕ → Bool
is_number [] = false
is_number (c ∷ cs) = list_all is_ascii_digit (c ∷ cs) && (length cs == 0 || not (c == 48))

abbrev pub IsNumber : List ℕ → Type 0
IsNumber w = is_number w ≡ true

-- the number that they write
abbrev pub value : List ℕ → ℕ
value w = digits_value 10 w

-- ---- what a report says, its numbers as they are written
-- a stretch of nodes: the signal layer, the y line, the first and the last x line
pub record RunTold : Type 0 where
  pub level : List ℕ
  pub row : List ℕ
  pub first : List ℕ
  pub last : List ℕ

-- an island: the name of a pin, how many nodes are reached, how many moves are blocked, by which items and whether by
-- a boundary, the nodes, and perhaps how many nodes moves reach, those at 45 degrees among them
pub record CutTold : Type 0 where
  pub pin : List ℕ
  pub reached : List ℕ
  pub blocked : List ℕ
  pub by_items : List (Kind × List ℕ)
  pub by_outside : Bool
  pub runs : List RunTold
  pub wide : Option (List ℕ)

-- a net: complete where it has no cut, else open with so many islands, and a cut for each
pub record NetTold : Type 0 where
  pub islands : List ℕ
  pub cuts : List CutTold

-- a pass: its commits, and what is open after it
pub record PassTold : Type 0 where
  pub commits : List ℕ
  pub parted : List ℕ

pub record Told : Type 0 where
  pub grid : List ℕ
  pub nodes : List ℕ
  pub dropped : List ℕ
  pub places : List (List ℕ)
  pub notes : List ℕ
  pub passes : List PassTold
  pub kept : List ℕ
  pub joins : List ℕ
  pub nets : List NetTold

-- ---- the text, line by line; a line whose name holds a line feed counts as one here
abbrev pub line : List ℕ → List ℕ
line text = text ++ codes "\n"

-- a word, and a number as it is written
abbrev pub with_number : List ℕ → List ℕ → List ℕ
with_number word number = word ++ number

abbrev pub kind_word : Kind → List ℕ
kind_word kind.Wire = codes "wire "
kind_word kind.Via = codes "via "
kind_word kind.Pin = codes "pin "
kind_word kind.Smd = codes "smd "
kind_word kind.Area = codes "area "

abbrev pub by_line : (Kind × List ℕ) → List ℕ
by_line (kind, id) = line (codes "by " ++ kind_word kind ++ id)

abbrev pub outside_lines : Bool → List (List ℕ)
outside_lines by_outside = if by_outside then codes "by outside\n" ∷ [] else []

abbrev pub run_line : RunTold → List ℕ
run_line r = line (codes "run " ++ r.level ++ codes " " ++ r.row ++ codes " " ++ r.first ++ codes " " ++ r.last)

abbrev pub cut_line : CutTold → List ℕ
cut_line c = line (codes "cut " ++ spelled c.pin ++ codes " reached " ++ c.reached ++ codes " blocked " ++ c.blocked)

abbrev pub by_lines : List (Kind × List ℕ) → List (List ℕ)
by_lines [] = []
by_lines (b ∷ bs) = by_line b ∷ by_lines bs

abbrev pub run_lines : List RunTold → List (List ℕ)
run_lines [] = []
run_lines (r ∷ rs) = run_line r ∷ run_lines rs

abbrev pub wide_line : List ℕ → List ℕ
wide_line size = line (codes "wide " ++ size)

abbrev pub wide_lines : Option (List ℕ) → List (List ℕ)
wide_lines None = []
wide_lines (Some size) = wide_line size ∷ []

abbrev pub cut_lines : CutTold → List (List ℕ)
cut_lines c = cut_line c
    ∷ (by_lines c.by_items ++ (outside_lines c.by_outside ++ (run_lines c.runs ++ wide_lines c.wide)))

abbrev pub net_words : NetTold → List ℕ
net_words n = if length n.cuts == 0 then codes " complete" else codes " open " ++ n.islands

abbrev pub net_line : List ℕ → NetTold → List ℕ
net_line name n = line (codes "net " ++ spelled name ++ net_words n)

abbrev pub net_lines : List ℕ → NetTold → List (List ℕ)
net_lines name n = net_line name n ∷ flat_map cut_lines n.cuts

-- those of the nets, each with the design's name for it
abbrev pub nets_lines : List Net → List NetTold → List (List ℕ)
nets_lines [] ns = []
nets_lines (net ∷ nets) [] = []
nets_lines (net ∷ nets) (n ∷ ns) = net_lines net.name n ++ nets_lines nets ns

-- the passes count from 1
abbrev pub pass_lines : ℕ → List PassTold → List (List ℕ)
pass_lines k [] = []
pass_lines k (p ∷ ps) = line (codes "pass " ++ decimal k ++ codes " commits " ++ p.commits ++ codes " open "
    ++ p.parted)
    ∷ pass_lines (k + 1) ps

abbrev pub place_lines : List (List ℕ) → List (List ℕ)
place_lines [] = []
place_lines (p ∷ ps) = line (codes "drop " ++ p) ∷ place_lines ps

abbrev pub is_complete : NetTold → Bool
is_complete n = length n.cuts == 0

abbrev pub is_open : NetTold → Bool
is_open n = not (is_complete n)

abbrev pub size_line : Design → List ℕ
size_line d = line (codes "layers " ++ decimal (length d.layers) ++ codes " nets " ++ decimal (length d.nets)
    ++ codes " pins " ++ decimal (length d.pins))

abbrev pub total_line : List NetTold → List ℕ
total_line ns = line (codes "complete " ++ decimal (length (filter is_complete ns)) ++ codes " open "
    ++ decimal (length (filter is_open ns)))

abbrev pub head_lines : Design → Told → List (List ℕ)
head_lines d t = line (codes "board " ++ spelled d.name) ∷ size_line d
    ∷ line (codes "grid " ++ t.grid ++ codes " nodes " ++ t.nodes) ∷ line (codes "dropped " ++ t.dropped)
    ∷ (place_lines t.places ++ line (codes "notes " ++ t.notes) ∷ [])

abbrev pub pass_part : Told → List (List ℕ)
pass_part t = pass_lines 1 t.passes
    ++ (line (codes "kept " ++ t.kept) ∷ line (codes "joins " ++ t.joins) ∷ [])

-- all lines of the report
unfoldable pub lines : Design → Told → List (List ℕ)
lines d t = head_lines d t ++ (pass_part t ++ (nets_lines d.nets t.nets ++ total_line t.nets ∷ []))

-- one after another
abbrev pub joined : List (List ℕ) → List ℕ
joined ls = flat_map (λ l. l) ls

-- ---- what is in its place
pub record IsRun (r : RunTold) : Type 0 where
  pub level : IsNumber r.level
  pub row : IsNumber r.row
  pub first : IsNumber r.first
  pub last : IsNumber r.last

-- a name that can stand in a cut's line, where `first` is that of the first pin of the island in whose place it stands:
-- one that can be told where it is printed. A name with a quotation mark can't: it has to be the first pin's own.
abbrev pub IsNameBeside : Bool → List ℕ → List ℕ → Type 0
IsNameBeside true first name = name ≡ first
IsNameBeside false first name = IsPrintable name

-- one byte of the name is a quotation mark
abbrev pub has_mark : List ℕ → Bool
has_mark name = list_any (λ b. b == 34) name

abbrev pub IsName : Option (List ℕ) → List ℕ → Type 0
IsName None name = IsPrintable name
IsName (Some first) name = IsNameBeside (has_mark first) first name

pub record IsCutTold (first : Option (List ℕ)) (c : CutTold) : Type 0 where
  pub pin : IsName first c.pin
  pub reached : IsNumber c.reached
  pub blocked : IsNumber c.blocked
  pub by_items : All (λ (b : Kind × List ℕ). IsNumber b.1) c.by_items
  pub runs : All IsRun c.runs
  pub wide : IfSome c.wide IsNumber

-- the cuts one after another, each with the first pin of its place, as far as there is one
abbrev pub AreCutsTold : List (List ℕ) → List CutTold → Type 0
AreCutsTold firsts [] = Unit {0}
AreCutsTold [] (c ∷ cs) = IsCutTold None c × AreCutsTold [] cs
AreCutsTold (first ∷ firsts) (c ∷ cs) = IsCutTold (Some first) c × AreCutsTold firsts cs

-- a net is complete (its islands, which aren't printed, are then told as none), or has at least two islands, and a cut
-- for each
pub record IsNetTold (firsts : List (List ℕ)) (n : NetTold) : Type 0 where
  pub counts : ((n.cuts ≡ []) × (n.islands ≡ decimal 0))
      ⊎ ((2 ≤ length n.cuts) × IsNumber n.islands × (value n.islands ≡ length n.cuts))
  pub cuts : AreCutsTold firsts n.cuts

pub record IsPassTold (p : PassTold) : Type 0 where
  pub commits : IsNumber p.commits
  pub parted : IsNumber p.parted

-- the cuts of all nets
abbrev pub cuts_in : List NetTold → List CutTold
cuts_in [] = []
cuts_in (n ∷ ns) = n.cuts ++ cuts_in ns

abbrev pub tells_wide : CutTold → Bool
tells_wide c = is_some c.wide

-- each of the cuts tells how far moves at 45 degrees reach, or none does
pub record TellAlike (cs : List CutTold) : Type 0 where
  pub wide : Bool
  pub each : All (λ (c : CutTold). tells_wide c ≡ wide) cs

-- what is told is told as a report tells it; `firsts` has for each net the names of its islands' first pins
pub record IsTold (d : Design) (firsts : List (List (List ℕ))) (t : Told) : Type 0 where
  pub grid : IsNumber t.grid
  pub grid_from : 1000 ≤ value t.grid
  pub grid_to : value t.grid ≤ 409600000
  pub nodes : IsNumber t.nodes
  pub dropped : IsNumber t.dropped
  pub drops : value t.dropped ≡ length t.places
  pub places : All IsNumber t.places
  pub notes : IsNumber t.notes
  pub some_pass : 1 ≤ length t.passes
  pub passes : All IsPassTold t.passes
  pub kept : IsNumber t.kept
  pub joins : IsNumber t.joins
  pub all_nets : length t.nets ≡ length d.nets
  pub nets : AllZip IsNetTold firsts t.nets
  pub alike : TellAlike (cuts_in t.nets)

-- how many nodes the lattice of the grid has that is told
abbrev pub nodes_of : Design → Told → ℕ
nodes_of d t = node_count (lattice_of d (value t.grid))

-- and the number of nodes that is told is that of the lattice
pub record IsTrulyTold (d : Design) (firsts : List (List (List ℕ))) (t : Told) : Type 0 where
  pub told : IsTold d firsts t
  pub nodes_true : t.nodes ≡ decimal (nodes_of d t)

-- ---- texts
-- the text is the report that says t
pub record Says (d : Design) (t : Told) (text : List ℕ) : Type 0 where
  pub is : text ≡ joined (lines d t)

-- the first lines of the text are the first lines of the report that says t
pub record BeginsAs (d : Design) (t : Told) (text : List ℕ) (count : ℕ) : Type 0 where
  pub within : count ≤ length (lines d t)
  pub rest : List ℕ
  pub is : text ≡ joined (take count (lines d t)) ++ rest

-- the bytes of these lines
abbrev pub front : Design → Told → ℕ → List ℕ
front d t count = joined (take count (lines d t))

-- how often a line ends in a text
abbrev pub line_ends : List ℕ → ℕ
line_ends text = count_by (λ b. b == 10) text

-- The text isn't a report, and this is the line, counted from 1, that isn't in its place: behind the longest beginning
-- that is that of some report. `Is` says which reports count.
pub record IsOutOfPlace (d : Design) (Is : Told → Type 0) (text : List ℕ) (at : ℕ) : Type 0 where
  pub none : (t : Told) → Is t → Says d t text → ⊥
  pub told : Told
  pub is : Is told
  pub count : ℕ
  pub begins : BeginsAs d told text count
  pub longest : (t : Told) (n : ℕ) → Is t → BeginsAs d t text n
      → length (front d t n) ≤ length (front d told count)
  pub at_is : at ≡ 1 + line_ends (front d told count)
