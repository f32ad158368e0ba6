-- The states of reading a report line by line: what was told so far, and which line may come next.
use Rattle.std.specs.Prelude.{◌≡◌, ◌≤◌, ◌<◌, ◌⊎◌, ℕ, ◌+◌, Bool, true, false, List, [], ◌∷◌, ◌++◌, length, All}
use Rattle.std.specs.Prelude.{flat_map, codes, decimal, Option, Some, None, slice_get}
use Rattle.pcb_model.specs.declared.item.Kind.{Kind}
use Rattle.pcb_model.specs.declared.design.Net.{Net}
use Rattle.pcb_model.specs.declared.design.Design.{Design}
use Rattle.ses_writer.specs.Words.{spelled}
use Rattle.report_form.specs.Form.{Told, NetTold, CutTold, RunTold, PassTold, IsNumber, IsRun, IsName}
use Rattle.report_form.specs.Form.{AreCutsTold, IsNetTold, IsPassTold, IsTold, value, line, by_line, run_line, cut_line}
use Rattle.report_form.specs.Form.{TellAlike, cuts_in, tells_wide, wide_line}
use Rattle.report_form.specs.Form.{cut_lines, nets_lines, pass_lines, place_lines, size_line}
use Rattle.report_form.specs.Form.{total_line, head_lines, pass_part, lines, joined}

-- a design, the names of the first pins of each net's islands, and a text
pub record Page : Type 0 where
  pub design : Design
  pub firsts : List (List (List ℕ))
  pub text : List ℕ

-- the names of the first pins of as many nets as there are
pub record IsPage (p : Page) : Type 0 where
  pub same : length p.firsts ≡ length p.design.nets

-- what was told so far; fields of a record whose lines are still to come don't count
pub data State : Type 0 where
  Start : State
  Named : State
  Sized : State
  -- behind the line of the grid
  Gridded : Told → State
  -- among the places
  Dropping : Told → List (List ℕ) → State
  -- among the passes
  Passing : Told → List PassTold → State
  -- behind the pass that was kept
  Joining : Told → State
  -- between nets
  Netting : Told → List NetTold → State
  -- behind the line of a net with so many islands
  Opened : Told → List NetTold → List ℕ → State
  -- among the lines of its last cut so far
  Parts : Told → List NetTold → List ℕ → List CutTold → CutTold → State
  Ended : Told → State

-- ---- lines of the states
abbrev pub board_line : Design → List ℕ
board_line d = line (codes "board " ++ spelled d.name)

abbrev pub grid_line : List ℕ → List ℕ → List ℕ
grid_line grid nodes = line (codes "grid " ++ grid ++ codes " nodes " ++ nodes)

abbrev pub pass_line : ℕ → PassTold → List ℕ
pass_line k p = line (codes "pass " ++ decimal k ++ codes " commits " ++ p.commits ++ codes " open " ++ p.parted)

abbrev pub opened_line : List ℕ → List ℕ → List ℕ
opened_line name islands = line (codes "net " ++ spelled name ++ (codes " open " ++ islands))

abbrev pub complete_line : List ℕ → List ℕ
complete_line name = line (codes "net " ++ spelled name ++ codes " complete")

abbrev pub name_of : Option Net → List ℕ
name_of None = []
name_of (Some net) = net.name

-- the name of the net behind so many
abbrev pub name_after : Design → List NetTold → List ℕ
name_after d ns = name_of (slice_get d.nets (length ns))

abbrev pub own_firsts : Option (List (List ℕ)) → List (List ℕ)
own_firsts None = []
own_firsts (Some firsts) = firsts

-- the names of the first pins of its islands
abbrev pub firsts_after : List (List (List ℕ)) → List NetTold → List (List ℕ)
firsts_after firsts ns = own_firsts (slice_get firsts (length ns))

-- the lines so far
abbrev pub so_far : Design → State → List (List ℕ)
so_far d Start = []
so_far d Named = board_line d ∷ []
so_far d Sized = board_line d ∷ size_line d ∷ []
so_far d (Gridded h) = board_line d ∷ size_line d ∷ grid_line h.grid h.nodes ∷ []
so_far d (Dropping h ps) = board_line d ∷ size_line d ∷ grid_line h.grid h.nodes ∷ line (codes "dropped " ++ h.dropped)
    ∷ place_lines ps
so_far d (Passing h ps) = head_lines d h ++ pass_lines 1 ps
so_far d (Joining h) = head_lines d h ++ (pass_lines 1 h.passes ++ line (codes "kept " ++ h.kept) ∷ [])
so_far d (Netting h ns) = head_lines d h ++ (pass_part h ++ nets_lines d.nets ns)
so_far d (Opened h ns islands) = head_lines d h ++ (pass_part h ++ (nets_lines d.nets ns
    ++ opened_line (name_after d ns) islands ∷ []))
so_far d (Parts h ns islands cs c) = head_lines d h ++ (pass_part h ++ (nets_lines d.nets ns
    ++ opened_line (name_after d ns) islands ∷ (flat_map cut_lines cs ++ cut_lines c)))
so_far d (Ended t) = lines d t

-- ---- what may be told so far
pub record IsGrid (h : Told) : Type 0 where
  pub grid : IsNumber h.grid
  pub grid_from : 1000 ≤ value h.grid
  pub grid_to : value h.grid ≤ 409600000
  pub nodes : IsNumber h.nodes

pub record IsHead (h : Told) : Type 0 where
  pub grid : IsGrid h
  pub dropped : IsNumber h.dropped
  pub drops : value h.dropped ≡ length h.places
  pub places : All IsNumber h.places
  pub notes : IsNumber h.notes

pub record IsFront (h : Told) : Type 0 where
  pub head : IsHead h
  pub some_pass : 1 ≤ length h.passes
  pub passes : All IsPassTold h.passes
  pub kept : IsNumber h.kept
  pub joins : IsNumber h.joins

-- nets from the first on
abbrev pub AreNetsTold : List (List (List ℕ)) → List NetTold → Type 0
AreNetsTold firsts [] = Unit {0}
AreNetsTold [] (n ∷ ns) = ⊥
AreNetsTold (first ∷ firsts) (n ∷ ns) = IsNetTold first n × AreNetsTold firsts ns

pub record IsDropping (h : Told) (ps : List (List ℕ)) : Type 0 where
  pub grid : IsGrid h
  pub dropped : IsNumber h.dropped
  pub places : All IsNumber ps
  pub within : length ps ≤ value h.dropped

pub record IsPassing (h : Told) (ps : List PassTold) : Type 0 where
  pub head : IsHead h
  pub passes : All IsPassTold ps

pub record IsJoining (h : Told) : Type 0 where
  pub head : IsHead h
  pub some_pass : 1 ≤ length h.passes
  pub passes : All IsPassTold h.passes
  pub kept : IsNumber h.kept

pub record IsNetting (p : Page) (h : Told) (ns : List NetTold) : Type 0 where
  pub front : IsFront h
  pub nets : AreNetsTold p.firsts ns
  pub within : length ns ≤ length p.design.nets
  pub alike : TellAlike (cuts_in ns)

-- a net of several islands, with some of its cuts
pub record IsOpened (p : Page) (h : Told) (ns : List NetTold) (islands : List ℕ) (cs : List CutTold) : Type 0 where
  pub before : IsNetting p h ns
  pub below : length ns < length p.design.nets
  pub number : IsNumber islands
  pub many : 2 ≤ value islands
  pub within : length cs ≤ value islands
  pub cuts : AreCutsTold (firsts_after p.firsts ns) cs

-- the cuts of the nets and these all tell how far moves at 45 degrees reach, or all don't
abbrev pub MayTell : Bool → List NetTold → List CutTold → Type 0
MayTell wide ns cs = All (λ (c : CutTold). tells_wide c ≡ wide) (cuts_in ns ++ cs)

-- a cut behind these; if it tells that, so do they
pub record IsParts (p : Page) (h : Told) (ns : List NetTold) (islands : List ℕ) (cs : List CutTold) (c : CutTold) :
    Type 0 where
  pub opened : IsOpened p h ns islands (cs ++ c ∷ [])
  pub alike : TellAlike (cuts_in ns ++ cs)
  pub may : tells_wide c ≡ true → MayTell true ns cs

abbrev pub IsGood : Page → State → Type 0
IsGood p Start = Unit {0}
IsGood p Named = Unit {0}
IsGood p Sized = Unit {0}
IsGood p (Gridded h) = IsGrid h
IsGood p (Dropping h ps) = IsDropping h ps
IsGood p (Passing h ps) = IsPassing h ps
IsGood p (Joining h) = IsJoining h
IsGood p (Netting h ns) = IsNetting p h ns
IsGood p (Opened h ns islands) = IsOpened p h ns islands []
IsGood p (Parts h ns islands cs c) = IsParts p h ns islands cs c
IsGood p (Ended t) = IsTold p.design p.firsts t

-- ---- which line may come next, and the state behind it
-- with no other field
abbrev pub gridded : List ℕ → List ℕ → Told
gridded grid nodes = record {
  grid = grid;
  nodes = nodes;
  dropped = [];
  places = [];
  notes = [];
  passes = [];
  kept = [];
  joins = [];
  nets = [];
}

pub record GridStep (l : List ℕ) (s : State) : Type 0 where
  pub grid : List ℕ
  pub nodes : List ℕ
  pub good : IsGrid (gridded grid nodes)
  pub is : l ≡ grid_line grid nodes
  pub to : s ≡ Gridded (gridded grid nodes)

pub record DroppedStep (h : Told) (l : List ℕ) (s : State) : Type 0 where
  pub dropped : List ℕ
  pub number : IsNumber dropped
  pub is : l ≡ line (codes "dropped " ++ dropped)
  pub to : s ≡ Dropping (record h { dropped = dropped }) []

pub record DropStep (h : Told) (ps : List (List ℕ)) (l : List ℕ) (s : State) : Type 0 where
  pub more : length ps < value h.dropped
  pub place : List ℕ
  pub number : IsNumber place
  pub is : l ≡ line (codes "drop " ++ place)
  pub to : s ≡ Dropping h (ps ++ place ∷ [])

pub record NotesStep (h : Told) (ps : List (List ℕ)) (l : List ℕ) (s : State) : Type 0 where
  pub all : length ps ≡ value h.dropped
  pub notes : List ℕ
  pub number : IsNumber notes
  pub is : l ≡ line (codes "notes " ++ notes)
  pub to : s ≡ Passing (record h { places = ps; notes = notes }) []

pub record PassStep (h : Told) (ps : List PassTold) (l : List ℕ) (s : State) : Type 0 where
  pub pass : PassTold
  pub told : IsPassTold pass
  pub is : l ≡ pass_line (1 + length ps) pass
  pub to : s ≡ Passing h (ps ++ pass ∷ [])

pub record KeptStep (h : Told) (ps : List PassTold) (l : List ℕ) (s : State) : Type 0 where
  pub some : 1 ≤ length ps
  pub kept : List ℕ
  pub number : IsNumber kept
  pub is : l ≡ line (codes "kept " ++ kept)
  pub to : s ≡ Joining (record h { passes = ps; kept = kept })

pub record JoinsStep (h : Told) (l : List ℕ) (s : State) : Type 0 where
  pub joins : List ℕ
  pub number : IsNumber joins
  pub is : l ≡ line (codes "joins " ++ joins)
  pub to : s ≡ Netting (record h { joins = joins }) []

-- a complete net
abbrev pub whole : NetTold
whole = record { islands = decimal 0; cuts = [] }

pub record CompleteStep (p : Page) (h : Told) (ns : List NetTold) (l : List ℕ) (s : State) : Type 0 where
  pub below : length ns < length p.design.nets
  pub is : l ≡ complete_line (name_after p.design ns)
  pub to : s ≡ Netting h (ns ++ whole ∷ [])

pub record OpenStep (p : Page) (h : Told) (ns : List NetTold) (l : List ℕ) (s : State) : Type 0 where
  pub below : length ns < length p.design.nets
  pub islands : List ℕ
  pub number : IsNumber islands
  pub many : 2 ≤ value islands
  pub is : l ≡ opened_line (name_after p.design ns) islands
  pub to : s ≡ Opened h ns islands

pub record TotalStep (p : Page) (h : Told) (ns : List NetTold) (l : List ℕ) (s : State) : Type 0 where
  pub all : length ns ≡ length p.design.nets
  pub is : l ≡ total_line ns
  pub to : s ≡ Ended (record h { nets = ns })

abbrev pub NetStep : Page → Told → List NetTold → List ℕ → State → Type 0
NetStep p h ns l s = CompleteStep p h ns l s ⊎ (OpenStep p h ns l s ⊎ TotalStep p h ns l s)

-- a cut before its other lines
abbrev pub bare : List ℕ → List ℕ → List ℕ → CutTold
bare pin reached blocked = record {
  pin = pin;
  reached = reached;
  blocked = blocked;
  by_items = [];
  by_outside = false;
  runs = [];
  wide = None;
}

pub record CutStep (p : Page) (h : Told) (ns : List NetTold) (islands : List ℕ) (cs : List CutTold) (l : List ℕ)
    (s : State) : Type 0 where
  pub more : length cs < value islands
  pub pin : List ℕ
  pub reached : List ℕ
  pub blocked : List ℕ
  pub name : IsName (slice_get (firsts_after p.firsts ns) (length cs)) pin
  pub first : IsNumber reached
  pub second : IsNumber blocked
  pub is : l ≡ cut_line (bare pin reached blocked)
  pub to : s ≡ Parts h ns islands cs (bare pin reached blocked)

-- no line of a boundary and of a stretch came yet, nor the last one
pub record IsEarly (c : CutTold) : Type 0 where
  pub inside : c.by_outside ≡ false
  pub no_run : c.runs ≡ []
  pub no_wide : c.wide ≡ None

pub record ByStep (h : Told) (ns : List NetTold) (islands : List ℕ) (cs : List CutTold) (c : CutTold) (l : List ℕ)
    (s : State) : Type 0 where
  pub early : IsEarly c
  pub item : Kind × List ℕ
  pub number : IsNumber item.1
  pub is : l ≡ by_line item
  pub to : s ≡ Parts h ns islands cs (record c { by_items = c.by_items ++ item ∷ [] })

pub record OutsideStep (h : Told) (ns : List NetTold) (islands : List ℕ) (cs : List CutTold) (c : CutTold)
    (l : List ℕ) (s : State) : Type 0 where
  pub early : IsEarly c
  pub is : l ≡ codes "by outside\n"
  pub to : s ≡ Parts h ns islands cs (record c { by_outside = true })

pub record RunStep (h : Told) (ns : List NetTold) (islands : List ℕ) (cs : List CutTold) (c : CutTold) (l : List ℕ)
    (s : State) : Type 0 where
  pub no_wide : c.wide ≡ None
  pub run : RunTold
  pub told : IsRun run
  pub is : l ≡ run_line run
  pub to : s ≡ Parts h ns islands cs (record c { runs = c.runs ++ run ∷ [] })

-- the last line of a cut, where those before have it too
pub record WideStep (h : Told) (ns : List NetTold) (islands : List ℕ) (cs : List CutTold) (c : CutTold)
    (l : List ℕ) (s : State) : Type 0 where
  pub no_wide : c.wide ≡ None
  pub may : MayTell true ns cs
  pub size : List ℕ
  pub number : IsNumber size
  pub is : l ≡ wide_line size
  pub to : s ≡ Parts h ns islands cs (record c { wide = Some size })

abbrev pub PartStep : Told → List NetTold → List ℕ → List CutTold → CutTold → List ℕ → State → Type 0
PartStep h ns islands cs c l s = ByStep h ns islands cs c l s
    ⊎ (OutsideStep h ns islands cs c l s ⊎ (RunStep h ns islands cs c l s ⊎ WideStep h ns islands cs c l s))

-- a net with so many islands and these cuts
abbrev pub opened : List ℕ → List CutTold → NetTold
opened islands cuts = record { islands = islands; cuts = cuts }

-- the cut tells what those before tell: the next one comes
pub record NextStep (p : Page) (h : Told) (ns : List NetTold) (islands : List ℕ) (cs : List CutTold) (c : CutTold)
    (l : List ℕ) (s : State) : Type 0 where
  pub may : MayTell (tells_wide c) ns cs
  pub step : CutStep p h ns islands (cs ++ c ∷ []) l s

-- so it does, and all cuts of the net are there: what comes behind a net
pub record FilledStep (p : Page) (h : Told) (ns : List NetTold) (islands : List ℕ) (cs : List CutTold) (c : CutTold)
    (l : List ℕ) (s : State) : Type 0 where
  pub may : MayTell (tells_wide c) ns cs
  pub full : length (cs ++ c ∷ []) ≡ value islands
  pub step : NetStep p h (ns ++ opened islands (cs ++ c ∷ []) ∷ []) l s

abbrev pub Next : Page → State → List ℕ → State → Type 0
Next p Start l s = (l ≡ board_line p.design) × (s ≡ Named)
Next p Named l s = (l ≡ size_line p.design) × (s ≡ Sized)
Next p Sized l s = GridStep l s
Next p (Gridded h) l s = DroppedStep h l s
Next p (Dropping h ps) l s = DropStep h ps l s ⊎ NotesStep h ps l s
Next p (Passing h ps) l s = PassStep h ps l s ⊎ KeptStep h ps l s
Next p (Joining h) l s = JoinsStep h l s
Next p (Netting h ns) l s = NetStep p h ns l s
Next p (Opened h ns islands) l s = CutStep p h ns islands [] l s
Next p (Parts h ns islands cs c) l s = PartStep h ns islands cs c l s
    ⊎ (NextStep p h ns islands cs c l s ⊎ FilledStep p h ns islands cs c l s)
Next p (Ended t) l s = ⊥

-- from one state to another by these lines
abbrev pub Path : Page → State → List (List ℕ) → State → Type 0
Path p s [] t = s ≡ t
Path p s (l ∷ L) t = (m : State) × Next p s l m × Path p m L t

-- ---- where reading stands
-- the text begins with the lines so far
pub record At (p : Page) (s : State) (rest : List ℕ) : Type 0 where
  pub path : Path p Start (so_far p.design s) s
  pub good : IsGood p s
  pub is : p.text ≡ joined (so_far p.design s) ++ rest

abbrev pub IsEnded : State → Type 0
IsEnded (Ended t) = Unit {0}
IsEnded _ = ⊥

-- no line that may come next begins the rest, and there is a rest behind the last line
pub record IsStuck (p : Page) (s : State) (rest : List ℕ) : Type 0 where
  pub none : (l : List ℕ) (t : State) (r : List ℕ) → Next p s l t → rest ≡ l ++ r → ⊥
  pub more : IsEnded s → rest ≡ [] → ⊥

pub record IsStopped (p : Page) (rest : List ℕ) : Type 0 where
  pub state : State
  pub at : At p state rest
  pub stuck : IsStuck p state rest

-- the line of the grid wasn't passed
abbrev pub IsBeforeGrid : State → Type 0
IsBeforeGrid Start = Unit {0}
IsBeforeGrid Named = Unit {0}
IsBeforeGrid Sized = Unit {0}
IsBeforeGrid _ = ⊥

pub record IsStoppedEarly (p : Page) (rest : List ℕ) : Type 0 where
  pub state : State
  pub before : IsBeforeGrid state
  pub at : At p state rest
  pub stuck : IsStuck p state rest

-- each line that may come next, where it begins the rest, is one that comes behind these nets
pub record IsBetween (p : Page) (h : Told) (ns : List NetTold) (rest : List ℕ) : Type 0 where
  pub state : State
  pub at : At p state rest
  pub going : IsEnded state → ⊥
  pub only : (l : List ℕ) (t : State) (r : List ℕ) → Next p state l t → rest ≡ l ++ r → NetStep p h ns l t
  pub all : (l : List ℕ) (t : State) → NetStep p h ns l t → Next p state l t

-- or a cut's, behind these cuts
pub record IsBeforeCut (p : Page) (h : Told) (ns : List NetTold) (islands : List ℕ) (cs : List CutTold)
    (rest : List ℕ) : Type 0 where
  pub state : State
  pub at : At p state rest
  pub going : IsEnded state → ⊥
  pub only : (l : List ℕ) (t : State) (r : List ℕ) → Next p state l t → rest ≡ l ++ r → CutStep p h ns islands cs l t
  pub all : (l : List ℕ) (t : State) → CutStep p h ns islands cs l t → Next p state l t
