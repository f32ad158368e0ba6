-- What is kept of a report that was read, and what reading a text answers.
use Rattle.std.specs.Prelude.{◌≡◌, ◌≤◌, ◌<◌, ◌^◌, ◌-◌, ◌↔◌, ℕ, ◌+◌, true, List, [], ◌∷◌, map, min, nat_lt}
use Rattle.std.specs.Prelude.{Option, Some, None, if◌then◌else◌}
use Rattle.pcb_model.specs.declared.design.Design.{Design}
use Rattle.route_lattice.specs.Mesh.{node_count}
use Rattle.route_lattice.specs.Whole.{lattice_of}
use Rattle.report_form.specs.Form.{Told, NetTold, CutTold, RunTold, IsTold, IsTrulyTold, Says, IsOutOfPlace, value}
use Rattle.report_form.specs.Form.{front, line_ends}
use Rattle.report_form.specs.declared.reading.ReadRun.{ReadRun}
use Rattle.report_form.specs.declared.reading.ReadCut.{ReadCut}
use Rattle.report_form.specs.declared.reading.GridLine.{GridLine}
use Rattle.report_form.specs.declared.reading.Reading.{Reading}
use Rattle.report_form.specs.declared.reading.Reading.TheVariants.{Read, OutOfPlace}

-- ---- what is kept
-- the number that the digits write, but at most this one
abbrev pub capped : ℕ → List ℕ → ℕ
capped most w = min (value w) most

-- the number, if it is below 2^128
abbrev pub exact : List ℕ → Option ℕ
exact w = if nat_lt (value w) (2 ^ 128) then Some (value w) else None

abbrev pub run_kept : RunTold → ReadRun
run_kept r = record {
  level = capped (2 ^ 32 - 1) r.level;
  row = capped (2 ^ 32 - 1) r.row;
  first = capped (2 ^ 32 - 1) r.first;
  last = capped (2 ^ 32 - 1) r.last;
}

-- `first` is the name of the first pin of the island in whose place the cut stands, if there is one
pub record IsCutKept (first : Option (List ℕ)) (c : CutTold) (k : ReadCut) : Type 0 where
  pub named : (k.named ≡ true) ↔ (first ≡ Some c.pin)
  pub reached : k.reached ≡ capped (2 ^ 64 - 1) c.reached
  pub blocked : k.blocked ≡ capped (2 ^ 64 - 1) c.blocked
  pub runs : k.runs ≡ map run_kept c.runs

-- cut by cut, each with the first pin of its place, as far as there is one
abbrev pub AreCutsKept : List (List ℕ) → List CutTold → List ReadCut → Type 0
AreCutsKept firsts [] [] = Unit {0}
AreCutsKept firsts [] (k ∷ ks) = ⊥
AreCutsKept firsts (c ∷ cs) [] = ⊥
AreCutsKept [] (c ∷ cs) (k ∷ ks) = IsCutKept None c k × AreCutsKept [] cs ks
AreCutsKept (first ∷ firsts) (c ∷ cs) (k ∷ ks) = IsCutKept (Some first) c k × AreCutsKept firsts cs ks

-- net by net, each with the names of its first pins
abbrev pub AreNetsKept : List (List (List ℕ)) → List NetTold → List (List ReadCut) → Type 0
AreNetsKept firsts [] [] = Unit {0}
AreNetsKept firsts [] (k ∷ ks) = ⊥
AreNetsKept firsts (n ∷ ns) [] = ⊥
AreNetsKept [] (n ∷ ns) (k ∷ ks) = ⊥
AreNetsKept (own ∷ firsts) (n ∷ ns) (k ∷ ks) = AreCutsKept own n.cuts k × AreNetsKept firsts ns ks

-- the line of the grid, which is the third of the report
pub record IsGridLine (d : Design) (t : Told) (g : GridLine) : Type 0 where
  pub grid : g.grid ≡ value t.grid
  pub nodes : g.nodes ≡ exact t.nodes
  pub line : g.line ≡ 1 + line_ends (front d t 2)

-- ---- the number of nodes
-- how many nodes the lattice of the grid has that is told
abbrev pub node_total : Design → GridLine → ℕ
node_total d g = node_count (lattice_of d g.grid)

-- that number is told
abbrev pub TellsNodes : Design → GridLine → Type 0
TellsNodes d g = g.nodes ≡ Some (node_total d g)

-- the line that isn't in its place where the number of nodes counts, too: where another number is told, that of the
-- grid, else the same; the grid is one that may be told
pub record HasTrueLine (d : Design) (firsts : List (List (List ℕ))) (text : List ℕ) (line : ℕ) (g : GridLine) : Type 0
  where
    pub from : 1000 ≤ g.grid
    pub to : g.grid ≤ 409600000
    pub told : TellsNodes d g → IsOutOfPlace d (IsTrulyTold d firsts) text line
    pub not_told : (TellsNodes d g → ⊥) → node_total d g < 2 ^ 128 → IsOutOfPlace d (IsTrulyTold d firsts) text g.line

-- ---- what reading answers
-- the text is a report
pub record IsRead (d : Design) (firsts : List (List (List ℕ))) (text : List ℕ) (g : GridLine)
    (cuts : List (List ReadCut)) : Type 0 where
  pub told : Told
  pub is : IsTold d firsts told
  pub says : Says d told text
  pub grid : IsGridLine d told g
  pub nets : AreNetsKept firsts told.nets cuts
  pub true_ : TellsNodes d g → IsTrulyTold d firsts told
  pub not_true : (TellsNodes d g → ⊥) → node_total d g < 2 ^ 128 → IsOutOfPlace d (IsTrulyTold d firsts) text g.line

-- a line isn't in its place, before that of the grid was passed or behind it; some grid has to have a lattice whose
-- number of nodes can be told
abbrev pub IsMisread : Design → List (List (List ℕ)) → List ℕ → ℕ → Option GridLine → Type 0
IsMisread d firsts text line None = (grid : ℕ) → 1000 ≤ grid → grid ≤ 409600000
    → node_count (lattice_of d grid) < 2 ^ 128 → IsOutOfPlace d (IsTrulyTold d firsts) text line
IsMisread d firsts text line (Some g) = HasTrueLine d firsts text line g

abbrev pub Reads : Design → List (List (List ℕ)) → List ℕ → Reading → Type 0
Reads d firsts text (Read g nets) = IsRead d firsts text g nets
Reads d firsts text (OutOfPlace line passed) = IsOutOfPlace d (IsTold d firsts) text line
    × IsMisread d firsts text line passed
