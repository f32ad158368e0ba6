-- What judging a session and a report answers.
use Rattle.std.specs.Prelude.{◌≡◌, ◌⊎◌, ◌≤◌, ◌<◌, ℕ, List, [], ◌∷◌}
use Rattle.std.specs.Prelude.{length, All}
use Rattle.std.specs.Prelude.{Contains, Some, map, slice_get, decimal, remove, Result, Ok, Err}
use Rattle.std.specs.List.{AllZip}
use Rattle.std.specs.List.Sorted.{IsStrictlyIncreasing}
use Rattle.pcb_model.specs.declared.item.Item.{Item}
use Rattle.pcb_model.specs.declared.design.Design.{Design}
use Rattle.pcb_model.specs.Board.{IsLegal}
use Rattle.pcb_islands.specs.declared.net.Island.{Island}
use Rattle.pcb_islands.specs.Islands.{IsComplete}
use Rattle.route_lattice.specs.Mesh.{Mesh, node_at}
use Rattle.route_lattice.specs.Whole.{lattice_of}
use Rattle.route_lattice.specs.declared.limits.TheConstants.{MOST_NODES}
use Rattle.copper_alike.specs.Sets.{IsCutSet}
use Rattle.copper_check.specs.Checks.{AgreesWithAll, AreAllIslands, Clashes, IsFirstBad, IsLaidWell, IsWithinEdges}
use Rattle.cut_check.specs.Sizes.{IsOutCount}
use Rattle.told_words.specs.PinNames.{pin_name}
use Rattle.ses_reader.specs.declared.item.SesItem.{SesItem}
use Rattle.route_check.specs.declared.verdict.Verdict.{Verdict}
use Rattle.route_check.specs.declared.verdict.Verdict.TheVariants.{Yes, No}
use Rattle.route_check.specs.declared.verdict.JudgeFault.{JudgeFault}
use Rattle.route_check.specs.declared.verdict.JudgeFault.TheVariants.{TooManyNodes, Memory}
use Rattle.report_form.specs.Form.{Told, NetTold, CutTold, RunTold, IsTold, IsTrulyTold, Says, IsOutOfPlace}
use Rattle.report_form.specs.Form.{nodes_of, value}
use Rattle.route_check.specs.Board.{board_of}

-- ---- the names of first pins
abbrev pub first_of : List ℕ → ℕ
first_of [] = 0
first_of (pin ∷ pins) = pin

abbrev pub first_name : Design → Island → List ℕ
first_name d s = pin_name d (first_of s.pins)

abbrev pub first_names : Design → List (List Island) → List (List (List ℕ))
first_names d found = map (map (first_name d)) found

-- ---- nets
-- a net without several islands is complete, another has a cut for each
abbrev pub islands_told : List Island → ℕ
islands_told [] = 0
islands_told (s ∷ []) = 0
islands_told (s ∷ t ∷ own) = length (s ∷ t ∷ own)

abbrev pub IsLineTrue : List Island → NetTold → Type 0
IsLineTrue own n = length n.cuts ≡ islands_told own

-- ---- cuts
-- the node is of the stretch, which lies on the lattice
pub record IsOfRun (m : Mesh) (r : RunTold) (node : ℕ) : Type 0 where
  pub level_there : value r.level < length m.layers
  pub row_there : value r.row < length m.ys
  pub column : ℕ
  pub from : value r.first ≤ column
  pub to : column ≤ value r.last
  pub there : value r.last < length m.xs
  pub is : node ≡ node_at m (value r.level) (value r.row) column

-- each stretch lies on the lattice, and the nodes are those of the stretches, ascending
pub record AreNodesOf (m : Mesh) (runs : List RunTold) (nodes : List ℕ) : Type 0 where
  pub on_lattice : All (λ (r : RunTold). (node : ℕ) × IsOfRun m r node) runs
  pub ascends : IsStrictlyIncreasing nodes
  pub only : All (λ node. (r : RunTold) × Contains runs r × IsOfRun m r node) nodes
  pub all : (r : RunTold) (node : ℕ) → Contains runs r → IsOfRun m r node → Contains nodes node

-- the cut in the place of an island names its first pin, and its stretches give a set that shuts the island in
pub record IsCutTrue (d : Design) (m : Mesh) (items : List Item) (island : Island) (others : List Island)
    (c : CutTold) : Type 0 where
  pub names : c.pin ≡ first_name d island
  pub nodes : List ℕ
  pub nodes_are : AreNodesOf m c.runs nodes
  pub set : IsCutSet d m items island others nodes
  pub reached : c.reached ≡ decimal (length nodes)
  pub count : ℕ
  pub out : IsOutCount d m island.net nodes count
  pub blocked : c.blocked ≡ decimal count

-- each cut of a net whose line is true
pub record AreCutsTrue (d : Design) (m : Mesh) (items : List Item) (own : List Island) (n : NetTold) : Type 0 where
  pub each : (k : ℕ) (island : Island) (c : CutTold) → slice_get own k ≡ Some island → slice_get n.cuts k ≡ Some c
      → IsCutTrue d m items island (remove own k) c

-- a false cut: the island's first pin
pub record IsFalseCut (d : Design) (m : Mesh) (items : List Item) (found : List (List Island)) (t : Told) (pin : ℕ) :
    Type 0 where
  pub net : ℕ
  pub k : ℕ
  pub own : List Island
  pub own_is : slice_get found net ≡ Some own
  pub told : NetTold
  pub told_is : slice_get t.nets net ≡ Some told
  pub island : Island
  pub island_is : slice_get own k ≡ Some island
  pub cut : CutTold
  pub cut_is : slice_get told.cuts k ≡ Some cut
  pub pin_is : first_of island.pins ≡ pin
  pub false_ : IsCutTrue d m items island (remove own k) cut → ⊥

-- the cuts whose islands' first pins are below a pin are true
pub record AreTrueBelow (d : Design) (m : Mesh) (items : List Item) (found : List (List Island)) (t : Told)
    (pin : ℕ) :
    Type 0 where
  pub each : (net k : ℕ) (own : List Island) (told : NetTold) (island : Island) (c : CutTold)
      → slice_get found net ≡ Some own → slice_get t.nets net ≡ Some told → slice_get own k ≡ Some island
      → slice_get told.cuts k ≡ Some c → first_of island.pins < pin → IsCutTrue d m items island (remove own k) c

-- ---- what is judged
-- the board of a session, the islands on it, and the report read by them
pub record Case : Type 0 where
  pub design : Design
  pub items : List Item
  pub found : List (List Island)
  pub report : List ℕ

abbrev pub IsReport : Case → Told → Type 0
IsReport c t = IsTrulyTold c.design (first_names c.design c.found) t × Says c.design t c.report

abbrev pub mesh_told : Case → Told → Mesh
mesh_told c t = lattice_of c.design (value t.grid)

-- copper that is legal
pub record HasLegalCopper (c : Case) : Type 0 where
  pub agree : All (AgreesWithAll c.design c.items) c.items
  pub inside : All (IsWithinEdges c.design) c.items
  pub laid : All (IsLaidWell c.design) c.items

-- the report has the form, the numbers that the form fixes are true, and its lattice isn't too large
pub record IsRead (c : Case) (t : Told) : Type 0 where
  pub report : IsReport c t
  pub few : nodes_of c.design t ≤ MOST_NODES

-- it has the form, and its lattice is too large
pub record IsTooFine (c : Case) (count : ℕ) : Type 0 where
  pub told : Told
  pub is : IsTold c.design (first_names c.design c.found) told
  pub says : Says c.design told c.report
  pub count_is : count ≡ nodes_of c.design told
  pub many : MOST_NODES < count

-- ---- what is wrong first
-- a line of the report isn't in its place
pub record IsMisplaced (c : Case) (at : ℕ) : Type 0 where
  pub out : IsOutOfPlace c.design (IsTrulyTold c.design (first_names c.design c.found)) c.report at
  pub not_fine : (count : ℕ) → IsTooFine c count → ⊥

-- the report is read, and the first item that disagrees with another has this id
pub record IsClash (c : Case) (at : ℕ) : Type 0 where
  pub told : Told
  pub read : IsRead c told
  pub first : IsFirstBad (Clashes c.design c.items) (AgreesWithAll c.design c.items) c.items at

-- all agree, and the first that isn't inside has this id
pub record IsOutside (c : Case) (at : ℕ) : Type 0 where
  pub told : Told
  pub read : IsRead c told
  pub agree : All (AgreesWithAll c.design c.items) c.items
  pub first : IsFirstBad (λ a. IsWithinEdges c.design a → ⊥) (IsWithinEdges c.design) c.items at

-- all are inside, and the first that isn't laid well has this id
pub record IsIllLaid (c : Case) (at : ℕ) : Type 0 where
  pub told : Told
  pub read : IsRead c told
  pub agree : All (AgreesWithAll c.design c.items) c.items
  pub inside : All (IsWithinEdges c.design) c.items
  pub first : IsFirstBad (λ a. IsLaidWell c.design a → ⊥) (IsLaidWell c.design) c.items at

-- the copper is legal, and this is the first net whose line isn't true
pub record IsFalseLine (c : Case) (at : ℕ) : Type 0 where
  pub told : Told
  pub read : IsRead c told
  pub legal : HasLegalCopper c
  pub own : List Island
  pub own_is : slice_get c.found at ≡ Some own
  pub line : NetTold
  pub line_is : slice_get told.nets at ≡ Some line
  pub false_ : IsLineTrue own line → ⊥
  pub before : (net : ℕ) (os : List Island) (n : NetTold) → net < at → slice_get c.found net ≡ Some os
      → slice_get told.nets net ≡ Some n → IsLineTrue os n

-- all lines are true, and this is the least first pin of an island whose cut isn't
pub record IsNoCut (c : Case) (at : ℕ) : Type 0 where
  pub told : Told
  pub read : IsRead c told
  pub legal : HasLegalCopper c
  pub lines : AllZip IsLineTrue c.found told.nets
  pub false_ : IsFalseCut c.design (mesh_told c told) c.items c.found told at
  pub below : AreTrueBelow c.design (mesh_told c told) c.items c.found told at

-- nothing is wrong
pub record IsRight (c : Case) : Type 0 where
  pub told : Told
  pub read : IsRead c told
  pub legal : HasLegalCopper c
  pub lines : AllZip IsLineTrue c.found told.nets
  pub cuts : AllZip (AreCutsTrue c.design (mesh_told c told) c.items) c.found told.nets

-- the number, and what comes with it
abbrev pub IsWrong : Case → ℕ → ℕ → Type 0
IsWrong c number at =
    ((number ≡ 2) × IsMisplaced c at) ⊎ (((number ≡ 3) × IsClash c at) ⊎ (((number ≡ 4) × IsOutside c at)
    ⊎ (((number ≡ 5) × IsIllLaid c at) ⊎ (((number ≡ 6) × IsFalseLine c at) ⊎ ((number ≡ 7) × IsNoCut c at)))))

abbrev pub Answers : Case → Result Verdict JudgeFault → Type 0
Answers c (Ok Yes) = IsRight c
Answers c (Ok (No number at)) = IsWrong c number at
Answers c (Err (TooManyNodes count)) = IsTooFine c count
Answers c (Err (Memory e)) = Unit {0}

-- the answer on the board of the session, by the islands on it
pub record IsJudged (d : Design) (xs : List SesItem) (report : List ℕ) (answer : Result Verdict JudgeFault) : Type 0
  where
    pub found : List (List Island)
    pub islands : AreAllIslands d (board_of d xs) found
    pub answers : Answers (record { design = d; items = board_of d xs; found = found; report = report }) answer

-- What judging answers. Memory may be wanting before any islands are known, so then nothing is said.
abbrev pub Judges : Design → List SesItem → List ℕ → Result Verdict JudgeFault → Type 0
Judges d xs report (Ok verdict) = IsJudged d xs report (Ok verdict)
Judges d xs report (Err (TooManyNodes count)) = IsJudged d xs report (Err (TooManyNodes count))
Judges d xs report (Err (Memory e)) = Unit {0}

-- ---- what a yes is worth
-- a net that is told complete has all its pins joined, and each island of a net that is told open has a set that shuts
-- it in
abbrev pub IsNetVouched : Design → Mesh → List Item → ℕ → List Island → NetTold → Type 0
IsNetVouched d m items net own n = ((n.cuts ≡ []) × IsComplete d items net)
    ⊎ ((length n.cuts ≡ length own)
    × ((k : ℕ) (island : Island) → slice_get own k ≡ Some island
    → (nodes : List ℕ) × IsCutSet d m items island (remove own k) nodes))

-- the copper is legal, and each net is as it is told
pub record IsVouched (c : Case) : Type 0 where
  pub told : Told
  pub says : Says c.design told c.report
  pub legal : IsLegal c.design c.items
  pub nets : (net : ℕ) (own : List Island) (n : NetTold) → slice_get c.found net ≡ Some own
      → slice_get told.nets net ≡ Some n → IsNetVouched c.design (mesh_told c told) c.items net own n

-- a yes, or want of memory
abbrev pub IsYes : Result Verdict JudgeFault → Type 0
IsYes (Ok Yes) = Unit {0}
IsYes (Ok (No number at)) = ⊥
IsYes (Err (TooManyNodes count)) = ⊥
IsYes (Err (Memory e)) = Unit {0}
