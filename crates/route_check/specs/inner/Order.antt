-- What is wrong first with copper, and what a report's cuts leave to answer.
use Rattle.std.specs.Prelude.{◌≡◌, ◌⊎◌, ℕ, List, Some, None, All, Result, length}
use Rattle.pcb_model.specs.declared.item.Item.{Item}
use Rattle.pcb_model.specs.declared.design.Design.{Design}
use Rattle.pcb_islands.specs.declared.net.Island.{Island}
use Rattle.route_lattice.specs.Mesh.{Mesh}
use Rattle.copper_check.specs.Checks.{AgreesWithAll, AreAllIslands, Clashes, IsFirstBad, IsLaidWell, IsWithinEdges}
use Rattle.report_form.specs.declared.reading.ReadCut.{ReadCut}
use Rattle.route_check.specs.declared.verdict.Verdict.{Verdict}
use Rattle.route_check.specs.declared.verdict.Verdict.TheVariants.{Yes, No}
use Rattle.route_check.specs.declared.verdict.JudgeFault.{JudgeFault}
use Rattle.route_check.specs.Judged.{Answers}
use Rattle.route_check.specs.inner.Kept.{AreAllJudged, HaveTheirCuts, IsFirstLine}

-- copper that is legal, but for the design's own fixed items
pub record IsWellLaid (d : Design) (items : List Item) : Type 0 where
  pub agree : All (AgreesWithAll d items) items
  pub inside : All (IsWithinEdges d) items
  pub laid : All (IsLaidWell d) items

-- an item disagrees with another one; else one isn't inside; else one isn't laid as its net wants it
abbrev pub IsBadCopper : Design → List Item → Verdict → Type 0
IsBadCopper d items Yes = ⊥
IsBadCopper d items (No number at) =
    ((number ≡ 3) × IsFirstBad (Clashes d items) (AgreesWithAll d items) items at)
    ⊎ (((number ≡ 4) × All (AgreesWithAll d items) items
    × IsFirstBad (λ a. IsWithinEdges d a → ⊥) (IsWithinEdges d) items at)
    ⊎ ((number ≡ 5) × All (AgreesWithAll d items) items × All (IsWithinEdges d) items
    × IsFirstBad (λ a. IsLaidWell d a → ⊥) (IsLaidWell d) items at))

-- a net has another number of cuts than islands are told; else a cut is none; else all is right
abbrev pub IsNetsVerdict : Design → Mesh → List Item → List (List Island) → List (List ReadCut) → Verdict → Type 0
IsNetsVerdict d m items found nets Yes =
    HaveTheirCuts found nets × AreAllJudged d m items found nets (length nets) None
IsNetsVerdict d m items found nets (No number at) =
    ((number ≡ 6) × IsFirstLine found nets at)
    ⊎ ((number ≡ 7) × HaveTheirCuts found nets × AreAllJudged d m items found nets (length nets) (Some at))

-- what is wrong with copper first, else with lines and cuts, or that nothing is
abbrev pub IsVerdictOf : Design → Mesh → List Item → List (List Island) → List (List ReadCut) → Verdict → Type 0
IsVerdictOf d m items found nets v =
    IsBadCopper d items v ⊎ (IsWellLaid d items × IsNetsVerdict d m items found nets v)

-- the answer on a board with these items, by the islands on it
pub record JudgesBoard (d : Design) (items : List Item) (report : List ℕ) (answer : Result Verdict JudgeFault) : Type 0
  where
    pub found : List (List Island)
    pub islands : AreAllIslands d items found
    pub answers : Answers (record { design = d; items = items; found = found; report = report }) answer
