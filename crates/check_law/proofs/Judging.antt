-- What is judged right whatever its islands are: the answer is yes, or memory was wanting.
use Rattle.std.proofs.Common.{ℕ, List}
use Rattle.std.specs.Prelude.{Result, Ok, Err}
use Rattle.pcb_model.specs.declared.design.Design.{Design}
use Rattle.pcb_islands.specs.declared.net.Island.{Island}
use Rattle.copper_check.specs.Checks.{AreAllIslands}
use Rattle.ses_reader.specs.declared.item.SesItem.{SesItem}
use Rattle.route_check.specs.declared.verdict.Verdict.{Verdict}
use Rattle.route_check.specs.declared.verdict.JudgeFault.{JudgeFault}
use Rattle.route_check.specs.declared.verdict.JudgeFault.TheVariants.{TooManyNodes, Memory}
use Rattle.route_check.specs.Board.{board_of}
use Rattle.route_check.specs.Judged.{Answers, Case, IsRight, IsYes, Judges}

module _ (yes : (c : Case) (r : Result Verdict JudgeFault) → IsRight c → Answers c r → IsYes r) (d : Design)
    (xs : List SesItem) (report : List ℕ)
    (right : (found : List (List Island)) → AreAllIslands d (board_of d xs) found
    → IsRight (record { design = d; items = board_of d xs; found = found; report = report })) where
  abbrev case_of : List (List Island) → Case
  case_of found = record { design = d; items = board_of d xs; found = found; report = report }

  -- the answer is yes, or memory was wanting
  pub judged_yes : (answer : Result Verdict JudgeFault) → Judges d xs report answer → IsYes answer
  judged_yes (Ok verdict) j = yes (case_of j.found) (Ok verdict) (right j.found j.islands) j.answers
  judged_yes (Err (TooManyNodes count)) j =
      yes (case_of j.found) (Err (TooManyNodes count)) (right j.found j.islands) j.answers
  judged_yes (Err (Memory e)) j = tt
