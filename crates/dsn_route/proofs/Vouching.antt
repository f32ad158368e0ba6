-- What it is worth that `check` says that nothing is wrong.
use Rattle.std.proofs.Common.{◌≡◌, inl, inr, ℕ, List, All, Ok, subst}
use Rattle.desk_io.specs.States.{DeskState, SinkState}
use Rattle.pcb_model.specs.declared.design.Design.{Design}
use Rattle.pcb_model.specs.Sound.{IsSound}
use Rattle.pcb_islands.specs.declared.net.Island.{Island}
use Rattle.ses_reader.specs.declared.item.SesItem.{SesItem}
use Rattle.ses_reader.specs.Sound.{IsItemSound}
use Rattle.route_check.specs.Board.{board_of}
use Rattle.copper_check.specs.Checks.{AreAllIslands}
use Rattle.route_check.specs.Judged.{IsRight, IsVouched}
use Rattle.route_check.specs.declared.verdict.Verdict.TheVariants.{Yes}
use Rattle.route_words.specs.declared.command.Command.{Command}
use Rattle.route_words.specs.declared.command.Command.TheVariants.{Check}
use Rattle.dsn_route.specs.declared.status.Status.{Status}
use Rattle.dsn_route.specs.declared.status.Status.TheVariants.{Complete}
use Rattle.dsn_route.specs.declared.outcome.Outcome.{Outcome}
use Rattle.dsn_route.specs.Commands.{IsInput}
use Rattle.dsn_route.specs.Judging.{HasJudged, IsDesignIn, IsSessionIn, IsVouchedFor, case_of}
use Rattle.dsn_route.specs.Answers.{Answers}
use Rattle.dsn_route.proofs.Dues.{Ends, accepted, one_command, sides}

abbrev pub Vouches : Type 0
Vouches = (d : Design) (xs : List SesItem) (report : List ℕ) (found : List (List Island)) → IsSound d
    → All (IsItemSound d) xs → AreAllIslands d (board_of d xs) found → IsRight (case_of d xs report found)
    → IsVouched (case_of d xs report found)

module _ (law : Vouches) (input session report : List ℕ) (desk later : DeskState) (sink after : SinkState) where
  judged_so : HasJudged (Check input session report) desk (Ok Yes) → IsVouchedFor input session report desk
  judged_so j =
      let is = j.command_is in
      let input_is : j.input ≡ input = cc in
      let session_is : j.session ≡ session = cc in
      let report_is : j.report ≡ report = cc in
      record {
        design = j.design;
        items = j.items;
        text = j.text;
        of_input = subst (λ (n : List ℕ). IsDesignIn n desk j.design) input_is j.of_input;
        of_session = subst (λ (n : List ℕ). IsSessionIn n desk j.design j.items) session_is j.of_session;
        of_report = subst (λ (n : List ℕ). IsInput n desk j.text) report_is j.of_report;
        found = j.judges.found;
        islands = j.judges.islands;
        vouched = law j.design j.items j.text j.judges.found j.sound j.sound_items j.judges.islands j.judges.answers;
      }

  complete_so : Ends (Check input session report) desk later sink after Complete
      → IsVouchedFor input session report desk
  complete_so (inl s) = judged_so s.said.stops.0
  complete_so (inr w) = absurd w.1.0.routes

  pub vouched_for : (command : Command) (o : Outcome) → accepted command ≡ Ok (Check input session report)
      → o.status ≡ Complete → Answers (Ok command) desk later sink after o → IsVouchedFor input session report desk
  vouched_for command o is status answers =
      complete_so (subst (λ (s : Status). Ends (Check input session report) desk later sink after s) status
      (subst (λ (k : Command). Ends k desk later sink after o.status)
      (one_command command (Check input session report) is) (sides command desk later sink after o.routed o.status
      answers)))
