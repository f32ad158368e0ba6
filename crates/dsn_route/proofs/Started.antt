-- The session of a board comes back where a call starts from it.
use Rattle.std.proofs.Common.{◌≡◌, ◌∙◌, ℕ, List, [], Option, Some, None, Result, Ok, IfSome, ap, false, subst, sym}
use Rattle.desk_io.specs.States.{DeskState, SinkState}
use Rattle.pcb_model.specs.declared.item.Item.{Item}
use Rattle.pcb_model.specs.declared.design.Design.{Design}
use Rattle.pcb_model.specs.Scale.{scale_of}
use Rattle.pcb_board.specs.Boards.{BoardOf, Starts}
use Rattle.pcb_board.specs.Keeping.{IsBoard}
use Rattle.dsn_design.specs.Reading.{HasDesign, OneOutcome}
use Rattle.ses_writer.specs.Session.{session_of}
use Rattle.ses_reader.specs.declared.item.SesItem.{SesItem}
use Rattle.ses_reader.specs.Reading.{HasSession}
use Rattle.session_law.specs.Told.{HaveSameCopper, IsOnScale}
use Rattle.session_start.specs.Starting.{started}
use Rattle.route_words.specs.declared.command.Command.{Command}
use Rattle.route_words.specs.declared.command.Command.TheVariants.{Route}
use Rattle.route_words.specs.declared.command.WordFault.{WordFault}
use Rattle.route_run.specs.declared.run.Routed.{Routed}
use Rattle.dsn_route.specs.declared.status.Status.{Status}
use Rattle.dsn_route.specs.declared.outcome.Outcome.{Outcome}
use Rattle.dsn_route.specs.Judging.{IsDesignOf}
use Rattle.dsn_route.specs.Answers.{Answers, IsOutcome}
use Rattle.dsn_route.specs.Due.{ComesBack, IsFromBoard}
use Rattle.dsn_route.proofs.Dues.{one_command, one_text}
use Rattle.dsn_route.proofs.OneText.{one_design}

-- a session that was read back begins with its board
abbrev pub SessionsComeBack : Type 0
SessionsComeBack = (text : List ℕ) (b : BoardOf) (old : List SesItem) (dropped : List ℕ) (start : List Item)
    → HasDesign text b.design → IsBoard b → IsOnScale (scale_of b.design).nm b.items
    → HasSession (session_of b.design b.items false) b.design old → Starts (started b.design old) dropped start
    → (dropped ≡ []) × HaveSameCopper b.design b.items start

module _ (law : SessionsComeBack) (single : OneOutcome) (found : Result Command WordFault) (desk : DeskState)
    (b : BoardOf) (given : IsFromBoard found desk b) where
  abbrev asked : Command
  asked = Route given.input given.output (Some given.from) given.diagonal given.knobs

  -- a run of a design that starts from that session
  run_back : (made : Routed) (d : Design) → IsDesignOf asked desk d
      → Starts d made.facts.dropped made.board.start → ComesBack b made
  run_back made d is starts =
      let first : is.text ≡ given.text =
      one_text desk.files given.input given.text is.text given.held is.is_text.file in
      let read : is.read ≡ b.design = one_design single given.text is.read b.design
      (subst (λ (t : List ℕ). HasDesign t is.read) first is.reads) given.reads in
      let items = is.starts.0 in
      let told = is.starts.1 in
      let second : told.text ≡ session_of b.design b.items false =
      one_text desk.files given.from (session_of b.design b.items false) told.text given.session told.is_text.file in
      let session : HasSession (session_of b.design b.items false) b.design items =
      subst (λ (x : Design). HasSession (session_of b.design b.items false) x items) read
      (subst (λ (t : List ℕ). HasSession t is.read items) second told.reads) in
      let design_is : d ≡ started b.design items =
      is.starts.2 ∙ ap (λ (x : Design). started x items) read in
      let back = law given.text b items made.facts.dropped made.board.start given.reads given.board given.on_scale
      session (subst (λ (x : Design). Starts x made.facts.dropped made.board.start) design_is starts) in
      record { none_dropped = back.0; copper = back.1 }

  pub back_due : (command : Command) → found ≡ Ok command → (later : DeskState) (sink after : SinkState)
      (routed : Option Routed) (status : Status)
      → Answers (Ok command) desk later sink after (record { status = status; routed = routed })
      → IfSome routed (ComesBack b)
  back_due command is later sink after None status answers = tt
  back_due command is later sink after (Some made) status answers =
      let r = answers.0 in
      run_back made r.design
      (subst (λ (k : Command). IsDesignOf k desk r.design) (one_command command asked (sym is ∙ given.accepted))
      r.is_design)
      (subst (λ (x : Design). Starts x made.facts.dropped made.board.start) r.run.run.design_is
      r.run.run.facts_are.dropped_are)
