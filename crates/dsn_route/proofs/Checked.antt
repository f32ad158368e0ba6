-- Which answer is due where the files of a command that reads a session are told.
use Rattle.std.proofs.Common.{◌≡◌, ◌⊎◌, inl, inr, ℕ, ◌≤◌, refl, sym, ◌∙◌, subst, List, length, Option, Result, Ok, Err}
use Rattle.desk_io.specs.States.{DeskState, SinkState}
use Rattle.desk_io.specs.Answers.{IsAbsent, IsHeld, IsTooLong, DeskFaulted}
use Rattle.pcb_model.specs.declared.design.Design.{Design}
use Rattle.pcb_model.specs.Sound.{IsSound}
use Rattle.dsn_design.specs.Reading.{HasDesign, OneOutcome}
use Rattle.ses_reader.specs.declared.item.SesItem.{SesItem}
use Rattle.ses_reader.specs.Reading.{HasSession, OneSession}
use Rattle.route_check.specs.declared.verdict.Verdict.{Verdict}
use Rattle.route_check.specs.declared.verdict.Verdict.TheVariants.{No}
use Rattle.route_check.specs.declared.verdict.JudgeFault.{JudgeFault}
use Rattle.route_check.specs.declared.verdict.JudgeFault.TheVariants.{TooManyNodes}
use Rattle.route_check.specs.Judged.{IsYes, Judges}
use Rattle.route_words.specs.declared.command.Command.{Command}
use Rattle.route_words.specs.declared.command.Command.TheVariants.{Route, Check, Gen}
use Rattle.route_words.specs.declared.command.WordFault.{WordFault}
use Rattle.dsn_route.specs.declared.status.Status.{Status}
use Rattle.dsn_route.specs.declared.status.Status.TheVariants.{Complete, SomeOpen, Usage, Refused, ReadFault}
use Rattle.dsn_route.specs.declared.status.Status.TheVariants.{WriteFault, Limit, Memory, Rejected}
use Rattle.dsn_route.specs.declared.outcome.Outcome.{Outcome}
use Rattle.dsn_route.specs.Lines.{max_bytes}
use Rattle.dsn_shapes.specs.declared.refusal.Refusal.{Refusal}
use Rattle.route_run.specs.declared.run.Routed.{Routed}
use Rattle.dsn_route.specs.Commands.{AsksToRoute, IsInput, IsInputOf, IsSessionOf, IsText, from_of}
use Rattle.dsn_route.specs.Texts.{LacksDesign}
use Rattle.dsn_route.specs.Judging.{HasJudged, HasMisread, IsDesignIn, IsDesignOf, IsSessionIn, IsNoSession}
use Rattle.dsn_route.specs.Judging.{IsStartedBy, OfOneFile}
use Rattle.dsn_route.specs.Answers.{Answers, IsOutcome, IsOverlong, IsRejected, IsUnread}
use Rattle.dsn_route.specs.Due.{AreHeld, HasFewNodes, HasNoFault, IsClean, IsDueAfterRead, IsJudgedDone}
use Rattle.dsn_route.specs.Due.{IsSessionHeld}
use Rattle.dsn_route.proofs.Dues.{Ends, no_desk_fault, no_sink_fault, not_absent, not_long, one_command}
use Rattle.dsn_route.proofs.Dues.{one_text, sides}
use Rattle.dsn_route.proofs.OneText.{one_design, apart, no_session}
use Rattle.dsn_route.proofs.Wording.{one_input, one_name, text_input}

-- ---- commands that read a session
-- one that routes starts from it
pub started_from : (command : Command) (session : List ℕ) (desk : DeskState) (read e : Design) → AsksToRoute command
    → IsSessionOf command session → IsStartedBy (from_of command) desk read e
    → (items : List SesItem) × IsSessionIn session desk read items
started_from (Route input output from diagonal knobs) session desk read e routes named starts =
    let held = subst (λ (f : Option (List ℕ)). IsStartedBy f desk read e) named starts in
    (held.0, held.1)
started_from (Check input told report) session desk read e routes named starts = absurd routes
started_from (Gen n) session desk read e routes named starts = absurd named

-- a file of it is too long: the design's, the session's, or a later one, where the session was read
abbrev BothRead : List ℕ → List ℕ → DeskState → Type 0
BothRead input session desk =
    (d : Design) × (items : List SesItem) × IsDesignIn input desk d × IsSessionIn session desk d items

which_long : (command : Command) (input session : List ℕ) (desk : DeskState) (line : List ℕ) → IsInputOf command input
    → IsSessionOf command session → IsOverlong command desk line
    → IsTooLong desk.files input max_bytes ⊎ (IsTooLong desk.files session max_bytes ⊎ BothRead input session desk)
which_long (Route name output from diagonal knobs) input session desk line is named (inl long, l) =
    inl (subst (λ (n : List ℕ). IsTooLong desk.files n max_bytes) (sym is) long)
which_long (Route name output from diagonal knobs) input session desk line is named
    (inr (old, given, d, first, long), l) =
    inr (inl (subst (λ (n : List ℕ). IsTooLong desk.files n max_bytes)
    (one_name (Route name output from diagonal knobs) old session given named) long))
which_long (Check name told report) input session desk line is named (inl long, l) =
    inl (subst (λ (n : List ℕ). IsTooLong desk.files n max_bytes) (sym is) long)
which_long (Check name told report) input session desk line is named (inr (d, first, inl long), l) =
    inr (inl (subst (λ (n : List ℕ). IsTooLong desk.files n max_bytes) (sym named) long))
which_long (Check name told report) input session desk line is named (inr (d, first, inr (items, second, long)), l) =
    inr (inr (
      d,
      items,
      subst (λ (n : List ℕ). IsDesignIn n desk d) (sym is) first,
      subst (λ (n : List ℕ). IsSessionIn n desk d items) (sym named) second,
    ))
which_long (Gen n) input session desk line is named why = absurd is

module _ (single : OneOutcome) (desk later : DeskState) (sink after : SinkState) (d : Design) (told : List ℕ)
    (found : Result Command WordFault) (held : IsSessionHeld found desk d told) where
  abbrev asked : Command
  asked = held.asked

  -- what was read of the first two files is what is told of them
  design_is : (e : Design) → IsDesignIn held.input desk e → e ≡ d
  design_is e is =
      one_design single held.text e d
      (subst (λ (t : List ℕ). HasDesign t e)
      (one_text desk.files held.input held.text is.text held.held is.is_text.file) is.reads) held.reads

  session_is : (e : Design) (items : List SesItem) → IsDesignIn held.input desk e
      → IsSessionIn held.session desk e items → HasSession told d items
  session_is e items first is =
      subst (λ (x : Design). HasSession told x items) (design_is e first)
      (subst (λ (t : List ℕ). HasSession t e items)
      (one_text desk.files held.session told is.text held.told_held is.is_text.file) is.reads)

  judged_design : (answer : Result Verdict JudgeFault) (j : HasJudged asked desk answer)
      → IsDesignIn held.input desk j.design
  judged_design answer j =
      subst (λ (n : List ℕ). IsDesignIn n desk j.design)
      (sym (subst (λ (k : Command). IsInputOf k held.input) j.command_is held.is_input)) j.of_input

  judged_items : (answer : Result Verdict JudgeFault) (j : HasJudged asked desk answer) → HasSession told d j.items
  judged_items answer j =
      session_is j.design j.items (judged_design answer j)
      (subst (λ (n : List ℕ). IsSessionIn n desk j.design j.items)
      (sym (subst (λ (k : Command). IsSessionOf k held.session) j.command_is held.is_session)) j.of_session)

  -- a session that couldn't be read is none
  misread_is : (place : ℕ) (m : HasMisread asked desk place) → IsNoSession told d place
  misread_is place m =
      let input_is = one_input asked m.input held.input m.is_input held.is_input in
      let session_is = one_name asked m.session held.session m.is_session held.is_session in
      let same = design_is m.design (subst (λ (n : List ℕ). IsDesignIn n desk m.design) input_is m.of_input) in
      let file = subst (λ (n : List ℕ). IsInput n desk m.text) session_is m.is_text in
      subst (λ (x : Design). IsNoSession told x place) same
      (subst (λ (t : List ℕ). IsNoSession t m.design place)
      (one_text desk.files held.session told m.text held.told_held file.file) m.no_session)

  -- the design isn't refused
  not_lacking : (text : List ℕ) (r : Refusal) → IsText asked desk text → LacksDesign text r → ⊥
  not_lacking text r is lack =
      apart single held.text d r held.reads
      (subst (λ (t : List ℕ). LacksDesign t r) (one_text desk.files held.input held.text text held.held
      (text_input asked held.input desk text held.is_input is).file) lack)

  module _ (one : OneSession) (place : ℕ) (none : IsNoSession told d place) where
    -- no design starts from the session
    not_started : AsksToRoute asked → (e : Design) → IsDesignOf asked desk e → ⊥
    not_started routes e is =
        let s = started_from asked held.session desk is.read e routes held.is_session is.starts in
        no_session one told d s.0 place (session_is is.read s.0 (record {
          text = is.text;
          is_text = text_input asked held.input desk is.text held.is_input is.is_text;
          reads = is.reads;
        }) s.1) none

    not_long_here : (line : List ℕ) → IsOverlong asked desk line → ⊥
    not_long_here line long =
        elim (which_long asked held.input held.session desk line held.is_input held.is_session long) [
          | inl first ↦ not_long desk.files held.input held.text held.held held.fits first
          | inr more ↦ elim more [
            | inl second ↦ not_long desk.files held.session told held.told_held held.told_fits second
            | inr both ↦ no_session one told d both.1 place (session_is both.0 both.1 both.2 both.3) none
          ]
        ]

    not_ran : (made : Routed) → IsOutcome asked desk made → ⊥
    not_ran made r = not_started r.routes r.design r.is_design

    rejected_case : (status : Status) → Ends asked desk later sink after status → IsDueAfterRead Rejected status
    rejected_case Rejected answers = refl
    rejected_case ReadFault answers = tt
    rejected_case WriteFault answers = tt
    rejected_case Memory answers = tt
    rejected_case Usage (inl s) = absurd s.said.stops
    rejected_case Usage (inr w) = absurd w.1.1
    rejected_case Refused (inl s) =
        absurd (not_lacking s.said.stops.text s.said.stops.refused.refusal s.said.stops.is_text
        s.said.stops.refused.lacks)
    rejected_case Refused (inr w) = absurd w.1.1
    rejected_case Limit (inl s) = elim s.said.stops [
      | inl long ↦ absurd (not_long_here s.said.line long)
      | inr counted ↦ elim counted [
        | inl over ↦ absurd (not_lacking over.text over.over.refusal over.is_text over.over.lacks)
        | inr nodes ↦ elim nodes [
          | inl crowded ↦ absurd (not_started crowded.routes crowded.design crowded.is_design)
          | inr fine ↦ absurd (no_session one told d fine.judged.items place (judged_items _ fine.judged) none)
        ]
      ]
    ]
    rejected_case Limit (inr w) = absurd w.1.1
    rejected_case Complete (inl s) =
        absurd (no_session one told d s.said.stops.0.items place (judged_items _ s.said.stops.0) none)
    rejected_case Complete (inr w) = absurd (not_ran w.0 w.1.0)
    rejected_case SomeOpen (inl s) = absurd s.said
    rejected_case SomeOpen (inr w) = absurd (not_ran w.0 w.1.0)

  module _ (report page : List ℕ) (judges : asked ≡ Check held.input held.session report)
      (page_held : IsHeld desk.files report page) (page_fits : length page ≤ max_bytes)
      (calm : HasNoFault desk later sink after) where
    judged_page : (answer : Result Verdict JudgeFault) (j : HasJudged asked desk answer) → Judges d j.items page answer
    judged_page answer j =
        let is : Check held.input held.session report ≡ Check j.input j.session j.report = sym judges ∙ j.command_is in
        let same : j.report ≡ report = cc in
        let file = subst (λ (n : List ℕ). IsInput n desk j.text) same j.of_report in
        subst (λ (t : List ℕ). Judges d j.items t answer)
        (one_text desk.files report page j.text page_held file.file)
        (subst (λ (x : Design). Judges x j.items j.text answer) (design_is j.design (judged_design answer j)) j.judges)

    no_absent : (name text : List ℕ) → IsHeld desk.files name text
        → DeskFaulted desk later (IsAbsent desk.files name) → ⊥
    no_absent name text there fault =
        no_desk_fault desk later sink after calm fault (not_absent desk.files name text there)

    -- each file was read
    none_unread : OfOneFile (λ name. DeskFaulted desk later (IsAbsent desk.files name)) held.input held.session report
        desk → ⊥
    none_unread (inl first) = no_absent held.input held.text held.held first
    none_unread (inr (e, is, inl second)) = no_absent held.session told held.told_held second
    none_unread (inr (e, is, inr (items, has, third))) = no_absent report page page_held third

    none_long : OfOneFile (λ name. IsTooLong desk.files name max_bytes) held.input held.session report desk → ⊥
    none_long (inl first) = not_long desk.files held.input held.text held.held held.fits first
    none_long (inr (e, is, inl second)) = not_long desk.files held.session told held.told_held held.told_fits second
    none_long (inr (e, is, inr (items, has, third))) = not_long desk.files report page page_held page_fits third

    -- nothing is routed
    no_routes : AsksToRoute asked → ⊥
    no_routes routes = subst AsksToRoute judges routes

    -- whatever has no line of the others
    module _ (Due : Status → Type 0) (complete : Due Complete) (memory : Due Memory)
        (rejected : (line : List ℕ) → IsRejected asked desk line → Due Rejected)
        (fine_not : (count : ℕ) → HasJudged asked desk (Err (TooManyNodes count)) → ⊥) where
      held_case : (status : Status) → Ends asked desk later sink after status → Due status
      held_case Complete answers = complete
      held_case Memory answers = memory
      held_case Rejected (inl s) = rejected s.said.line s.said.stops
      held_case Rejected (inr w) = absurd w.1.1
      held_case SomeOpen (inl s) = absurd s.said
      held_case SomeOpen (inr w) = absurd (no_routes w.1.0.routes)
      held_case Usage (inl s) = absurd s.said.stops
      held_case Usage (inr w) = absurd w.1.1
      held_case Refused (inl s) =
          absurd (not_lacking s.said.stops.text s.said.stops.refused.refusal s.said.stops.is_text
          s.said.stops.refused.lacks)
      held_case Refused (inr w) = absurd w.1.1
      held_case ReadFault (inl s) =
          absurd (none_unread (subst (λ (k : Command). IsUnread k desk later s.said.line) judges s.said.stops).0)
      held_case ReadFault (inr w) = absurd w.1.1
      held_case WriteFault (inl s) = absurd (no_sink_fault desk later sink after calm s.said.fault)
      held_case WriteFault (inr w) = absurd (no_routes w.1.0.routes)
      held_case Limit (inl s) = elim s.said.stops [
        | inl long ↦ absurd (none_long (subst (λ (k : Command). IsOverlong k desk s.said.line) judges long).0)
        | inr counted ↦ elim counted [
          | inl over ↦ absurd (not_lacking over.text over.over.refusal over.is_text over.over.lacks)
          | inr nodes ↦ elim nodes [
            | inl crowded ↦ absurd (no_routes crowded.routes)
            | inr fine ↦ absurd (fine_not fine.count fine.judged)
          ]
        ]
      ]
      held_case Limit (inr w) = absurd w.1.1

    judged_case : HasFewNodes d told page → (status : Status) → Ends asked desk later sink after status
        → IsJudgedDone status
    judged_case few = held_case IsJudgedDone tt tt (λ line why. tt)
        (λ count j. let judges = judged_page _ j in
        few j.items judges.found count (judged_items _ j) judges.islands judges.answers)

    -- what is right is answered so
    module _ (readable : (place : ℕ) → IsNoSession told d place → ⊥)
        (right : IsSound d → (items : List SesItem) (answer : Result Verdict JudgeFault) → HasSession told d items
        → Judges d items page answer → IsYes answer) where
      -- by the design, which is sound
      is_right : (answer : Result Verdict JudgeFault) → HasJudged asked desk answer → IsYes answer
      is_right answer j = right (subst IsSound (design_is j.design (judged_design answer j)) j.sound) j.items answer
          (judged_items answer j) (judged_page answer j)

      no_rejection : (line : List ℕ) → IsRejected asked desk line → ⊥
      no_rejection line (inl a) = readable a.place (misread_is a.place a.misread)
      no_rejection line (inr a) = is_right (Ok (No a.number a.at)) a.judged

      clean_case : (status : Status) → Ends asked desk later sink after status → IsClean status
      clean_case = held_case IsClean tt tt (λ line why. absurd (no_rejection line why))
          (λ count j. is_right (Err (TooManyNodes count)) j)

-- ---- what is due
module _ (single : OneOutcome) (desk later : DeskState) (sink after : SinkState) (d : Design) (told : List ℕ)
    (found : Result Command WordFault) (command : Command) (is : found ≡ Ok command) (o : Outcome)
    (answers : Answers (Ok command) desk later sink after o) where
  asks : (held : IsSessionHeld found desk d told) → command ≡ held.asked
  asks held = one_command command held.asked (sym is ∙ held.accepted)

  ends : (held : IsSessionHeld found desk d told) → Ends held.asked desk later sink after o.status
  ends held = subst (λ (k : Command). Ends k desk later sink after o.status) (asks held)
      (sides command desk later sink after o.routed o.status answers)

  pub rejected_due : OneSession → (held : IsSessionHeld found desk d told) (place : ℕ) → IsNoSession told d place
      → IsDueAfterRead Rejected o.status
  rejected_due one held place none =
      rejected_case single desk later sink after d told found held one place none o.status (ends held)

  pub judged_due : (page : List ℕ) → AreHeld found desk d told page → HasFewNodes d told page
      → HasNoFault desk later sink after → IsJudgedDone o.status
  judged_due page held few calm =
      judged_case single desk later sink after d told found held.first held.report page held.judges held.held held.fits
      calm few o.status
      (ends held.first)

  pub clean_due : (page : List ℕ) → AreHeld found desk d told page → HasNoFault desk later sink after
      → ((place : ℕ) → IsNoSession told d place → ⊥)
      → (IsSound d → (items : List SesItem) (answer : Result Verdict JudgeFault) → HasSession told d items
      → Judges d items page answer → IsYes answer) → IsClean o.status
  clean_due page held calm readable right =
      clean_case single desk later sink after d told found held.first held.report page held.judges held.held held.fits
      calm readable right
      o.status (ends held.first)
