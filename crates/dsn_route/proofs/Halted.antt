-- Which answer is due where the desk tells that a file is absent, or too long, and those before it were read.
use Rattle.std.proofs.Common.{◌≡◌, inl, inr, ℕ, ◌≤◌, ◌<◌, refl, sym, ◌∙◌, subst, List, length, Option, Some, None}
use Rattle.std.proofs.Common.{Result, Ok, arith}
use Rattle.std.specs.Option.{IsSomeAnd}
use Rattle.std.proofs.lemmas.Option.{none-some}
use Rattle.desk_io.specs.States.{Files, DeskState, SinkState}
use Rattle.desk_io.specs.Answers.{IsAbsent, IsFile, IsHeld, IsTooLong}
use Rattle.pcb_model.specs.declared.design.Design.{Design}
use Rattle.dsn_shapes.specs.declared.refusal.Refusal.{Refusal}
use Rattle.dsn_design.specs.Reading.{HasDesign, OneOutcome}
use Rattle.ses_reader.specs.declared.item.SesItem.{SesItem}
use Rattle.ses_reader.specs.Reading.{OneSession}
use Rattle.route_check.specs.declared.verdict.Verdict.{Verdict}
use Rattle.route_check.specs.declared.verdict.JudgeFault.{JudgeFault}
use Rattle.route_words.specs.declared.command.Command.{Command}
use Rattle.route_words.specs.declared.command.Command.TheVariants.{Route, Check, Gen}
use Rattle.route_words.specs.declared.command.WordFault.{WordFault}
use Rattle.dsn_route.specs.declared.status.Status.{Status}
use Rattle.dsn_route.specs.declared.status.Status.TheVariants.{Complete, SomeOpen, Usage, Refused, ReadFault}
use Rattle.dsn_route.specs.declared.status.Status.TheVariants.{WriteFault, Limit, Memory, Rejected}
use Rattle.dsn_route.specs.declared.outcome.Outcome.{Outcome}
use Rattle.dsn_route.specs.Lines.{max_bytes}
use Rattle.dsn_route.specs.Commands.{AsksToRoute, IsInput, IsInputOf, IsSessionOf, IsText}
use Rattle.dsn_route.specs.Texts.{LacksDesign}
use Rattle.dsn_route.specs.Judging.{HasJudged, HasMisread, IsDesignIn, IsDesignOf, IsNoSession, IsSessionIn, OfFiles}
use Rattle.dsn_route.specs.Answers.{Answers, IsOverlong}
use Rattle.dsn_route.specs.Due.{IsDue, IsDueAfterRead, IsLong, IsMissing, IsToldLong}
use Rattle.dsn_route.proofs.Checked.{started_from}
use Rattle.dsn_route.proofs.Dues.{Ends, judged_text, misread_text, not_long, one_command, one_text, sides}
use Rattle.dsn_route.proofs.OneText.{one_design, apart, no_session}
use Rattle.dsn_route.proofs.Wording.{one_input, one_name, text_input}

-- ---- a file that gives no text
-- the files are told
abbrev IsTold : Option Files → Type 0
IsTold files = IsSomeAnd files (λ m. Unit {0})

held_of : (files : Option Files) (name text : List ℕ) → IsTold files → IsFile files name text → IsHeld files name text
held_of None name text told is = absurd told
held_of (Some m) name text told is = is

told_absent : (files : Option Files) (name : List ℕ) → IsAbsent files name → IsTold files
told_absent None name gone = absurd gone
told_absent (Some m) name gone = tt

told_held : (files : Option Files) (name text : List ℕ) → IsHeld files name text → IsTold files
told_held None name text held = absurd held
told_held (Some m) name text held = tt

-- an absent file has no text, and is not too long
not_read : (files : Option Files) (name text : List ℕ) → IsAbsent files name → IsFile files name text → ⊥
not_read None name text gone is = absurd gone
not_read (Some m) name text gone is = none-some text (sym gone ∙ is)

none_long : (files : Option Files) (name : List ℕ) → IsAbsent files name → IsTooLong files name max_bytes → ⊥
none_long None name gone long = absurd gone
none_long (Some m) name gone long =
    absurd (subst (λ (o : Option (List ℕ)). IsSomeAnd o (λ bytes. max_bytes < length bytes)) gone long)

-- a text that is told and too long isn't read
not_fit : (desk : DeskState) (name text : List ℕ) → IsToldLong desk name → IsInput name desk text → ⊥
not_fit desk name text told is =
    let fits : length told.text ≤ max_bytes =
    subst (λ (t : List ℕ). length t ≤ max_bytes)
    (one_text desk.files name told.text text told.held is.file) is.fits in
    let long = told.long in
    absurd (omega (arith, long, fits))

-- a text that was read isn't too long
not_long_read : (desk : DeskState) (name text : List ℕ) → IsTold desk.files → IsInput name desk text
    → IsTooLong desk.files name max_bytes → ⊥
not_long_read desk name text told is long =
    not_long desk.files name text (held_of desk.files name text told is.file) is.fits long

-- no file is too long where the one that is come to is absent
not_both : (desk : DeskState) (command : Command) → OfFiles (λ name. IsAbsent desk.files name) command desk
    → OfFiles (λ name. IsTooLong desk.files name max_bytes) command desk → ⊥
not_both desk (Route input output from diagonal knobs) (inl gone) (inl long) = none_long desk.files input gone long
not_both desk (Route input output from diagonal knobs) (inl gone) (inr (old, named, d, first, long)) =
    not_read desk.files input first.text gone first.is_text.file
not_both desk (Route input output from diagonal knobs) (inr (old, named, d, first, gone)) (inl long) =
    not_long_read desk input first.text (told_absent desk.files old gone) first.is_text long
not_both desk (Route input output from diagonal knobs) (inr (old, named, d, first, gone))
    (inr (other, again, e, more, long)) =
    none_long desk.files old gone
    (subst (λ (n : List ℕ). IsTooLong desk.files n max_bytes)
    (one_name (Route input output from diagonal knobs) other old again named) long)
not_both desk (Check input session report) (inl gone) (inl long) = none_long desk.files input gone long
not_both desk (Check input session report) (inl gone) (inr (d, first, rest)) =
    not_read desk.files input first.text gone first.is_text.file
not_both desk (Check input session report) (inr (d, first, inl gone)) (inl long) =
    not_long_read desk input first.text (told_absent desk.files session gone) first.is_text long
not_both desk (Check input session report) (inr (d, first, inl gone)) (inr (e, more, inl long)) =
    none_long desk.files session gone long
not_both desk (Check input session report) (inr (d, first, inl gone)) (inr (e, more, inr (items, has, long))) =
    not_read desk.files session has.text gone has.is_text.file
not_both desk (Check input session report) (inr (d, first, inr (items, has, gone))) (inl long) =
    not_long_read desk input first.text (told_absent desk.files report gone) first.is_text long
not_both desk (Check input session report) (inr (d, first, inr (items, has, gone))) (inr (e, more, inl long)) =
    not_long_read desk session has.text (told_absent desk.files report gone) has.is_text long
not_both desk (Check input session report) (inr (d, first, inr (items, has, gone)))
    (inr (e, more, inr (others, also, long))) = none_long desk.files report gone long
not_both desk (Gen n) gone long = absurd gone

-- ---- a call that comes to such a file
-- its design isn't refused, it routes and judges nothing, and a session that it reads is one
record IsHalted (command : Command) (desk : DeskState) : Type 0 where
  fit : (text : List ℕ) (r : Refusal) → IsText command desk text → LacksDesign text r → ⊥
  unrouted : AsksToRoute command → (d : Design) → IsDesignOf command desk d → ⊥
  unjudged : (answer : Result Verdict JudgeFault) → HasJudged command desk answer → ⊥
  well_read : (place : ℕ) → HasMisread command desk place → ⊥

-- the design has no text
textless : (command : Command) (desk : DeskState) → ((text : List ℕ) → IsText command desk text → ⊥)
    → IsHalted command desk
textless command desk none = record {
  fit = λ text r is lack. none text is;
  unrouted = λ routes d is. none is.text is.is_text;
  unjudged = λ answer j. none j.of_input.text (judged_text command desk answer j);
  well_read = λ place m. none m.of_input.text (misread_text command desk place m);
}

module _ (single : OneOutcome) (one : OneSession) (desk : DeskState) (told : IsTold desk.files) where
  same_text : (name text other : List ℕ) → IsInput name desk text → IsInput name desk other → other ≡ text
  same_text name text other first second =
      one_text desk.files name text other (held_of desk.files name text told first.file) second.file

  same_design : (name : List ℕ) (d e : Design) → IsDesignIn name desk d → IsDesignIn name desk e → e ≡ d
  same_design name d e first second =
      one_design single first.text e d
      (subst (λ (t : List ℕ). HasDesign t e) (same_text name first.text second.text first.is_text second.is_text)
      second.reads) first.reads

  module _ (command : Command) (input session : List ℕ) (is_input : IsInputOf command input)
      (is_session : IsSessionOf command session) (d : Design) (first : IsDesignIn input desk d) where
    not_lacking : (text : List ℕ) (r : Refusal) → IsText command desk text → LacksDesign text r → ⊥
    not_lacking text r is lack =
        apart single first.text d r first.reads
        (subst (λ (t : List ℕ). LacksDesign t r)
        (same_text input first.text text first.is_text (text_input command input desk text is_input is)) lack)

    judged_session : (answer : Result Verdict JudgeFault) (j : HasJudged command desk answer)
        → IsSessionIn session desk j.design j.items
    judged_session answer j =
        subst (λ (n : List ℕ). IsSessionIn n desk j.design j.items)
        (sym (subst (λ (k : Command). IsSessionOf k session) j.command_is is_session)) j.of_session

    misread_name : (place : ℕ) (m : HasMisread command desk place) → IsInput session desk m.text
    misread_name place m =
        subst (λ (n : List ℕ). IsInput n desk m.text)
        (one_name command m.session session m.is_session is_session) m.is_text

    -- the session has no text
    sessionless : ((text : List ℕ) → IsInput session desk text → ⊥) → IsHalted command desk
    sessionless none = record {
      fit = not_lacking;
      unrouted = λ routes e is.
          let starts = started_from command session desk is.read e routes is_session is.starts in
          none starts.1.text starts.1.is_text;
      unjudged = λ answer j.
          let second = judged_session answer j in
          none second.text second.is_text;
      well_read = λ place m. none m.text (misread_name place m);
    }

    not_misread : (items : List SesItem) → IsSessionIn session desk d items → (place : ℕ)
        → HasMisread command desk place → ⊥
    not_misread items second place m =
        let input_is : m.input ≡ input = one_input command m.input input m.is_input is_input in
        let design_is : m.design ≡ d = same_design input d m.design first
        (subst (λ (n : List ℕ). IsDesignIn n desk m.design) input_is m.of_input) in
        let text_is : m.text ≡ second.text =
        same_text session second.text m.text second.is_text (misread_name place m) in
        no_session one second.text d items place second.reads
        (subst (λ (x : Design). IsNoSession second.text x place) design_is
        (subst (λ (t : List ℕ). IsNoSession t m.design place) text_is m.no_session))

  -- the report has none
  pageless : (input session report : List ℕ) (d : Design) (items : List SesItem) → IsDesignIn input desk d
      → IsSessionIn session desk d items → ((text : List ℕ) → IsInput report desk text → ⊥)
      → IsHalted (Check input session report) desk
  pageless input session report d items first second none = record {
    fit = not_lacking (Check input session report) input session refl refl d first;
    unrouted = λ routes e is. absurd routes;
    unjudged = λ answer j.
        let is : Check input session report ≡ Check j.input j.session j.report = j.command_is in
        let same : j.report ≡ report = cc in
        none j.text (subst (λ (n : List ℕ). IsInput n desk j.text) same j.of_report);
    well_read = not_misread (Check input session report) input session refl refl d first items second;
  }

-- whatever gives no text
module _ (single : OneOutcome) (one : OneSession) (desk : DeskState) (P : List ℕ → Type 0)
    (told : (name : List ℕ) → P name → IsTold desk.files)
    (none : (name text : List ℕ) → P name → IsInput name desk text → ⊥) where
  halted : (command : Command) → OfFiles P command desk → IsHalted command desk
  halted (Route input output from diagonal knobs) (inl p) =
      textless (Route input output from diagonal knobs) desk (λ text is. none input text p is)
  halted (Route input output from diagonal knobs) (inr (old, named, d, first, p)) =
      sessionless single one desk (told old p) (Route input output from diagonal knobs) input old refl named d first
      (λ text is. none old text p is)
  halted (Check input session report) (inl p) =
      textless (Check input session report) desk (λ text is. none input text p is)
  halted (Check input session report) (inr (d, first, inl p)) =
      sessionless single one desk (told session p) (Check input session report) input session refl refl d first
      (λ text is. none session text p is)
  halted (Check input session report) (inr (d, first, inr (items, second, p))) =
      pageless single one desk (told report p) input session report d items first second
      (λ text is. none report text p is)
  halted (Gen n) p = absurd p

-- ---- what is due
module _ (desk later : DeskState) (sink after : SinkState) (command : Command) (halts : IsHalted command desk)
    (Due : Status → Type 0) (unread : Due ReadFault) (unwritten : Due WriteFault) (wanting : Due Memory)
    (overlong : (line : List ℕ) → IsOverlong command desk line → Due Limit) where
  halted_case : (status : Status) → Ends command desk later sink after status → Due status
  halted_case ReadFault answers = unread
  halted_case WriteFault answers = unwritten
  halted_case Memory answers = wanting
  halted_case Usage (inl s) = absurd s.said.stops
  halted_case Usage (inr w) = absurd w.1.1
  halted_case Refused (inl s) =
      absurd (halts.fit s.said.stops.text s.said.stops.refused.refusal s.said.stops.is_text s.said.stops.refused.lacks)
  halted_case Refused (inr w) = absurd w.1.1
  halted_case Rejected (inl s) = elim s.said.stops [
    | inl a ↦ absurd (halts.well_read a.place a.misread)
    | inr a ↦ absurd (halts.unjudged _ a.judged)
  ]
  halted_case Rejected (inr w) = absurd w.1.1
  halted_case Limit (inl s) = elim s.said.stops [
    | inl long ↦ overlong s.said.line long
    | inr counted ↦ elim counted [
      | inl over ↦ absurd (halts.fit over.text over.over.refusal over.is_text over.over.lacks)
      | inr nodes ↦ elim nodes [
        | inl crowded ↦ absurd (halts.unrouted crowded.routes crowded.design crowded.is_design)
        | inr fine ↦ absurd (halts.unjudged _ fine.judged)
      ]
    ]
  ]
  halted_case Limit (inr w) = absurd w.1.1
  halted_case Complete (inl s) = absurd (halts.unjudged _ s.said.stops.0)
  halted_case Complete (inr w) = absurd (halts.unrouted w.1.0.routes w.1.0.design w.1.0.is_design)
  halted_case SomeOpen (inl s) = absurd s.said
  halted_case SomeOpen (inr w) = absurd (halts.unrouted w.1.0.routes w.1.0.design w.1.0.is_design)

module _ (single : OneOutcome) (one : OneSession) (found : Result Command WordFault) (desk later : DeskState)
    (sink after : SinkState) (command : Command) (is : found ≡ Ok command) (o : Outcome)
    (answers : Answers (Ok command) desk later sink after o) where
  ends : Ends command desk later sink after o.status
  ends = sides command desk later sink after o.routed o.status answers

  asked_is : (asked : Command) → found ≡ Ok asked → asked ≡ command
  asked_is asked accepted = sym (one_command command asked (sym is ∙ accepted))

  pub absent_due : IsMissing found desk → IsDue ReadFault o.status
  absent_due missing =
      let gone : OfFiles (λ name. IsAbsent desk.files name) command desk =
      subst (λ (k : Command). OfFiles (λ name. IsAbsent desk.files name) k desk)
      (asked_is missing.asked missing.accepted) missing.file in
      halted_case desk later sink after command
      (halted single one desk (λ name. IsAbsent desk.files name) (λ name p. told_absent desk.files name p)
      (λ name text p t. not_read desk.files name text p t.file) command gone) (IsDue ReadFault) refl tt tt
      (λ line long. absurd (not_both desk command gone long.0)) o.status ends

  pub long_due : IsLong found desk → IsDueAfterRead Limit o.status
  long_due found_long =
      let long : OfFiles (IsToldLong desk) command desk =
      subst (λ (k : Command). OfFiles (IsToldLong desk) k desk) (asked_is found_long.asked found_long.accepted)
      found_long.file in
      halted_case desk later sink after command
      (halted single one desk (IsToldLong desk) (λ name p. told_held desk.files name p.text p.held)
      (λ name text p t. not_fit desk name text p t) command long) (IsDueAfterRead Limit) tt tt tt
      (λ line why. refl) o.status ends
