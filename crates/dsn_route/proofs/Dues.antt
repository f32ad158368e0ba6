-- Which answer is due for a text that the desk tells.
use Rattle.std.proofs.Common.{◌≡◌, ◌⊎◌, inl, inr, ℕ, ◌≤◌, ◌<◌, ◌^◌, refl, sym, ◌∙◌, ap, subst, List, length, Option}
use Rattle.std.proofs.Common.{Some, None, unwrap_or, Result, Ok, true≢false, arith}
use Rattle.std.specs.Option.{IsSomeAnd}
use Rattle.std.proofs.lemmas.Option.{none-some}
use Rattle.desk_io.specs.States.{Files, DeskState, SinkState}
use Rattle.desk_io.specs.Answers.{IsAbsent, IsFile, IsHeld, IsTooLong, DeskFaulted, SinkFaulted}
use Rattle.pcb_model.specs.declared.design.Design.{Design}
use Rattle.route_lattice.specs.Mesh.{Mesh, node_count}
use Rattle.pcb_board.specs.Boards.{BoardOf}
use Rattle.dsn_shapes.specs.declared.refusal.Refusal.{Refusal}
use Rattle.dsn_design.specs.Reading.{HasDesign, OneOutcome}
use Rattle.dsn_route.specs.declared.status.Status.{Status}
use Rattle.dsn_route.specs.declared.status.Status.TheVariants.{Complete, SomeOpen, Usage, Refused, ReadFault}
use Rattle.dsn_route.specs.declared.status.Status.TheVariants.{WriteFault, Limit, Memory, Rejected}
use Rattle.route_words.specs.declared.command.Command.{Command}
use Rattle.route_words.specs.declared.command.Command.TheVariants.{Route, Check, Gen}
use Rattle.route_words.specs.declared.command.WordFault.{WordFault}
use Rattle.route_run.specs.declared.run.Routed.{Routed}
use Rattle.dsn_route.specs.Texts.{LacksDesign}
use Rattle.dsn_route.specs.declared.outcome.Outcome.{Outcome}
use Rattle.dsn_route.specs.Lines.{max_bytes}
use Rattle.session_start.specs.Starting.{started}
use Rattle.ses_reader.specs.Reading.{HasSession, OneSession}
use Rattle.dsn_route.specs.Commands.{mesh_of, from_of, AsksToRoute, IsText, IsToldText}
use Rattle.route_check.specs.declared.verdict.Verdict.{Verdict}
use Rattle.route_check.specs.declared.verdict.JudgeFault.{JudgeFault}
use Rattle.dsn_route.specs.Judging.{HasJudged, HasMisread, IsDesignOf, IsNoSession, IsStartedBy}
use Rattle.dsn_route.specs.Answers.{IsUnread, IsOverlong, IsRefusal, IsOverfull, IsCrowded, IsRejected}
use Rattle.dsn_route.specs.Answers.{SessionFaulted}
use Rattle.dsn_route.specs.Answers.{IsOutcome, Stopped, Leaves, Answers}
use Rattle.dsn_route.specs.Due.{IsRead, IsFit, IsUnfit, IsOver, IsTooFine, IsRoutable, IsDueAfterRead, HasNoFault}
use Rattle.dsn_route.specs.Due.{IsDone, IsOldHeld, IsStartHeld}
use Rattle.dsn_route.proofs.OneText.{one_design, one_lack, apart, no_session}
use Rattle.dsn_route.proofs.Wording.{input_text}

abbrev pub accepted : Command → Result Command WordFault
accepted command = Ok command

asked_of : Result Command WordFault → Command → Command
asked_of (Ok command) other = command
asked_of _ other = other

pub one_command : (a b : Command) → accepted a ≡ accepted b → a ≡ b
unfolding asked_of
one_command a b e = ap (λ (r : Result Command WordFault). asked_of r a) e

pub one_text : (files : Option Files) (name text other : List ℕ) → IsHeld files name text → IsFile files name other
    → other ≡ text
one_text None name text other held is = absurd held
one_text (Some m) name text other held is = ap (λ (o : Option (List ℕ)). unwrap_or o other) (sym is ∙ held)

-- a text that is told at entry is the one that is read
same_of : (command : Command) (desk : DeskState) (text other : List ℕ) → IsToldText command desk text
    → IsText command desk other → other ≡ text
same_of (Route input output from diagonal knobs) desk text other held is =
    one_text desk.files input text other held is.file
same_of (Check input session report) desk text other held is = one_text desk.files input text other held is.file
same_of (Gen n) desk text other told is = is ∙ sym told

-- a design that starts from a session that is told at entry
started_one : OneSession → (from : Option (List ℕ)) (desk : DeskState) (read d e : Design)
    → IsStartHeld from desk read d → IsStartedBy from desk read e → e ≡ d
started_one one None desk read d e held is = is ∙ sym held
started_one one (Some name) desk read d e held (items, told, is) =
    let same = one_text desk.files name held.told told.text held.held told.is_text.file in
    let again : HasSession held.told read items =
    subst (λ (t : List ℕ). HasSession t read items) same told.reads in
    is ∙ ap (started read) (one.sessions held.told read items held.items again held.reads) ∙ sym held.design_is

-- the design that is routed is the one that is told at entry
same_design : OneOutcome → OneSession → (command again : Command) (desk : DeskState) (text : List ℕ) (read d e : Design)
    → command ≡ again → IsToldText command desk text → HasDesign text read → IsStartHeld (from_of again) desk read d
    → IsDesignOf command desk e → e ≡ d
same_design single one command again desk text read d e again_is told reads held is =
    let one_of : is.text ≡ text = same_of command desk text is.text told is.is_text in
    let same : read ≡ is.read = one_design single text read is.read reads
    (subst (λ (t : List ℕ). HasDesign t is.read) one_of is.reads) in
    started_one one (from_of command) desk read d e
    (subst (λ (k : Command). IsStartHeld (from_of k) desk read d) (sym again_is) held)
    (subst (λ (x : Design). IsStartedBy (from_of command) desk x e) (sym same) is.starts)

-- so its lattice has as many nodes
same_nodes : OneOutcome → OneSession → (command again : Command) (desk : DeskState) (text : List ℕ) (read d e : Design)
    → command ≡ again → IsToldText command desk text → HasDesign text read → IsStartHeld (from_of again) desk read d
    → IsDesignOf command desk e → mesh_of command e ≡ mesh_of again d
same_nodes single one command again desk text read d e again_is told reads held is =
    ap (λ (x : Design). mesh_of command x)
    (same_design single one command again desk text read d e again_is told reads held is)
    ∙ ap (λ (k : Command). mesh_of k d) again_is

pub not_absent : (files : Option Files) (name text : List ℕ) → IsHeld files name text → IsAbsent files name → ⊥
not_absent None name text held gone = absurd held
not_absent (Some m) name text held gone = none-some text (sym gone ∙ held)

pub not_long : (files : Option Files) (name text : List ℕ) → IsHeld files name text → length text ≤ max_bytes
    → IsTooLong files name max_bytes → ⊥
not_long None name text held fits long = absurd held
not_long (Some m) name text held fits long =
    let past : max_bytes < length text =
    subst (λ (o : Option (List ℕ)). IsSomeAnd o (λ bytes. max_bytes < length bytes)) held long in
    absurd (omega (arith, past, fits))

-- a text within the limit isn't too long, where it lacks a design, and where it is to be routed
unfit_not_long : (command : Command) (desk : DeskState) (text line : List ℕ) → IsToldText command desk text
    → length text ≤ max_bytes → ((other : List ℕ) (d : Design) → IsText command desk other → HasDesign other d → ⊥)
    → IsOverlong command desk line → ⊥
unfit_not_long (Route input output from diagonal knobs) desk text line held fits none (inl long, is) =
    not_long desk.files input text held fits long
unfit_not_long (Route input output from diagonal knobs) desk text line held fits none
    (inr (old, named, d, first, rest), is) =
    none first.text d first.is_text first.reads
unfit_not_long (Check input session report) desk text line held fits none (inl long, is) =
    not_long desk.files input text held fits long
unfit_not_long (Check input session report) desk text line held fits none (inr (d, first, rest), is) =
    none first.text d first.is_text first.reads
unfit_not_long (Gen n) desk text line told fits none why = absurd why.0

not_overlong : (command : Command) (desk : DeskState) (text line : List ℕ) (read d : Design) → AsksToRoute command
    → IsToldText command desk text → length text ≤ max_bytes → IsStartHeld (from_of command) desk read d
    → IsOverlong command desk line → ⊥
not_overlong (Route input output from diagonal knobs) desk text line read d routes held fits starts (inl long, is) =
    not_long desk.files input text held fits long
not_overlong (Route input output from diagonal knobs) desk text line read d routes held fits starts
    (inr (old, named, e, first, long), is) =
    let h : IsOldHeld old desk read d = subst (λ (f : Option (List ℕ)). IsStartHeld f desk read d) named starts in
    not_long desk.files old h.told h.held h.fits long
not_overlong (Check input session report) desk text line read d routes held fits starts why = absurd routes
not_overlong (Gen n) desk text line read d routes told fits starts why = absurd why.0

-- what was judged isn't routed, and has a design
pub not_routed : (command : Command) (desk : DeskState) (answer : Result Verdict JudgeFault)
    → HasJudged command desk answer → AsksToRoute command → ⊥
not_routed command desk answer j routes = subst AsksToRoute j.command_is routes

not_misread : OneOutcome → OneSession → (command : Command) (desk : DeskState) (text : List ℕ) (read d : Design)
    (place : ℕ) → HasMisread command desk place → IsToldText command desk text → HasDesign text read
    → IsStartHeld (from_of command) desk read d → AsksToRoute command → ⊥
not_misread single one (Route input output from diagonal knobs) desk text read d place m told reads starts routes =
    let h : IsOldHeld m.session desk read d =
    subst (λ (f : Option (List ℕ)). IsStartHeld f desk read d) m.is_session starts in
    let first : m.of_input.text ≡ text = one_text desk.files input text m.of_input.text told
    (subst (λ (n : List ℕ). IsFile desk.files n m.of_input.text) m.is_input m.of_input.is_text.file) in
    let same : m.design ≡ read = one_design single text m.design read
    (subst (λ (t : List ℕ). HasDesign t m.design) first m.of_input.reads) reads in
    let second : m.text ≡ h.told = one_text desk.files m.session h.told m.text h.held m.is_text.file in
    no_session one h.told read h.items place h.reads
    (subst (λ (x : Design). IsNoSession h.told x place) same
    (subst (λ (t : List ℕ). IsNoSession t m.design place) second m.no_session))
not_misread single one (Check input session report) desk text read d place m told reads starts routes = absurd routes
not_misread single one (Gen n) desk text read d place m told reads starts routes = absurd m.is_input

pub judged_text : (command : Command) (desk : DeskState) (answer : Result Verdict JudgeFault)
    → (j : HasJudged command desk answer) → IsText command desk j.of_input.text
judged_text command desk answer j =
    subst (λ (k : Command). IsText k desk j.of_input.text) (sym j.command_is) j.of_input.is_text

pub misread_text : (command : Command) (desk : DeskState) (place : ℕ) → (m : HasMisread command desk place)
    → IsText command desk m.of_input.text
misread_text command desk place m =
    input_text command m.input desk m.of_input.text m.is_input m.of_input.is_text

-- a call that routed this status
abbrev pub Ran : Command → DeskState → DeskState → SinkState → SinkState → Status → Type 0
Ran command desk later sink after status = (made : Routed) × (IsOutcome command desk made
    × Leaves command made.board made.facts desk later sink after status)

abbrev pub Ends : Command → DeskState → DeskState → SinkState → SinkState → Status → Type 0
Ends command desk later sink after status = Stopped (Ok command) desk later sink after status
    ⊎ Ran command desk later sink after status

pub sides : (command : Command) (desk later : DeskState) (sink after : SinkState) (routed : Option Routed)
    (status : Status)
    → Answers (Ok command) desk later sink after (record { status = status; routed = routed })
    → Ends command desk later sink after status
sides command desk later sink after None status s = inl s
sides command desk later sink after (Some made) status w = inr (made, w)

module _ (single : OneOutcome) (one : OneSession) (desk later : DeskState) (sink after : SinkState) (text : List ℕ)
    (command : Command) (read : IsRead (Ok command) desk text) where
  asked_is : command ≡ read.asked
  asked_is = one_command command read.asked read.accepted

  told : IsToldText command desk text
  told = subst (λ (k : Command). IsToldText k desk text) (sym asked_is) read.told

  too_many : (made : Routed) → IsOutcome command desk made → IsTooFine (Ok command) desk text → ⊥
  too_many made r fine =
      let same =
      same_nodes single one command fine.asked desk text fine.read fine.design r.design
      (one_command command fine.asked fine.accepted) told fine.reads fine.starts r.is_design in
      let few : node_count (mesh_of fine.asked fine.design) ≤ 2 ^ 24 =
      subst (λ (m : Mesh). node_count m ≤ 2 ^ 24) same r.few in
      let many : 2 ^ 24 < node_count (mesh_of fine.asked fine.design) = fine.nodes in
      absurd (omega (arith, few, many))

  -- what was read is the text at entry
  same_text : (other : List ℕ) → IsText command desk other → other ≡ text
  same_text other is = same_of command desk text other told is

  -- a text that lacks a design has none
  no_design : (other : List ℕ) (d : Design) (r : Refusal) → IsText command desk other → HasDesign other d
      → LacksDesign text r → ⊥
  no_design other d r is reads lack =
      apart single text d r (subst (λ (t : List ℕ). HasDesign t d) (same_text other is) reads) lack

  no_lack : (other : List ℕ) (d : Design) (r : Refusal) → IsText command desk other → LacksDesign other r
      → HasDesign text d → ⊥
  no_lack other d r is lack reads =
      apart single text d r reads (subst (λ (t : List ℕ). LacksDesign t r) (same_text other is) lack)

  -- a refusal of what was read is that of the text
  same_lack : (other : List ℕ) (r s : Refusal) → IsText command desk other → LacksDesign other r
      → LacksDesign text s → r ≡ s
  same_lack other r s is lack known =
      one_lack single text r s (subst (λ (t : List ℕ). LacksDesign t r) (same_text other is) lack) known

  refused_not : (line : List ℕ) → IsRefusal command desk line → (P : ℕ → Type 0) → IsFit P (Ok command) desk text → ⊥
  refused_not line why P fit = no_lack why.text fit.read why.refused.refusal why.is_text why.refused.lacks fit.reads

  over_not : (line : List ℕ) → IsOverfull command desk line → (P : ℕ → Type 0) → IsFit P (Ok command) desk text → ⊥
  over_not line why P fit = no_lack why.text fit.read why.over.refusal why.is_text why.over.lacks fit.reads

  refused_not_over : (line : List ℕ) → IsRefusal command desk line → IsOver text → ⊥
  refused_not_over line why over =
      why.refused.other (ap (λ (r : Refusal). r.number)
      (same_lack why.text why.refused.refusal over.over.refusal why.is_text why.refused.lacks over.over.lacks)
      ∙ over.over.passed)

  over_not_refused : (line : List ℕ) → IsOverfull command desk line → IsUnfit text → ⊥
  over_not_refused line why unfit =
      unfit.refused.other (sym (ap (λ (r : Refusal). r.number)
      (same_lack why.text why.over.refusal unfit.refused.refusal why.is_text why.over.lacks unfit.refused.lacks))
      ∙ why.over.passed)

  -- what is routed was not judged
  routes_here : (P : ℕ → Type 0) → IsFit P (Ok command) desk text → AsksToRoute command
  routes_here P fit = subst AsksToRoute (sym (one_command command fit.asked fit.accepted)) fit.routes

  starts_here : (P : ℕ → Type 0) → (fit : IsFit P (Ok command) desk text)
      → IsStartHeld (from_of command) desk fit.read fit.design
  starts_here P fit = subst (λ (k : Command). IsStartHeld (from_of k) desk fit.read fit.design)
      (sym (one_command command fit.asked fit.accepted)) fit.starts

  rejected_not : (line : List ℕ) → IsRejected command desk line → (P : ℕ → Type 0) → IsFit P (Ok command) desk text
      → ⊥
  rejected_not line (inl a) P fit =
      not_misread single one command desk text fit.read fit.design a.place a.misread told fit.reads
      (starts_here P fit) (routes_here P fit)
  rejected_not line (inr a) P fit = not_routed command desk _ a.judged (routes_here P fit)

  -- what was judged has a design
  judged_not_lack : (answer : Result Verdict JudgeFault) (r : Refusal) → HasJudged command desk answer
      → LacksDesign text r → ⊥
  judged_not_lack answer r j lack =
      no_design j.of_input.text j.design r (judged_text command desk answer j) j.of_input.reads lack

  rejected_not_lack : (line : List ℕ) (r : Refusal) → IsRejected command desk line → LacksDesign text r → ⊥
  rejected_not_lack line r (inl a) lack =
      no_design a.misread.of_input.text a.misread.design r (misread_text command desk a.place a.misread)
      a.misread.of_input.reads lack
  rejected_not_lack line r (inr a) lack = judged_not_lack _ r a.judged lack

  fine_case : (status : Status) → IsTooFine (Ok command) desk text → Ends command desk later sink after status
      → IsDueAfterRead Limit status
  fine_case Limit fine answers = refl
  fine_case ReadFault fine answers = tt
  fine_case WriteFault fine answers = tt
  fine_case Memory fine answers = tt
  fine_case Usage fine (inl s) = absurd s.said.stops
  fine_case Usage fine (inr w) = absurd w.1.1
  fine_case Refused fine (inl s) = absurd (refused_not s.said.line s.said.stops (λ count. 2 ^ 24 < count) fine)
  fine_case Refused fine (inr w) = absurd w.1.1
  fine_case Rejected fine (inl s) = absurd (rejected_not s.said.line s.said.stops (λ count. 2 ^ 24 < count) fine)
  fine_case Rejected fine (inr w) = absurd w.1.1
  fine_case Complete fine (inl s) =
      absurd (not_routed command desk _ s.said.stops.0 (routes_here (λ count. 2 ^ 24 < count) fine))
  fine_case Complete fine (inr w) = absurd (too_many w.0 w.1.0 fine)
  fine_case SomeOpen fine (inl s) = absurd s.said
  fine_case SomeOpen fine (inr w) = absurd (too_many w.0 w.1.0 fine)

  unfit_case : (status : Status) → IsUnfit text → Ends command desk later sink after status
      → IsDueAfterRead Refused status
  unfit_case Refused unfit answers = refl
  unfit_case ReadFault unfit answers = tt
  unfit_case WriteFault unfit answers = tt
  unfit_case Memory unfit answers = tt
  unfit_case Usage unfit (inl s) = absurd s.said.stops
  unfit_case Usage unfit (inr w) = absurd w.1.1
  unfit_case Limit unfit (inl s) = elim s.said.stops [
    | inl long ↦ absurd (unfit_not_long command desk text s.said.line told unfit.fits
        (λ other d is reads. no_design other d unfit.refused.refusal is reads unfit.refused.lacks) long)
    | inr counted ↦ elim counted [
      | inl over ↦ absurd (over_not_refused s.said.line over unfit)
      | inr nodes ↦ elim nodes [
        | inl crowded ↦ absurd
            (no_design crowded.is_design.text crowded.is_design.read unfit.refused.refusal crowded.is_design.is_text
            crowded.is_design.reads unfit.refused.lacks)
        | inr fine ↦ absurd (judged_not_lack _ unfit.refused.refusal fine.judged unfit.refused.lacks)
      ]
    ]
  ]
  unfit_case Limit unfit (inr w) = absurd w.1.1
  unfit_case Rejected unfit (inl s) =
      absurd (rejected_not_lack s.said.line unfit.refused.refusal s.said.stops unfit.refused.lacks)
  unfit_case Rejected unfit (inr w) = absurd w.1.1
  unfit_case Complete unfit (inl s) =
      absurd (judged_not_lack _ unfit.refused.refusal s.said.stops.0 unfit.refused.lacks)
  unfit_case Complete unfit (inr w) =
      absurd (no_design w.1.0.is_design.text w.1.0.is_design.read unfit.refused.refusal w.1.0.is_design.is_text
      w.1.0.is_design.reads unfit.refused.lacks)
  unfit_case SomeOpen unfit (inl s) = absurd s.said
  unfit_case SomeOpen unfit (inr w) =
      absurd (no_design w.1.0.is_design.text w.1.0.is_design.read unfit.refused.refusal w.1.0.is_design.is_text
      w.1.0.is_design.reads unfit.refused.lacks)

  over_case : (status : Status) → IsOver text → Ends command desk later sink after status → IsDueAfterRead Limit status
  over_case Limit over answers = refl
  over_case ReadFault over answers = tt
  over_case WriteFault over answers = tt
  over_case Memory over answers = tt
  over_case Usage over (inl s) = absurd s.said.stops
  over_case Usage over (inr w) = absurd w.1.1
  over_case Refused over (inl s) = absurd (refused_not_over s.said.line s.said.stops over)
  over_case Refused over (inr w) = absurd w.1.1
  over_case Rejected over (inl s) =
      absurd (rejected_not_lack s.said.line over.over.refusal s.said.stops over.over.lacks)
  over_case Rejected over (inr w) = absurd w.1.1
  over_case Complete over (inl s) = absurd (judged_not_lack _ over.over.refusal s.said.stops.0 over.over.lacks)
  over_case Complete over (inr w) =
      absurd (no_design w.1.0.is_design.text w.1.0.is_design.read over.over.refusal w.1.0.is_design.is_text
      w.1.0.is_design.reads over.over.lacks)
  over_case SomeOpen over (inl s) = absurd s.said
  over_case SomeOpen over (inr w) =
      absurd (no_design w.1.0.is_design.text w.1.0.is_design.read over.over.refusal w.1.0.is_design.is_text
      w.1.0.is_design.reads over.over.lacks)

-- ---- a call without faults is done
pub no_desk_fault : {P : Type 0} (desk later : DeskState) (sink after : SinkState) → HasNoFault desk later sink after
    → DeskFaulted desk later P → (P → ⊥) → ⊥
no_desk_fault desk later sink after (inl calm) fault not = not (fault.calm calm.0)
no_desk_fault desk later sink after (inr still) fault not = still.0 fault.rose

pub no_sink_fault : (desk later : DeskState) (sink after : SinkState) → HasNoFault desk later sink after
    → SinkFaulted sink after → ⊥
no_sink_fault desk later sink after (inl calm) fault = true≢false (sym calm.1 ∙ fault.restless)
no_sink_fault desk later sink after (inr still) fault = still.1 fault.rose

not_unread : (command : Command) (desk later : DeskState) (sink after : SinkState) (text line : List ℕ)
    (read d : Design) → AsksToRoute command → IsToldText command desk text
    → IsStartHeld (from_of command) desk read d → HasNoFault desk later sink after
    → IsUnread command desk later line → ⊥
not_unread (Route input output from diagonal knobs) desk later sink after text line read d routes held starts calm
    (inl fault, is) =
    no_desk_fault desk later sink after calm fault (not_absent desk.files input text held)
not_unread (Route input output from diagonal knobs) desk later sink after text line read d routes held starts calm
    (inr (old, named, e, first, fault), is) =
    let h : IsOldHeld old desk read d = subst (λ (f : Option (List ℕ)). IsStartHeld f desk read d) named starts in
    no_desk_fault desk later sink after calm fault (not_absent desk.files old h.told h.held)
not_unread (Check input session report) desk later sink after text line read d routes held starts calm why =
    absurd routes
not_unread (Gen n) desk later sink after text line read d routes _ starts calm why = absurd why.0

not_cut_short : (command : Command) (b : BoardOf) (desk later : DeskState) (sink after : SinkState)
    → HasNoFault desk later sink after → SessionFaulted command b desk later sink after → ⊥
not_cut_short (Route input output from diagonal knobs) b desk later sink after calm s =
    no_desk_fault desk later sink after calm s.fault (λ no. no)
not_cut_short (Check input session report) b desk later sink after calm s = absurd s
not_cut_short (Gen n) b desk later sink after calm s = absurd s

module _ (single : OneOutcome) (one : OneSession) (desk later : DeskState) (sink after : SinkState) (text : List ℕ)
    (command : Command) (read : IsRead (Ok command) desk text) where
  is_told : IsToldText command desk text
  is_told = told single one desk later sink after text command read

  not_crowded : (line : List ℕ) → IsCrowded command desk line → IsRoutable (Ok command) desk text → ⊥
  not_crowded line why fit =
      let same =
      same_nodes single one command fit.asked desk text fit.read fit.design why.design
      (one_command command fit.asked fit.accepted) is_told fit.reads fit.starts why.is_design in
      let many : 2 ^ 24 < node_count (mesh_of fit.asked fit.design) =
      subst (λ (m : Mesh). 2 ^ 24 < node_count m) same why.many in
      let few : node_count (mesh_of fit.asked fit.design) ≤ 2 ^ 24 = fit.nodes in
      absurd (omega (arith, few, many))

  is_routed : IsRoutable (Ok command) desk text → AsksToRoute command
  is_routed fit = routes_here single one desk later sink after text command read (λ count. count ≤ 2 ^ 24) fit

  is_started : (fit : IsRoutable (Ok command) desk text) → IsStartHeld (from_of command) desk fit.read fit.design
  is_started fit = starts_here single one desk later sink after text command read (λ count. count ≤ 2 ^ 24) fit

  done_case : (status : Status) → IsRoutable (Ok command) desk text → HasNoFault desk later sink after
      → Ends command desk later sink after status → IsDone status
  done_case Complete fit calm answers = tt
  done_case SomeOpen fit calm answers = tt
  done_case Memory fit calm answers = tt
  done_case Usage fit calm (inl s) = absurd s.said.stops
  done_case Usage fit calm (inr w) = absurd w.1.1
  done_case Refused fit calm (inl s) =
      absurd (refused_not single one desk later sink after text command read s.said.line s.said.stops
      (λ count. count ≤ 2 ^ 24) fit)
  done_case Refused fit calm (inr w) = absurd w.1.1
  done_case ReadFault fit calm (inl s) =
      absurd (not_unread command desk later sink after text s.said.line fit.read fit.design (is_routed fit) is_told
      (is_started fit) calm s.said.stops)
  done_case ReadFault fit calm (inr w) = absurd w.1.1
  done_case Limit fit calm (inl s) = elim s.said.stops [
    | inl long ↦ absurd (not_overlong command desk text s.said.line fit.read fit.design (is_routed fit) is_told
        fit.fits (is_started fit) long)
    | inr counted ↦ elim counted [
      | inl over ↦ absurd (over_not single one desk later sink after text command read s.said.line over
          (λ count. count ≤ 2 ^ 24) fit)
      | inr nodes ↦ elim nodes [
        | inl crowded ↦ absurd (not_crowded s.said.line crowded fit)
        | inr fine ↦ absurd (not_routed command desk _ fine.judged (is_routed fit))
      ]
    ]
  ]
  done_case Limit fit calm (inr w) = absurd w.1.1
  done_case Rejected fit calm (inl s) =
      absurd (rejected_not single one desk later sink after text command read s.said.line s.said.stops
      (λ count. count ≤ 2 ^ 24) fit)
  done_case Rejected fit calm (inr w) = absurd w.1.1
  done_case WriteFault fit calm (inl s) = absurd (no_sink_fault desk later sink after calm s.said.fault)
  done_case WriteFault fit calm (inr w) = elim w.1.1 [
    | inl session ↦ absurd (not_cut_short command w.0.board desk later sink after calm session)
    | inr report ↦ absurd (no_sink_fault desk later sink after calm report.fault)
  ]

-- ---- what is due
module _ (single : OneOutcome) (one : OneSession) (desk later : DeskState) (sink after : SinkState)
    (found : Result Command WordFault) (text : List ℕ) (command : Command)
    (is : found ≡ Ok command) (read : IsRead found desk text) (o : Outcome)
    (answers : Answers (Ok command) desk later sink after o) where
  read_here : IsRead (Ok command) desk text
  read_here = subst (λ (r : Result Command WordFault). IsRead r desk text) is read

  ends : Ends command desk later sink after o.status
  ends = sides command desk later sink after o.routed o.status answers

  pub refused_due : IsUnfit text → IsDueAfterRead Refused o.status
  refused_due unfit = unfit_case single one desk later sink after text command read_here o.status unfit ends

  pub over_due : IsOver text → IsDueAfterRead Limit o.status
  over_due over = over_case single one desk later sink after text command read_here o.status over ends

  pub nodes_due : IsTooFine found desk text → IsDueAfterRead Limit o.status
  nodes_due fine = fine_case single one desk later sink after text command read_here o.status
      (subst (λ (r : Result Command WordFault). IsTooFine r desk text) is fine) ends

  pub complete_due : IsRoutable found desk text → HasNoFault desk later sink after → IsDone o.status
  complete_due fit calm = done_case single one desk later sink after text command read_here o.status
      (subst (λ (r : Result Command WordFault). IsRoutable r desk text) is fit) calm ends
