-- An answer counts from an earlier moment, between which and its start the files stayed.
use Rattle.std.proofs.Common.{◌≡◌, inl, inr, ℕ, ◌≤◌, Bool, List, Option, Some, None, IsTrue, Result, Ok, Err, subst}
use Rattle.std.proofs.Common.{arith, sym}
use Rattle.desk_io.specs.States.{Files, DeskState, SinkState}
use Rattle.desk_io.specs.Answers.{IsAbsent, IsFile, IsTooLong, DeskFaulted}
use Rattle.route_words.specs.declared.command.Command.{Command}
use Rattle.route_words.specs.declared.command.Command.TheVariants.{Route, Check, Gen}
use Rattle.route_run.specs.declared.run.Routed.{Routed}
use Rattle.route_run.specs.declared.facts.Facts.{Facts}
use Rattle.pcb_board.specs.Boards.{BoardOf}
use Rattle.dsn_route.specs.declared.status.Status.{Status}
use Rattle.dsn_route.specs.declared.status.Status.TheVariants.{Complete, SomeOpen, Usage, Refused, ReadFault}
use Rattle.dsn_route.specs.declared.status.Status.TheVariants.{WriteFault, Limit, Memory, Rejected}
use Rattle.dsn_route.specs.declared.outcome.Outcome.{Outcome}
use Rattle.pcb_model.specs.declared.design.Design.{Design}
use Rattle.ses_reader.specs.declared.item.SesItem.{SesItem}
use Rattle.route_check.specs.declared.verdict.Verdict.{Verdict}
use Rattle.route_check.specs.declared.verdict.Verdict.TheVariants.{Yes, No}
use Rattle.route_check.specs.declared.verdict.JudgeFault.{JudgeFault}
use Rattle.route_check.specs.declared.verdict.JudgeFault.TheVariants.{TooManyNodes}
use Rattle.dsn_route.specs.Commands.{IsInput, IsText, from_of}
use Rattle.dsn_route.specs.Judging.{HasJudged, HasMisread, IsDesignIn, IsDesignOf, IsSessionIn, IsStartedBy}
use Rattle.dsn_route.specs.Judging.{OfFiles, OfOneFile}
use Rattle.dsn_route.specs.Lines.{max_bytes}
use Rattle.dsn_route.specs.inner.Said.{IsReadFor}
use Rattle.dsn_route.specs.Answers.{Stops, LinePut, Said, IsUnread, IsOverlong, HasWritten, SessionFaulted}
use Rattle.dsn_route.specs.Answers.{Leaves, Stopped, Answers}

-- a desk with these files, from some moment on
abbrev at : Option Files → ℕ → Bool → DeskState
at files faults calm = record { files = files; faults = faults; calm = calm }

module _ (desk later : DeskState) (faults : ℕ) (calm : Bool) (le : desk.faults ≤ faults)
    (stays : IsTrue desk.calm → IsTrue calm) where
  faulted : {P : Type 0} → DeskFaulted (at desk.files faults calm) later P → DeskFaulted desk later P
  faulted f = let rose = f.rose in record { rose = omega (arith, le, rose); calm = λ c. f.calm (stays c) }

  input_in : (name text : List ℕ) → IsInput name (at desk.files faults calm) text → IsInput name desk text
  input_in name text is = record { file = is.file; fits = is.fits }

  design_in : (name : List ℕ) (d : Design) → IsDesignIn name (at desk.files faults calm) d → IsDesignIn name desk d
  design_in name d is = record { text = is.text; is_text = input_in name is.text is.is_text; reads = is.reads }

  session_in : (name : List ℕ) (d : Design) (items : List SesItem)
      → IsSessionIn name (at desk.files faults calm) d items → IsSessionIn name desk d items
  session_in name d items is =
      record { text = is.text; is_text = input_in name is.text is.is_text; reads = is.reads }

  -- one of the files of `check`
  one_file : (P Q : List ℕ → Type 0) → ((name : List ℕ) → P name → Q name) → (input session report : List ℕ)
      → OfOneFile P input session report (at desk.files faults calm) → OfOneFile Q input session report desk
  one_file P Q to input session report (inl first) = inl (to input first)
  one_file P Q to input session report (inr (d, is, inl second)) =
      inr (d, design_in input d is, inl (to session second))
  one_file P Q to input session report (inr (d, is, inr (items, told, third))) =
      inr (d, design_in input d is, inr (items, session_in session d items told, to report third))

  -- one of the files of a command
  of_files : (P Q : List ℕ → Type 0) → ((name : List ℕ) → P name → Q name) → (command : Command)
      → OfFiles P command (at desk.files faults calm) → OfFiles Q command desk
  of_files P Q to (Route input output from diagonal knobs) (inl first) = inl (to input first)
  of_files P Q to (Route input output from diagonal knobs) (inr (old, named, d, first, second)) =
      inr (old, named, d, design_in input d first, to old second)
  of_files P Q to (Check input session report) one = one_file P Q to input session report one
  of_files P Q to (Gen n) one = absurd one

  judged : (command : Command) (answer : Result Verdict JudgeFault)
      → HasJudged command (at desk.files faults calm) answer → HasJudged command desk answer
  judged command answer j = record {
    input = j.input;
    session = j.session;
    report = j.report;
    command_is = j.command_is;
    design = j.design;
    items = j.items;
    text = j.text;
    of_input = design_in j.input j.design j.of_input;
    of_session = session_in j.session j.design j.items j.of_session;
    of_report = input_in j.report j.text j.of_report;
    sound = j.sound;
    sound_items = j.sound_items;
    judges = j.judges;
  }

  misread : (command : Command) (place : ℕ) → HasMisread command (at desk.files faults calm) place
      → HasMisread command desk place
  misread command place m = record {
    input = m.input;
    session = m.session;
    is_input = m.is_input;
    is_session = m.is_session;
    design = m.design;
    of_input = design_in m.input m.design m.of_input;
    text = m.text;
    is_text = input_in m.session m.text m.is_text;
    no_session = m.no_session;
  }

  is_text : (command : Command) (text : List ℕ) → IsText command (at desk.files faults calm) text
      → IsText command desk text
  is_text (Route input output from diagonal knobs) text is = input_in input text is
  is_text (Check input session report) text is = input_in input text is
  is_text (Gen n) text is = is

  started_by : (from : Option (List ℕ)) (read d : Design) → IsStartedBy from (at desk.files faults calm) read d
      → IsStartedBy from desk read d
  started_by None read d is = is
  started_by (Some name) read d (items, told, is) = (items, session_in name read items told, is)

  design_of : (command : Command) (d : Design) → IsDesignOf command (at desk.files faults calm) d
      → IsDesignOf command desk d
  design_of command d is = record {
    text = is.text;
    read = is.read;
    is_text = is_text command is.text is.is_text;
    reads = is.reads;
    starts = started_by (from_of command) is.read d is.starts;
  }

  unread : (command : Command) (line : List ℕ) → IsUnread command (at desk.files faults calm) later line
      → IsUnread command desk later line
  unread command line (one, is) = (
    of_files (λ name. DeskFaulted (at desk.files faults calm) later (IsAbsent desk.files name))
        (λ name. DeskFaulted desk later (IsAbsent desk.files name)) (λ name f. faulted f) command one,
    is,
  )

  overlong : (command : Command) (line : List ℕ) → IsOverlong command (at desk.files faults calm) line
      → IsOverlong command desk line
  overlong command line (one, is) = (
    of_files (λ name. IsTooLong desk.files name max_bytes) (λ name. IsTooLong desk.files name max_bytes)
        (λ name long. long) command one,
    is,
  )

  written : (command : Command) (b : BoardOf) → HasWritten command b (at desk.files faults calm) later
      → HasWritten command b desk later
  written (Route input output from diagonal knobs) b has = has
  written (Check input session report) b has = absurd has
  written (Gen n) b has = has

  cut_short : (command : Command) (b : BoardOf) (sink after : SinkState)
      → SessionFaulted command b (at desk.files faults calm) later sink after
      → SessionFaulted command b desk later sink after
  cut_short (Route input output from diagonal knobs) b sink after s =
      record { fault = faulted s.fault; kept = s.kept; files = s.files; bytes = s.bytes }
  cut_short (Check input session report) b sink after s = absurd s
  cut_short (Gen n) b sink after s = absurd s

  module _ (command : Command) (sink after : SinkState) where
    stops : (status : Status) (line : List ℕ) → Stops (Ok command) (at desk.files faults calm) later status line
        → Stops (Ok command) desk later status line
    stops Refused line why =
        record {
          text = why.text;
          number = why.number;
          place = why.place;
          is_text = is_text command why.text why.is_text;
          refused = why.refused;
          from = why.from;
          to = why.to;
          line_is = why.line_is;
        }
    stops Complete line (j, is) = (judged command (Ok Yes) j, is)
    stops Rejected line (inl m) =
        inl (record { place = m.place; misread = misread command m.place m.misread; line_is = m.line_is })
    stops Rejected line (inr w) =
        inr (record {
          number = w.number;
          at = w.at;
          judged = judged command (Ok (No w.number w.at)) w.judged;
          line_is = w.line_is;
        })
    stops ReadFault line why = unread command line why
    stops Limit line (inl long) = inl (overlong command line long)
    stops Limit line (inr (inl over)) =
        inr (inl (record {
          text = over.text;
          what = over.what;
          limit = over.limit;
          is_text = is_text command over.text over.is_text;
          over = over.over;
          counts = over.counts;
          most = over.most;
          line_is = over.line_is;
        }))
    stops Limit line (inr (inr (inl crowded))) =
        inr (inr (inl (record {
          design = crowded.design;
          is_design = design_of command crowded.design crowded.is_design;
          routes = crowded.routes;
          many = crowded.many;
          line_is = crowded.line_is;
        })))
    stops Limit line (inr (inr (inr fine))) =
        inr (inr (inr (record {
          count = fine.count;
          judged = judged command (Err (TooManyNodes fine.count)) fine.judged;
          line_is = fine.line_is;
        })))
    stops _ line why = absurd why

    put : (status : Status) → LinePut (Ok command) (at desk.files faults calm) later sink after status
        → LinePut (Ok command) desk later sink after status
    put status p = record { line = p.line; stops = stops status p.line p.stops; bytes = p.bytes }

    said : (status : Status) → Said (Ok command) (at desk.files faults calm) later sink after status
        → Said (Ok command) desk later sink after status
    said Complete s = put Complete s
    said SomeOpen s = s
    said Usage s = put Usage s
    said Refused s = put Refused s
    said ReadFault s = put ReadFault s
    said WriteFault s =
        record {
          status = s.status;
          line = s.line;
          stops = stops s.status s.line s.stops;
          fault = s.fault;
          kept = s.kept;
          bytes = s.bytes;
        }
    said Limit s = put Limit s
    said Memory s = s
    said Rejected s = put Rejected s

    leaves : (b : BoardOf) (facts : Facts) (status : Status)
        → Leaves command b facts (at desk.files faults calm) later sink after status
        → Leaves command b facts desk later sink after status
    leaves b facts Complete l = (record { files = written command b l.0.files; bytes = l.0.bytes }, l.1)
    leaves b facts SomeOpen l = (record { files = written command b l.0.files; bytes = l.0.bytes }, l.1)
    leaves b facts WriteFault (inl s) = inl (cut_short command b sink after s)
    leaves b facts WriteFault (inr p) =
        inr (record { fault = p.fault; files = written command b p.files; kept = p.kept; bytes = p.bytes })
    leaves b facts Memory (bytes, inl files) = (bytes, inl files)
    leaves b facts Memory (bytes, inr files) = (bytes, inr (written command b files))
    leaves b facts _ l = absurd l

    earlier : (routed : Option Routed) (status : Status)
        → Answers (Ok command) (at desk.files faults calm) later sink after (record {
          status = status;
          routed = routed;
        })
        → Answers (Ok command) desk later sink after (record { status = status; routed = routed })
    earlier None status s = record { files = s.files; said = said status s.said }
    earlier (Some made) status (r, l) = (
      record {
        design = r.design;
        is_design = design_of command r.design r.is_design;
        routes = r.routes;
        few = r.few;
        run = r.run;
      },
      leaves made.board made.facts status l,
    )

pub from_before : (command : Command) (desk middle later : DeskState) (sink after : SinkState) (o : Outcome)
    → middle.files ≡ desk.files → desk.faults ≤ middle.faults → (IsTrue desk.calm → IsTrue middle.calm)
    → Answers (Ok command) middle later sink after o → Answers (Ok command) desk later sink after o
from_before command desk middle later sink after o same le stays a =
    earlier desk later middle.faults middle.calm le stays command sink after o.routed o.status
    (subst (λ (f : Option Files). Answers (Ok command) (at f middle.faults middle.calm) later sink after o) same a)

-- The same of a call that didn't route.
pub stopped_before : (command : Command) (desk middle later : DeskState) (sink after : SinkState) (status : Status)
    → middle.files ≡ desk.files → desk.faults ≤ middle.faults → (IsTrue desk.calm → IsTrue middle.calm)
    → Stopped (Ok command) middle later sink after status → Stopped (Ok command) desk later sink after status
stopped_before command desk middle later sink after status same le stays s =
    from_before command desk middle later sink after (record { status = status; routed = None }) same le stays s

-- What was read stays so.
pub input_stays : (name text : List ℕ) (desk middle : DeskState) → middle.files ≡ desk.files → IsInput name desk text
    → IsInput name middle text
input_stays name text desk middle same is =
    record { file = subst (λ (f : Option Files). IsFile f name text) (sym same) is.file; fits = is.fits }

pub design_stays : (name : List ℕ) (desk middle : DeskState) (d : Design) → middle.files ≡ desk.files
    → IsDesignIn name desk d → IsDesignIn name middle d
design_stays name desk middle d same is =
    record { text = is.text; is_text = input_stays name is.text desk middle same is.is_text; reads = is.reads }

pub session_stays : (name : List ℕ) (desk middle : DeskState) (d : Design) (items : List SesItem)
    → middle.files ≡ desk.files → IsSessionIn name desk d items → IsSessionIn name middle d items
session_stays name desk middle d items same is =
    record { text = is.text; is_text = input_stays name is.text desk middle same is.is_text; reads = is.reads }

pub text_stays : (command : Command) (text : List ℕ) (desk middle : DeskState) → middle.files ≡ desk.files
    → IsText command desk text → IsText command middle text
text_stays (Route input output from diagonal knobs) text desk middle same is =
    input_stays input text desk middle same is
text_stays (Check input session report) text desk middle same is = input_stays input text desk middle same is
text_stays (Gen n) text desk middle same is = is

pub read_stays : (command : Command) (desk middle : DeskState) (read : Design) → middle.files ≡ desk.files
    → IsReadFor command desk read → IsReadFor command middle read
read_stays command desk middle read same is =
    record { text = is.text; is_text = text_stays command is.text desk middle same is.is_text; reads = is.reads }
