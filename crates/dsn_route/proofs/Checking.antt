-- How a call ends that reads a session, file by file.
use Rattle.std.proofs.Common.{◌≡◌, inl, inr, ℕ, refl, List, All, Result, Ok, Err}
use Rattle.desk_io.specs.States.{DeskState, SinkState}
use Rattle.desk_io.specs.Answers.{IsAbsent, IsTooLong, DeskFaulted, ReadGives}
use Rattle.desk_io.specs.declared.desk.DeskFail.{DeskFail}
use Rattle.desk_io.specs.declared.desk.DeskFail.TheVariants as desk_fail
use Rattle.pcb_model.specs.declared.design.Design.{Design}
use Rattle.pcb_model.specs.Sound.{IsSound}
use Rattle.dsn_tree.specs.declared.fault.TreeFault.TheVariants as tree_fault
use Rattle.ses_reader.specs.declared.item.SesItem.{SesItem}
use Rattle.ses_reader.specs.declared.item.SesFault.{SesFault}
use Rattle.ses_reader.specs.declared.item.SesFault.TheVariants as fault
use Rattle.ses_reader.specs.Reading.{ReadsSession}
use Rattle.ses_reader.specs.Sound.{IsItemSound}
use Rattle.route_check.specs.declared.verdict.Verdict.{Verdict}
use Rattle.route_check.specs.declared.verdict.Verdict.TheVariants.{Yes, No}
use Rattle.route_check.specs.declared.verdict.JudgeFault.{JudgeFault}
use Rattle.route_check.specs.declared.verdict.JudgeFault.TheVariants as judge_fault
use Rattle.route_check.specs.Judged.{Judges}
use Rattle.route_words.specs.declared.command.Command.{Command}
use Rattle.route_words.specs.declared.command.Command.TheVariants.{Check}
use Rattle.dsn_route.specs.declared.status.Status.{Status}
use Rattle.dsn_route.specs.declared.status.Status.TheVariants.{Complete, ReadFault, Limit, Rejected}
use Rattle.dsn_route.specs.Lines.{max_bytes, check_line, check_ok_line, limit_line, nodes_line, read_fault_line}
use Rattle.dsn_route.specs.Commands.{IsInput, IsInputOf, IsSessionOf}
use Rattle.dsn_route.specs.Judging.{HasJudged, IsDesignIn, IsNoSession, IsSessionIn, OfOneFile, place_of}
use Rattle.dsn_route.specs.Answers.{Stopped}
use Rattle.dsn_route.specs.inner.Said.{EndsBy, EndsJudged, EndsMisread, EndsUnread}
use Rattle.dsn_route.proofs.Ended.{ended_by, wanting}
use Rattle.dsn_route.proofs.Wording.{unread_of, overlong_of, second_overlong, second_unread}

-- a read that gave no text
abbrev pub FailsBy : DeskState → DeskState → List ℕ → DeskFail → Type 0
FailsBy desk later name fail = ReadGives desk later name max_bytes (Err fail)

-- the design's file gives no text
pub input_unread : (command : Command) (name : List ℕ) (desk later : DeskState) (sink after : SinkState)
    (fail : DeskFail) (status : Status) → IsInputOf command name → later.files ≡ desk.files
    → FailsBy desk later name fail → EndsUnread fail sink after status
    → Stopped (Ok command) desk later sink after status
input_unread command name desk later sink after desk_fail.Failed status names files gives ends =
    ended_by (Ok command) desk later sink after ReadFault read_fault_line status
    (unread_of command name desk later names gives) files ends
input_unread command name desk later sink after (desk_fail.TooLong seen) status names files gives ends =
    ended_by (Ok command) desk later sink after Limit limit_line status
    (inl (overlong_of command name desk names gives.0)) files ends
input_unread command name desk later sink after (desk_fail.Memory e) status names files gives ends =
    wanting (Ok command) desk later sink after status files ends

-- ---- the session that a command reads
module _ (command : Command) (input session : List ℕ) (is_input : IsInputOf command input)
    (is_session : IsSessionOf command session) (desk later : DeskState) (sink after : SinkState)
    (files : later.files ≡ desk.files) (d : Design) (first : IsDesignIn input desk d) where
  -- it gives no text
  pub session_unread : (fail : DeskFail) (status : Status) → FailsBy desk later session fail
      → EndsUnread fail sink after status → Stopped (Ok command) desk later sink after status
  session_unread desk_fail.Failed status gives ends =
      ended_by (Ok command) desk later sink after ReadFault read_fault_line status
      (second_unread command input session desk later d is_input is_session first gives) files ends
  session_unread (desk_fail.TooLong seen) status gives ends =
      ended_by (Ok command) desk later sink after Limit limit_line status
      (inl (second_overlong command input session desk d is_input is_session first gives.0)) files ends
  session_unread (desk_fail.Memory e) status gives ends =
      wanting (Ok command) desk later sink after status files ends

  -- its text is none
  module _ (text : List ℕ) (is_text : IsInput session desk text) (status : Status) where
    misread : (place : ℕ) → IsNoSession text d place → EndsBy (check_line 1 place) Rejected sink after status
        → Stopped (Ok command) desk later sink after status
    misread place none ends =
        ended_by (Ok command) desk later sink after Rejected (check_line 1 place) status
        (inl (record {
          place = place;
          misread = record {
            input = input;
            session = session;
            is_input = is_input;
            is_session = is_session;
            design = d;
            of_input = first;
            text = text;
            is_text = is_text;
            no_session = none;
          };
          line_is = refl;
        })) files ends

    pub misread_ends : (f : SesFault) → ReadsSession text d (Err f) → EndsMisread (place_of f) sink after status
        → Stopped (Ok command) desk later sink after status
    misread_ends (fault.Spelling (tree_fault.Memory e)) reads ends =
        wanting (Ok command) desk later sink after status files ends
    misread_ends (fault.Spelling (tree_fault.QuoteOpen at)) reads ends =
        misread at (inl (tree_fault.QuoteOpen at, reads, refl)) ends
    misread_ends (fault.Spelling (tree_fault.BadQuoteByte at)) reads ends =
        misread at (inl (tree_fault.BadQuoteByte at, reads, refl)) ends
    misread_ends (fault.Spelling (tree_fault.Unclosed at)) reads ends =
        misread at (inl (tree_fault.Unclosed at, reads, refl)) ends
    misread_ends (fault.Spelling (tree_fault.Surplus at)) reads ends =
        misread at (inl (tree_fault.Surplus at, reads, refl)) ends
    misread_ends (fault.Spelling (tree_fault.TooDeep at)) reads ends =
        misread at (inl (tree_fault.TooDeep at, reads, refl)) ends
    misread_ends (fault.Spelling tree_fault.Empty) reads ends =
        misread 0 (inl (tree_fault.Empty, reads, refl)) ends
    misread_ends (fault.Refused number at) reads ends = misread at (inr (number, reads)) ends
    misread_ends (fault.Memory e) reads ends = wanting (Ok command) desk later sink after status files ends

-- ---- check
module _ (input session report : List ℕ) (desk later : DeskState) (sink after : SinkState)
    (files : later.files ≡ desk.files) where
  -- another file gives no text, and those before it were read
  file_unread : (name : List ℕ) (fail : DeskFail) (status : Status)
      → ((P : List ℕ → Type 0) → P name → OfOneFile P input session report desk) → FailsBy desk later name fail
      → EndsUnread fail sink after status → Stopped (Ok (Check input session report)) desk later sink after status
  file_unread name desk_fail.Failed status one gives ends =
      ended_by (Ok (Check input session report)) desk later sink after ReadFault read_fault_line status
      (one (λ n. DeskFaulted desk later (IsAbsent desk.files n)) gives, refl) files ends
  file_unread name (desk_fail.TooLong seen) status one gives ends =
      ended_by (Ok (Check input session report)) desk later sink after Limit limit_line status
      (inl (one (λ n. IsTooLong desk.files n max_bytes) gives.0, refl)) files ends
  file_unread name (desk_fail.Memory e) status one gives ends =
      wanting (Ok (Check input session report)) desk later sink after status files ends

  module _ (d : Design) (first : IsDesignIn input desk d) where
    module _ (items : List SesItem) (second : IsSessionIn session desk d items) where
      pub report_unread : (fail : DeskFail) (status : Status) → FailsBy desk later report fail
          → EndsUnread fail sink after status
          → Stopped (Ok (Check input session report)) desk later sink after status
      report_unread fail status = file_unread report fail status (λ P p. inr (d, first, inr (items, second, p)))

      -- the report was read, and all is judged
      module _ (sound : IsSound d) (sound_items : All (IsItemSound d) items) (text : List ℕ)
          (is_text : IsInput report desk text) (status : Status) where
        has_judged : (answer : Result Verdict JudgeFault) → Judges d items text answer
            → HasJudged (Check input session report) desk answer
        has_judged answer judges = record {
          input = input;
          session = session;
          report = report;
          command_is = refl;
          design = d;
          items = items;
          text = text;
          of_input = first;
          of_session = second;
          of_report = is_text;
          sound = sound;
          sound_items = sound_items;
          judges = judges;
        }

        pub judged_ends : (answer : Result Verdict JudgeFault) → Judges d items text answer
            → EndsJudged answer sink after status
            → Stopped (Ok (Check input session report)) desk later sink after status
        judged_ends (Ok Yes) judges ends =
            ended_by (Ok (Check input session report)) desk later sink after Complete check_ok_line status
            (has_judged (Ok Yes) judges, refl) files ends
        judged_ends (Ok (No number at)) judges ends =
            ended_by (Ok (Check input session report)) desk later sink after Rejected (check_line number at) status
            (inr (record {
              number = number;
              at = at;
              judged = has_judged (Ok (No number at)) judges;
              line_is = refl;
            })) files ends
        judged_ends (Err (judge_fault.TooManyNodes count)) judges ends =
            ended_by (Ok (Check input session report)) desk later sink after Limit (nodes_line count) status
            (inr (inr (inr (record {
              count = count;
              judged = has_judged (Err (judge_fault.TooManyNodes count)) judges;
              line_is = refl;
            })))) files ends
        judged_ends (Err (judge_fault.Memory e)) judges ends =
            wanting (Ok (Check input session report)) desk later sink after status files ends
