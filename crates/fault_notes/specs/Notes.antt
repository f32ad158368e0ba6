-- What standard error says of a fault.
use Rattle.std.specs.Prelude.{◌≡◌, ◌<◌, ◌==◌, ℕ, List, [], ◌++◌, Option, None, Some, length, codes, not, true}
use Rattle.std.specs.Prelude.{if◌then◌else◌, Bool, ◌||◌}
use Rattle.std.specs.List.{list_all}
use Rattle.std.specs.Fmt.{decimal}
use Rattle.fault_notes.specs.declared.said.Counted.{Counted}
use Rattle.fault_notes.specs.declared.said.Said.TheVariants.{Usage, Refused, ReadFault, Limit, Check, Other}
use Rattle.fault_notes.specs.declared.fault.Bar.{Bar}
use Rattle.fault_notes.specs.declared.fault.Bar.TheVariants.{Absent, Folder, Denied, Other as Unknown}
use Rattle.fault_notes.specs.declared.fault.Fault.{Fault}
use Rattle.fault_notes.specs.declared.fault.FileNames.{FileNames}
use Rattle.fault_notes.specs.declared.fault.Fault.TheVariants.{Told, Unread, Session, Report, Memory}
use Rattle.fault_notes.specs.Places.{is_line_feed, line_of, column_of, word_at, mistake_in}
use Rattle.fault_notes.specs.Lines.{word_of}

-- words of one line
pub record IsPlain (words : List ℕ) : Type 0 where
  pub some : 0 < length words
  pub line : list_all (λ c. not (is_line_feed c)) words ≡ true

-- words of one line between a front and a back
pub record IsFramed (front back note : List ℕ) : Type 0 where
  pub words : List ℕ
  pub plain : IsPlain words
  pub is : note ≡ front ++ (words ++ back)

-- where a refusal is: the file, the line and the column, or the byte where the text isn't known
abbrev pub place_front : List ℕ → Option (List ℕ) → ℕ → List ℕ
place_front file (Some text) at = file
    ++ (codes ":" ++ (decimal (line_of text at) ++ (codes ":" ++ (decimal (column_of text at) ++ codes ": refused: "))))
place_front file None at = file ++ (codes ": refused at byte " ++ (decimal at ++ codes ": "))

-- the word that stands there, where there is one
abbrev pub shown : List ℕ → List ℕ
shown word = if length word == 0 then [] else codes ": " ++ word

abbrev pub place_word : Option (List ℕ) → ℕ → List ℕ
place_word (Some text) at = shown (word_at text at)
place_word None at = []

-- the word at the place, and which refusal it is
abbrev pub refusal_back : Option (List ℕ) → ℕ → ℕ → List ℕ
refusal_back text at number = place_word text at ++ (codes " (refusal " ++ (decimal number ++ codes ")\n"))

-- what is wrong, between a front and a back; of a file of another kind it is told what that is
abbrev pub mistake_of : Option (List ℕ) → Option (List ℕ)
mistake_of (Some text) = mistake_in text
mistake_of None = None

abbrev pub IsReasoned : Option (List ℕ) → List ℕ → List ℕ → List ℕ → Type 0
IsReasoned (Some words) front back note = note ≡ front ++ (words ++ back)
IsReasoned None front back note = IsFramed front back note

-- which limit is passed: the most there may be, or for nodes how many there would be
abbrev pub limit_front : List ℕ → Counted → ℕ → List ℕ
limit_front file counted number =
    file ++ (codes ": too large: " ++ (decimal number ++ (codes " " ++ word_of counted)))

-- ---- a session and its report

-- the session can't be read
abbrev pub is_unread : ℕ → Bool
is_unread number = number == 1

-- it is the report that is told of
abbrev pub is_of_report : ℕ → Bool
is_of_report number = number == 2 || number == 6 || number == 7

abbrev pub judged_file : FileNames → ℕ → List ℕ
judged_file files number = if is_of_report number then files.report.now else files.session.now

-- a line, a net, a pin or an item
abbrev pub numbered_what : ℕ → List ℕ
numbered_what number =
    if number == 2 then codes ":" else if number == 6 then codes ": net " else if number == 7 then codes ": pin "
    else codes ": item "

abbrev pub numbered : List ℕ → List ℕ → ℕ → List ℕ
numbered file what at = file ++ (what ++ (decimal at ++ codes ": "))

-- where that is: a place of the session, or a file with a number
abbrev pub check_front : FileNames → Option (List ℕ) → ℕ → ℕ → List ℕ
check_front files text number at =
    if is_unread number then place_front files.session.now text at
    else numbered (judged_file files number) (numbered_what number) at

-- the word of the session that is told of
abbrev pub check_word : Option (List ℕ) → ℕ → ℕ → List ℕ
check_word text number at = if is_unread number then place_word text at else []

abbrev pub check_back : Option (List ℕ) → ℕ → ℕ → List ℕ
check_back text number at = check_word text number at ++ (codes " (check " ++ (decimal number ++ codes ")\n"))

-- ---- files

-- why a file can't be read, or written
abbrev pub unread_words : Bar → List ℕ
unread_words Absent = codes ": the file can't be read: there is no such file\n"
unread_words Folder = codes ": the file can't be read: it is a folder\n"
unread_words Denied = codes ": the file can't be read: the system doesn't allow it\n"
unread_words Unknown = codes ": the file can't be read\n"

abbrev pub unwritten_words : Bar → List ℕ
unwritten_words Absent = codes ": the file can't be written: there is no such folder\n"
unwritten_words Folder = codes ": the file can't be written: it is a folder\n"
unwritten_words Denied = codes ": the file can't be written: the system doesn't allow it\n"
unwritten_words Unknown = codes ": the file can't be written\n"

-- the note of a fault, with the program's usage, the names of the files, and the text of the design or the session
-- where it is known
abbrev pub IsNote : List ℕ → Fault → FileNames → Option (List ℕ) → List ℕ → Type 0
IsNote usage (Told (Usage number)) files text note = IsFramed (codes "dsnroute: ") (codes "\n" ++ usage) note
IsNote usage (Told (Refused number place)) files text note =
    IsReasoned (mistake_of text) (place_front files.input.now text place) (refusal_back text place number) note
IsNote usage (Told ReadFault) files text note = note ≡ files.input.now ++ unread_words Unknown
IsNote usage (Told (Limit counted number)) files text note =
    IsFramed (limit_front files.input.now counted number) (codes "\n") note
IsNote usage (Told (Check number at)) files text note =
    IsFramed (check_front files text number at) (check_back text number at) note
IsNote usage (Told Other) files text note = note ≡ []
IsNote usage (Unread bar) files text note = note ≡ files.input.now ++ unread_words bar
IsNote usage (Session bar) files text note = note ≡ files.session.now ++ unwritten_words bar
IsNote usage Report files text note = note ≡ codes "dsnroute: standard output can't be written\n"
IsNote usage Memory files text note =
    note ≡ codes "dsnroute: memory was wanting, or the design has more than 16777216 class pairs\n"
