-- Desks and sinks in memory: their files, the calls that fail, and what each call leaves exactly.
use Rattle.std.specs.Prelude.{◌≡◌, ◌==◌, ◌/◌, ◌⊎◌, ℕ, Bool, false, List, length, take, String, Vec, string_bytes, fold}
use Rattle.std.specs.Prelude.{IsTrue, Result, Ok, Err}
use Rattle.std.specs.List.{list_any}
use Rattle.std.specs.declared.alloc.Global.{Global}
use Rattle.std.specs.FinMap.{empty, insert}
use Rattle.desk_io.specs.States.{Files, DeskState, SinkState, next_count}
use Rattle.desk_io.specs.Answers.{IsAbsent, IsPresent, written, appended}
use Rattle.desk_io.specs.declared.desk.DeskFail.{DeskFail}
use Rattle.desk_io.specs.declared.desk.DeskFail.TheVariants as desk_fail
use Rattle.desk_io.specs.declared.desk.SinkFail.{SinkFail}
use Rattle.desk_io.specs.declared.desk.SinkFail.TheVariants as sink_fail

-- the files with one more, which takes the place of one with its name
abbrev pub with_file : Files → String Global × Vec ℕ Global → Files
with_file m pair = insert m (string_bytes pair.0) pair.1.items

-- the files of a list of pairs, of which the last of a name counts
abbrev pub files_of : List (String Global × Vec ℕ Global) → Files
files_of pairs = fold with_file empty pairs

-- how many calls were made, and the numbers of the calls that fail, counted from 1
pub record Schedule : Type 0 where
  pub calls : ℕ
  pub fail : List ℕ

-- whether the next call is listed
abbrev pub is_next_listed : Schedule → Bool
is_next_listed s = list_any (λ n. n == next_count s.calls) s.fail

-- the schedule after one more call
abbrev pub after_call : Schedule → Schedule
after_call s = record { calls = next_count s.calls; fail = s.fail }

-- what a failed call keeps of the bytes
abbrev pub first_half : List ℕ → List ℕ
first_half bytes = take (length bytes / 2) bytes

-- A read fails where its call is listed or the file is absent, and nowhere else; only the count changes.
abbrev pub MemoryReads : Bool → DeskState → DeskState → List ℕ → Result (Vec ℕ Global) DeskFail → Type 0
MemoryReads listed old new name (Ok v) = (listed ≡ false) × (new ≡ old)
MemoryReads listed old new name (Err desk_fail.Failed) =
    (IsTrue listed ⊎ IsAbsent old.files name) × (new ≡ record old { faults = next_count old.faults })
MemoryReads listed old new name (Err (desk_fail.TooLong seen)) = (listed ≡ false) × (new ≡ old)
MemoryReads listed old new name (Err (desk_fail.Memory e)) = (listed ≡ false) × IsPresent old.files name × (new ≡ old)

-- A write fails where its call is listed, and nowhere else; it then keeps half of the bytes.
abbrev pub MemoryWrites : {T : Type 0} → Bool → DeskState → DeskState → List ℕ → List ℕ → Result T DeskFail → Type 0
MemoryWrites listed old new name bytes (Ok x) =
    (listed ≡ false) × (new ≡ record old { files = written old.files name bytes })
MemoryWrites listed old new name bytes (Err desk_fail.Failed) =
    IsTrue listed
    × (new ≡ record old { files = written old.files name (first_half bytes); faults = next_count old.faults })
MemoryWrites listed old new name bytes (Err (desk_fail.TooLong seen)) = ⊥
MemoryWrites listed old new name bytes (Err (desk_fail.Memory e)) = new ≡ old

-- A put fails where its call is listed, and nowhere else; it then keeps half of the bytes.
abbrev pub MemoryPuts : {T : Type 0} → Bool → SinkState → SinkState → List ℕ → Result T SinkFail → Type 0
MemoryPuts listed old new bytes (Ok x) = (listed ≡ false) × (new ≡ record old { bytes = appended old.bytes bytes })
MemoryPuts listed old new bytes (Err sink_fail.Failed) =
    IsTrue listed × (new ≡ record old { bytes = appended old.bytes (first_half bytes); faults = next_count old.faults })
MemoryPuts listed old new bytes (Err (sink_fail.Memory e)) = new ≡ old
