-- The host's desk and sink: what their loops do to a reader and a writer, and what is seen of them.
use Rattle.std.specs.Prelude.{◌≡◌, ◌<◌, ◌≤◌, ◌+◌, ℕ, Bool, true, false, List, length, take, Option, IfSome, ⊤, Result}
use Rattle.std.specs.Prelude.{Ok, Err, Vec, vec_len}
use Rattle.std.specs.declared.alloc.Global.{Global}
use Rattle.std.specs.Io.KnownBytes.{Appends}
use Rattle.desk_io.specs.States.{DeskState, SinkState, next_count}
use Rattle.desk_io.specs.declared.desk.DeskFail.{DeskFail}
use Rattle.desk_io.specs.declared.desk.DeskFail.TheVariants as desk_fail
use Rattle.desk_io.specs.declared.desk.SinkFail.{SinkFail}
use Rattle.desk_io.specs.declared.desk.SinkFail.TheVariants as sink_fail

-- What reading a reader to its end answers, where the bytes that it has left are known.
abbrev pub ReaderGives : Option (List ℕ) → ℕ → Result (Vec ℕ Global) DeskFail → Type 0
ReaderGives left limit (Ok v) = IfSome left (λ bytes. v.items ≡ bytes) × (vec_len v ≤ limit)
ReaderGives left limit (Err desk_fail.Failed) = ⊤
ReaderGives left limit (Err (desk_fail.TooLong seen)) = IfSome left (λ bytes. limit < length bytes) × (seen ≡ limit + 1)
ReaderGives left limit (Err (desk_fail.Memory e)) = ⊤

-- A writer took all of the bytes, or a prefix of them.
abbrev pub WriterTakes : Option (List ℕ) → Option (List ℕ) → List ℕ → Bool → Type 0
WriterTakes old new bytes true = Appends old new bytes
WriterTakes old new bytes false = (kept : ℕ) × Appends old new (take kept bytes)

-- A read raises the count where it fails, and nowhere else; past the limit it stops after one byte.
abbrev pub HostReads : DeskState → DeskState → ℕ → Result (Vec ℕ Global) DeskFail → Type 0
HostReads old new limit (Ok v) = new ≡ old
HostReads old new limit (Err desk_fail.Failed) = new ≡ record old { faults = next_count old.faults }
HostReads old new limit (Err (desk_fail.TooLong seen)) = (seen ≡ limit + 1) × (new ≡ old)
HostReads old new limit (Err (desk_fail.Memory e)) = new ≡ old

-- No file is too long to be written.
abbrev pub IsFailedOrMemory : DeskFail → Type 0
IsFailedOrMemory desk_fail.Failed = ⊤
IsFailedOrMemory (desk_fail.TooLong seen) = ⊥
IsFailedOrMemory (desk_fail.Memory e) = ⊤

-- A write raises the count where it fails, and nowhere else.
abbrev pub HostWrites : {T : Type 0} → DeskState → DeskState → Result T DeskFail → Type 0
HostWrites old new (Ok x) = new ≡ old
HostWrites old new (Err desk_fail.Failed) = new ≡ record old { faults = next_count old.faults }
HostWrites old new (Err (desk_fail.TooLong seen)) = ⊥
HostWrites old new (Err (desk_fail.Memory e)) = new ≡ old

-- A put raises the count where it fails, and nowhere else.
abbrev pub HostPuts : {T : Type 0} → SinkState → SinkState → Result T SinkFail → Type 0
HostPuts old new (Ok x) = new ≡ old
HostPuts old new (Err sink_fail.Failed) = new ≡ record old { faults = next_count old.faults }
HostPuts old new (Err (sink_fail.Memory e)) = ⊥
