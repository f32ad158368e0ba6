-- What the calls of a desk and of a sink answer and leave.
use Rattle.std.specs.Prelude.{◌≡◌, ◌<◌, ◌≤◌, ℕ, false, List, ◌++◌, length, take, Option, None, Some, IfSome, IsSome}
use Rattle.std.specs.Prelude.{IsSomeAnd, IsTrue, ⊤, Result, Ok, Err, Vec, vec_len}
use Rattle.std.specs.Option.{option_map}
use Rattle.std.specs.declared.alloc.Global.{Global}
use Rattle.std.specs.FinMap.{get, insert}
use Rattle.desk_io.specs.States.{Files, DeskState, SinkState, Rose}
use Rattle.desk_io.specs.declared.desk.DeskFail.{DeskFail}
use Rattle.desk_io.specs.declared.desk.DeskFail.TheVariants as desk_fail
use Rattle.desk_io.specs.declared.desk.SinkFail.{SinkFail}
use Rattle.desk_io.specs.declared.desk.SinkFail.TheVariants as sink_fail

-- the files are told, and there is none of that name
abbrev pub IsAbsent : Option Files → List ℕ → Type 0
IsAbsent files name = IsSomeAnd files (λ m. get m name ≡ None)

-- the files are told, and there is one of that name
abbrev pub IsPresent : Option Files → List ℕ → Type 0
IsPresent files name = IsSomeAnd files (λ m. IsSome (get m name))

-- the files are told, and these bytes are the file of that name
abbrev pub IsHeld : Option Files → List ℕ → List ℕ → Type 0
IsHeld files name bytes = IsSomeAnd files (λ m. get m name ≡ Some bytes)

-- these bytes are the file of that name, where the files are told
abbrev pub IsFile : Option Files → List ℕ → List ℕ → Type 0
IsFile files name bytes = IfSome files (λ m. get m name ≡ Some bytes)

-- the file of that name has more bytes than the limit, where the files are told
abbrev pub IsTooLong : Option Files → List ℕ → ℕ → Type 0
IsTooLong files name limit = IfSome files (λ m. IsSomeAnd (get m name) (λ bytes. limit < length bytes))

-- the files with these bytes as the file of that name
abbrev pub written : Option Files → List ℕ → List ℕ → Option Files
written files name bytes = option_map (λ m. insert m name bytes) files

-- the bytes that were put with these after them
abbrev pub appended : Option (List ℕ) → List ℕ → Option (List ℕ)
appended old bytes = option_map (λ all. all ++ bytes) old

-- the cause of a failed call of a desk: its count rose, and a calm desk fails only where this holds
pub record DeskFaulted (old new : DeskState) (calm_too : Type 0) : Type 0 where
  pub rose : Rose old.faults new.faults
  pub calm : IsTrue old.calm → calm_too

-- the cause of a failed call of a sink: its count rose, and it is not calm
pub record SinkFaulted (old new : SinkState) : Type 0 where
  pub rose : Rose old.faults new.faults
  pub restless : old.calm ≡ false

-- what a read answers
abbrev pub ReadGives : DeskState → DeskState → List ℕ → ℕ → Result (Vec ℕ Global) DeskFail → Type 0
ReadGives old new name limit (Ok v) = IsFile old.files name v.items × (vec_len v ≤ limit)
ReadGives old new name limit (Err desk_fail.Failed) = DeskFaulted old new (IsAbsent old.files name)
ReadGives old new name limit (Err (desk_fail.TooLong seen)) = IsTooLong old.files name limit × (limit < seen)
ReadGives old new name limit (Err (desk_fail.Memory e)) = ⊤

-- what a write answers and leaves
abbrev pub WriteGives : {T : Type 0} → DeskState → DeskState → List ℕ → List ℕ → Result T DeskFail → Type 0
WriteGives old new name bytes (Ok x) = new.files ≡ written old.files name bytes
WriteGives old new name bytes (Err desk_fail.Failed) =
    DeskFaulted old new ⊥ × ((kept : ℕ) × (new.files ≡ written old.files name (take kept bytes)))
WriteGives old new name bytes (Err (desk_fail.TooLong seen)) = ⊥
WriteGives old new name bytes (Err (desk_fail.Memory e)) = new.files ≡ old.files

-- what a put answers and leaves
abbrev pub PutGives : {T : Type 0} → SinkState → SinkState → List ℕ → Result T SinkFail → Type 0
PutGives old new bytes (Ok x) = new.bytes ≡ appended old.bytes bytes
PutGives old new bytes (Err sink_fail.Failed) =
    SinkFaulted old new × ((kept : ℕ) × (new.bytes ≡ appended old.bytes (take kept bytes)))
PutGives old new bytes (Err (sink_fail.Memory e)) = new.bytes ≡ old.bytes
