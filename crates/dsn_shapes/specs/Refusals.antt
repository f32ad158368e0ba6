-- Refusals: the one that counts, and what a reader answers.
use Rattle.std.specs.Prelude.{◌≡◌, ◌==◌, ◌&&◌, ◌||◌, nat_lt, ℕ, Bool, List, Option, Some, None, Result, Ok, Err, fold}
use Rattle.std.specs.Prelude.{if◌then◌else◌}
use Rattle.dsn_shapes.specs.declared.refusal.Refusal.{Refusal}
use Rattle.dsn_shapes.specs.declared.refusal.What.TheVariants.{Nothing}
use Rattle.dsn_shapes.specs.declared.refusal.ReadFault.{ReadFault}
use Rattle.dsn_shapes.specs.declared.refusal.ReadFault.TheVariants.{Refused, Memory}

-- a refusal that is of no limit
abbrev pub refused : ℕ → ℕ → Refusal
refused number at = record { number = number; at = at; what = Nothing; limit = 0 }

-- a comes before b: by the place, and at one place by the number
abbrev pub is_before : Refusal → Refusal → Bool
is_before a b = nat_lt a.at b.at || (a.at == b.at && nat_lt a.number b.number)

-- of the refusal that is held and this one, the one that comes before the other
abbrev pub kept : Option Refusal → Refusal → Option Refusal
kept None r = Some r
kept (Some a) r = if is_before r a then Some r else Some a

-- what is held after these refusals too
abbrev pub noted : Option Refusal → List Refusal → Option Refusal
noted first rs = fold kept first rs

-- the refusal that counts: of the least place, and there of the least number
abbrev pub least : List Refusal → Option Refusal
least rs = noted None rs

-- What a reader answers for a part that has these refusals and, where it has none, a value of which P holds.
abbrev pub Reads : {V : Type 0} → List Refusal → (V → Type 0) → Result V ReadFault → Type 0
Reads rs P (Ok v) = (least rs ≡ None) × P v
Reads rs P (Err (Refused r)) = least rs ≡ Some r
Reads rs P (Err (Memory e)) = Unit {0}
