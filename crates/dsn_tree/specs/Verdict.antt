-- The fault of a text's tokens that is met first from left to right.
use Rattle.std.specs.Prelude.{◌-◌, ℕ, List, [], ◌∷◌, Option, Some, None, Result, Ok, Err, nat_lt, length, if◌then◌else◌}
use Rattle.dsn_tree.specs.declared.fault.TreeFault.{TreeFault}
use Rattle.dsn_tree.specs.declared.limits.TheConstants.{MOST_DEPTH}
use Rattle.dsn_tree.specs.declared.fault.TreeFault.TheVariants.{Unclosed, Surplus, TooDeep, Empty}
use Rattle.dsn_tree.specs.declared.fault.TreeFault.TheVariants as tree
use Rattle.dsn_tokens.specs.declared.token.Token.{Token}
use Rattle.dsn_tokens.specs.declared.token.TokenFault.{TokenFault}
use Rattle.dsn_tokens.specs.declared.token.TokenFault.TheVariants.{QuoteOpen, BadQuoteByte, Memory}
use Rattle.dsn_tokens.specs.declared.token.Mark.{Mark}
use Rattle.dsn_tokens.specs.declared.token.Mark.TheVariants.{Left, Right, Word}

-- a fault of the spelling, as a fault of the tree
abbrev pub fault_of : TokenFault → TreeFault
fault_of (QuoteOpen at) = tree.QuoteOpen at
fault_of (BadQuoteByte at) = tree.BadQuoteByte at
fault_of (Memory e) = tree.Memory e

-- before the first bracket, inside brackets that are open at these offsets, the innermost first, or behind the last one
pub data Standing : Type 0 where
  before : Standing
  inside : ℕ → List ℕ → Standing
  behind : Standing

-- what the innermost bracket leaves open when it closes
abbrev pub closed : List ℕ → Standing
closed [] = behind
closed (at ∷ outer) = inside at outer

-- what a token at this offset leads to
abbrev pub step : Standing → ℕ → Mark → Result Standing TreeFault
step before at Left = Ok (inside at [])
step before at Right = Err (Surplus at)
step before at (Word text) = Err (Surplus at)
step (inside at outer) new Left =
    if nat_lt (length outer) (MOST_DEPTH - 1) then Ok (inside new (at ∷ outer)) else Err (TooDeep new)
step (inside at outer) new Right = Ok (closed outer)
step (inside at outer) new (Word text) = Ok (inside at outer)
step behind at mark = Err (Surplus at)

-- what the end of the text means
abbrev pub at_end : Standing → Option TreeFault
at_end before = Some Empty
at_end (inside at outer) = Some (Unclosed at)
at_end behind = None

-- a fault, or what comes after
abbrev pub judge : Result Standing TreeFault → (Standing → Option TreeFault) → Option TreeFault
judge (Ok s) next = next s
judge (Err f) next = Some f

-- the first fault of these tokens and of the end, or of the fault of spelling, behind them
abbrev pub verdict : Standing → List Token → Option TokenFault → Option TreeFault
verdict s [] None = at_end s
verdict s [] (Some f) = Some (fault_of f)
verdict s (t ∷ ts) end = judge (step s t.at t.mark) (λ r. verdict r ts end)
