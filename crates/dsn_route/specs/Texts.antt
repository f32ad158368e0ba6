-- What a text without a design is: a text that is refused, or one that passes a limit.
use Rattle.std.specs.Prelude.{◌≡◌, ◌≢◌, ◌⊎◌, ℕ, List, Option, None, Some}
use Rattle.dsn_tree.specs.declared.fault.TreeFault.{TreeFault}
use Rattle.dsn_tree.specs.declared.fault.TreeFault.TheVariants.{Memory, QuoteOpen, BadQuoteByte, Unclosed, Surplus}
use Rattle.dsn_tree.specs.declared.fault.TreeFault.TheVariants.{TooDeep, Empty}
use Rattle.dsn_tree.specs.Trees.{HasFault}
use Rattle.dsn_shapes.specs.declared.refusal.Refusal.{Refusal}
use Rattle.dsn_shapes.specs.declared.refusal.What.{What}
use Rattle.dsn_shapes.specs.declared.refusal.DesignFault.{DesignFault}
use Rattle.dsn_shapes.specs.declared.refusal.DesignFault.TheVariants as design
use Rattle.dsn_shapes.specs.Refusals.{refused}
use Rattle.dsn_design.specs.Reading.{HasRefusal}
use Rattle.dsn_shapes.specs.declared.table.TheConstants.{QUOTE_OPEN, BAD_QUOTE_BYTE, UNCLOSED, SURPLUS}
use Rattle.dsn_shapes.specs.declared.table.TheConstants.{TOO_DEEP, NO_LIST, PAST_LIMIT}

-- the numbers of the faults of a tree, each at its byte offset; want of memory is no fault of a text
abbrev pub tree_refusal : TreeFault → Option Refusal
tree_refusal (QuoteOpen at) = Some (refused QUOTE_OPEN at)
tree_refusal (BadQuoteByte at) = Some (refused BAD_QUOTE_BYTE at)
tree_refusal (Unclosed at) = Some (refused UNCLOSED at)
tree_refusal (Surplus at) = Some (refused SURPLUS at)
tree_refusal (TooDeep at) = Some (refused TOO_DEEP at)
tree_refusal Empty = Some (refused NO_LIST 0)
tree_refusal (Memory e) = None

abbrev pub refusal_of : DesignFault → Option Refusal
refusal_of (design.Spelling f) = tree_refusal f
refusal_of (design.Refused r) = Some r
refusal_of (design.Memory e) = None

-- the text has no tree, and this refusal says why
pub record IsMisspelt (text : List ℕ) (r : Refusal) : Type 0 where
  pub fault : TreeFault
  pub has : HasFault text fault
  pub refusal : tree_refusal fault ≡ Some r

-- the text has no design, and this refusal says why: that of its tree, or the one that counts in its sections
abbrev pub LacksDesign : List ℕ → Refusal → Type 0
LacksDesign text r = IsMisspelt text r ⊎ HasRefusal text r

-- the number of a limit that is passed
abbrev pub limit_number : ℕ
limit_number = PAST_LIMIT

-- the text is refused with this number at this place, a byte offset
pub record IsRefused (text : List ℕ) (number place : ℕ) : Type 0 where
  pub refusal : Refusal
  pub lacks : LacksDesign text refusal
  pub other : refusal.number ≢ limit_number
  pub number_is : number ≡ refusal.number
  pub place_is : place ≡ refusal.at

-- the text passes this limit on what it counts
pub record IsOverLimit (text : List ℕ) (what : What) (limit : ℕ) : Type 0 where
  pub refusal : Refusal
  pub lacks : LacksDesign text refusal
  pub passed : refusal.number ≡ limit_number
  pub what_is : what ≡ refusal.what
  pub limit_is : limit ≡ refusal.limit
