-- The only fault of a text that has a tree.
use Rattle.dsn_tree.specs.declared.fault.TreeFault.{TreeFault}
use Rattle.dsn_tree.specs.declared.fault.TreeFault.TheVariants as fault

-- the fault is want of memory
abbrev pub IsWanting : TreeFault → Type 0
IsWanting (fault.Memory e) = Unit {0}
IsWanting (fault.QuoteOpen at) = ⊥
IsWanting (fault.BadQuoteByte at) = ⊥
IsWanting (fault.Unclosed at) = ⊥
IsWanting (fault.Surplus at) = ⊥
IsWanting (fault.TooDeep at) = ⊥
IsWanting fault.Empty = ⊥
