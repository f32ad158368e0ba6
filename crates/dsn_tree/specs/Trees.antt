-- The tree of a text, or its fault.
use Rattle.std.specs.Prelude.{◌⊎◌, ◌≡◌, ◌≤◌, ℕ, List, Option, Some, Result, Ok, Err, map}
use Rattle.dsn_tree.specs.declared.fault.TreeFault.{TreeFault}
use Rattle.dsn_tree.specs.declared.limits.TheConstants.{MOST_DEPTH}
use Rattle.dsn_tree.specs.declared.fault.TreeFault.TheVariants.{Memory, QuoteOpen, BadQuoteByte, Unclosed, Surplus}
use Rattle.dsn_tree.specs.declared.fault.TreeFault.TheVariants.{TooDeep, Empty}
use Rattle.dsn_tree.specs.declared.tree.Tree.{Tree}
use Rattle.dsn_tree.specs.declared.tree.Tree.TheVariants.{Group}
use Rattle.dsn_tree.specs.Flat.{flat, depth, shown}
use Rattle.dsn_tree.specs.Verdict.{before, verdict}
use Rattle.dsn_tokens.specs.Place.{start}
use Rattle.dsn_tokens.specs.Spelling.{Reading, Spells}
use Rattle.dsn_tokens.specs.declared.token.Token.{Token}
use Rattle.dsn_tokens.specs.declared.token.TokenFault.{TokenFault}

-- The text spells the tokens of the tree, which is a group and at most MOST_DEPTH deep.
pub record HasTree (text : List ℕ) (t : Tree) : Type 0 where
  pub at : ℕ
  pub items : List Tree
  pub is_group : t ≡ Group at items
  pub ts : List Token
  pub spells : Spells text ts
  pub shows : map shown ts ≡ flat t
  pub deep : depth t ≤ MOST_DEPTH

-- The text has this fault, met first from left to right.
pub record HasFault (text : List ℕ) (f : TreeFault) : Type 0 where
  pub ts : List Token
  pub end : Option TokenFault
  pub reading : Reading (start text) ts end
  pub first : verdict before ts end ≡ Some f

-- P, but for want of memory, of which nothing is said
abbrev pub Unless : TreeFault → Type 0 → Type 0
Unless (Memory e) P = Unit {0}
Unless (QuoteOpen at) P = P
Unless (BadQuoteByte at) P = P
Unless (Unclosed at) P = P
Unless (Surplus at) P = P
Unless (TooDeep at) P = P
Unless Empty P = P

-- What reading the text answers.
abbrev pub ReadsTree : List ℕ → Result Tree TreeFault → Type 0
ReadsTree text (Ok t) = HasTree text t
ReadsTree text (Err f) = Unless f (HasFault text f)

-- A text has one tree or one fault, and not both.
pub record OneAnswer : Type 0 where
  pub some : (text : List ℕ) → ((t : Tree) × HasTree text t) ⊎ ((f : TreeFault) × HasFault text f)
  pub trees : (text : List ℕ) (t u : Tree) → HasTree text t → HasTree text u → t ≡ u
  pub faults : (text : List ℕ) (f g : TreeFault) → HasFault text f → HasFault text g → f ≡ g
  pub apart : (text : List ℕ) (t : Tree) (f : TreeFault) → HasTree text t → HasFault text f → ⊥
