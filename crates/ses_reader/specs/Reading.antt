-- What reading a text as a session of a design answers.
use Rattle.std.specs.Prelude.{◌≡◌, ◌⊎◌, ℕ, List, Some, None, Result, Ok, Err}
use Rattle.pcb_model.specs.declared.design.Design.{Design}
use Rattle.dsn_tree.specs.declared.tree.Tree.{Tree}
use Rattle.dsn_tree.specs.declared.fault.TreeFault.{TreeFault}
use Rattle.dsn_tree.specs.Trees.{HasTree, HasFault, Unless}
use Rattle.dsn_shapes.specs.declared.refusal.Refusal.{Refusal}
use Rattle.dsn_shapes.specs.Refusals.{least}
use Rattle.ses_reader.specs.declared.item.SesItem.{SesItem}
use Rattle.ses_reader.specs.declared.item.SesFault.{SesFault}
use Rattle.ses_reader.specs.declared.item.SesFault.TheVariants.{Spelling, Refused, Memory}
use Rattle.ses_reader.specs.Session.{session_items, session_refusals}

-- the tree is a session of the design without a refusal, and has these items
pub record IsSession (tree : Tree) (d : Design) (items : List SesItem) : Type 0 where
  pub none_refused : least (session_refusals d tree) ≡ None
  pub items_are : items ≡ session_items d tree

-- of the refusals of the tree the one that counts has this number and this place
pub record IsRefused (tree : Tree) (d : Design) (number at : ℕ) : Type 0 where
  pub refusal : Refusal
  pub counts : least (session_refusals d tree) ≡ Some refusal
  pub number_is : number ≡ refusal.number
  pub at_is : at ≡ refusal.at

-- ---- texts
-- the text's tree is a session of the design with these items
pub record HasSession (text : List ℕ) (d : Design) (items : List SesItem) : Type 0 where
  pub tree : Tree
  pub has_tree : HasTree text tree
  pub session : IsSession tree d items

-- the text's tree is refused with this number at this place
pub record HasRefusal (text : List ℕ) (d : Design) (number at : ℕ) : Type 0 where
  pub tree : Tree
  pub has_tree : HasTree text tree
  pub refused : IsRefused tree d number at

-- what reading a text answers: its items, the fault of its tree that is met first, or the refusal that counts
abbrev pub ReadsSession : List ℕ → Design → Result (List SesItem) SesFault → Type 0
ReadsSession text d (Ok items) = HasSession text d items
ReadsSession text d (Err (Spelling f)) = Unless f (HasFault text f)
ReadsSession text d (Err (Refused number at)) = HasRefusal text d number at
ReadsSession text d (Err (Memory e)) = Unit {0}

-- For each design a text has the items of a session, a fault of its tree, or a refusal, and just one of these.
pub record OneSession : Type 0 where
  pub some : (text : List ℕ) (d : Design) → ((items : List SesItem) × HasSession text d items)
      ⊎ (((f : TreeFault) × HasFault text f) ⊎ ((number : ℕ) × ((at : ℕ) × HasRefusal text d number at)))
  pub sessions : (text : List ℕ) (d : Design) (xs ys : List SesItem) → HasSession text d xs → HasSession text d ys
      → xs ≡ ys
  pub faults : (text : List ℕ) (f g : TreeFault) → HasFault text f → HasFault text g → f ≡ g
  pub numbers : (text : List ℕ) (d : Design) (n at m place : ℕ) → HasRefusal text d n at → HasRefusal text d m place
      → n ≡ m
  pub places : (text : List ℕ) (d : Design) (n at m place : ℕ) → HasRefusal text d n at → HasRefusal text d m place
      → at ≡ place
  pub no_fault : (text : List ℕ) (d : Design) (items : List SesItem) (f : TreeFault) → HasSession text d items
      → HasFault text f → ⊥
  pub no_refusal : (text : List ℕ) (d : Design) (items : List SesItem) (n at : ℕ) → HasSession text d items
      → HasRefusal text d n at → ⊥
  pub apart : (text : List ℕ) (d : Design) (f : TreeFault) (n at : ℕ) → HasFault text f → HasRefusal text d n at → ⊥
