-- What a session's text says.
use Rattle.std.specs.Prelude.{◌≡◌, Bool, List}
use Rattle.dsn_tree.specs.declared.tree.Tree.{Tree}
use Rattle.dsn_tree.specs.Trees.{HasTree}
use Rattle.pcb_model.specs.declared.item.Item.{Item}
use Rattle.pcb_model.specs.declared.design.Design.{Design}
use Rattle.ses_writer.specs.Session.{session_of}
use Rattle.session_law.specs.Shape.{unplaced, session_tree}

-- The text of a session has a tree; without places it is the tree of the session's lists.
pub record HasSessionTree (d : Design) (items : List Item) (omit_fixed : Bool) : Type 0 where
  pub tree : Tree
  pub has_tree : HasTree (session_of d items omit_fixed) tree
  pub is_shape : unplaced tree ≡ session_tree d items omit_fixed
