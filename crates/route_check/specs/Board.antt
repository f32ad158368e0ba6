-- The board that is judged: the design's fixed items, and the session's behind them.
use Rattle.std.specs.Prelude.{◌==◌, ◌&&◌, ◌||◌, ℕ, ◌+◌, Bool, true, false, List, [], ◌∷◌, ◌++◌, length, reverse}
use Rattle.std.specs.Prelude.{Some, None, Option, if◌then◌else◌}
use Rattle.std.specs.Ordering.{int_eq}
use Rattle.geo_kernel.specs.declared.point.Point.{Point}
use Rattle.pcb_model.specs.declared.item.Metal.{Metal}
use Rattle.pcb_model.specs.declared.item.Metal.TheVariants.{Wire, Via}
use Rattle.pcb_model.specs.declared.item.Item.{Item}
use Rattle.pcb_model.specs.declared.design.Design.{Design}
use Rattle.pcb_model.specs.Pieces.{item_of}
use Rattle.ses_reader.specs.declared.item.SesItem.{SesItem}

-- ---- equal copper
abbrev pub is_point : Point → Point → Bool
is_point p q = int_eq p.x q.x && int_eq p.y q.y

abbrev pub are_points : List Point → List Point → Bool
are_points [] [] = true
are_points [] (q ∷ qs) = false
are_points (p ∷ ps) [] = false
are_points (p ∷ ps) (q ∷ qs) = is_point p q && are_points ps qs

-- the same wire, from either end, or the same via
abbrev pub is_equal : Metal → Metal → Bool
is_equal (Wire l w c) (Wire k v e) = l == k && (w == v && (are_points c e || are_points (reverse c) e))
is_equal (Via p at) (Via q to) = p == q && is_point at to
is_equal _ _ = false

abbrev pub is_net : Option ℕ → ℕ → Bool
is_net None net = false
is_net (Some n) net = n == net

-- the item of the session has the net and the copper of the fixed one
abbrev pub is_same : Item → SesItem → Bool
is_same a x = is_net a.net x.net && is_equal a.metal x.metal

-- ---- what is left of a session
-- without the first item that is the same as the fixed one, if there is one
abbrev pub without : Item → List SesItem → List SesItem
without a [] = []
without a (x ∷ xs) = if is_same a x then xs else x ∷ without a xs

-- each fixed item takes away the first that is the same
abbrev pub left_of : List Item → List SesItem → List SesItem
left_of [] xs = xs
left_of (a ∷ fixed) xs = left_of fixed (without a xs)

-- ---- the board
-- as routed items, with ids that count up
abbrev pub numbered : Design → ℕ → List SesItem → List Item
numbered d id [] = []
numbered d id (x ∷ xs) = item_of d id (Some x.net) false x.metal ∷ numbered d (id + 1) xs

abbrev pub board_of : Design → List SesItem → List Item
board_of d xs = d.fixed ++ numbered d (length d.fixed) (left_of d.fixed xs)
