-- What reading a written session tells of the board that it was written from.
use Rattle.std.specs.Prelude.{◌≡◌, ◌≤◌, ℕ, Bool, true, List, Result, Ok, Err, filter, flat_map, length, map}
use Rattle.std.specs.List.{range_with_len}
use Rattle.pcb_model.specs.declared.item.Item.{Item}
use Rattle.pcb_model.specs.declared.item.Metal.{Metal}
use Rattle.pcb_model.specs.declared.item.Metal.TheVariants.{Wire, Via, Pad, Ban}
use Rattle.pcb_model.specs.declared.design.Design.{Design}
use Rattle.pcb_model.specs.Pieces.{pieces_of}
use Rattle.dsn_tree.specs.Trees.{Unless}
use Rattle.ses_writer.specs.Words.{directed}
use Rattle.ses_writer.specs.Session.{is_of_net, is_printed}
use Rattle.session_law.specs.Told.{is_copper}
use Rattle.ses_reader.specs.declared.item.SesItem.{SesItem}
use Rattle.ses_reader.specs.declared.item.SesFault.{SesFault}
use Rattle.ses_reader.specs.declared.item.SesFault.TheVariants.{Spelling, Refused, Memory}

-- ---- the printed wiring
-- a metal as it is printed: a wire's chain in the direction whose list of points is the lesser
abbrev pub printed_metal : Metal → Metal
printed_metal (Wire layer width chain) = Wire layer width (directed chain)
printed_metal m = m

-- the wires and vias of a net, in the order of the items
abbrev pub net_wiring : List Item → ℕ → List (ℕ × Metal)
net_wiring items net = map (λ (m : Metal). (net, printed_metal m))
    (filter is_copper (map (λ (a : Item). a.metal) (filter (is_of_net net) items)))

-- those of the printed items, net by net in the design's order
unfoldable pub printed_wiring : Design → List Item → Bool → List (ℕ × Metal)
printed_wiring d items omit_fixed = flat_map (net_wiring (filter (is_printed omit_fixed) items))
    (range_with_len 0 (length d.nets))

-- ---- copper that can be read
-- a wire has two points or more
abbrev pub HasTwoPoints : Metal → Type 0
HasTwoPoints (Wire layer width chain) = 2 ≤ length chain
HasTwoPoints (Via padstack at) = Unit {0}
HasTwoPoints (Pad pin) = Unit {0}
HasTwoPoints (Ban wires vias) = Unit {0}

-- The item's wire has two points or more, as the reader wants of a path; fixed copper has the pieces that its metal
-- makes, as routed copper has on each legal board.
pub record IsReadable (d : Design) (a : Item) : Type 0 where
  pub points : HasTwoPoints a.metal
  pub pieces : a.fixed ≡ true → is_copper a.metal ≡ true → a.pieces ≡ pieces_of d a.metal

-- ---- what reading answers
-- an item of a session without its place in the text
abbrev pub told : SesItem → ℕ × Metal
told i = (i.net, i.metal)

-- the printed wiring, item by item, or want of memory
abbrev pub TellsWiring : Design → List Item → Bool → Result (List SesItem) SesFault → Type 0
TellsWiring d items omit_fixed (Ok xs) = map told xs ≡ printed_wiring d items omit_fixed
TellsWiring d items omit_fixed (Err (Spelling f)) = Unless f ⊥
TellsWiring d items omit_fixed (Err (Refused number at)) = ⊥
TellsWiring d items omit_fixed (Err (Memory e)) = Unit {0}
