-- Items by id, and the items that an offer makes.
use Rattle.std.specs.Prelude.{ℕ, ◌+◌, ◌==◌, Bool, true, false, not, List, [], ◌∷◌, ◌++◌, map, filter, length}
use Rattle.std.specs.Prelude.{slice_index_or, Some, None}
use Rattle.std.specs.List.{list_any, find}
use Rattle.std.specs.Option.{option_map_or}
use Rattle.geo_kernel.specs.declared.point.Point.{Point}
use Rattle.pcb_model.specs.declared.item.Kind.TheVariants as kind
use Rattle.pcb_model.specs.declared.item.Metal.{Metal}
use Rattle.pcb_model.specs.declared.item.Metal.TheVariants as metal
use Rattle.pcb_model.specs.declared.item.Item.{Item}
use Rattle.pcb_model.specs.declared.design.Design.{Design}
use Rattle.pcb_model.specs.Pieces.{item_of}
use Rattle.board_offers.specs.declared.offer.Shoved.{Shoved}
use Rattle.board_offers.specs.declared.offer.Offer.{Offer}

-- ---- ids
-- x is among the ids
abbrev pub names : List ℕ → ℕ → Bool
names ids x = list_any (λ y. y == x) ids

-- an item with the id x is among the items
abbrev pub is_on : ℕ → List Item → Bool
is_on x items = list_any (λ (a : Item). a.id == x) items

-- the items whose ids aren't named
abbrev pub without : List ℕ → List Item → List Item
without ids items = filter (λ (a : Item). not (names ids a.id)) items

-- an id's item is the one at its place among all that were ever given
abbrev pub no_item : Item
no_item = record { id = 0; net = None; fixed = true; kind = kind.Area; metal = metal.Ban false false; pieces = [] }

abbrev pub item_at : List Item → ℕ → Item
item_at given x = slice_index_or given x no_item

-- ---- new items
-- the routed items of the net that metals make, with ids from id on
abbrev pub added_from : Design → ℕ → ℕ → List Metal → List Item
added_from d net id [] = []
added_from d net id (m ∷ ms) = item_of d id (Some net) false m ∷ added_from d net (id + 1) ms

-- a wire with other points
abbrev pub with_chain : List Point → Metal → Metal
with_chain points (metal.Wire layer width chain) = metal.Wire layer width points
with_chain points m = m

-- the item with another chain and another id
abbrev pub reshaped : Design → ℕ → List Point → Item → Item
reshaped d id points a = item_of d id a.net false (with_chain points a.metal)

-- the replacements of shoved items, with ids from id on
abbrev pub replaced_from : Design → List Item → ℕ → List Shoved → List Item
replaced_from d given id [] = []
replaced_from d given id (s ∷ ss) = reshaped d id s.chain (item_at given s.id) ∷ replaced_from d given (id + 1) ss

-- the added items get the next ids, and behind them the replacements
abbrev pub added : Design → List Item → Offer → List Item
added d given o = added_from d o.net (length given) o.add

abbrev pub replaced : Design → List Item → Offer → List Item
replaced d given o = replaced_from d given (length given + length o.add) o.shoves

abbrev pub new_items : Design → List Item → Offer → List Item
new_items d given o = added d given o ++ replaced d given o

-- ---- what an offer takes out
abbrev pub shoved_ids : Offer → List ℕ
shoved_ids o = map (λ (s : Shoved). s.id) o.shoves

abbrev pub gone : Offer → List ℕ
gone o = o.rip ++ shoved_ids o

-- an item as it lies after the shoves
abbrev pub after_shoves : Design → List Shoved → Item → Item
after_shoves d shoves a =
    option_map_or (λ (s : Shoved). reshaped d a.id s.chain a) (find (λ (s : Shoved). s.id == a.id) shoves) a

-- the items with an offer: the ripped and the shoved go, the new ones come
abbrev pub joined_items : Design → List Item → List Item → Offer → List Item
joined_items d given items o = without (gone o) items ++ new_items d given o
