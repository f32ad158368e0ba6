-- Nets: their pins, each of which one net alone may name, and their rules.
use Rattle.std.specs.Prelude.{◌==◌, ◌&&◌, ◌+◌, ℕ, Bool, false, List, [], ◌∷◌, ◌++◌, Option, is_some, codes}
use Rattle.std.specs.Prelude.{map, fold, slice_get, if◌then◌else◌}
use Rattle.std.specs.List.{flat_map, list_any, position_from}
use Rattle.std.specs.Option.{option_map_or}
use Rattle.dsn_tree.specs.declared.tree.Tree.{Tree}
use Rattle.dsn_shapes.specs.declared.refusal.Refusal.{Refusal}
use Rattle.dsn_shapes.specs.declared.refusal.What.TheVariants.{Nets}
use Rattle.dsn_shapes.specs.declared.parts.Library.{Library}
use Rattle.dsn_shapes.specs.declared.parts.Place.{Place}
use Rattle.dsn_shapes.specs.declared.parts.Placing.{Placing}
use Rattle.dsn_shapes.specs.declared.parts.PinRef.{PinRef}
use Rattle.dsn_shapes.specs.declared.parts.ReadNet.{ReadNet}
use Rattle.dsn_shapes.specs.declared.parts.Split.{Split}
use Rattle.dsn_shapes.specs.declared.parts.Split.TheVariants.{Unknown, One, Many}
use Rattle.dsn_shapes.specs.Refusals.{refused}
use Rattle.dsn_shapes.specs.Limits.{too_many}
use Rattle.dsn_shapes.specs.Lists.{at_of, text_of, lists, name_of, quoted_name}
use Rattle.dsn_shapes.specs.Names.{is_at, same_names}
use Rattle.dsn_shapes.specs.Rules.{rule_set, rule_refusals}
use Rattle.dsn_network.specs.Words.{words_in, rules_in}
use Rattle.dsn_network.specs.Splits.{split_of}
use Rattle.dsn_network.specs.Classes.{class_of}
use Rattle.dsn_shapes.specs.declared.table.TheConstants.{NO_PIN, TAKEN_PIN, TWO_PINS, UNPLACED_PIN}

-- ---- references of pins
-- the references of a net such as `(net GND (pins R1-1 R2-2))`
abbrev pub refs_of : Tree → List Tree
refs_of t = words_in 1 (lists (codes "pins" ∷ []) (t ∷ []))

-- the component of a pin has coordinates
abbrev pub is_placed : Placing → PinRef → Bool
is_placed placing p = option_map_or (λ (place : Place). is_some place.at) (slice_get placing.places p.place) false

abbrev pub split_refusals : Placing → ℕ → Split → List Refusal
split_refusals placing at Unknown = refused NO_PIN at ∷ []
split_refusals placing at (One p) = if is_placed placing p then [] else refused UNPLACED_PIN at ∷ []
split_refusals placing at Many = refused TWO_PINS at ∷ []

unfoldable pub ref_refusals : Library → Placing → Tree → List Refusal
ref_refusals lib placing w = split_refusals placing (at_of w) (split_of lib placing (text_of w))

abbrev pub split_pins : Split → List PinRef
split_pins Unknown = []
split_pins (One p) = p ∷ []
split_pins Many = []

unfoldable pub ref_pins : Library → Placing → Tree → List PinRef
ref_pins lib placing w = split_pins (split_of lib placing (text_of w))

-- ---- the pins of a net
abbrev pub is_pin : PinRef → PinRef → Bool
is_pin p q = p.place == q.place && p.pin == q.pin

abbrev pub has_pin : PinRef → List PinRef → Bool
has_pin p ps = list_any (is_pin p) ps

abbrev pub with_pin : List PinRef → PinRef → List PinRef
with_pin ps p = if has_pin p ps then ps else ps ++ p ∷ []

-- each of these pins once, where it first stands
unfoldable pub each_once : List PinRef → List PinRef
each_once ps = fold with_pin [] ps

-- a pin that a net names twice counts once
unfoldable pub net_pins : Library → Placing → Tree → List PinRef
net_pins lib placing t = each_once (flat_map (ref_pins lib placing) (refs_of t))

-- ---- pins of two nets
-- the first of these nets, each with its pins, that has the pin
unfoldable pub first_net : PinRef → List (List PinRef) → Option ℕ
first_net p nets = position_from (has_pin p) 0 nets

-- net k names a pin that is an earlier net's
abbrev pub split_taken : List (List PinRef) → ℕ → ℕ → Split → List Refusal
split_taken nets k at Unknown = []
split_taken nets k at (One p) = if is_at k (first_net p nets) then [] else refused TAKEN_PIN at ∷ []
split_taken nets k at Many = []

unfoldable pub ref_taken : Library → Placing → List (List PinRef) → ℕ → Tree → List Refusal
ref_taken lib placing nets k w = split_taken nets k (at_of w) (split_of lib placing (text_of w))

-- of these nets, the first of which is number k of all
abbrev pub taken_from : Library → Placing → List (List PinRef) → ℕ → List Tree → List Refusal
taken_from lib placing nets k [] = []
taken_from lib placing nets k (t ∷ ts) =
    flat_map (ref_taken lib placing nets k) (refs_of t) ++ taken_from lib placing nets (k + 1) ts

-- the references by which a second net names a pin
unfoldable pub pins_taken : Library → Placing → List Tree → List Refusal
pins_taken lib placing ts = taken_from lib placing (map (net_pins lib placing) ts) 0 ts

-- ---- the whole
-- a net, where the design has these class lists
unfoldable pub net_of : ℕ → Library → Placing → List Tree → Tree → ReadNet
net_of nm lib placing classes t =
    record {
      name = name_of t 1;
      pins = net_pins lib placing t;
      rules = rule_set nm (rules_in (t ∷ []));
      class = class_of (name_of t 1) classes;
    }

unfoldable pub net_refusals : ℕ → Library → Placing → Tree → List Refusal
net_refusals nm lib placing t =
    quoted_name t 1 ++ (flat_map (ref_refusals lib placing) (refs_of t) ++ rule_refusals nm (rules_in (t ∷ [])))

-- nets that are together the design's
unfoldable pub nets_refusals : ℕ → Library → Placing → List Tree → List Refusal
nets_refusals nm lib placing ts =
    same_names 1 ts
    ++ (too_many Nets 0 ts
    ++ (flat_map (net_refusals nm lib placing) ts ++ pins_taken lib placing ts))
