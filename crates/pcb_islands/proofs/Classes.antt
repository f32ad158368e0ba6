-- Pads of a sound design, and what joins them.
use Rattle.std.proofs.Common.{◌≡◌, ℕ, ◌<◌, List, length, get_or, sym, ◌∙◌, ap, subst}
use Rattle.std.specs.Prelude.{Contains}
use Rattle.pcb_model.specs.declared.item.Item.{Item}
use Rattle.pcb_model.specs.declared.item.Metal.{Metal}
use Rattle.pcb_model.specs.declared.design.Design.{Design}
use Rattle.pcb_model.specs.Board.{AreJoined, is_fixed}
use Rattle.pcb_model.specs.Sound.{IsSound, IsFixedSound, Serves, IsMetalInRange}
use Rattle.pcb_islands.specs.Islands.{IsPadOf, HasPadJoined}
use Rattle.pcb_islands.proofs.Elements.{look_at, in_filter}
use Rattle.pcb_islands.proofs.Joined.{read_at, TouchesBack, joined_on, joined_back}
use Rattle.pcb_islands.proofs.Pads.{one_pad_of}

-- a pad is among the items
pub pad_in : (d : Design) (items : List Item) → Serves items d → (pin : ℕ) (a : Item) → IsPadOf d pin a
    → Contains items a
pad_in d items serves pin a p =
    in_filter is_fixed items a (subst (λ (fs : List Item). Contains fs a) (sym serves.fixed_there) p.there)

fixed_at : (d : Design) → IsSound d → (a : Item) (h : Contains d.fixed a) → IsFixedSound d h.0 a
fixed_at d sound a h = sound.fixed h.0 a (look_at d.fixed a h)

-- a pin has one pad
pub one_pad : (d : Design) → IsSound d → (pin : ℕ) (a b : Item) → IsPadOf d pin a → IsPadOf d pin b → a ≡ b
one_pad d sound pin a b p q =
    let a_fixed = fixed_at d sound a p.there in
    let b_fixed = fixed_at d sound b q.there in
    let within : pin < length d.pins = subst (λ (m : Metal). IsMetalInRange d m) p.is_pad a_fixed.item.metal_in_range in
    let one = (one_pad_of d sound pin within).2 in
    let same_id : a.id ≡ b.id = one.only a p.there p.is_pad ∙ sym (one.only b q.there q.is_pad) in
    let same : p.there.0 ≡ q.there.0 = sym a_fixed.numbered ∙ same_id ∙ b_fixed.numbered in
    sym (read_at d.fixed a p.there b) ∙ ap (λ (k : ℕ). get_or d.fixed k b) same ∙ q.there.2

-- what is joined to a pin's pad, by the pad at hand
pub to_pad : (d : Design) (items : List Item) → IsSound d → (a : Item) (pin : ℕ) (pad : Item) → IsPadOf d pin pad
    → HasPadJoined d items a pin → AreJoined items a pad
to_pad d items sound a pin pad p h = subst (AreJoined items a) (one_pad d sound pin h.pad pad h.pad_is p) h.joined

-- two items that are joined to one pad are joined
pub by_pad : (d : Design) (items : List Item) → IsSound d → Serves items d → TouchesBack → (a b : Item) (pin : ℕ)
    → Contains items b → HasPadJoined d items a pin → HasPadJoined d items b pin → AreJoined items a b
by_pad d items sound serves back a b pin b_there h k =
    joined_on items a h.pad b h.joined
    (joined_back back items b h.pad b_there (to_pad d items sound b pin h.pad h.pad_is k))
