-- The widths of nets are whole in a unit that a design is on scale in, and all numbers are in units of 1 nm.
use Rattle.std.proofs.Common.{◌≡◌, ℕ, zero, suc, ◌==◌, Bool, true, List, [], ◌∷◌, ◌++◌, map, Option, Some, ap, sym, ◌∙◌}
use Rattle.std.specs.Prelude.{◌&&◌, slice_get}
use Rattle.std.specs.List.{list_all}
use Rattle.std.proofs.Math.Nat.{mod-one}
use Rattle.std.proofs.lemmas.Bool.{and_parts}
use Rattle.std.proofs.lemmas.Option.{none-some, same_Some}
use Rattle.pcb_model.specs.declared.item.Item.{Item}
use Rattle.pcb_model.specs.declared.design.Component.{Component}
use Rattle.pcb_model.specs.declared.design.FreeWire.{FreeWire}
use Rattle.pcb_model.specs.declared.design.Net.{Net}
use Rattle.pcb_model.specs.declared.design.RuleSet.{RuleSet}
use Rattle.pcb_model.specs.declared.design.Design.{Design}
use Rattle.pcb_model.specs.Rules.{first_present, width_for, with_class}
use Rattle.pcb_model.specs.Scale.{is_on_scale, is_whole, is_whole_metal, is_whole_net, is_whole_padstack, is_whole_point}
use Rattle.pcb_model.specs.Scale.{net_width}

-- in units of 1 nm each number is whole
pub one_whole : (n : ℕ) → is_whole 1 n ≡ true
one_whole n = ap (λ (r : ℕ). r == 0) (mod-one n)

-- what a test says of all elements it says of the one at a place
passes_at : {X : Type 0} (f : X → Bool) (xs : List X) (i : ℕ) (x : X) → list_all f xs ≡ true
    → slice_get xs i ≡ Some x → f x ≡ true
passes_at f [] i x h e = absurd (none-some x e)
passes_at f (y ∷ ys) zero x h e = ap f (sym (same_Some y x e)) ∙ (and_parts (f y) (list_all f ys) h).0
passes_at f (y ∷ ys) (suc i) x h e = passes_at f ys i x (and_parts (f y) (list_all f ys) h).1 e

-- the width of the net at a number
pub width_whole : (d : Design) (nm net : ℕ) (n : Net) → list_all (is_whole_net d nm) d.nets ≡ true
    → slice_get d.nets net ≡ Some n → is_whole nm (width_for d net) ≡ true
width_whole d nm net n h e =
    let whole = passes_at (is_whole_net d nm) d.nets net n h e in
    ap (λ (o : Option Net). is_whole nm (first_present 250000
    (map (λ (rs : RuleSet). rs.width) (with_class d o ++ d.rules ∷ [])))) e
    ∙ (and_parts (is_whole nm (net_width d n)) (list_all (is_whole_padstack d nm) n.vias) whole).0

-- a design that is on scale has nets that are
pub nets_whole : (d : Design) (nm : ℕ) → is_on_scale d nm ≡ true → list_all (is_whole_net d nm) d.nets ≡ true
nets_whole d nm h =
    let places = list_all (λ (c : Component). is_whole_point nm c.at) d.components in
    let nets = list_all (is_whole_net d nm) d.nets in
    let fixed = list_all (λ (a : Item). is_whole_metal d nm a.metal) d.fixed in
    let free = list_all (λ (w : FreeWire). is_whole_metal d nm w.metal) d.free in
    let all = and_parts (places && nets && fixed) free h in
    let more = and_parts (places && nets) fixed all.0 in
    (and_parts places nets more.0).1
