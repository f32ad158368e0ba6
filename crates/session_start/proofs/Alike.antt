-- With other free wiring a design has the same rules and the same pieces, so what is legal for it stays so.
use Rattle.std.proofs.Common.{◌≡◌, ℕ, ◌≤◌, Bool, false, ◌++◌, ◌∷◌, [], List, Option, Some, None, flat_map, map, max}
use Rattle.std.proofs.Common.{refl, sym, ap, ◌∙◌, subst}
use Rattle.std.specs.Prelude.{slice_get}
use Rattle.std.proofs.lemmas.List.Elements.{All-weaker}
use Rattle.pcb_model.specs.declared.item.Kind.{Kind}
use Rattle.pcb_model.specs.declared.item.Metal.{Metal}
use Rattle.pcb_model.specs.declared.item.Metal.TheVariants.{Wire, Via, Pad, Ban}
use Rattle.pcb_model.specs.declared.item.Item.{Item}
use Rattle.pcb_model.specs.declared.item.Piece.{Piece}
use Rattle.pcb_model.specs.declared.design.Net.{Net}
use Rattle.pcb_model.specs.declared.design.RuleSet.{RuleSet}
use Rattle.pcb_model.specs.declared.design.FreeWire.{FreeWire}
use Rattle.pcb_model.specs.declared.design.Design.{Design}
use Rattle.pcb_model.specs.Pieces.{pieces_of, kind_of, item_of}
use Rattle.pcb_model.specs.Rules.{class_rules, with_class, net_rules, class_of, pairs_of, joint_rules, levels}
use Rattle.pcb_model.specs.Rules.{first_present, value_to, clearance_of, width_for}
use Rattle.pcb_model.specs.Pairs.{Agrees, PiecesKeep}
use Rattle.pcb_model.specs.Board.{IsLegal, IsRouted, IsLaid, IsMade, IsMetalLaid}
use Rattle.session_start.specs.Starting.{with_free}

module _ (d : Design) (wires : List FreeWire) where
  abbrev e : Design
  e = with_free d wires

  -- ---- rules
  same_class : (c : Option ℕ) → class_rules e c ≡ class_rules d c
  same_class None = refl
  same_class (Some c) = refl

  same_with : (n : Option Net) → with_class e n ≡ with_class d n
  same_with None = refl
  same_with (Some n) = ap (λ (rs : List RuleSet). n.rules ∷ rs) (same_class n.class)

  same_rules : (net : Option ℕ) → net_rules e net ≡ net_rules d net
  same_rules None = refl
  same_rules (Some i) = same_with (slice_get d.nets i)

  same_class_of : (net : Option ℕ) → class_of e net ≡ class_of d net
  same_class_of None = refl
  same_class_of (Some i) = refl

  same_pairs : (a b : Option ℕ) → pairs_of e a b ≡ pairs_of d a b
  same_pairs None b = refl
  same_pairs (Some a) None = refl
  same_pairs (Some a) (Some b) = refl

  same_value : (net other : Option ℕ) (ka kb : Kind) → value_to e net other ka kb ≡ value_to d net other ka kb
  same_value net other ka kb =
      let pairs : pairs_of e (class_of e net) (class_of e other) ≡ pairs_of d (class_of d net) (class_of d other) =
      same_pairs (class_of e net) (class_of e other)
      ∙ (λ i. pairs_of d (same_class_of net i) (same_class_of other i)) in
      λ i. first_present 0 (flat_map (levels ka kb) (joint_rules (pairs i) ∷ (same_rules net i ++ d.rules ∷ [])))

  same_clearance : (a : Option ℕ) (ka : Kind) (b : Option ℕ) (kb : Kind)
      → clearance_of e a ka b kb ≡ clearance_of d a ka b kb
  same_clearance a ka b kb = λ i. max (same_value a b ka kb i) (same_value b a ka kb i)

  pub same_width : (net : ℕ) → width_for e net ≡ width_for d net
  same_width net = ap (λ (rs : List RuleSet).
      first_present 250000 (map (λ (s : RuleSet). s.width) (rs ++ d.rules ∷ [])))
      (same_with (slice_get d.nets net))

  -- ---- items
  pub same_pieces : (m : Metal) → pieces_of e m ≡ pieces_of d m
  same_pieces (Wire layer width chain) = refl
  same_pieces (Via padstack at) = refl
  same_pieces (Pad pin) = refl
  same_pieces (Ban a b) = refl

  pub same_item : (id : ℕ) (net : Option ℕ) (fixed : Bool) (m : Metal)
      → item_of e id net fixed m ≡ item_of d id net fixed m
  same_item id net fixed m = ap (λ (ps : List Piece).
      record { id = id; net = net; fixed = fixed; kind = kind_of m; metal = m; pieces = ps }) (same_pieces m)

  pub agree_too : (a b : Item) → Agrees d a b → Agrees e a b
  agree_too a b h = record {
    keep = λ must. subst (λ (c : ℕ). PiecesKeep c a.pieces b.pieces) (sym (same_clearance a.net a.kind b.net b.kind))
        (h.keep must);
    stay_off = h.stay_off;
  }

  laid_too : (net : Option ℕ) (m : Metal) → IsMetalLaid d net m → IsMetalLaid e net m
  laid_too None (Wire layer width chain) h = h
  laid_too (Some n) (Wire layer width chain) h = (h.0, subst (λ (w : ℕ). w ≤ width) (sym (same_width n)) h.1)
  laid_too None (Via padstack at) h = h
  laid_too (Some n) (Via padstack at) h = h
  laid_too net (Pad pin) h = h
  laid_too net (Ban a b) h = h

  made_too : (a : Item) → IsMade d a → IsMade e a
  made_too a h = record {
    net = h.net;
    net_there = h.net_there;
    made = h.made ∙ sym (same_item a.id (Some h.net) false a.metal);
  }

  pub legal_too : (items : List Item) → IsLegal d items → IsLegal e items
  legal_too items h = record {
    agree = λ i k x before within r. agree_too _ _ (h.agree i k x before within r);
    inside = h.inside;
    laid = All-weaker (λ (a : Item). IsRouted a → IsLaid d a) (λ (a : Item). IsRouted a → IsLaid e a)
        (λ a f r. laid_too a.net a.metal (f r)) items h.laid;
    made = All-weaker (λ (a : Item). IsRouted a → IsMade d a) (λ (a : Item). IsRouted a → IsMade e a)
        (λ a f r. made_too a (f r)) items h.made;
    fixed_stay = h.fixed_stay;
  }
