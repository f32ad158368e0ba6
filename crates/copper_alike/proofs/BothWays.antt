-- A step that is legal is legal the other way.
use Rattle.std.proofs.Common.{inr, ℕ, ◌<◌, List, [], ◌∷◌, refl, sym, subst, get_or, length}
use Rattle.std.specs.Prelude.{Contains}
use Rattle.std.proofs.lemmas.List.Elements.{All-nil, All-cons, All-head}
use Rattle.geo_kernel.specs.declared.point.Point.{Point}
use Rattle.pcb_model.specs.declared.item.Item.{Item}
use Rattle.pcb_model.specs.declared.item.Probe.TheVariants.{Step}
use Rattle.pcb_model.specs.declared.design.Design.{Design}
use Rattle.pcb_model.specs.Pieces.{probe_item, wire_piece}
use Rattle.pcb_model.specs.Board.{BeginsInEach, is_fixed}
use Rattle.pcb_model.specs.Sound.{Serves}
use Rattle.pcb_islands.proofs.Elements.{in_filter}
use Rattle.route_lattice.specs.Legal.{IsLegalProbe}
use Rattle.turned_chain.proofs.Turned.{turned_inside}
use Rattle.copper_alike.specs.Twins.{AreTwins, HasEdges}
use Rattle.copper_alike.proofs.Twins.{twins_agree}
use Rattle.copper_alike.proofs.Legal.{keeps_edge}

module _ (d : Design) (items : List Item) (serve : Serves items d) (edges : HasEdges d) (net layer width : ℕ)
    (there : layer < length d.layers) (a b : Point) where
  abbrev out : Item
  out = probe_item d net (Step layer width a b)

  abbrev back : Item
  back = probe_item d net (Step layer width b a)

  turned : AreTwins out back
  turned = record {
    net_is = refl;
    kind_is = refl;
    copper = inr (record {
      layer = layer;
      width = width;
      chain = a ∷ b ∷ [];
      a_metal = refl;
      b_metal = refl;
      a_pieces = refl;
      b_pieces = refl;
    });
  }

  pub other_way : IsLegalProbe d items net (Step layer width a b) → IsLegalProbe d items net (Step layer width b a)
  other_way h = record {
    agrees = λ x k. twins_agree d out back x turned (h.agrees x k);
    inside = record {
      each = All-cons (BeginsInEach d.bounds) (wire_piece layer width (b ∷ a ∷ [])) [] (record {
        each = λ i x lt.
            let e = edges.each i x lt in
            let e_in : Contains items e.0 =
            in_filter is_fixed items e.0 (subst (λ (fs : List Item). Contains fs e.0) (sym serve.fixed_there) e.1) in
            turned_inside (a ∷ b ∷ []) (get_or d.bounds i x)
            (keeps_edge d (length d.layers) (get_or d.bounds i x) e.0 out layer width (a ∷ b ∷ []) e.2
            (h.agrees e.0 e_in)
            there net refl refl refl)
            ((All-head (BeginsInEach d.bounds) (wire_piece layer width (a ∷ b ∷ [])) [] h.inside.each).each i x lt);
      }) (All-nil (BeginsInEach d.bounds));
    };
  }
