-- Whatever id a wire has that was moved aside, the moves beside it are the same, and so is a stated walk.
use Rattle.std.proofs.Common.{ℕ, List, [], ◌∷◌, Option, Some, None, refl, sym, ◌∙◌, subst, inl, inr}
use Rattle.std.proofs.Common.{◌<◌}
use Rattle.std.proofs.lemmas.List.Elements.{Contains-append_left, Contains-push, Contains-push_cases}
use Rattle.geo_kernel.specs.declared.point.Point.{Point}
use Rattle.pcb_model.specs.declared.item.Item.{Item}
use Rattle.pcb_model.specs.declared.item.Probe.{Probe}
use Rattle.pcb_model.specs.declared.design.Design.{Design}
use Rattle.pcb_model.specs.Pairs.{ProbeAgrees}
use Rattle.pcb_model.specs.Pieces.{probe_item}
use Rattle.board_offers.specs.Items.{reshaped, with_chain}
use Rattle.least_offer.proofs.Replacing.{right_id}
use Rattle.route_lattice.specs.Mesh.{Mesh}
use Rattle.route_lattice.specs.Legal.{IsLegalProbe, IsOpen, disc_at, probe_at, legal_graph}
use Rattle.route_lattice.specs.Walks.{MoveGraph, Hop, Opens, Leads}
use Rattle.cut_certificate.specs.Same.{SameMoves}
use Rattle.closing_pass.specs.Ids.{beside, IdsChangeNothing, StatedAlike}

probe_moved : (d : Design) (net : ℕ) (xs : List Item) (a : Item) (chain : List Point) (i k : ℕ) (p : Probe)
    → IsLegalProbe d (beside d xs a chain i) net p → IsLegalProbe d (beside d xs a chain k) net p
probe_moved d net xs a chain i k p l = record {
  agrees = λ b h. elim (Contains-push_cases xs (reshaped d k chain a) b h) [
    | inl c ↦ l.agrees b (Contains-append_left xs (reshaped d i chain a ∷ []) b c)
    | inr e ↦ subst (ProbeAgrees d net p) e
        (right_id d (probe_item d net p) i k a.net (with_chain chain a.metal)
        (l.agrees (reshaped d i chain a) (Contains-push xs (reshaped d i chain a))))
  ];
  inside = l.inside;
}

open_moved : (d : Design) (net : ℕ) (xs : List Item) (a : Item) (chain : List Point) (i k : ℕ) (o : Option Probe)
    → IsOpen d (beside d xs a chain i) net o → IsOpen d (beside d xs a chain k) net o
open_moved d net xs a chain i k None h = h
open_moved d net xs a chain i k (Some p) h = probe_moved d net xs a chain i k p h

pub ids_change_nothing : IdsChangeNothing
ids_change_nothing d m net via_cost xs a chain i k = (
  record {
    count = refl;
    arity = refl;
    leads = λ node j. refl;
    opens = λ node j. (
      open_moved d net xs a chain i k (probe_at d m net node j),
      open_moved d net xs a chain k i (probe_at d m net node j),
    );
    costs = λ node j price. (λ h. h, λ h. h);
  },
  λ node. probe_moved d net xs a chain i k (disc_at d m net node),
)

-- ---- walks over the same moves
hop_alike : (g h : MoveGraph) → SameMoves g h → (node : ℕ) (hop : Hop) → Opens g node hop → Opens h node hop
hop_alike g h same node hop o = record {
  listed = subst (λ (n : ℕ). hop.index < n) same.arity o.listed;
  leads = sym (same.leads node hop.index) ∙ o.leads;
  is_open = (same.opens node hop.index).0 o.is_open;
  costs = (same.costs node hop.index hop.price).0 o.costs;
}

leads_alike : (g h : MoveGraph) → SameMoves g h → (hs : List Hop) (a b : ℕ) → Leads g a hs b → Leads h a hs b
leads_alike g h same [] a b p = p
leads_alike g h same (k ∷ hs) a b p = (hop_alike g h same a k p.0, leads_alike g h same hs k.to b p.1)

turned : (g h : MoveGraph) → SameMoves g h → SameMoves h g
turned g h same = record {
  count = sym same.count;
  arity = sym same.arity;
  leads = λ node i. sym (same.leads node i);
  opens = λ node i. ((same.opens node i).1, (same.opens node i).0);
  costs = λ node i p. ((same.costs node i p).1, (same.costs node i p).0);
}

pub stated_alike : (g h : MoveGraph) → SameMoves g h → StatedAlike g h
stated_alike g h same starts goals w s = record {
  walk = record {
    from = s.walk.from;
    hops = s.walk.hops;
    to = s.walk.to;
    starts_in = s.walk.starts_in;
    ends_in = s.walk.ends_in;
    leads = leads_alike g h same s.walk.hops s.walk.from s.walk.to s.walk.leads;
    nodes = s.walk.nodes;
    moves = s.walk.moves;
    price = s.walk.price;
  };
  first = λ b ks c cb cg leads. s.first b ks c cb cg (leads_alike h g (turned g h same) ks b c leads);
  small = s.small;
}

pub stated_beside : (d : Design) (m : Mesh) (net via_cost : ℕ) (xs : List Item) (a : Item) (chain : List Point)
    (i k : ℕ)
    → StatedAlike (legal_graph d m (beside d xs a chain i) net via_cost)
    (legal_graph d m (beside d xs a chain k) net via_cost)
stated_beside d m net via_cost xs a chain i k = stated_alike (legal_graph d m (beside d xs a chain i) net via_cost)
    (legal_graph d m (beside d xs a chain k) net via_cost) (ids_change_nothing d m net via_cost xs a chain i k).0
