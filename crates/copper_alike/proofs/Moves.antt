-- The moves are the same on copper that is the same.
use Rattle.std.proofs.Common.{ℕ, List, Option, Some, None, refl}
use Rattle.std.specs.Prelude.{Contains}
use Rattle.pcb_model.specs.declared.item.Item.{Item}
use Rattle.pcb_model.specs.declared.item.Probe.{Probe}
use Rattle.pcb_model.specs.declared.design.Design.{Design}
use Rattle.pcb_model.specs.Pieces.{probe_item}
use Rattle.pcb_model.specs.Pairs.{Agrees, ProbeAgrees}
use Rattle.route_lattice.specs.Mesh.{Mesh}
use Rattle.route_lattice.specs.Legal.{IsLegalProbe, IsOpen, probe_at, legal_graph}
use Rattle.cut_certificate.specs.Same.{SameMoves}
use Rattle.copper_alike.specs.Twins.{HasTwin, ShowSame}
use Rattle.copper_alike.proofs.Twins.{twins_agree, twins_back}

module _ (agree_back : (d : Design) (a b : Item) → Agrees d a b → Agrees d b a) (d : Design) where
  probe_alike : (net : ℕ) (p : Probe) (xs ys : List Item) → ((b : Item) → Contains ys b → HasTwin xs b)
      → ((b : Item) → Contains xs b → ProbeAgrees d net p b) → (b : Item) → Contains ys b → ProbeAgrees d net p b
  probe_alike net p xs ys from agrees b there =
      let t = from b there in
      agree_back d b (probe_item d net p)
      (twins_agree d t.item b (probe_item d net p) (twins_back b t.item t.twins)
      (agree_back d (probe_item d net p) t.item (agrees t.item t.there)))

  pub legal_alike : (net : ℕ) (p : Probe) (xs ys : List Item) → ((b : Item) → Contains ys b → HasTwin xs b)
      → IsLegalProbe d xs net p → IsLegalProbe d ys net p
  legal_alike net p xs ys from h =
      record { agrees = probe_alike net p xs ys from h.agrees; inside = h.inside }

  pub open_alike : (net : ℕ) (o : Option Probe) (xs ys : List Item) → ((b : Item) → Contains ys b → HasTwin xs b)
      → IsOpen d xs net o → IsOpen d ys net o
  open_alike net None xs ys from h = h
  open_alike net (Some p) xs ys from h = legal_alike net p xs ys from h

  pub same_moves : (m : Mesh) (net via_cost : ℕ) (xs ys : List Item) → ShowSame xs ys
      → SameMoves (legal_graph d m xs net via_cost) (legal_graph d m ys net via_cost)
  same_moves m net via_cost xs ys same = record {
    count = refl;
    arity = refl;
    leads = λ node i. refl;
    opens = λ node i. (
      open_alike net (probe_at d m net node i) xs ys same.from,
      open_alike net (probe_at d m net node i) ys xs same.to,
    );
    costs = λ node i price. (λ h. h, λ h. h);
  }
