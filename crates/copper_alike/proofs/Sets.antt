-- Sets that shut an island in do so on copper that is the same.
use Rattle.std.proofs.Common.{◌≡◌, inl, inr, ℕ, List, [], ◌∷◌, sym, ◌∙◌, ap, subst, All, Any}
use Rattle.std.specs.Prelude.{slice_get, map}
use Rattle.std.proofs.lemmas.List.Elements.{All-head, All-tail}
use Rattle.std.proofs.lemmas.Option.{same_Some}
use Rattle.geo_kernel.proofs.Paths.{Any-here, Any-there, Any-cases, Any-nil}
use Rattle.pcb_model.specs.declared.item.Item.{Item}
use Rattle.pcb_model.specs.declared.design.Design.{Design}
use Rattle.pcb_model.specs.Pairs.{Agrees, AreTouching}
use Rattle.pcb_model.specs.Copper.{Ascends}
use Rattle.pcb_model.specs.Sound.{IsSound, Serves}
use Rattle.pcb_islands.specs.declared.net.Island.{Island}
use Rattle.pcb_islands.specs.Islands.{IsIsland, IsPadOf, HasIdJoined}
use Rattle.pcb_islands.proofs.Joined.{one_item}
use Rattle.pcb_islands.proofs.Classes.{pad_in, one_pad}
use Rattle.route_lattice.specs.Mesh.{Mesh}
use Rattle.route_lattice.specs.Ways.{way, way_count}
use Rattle.route_lattice.specs.Anchors.{Anchors, AnchorsAmong}
use Rattle.route_lattice.specs.Legal.{probe_at, disc_at, IsLegalProbe}
use Rattle.cut_certificate.specs.Border.{IsListed, IsBlock}
use Rattle.cut_certificate.specs.Cuts.{IsStart, IsGoal, IsCut, IsShutBy}
use Rattle.cut_certificate.specs.declared.cut.Cut.{Cut}
use Rattle.cut_certificate.proofs.Shutting.{shut_isnt_open}
use Rattle.copper_alike.specs.Twins.{ShowSame}
use Rattle.copper_alike.specs.Sets.{IsCutSet, NoneLeadsOut}
use Rattle.copper_alike.proofs.Twins.{twins_anchor}
use Rattle.copper_alike.proofs.Moves.{legal_alike, open_alike}
use Rattle.copper_alike.proofs.Joined.{HasEnd, ends_alike}
use Rattle.copper_alike.proofs.Classes.{pins_in}

module _ (touch_back : (a b : Item) → AreTouching a b → AreTouching b a)
    (agree_back : (d : Design) (a b : Item) → Agrees d a b → Agrees d b a) (d : Design) (m : Mesh) (net : ℕ)
    (sound : IsSound d) (pins : List ℕ) where
  -- islands with the same pins have the same pad
  same_pad : (xs ys : List Item) (s t : Island) (hs : IsIsland d xs net pins s) (ht : IsIsland d ys net pins t)
      → s.pins ≡ t.pins → hs.pad ≡ ht.pad
  same_pad xs ys s t hs ht e =
      let one : hs.first ≡ ht.first = same_Some hs.first ht.first
      (sym hs.first_is ∙ ap (λ (ps : List ℕ). slice_get ps 0) e ∙ ht.first_is) in
      one_pad d sound hs.first hs.pad ht.pad hs.pad_is (subst (λ (n : ℕ). IsPadOf d n ht.pad) (sym one) ht.pad_is)

  module _ (xs ys : List Item) (xs_rise : Ascends xs) (ys_serve : Serves ys d) (same : ShowSame xs ys) where
    -- what anchors one island's item anchors an item of the other
    anchors_alike : (s t : Island) → IsIsland d xs net pins s → IsIsland d ys net pins t → s.pins ≡ t.pins
        → (node : ℕ)
        → AnchorsAmong d m xs s.items node → AnchorsAmong d m ys t.items node
    anchors_alike s t hs ht e node a =
        let j : HasIdJoined xs hs.pad a.item.id = (hs.items_are.exact a.item.id).0 a.asked in
        let one : j.item ≡ a.item = one_item xs xs_rise j.item a.item j.there a.there j.id_is in
        let pad : hs.pad ≡ ht.pad = same_pad xs ys s t hs ht e in
        let end : HasEnd ys hs.pad j.item =
        ends_alike touch_back xs ys same.to hs.pad j.item (pad_in d ys ys_serve hs.first hs.pad hs.pad_is) j.joined in
        record {
          item = end.item;
          there = end.there;
          asked = (ht.items_are.exact end.item.id).1 (subst (λ (p : Item). HasIdJoined ys p end.item.id) pad (record {
            item = end.item;
            there = end.there;
            id_is = λ i. end.item.id;
            joined = end.joined;
          }));
          anchors = twins_anchor d m node j.item end.item end.twins
              (subst (Anchors d m node) (sym one) a.anchors);
        }

    -- so its starts are the other's
    pub starts_alike : (s t : Island) → IsIsland d xs net pins s → IsIsland d ys net pins t → s.pins ≡ t.pins
        → (node : ℕ) → IsStart d m xs s node → IsStart d m ys t node
    starts_alike s t hs ht e node h = record {
      there = h.there;
      anchors = anchors_alike s t hs ht e node h.anchors;
      legal = subst (λ (n : ℕ). IsLegalProbe d ys n (disc_at d m n node)) (hs.net_is ∙ sym ht.net_is)
          (legal_alike agree_back d s.net (disc_at d m s.net node) xs ys same.from h.legal);
    }

    -- and the goals of islands with the same pins are the same
    goals_alike : (ss ts : List Island) → All (IsIsland d xs net pins) ss → All (IsIsland d ys net pins) ts
        → map pins_in ss ≡ map pins_in ts → (node : ℕ) → Any (λ (o : Island). AnchorsAmong d m xs o.items node) ss
        → Any (λ (o : Island). AnchorsAmong d m ys o.items node) ts
    goals_alike [] ts hs ht e node h = absurd (Any-nil (λ (o : Island). AnchorsAmong d m xs o.items node) h)
    goals_alike (s ∷ ss) [] hs ht e node h = absurd (cc)
    goals_alike (s ∷ ss) (t ∷ ts) hs ht e node h =
        let first : s.pins ≡ t.pins = cc in
        let rest : map pins_in ss ≡ map pins_in ts = cc in
        elim (Any-cases (λ (o : Island). AnchorsAmong d m xs o.items node) s ss h) [
          | inl a ↦ Any-here (λ (o : Island). AnchorsAmong d m ys o.items node) t ts
              (anchors_alike s t (All-head (IsIsland d xs net pins) s ss hs)
              (All-head (IsIsland d ys net pins) t ts ht) first node a)
          | inr b ↦ Any-there (λ (o : Island). AnchorsAmong d m ys o.items node) t ts
              (goals_alike ss ts (All-tail (IsIsland d xs net pins) s ss hs)
              (All-tail (IsIsland d ys net pins) t ts ht) rest node b)
        ]

    pub all_goals_alike : (ss ts : List Island) → All (IsIsland d xs net pins) ss → All (IsIsland d ys net pins) ts
        → map pins_in ss ≡ map pins_in ts → (node : ℕ) → IsGoal d m xs ss node → IsGoal d m ys ts node
    all_goals_alike ss ts hs ht e node h =
        record { there = h.there; anchors = goals_alike ss ts hs ht e node h.anchors }

  -- ---- the set
  module _ (xs ys : List Item) (xs_rise : Ascends xs) (ys_rise : Ascends ys) (xs_serve : Serves xs d)
      (ys_serve : Serves ys d) (same : ShowSame xs ys) where
    pub set_alike : (s t : Island) (ss ts : List Island) → IsIsland d xs net pins s → IsIsland d ys net pins t
        → All (IsIsland d xs net pins) ss → All (IsIsland d ys net pins) ts → s.pins ≡ t.pins
        → map pins_in ss ≡ map pins_in ts → (nodes : List ℕ) → IsCutSet d m xs s ss nodes → IsCutSet d m ys t ts nodes
    set_alike s t ss ts hs ht hss hts e f nodes set = record {
      ascends = set.ascends;
      there = set.there;
      starts_in = λ node h. set.starts_in node
          (starts_alike ys xs ys_rise xs_serve back t s ht hs (sym e) node h);
      goals_out = λ node h. set.goals_out node
          (all_goals_alike ys xs ys_rise xs_serve back ts ss hts hss (sym f) node h);
      closed = subst (λ (n : ℕ). NoneLeadsOut d m ys n nodes)
          (hs.net_is ∙ sym ht.net_is) (record {
            each = λ node index c lt out is_open. set.closed.each node index c lt out
                (open_alike agree_back d s.net (probe_at d m s.net node index) ys xs same.to is_open);
          });
    }
      where
        back : ShowSame ys xs
        back = record { to = same.from; from = same.to }

-- ---- a cut's nodes are such a set
pub cut_set : (d : Design) (m : Mesh) (items : List Item) (island : Island) (others : List Island) (cut : Cut)
    → IsCut d m items island others cut → IsCutSet d m items island others cut.reach.nodes
cut_set d m items island others cut h = record {
  ascends = h.ascends;
  there = h.there;
  starts_in = h.starts_in;
  goals_out = h.goals_out;
  closed = record {
    each = λ node index c lt out is_open.
        let listed : IsListed cut.blocked node index = h.blocks.complete node index c lt out in
        let b : IsBlock (way d m island.net) (way_count d m island.net)
        (IsShutBy d m items island.net) cut.reach.nodes
        listed.1 =
        subst (IsBlock (way d m island.net) (way_count d m island.net)
        (IsShutBy d m items island.net) cut.reach.nodes)
        listed.3 (h.blocks.only listed.0 listed.1 listed.2) in
        shut_isnt_open d items island.net (probe_at d m island.net node index) listed.1.by
        (subst (λ (y : ℕ × ℕ). IsShutBy d m items island.net y.0 y.1 listed.1.by)
        (λ i. (listed.4.0 i, listed.4.1 i)) b.shut) is_open;
  };
}
