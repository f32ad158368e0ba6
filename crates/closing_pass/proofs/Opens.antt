-- Where no legal walk leads on without an item, none leads on with it moved aside either.
use Rattle.std.proofs.Common.{◌≡◌, ◌≢◌, ℕ, List, [], ◌∷◌, map, Option, Some, None, refl, sym, ap, ◌∙◌, subst}
use Rattle.std.specs.Prelude.{Contains}
use Rattle.std.proofs.lemmas.List.Elements.{Contains-append_left}
use Rattle.pcb_model.specs.declared.item.Item.{Item}
use Rattle.pcb_model.specs.declared.design.Design.{Design}
use Rattle.pcb_model.specs.Copper.{Ascends}
use Rattle.pcb_islands.specs.declared.net.Island.{Island}
use Rattle.pcb_islands.proofs.Joined.{one_item}
use Rattle.route_lattice.specs.Mesh.{Mesh, node_count}
use Rattle.route_lattice.specs.Anchors.{AnchorsAmong}
use Rattle.route_lattice.specs.Legal.{IsLegalNode, disc_at, legal_graph, probe_at}
use Rattle.route_lattice.specs.Walks.{Hop, IsLeastWalk, Leads, NoneLeads, cost, move_of, to_of}
use Rattle.route_lattice.specs.declared.moves.Walk.{Walk}
use Rattle.cut_certificate.specs.Cuts.{AreGoals, AreStarts, IsGoal, IsStart, LeadsOn}
use Rattle.board_offers.specs.declared.offer.Offer.{Offer}
use Rattle.board_offers.specs.Items.{gone, replaced, without}
use Rattle.pcb_board.specs.Boards.{BoardOf, given}
use Rattle.least_offer.specs.Least.{JoinsLeast, cleared, judged_on, walks_of}
use Rattle.route_plan.specs.Routes.{IsLed}
use Rattle.route_plan.specs.Searches.{NetSearchOf}
use Rattle.route_lattice.specs.Ground.{ground_of}
use Rattle.closing_pass.proofs.Anchored.{AreOfNet}
use Rattle.closing_pass.proofs.Closings.{some_same}
use Rattle.closing_pass.proofs.Gate.{stays}
use Rattle.closing_pass.proofs.Past.{Holds, open_among, probe_among}
use Rattle.closing_pass.proofs.Sure.{sure_list}

-- ---- less copper, more moves
pub leads_among : (d : Design) (m : Mesh) (net via_cost : ℕ) (xs ys : List Item) → Holds xs ys → (a b : ℕ)
    (hops : List Hop) → Leads (legal_graph d m xs net via_cost) a hops b
    → Leads (legal_graph d m ys net via_cost) a hops b
leads_among d m net via_cost xs ys over a b [] leads = leads
leads_among d m net via_cost xs ys over a b (h ∷ hops) leads = (
  record {
    listed = leads.0.listed;
    leads = leads.0.leads;
    is_open = open_among d m net xs ys over (probe_at d m net a h.index) leads.0.is_open;
    costs = leads.0.costs;
  },
  leads_among d m net via_cost xs ys over h.to b hops leads.1,
)

-- ---- a search finds what leads on
abbrev pub search_of : Design → Mesh → ℕ → List Item → Island → List Island → NetSearchOf
search_of d m via_cost items island others = record {
  on = ground_of d m items;
  island = island;
  others = others;
  via_cost = via_cost;
  penalty = None;
}

-- that the starts and the goals have lists isn't denied
pub sure_starts : (d : Design) (m : Mesh) (items : List Item) (island : Island)
    → ((starts : List ℕ) → AreStarts d m items island starts → ⊥) → ⊥
sure_starts d m items island none = sure_list (IsStart d m items island) (node_count m) (λ starts are.
    none starts (record { exact = λ k. (λ h. ((are.exact k).0 h).1, λ s. (are.exact k).1 (s.there, s)) }))

pub sure_goals : (d : Design) (m : Mesh) (items : List Item) (others : List Island)
    → ((goals : List ℕ) → AreGoals d m items others goals → ⊥) → ⊥
sure_goals d m items others none = sure_list (IsGoal d m items others) (node_count m) (λ goals are.
    none goals (record { exact = λ k. (λ h. ((are.exact k).0 h).1, λ s. (are.exact k).1 (s.there, s)) }))

-- where no legal walk leads on, none leads from a start to a goal
pub none_between : (d : Design) (m : Mesh) (items : List Item) (via_cost : ℕ) (island : Island) (others : List Island)
    (starts goals : List ℕ) → AreStarts d m items island starts → AreGoals d m items others goals
    → ¬ (LeadsOn d m items via_cost island others)
    → NoneLeads (legal_graph d m items island.net via_cost) starts goals
none_between d m items via_cost island others starts goals starts_are goals_are none s hs g cs cg p = none (record {
  from = s;
  hops = hs;
  to = g;
  starts = (starts_are.exact s).0 cs;
  ends = (goals_are.exact g).0 cg;
  leads = p;
})

pub leads_found : (d : Design) (m : Mesh) (via_cost : ℕ) (items : List Item) (island : Island) (others : List Island)
    → ¬ (IsLed (search_of d m via_cost items island others)) → ¬ (LeadsOn d m items via_cost island others)
leads_found d m via_cost items island others none on =
    sure_starts d m items island (λ starts starts_are.
    sure_goals d m items others (λ goals goals_are.
    let walk : Walk =
    record { nodes = on.from ∷ map to_of on.hops; moves = map move_of on.hops; price = cost on.hops } in
    none (
      walk,
      record {
        starts = starts;
        starts_are = starts_are;
        goals = goals;
        goals_are = goals_are;
        walk = record {
          from = on.from;
          hops = on.hops;
          to = on.to;
          starts_in = (starts_are.exact on.from).1 on.starts;
          ends_in = (goals_are.exact on.to).1 on.ends;
          leads = on.leads;
          nodes = refl;
          moves = refl;
          price = refl;
        };
      },
    )))

-- ---- an offer that takes out or moves aside one item of another net
module _ (m : Mesh) (via_cost : ℕ) (b : BoardOf) (o : Offer) (x : Item) (n : ℕ) (island : Island)
    (others : List Island) (up : Ascends b.items) (there : Contains b.items x) (net_is : x.net ≡ Some n)
    (apart : n ≢ island.net) (gone_is : gone o ≡ x.id ∷ []) (of_island : o.net ≡ island.net)
    (none : o.penalty ≡ None) (own : AreOfNet b.items island.items island.net)
    (others_own : (i : Island) → Contains others i → AreOfNet b.items i.items island.net) where
  abbrev rest : List Item
  rest = without (x.id ∷ []) b.items

  among : Holds (cleared b o) rest
  among a h = Contains-append_left (without (gone o) b.items) (replaced b.design (given b) o) a
      (subst (λ (ids : List ℕ). Contains (without ids b.items) a) (sym gone_is) h)

  anchors : (ids : List ℕ) → AreOfNet b.items ids island.net → (node : ℕ) → AnchorsAmong b.design m b.items ids node
      → AnchorsAmong b.design m rest ids node
  anchors ids of node h = record {
    item = h.item;
    there = stays x.id b.items h.item h.there (λ same.
        let one : h.item ≡ x = one_item b.items up h.item x h.there there same in
        apart (some_same n island.net (sym net_is ∙ ap (λ (y : Item). y.net) (sym one) ∙ of h.item h.there h.asked)));
    asked = h.asked;
    anchors = h.anchors;
  }

  pub leads_past : JoinsLeast m via_cost b o island others → LeadsOn b.design m rest via_cost island others
  leads_past joins =
      let least = subst (λ (q : Option ℕ). IsLeastWalk (walks_of m via_cost b o q) joins.starts joins.goals joins.walk)
      none joins.least in
      let w = least.walk in
      let start = (joins.starts_are w.from).0 w.starts_in in
      let goal = (joins.goals_are w.to).0 w.ends_in in
      let a = goal.anchors in
      let judged : judged_on b o o.penalty ≡ cleared b o = ap (judged_on b o) none in
      record {
        from = w.from;
        hops = w.hops;
        to = w.to;
        starts = record {
          there = start.there;
          anchors = anchors island.items own w.from start.anchors;
          legal = probe_among b.design m island.net (cleared b o) rest among (disc_at b.design m island.net w.from)
              (subst (λ (k : ℕ). IsLegalNode b.design m (cleared b o) k w.from) of_island
              (subst (λ (xs : List Item). IsLegalNode b.design m xs o.net w.from) judged start.legal));
        };
        ends = record {
          there = goal.there;
          anchors = (a.0, a.1, a.2, a.3, anchors a.1.items (others_own a.1 (a.0, a.2, a.3)) w.to a.4);
        };
        leads = leads_among b.design m island.net via_cost (cleared b o) rest among w.from w.to w.hops
            (subst (λ (k : ℕ). Leads (legal_graph b.design m (cleared b o) k via_cost) w.from w.hops w.to) of_island
            w.leads);
      }
