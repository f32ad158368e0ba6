-- What moves turned round reach, and what that says of walks.
use Rattle.std.proofs.Common.{◌≡◌, ℕ, ◌<◌, List, [], ◌∷◌, ◌++◌, refl, sym, subst}
use Rattle.std.proofs.Common.{length, All, Bool, true, false, not}
use Rattle.std.specs.Bool.{OnTrue, OnFalse}
use Rattle.std.specs.Prelude.{Contains}
use Rattle.std.proofs.lemmas.List.Elements.{All-contains}
use Rattle.pcb_model.specs.declared.item.Item.{Item}
use Rattle.pcb_model.specs.declared.design.Design.{Design}
use Rattle.route_lattice.specs.Walks.{MoveGraph, IsSound, Hop, Opens, Leads, Reaches, NoneLeads}
use Rattle.route_lattice.specs.Mesh.{Mesh}
use Rattle.route_lattice.specs.Legal.{legal_graph}
use Rattle.cut_certificate.specs.Backwards.{backwards, LedBack, HasMoveTo, IsMutual}
use Rattle.cut_certificate.specs.inner.Marks.{Fill, IsMarked, IsFlood}
use Rattle.cut_certificate.proofs.Flooding.{leads_on, stays_in}
use Rattle.cut_certificate.proofs.Turning.{HasWayTo, way_undone}

-- what is so unless a test says yes
pub on_not : (b : Bool) {P Q : Type 0} → OnFalse b P → (P → Q) → OnTrue (not b) Q
on_not true p f = tt
on_not false p f = f p

module _ (graph : MoveGraph) (sound : IsSound graph) (turns : IsMutual graph) (goals : List ℕ) where
  -- the move that leads back
  abbrev hop_back : (a to : ℕ) → HasMoveTo graph to a → Hop
  hop_back a to way = record { index = way.index; move = way.move; to = a; price = 0 }

  -- it is open the other way round
  opens_back : (a : ℕ) (h : Hop) → Opens graph a h → (way : HasMoveTo graph h.to a)
      → Opens (backwards graph) h.to (hop_back a h.to way)
  opens_back a h o way = record {
    listed = way.listed;
    leads = way.leads;
    is_open = subst (LedBack graph h.to) (sym way.leads) (record { hop = h; opens = o; to_is = refl });
    costs = refl;
  }

  further : (a : ℕ) (h : Hop) → Opens graph a h → HasMoveTo graph h.to a → Reaches (backwards graph) goals h.to
      → Reaches (backwards graph) goals a
  further a h o way r = (
    r.0,
    r.1 ++ hop_back a h.to way ∷ [],
    r.2,
    leads_on (backwards graph) r.1 r.0 h.to (hop_back a h.to way) r.3 (opens_back a h o way),
  )

  -- one open move back
  one_back : (a : ℕ) (h : Hop) → a < graph.count → Opens graph a h → Reaches (backwards graph) goals h.to
      → Reaches (backwards graph) goals a
  one_back a h there o r = further a h o (turns a h.index h.move h.to there o.listed o.leads) r

  -- from the end of a walk back to its start
  walked_back : (hs : List Hop) (a b : ℕ) → a < graph.count → Leads graph a hs b → Contains goals b
      → Reaches (backwards graph) goals a
  walked_back [] a b there p c = (b, [], c, sym p)
  walked_back (h ∷ hs) a b there p c =
      one_back a h there p.0
      (walked_back hs h.to b (sound.leads a h.index h.move h.to there p.0.listed p.0.leads) p.1 c)

  -- where no start is reached so, no walk leads to a goal
  pub none_leads : (starts : List ℕ) → ((s : ℕ) → Contains starts s → s < graph.count)
      → ((s : ℕ) → Contains starts s → Reaches (backwards graph) goals s → ⊥) → NoneLeads graph starts goals
  none_leads starts below none s hs g c goal p = none s c (walked_back hs s g (below s c) p goal)

module _ (graph : MoveGraph) (sound : IsSound graph) (turns : IsMutual graph) (starts goals : List ℕ) (f : Fill)
    (flood : IsFlood (backwards graph) goals f) (empty : length f.waiting ≡ 0)
    (below : All (λ s. s < graph.count) starts) where
  -- where a flood turned round has marked no start
  pub shut_in : All (λ s. IsMarked f.marks s → ⊥) starts → NoneLeads graph starts goals
  shut_in none =
      none_leads graph sound turns goals starts (λ s c. All-contains (λ s. s < graph.count) starts s below c)
      (λ s c r. All-contains (λ s. IsMarked f.marks s → ⊥) starts s none c
      (stays_in (backwards graph) goals f flood empty r.1 r.0 s (flood.starts_in r.0 r.2) r.3))

-- the legal moves of a net are such as lead back
pub legal_mutual : (d : Design) (m : Mesh) (items : List Item) (net via_cost : ℕ)
    → IsMutual (legal_graph d m items net via_cost)
legal_mutual d m items net via_cost node i mv to h k e =
    let w : HasWayTo d m net to node = way_undone d m net node i h k (mv, to) e in
    record { index = w.index; move = w.move; listed = w.listed; leads = w.leads }
