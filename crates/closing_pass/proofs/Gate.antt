-- Moves that lead out of a cut past an item: those alone that the item shut.
use Rattle.std.proofs.Common.{◌≡◌, ℕ, zero, suc, ◌<◌, List, [], ◌∷◌, ◌==◌, Bool, true, false, not, cond, Option, Some}
use Rattle.std.proofs.Common.{None}
use Rattle.std.proofs.Common.{refl, sym, ap, ◌∙◌, subst, inl, inr, ◌⊎◌, arith, true≢false}
use Rattle.std.proofs.lemmas.Bool.{eqb-true}
use Rattle.std.specs.Prelude.{Contains, Any, ◌||◌}
use Rattle.std.specs.Option.{IsSomeAnd}
use Rattle.std.proofs.lemmas.List.Elements.{All-contains, All-weaker}
use Rattle.pcb_model.specs.declared.item.Item.{Item}
use Rattle.pcb_model.specs.declared.item.Probe.{Probe}
use Rattle.pcb_model.specs.declared.design.Design.{Design}
use Rattle.board_offers.specs.Items.{names, without}
use Rattle.pcb_islands.specs.declared.net.Island.{Island}
use Rattle.pcb_islands.proofs.Gathering.{in_or_not}
use Rattle.route_lattice.specs.Mesh.{Mesh, node_count}
use Rattle.route_lattice.specs.Ways.{way, way_count}
use Rattle.route_lattice.specs.Legal.{IsOpen, legal_graph, probe_at}
use Rattle.route_lattice.specs.Walks.{Hop, Opens}
use Rattle.cut_certificate.specs.declared.cut.Cut.{Cut}
use Rattle.cut_certificate.specs.declared.cut.Blocker.{Blocker}
use Rattle.cut_certificate.specs.declared.cut.Blocker.TheVariants as blocker
use Rattle.cut_certificate.specs.Border.{IsBlock, IsOf}
use Rattle.cut_certificate.specs.Cuts.{IsCut, ShutsProbe, IsShutBy}
use Rattle.cut_certificate.specs.Past.{IsBlockBy, IsCutPast, IsMoveIn}
use Rattle.closing_pass.specs.inner.Rooms.{IfPut, IsPast}
use Rattle.closing_pass.proofs.Past.{out_cases, out_in}

-- ---- numbers and lists
pub same_or_not : (a b : ℕ) → (a ≡ b) ⊎ (a ≡ b → ⊥)
same_or_not zero zero = inl refl
same_or_not zero (suc b) = inr (λ e. omega arith)
same_or_not (suc a) zero = inr (λ e. omega arith)
same_or_not (suc a) (suc b) = elim (same_or_not a b) [ inl p ↦ inl (ap suc p) | inr q ↦ inr (λ e. q (omega arith)) ]

-- an item with another id stays
pub stays : (id : ℕ) (items : List Item) (a : Item) → Contains items a → (a.id ≡ id → ⊥)
    → Contains (without (id ∷ []) items) a
stays id [] a (k, within, is) n = absurd (omega (arith, within))
stays id (x ∷ items) a (zero, within, is) n =
    here x a (without (id ∷ []) items) (names (id ∷ []) x.id)
    (unnamed x.id (λ e. n (ap (λ (y : Item). y.id) (sym is) ∙ e))) is
  where
    here : (x a : Item) (rest : List Item) (b : Bool) → b ≡ false → x ≡ a → Contains (cond (not b) (x ∷ rest) rest) a
    here x a rest true e is = absurd (true≢false e)
    here x a rest false e is = (zero, omega arith, is)

    unnamed : (y : ℕ) → (y ≡ id → ⊥) → names (id ∷ []) y ≡ false
    unnamed y n = by (id == y) refl
      where
        by : (b : Bool) → (id == y) ≡ b → (b || false) ≡ false
        by true e = absurd (n (sym (eqb-true id y e)))
        by false e = refl
stays id (x ∷ items) a (suc k, within, is) n =
    later x a (without (id ∷ []) items) (names (id ∷ []) x.id) (stays id items a (k, omega (arith, within), is) n)
  where
    later : (x a : Item) (rest : List Item) (b : Bool) → Contains rest a → Contains (cond (not b) (x ∷ rest) rest) a
    later x a rest true h = h
    later x a rest false (k, within, is) = (suc k, omega (arith, within), is)

-- the same where another item is in its place
pub past_stays : (items past : List Item) (id : ℕ) (moved : Option Item) → IsPast items id moved past → (a : Item)
    → Contains items a → (a.id ≡ id → ⊥) → Contains past a
past_stays items past id moved is a c n = elim (out_cases items is.rest is.item is.removed a c) [
  | inl same ↦ absurd (n (sym (ap (λ (y : Item). y.id) same) ∙ is.id_is))
  | inr left ↦ put_in moved is.put left
]
  where
    put_in : (o : Option Item) → IfPut is.rest o past → Contains is.rest a → Contains past a
    put_in None put left = subst (λ (xs : List Item). Contains xs a) (sym put) left
    put_in (Some x) put left = out_in past is.rest x put a left

-- what shuts a move shuts it past the item, unless it is the item
still_shut : (d : Design) (items past : List Item) (net id : ℕ)
    → ((a : Item) → Contains items a → (a.id ≡ id → ⊥) → Contains past a) → (o : Option Probe) (by : Blocker)
    → IsSomeAnd o (λ p. ShutsProbe d items net p by) → IsOpen d past net o → by ≡ blocker.Item id
still_shut d items past net id stay None by shut is_open = absurd shut
still_shut d items past net id stay (Some p) (blocker.Item y) shut is_open = elim (same_or_not y id) [
  | inl e ↦ ap (λ (x : ℕ). blocker.Item x) e
  | inr n ↦ absurd (shut.holds (is_open.agrees shut.item
      (stay shut.item shut.there (λ e. n (sym shut.id_is ∙ e)))))
]
still_shut d items past net id stay (Some p) blocker.Outside shut is_open = absurd (shut.1 is_open.inside)

-- a cut of an island, past an item
pub cut_past : (d : Design) (m : Mesh) (items past : List Item) (via_cost id : ℕ) (moved : Option Item)
    (island : Island) (others : List Island) (cut : Cut) → IsCut d m items island others cut
    → IsPast items id moved past → IsCutPast (legal_graph d m past island.net via_cost) cut id
cut_past d m items past via_cost id moved island others cut is way_past = record {
  ascends = is.ascends;
  there = All-weaker (IsBlock (way d m net) (way_count d m net) (IsShutBy d m items net) cut.reach.nodes)
      (IsMoveIn (legal_graph d m past net via_cost)) (λ b block. record {
        node_there = All-contains (λ v. v < node_count m) cut.reach.nodes b.node is.there block.node_in;
        index_there = block.in_range;
      }) cut.blocked is.blocks.only;
  leads = λ node hop c o. elim (in_or_not cut.reach.nodes hop.to) [
    | inl k ↦ inl k
    | inr out ↦ inr (by_item node hop o (is.blocks.complete node hop.index c o.listed
        (record { move = hop.move; to = hop.to; leads = o.leads; outside = out })))
  ];
}
  where
    net : ℕ
    net = island.net

    by_item : (node : ℕ) (hop : Hop) → Opens (legal_graph d m past island.net via_cost) node hop
        → Any (IsOf node hop.index) cut.blocked → Any (IsBlockBy id node hop.index) cut.blocked
    by_item node hop o (k, b, inside, b_is, of) =
        let block = All-contains
        (IsBlock (way d m island.net) (way_count d m island.net) (IsShutBy d m items island.net) cut.reach.nodes)
        cut.blocked b is.blocks.only (k, inside, b_is) in
        let here : IsOf node hop.index b = of in
        let open_there : IsOpen d past island.net (probe_at d m island.net b.node b.index) =
        subst (λ (y : ℕ × ℕ). IsOpen d past island.net (probe_at d m island.net y.0 y.1))
        (λ i. (sym (here.0) i, sym (here.1) i)) o.is_open in (
          k,
          b,
          inside,
          b_is,
          record {
            of = of;
            by_is = still_shut d items past island.net id (past_stays items past id moved way_past)
                (probe_at d m island.net b.node b.index) b.by block.shut open_there;
          },
        )
