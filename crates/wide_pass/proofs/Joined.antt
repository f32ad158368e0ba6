-- Entries of rounds, one after another.
use Rattle.std.proofs.Common.{◌≡◌, ℕ, ◌<◌, ◌≤◌, ◌⊎◌, inl, inr, List, [], ◌∷◌, ◌++◌, length, Option, Some, None, sym}
use Rattle.std.proofs.Common.{ap, ◌∙◌, subst, arith, length-append}
use Rattle.std.specs.Prelude.{slice_get}
use Rattle.std.proofs.lemmas.List.{append_assoc}
use Rattle.pcb_islands.proofs.Elements.{look_same}
use Rattle.pcb_model.specs.declared.item.Item.{Item}
use Rattle.pcb_model.specs.declared.design.Design.{Design}
use Rattle.pcb_islands.specs.declared.net.Island.{Island}
use Rattle.route_lattice.specs.Mesh.{Mesh}
use Rattle.route_lattice.specs.Walks.{Hop, Leads}
use Rattle.path_wire.specs.Diagonals.{wide_graph}
use Rattle.cut_certificate.specs.Cuts.{IsStart, IsGoal}
use Rattle.board_offers.specs.declared.offer.Offer.{Offer}
use Rattle.pcb_board.specs.declared.answer.Entry.{Entry}
use Rattle.pcb_board.specs.declared.answer.Entry.TheVariants.{Join, Back}
use Rattle.pcb_board.specs.Boards.{BoardOf, board_at}
use Rattle.least_offer.specs.Least.{IsLeastOffer, IsWideOffer}
use Rattle.closing_pass.specs.Closing.{Closes}
use Rattle.closing_pass.proofs.Closings.{board_before}
use Rattle.wide_pass.specs.Rounds.{IsWideReach, IsWideEntry, JoinsWide, Rounds, ClosesWide, IsJoinAt}

-- ---- what moves reach
pub shuts : (d : Design) (m : Mesh) (items : List Item) (via_cost : ℕ) (island : Island) (others : List Island)
    (nodes : List ℕ) (from to : ℕ) (hops : List Hop) → IsWideReach d m items via_cost island others nodes
    → IsStart d m items island from → IsGoal d m items others to
    → Leads (wide_graph d m items island.net via_cost) from hops to → ⊥
shuts d m items via_cost island others nodes from to hops r start goal leads =
    r.goals_out to goal (r.reach.complete to (from, hops, (r.starts_are from).1 start, leads))

-- ---- further entries
-- the board with further entries
record Extends (old new : BoardOf) : Type 0 where
  design_stays : new.design ≡ old.design
  start_stays : new.start ≡ old.start
  cap_stays : new.cap ≡ old.cap
  entries : List Entry
  history_is : new.history ≡ old.history ++ entries

closed_extends : (m : Mesh) (via_cost : ℕ) (old new : BoardOf) → Closes m via_cost old new → Extends old new
closed_extends m via_cost old new c = record {
  design_stays = c.design_stays;
  start_stays = c.start_stays;
  cap_stays = c.cap_stays;
  entries = c.entries;
  history_is = c.history_is;
}

wide_extends : (m : Mesh) (via_cost : ℕ) (old new : BoardOf) → JoinsWide m via_cost old new → Extends old new
wide_extends m via_cost old new c = record {
  design_stays = c.design_stays;
  start_stays = c.start_stays;
  cap_stays = c.cap_stays;
  entries = c.entries;
  history_is = c.history_is;
}

extends_on : (a b c : BoardOf) → Extends a b → Extends b c → Extends a c
extends_on a b c f g = record {
  design_stays = g.design_stays ∙ f.design_stays;
  start_stays = g.start_stays ∙ f.start_stays;
  cap_stays = g.cap_stays ∙ f.cap_stays;
  entries = f.entries ++ g.entries;
  history_is = g.history_is ∙ (ap (λ (es : List Entry). es ++ g.entries) f.history_is ∙ append_assoc a.history f.entries
      g.entries);
}

rounds_extend : (m : Mesh) (via_cost : ℕ) (bs : List BoardOf) (old new : BoardOf) → Rounds m via_cost bs old new
    → Extends old new
rounds_extend m via_cost [] old new r = closed_extends m via_cost old new r
rounds_extend m via_cost (b ∷ bs) old new r =
    extends_on old r.0 new (closed_extends m via_cost old r.0 r.1)
    (extends_on r.0 b new (wide_extends m via_cost r.0 b r.2) (rounds_extend m via_cost bs b new r.3))

-- what an entry is, it is on later boards
later : (m : Mesh) (via_cost n : ℕ) (b c : BoardOf) → Extends b c → n < length b.history → IsJoinAt m via_cost b n
    → IsJoinAt m via_cost c n
later m via_cost n b c x early h = record {
  each = λ o first after there.
      let on_b : slice_get b.history n ≡ Some (Join o first after) =
      sym (look_same b.history x.entries n early) ∙ (ap (λ (es : List Entry). slice_get es n) (sym x.history_is)
      ∙ there) in
      let j = h.each o first after on_b in
      let le : o.base ≤ length b.history = (let e = j.0 in omega (arith, e, early)) in
      let at = board_before b c x.entries o.base x.design_stays x.start_stays x.cap_stays x.history_is le in (
        j.0,
        elim j.1 [
          | inl least ↦ inl (subst (λ (y : BoardOf). IsLeastOffer m via_cost y o) (sym at) least)
          | inr wide ↦ inr (subst (λ (y : BoardOf). IsWideOffer m via_cost y o) (sym at) wide)
        ],
      );
}

offer_in : Option Entry → Offer → Offer
offer_in (Some (Join o first after)) other = o
offer_in (Some (Back to)) other = other
offer_in None other = other

wide_join : (m : Mesh) (via_cost n : ℕ) (b : BoardOf) → IsWideEntry m via_cost b n → IsJoinAt m via_cost b n
unfolding offer_in
wide_join m via_cost n b w = record {
  each = λ o first after there.
      let same : w.offer ≡ o = ap (λ (e : Option Entry). offer_in e o) (sym w.entry_is ∙ there) in
      let base : o.base ≡ n = ap (λ (x : Offer). x.base) (sym same) ∙ w.base_is in (
        base,
        inr (subst (λ (k : ℕ). IsWideOffer m via_cost (board_at b k) o) (sym base)
            (subst (IsWideOffer m via_cost (board_at b n)) same w.wide)),
      );
}

cases_from : (k n : ℕ) → (n < k) ⊎ (k ≤ n)
cases_from k n = grind arith

joined_in : (m : Mesh) (via_cost : ℕ) (bs : List BoardOf) (old new : BoardOf) → Rounds m via_cost bs old new → (n : ℕ)
    → length old.history ≤ n → IsJoinAt m via_cost new n
joined_in m via_cost [] old new r n le = record {
  each = λ o first after there. let h = (r.least n le).each o first after there in (h.0, inl h.1);
}
joined_in m via_cost (b ∷ bs) old new r n le = elim (cases_from (length b.history) n) [
  | inr late ↦ joined_in m via_cost bs b new r.3 n late
  | inl early ↦ elim (cases_from (length r.0.history) n) [
    | inr wide ↦ later m via_cost n b new (rounds_extend m via_cost bs b new r.3) early
        (wide_join m via_cost n b (r.2.each n wide early))
    | inl legal ↦ later m via_cost n r.0 new
        (extends_on r.0 b new (wide_extends m via_cost r.0 b r.2) (rounds_extend m via_cost bs b new r.3)) legal
        (record {
          each = λ o first after there. let h = (r.1.least n le).each o first after there in (h.0, inl h.1);
        })
  ]
]

pub joined_at : (m : Mesh) (via_cost : ℕ) (old new : BoardOf) → ClosesWide m via_cost old new → (n : ℕ)
    → length old.history ≤ n → IsJoinAt m via_cost new n
joined_at m via_cost old new c n le = joined_in m via_cost c.boards old new c.rounds n le

-- rounds leave the design, and no entry goes
pub closed_design : (m : Mesh) (via_cost : ℕ) (old new : BoardOf) → ClosesWide m via_cost old new
    → new.design ≡ old.design
closed_design m via_cost old new c = (rounds_extend m via_cost c.boards old new c.rounds).design_stays

pub rounds_longer : (m : Mesh) (via_cost : ℕ) (bs : List BoardOf) (old new : BoardOf) → Rounds m via_cost bs old new
    → length old.history ≤ length new.history
rounds_longer m via_cost bs old new r =
    let x = rounds_extend m via_cost bs old new r in
    let e = ap (λ (es : List Entry). length es) x.history_is ∙ length-append old.history x.entries in
    omega (arith, e)
