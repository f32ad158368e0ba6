-- A join by moves at 45 degrees: what the board is afterwards.
use Rattle.std.proofs.Common.{◌≡◌, ◌⊎◌, ℕ, ◌+◌, ◌<◌, ◌≤◌, List, [], ◌∷◌, ◌++◌, length, Some, None, refl, sym}
use Rattle.std.proofs.Common.{ap, ◌∙◌, subst, inl, inr, arith, length-append}
use Rattle.std.specs.Prelude.{slice_get, remove}
use Rattle.std.proofs.Math.Seq.{take-length}
use Rattle.std.proofs.lemmas.List.{append_assoc}
use Rattle.std.proofs.lemmas.Option.{same_Some, slice_get_within}
use borrow.Author.Count.{below_more}
use Rattle.pcb_islands.proofs.Elements.{look_same}
use Rattle.pcb_model.specs.declared.design.Design.{Design}
use Rattle.pcb_model.specs.declared.item.Item.{Item}
use Rattle.pcb_model.specs.Copper.{Ascends}
use Rattle.pcb_model.specs.Plain.{IsPlainCopper}
use Rattle.pcb_islands.specs.declared.net.Island.{Island}
use Rattle.pcb_islands.specs.Islands.{AreIslands}
use Rattle.route_lattice.specs.Mesh.{Mesh}
use Rattle.route_lattice.specs.Fits.{FitsDesign}
use Rattle.route_lattice.specs.Walks.{Leads}
use Rattle.route_lattice.specs.Legal.{IsLegalNode, legal_graph}
use Rattle.board_offers.specs.declared.offer.Offer.{Offer}
use Rattle.board_offers.specs.Items.{new_items}
use Rattle.pcb_board.specs.declared.answer.Entry.{Entry}
use Rattle.pcb_board.specs.declared.answer.Entry.TheVariants.{Join}
use Rattle.pcb_board.specs.Boards.{BoardOf, given, board_at}
use Rattle.pcb_board.specs.Answers.{joined}
use Rattle.pcb_board.specs.Keeping.{IsBoard}
use Rattle.pcb_board.proofs.Standing.{ascends_now, serves_now}
use Rattle.least_offer.specs.Least.{IsWideOffer, MayBeMade, judged_on, TakesNothing}
use Rattle.least_offer.proofs.Standing.{uncleared}
use Rattle.closing_pass.specs.Closing.{CanClose}
use Rattle.closing_pass.specs.inner.Steps.{IsClosed, IsShutAt, GrowsBy}
use Rattle.closing_pass.specs.OpenCount.{FewerOpen}
use Rattle.closing_pass.proofs.Closings.{board_before}
use Rattle.closing_pass.proofs.Fewer.{fewer_on, never_fewer, single}
use Rattle.closing_pass.proofs.Joining.{grows_join, net_at}
use Rattle.closing_pass.proofs.Places.{other_place}
use Rattle.wide_offer.specs.Leading.{IsWideJoin, LeadsWide}
use Rattle.wide_pass.specs.Rounds.{IsWideEntry, JoinsWide}
use Rattle.wide_pass.specs.inner.Joins.{IsJoined, IsWideShut, IsWideShutAt}
use Rattle.wide_pass.proofs.Fewer.{fewer_open}

-- ---- the offer
-- starts are judged on the board as it is
judged : (b : BoardOf) (o : Offer) (q : _) → q ≡ None → TakesNothing o → judged_on b o q ≡ b.items
judged b o None none takes = uncleared b o takes
judged b o (Some p) none takes = refl

-- where the net is closed, the join's legal walks are none
pub is_wide : (m : Mesh) (via_cost net place : ℕ) (b : BoardOf) (o : Offer) (found : List Island) (island : Island)
    → IsBoard b → island.net ≡ net → AreIslands b.design b.items net found → slice_get found place ≡ Some island
    → IsShutAt b.design m via_cost b.items found place
    → IsWideJoin m via_cost b island (remove found place) o → IsWideOffer m via_cost b o
is_wide m via_cost net place b o found island kept own islands is shut j = record {
  closer = j.worker_is;
  no_penalty = j.penalty_is;
  takes = j.takes;
  laid = record {
    found = found;
    islands = subst (λ (n : ℕ). AreIslands b.design b.items n found) (sym (j.net_is ∙ own)) islands;
    place = place;
    island = island;
    island_is = is;
    joins = j.joins;
  };
  shut = λ s hs g starts goals leads.
      let first = (j.joins.starts_are s).0 starts in
      let last = (j.joins.goals_are g).0 goals in
      shut island is (record {
        from = s;
        hops = hs;
        to = g;
        starts = record {
          there = first.there;
          anchors = first.anchors;
          legal = subst (λ (p : List Item × ℕ). IsLegalNode b.design m p.0 p.1 s)
              (λ i. (judged b o o.penalty j.penalty_is j.takes i, j.net_is i)) first.legal;
        };
        ends = record { there = last.there; anchors = last.anchors };
        leads = subst (λ (n : ℕ). Leads (legal_graph b.design m b.items n via_cost) s hs g) j.net_is leads;
      });
}

-- ---- the history
-- with all its entries a board is itself
board_whole : (b : BoardOf) → IsBoard b → board_at b (length b.history) ≡ b
board_whole b kept = λ i. record b { history = take-length b.history i; items = kept.replays i }

-- the entry of an offer
abbrev entry_of : BoardOf → Offer → Entry
entry_of b o = Join o (length (given b)) (length (given b) + length (new_items b.design (given b) o))

last_of : (es : List Entry) (e : Entry) → slice_get (es ++ e ∷ []) (length es) ≡ Some e
last_of [] e = refl
last_of (x ∷ es) e = last_of es e

wide_entry : (m : Mesh) (via_cost : ℕ) (b : BoardOf) (o : Offer) → IsBoard b → o.base ≡ length b.history
    → IsWideOffer m via_cost b o → IsWideEntry m via_cost (joined b o) (length b.history)
wide_entry m via_cost b o kept base wide = record {
  offer = o;
  first = length (given b);
  after = length (given b) + length (new_items b.design (given b) o);
  entry_is = last_of b.history (entry_of b o);
  base_is = base;
  wide = subst (λ (x : BoardOf). IsWideOffer m via_cost x o)
      (sym (board_before b (joined b o) (entry_of b o ∷ []) (length b.history) refl refl refl refl (omega arith)
      ∙ board_whole b kept)) wide;
}

module _ (m : Mesh) (via_cost : ℕ) where
  -- ---- further joins
  -- what an entry is, it is on later boards
  entry_later : (b c : BoardOf) (more : List Entry) (n : ℕ) → c.design ≡ b.design → c.start ≡ b.start → c.cap ≡ b.cap
      → c.history ≡ b.history ++ more → n < length b.history → IsWideEntry m via_cost b n
      → IsWideEntry m via_cost c n
  entry_later b c more n design start cap history less e = record {
    offer = e.offer;
    first = e.first;
    after = e.after;
    entry_is = ap (λ (es : List Entry). slice_get es n) history ∙ (look_same b.history more n less ∙ e.entry_is);
    base_is = e.base_is;
    wide = subst (λ (x : BoardOf). IsWideOffer m via_cost x e.offer)
        (sym (board_before b c more n design start cap history (omega (arith, less)))) e.wide;
  }

  pub joins_on : (a b c : BoardOf) → IsBoard b → JoinsWide m via_cost a b → JoinsWide m via_cost b c
      → JoinsWide m via_cost a c
  joins_on a b c kept f g = record {
    design_stays = g.design_stays ∙ f.design_stays;
    start_stays = g.start_stays ∙ f.start_stays;
    cap_stays = g.cap_stays ∙ f.cap_stays;
    entries = f.entries ++ g.entries;
    history_is = g.history_is ∙ (ap (λ (es : List Entry). es ++ g.entries) f.history_is ∙ append_assoc a.history
        f.entries g.entries);
    some = let e = length-append f.entries g.entries in let more = f.some in omega (arith, e, more);
    each = λ n le less. elim (cases_from n (length b.history)) [
      | inl early ↦ entry_later b c g.entries n g.design_stays g.start_stays g.cap_stays g.history_is early
          (f.each n le early)
      | inr late ↦ g.each n late less
    ];
    fewer = fewer_on a b c kept f.fewer (never_fewer b c g.fewer);
  }
    where
      cases_from : (k n : ℕ) → (k < n) ⊎ (n ≤ k)
      cases_from k n = grind arith

  -- ---- one join
  module _ (net : ℕ) (b c : BoardOf) (kept : IsBoard b) (j : IsJoined m via_cost net b c)
      (there : net < length b.design.nets) where
    on_joined : FewerOpen b (joined b j.offer)
    on_joined = fewer_open m via_cost b j.offer kept j.wide
        (subst (λ (n : ℕ). n < length b.design.nets) (sym j.net_is) there) j.may

    pub joined_wide : JoinsWide m via_cost b c
    joined_wide = subst (JoinsWide m via_cost b) (sym j.new_is) (record {
      design_stays = refl;
      start_stays = refl;
      cap_stays = refl;
      entries = entry_of b j.offer ∷ [];
      history_is = refl;
      some = omega arith;
      each = λ n le less.
          let long = length-append b.history (entry_of b j.offer ∷ []) in
          subst (IsWideEntry m via_cost (joined b j.offer)) (last_one n le less long)
          (wide_entry m via_cost b j.offer kept j.base_is j.wide);
      fewer = on_joined;
    })
      where
        last_one : (n : ℕ) → length b.history ≤ n
            → n < length (b.history ++ entry_of b j.offer ∷ [])
            → length (b.history ++ entry_of b j.offer ∷ []) ≡ length b.history + 1 → length b.history ≡ n
        last_one n le less long = omega (arith, le, less, long)

  pub joined_grows : (net : ℕ) (b c : BoardOf) (j : IsJoined m via_cost net b c) → GrowsBy net b c
  joined_grows net b c j = subst (GrowsBy net b) (sym j.new_is) (grows_join b j.offer net j.net_is j.wide.takes)

-- ---- a join that is to be made
-- the offer may be made, and is one of such moves
pub record CanJoin (m : Mesh) (via_cost net : ℕ) (b : BoardOf) (o : Offer) : Type 0 where
  pub wide : IsWideOffer m via_cost b o
  pub base_is : o.base ≡ length b.history
  pub net_is : o.net ≡ net
  pub may : MayBeMade b o

-- what wide_offers_may_be_made says
abbrev pub MayBeWide : Type 0
MayBeWide = (m : Mesh) (via_cost : ℕ) (b : BoardOf) (o : Offer) → IsBoard b → Ascends b.items → IsPlainCopper b.design
    → FitsDesign b.design m → o.base ≤ length b.history → o.net < length b.design.nets → IsWideOffer m via_cost b o
    → MayBeMade b o

-- a net that is closed is so at each of its islands
pub shut_at : (m : Mesh) (via_cost net place : ℕ) (b : BoardOf) (found : List Island) → IsBoard b
    → IsClosed m via_cost b net → AreIslands b.design b.items net found
    → IsShutAt b.design m via_cost b.items found place
shut_at m via_cost net place b found kept closed islands =
    let same : closed.found ≡ found =
    single b.design b.items net closed.found found kept.sound (serves_now b kept) closed.islands islands in
    subst (λ (fs : List Island). IsShutAt b.design m via_cost b.items fs place) same
    (elim closed.shut [
      | inl few ↦ (λ island is leads.
          let a = leads.ends.anchors in
          let other = other_place closed.found place a.1 (a.0, a.2, a.3) in
          let one = slice_get_within closed.found place island is in
          let two = slice_get_within closed.found other.place a.1 other.there in
          other.other (omega (arith, few, one, two)))
      | inr shut ↦ shut place
    ])

pub can_join : (m : Mesh) (via_cost net place : ℕ) (b : BoardOf) (o : Offer) (found others : List Island)
    (island : Island) → MayBeWide → IsBoard b → CanClose m via_cost b.design → net < length b.design.nets
    → IsClosed m via_cost b net → AreIslands b.design b.items net found → slice_get found place ≡ Some island
    → others ≡ remove found place → IsWideJoin m via_cost b island others o → CanJoin m via_cost net b o
can_join m via_cost net place b o found others island law kept can there closed islands is rest j =
    let own = net_at b.design b.items net found place island islands is in
    let wide = is_wide m via_cost net place b o found island kept own islands is
    (shut_at m via_cost net place b found kept closed islands)
    (subst (λ (os : List Island). IsWideJoin m via_cost b island os o) rest j) in
    let net_is = j.net_is ∙ own in
    let base = j.base_is in
    record {
      wide = wide;
      base_is = base;
      net_is = net_is;
      may = law m via_cost b o kept (ascends_now b kept) can.plain can.fits (omega (arith, base))
          (subst (λ (n : ℕ). n < length b.design.nets) (sym net_is) there) wide;
    }

pub is_joined : (m : Mesh) (via_cost net : ℕ) (b c : BoardOf) (o : Offer) → CanJoin m via_cost net b o
    → c ≡ joined b o → IsJoined m via_cost net b c
is_joined m via_cost net b c o can is = record {
  offer = o;
  wide = can.wide;
  base_is = can.base_is;
  net_is = can.net_is;
  may = can.may;
  new_is = is;
}

-- no walk leads from the island at the place
pub wide_shut_at : (m : Mesh) (via_cost place : ℕ) (b : BoardOf) (found others : List Island) (island : Island)
    → slice_get found place ≡ Some island → others ≡ remove found place
    → ¬ (LeadsWide b.design m b.items via_cost island others)
    → IsWideShutAt b.design m via_cost b.items found place
wide_shut_at m via_cost place b found others island is rest none other other_is leads =
    none (subst (λ (p : Island × List Island). LeadsWide b.design m b.items via_cost p.0 p.1)
    (λ i. (same_Some other island (sym other_is ∙ is) i, sym rest i)) leads)

-- nor from any
pub wide_shut : (m : Mesh) (via_cost net : ℕ) (b : BoardOf) (found : List Island) (n : ℕ) → IsBoard b
    → AreIslands b.design b.items net found → length found ≤ n
    → ((place : ℕ) → place < n → IsWideShutAt b.design m via_cost b.items found place)
    → IsWideShut b.design m via_cost b.items net
wide_shut m via_cost net b found n kept islands le shut = record {
  each = λ others are place.
      subst (λ (fs : List Island). IsWideShutAt b.design m via_cost b.items fs place)
      (single b.design b.items net found others kept.sound (serves_now b kept) islands are)
      (λ island is. let within = slice_get_within found place island is in
      shut place (omega (arith, within, le)) island is);
}

pub wide_shut_more : (d : Design) (m : Mesh) (via_cost n : ℕ) (items : List Item) (found : List Island)
    → ((place : ℕ) → place < n → IsWideShutAt d m via_cost items found place)
    → IsWideShutAt d m via_cost items found n
    → (place : ℕ) → place < n + 1 → IsWideShutAt d m via_cost items found place
wide_shut_more d m via_cost n items found before here =
    below_more (IsWideShutAt d m via_cost items found) n before here
