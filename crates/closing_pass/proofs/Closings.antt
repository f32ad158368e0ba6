-- Joins one after another, and nets that stay closed.
use Rattle.std.proofs.Common.{◌≡◌, ◌≢◌, ◌⊎◌, ℕ, ◌+◌, ◌<◌, ◌≤◌, List, [], ◌++◌, length, take, Option, Some, unwrap_or}
use Rattle.std.proofs.Common.{refl, sym, ap, ◌∙◌, subst, inl, inr, arith, length-append, All}
use Rattle.std.specs.Prelude.{Contains, slice_get}
use Rattle.std.proofs.lemmas.List.{append-nil, append_assoc, take-append-le}
use Rattle.std.proofs.lemmas.List.Elements.{All-nil, All-append, Contains-append_left}
use Rattle.std.proofs.lemmas.Option.{slice_get_within}
use borrow.Author.Count.{below_more}
use Rattle.pcb_model.specs.declared.item.Item.{Item}
use Rattle.pcb_model.specs.declared.design.Design.{Design}
use Rattle.pcb_model.specs.Copper.{Ascends}
use Rattle.pcb_islands.specs.declared.net.Island.{Island}
use Rattle.pcb_islands.specs.Islands.{AreIslands}
use Rattle.pcb_islands.proofs.Elements.{look_same}
use Rattle.pcb_islands.proofs.Touches.{below_or_same}
use Rattle.route_lattice.specs.Mesh.{Mesh}
use Rattle.pcb_board.specs.declared.answer.Entry.{Entry}
use Rattle.pcb_board.specs.declared.answer.Entry.TheVariants.{Join}
use Rattle.pcb_board.specs.Boards.{BoardOf, board_at}
use Rattle.pcb_board.specs.Keeping.{IsBoard}
use Rattle.least_offer.specs.Least.{IsLeastOffer}
use Rattle.closing_pass.specs.Closing.{IsCloserJoin, JoinsBy}
use Rattle.closing_pass.specs.Settled.{TakesOne}
use Rattle.closing_pass.specs.inner.Steps.{IsShutAt, IsClosed, IsClosedOn, GrowsBy, JoinsNet}
use Rattle.closing_pass.proofs.Staying.{closed_later}

-- ---- joins
pub joins_none : (worker : ℕ) (m : Mesh) (via_cost : ℕ) (b : BoardOf) → JoinsBy worker m via_cost b b
joins_none worker m via_cost b = record {
  design_stays = refl;
  start_stays = refl;
  cap_stays = refl;
  entries = [];
  history_is = sym (append-nil b.history);
  joins = All-nil (IsCloserJoin worker);
  least = λ n le. record {
    each = λ o first after there. absurd
        (let within = slice_get_within b.history n (Join o first after) there in omega (arith, within, le));
  };
}

-- further entries change no earlier board
pub board_before : (b c : BoardOf) (more : List Entry) (n : ℕ) → c.design ≡ b.design → c.start ≡ b.start
    → c.cap ≡ b.cap → c.history ≡ b.history ++ more → n ≤ length b.history
    → board_at c n ≡ board_at b n
board_before b c more n design start cap history le =
    let takes : take n c.history ≡ take n b.history = ap (take n) history ∙ take-append-le n b.history more le in
    cc

-- two in a row
pub joins_on : (worker : ℕ) (m : Mesh) (via_cost : ℕ) (a b c : BoardOf) → JoinsBy worker m via_cost a b
    → JoinsBy worker m via_cost b c
    → JoinsBy worker m via_cost a c
joins_on worker m via_cost a b c first second = record {
  design_stays = second.design_stays ∙ first.design_stays;
  start_stays = second.start_stays ∙ first.start_stays;
  cap_stays = second.cap_stays ∙ first.cap_stays;
  entries = first.entries ++ second.entries;
  history_is = second.history_is ∙ (ap (λ (es : List Entry). es ++ second.entries) first.history_is ∙ append_assoc
      a.history first.entries second.entries);
  joins = All-append (IsCloserJoin worker) first.entries second.entries first.joins second.joins;
  least = λ n le. elim (cases_from n (length b.history)) [
    | inr late ↦ second.least n late
    | inl early ↦ record {
      each = λ o one last there.
          let same = look_same b.history second.entries n early in
          let on_b : slice_get b.history n ≡ Some (Join o one last) = sym same ∙
          (ap (λ (es : List Entry). slice_get es n) (sym second.history_is) ∙ there) in
          let h = (first.least n le).each o one last on_b in
          let same_board = sym (board_before b c second.entries o.base second.design_stays second.start_stays
          second.cap_stays second.history_is (omega (arith, h.0, early))) in (
            h.0,
            subst (λ (x : BoardOf). IsLeastOffer m via_cost x o) same_board h.1,
            subst (λ (x : BoardOf). TakesOne m x o) same_board h.2,
          );
    }
  ];
}
  where
    cases_from : (k n : ℕ) → (k < n) ⊎ (n ≤ k)
    cases_from k n = elim (below_or_same k n) [
      | inl less ↦ inl less
      | inr k ↦ elim k [ inl more ↦ inr (omega (arith, more)) | inr same ↦ inr (omega (arith, same)) ]
    ]

-- no entry goes
pub history_grows : (worker : ℕ) (m : Mesh) (via_cost : ℕ) (a b : BoardOf) → JoinsBy worker m via_cost a b
    → length a.history ≤ length b.history
history_grows worker m via_cost a b joins = let e = ap (λ (es : List Entry). length es) joins.history_is ∙
    length-append a.history joins.entries in omega (arith, e)

-- ---- growing
pub grows_none : (net : ℕ) (b : BoardOf) → GrowsBy net b b
grows_none net b = record {
  design_stays = refl;
  added = [];
  items_are = sym (append-nil b.items);
  own = All-nil
      (λ (x : Item). x.net ≡ Some net);
}

pub grows_same : (net : ℕ) (b c : BoardOf) → c ≡ b → GrowsBy net b c
grows_same net b c same = subst (GrowsBy net b) (sym same) (grows_none net b)

pub grows_on : (net : ℕ) (a b c : BoardOf) → GrowsBy net a b → GrowsBy net b c → GrowsBy net a c
grows_on net a b c first second = record {
  design_stays = second.design_stays ∙ first.design_stays;
  added = first.added ++ second.added;
  items_are = second.items_are ∙ (ap (λ (xs : List Item). xs ++ second.added) first.items_are ∙ append_assoc a.items
      first.added second.added);
  own = All-append (λ (x : Item). x.net ≡ Some net) first.added second.added first.own second.own;
}

-- no item goes
pub grows_stays : (net : ℕ) (b c : BoardOf) → GrowsBy net b c → (x : Item) → Contains b.items x → Contains c.items x
grows_stays net b c grows x h = subst (λ (xs : List Item). Contains xs x) (sym grows.items_are)
    (Contains-append_left b.items grows.added x h)

-- ---- both
pub net_none : (m : Mesh) (via_cost net : ℕ) (b : BoardOf) → JoinsNet m via_cost net b b
net_none m via_cost net b = record { closes = joins_none 16 m via_cost b; grows = grows_none net b }

pub net_same : (m : Mesh) (via_cost net : ℕ) (b c : BoardOf) → c ≡ b → JoinsNet m via_cost net b c
net_same m via_cost net b c same = subst (JoinsNet m via_cost net b) (sym same) (net_none m via_cost net b)

pub net_on : (m : Mesh) (via_cost net : ℕ) (a b c : BoardOf) → JoinsNet m via_cost net a b
    → JoinsNet m via_cost net b c → JoinsNet m via_cost net a c
net_on m via_cost net a b c first second = record {
  closes = joins_on 16 m via_cost a b c first.closes second.closes;
  grows = grows_on net a b c first.grows second.grows;
}

-- ---- islands of a net
-- where no island below the last is open, none is
pub all_shut : (d : Design) (m : Mesh) (via_cost n : ℕ) (items : List Item) (found : List Island) → length found ≤ n
    → ((place : ℕ) → place < n → IsShutAt d m via_cost items found place) → (place : ℕ)
    → IsShutAt d m via_cost items found place
all_shut d m via_cost n items found le shut place island there =
    let within = slice_get_within found place island there in shut place (omega (arith, le, within)) island there

pub shut_more : (d : Design) (m : Mesh) (via_cost n : ℕ) (items : List Item) (found : List Island)
    → ((place : ℕ) → place < n → IsShutAt d m via_cost items found place) → IsShutAt d m via_cost items found n
    → (place : ℕ) → place < n + 1 → IsShutAt d m via_cost items found place
shut_more d m via_cost n items found before here = below_more (IsShutAt d m via_cost items found) n before here

pub some_same : (m n : ℕ) → Some m ≡ Some n → m ≡ n
some_same m n e = ap (λ (o : Option ℕ). unwrap_or o 0) e

-- a net that is closed stays so while items of another come
pub closed_on : (m : Mesh) (via_cost : ℕ) (b c : BoardOf) (other net : ℕ) → other ≢ net → Ascends c.items
    → GrowsBy other b c
    → ((added : List Item) (found : List Island) → All (λ (x : Item). x.net ≢ Some net) added
    → AreIslands b.design b.items net found
    → AreIslands b.design (b.items ++ added) net found)
    → IsClosed m via_cost b net → IsClosed m via_cost c net
closed_on m via_cost b c other net apart up grows stay closed =
    let on_items : IsClosedOn b.design m via_cost (b.items ++ grows.added) net =
    closed_later b.design m via_cost b.items grows.added net (subst Ascends grows.items_are up)
    (λ found islands. stay grows.added found (λ k x within e. apart
    (some_same other net (sym (grows.own k x within) ∙ e))) islands) closed in
    subst (λ (p : Design × List Item). IsClosedOn p.0 m via_cost p.1 net)
    (λ i. (sym grows.design_stays i, sym grows.items_are i)) on_items

-- ---- what loops keep
-- a net is being closed
pub record IsClosing (m : Mesh) (via_cost net : ℕ) (old b : BoardOf) (found : List Island) : Type 0 where
  pub joins : JoinsNet m via_cost net old b
  pub islands : AreIslands b.design b.items net found

pub closing_ends : (m : Mesh) (via_cost net : ℕ) (old b c : BoardOf) (found : List Island)
    → IsClosing m via_cost net old b found → c ≡ b
    → (length found ≤ 1) ⊎ ((place : ℕ) → IsShutAt b.design m via_cost b.items found place) → IsClosed m via_cost c net
closing_ends m via_cost net old b c found closing same shut =
    subst (λ (x : BoardOf). IsClosed m via_cost x net) (sym same)
    (record { found = found; islands = closing.islands; shut = shut })

-- the nets below one are closed
pub record AreClosed (m : Mesh) (via_cost n : ℕ) (old b : BoardOf) : Type 0 where
  pub board : IsBoard b
  pub closes : JoinsBy 16 m via_cost old b
  pub stays : (x : Item) → Contains old.items x → Contains b.items x
  pub closed : (net : ℕ) → net < n → IsClosed m via_cost b net

pub closed_none : (m : Mesh) (via_cost : ℕ) (b : BoardOf) → IsBoard b → AreClosed m via_cost 0 b b
closed_none m via_cost b kept = record {
  board = kept;
  closes = joins_none 16 m via_cost b;
  stays = λ x h. h;
  closed = λ net below.
      absurd (omega (arith, below));
}

-- one net more is closed
pub closed_more : (m : Mesh) (via_cost n : ℕ) (old b c : BoardOf) → AreClosed m via_cost n old b
    → JoinsNet m via_cost n b c → IsBoard c → Ascends c.items
    → IsClosed m via_cost c n
    → ((net : ℕ) (added : List Item) (found : List Island) → All (λ (x : Item). x.net ≢ Some net) added
    → AreIslands b.design b.items net found
    → AreIslands b.design (b.items ++ added) net found)
    → AreClosed m via_cost (n + 1) old c
closed_more m via_cost n old b c closed joins kept up here stay = record {
  board = kept;
  closes = joins_on 16 m via_cost old b c closed.closes joins.closes;
  stays = λ x h. grows_stays n b c joins.grows x (closed.stays x h);
  closed = below_more (λ (net : ℕ). IsClosed m via_cost c net) n
      (λ net below. closed_on m via_cost b c n net (λ same. omega (arith, same, below)) up joins.grows (stay net)
      (closed.closed net below))
      here;
}
