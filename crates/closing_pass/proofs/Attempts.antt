-- An offer that makes way past an item: it is a least one, it may be made where it is well formed, and after it and the
-- joins of the item's net fewer connections are open.
use Rattle.std.proofs.Common.{◌≡◌, ◌≢◌, ◌⊎◌, ℕ, ◌+◌, ◌<◌, ◌≤◌, List, [], ◌∷◌, ◌++◌, map}
use Rattle.std.proofs.Common.{length, Bool, Option, Some, None}
use Rattle.std.proofs.Common.{refl, sym, ap, ◌∙◌, subst, inl, inr, arith, false, All, length-append}
use Rattle.std.specs.Prelude.{Any, Contains, IfSome, remove, slice_get}
use Rattle.std.specs.Option.{IsSomeAnd}
use Rattle.std.proofs.lemmas.List.Elements.{All-cons, All-contains, All-head, All-nil}
use Rattle.std.proofs.lemmas.Option.{get_or_from_slice_get}
use Rattle.geo_kernel.specs.declared.point.Point.{Point}
use Rattle.pcb_model.specs.declared.item.Item.{Item}
use Rattle.pcb_model.specs.declared.design.Design.{Design}
use Rattle.pcb_model.specs.Pairs.{Agrees}
use Rattle.pcb_model.specs.Plain.{IsPlainCopper}
use Rattle.pcb_model.specs.Copper.{Ascends}
use Rattle.pcb_model.specs.Sound.{IsItemOf, IsNetOf, Serves}
use Rattle.pcb_islands.specs.declared.net.Island.{Island}
use Rattle.pcb_islands.specs.Islands.{AreIslands}
use Rattle.pcb_islands.proofs.Joined.{one_item}
use Rattle.route_lattice.specs.Mesh.{Mesh}
use Rattle.route_lattice.specs.Fits.{FitsDesign}
use Rattle.route_lattice.specs.declared.moves.Walk.{Walk}
use Rattle.shove.specs.Shoves.{IsShove, IsWire}
use Rattle.board_offers.specs.declared.offer.Offer.{Offer}
use Rattle.board_offers.specs.declared.offer.Shoved.{Shoved}
use Rattle.board_offers.specs.declared.offer.TheConstants.{CLOSER}
use Rattle.board_offers.specs.Items.{added, added_from, gone, item_at, new_items, replaced, replaced_from, reshaped}
use Rattle.board_offers.specs.Items.{without}
use Rattle.board_offers.specs.Offers.{IsInTheWay, IsShovable, IsWellFormed}
use Rattle.pcb_board.specs.declared.answer.Entry.TheVariants.{Join}
use Rattle.pcb_board.specs.Boards.{BoardOf, Past, given}
use Rattle.pcb_board.specs.Answers.{joined, known}
use Rattle.pcb_board.specs.Keeping.{IsBoard}
use Rattle.pcb_board.proofs.Past.{past_more}
use Rattle.pcb_board.proofs.Standing.{ascends_now, found_now, serves_now}
use Rattle.least_offer.specs.Least.{Chooses, IsLeastOffer, JoinsLeast, MayBeMade}
use Rattle.closing_pass.specs.OpenCount.{IsOpenCount}
use Rattle.closing_pass.specs.Settled.{HasAtMost, Helps, MovesAside, Rejoins, TakesOut}
use Rattle.closing_pass.specs.inner.Trials.{Follows, HasTried, IsTrial}
use Rattle.closing_pass.specs.inner.Tries.{IsHelped, IsPastTrial, IsShutIsland, IsTriedItem, ShutIslandOf}
use Rattle.closing_pass.proofs.Closings.{history_grows, joins_on, some_same}
use Rattle.closing_pass.proofs.Fewer.{falls, single}
use Rattle.closing_pass.proofs.Helped.{fewer_open}
use Rattle.closing_pass.proofs.Joining.{joins_by}

-- an item that the offer adds disagrees with the item
abbrev pub IsClashed : BoardOf → Offer → Item → Type 0
IsClashed b o x = Any (λ (n : Item). Agrees b.design n x → ⊥) (added b.design (given b) o)

-- what the laws of offers that make way say
abbrev pub MayTakeOut : Type 0
MayTakeOut = (m : Mesh) (via_cost : ℕ) (b : BoardOf) (o : Offer) (x : Item) → IsBoard b → Ascends b.items
    → IsPlainCopper b.design → FitsDesign b.design m → o.base ≤ length b.history → o.worker ≤ CLOSER
    → o.net < length b.design.nets → IsLeastOffer m via_cost b o → o.penalty ≡ None → o.rip ≡ x.id ∷ []
    → o.shoves ≡ [] → Contains b.items x → x.fixed ≡ false → IsClashed b o x → MayBeMade b o

abbrev pub MayMoveAside : Type 0
MayMoveAside = (m : Mesh) (via_cost : ℕ) (b : BoardOf) (o : Offer) (item : Item) (r : ℕ) (up : Bool)
    (chain : List Point) → IsBoard b → Ascends b.items → IsPlainCopper b.design → FitsDesign b.design m
    → o.base ≤ length b.history → o.worker ≤ CLOSER → o.net < length b.design.nets → IsLeastOffer m via_cost b o
    → o.penalty ≡ None → Contains b.items item → IsWire item.metal → IsShove b.design m b.items item r up chain
    → o.shoves ≡ (record { id = item.id; chain = chain }) ∷ [] → o.rip ≡ [] → item.fixed ≡ false
    → IsClashed b o item → MayBeMade b o

-- ---- items of a board
pub known_item : (b : BoardOf) → IsBoard b → (a : Item) → Contains b.items a → slice_get (given b) a.id ≡ Some a
known_item b kept a h =
    All-contains (λ (y : Item). slice_get (given b) y.id ≡ Some y) b.items a (found_now b kept) h

-- the wire of an offer that moves it aside is the item of that id
pub record MovesIt (m : Mesh) (b : BoardOf) (x : Item) (o : Offer) : Type 0 where
  pub wire : IsWire x.metal
  pub r : ℕ
  pub up : Bool
  pub chain : List Point
  pub shove : IsShove b.design m b.items x r up chain
  pub shoves_are : o.shoves ≡ record { id = x.id; chain = chain } ∷ []
  pub no_rip : o.rip ≡ []

pub moves_it : (m : Mesh) (b : BoardOf) (x : Item) (o : Offer) → IsBoard b → Contains b.items x
    → MovesAside m b o x.id → MovesIt m b x o
moves_it m b x o kept there a =
    let same : a.item ≡ x = one_item b.items (ascends_now b kept) a.item x a.there there a.id_is in
    record {
      wire = subst (λ (y : Item). IsWire y.metal) same a.wire;
      r = a.r;
      up = a.up;
      chain = a.chain;
      shove = subst (λ (y : Item). IsShove b.design m b.items y a.r a.up a.chain) same a.shove;
      shoves_are = a.shoves_are;
      no_rip = a.no_rip;
    }

-- ---- in the way
module _ (m : Mesh) (b : BoardOf) (x : Item) (o : Offer) (kept : IsBoard b) (there : Contains b.items x) where
  here : (P : Item → Type 0) → IsSomeAnd (slice_get (given b) x.id) P → P x
  here P h = subst (λ (q : Option Item). IsSomeAnd q P) (known_item b kept x there) h

  -- a well formed offer makes way past an item that is in its way
  pub in_the_way : TakesOut o x.id ⊎ MovesAside m b o x.id → IsWellFormed (known b) o → IsInTheWay (known b) o x
  in_the_way (inl out) formed =
      here (IsInTheWay (known b) o) (All-head (λ y. IsSomeAnd (slice_get (given b) y) (IsInTheWay (known b) o)) x.id []
      (subst (λ (ids : List ℕ). All (λ y. IsSomeAnd (slice_get (given b) y) (IsInTheWay (known b) o)) ids) out.rip_is
      formed.rips.each))
  in_the_way (inr aside) formed =
      let s : Shoved = record { id = x.id; chain = aside.chain } in
      let shovable : IsShovable (known b) o s x = here (IsShovable (known b) o s)
      (All-head (λ (t : Shoved). IsSomeAnd (slice_get (given b) t.id) (IsShovable (known b) o t)) s []
      (subst (λ (ts : List Shoved). All (λ (t : Shoved). IsSomeAnd (slice_get (given b) t.id)
      (IsShovable (known b) o t))
      ts) aside.shoves_are formed.shoves.each)) in
      shovable.in_the_way

  pub gone_it : TakesOut o x.id ⊎ MovesAside m b o x.id → gone o ≡ x.id ∷ []
  gone_it (inl out) = λ i. out.rip_is i ++ map (λ (s : Shoved). s.id) (out.no_shove i)
  gone_it (inr aside) = λ i. aside.no_rip i ++ map (λ (s : Shoved). s.id) (aside.shoves_are i)

  -- what is moved aside keeps its net
  pub comes_back : (n : ℕ) → x.net ≡ Some n → TakesOut o x.id ⊎ MovesAside m b o x.id
      → All (λ (a : Item). a.net ≡ Some n) (replaced b.design (given b) o)
  comes_back n net_is (inl out) =
      subst (λ (ss : List Shoved). All (λ (a : Item). a.net ≡ Some n)
      (replaced_from b.design (given b) (length (given b) + length o.add) ss)) (sym out.no_shove)
      (All-nil (λ (a : Item). a.net ≡ Some n))
  comes_back n net_is (inr aside) =
      let next = length (given b) + length o.add in
      let item_is : item_at (given b) x.id ≡ x = get_or_from_slice_get (given b) x.id x _ (known_item b kept x there) in
      subst (λ (ss : List Shoved). All (λ (a : Item). a.net ≡ Some n) (replaced_from b.design (given b) next ss))
      (sym aside.shoves_are)
      (All-cons (λ (a : Item). a.net ≡ Some n) (reshaped b.design next aside.chain (item_at (given b) x.id)) []
      (ap (λ (y : Item). y.net) item_is ∙ net_is) (All-nil (λ (a : Item). a.net ≡ Some n)))

-- ---- two offers that change the same
module _ (b : BoardOf) (p o : Offer) (net_is : p.net ≡ o.net) (add_is : p.add ≡ o.add) (rip_is : p.rip ≡ o.rip)
    (shoves_are : p.shoves ≡ o.shoves) where
  abbrev d : Design
  d = b.design

  same_added : added d (given b) p ≡ added d (given b) o
  same_added = λ i. added_from d (net_is i) (length (given b)) (add_is i)

  same_new : new_items d (given b) p ≡ new_items d (given b) o
  same_new = λ i. same_added i
      ++ replaced_from d (given b) (length (given b) + length (add_is i)) (shoves_are i)

  same_items : (joined b p).items ≡ (joined b o).items
  same_items = λ i. without (rip_is i ++ map (λ (s : Shoved). s.id) (shoves_are i)) b.items ++ same_new i

  given_on : (q : Offer) → given (joined b q) ≡ given b ++ new_items d (given b) q
  given_on q = ap (λ (r : Past). r.given) (past_more d b.start b.history
      (Join q (length (given b)) (length (given b) + length (new_items d (given b) q))))

  same_given : given (joined b p) ≡ given (joined b o)
  same_given = given_on p ∙ ap (λ (xs : List Item). given b ++ xs) same_new ∙ sym (given_on o)

  pub same_rejoins : (m : Mesh) (via_cost net most : ℕ) (walks : List Walk)
      → Rejoins d m via_cost net most (joined b p).items (length (given (joined b p))) walks
      → Rejoins d m via_cost net most (joined b o).items (length (given (joined b o))) walks
  same_rejoins m via_cost net most walks h =
      subst (λ (y : List Item × List Item). Rejoins d m via_cost net most y.0 (length y.1) walks)
      (λ i. (same_items i, same_given i)) h

  pub same_way : (x : Item) → IsInTheWay (known b) p x → IsClashed b o x
  same_way x h = subst (λ (xs : List Item). Any (λ (n : Item). Agrees d n x → ⊥) xs) same_added h.disagrees

-- ---- a trial
module _ (s : ShutIslandOf) (x : Item) (o : Offer) (n : ℕ)
    (inv : IsShutIsland s.lat s.via_cost s.board s.island s.others s.cut) (kept : IsBoard s.board)
    (tried : IsTriedItem s x) (net_is : x.net ≡ Some n) (trial : IsPastTrial s x o) where
  abbrev b : BoardOf
  b = s.board

  apart : n ≢ o.net
  apart e = tried.other.apart (some_same tried.other.own s.island.net
      (sym tried.other.own_is ∙ net_is ∙ ap (λ (k : ℕ). Some k) (e ∙ trial.closer.net_is)))

  islands : AreIslands b.design b.items o.net inv.stands.found
  islands = subst (λ (k : ℕ). AreIslands b.design b.items k inv.stands.found) (sym trial.closer.net_is)
      inv.stands.islands

  joins : JoinsLeast s.lat s.via_cost b o s.island (remove inv.stands.found inv.place)
  joins = subst (λ (os : List Island). JoinsLeast s.lat s.via_cost b o s.island os) inv.stands.others_are
      trial.lays.joins

  never : ¬ (o.worker < 16)
  never less = let w : o.worker ≡ 16 = trial.closer.worker_is in omega (arith, w, less)

  least : IsLeastOffer s.lat s.via_cost b o
  least = record {
    found = inv.stands.found;
    islands = islands;
    place = inv.place;
    island = s.island;
    island_is = inv.stands.island_is;
    first = λ less. absurd (never less);
    joins = joins;
    chooses = subst (Chooses s.lat b o) (sym trial.closer.penalty_is) (λ less. absurd (never less));
  }

  net_there : o.net < length b.design.nets
  net_there = subst (λ (k : ℕ). k < length b.design.nets) (sym trial.closer.net_is) inv.net_there

  -- an offer that changes the same and is well formed shows that this one may be made
  pub may_of : MayTakeOut → MayMoveAside → (p : Offer) → p.net ≡ o.net → p.add ≡ o.add → p.rip ≡ o.rip
      → p.shoves ≡ o.shoves → IsWellFormed (known b) p → MayBeMade b o
  may_of may_out may_aside p same_net add_is rip_is shoves_are formed = by trial.aside
    where
      up : Ascends b.items
      up = ascends_now b kept

      base : o.base ≤ length b.history
      base = let e = trial.closer.base_is in omega (arith, e)

      worker : o.worker ≤ 16
      worker = let e : o.worker ≡ 16 = trial.closer.worker_is in omega (arith, e)

      way : IsInTheWay (known b) p x → IsClashed b o x
      way = same_way b p o same_net add_is rip_is shoves_are x

      by : TakesOut o x.id ⊎ MovesAside s.lat b o x.id → MayBeMade b o
      by (inl out) =
          let first : TakesOut p x.id = record { rip_is = rip_is ∙ out.rip_is; no_shove = shoves_are ∙ out.no_shove } in
          may_out s.lat s.via_cost b o x kept up inv.can.plain inv.can.fits base worker net_there least
          trial.closer.penalty_is out.rip_is out.no_shove tried.there tried.routed
          (way (in_the_way s.lat b x p kept tried.there (inl first) formed))
      by (inr aside) =
          let it = moves_it s.lat b x o kept tried.there aside in
          let first : MovesAside s.lat b p x.id = record {
            item = aside.item;
            there = aside.there;
            id_is = aside.id_is;
            wire = aside.wire;
            r = aside.r;
            up = aside.up;
            chain = aside.chain;
            shove = aside.shove;
            shoves_are = shoves_are ∙ aside.shoves_are;
            no_rip = rip_is ∙ aside.no_rip;
          } in
          may_aside s.lat s.via_cost b o x it.r it.up it.chain kept up inv.can.plain inv.can.fits base worker net_there
          least trial.closer.penalty_is tried.there it.wire it.shove it.shoves_are it.no_rip
          tried.routed (way (in_the_way s.lat b x p kept tried.there (inr first) formed))

  pub is_trial : MayTakeOut → MayMoveAside → IsTrial s.lat s.via_cost b o n
  is_trial may_out may_aside = record {
    net_there =
        let of : IsItemOf b.design x =
        All-contains (IsItemOf b.design) b.items x (serves_now b kept).items_fit tried.there in
        subst (λ (q : Option ℕ). IfSome q (IsNetOf b.design)) net_is of.net_in_range;
    closer = record {
      worker_is = trial.closer.worker_is;
      penalty_is = trial.closer.penalty_is;
      base_is = trial.closer.base_is;
      net_is = refl;
    };
    least = least;
    takes = inr (x.id, trial.aside);
    may = may_of may_out may_aside o refl refl refl refl;
  }

  -- a board after it that is found is helped
  pub helped : (c : BoardOf) → IsBoard c → HasTried s.lat s.via_cost b o n c → IsHelped s.lat s.via_cost b c
  helped c kept_c h =
      let first = joins_by 16 s.lat s.via_cost b o kept trial.closer.worker_is trial.closer.penalty_is
      trial.closer.base_is least (inr (x.id, trial.aside)) in
      let closes = joins_on 16 s.lat s.via_cost b (joined b o) c first h.joins.closes in
      let entry = Join o (length (given b)) (length (given b) + length (new_items b.design (given b) o)) in
      let more = history_grows 16 s.lat s.via_cost (joined b o) c h.joins.closes in
      let one = length-append b.history (entry ∷ []) in
      record {
        closes = closes;
        longer = omega (arith, more, one);
        fewer = λ i k old new. fewer_open s.lat s.via_cost b c o x n falls single kept (ascends_now b kept)
            (serves_now b kept)
            (subst (λ (e : Design). Serves c.items e) closes.design_stays (serves_now c kept_c))
            tried.there tried.routed net_is apart (gone_it s.lat b x o kept tried.there trial.aside)
            (comes_back s.lat b x o kept tried.there n net_is trial.aside) h.joins.grows inv.stands.found inv.place
            s.island islands inv.stands.island_is h.formed joins net_there h.follows.before h.follows.islands
            (subst (λ (e : Design). HasAtMost e c.items n (length h.follows.before)) closes.design_stays h.few) i k old
            (subst (λ (e : Design). IsOpenCount e c.items k) closes.design_stays new);
      }

  -- where none is, no such offer helps
  pub none_helps : MayTakeOut → MayMoveAside
      → (IsWellFormed (known b) o → (walks : List Walk) → ¬ (Follows s.lat s.via_cost b o n walks)) → (p : Offer)
      (walks : List Walk) → p.add ≡ o.add → p.rip ≡ o.rip → p.shoves ≡ o.shoves
      → ¬ (Helps s.lat s.via_cost b s.island s.others x.id p walks)
  none_helps may_out may_aside never_follows p walks add_is rip_is shoves_are help =
      let same_net : p.net ≡ o.net = help.closer.net_is ∙ sym trial.closer.net_is in
      let may = may_of may_out may_aside p same_net add_is rip_is shoves_are help.formed in
      let same : help.item ≡ x =
      one_item b.items (ascends_now b kept) help.item x help.there tried.there help.id_is in
      let n_is : help.net ≡ n =
      some_same help.net n (sym help.net_is ∙ ap (λ (y : Item). y.net) same ∙ net_is) in
      never_follows may.formed walks (record {
        before = help.before;
        islands = subst (λ (k : ℕ). AreIslands b.design b.items k help.before) n_is help.islands;
        rejoins = subst (λ (k : ℕ). Rejoins b.design s.lat s.via_cost k (length help.before) (joined b o).items
            (length (given (joined b o))) walks) n_is
            (same_rejoins b p o same_net add_is rip_is shoves_are s.lat s.via_cost help.net (length help.before) walks
            help.rejoins);
      })
