-- What the closing pass leaves, with rounds or without: what stays of the board, and what its joins are.
use Rattle.std.proofs.Common.{◌≡◌, ◌∙◌, ◌⊎◌, inl, inr, ℕ, ◌<◌, ◌≤◌, Bool, true, false, List, [], ◌∷◌, ◌++◌, length}
use Rattle.std.proofs.Common.{Option, Some, None, All, sym, ap, subst, arith, refl}
use Rattle.std.specs.Prelude.{flat_map, remove, slice_get}
use Rattle.std.specs.List.{AllZip}
use Rattle.std.proofs.lemmas.Bool.{cases_lt}
use Rattle.std.proofs.lemmas.List.Elements.{All-cons, All-nil}
use Rattle.pcb_islands.proofs.Elements.{look_same}
use Rattle.route_lattice.specs.Mesh.{Mesh}
use Rattle.board_offers.specs.declared.offer.Offer.{Offer}
use Rattle.board_offers.specs.declared.offer.TheConstants.{CLOSER}
use Rattle.pcb_board.specs.declared.answer.Entry.{Entry}
use Rattle.pcb_board.specs.declared.answer.Entry.TheVariants.{Join, Back}
use Rattle.pcb_board.specs.Boards.{BoardOf, board_at}
use Rattle.pcb_board.specs.Keeping.{Grows}
use Rattle.pcb_board.proofs.Formed.{board_before}
use Rattle.pcb_board.proofs.Runs.{grows_on}
use Rattle.cut_certificate.specs.declared.cut.Cut.{Cut}
use Rattle.closing_pass.specs.declared.closed.Closed.{Closed}
use Rattle.closing_pass.specs.Closing.{IsClosedOut, JoinsBy}
use Rattle.closing_pass.specs.Settled.{TakesOne}
use Rattle.wide_pass.specs.declared.close.Wide.{Wide}
use Rattle.wide_pass.specs.Rounds.{IsClosedWide, IsWideEntry, IsWideSize, JoinsWide, Rounds}
use Rattle.wide_pass.proofs.Joined.{joined_at, shuts}
use Rattle.route_run.specs.declared.run.Shut.{Shut}
use Rattle.route_run.specs.declared.facts.Facts.{Facts}
use Rattle.route_run.specs.Runs.{AreLeast, AreWide, ClosesBy, IsRun, IsWideShut, MayJoin, RunOf}
use Rattle.route_run.specs.inner.Passing.{IsShutOut}

-- ---- what stays
closes_grow : (worker : ℕ) (m : Mesh) (via_cost : ℕ) (old new : BoardOf) → JoinsBy worker m via_cost old new
    → Grows old new
closes_grow worker m via_cost old new c = record {
  design_stays = c.design_stays;
  start_stays = c.start_stays;
  cap_stays = c.cap_stays;
  entries = c.entries;
  history_is = c.history_is;
}

joins_grow : (m : Mesh) (via_cost : ℕ) (old new : BoardOf) → JoinsWide m via_cost old new → Grows old new
joins_grow m via_cost old new c = record {
  design_stays = c.design_stays;
  start_stays = c.start_stays;
  cap_stays = c.cap_stays;
  entries = c.entries;
  history_is = c.history_is;
}

rounds_grow : (m : Mesh) (via_cost : ℕ) (bs : List BoardOf) (old new : BoardOf) → Rounds m via_cost bs old new
    → Grows old new
rounds_grow m via_cost [] old new r = closes_grow CLOSER m via_cost old new r
rounds_grow m via_cost (b ∷ bs) old new r =
    grows_on old r.0 new (closes_grow CLOSER m via_cost old r.0 r.1)
    (grows_on r.0 b new (joins_grow m via_cost r.0 b r.2) (rounds_grow m via_cost bs b new r.3))

pub closing_grows : (diagonal : Bool) (m : Mesh) (via_cost : ℕ) (old new : BoardOf)
    → ClosesBy diagonal m via_cost old new → Grows old new
closing_grows false m via_cost old new c = closes_grow CLOSER m via_cost old new c
closing_grows true m via_cost old new c = rounds_grow m via_cost c.boards old new c.rounds

-- ---- each join takes at most one item
-- entry n + 1, if it is a join, rests on the board before it, and takes out or moves aside at most one item
record TakesAt (m : Mesh) (b : BoardOf) (n : ℕ) : Type 0 where
  each : (o : Offer) (first after : ℕ) → slice_get b.history n ≡ Some (Join o first after)
      → (o.base ≡ n) × TakesOne m (board_at b o.base) o

-- so it does on later boards
takes_later : (m : Mesh) (n : ℕ) (b c : BoardOf) → Grows b c → n < length b.history → TakesAt m b n → TakesAt m c n
takes_later m n b c grows early h = record {
  each = λ o first after there.
      let on_b : slice_get b.history n ≡ Some (Join o first after) =
      sym (look_same b.history grows.entries n early) ∙ (ap (λ (es : List Entry). slice_get es n)
      (sym grows.history_is) ∙ there) in
      let j = h.each o first after on_b in
      let at = board_before b c o.base grows (let e = j.0 in omega (arith, e, early)) in
      (j.0, subst (λ (x : BoardOf). TakesOne m x o) (sym at) j.1);
}

closes_takes : (worker : ℕ) (m : Mesh) (via_cost : ℕ) (old new : BoardOf) → JoinsBy worker m via_cost old new
    → (n : ℕ) → length old.history ≤ n → TakesAt m new n
closes_takes worker m via_cost old new c n le =
    record { each = λ o first after there. let h = (c.least n le).each o first after there in (h.0, h.2) }

offer_in : Option Entry → Offer → Offer
offer_in (Some (Join o first after)) other = o
offer_in (Some (Back to)) other = other
offer_in None other = other

wide_takes : (m : Mesh) (via_cost n : ℕ) (b : BoardOf) → IsWideEntry m via_cost b n → TakesAt m b n
unfolding offer_in
wide_takes m via_cost n b w = record {
  each = λ o first after there.
      let same : w.offer ≡ o = ap (λ (e : Option Entry). offer_in e o) (sym w.entry_is ∙ there) in (
        ap (λ (x : Offer). x.base) (sym same) ∙ w.base_is,
        subst (λ (x : Offer). TakesOne m (board_at b x.base) x) same (inl w.wide.takes),
      );
}

rounds_take : (m : Mesh) (via_cost : ℕ) (bs : List BoardOf) (old new : BoardOf) → Rounds m via_cost bs old new
    → (n : ℕ) → length old.history ≤ n → TakesAt m new n
rounds_take m via_cost [] old new r n le = closes_takes CLOSER m via_cost old new r n le
rounds_take m via_cost (b ∷ bs) old new r n le = elim (cases_lt n (length b.history)) [
  | inr late ↦ rounds_take m via_cost bs b new r.3 n late
  | inl early ↦ takes_later m n b new (rounds_grow m via_cost bs b new r.3) early
      (elim (cases_lt n (length r.0.history)) [
        | inr wide ↦ wide_takes m via_cost n b (r.2.each n wide early)
        | inl legal ↦ takes_later m n r.0 b (joins_grow m via_cost r.0 b r.2) legal
            (closes_takes CLOSER m via_cost old r.0 r.1 n le)
      ])
]

closing_at : (diagonal : Bool) (m : Mesh) (via_cost : ℕ) (old new : BoardOf) → ClosesBy diagonal m via_cost old new
    → (n : ℕ) → length old.history ≤ n → TakesAt m new n
closing_at false m via_cost old new c n le = closes_takes CLOSER m via_cost old new c n le
closing_at true m via_cost old new c n le = rounds_take m via_cost c.boards old new c.rounds n le

pub closing_takes : (diagonal : Bool) (m : Mesh) (via_cost : ℕ) (old new : BoardOf)
    → ClosesBy diagonal m via_cost old new → (n : ℕ) → length old.history ≤ n → (o : Offer) (first after : ℕ)
    → slice_get new.history n ≡ Some (Join o first after) → TakesOne m (board_at new o.base) o
closing_takes diagonal m via_cost old new c n le o first after at =
    ((closing_at diagonal m via_cost old new c n le).each o first after at).1

-- ---- each join is one that may be made
pub closing_joins : (diagonal : Bool) (m : Mesh) (via_cost : ℕ) (old new : BoardOf)
    → ClosesBy diagonal m via_cost old new → (n : ℕ) → length old.history ≤ n → (o : Offer) (first after : ℕ)
    → slice_get new.history n ≡ Some (Join o first after)
    → (o.base ≤ n) × MayJoin diagonal m via_cost (board_at new o.base) o
closing_joins false m via_cost old new c n le o first after at =
    let l = (c.least n le).each o first after at in (let e = l.0 in omega (arith, e), l.1)
closing_joins true m via_cost old new c n le o first after at =
    let l = (joined_at m via_cost old new c n le).each o first after at in (let e = l.0 in omega (arith, e), l.1)

-- a least offer may be made, with moves at 45 degrees too
may_join : (diagonal : Bool) (m : Mesh) (via_cost : ℕ) (b : BoardOf) (o : Offer) → MayJoin false m via_cost b o
    → MayJoin diagonal m via_cost b o
may_join false m via_cost b o least = least
may_join true m via_cost b o least = inl least

pub least_may : (diagonal : Bool) (m : Mesh) (via_cost : ℕ) (b : BoardOf) → AreLeast false m via_cost b
    → AreLeast diagonal m via_cost b
least_may diagonal m via_cost b are = record {
  each = λ n o first after at.
      let l = are.each n o first after at in (l.0, may_join diagonal m via_cost (board_at b o.base) o l.1);
}

-- ---- what is left
pub shut_plain : (m : Mesh) (via_cost tries : ℕ) (old : BoardOf) (c : Closed) → IsClosedOut m via_cost tries old c
    → IsShutOut m via_cost tries false old (record { closed = c; wide = None })
shut_plain m via_cost tries old c h = record {
  closes = h.closes;
  count = h.count;
  ends = h.ends;
  settled = h.settled;
  fewer = h.fewer;
  wide = refl;
}

pub shut_wide : (m : Mesh) (via_cost tries : ℕ) (old : BoardOf) (c : Closed) (sizes : List ℕ)
    → IsClosedWide m via_cost tries old (record { closed = c; wide = sizes })
    → IsShutOut m via_cost tries true old (record { closed = c; wide = Some sizes })
shut_wide m via_cost tries old c sizes h = record {
  closes = h.closes;
  count = h.count;
  ends = h.ends;
  settled = h.settled;
  fewer = h.fewer;
  wide = h.wide;
}

-- ---- no walk leads on
module _ (m : Mesh) (via_cost : ℕ) (b : BoardOf) where
  abbrev IsShutIn : Cut → Type 0
  IsShutIn cut = IsWideShut b.design m b.items via_cost cut

  shut_one : (cut : Cut) (size : ℕ) → IsWideSize b.design m b.items via_cost cut size → IsShutIn cut
  shut_one cut size w = record {
    found = w.found;
    islands = w.islands;
    place = w.place;
    island = w.island;
    island_is = w.island_is;
    pin_is = w.pin_is;
    shut = λ from to hops start goal leads. shuts b.design m b.items via_cost w.island (remove w.found w.place)
        w.nodes from to hops w.reached start goal leads;
  }

  shut_each : (cuts : List Cut) (sizes : List ℕ) → AllZip (IsWideSize b.design m b.items via_cost) cuts sizes
      → All IsShutIn cuts
  shut_each [] sizes h = All-nil IsShutIn
  shut_each (cut ∷ cuts) [] h = absurd h
  shut_each (cut ∷ cuts) (size ∷ sizes) h =
      All-cons IsShutIn cut cuts (shut_one cut size h.0) (shut_each cuts sizes h.1)

  shut_told : (cuts : List Cut) (wide : Option (List ℕ)) → AreWide true m via_cost b cuts wide → All IsShutIn cuts
  shut_told cuts None h = absurd h
  shut_told cuts (Some sizes) h = shut_each cuts sizes h

  pub all_shut : (diagonal : Bool) (cuts : List Cut) (wide : Option (List ℕ)) → diagonal ≡ true
      → AreWide diagonal m via_cost b cuts wide → All IsShutIn cuts
  all_shut diagonal cuts wide e h =
      shut_told cuts wide (subst (λ (x : Bool). AreWide x m via_cost b cuts wide) e h)
