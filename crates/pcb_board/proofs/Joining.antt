-- A board that takes an offer stays a board.
use Rattle.std.proofs.Common.{◌≡◌, inl, inr, ℕ, ◌+◌, ◌<◌, ◌≤◌, true, Some, refl, sym, ◌∙◌}
use Rattle.std.proofs.Common.{ap, subst, List, [], ◌∷◌, ◌++◌, length, get_or, arith, length-append}
use Rattle.std.specs.Prelude.{All, Contains, slice_get}
use Rattle.std.specs.Option.{IsSomeAnd}
use Rattle.std.proofs.lemmas.Bool.{cases_lt}
use Rattle.std.proofs.lemmas.Option.{same_Some, slice_get_within}
use Rattle.std.proofs.lemmas.List.Kept.{AllPairs-filter}
use Rattle.pcb_model.specs.Copper.{Ascends}
use Rattle.pcb_board.proofs.Order.{AreNumberedFrom, ascends_behind}
use Rattle.std.proofs.lemmas.List.Elements.{All-append, All-filter, All-weaker, All-contains, Contains-append_cases}
use Rattle.std.proofs.lemmas.List.Elements.{Contains-append_right}
use Rattle.std.specs.Prelude.{not}
use Rattle.pcb_model.specs.declared.item.Item.{Item}
use Rattle.pcb_model.specs.Pairs.{Agrees}
use Rattle.pcb_model.specs.Board.{IsLegal, IsRouted, IsLaid, IsMade, AreInside}
use Rattle.board_offers.specs.declared.offer.Shoved.{Shoved}
use Rattle.board_offers.specs.declared.offer.Offer.{Offer}
use Rattle.pcb_board.specs.declared.answer.Entry.{Entry}
use Rattle.pcb_board.specs.declared.answer.Entry.TheVariants.{Join}
use Rattle.board_offers.specs.Items.{names, without, shoved_ids, gone, new_items, joined_items}
use Rattle.pcb_board.specs.Boards.{BoardOf, Past, given, past, replayed}
use Rattle.board_offers.specs.Offers.{IsInTheWay, IsWellFormed}
use Rattle.board_offers.specs.Troubles.{wanted}
use Rattle.pcb_board.specs.declared.answer.Answer.{Answer}
use Rattle.pcb_board.specs.declared.answer.Answer.TheVariants.{Committed, Stale, Wrong, Malformed, Full}
use Rattle.pcb_board.specs.Answers.{Step, IsHeard, IsClearOn, known, joined}
use Rattle.pcb_board.specs.Keeping.{IsBoard}
use Rattle.board_offers.specs.Given.{IsGiven}
use Rattle.board_offers.proofs.Lists.{in_later, found_at, all_from, that, look_left, look_right, look_cases}
use Rattle.board_offers.proofs.Lists.{named_in, in_named, HasItem, on_item, mapped, map_there}
use Rattle.pcb_board.proofs.Legal.{Exchanges, exchanged_legal}
use Rattle.board_offers.proofs.New.{IsNew, new_at, new_routed, new_id, new_given, new_inside, new_laid, WasShoved}
use Rattle.board_offers.proofs.New.{was_shoved}
use Rattle.pcb_board.proofs.Formed.{formed_behind, one_offer}
use Rattle.pcb_board.proofs.Past.{past_more, replay_before, replay_all, replay_last}

module _ (b : BoardOf) (o : Offer) (swap : (x y : Item) → Agrees b.design x y → Agrees b.design y x)
    (board : IsBoard b) (heard : IsHeard b o) (clear : (x : ℕ) → IsClearOn b o x) where
  abbrev come : List Item
  come = new_items b.design (given b) o

  now_is : (past b.design b.start b.history).items ≡ b.items
  now_is = sym (replay_all b.design b.start b.history (length b.history) (omega arith)) ∙ board.replays

  -- an item of the board is the one that its id was given
  given_at : (a : Item) → Contains b.items a → slice_get (given b) a.id ≡ Some a
  given_at a there =
      All-contains (λ (x : Item). slice_get (given b) x.id ≡ Some x) b.items a
      (subst (λ (xs : List Item). All (λ (x : Item). slice_get (given b) x.id ≡ Some x) xs) board.replays
      (board.from_given (length b.history) (omega arith))) there

  legal_now : IsLegal b.design b.items
  legal_now = subst (IsLegal b.design) board.replays (board.legal (length b.history) (omega arith))

  in_the_way_routed : (x : ℕ) (a : Item) → slice_get (given b) x ≡ Some a
      → IsSomeAnd (slice_get (given b) x) (IsInTheWay (known b) o) → IsRouted a
  in_the_way_routed x a is h =
      let t = that (slice_get (given b) x) (IsInTheWay (known b) o) h in
      subst IsRouted (same_Some t.value a (sym t.is ∙ is)) t.holds.routed

  was : (s : Shoved) → Contains o.shoves s
      → WasShoved b.design (given b) (length b.history) o board.sound board.given_are heard.formed s
  was = was_shoved b.design (given b) (length b.history) o board.sound board.given_are heard.formed

  gone_routed : (a : Item) → Contains b.items a → names (gone o) a.id ≡ true → IsRouted a
  gone_routed a there named = elim (Contains-append_cases o.rip (shoved_ids o) a.id (named_in (gone o) a.id named)) [
    | inl ripped ↦ in_the_way_routed a.id a (given_at a there)
        (All-contains (λ x. IsSomeAnd (slice_get (given b) x)
        (IsInTheWay (known b) o)) o.rip a.id heard.formed.rips.each ripped)
    | inr shoved ↦
        let m = mapped (λ (s : Shoved). s.id) o.shoves a.id shoved in
        let w = was m.from m.there in
        subst IsRouted (same_Some w.old a (sym w.old_is ∙ ap (λ (x : ℕ). slice_get (given b) x) m.is
        ∙ given_at a there)) w.fine.in_the_way.routed
  ]

  -- a shoved item is on the board
  shoved_on : (s : Shoved) → Contains o.shoves s → HasItem b.items s.id
  shoved_on s there =
      on_item b.items s.id ((clear s.id).there (in_named (wanted o) s.id
      (in_later o.from s.id (o.to ∷ gone o)
      (in_later o.to s.id (gone o) (Contains-append_right o.rip (shoved_ids o) s.id
      (map_there (λ (t : Shoved). t.id) o.shoves s there))))))

  shoved_laid : (s : Shoved) → Contains o.shoves s → (old : Item) → slice_get (given b) s.id ≡ Some old
      → IsLaid b.design old
  shoved_laid s there old is =
      let on = shoved_on s there in
      let same : on.item ≡ old = same_Some on.item old
      (sym (given_at on.item on.there) ∙ ap (λ (x : ℕ). slice_get (given b) x) on.id_is ∙ is) in
      let w = was s there in
      let routed : IsRouted old = subst IsRouted (same_Some w.old old (sym w.old_is ∙ is)) w.fine.in_the_way.routed in
      subst (IsLaid b.design) same (All-contains
      (λ (a : Item). IsRouted a → IsLaid b.design a) b.items on.item legal_now.laid on.there
      (subst IsRouted (sym same) routed))

  -- what holds of each new item
  each_new : (P : Item → Type 0) → ((j : ℕ) (a : Item) → slice_get come j ≡ Some a → IsNew b.design (given b) o j a
      → P a) → All P come
  each_new P says = all_from P come (λ a there. let f = found_at come a there in
      says f.place a f.there (new_at b.design (given b) o f.place a f.there))

  exchanges : Exchanges b.design b.items (gone o) come
  exchanges = record {
    gone_routed = all_from (λ (a : Item). names (gone o) a.id ≡ true → IsRouted a) b.items gone_routed;
    come_routed = each_new IsRouted (λ j a at is. new_routed b.design (given b)
        (length b.history) o board.sound board.given_are heard.formed j a is);
    agree = λ a there stays k x within. swap (get_or come k x) a ((clear a.id).agrees a there refl stays k x within);
    agree_new = heard.formed.agree.each;
    inside = each_new (λ (a : Item). AreInside b.design.bounds a.pieces)
        (λ j a at is. new_inside b.design (given b)
        (length b.history) o board.sound board.given_are heard.formed j a at);
    laid = each_new (IsLaid b.design) (λ j a at is. new_laid b.design (given b)
        (length b.history) o board.sound board.given_are heard.formed shoved_laid j a is);
    made = each_new (IsMade b.design) (λ j a at is.
        (new_given b.design (given b) (length b.history) o board.sound board.given_are heard.formed j a is).made
        (new_routed b.design (given b) (length b.history) o board.sound board.given_are heard.formed j a is));
  }

  joined_legal : IsLegal b.design (joined_items b.design (given b) b.items o)
  joined_legal = exchanged_legal b.design b.items come (gone o) legal_now exchanges

  -- ---- the board with the entry
  abbrev entry : Entry
  entry = Join o (length (given b)) (length (given b) + length come)

  pub given_is : given (joined b o) ≡ given b ++ come
  given_is = ap (λ (p : Past). p.given) (past_more b.design b.start b.history entry)

  pub last_is : (n : ℕ) → n ≡ length b.history + 1
      → replayed (joined b o) n ≡ joined_items b.design (given b) b.items o
  last_is n is =
      replay_last b.design b.start b.history entry n is
      ∙ ap (λ (xs : List Item). joined_items b.design (given b) xs o) now_is

  pub before_is : (n : ℕ) → n ≤ length b.history → replayed (joined b o) n ≡ replayed b n
  before_is n le = replay_before b.design b.start b.history entry n le

  new_found : (a : Item) → Contains come a → slice_get (given b ++ come) a.id ≡ Some a
  new_found a there =
      let f = found_at come a there in
      let id_is : a.id ≡ length (given b) + f.place =
      new_id b.design (given b) (length b.history) o board.sound board.given_are heard.formed f.place a
      (new_at b.design (given b) o f.place a f.there) in
      subst (λ (x : ℕ). slice_get (given b ++ come) x ≡ Some a) (sym id_is)
      (look_right (given b) come f.place a f.there)

  abbrev IsFound : Item → Type 0
  IsFound a = slice_get (given b ++ come) a.id ≡ Some a

  old_found : (n : ℕ) → n ≤ length b.history → All IsFound (replayed b n)
  old_found n le = All-weaker (λ (a : Item). slice_get (given b) a.id ≡ Some a) IsFound
      (λ a h. look_left (given b) come a.id a h) (replayed b n) (board.from_given n le)

  last_found : All IsFound (joined_items b.design (given b) b.items o)
  last_found =
      All-append IsFound (without (gone o) b.items) come
      (All-filter (λ (a : Item). not (names (gone o) a.id)) IsFound b.items
      (subst (λ (xs : List Item). All IsFound xs) board.replays (old_found (length b.history) (omega arith))))
      (all_from IsFound come new_found)

  from_given : (n : ℕ) → n ≤ length (joined b o).history → All IsFound (replayed (joined b o) n)
  from_given n le = elim (cases_lt n (length b.history + 1)) [
    | inl before ↦ subst (λ (xs : List Item). All IsFound xs) (sym (before_is n (omega (arith, before))))
        (old_found n (omega (arith, before)))
    | inr last ↦ subst (λ (xs : List Item). All IsFound xs)
        (sym (last_is n (omega (arith, last, le, length-append b.history (entry ∷ []))))) last_found
  ]

  legal_each : (n : ℕ) → n ≤ length (joined b o).history → IsLegal b.design (replayed (joined b o) n)
  legal_each n le = elim (cases_lt n (length b.history + 1)) [
    | inl before ↦ subst (IsLegal b.design) (sym (before_is n (omega (arith, before))))
        (board.legal n (omega (arith, before)))
    | inr last ↦ subst (IsLegal b.design)
        (sym (last_is n (omega (arith, last, le, length-append b.history (entry ∷ []))))) joined_legal
  ]

  given_each : (x : ℕ) (a : Item) → slice_get (given b ++ come) x ≡ Some a → IsGiven b.design x a
  given_each x a at = elim (look_cases (given b) come x a at) [
    | inl left ↦ board.given_are x a left
    | inr right ↦
        subst (λ (n : ℕ). IsGiven b.design n a) (sym right.place_is)
        (new_given b.design (given b) (length b.history) o board.sound board.given_are heard.formed right.place a
        (new_at b.design (given b) o right.place a right.there))
  ]

  -- ---- the order of ids
  now_found : All (λ (a : Item). slice_get (given b) a.id ≡ Some a) b.items
  now_found = subst (λ (xs : List Item). All (λ (a : Item). slice_get (given b) a.id ≡ Some a) xs) board.replays
      (board.from_given (length b.history) (omega arith))

  come_numbered : AreNumberedFrom come (length (given b))
  come_numbered j a at = new_id b.design (given b) (length b.history) o board.sound board.given_are heard.formed j a
      (new_at b.design (given b) o j a at)

  joined_ascends : Ascends (joined_items b.design (given b) b.items o)
  joined_ascends =
      ascends_behind (without (gone o) b.items) come (length (given b))
      (AllPairs-filter (λ (a c : Item). a.id < c.id) (λ (a : Item). not (names (gone o) a.id)) b.items
      (subst Ascends board.replays (board.ascends (length b.history) (omega arith))))
      (All-filter (λ (a : Item). not (names (gone o) a.id)) (λ (a : Item). a.id < length (given b)) b.items
      (All-weaker (λ (a : Item). slice_get (given b) a.id ≡ Some a) (λ (a : Item). a.id < length (given b))
      (λ a at. slice_get_within (given b) a.id a at) b.items now_found))
      come_numbered

  ascends_each : (n : ℕ) → n ≤ length (joined b o).history → Ascends (replayed (joined b o) n)
  ascends_each n le = elim (cases_lt n (length b.history + 1)) [
    | inl before ↦ subst Ascends (sym (before_is n (omega (arith, before)))) (board.ascends n (omega (arith, before)))
    | inr last ↦ subst Ascends
        (sym (last_is n (omega (arith, last, le, length-append b.history (entry ∷ []))))) joined_ascends
  ]

  pub joined_board : IsBoard (joined b o)
  joined_board = record {
    sound = board.sound;
    formed = formed_behind b (joined b o) entry (record {
      design_stays = refl;
      start_stays = refl;
      cap_stays = refl;
      entries = entry ∷ [];
      history_is = refl;
    }) refl board.formed (λ p first after is. subst (IsWellFormed (known b))
        (one_offer o p (length (given b)) (length (given b) + length come) first after is) heard.formed);
    ascends = ascends_each;
    dropped = board.dropped;
    starts = board.starts;
    cap_within = board.cap_within;
    replays = last_is (length (joined b o).history) (length-append b.history (entry ∷ []));
    legal = legal_each;
    given_are = λ x a at. given_each x a (subst (λ (xs : List Item). slice_get xs x ≡ Some a) given_is at);
    from_given = λ n le. subst (λ (xs : List Item). All (λ (a : Item). slice_get xs a.id ≡ Some a)
        (replayed (joined b o) n)) (sym given_is) (from_given n le);
  }

-- so does one that answers otherwise: it is as it was
pub kept_by : (b c : BoardOf) (o : Offer) (a : Answer) → ((x y : Item) → Agrees b.design x y → Agrees b.design y x)
    → IsBoard b → Step b o a c → IsBoard c
kept_by b c o Full swap board h = subst IsBoard (sym h.1) board
kept_by b c o (Malformed clause) swap board h = subst IsBoard (sym h.2) board
kept_by b c o (Stale item commit) swap board h = subst IsBoard (sym h.2) board
kept_by b c o (Wrong item commit) swap board h = subst IsBoard (sym h.2) board
kept_by b c o (Committed number) swap board h = subst IsBoard (sym h.3) (joined_board b o swap board h.0 h.1)
