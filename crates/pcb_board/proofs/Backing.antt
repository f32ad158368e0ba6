-- A board that goes back stays a board.
use Rattle.std.proofs.Common.{◌≡◌, inl, inr, ℕ, ◌+◌, ◌<◌, ◌≤◌, zero, suc, Some, refl, sym, ◌∙◌, ap, subst}
use Rattle.std.proofs.Common.{List, [], ◌∷◌, length, take, arith, length-append}
use Rattle.std.specs.Prelude.{All, slice_get, slice_index_or}
use Rattle.std.proofs.lemmas.Bool.{cases_lt}
use Rattle.std.proofs.lemmas.List.{append-nil, get_or_append_left, get_or_push}
use Rattle.pcb_model.specs.declared.item.Item.{Item}
use Rattle.pcb_model.specs.declared.design.Design.{Design}
use Rattle.pcb_model.specs.Board.{IsLegal}
use Rattle.pcb_model.specs.Copper.{Ascends}
use Rattle.pcb_board.specs.declared.answer.Entry.{Entry}
use Rattle.pcb_board.specs.declared.answer.Entry.TheVariants.{Join, Back}
use Rattle.pcb_board.specs.Boards.{BoardOf, Past, opening, then_items, next, past_from, past, replay, given, replayed}
use Rattle.board_offers.specs.Items.{new_items, joined_items}
use Rattle.pcb_board.specs.Answers.{taken_back}
use Rattle.pcb_board.specs.Keeping.{IsBoard}
use Rattle.pcb_board.proofs.Formed.{formed_behind, no_join}
use Rattle.pcb_board.proofs.Past.{past_more, replay_before, replay_last}

-- the last of the boards, at place k, has the items
record IsTidy (p : Past) (k : ℕ) : Type 0 where
  long : length p.boards ≡ k + 1
  last : slice_index_or p.boards k [] ≡ p.items

then_tidy : (p : Past) (new items : List Item) (k : ℕ) → IsTidy p k → IsTidy (then_items p new items) (k + 1)
then_tidy p new items k h = record {
  long = let l = h.long in omega (arith, l, length-append p.boards (items ∷ []));
  last = get_or_push p.boards items [] (k + 1) h.long;
}

next_tidy : (d : Design) (p : Past) (e : Entry) (k : ℕ) → IsTidy p k → IsTidy (next d p e) (k + 1)
next_tidy d p (Join o first after) k h = then_tidy p (new_items d p.given o) (joined_items d p.given p.items o) k h
next_tidy d p (Back to) k h = then_tidy p [] (slice_index_or p.boards to []) k h

then_stays : (p : Past) (new items : List Item) (n : ℕ) → n < length p.boards
    → slice_index_or (then_items p new items).boards n [] ≡ slice_index_or p.boards n []
then_stays p new items n less = get_or_append_left p.boards (items ∷ []) [] n less

next_stays : (d : Design) (p : Past) (e : Entry) (n : ℕ) → n < length p.boards
    → slice_index_or (next d p e).boards n [] ≡ slice_index_or p.boards n []
next_stays d p (Join o first after) n less =
    then_stays p (new_items d p.given o) (joined_items d p.given p.items o) n less
next_stays d p (Back to) n less = then_stays p [] (slice_index_or p.boards to []) n less

-- what was on the board stays known
stays : (d : Design) (p : Past) (es : List Entry) (k n : ℕ) → IsTidy p k → n ≤ k
    → slice_index_or (past_from d p es).boards n [] ≡ slice_index_or p.boards n []
stays d p [] k n h le = refl
stays d p (e ∷ es) k n h le = stays d (next d p e) es (k + 1) n (next_tidy d p e k h) (omega (arith, le))
    ∙ next_stays d p e n (let l = h.long in omega (arith, l, le))

board_at : (d : Design) (p : Past) (es : List Entry) (k m : ℕ) → IsTidy p k → m ≤ length es
    → slice_index_or (past_from d p es).boards (k + m) [] ≡ (past_from d p (take m es)).items
board_at d p es k zero h le =
    ap (λ (n : ℕ). slice_index_or (past_from d p es).boards n []) (let e : k + 0 ≡ k = omega arith in e)
    ∙ stays d p es k k h (omega arith) ∙ h.last
board_at d p [] k (suc m) h le = absurd (omega (arith, le))
board_at d p (e ∷ es) k (suc m) h le =
    ap (λ (n : ℕ). slice_index_or (past_from d (next d p e) es).boards n [])
    (let q : k + suc m ≡ k + 1 + m = omega arith in q)
    ∙ board_at d (next d p e) es (k + 1) m (next_tidy d p e k h) (omega (arith, le))

-- the items after the first entries stand at their number
pub boards_are : (d : Design) (start : List Item) (history : List Entry) (n : ℕ) → n ≤ length history
    → slice_index_or (past d start history).boards n [] ≡ replay d start history n
boards_are d start history n le =
    ap (λ (k : ℕ). slice_index_or (past d start history).boards k []) (let e : n ≡ 0 + n = omega arith in e)
    ∙ board_at d (opening start) history 0 n (record { long = omega arith; last = refl }) le

module _ (b : BoardOf) (to : ℕ) (board : IsBoard b) (le : to ≤ length b.history) where
  abbrev entry : Entry
  entry = Back to

  pub given_is : given (taken_back b to) ≡ given b
  given_is = ap (λ (p : Past). p.given) (past_more b.design b.start b.history entry) ∙ append-nil (given b)

  pub last_is : (n : ℕ) → n ≡ length b.history + 1 → replayed (taken_back b to) n ≡ replayed b to
  last_is n is = replay_last b.design b.start b.history entry n is ∙ boards_are b.design b.start b.history to le

  pub before_is : (n : ℕ) → n ≤ length b.history → replayed (taken_back b to) n ≡ replayed b n
  before_is n less = replay_before b.design b.start b.history entry n less

  -- what holds of each of the earlier boards holds of the last
  each_board : (P : List Item → Type 0) → ((n : ℕ) → n ≤ length b.history → P (replayed b n)) → (n : ℕ)
      → n ≤ length (taken_back b to).history → P (replayed (taken_back b to) n)
  each_board P says n less = elim (cases_lt n (length b.history + 1)) [
    | inl before ↦ subst P (sym (before_is n (omega (arith, before)))) (says n (omega (arith, before)))
    | inr last ↦ subst P (sym (last_is n (omega (arith, last, less, length-append b.history (entry ∷ [])))))
        (says to le)
  ]

  pub back_board : IsBoard (taken_back b to)
  back_board = record {
    sound = board.sound;
    formed = formed_behind b (taken_back b to) entry (record {
      design_stays = refl;
      start_stays = refl;
      cap_stays = refl;
      entries = entry ∷ [];
      history_is = refl;
    }) refl board.formed (λ o first after is. no_join o to first after is);
    ascends = each_board Ascends board.ascends;
    dropped = board.dropped;
    starts = board.starts;
    cap_within = board.cap_within;
    replays = last_is (length (taken_back b to).history) (length-append b.history (entry ∷ []));
    legal = each_board (IsLegal b.design) board.legal;
    given_are = λ x a at. board.given_are x a (subst (λ (xs : List Item). slice_get xs x ≡ Some a) given_is at);
    from_given = each_board (λ (xs : List Item). All
        (λ (a : Item). slice_get (given (taken_back b to)) a.id ≡ Some a) xs)
        (λ n less. subst (λ (g : List Item). All (λ (a : Item). slice_get g a.id ≡ Some a) (replayed b n))
        (sym given_is) (board.from_given n less));
  }
