-- Trouble that an offer meets on a later board, and didn't meet before, came in between.
use Rattle.std.proofs.Common.{◌≡◌, inl, inr, ℕ, ◌+◌, ◌-◌, ◌<◌, ◌≤◌, zero, suc, Bool, true, false}
use Rattle.std.proofs.Common.{Some, refl, sym, ◌∙◌, ap, subst, List, ◌++◌, length, arith, length-append}
use Rattle.std.specs.Prelude.{All, Contains, slice_get}
use Rattle.std.proofs.lemmas.Option.{same_Some}
use Rattle.std.proofs.lemmas.List.{length-take-le}
use Rattle.std.proofs.lemmas.List.Elements.{All-contains}
use Rattle.pcb_model.specs.declared.item.Item.{Item}
use Rattle.pcb_model.specs.Pairs.{Agrees}
use Rattle.board_offers.specs.declared.offer.Offer.{Offer}
use Rattle.board_offers.specs.declared.offer.Shoved.{Shoved}
use Rattle.board_offers.specs.Items.{is_on, new_items}
use Rattle.board_offers.specs.Judging.{known_by}
use Rattle.board_offers.specs.Offers.{Known, Named, IsWellFormed, FailsFirst}
use Rattle.board_offers.proofs.Lists.{look_left, on_item}
use Rattle.board_offers.proofs.Troubles.{is_on_in}
use Rattle.pcb_board.specs.declared.answer.Answer.{Answer}
use Rattle.pcb_board.specs.declared.answer.Answer.TheVariants.{Committed, Stale, Wrong, Malformed, Full}
use Rattle.pcb_board.specs.Boards.{BoardOf, given, replayed, board_at, IsCommitOf}
use Rattle.pcb_board.specs.Answers.{known, IsClearOn, Step}
use Rattle.pcb_board.specs.Keeping.{IsBoard, Grows}
use Rattle.pcb_board.proofs.Past.{BeginsWith, given_begins}
use Rattle.least_offer.specs.Least.{MayBeMade}
use Rattle.least_offer.specs.Late.{IsFair}
use Rattle.least_offer.proofs.Alike.{alike_all, agrees_first}
use Rattle.least_offer.proofs.Longer.{shoved_item, new_same, formed_later}

-- ---- clauses
-- where a clause holds, a later one is named
later_named : (n m : ℕ) (Clause Later : Type 0) → Clause → Named n m Clause Later → Later
later_named n m Clause Later holds (inl here) = absurd (here.1 holds)
later_named n m Clause Later holds (inr later) = later.1

-- no clause of a well-formed offer fails
formed_fails_none : (k : Known) (o : Offer) (n : ℕ) → IsWellFormed k o → ¬ (FailsFirst k o n)
formed_fails_none k o n f h =
    later_named n 9 _ _ f.agree (later_named n 8 _ _ f.shoves (later_named n 7 _ _ f.rips
    (later_named n 6 _ _ f.once (later_named n 5 _ _ f.inside (later_named n 4 _ _ f.across
    (later_named n 3 _ _ f.metals (later_named n 2 _ _ f.ends (later_named n 1 _ _ f.timely h))))))))

-- ---- boards in between
-- a value at the end that no step comes to was there from the start
held_back : (f : ℕ → Bool) (t : Bool) (end j n : ℕ) → n + j ≡ end
    → ((k : ℕ) → n ≤ k → k < end → f (k + 1) ≡ t → f k ≡ t) → f end ≡ t → f n ≡ t
held_back f t end zero n at back last =
    subst (λ (k : ℕ). f k ≡ t) (let e : end ≡ n = omega (arith, at) in e) last
held_back f t end (suc j) n at back last =
    back n (omega arith) (omega (arith, at))
    (held_back f t end j (n + 1) (omega (arith, at))
    (λ k le less. back k (omega (arith, le)) less) last)

-- a truth value that isn't false is true
only_true : (a : Bool) → ¬ (a ≡ false) → a ≡ true
only_true true n = refl
only_true false n = absurd (n refl)

-- one that isn't true is false
only_false : (a : Bool) → ¬ (a ≡ true) → a ≡ false
only_false true n = absurd (n refl)
only_false false n = refl

module _ (c : BoardOf) (board : IsBoard c) (n : ℕ) (le : n ≤ length c.history) where
  -- the earlier board
  abbrev b : BoardOf
  b = board_at c n

  -- an id that nothing placed or removed since then is on the board where it was then
  same_since : (x commit : ℕ) → IsCommitOf c x commit → commit ≤ n → is_on x c.items ≡ is_on x b.items
  same_since x commit is early = by (is_on x c.items) refl
    where
      then_too : (t : Bool) → ((k : ℕ) → n ≤ k → k < length c.history → is_on x (replayed c (k + 1)) ≡ t
          → is_on x (replayed c k) ≡ t) → is_on x c.items ≡ t → is_on x (replayed c n) ≡ t
      then_too t back now =
          held_back (λ (k : ℕ). is_on x (replayed c k)) t (length c.history) (length c.history - n) n
          (omega (arith, le)) back (ap (is_on x) board.replays ∙ now)

      by : (t : Bool) → is_on x c.items ≡ t → is_on x c.items ≡ is_on x b.items
      by true now = now ∙ sym (then_too true (λ k late less after.
          only_true (is_on x (replayed c k)) (λ before.
          (is.placed now).none_later k (omega (arith, early, late)) less
          (record { before = before; after = after }))) now)
      by false now = now ∙ sym (then_too false (λ k late less after.
          only_false (is_on x (replayed c k)) (λ before.
          (is.removed now).none_later k (omega (arith, early, late)) less
          (record { before = before; after = after }))) now)

  -- items with ids that were given to them
  abbrev AreThose : List Item → Type 0
  AreThose items = All (λ (a : Item). slice_get (given c) a.id ≡ Some a) items

  -- such are those of the later board
  those_now : AreThose c.items
  those_now = subst AreThose board.replays (board.from_given (length c.history) (omega arith))

  -- an item of the later board whose id was on the earlier one was there
  there_then : (a : Item) → Contains c.items a → is_on a.id b.items ≡ true → Contains b.items a
  there_then a there on =
      let h = on_item b.items a.id on in
      let its : slice_get (given c) h.item.id ≡ Some h.item =
      All-contains (λ (x : Item). slice_get (given c) x.id ≡ Some x) b.items h.item (board.from_given n le) h.there in
      let own : slice_get (given c) a.id ≡ Some a =
      All-contains (λ (x : Item). slice_get (given c) x.id ≡ Some x) c.items a those_now there in
      subst (Contains b.items)
      (same_Some h.item a (sym its ∙ ap (slice_get (given c)) h.id_is ∙ own)) h.there

  -- what was given by then stands before the rest
  begins : BeginsWith (given b) (given c)
  begins = given_begins c.design c.start c.history n

  -- the earlier board has n entries
  long : length b.history ≡ n
  long = length-take-le n c.history le

module _ (c : BoardOf) (board : IsBoard c) (n : ℕ) (le : n ≤ length c.history) (o : Offer)
    (may : MayBeMade (board_at c n) o) where
  -- the earlier board
  abbrev old : BoardOf
  old = board_at c n

  -- the items given since
  abbrev more : BeginsWith (given old) (given c)
  more = begins c board n le

  -- no entry is lost
  entries : length old.history ≤ length c.history
  entries = let e = long c board n le in omega (arith, e, le)

  -- the offer is still well formed
  late_formed : IsWellFormed (known c) o
  late_formed =
      subst (λ (gs : List Item). IsWellFormed (known_by c.design gs (length c.history)) o) (sym more.is)
      (formed_later c.design (given old) more.more (length old.history) (length c.history) o entries may.formed)

  -- the item of an id that is shoved had it then
  shoved_then : (s : Shoved) → Contains o.shoves s → (a : Item) → slice_get (given c) s.id ≡ Some a
      → slice_get (given old) s.id ≡ Some a
  shoved_then s there a at =
      let t =
      shoved_item c.design (given old) more.more (length old.history) (length c.history) o entries may.formed s there in
      let now : slice_get (given c) s.id ≡ Some t.value =
      subst (λ (gs : List Item). slice_get gs s.id ≡ Some t.value) (sym more.is)
      (look_left (given old) more.more s.id t.value t.is) in
      subst (λ (v : Item). slice_get (given old) s.id ≡ Some v) (same_Some t.value a (sym now ∙ at)) t.is

  module _ (x commit : ℕ) (is : IsCommitOf c x commit) (early : commit ≤ n) where
    -- such an id is on the board where it was then
    same : is_on x c.items ≡ is_on x old.items
    same = same_since c board n le x commit is early

    -- its item was there then
    stood : (a : Item) → Contains c.items a → a.id ≡ x → Contains old.items a
    stood a there e =
        there_then c board n le a there
        (subst (λ (y : ℕ). is_on y old.items ≡ true) (sym e) (sym same ∙ is_on_in c.items x a there e))

    -- there is no trouble at an id that nothing placed or removed since
    late_clear : IsClearOn c o x
    late_clear = record {
      there = λ named. same ∙ (may.clear x).there named;
      agrees = λ a there e stays.
          subst (λ (gs : List Item). All (λ (m : Item). Agrees c.design m a) (new_items c.design gs o)) (sym more.is)
          (alike_all (λ (m : Item). Agrees c.design m a) (agrees_first c.design a)
          (new_items c.design (given old) o) (new_items c.design (given old ++ more.more) o)
          (new_same c.design (given old) more.more (length old.history) (length c.history) o entries may.formed)
          ((may.clear x).agrees a (stood a there e) e stays));
      joined = λ a there e s shoved apart was at touch.
          (may.clear x).joined a (stood a there e) e s shoved apart was (shoved_then s shoved was at) touch;
    }

  -- the answer is neither wrong nor malformed
  answer_fair : (a : Answer) (after : BoardOf) → Step c o a after → IsFair a
  answer_fair (Committed number) after step = tt
  answer_fair (Stale item commit) after step = tt
  answer_fair (Wrong item commit) after step =
      let base = may.formed.timely.base in
      let early : commit ≤ n = let e = long c board n le in omega (arith, step.1, base, e) in
      step.0.least.0 (late_clear item commit step.0.commit_is early)
  answer_fair (Malformed clause) after step = formed_fails_none (known c) o clause late_formed step.1
  answer_fair Full after step = tt

-- whatever a later board answers to an offer that might be made on an earlier one is fair
pub is_fair : ((b : BoardOf) → IsBoard b → board_at b (length b.history) ≡ b)
    → ((b c : BoardOf) (n : ℕ) → Grows b c → n ≤ length b.history → board_at c n ≡ board_at b n)
    → (b c after : BoardOf) (o : Offer) (a : Answer) → IsBoard b → IsBoard c → Grows b c → MayBeMade b o
    → Step c o a after → IsFair a
is_fair whole stay b c after o a board later grows may step =
    let n : ℕ = length b.history in
    let e = ap length grows.history_is in
    let same : board_at c n ≡ b = stay b c n grows (omega arith) ∙ whole b board in
    answer_fair c later n (omega (arith, e, length-append b.history grows.entries)) o
    (subst (λ (x : BoardOf). MayBeMade x o) (sym same) may) a after step
