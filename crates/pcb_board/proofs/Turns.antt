-- A board that goes back: the marks of the ids that stand, and what it keeps.
use Rattle.std.proofs.Common.{◌≡◌, ◌≢◌, ◌⊎◌, inl, inr, ℕ, ◌+◌, ◌-◌, ◌<◌, ◌≤◌, zero, suc, Bool, true, false, true≢false}
use Rattle.std.proofs.Common.{Option, Some, refl, sym, ◌∙◌, ap, subst, List, [], ◌∷◌, ◌++◌, length, get_or, take}
use Rattle.std.proofs.Common.{arith, cond, map, set}
use Rattle.std.proofs.Common.{length-append}
use Rattle.std.specs.Prelude.{All, Contains, IfSome, ◌||◌, slice_get, slice_index_or}
use Rattle.std.specs.List.{filter}
use Rattle.std.proofs.lemmas.Bool.{cases_eq, cases_lt}
use Rattle.std.proofs.lemmas.List.{append-nil, get_or-set_other, get_or-set_same, length-take-le, map_more, take_more}
use Rattle.std.proofs.lemmas.List.Elements.{filter_more}
use Rattle.std.proofs.lemmas.Option.{slice_get_within, slice_get_read}
use Rattle.pcb_model.specs.declared.item.Item.{Item}
use Rattle.pcb_model.specs.declared.design.Design.{Design}
use Rattle.board_offers.specs.declared.offer.Shoved.{Shoved}
use Rattle.board_offers.specs.declared.offer.Offer.{Offer}
use Rattle.board_offers.specs.Items.{names, is_on, without, gone, new_items, joined_items}
use Rattle.board_offers.specs.Given.{AreGiven}
use Rattle.board_offers.proofs.Lists.{found_at, on_item, in_from, in_named, named_in}
use Rattle.board_offers.proofs.Troubles.{names_on, or_cases, or_left, or_right, is_on_in}
use Rattle.board_offers.proofs.New.{IsNew, new_at}
use Rattle.pcb_board.specs.declared.answer.Entry.{Entry}
use Rattle.pcb_board.specs.declared.answer.Entry.TheVariants.{Join, Back}
use Rattle.pcb_board.specs.Boards.{BoardOf, Past, past, next, given, replayed, IsLast, Changes}
use Rattle.pcb_board.specs.inner.Renewing.{AreMarked}
use Rattle.pcb_board.specs.Indexing.{AreIndexed}
use Rattle.pcb_board.specs.inner.Turning.{IsJoinAt, LeadBack, AreMarks, ArePut, IsRangePut}
use Rattle.pcb_board.specs.Indexing.{AreNumbered}
use Rattle.pcb_board.specs.inner.Turning.{MarksJoin}
use Rattle.pcb_board.specs.inner.Turning.{AreTurned, is_marked, EndsWithin, IsReached}
use Rattle.pcb_board.specs.Answers.{taken_back}
use Rattle.pcb_board.specs.Keeping.{IsBoard}
use Rattle.pcb_board.proofs.Past.{past_more, given_grows, taken_one, take_less}
use Rattle.pcb_board.proofs.Index.{is_false, bool_cases, on_append, off_named, on_others, off_right}
use Rattle.pcb_board.proofs.Order.{AreNumberedFrom, standing_is}
use Rattle.pcb_board.proofs.Numbered.{new_long}
use Rattle.pcb_board.proofs.Changing.{changes_last, stays_last}
use Rattle.pcb_board.proofs.Backing.{boards_are, given_is, last_is, before_is}

-- ---- the ids of new items
pub new_numbered : (d : Design) (g : List Item) (o : Offer) → AreNumberedFrom (new_items d g o) (length g)
new_numbered d g o j a at = by (new_at d g o j a at)
  where
    by : IsNew d g o j a → a.id ≡ length g + j
    by (inl add) = ap (λ (b : Item). b.id) add.is
    by (inr (i, e, rep)) =
        ap (λ (b : Item). b.id) rep.is
        ∙ (let k : length g + length o.add + i ≡ length g + j = omega (arith, e) in k)

new_off : (d : Design) (g : List Item) (o : Offer) (x : ℕ) → (x < length g) ⊎ (length g + length (new_items d g o) ≤ x)
    → is_on x (new_items d g o) ≡ false
new_off d g o x out = is_false (is_on x (new_items d g o)) (λ e.
    let h = on_item (new_items d g o) x e in
    let f = found_at (new_items d g o) h.item h.there in
    let is : h.item.id ≡ length g + f.place = new_numbered d g o f.place h.item f.there in
    let within : f.place < length (new_items d g o) = slice_get_within (new_items d g o) f.place h.item f.there in
    let id_is : h.item.id ≡ x = h.id_is in
    elim out [
      | inl below ↦ absurd (omega (arith, is, id_is, below))
      | inr above ↦
          absurd (omega (arith, is, id_is, above, within))
    ])

record IsThere (items : List Item) (j : ℕ) : Type 0 where
  item : Item
  at : slice_get items j ≡ Some item

there : (items : List Item) (j : ℕ) → j < length items → IsThere items j
there [] j within = absurd (omega (arith, within))
there (a ∷ items) zero within = record { item = a; at = refl }
there (a ∷ items) (suc j) within = let h = there items j (omega (arith, within)) in record { item = h.item; at = h.at }

new_on : (d : Design) (g : List Item) (o : Offer) (x : ℕ) → length g ≤ x → x < length g + length (new_items d g o)
    → is_on x (new_items d g o) ≡ true
new_on d g o x past less =
    let h = there (new_items d g o) (x - length g) (omega (arith, past, less)) in
    is_on_in (new_items d g o) x h.item (in_from (new_items d g o) (x - length g) h.item h.at)
    (new_numbered d g o (x - length g) h.item h.at
    ∙ (let e : length g + (x - length g) ≡ x = omega (arith, past) in e))

-- ---- marks
pub put_both : (xs ys : List ℕ) (v : Bool) (old mid new : List Bool) → ArePut xs v old mid → ArePut ys v mid new
    → ArePut (xs ++ ys) v old new
put_both xs ys v old mid new first second = record {
  long = second.long ∙ first.long;
  named = λ x d within named. by x d within (bool_cases (names ys x)) named;
  others = λ x d within free.
      second.others x d (let l = first.long in omega (arith, l, within)) (right x free)
      ∙ first.others x d within (left x free);
}
  where
    left : (x : ℕ) → names (xs ++ ys) x ≡ false → names xs x ≡ false
    left x free = is_false (names xs x) (λ e. true≢false
        (sym (names_on xs ys x ∙ or_left (names xs x) (names ys x) e) ∙ free))

    right : (x : ℕ) → names (xs ++ ys) x ≡ false → names ys x ≡ false
    right x free = is_false (names ys x)
        (λ e. true≢false (sym (names_on xs ys x ∙ or_right (names xs x) (names ys x) e) ∙ free))

    front : (x : ℕ) → names (xs ++ ys) x ≡ true → names ys x ≡ false → names xs x ≡ true
    front x named free = elim (or_cases (names xs x) (names ys x) (sym (names_on xs ys x) ∙ named)) [
      | inl here ↦ here
      | inr there ↦ absurd (true≢false (sym there ∙ free))
    ]

    by : (x : ℕ) (d : Bool) → x < length old → (names ys x ≡ true) ⊎ (names ys x ≡ false) → names (xs ++ ys) x ≡ true
        → slice_index_or new x d ≡ v
    by x d within (inl here) named = second.named x d (let l = first.long in omega (arith, l, within)) here
    by x d within (inr free) named =
        second.others x d (let l = first.long in omega (arith, l, within)) free
        ∙ first.named x d within (front x named free)

-- no marks are put
pub put_none : (v : Bool) (marks : List Bool) → ArePut [] v marks marks
put_none v marks = record {
  long = refl;
  named = λ x d within named. absurd (true≢false (sym named));
  others = λ x d within free. refl;
}

-- one more id's mark is put
pub put_more : (ids : List ℕ) (i : ℕ) (v : Bool) (old mid new : List Bool) → i < length ids
    → ArePut (take i ids) v old mid → ArePut (get_or ids i 0 ∷ []) v mid new → ArePut (take (i + 1) ids) v old new
put_more ids i v old mid new within first second =
    subst (λ (xs : List ℕ). ArePut xs v old new) (sym (take_more ids i 0 within))
    (put_both (take i ids) (get_or ids i 0 ∷ []) v old mid new first second)

-- one more shoved item's mark is put
pub put_shoved : (shoves : List Shoved) (i : ℕ) (s : Shoved) (v : Bool) (old mid new : List Bool) → i < length shoves
    → s ≡ get_or shoves i s → ArePut (map (λ (t : Shoved). t.id) (take i shoves)) v old mid
    → ArePut (s.id ∷ []) v mid new → ArePut (map (λ (t : Shoved). t.id) (take (i + 1) shoves)) v old new
put_shoved shoves i s v old mid new within is first second =
    subst (λ (xs : List ℕ). ArePut xs v old new)
    (sym (map_more (λ (t : Shoved). t.id) shoves i s within
    ∙ ap (λ (t : Shoved). map (λ (u : Shoved). u.id) (take i shoves) ++ t.id ∷ []) (sym is)))
    (put_both (map (λ (t : Shoved). t.id) (take i shoves)) (s.id ∷ []) v old mid new first second)

-- ---- the numbers of entries
-- a list of one id names it alone
one_named : (id x : ℕ) → names (id ∷ []) x ≡ true → id ≡ x
one_named id x named = by (named_in (id ∷ []) x named)
  where
    by : Contains (id ∷ []) x → id ≡ x
    by (zero, within, is) = is
    by (suc k, within, is) = absurd (omega (arith, within))

-- an id behind others gets the number
mark_last : (front : List ℕ) (id number : ℕ) (old mid : List ℕ) → id < length mid → AreMarked front number old mid
    → AreMarked (front ++ id ∷ []) number old (set mid id number)
mark_last front id number old mid inside first = record {
  named = λ x d less named. elim (cases_eq x id) [
    | inl same ↦ subst (λ (y : ℕ). slice_index_or (set mid id number) y d ≡ number) (sym same)
        (get_or-set_same mid id number d inside)
    | inr other ↦ get_or-set_other mid id x number d other ∙ first.named x d less (before x named other)
  ];
  others = λ x d less free.
      get_or-set_other mid id x number d (λ e. true≢false (sym (names_on front (id ∷ []) x
      ∙ or_right (names front x) (names (id ∷ []) x) (in_named (id ∷ []) x (0, omega arith, sym e))) ∙ free))
      ∙ first.others x d less (is_false (names front x) (λ e. true≢false
      (sym (names_on front (id ∷ []) x ∙ or_left (names front x) (names (id ∷ []) x) e) ∙ free)));
}
  where
    before : (x : ℕ) → names (front ++ id ∷ []) x ≡ true → x ≢ id → names front x ≡ true
    before x named other = elim (or_cases (names front x) (names (id ∷ []) x)
        (sym (names_on front (id ∷ []) x) ∙ named)) [
          | inl here ↦ here
          | inr there ↦ absurd (other (sym (one_named id x there)))
        ]

-- one more id gets the number
pub mark_more : (ids : List ℕ) (i number : ℕ) (old mid new : List ℕ) → i < length ids → get_or ids i 0 < length mid
    → AreMarked (take i ids) number old mid → new ≡ set mid (get_or ids i 0) number
    → AreMarked (take (i + 1) ids) number old new
mark_more ids i number old mid new within inside first is =
    subst (λ (xs : List ℕ). AreMarked xs number old new) (sym (take_more ids i 0 within))
    (subst (AreMarked (take i ids ++ get_or ids i 0 ∷ []) number old) (sym is)
    (mark_last (take i ids) (get_or ids i 0) number old mid inside first))

-- one more item passes a filter
pub passes_more : (p : Item → Bool) (xs ys zs : List Item) (i : ℕ) (a : Item) → i < length xs → a ≡ get_or xs i a
    → p a ≡ true → ys ≡ filter p (take i xs) → zs ≡ ys ++ a ∷ [] → zs ≡ filter p (take (i + 1) xs)
passes_more p xs ys zs i a within is passes before new =
    new ∙ ap (λ (us : List Item). us ++ a ∷ []) before
    ∙ sym (filter_more p xs i a within ∙ ap (λ (us : List Item). filter p (take i xs) ++ us)
    (subst (λ (b : Item). cond (p b) (b ∷ []) [] ≡ a ∷ []) is (ap (λ (t : Bool). cond t (a ∷ []) []) passes)))

-- one more item doesn't
pub fails_more : (p : Item → Bool) (xs ys zs : List Item) (i : ℕ) (a : Item) → i < length xs → a ≡ get_or xs i a
    → p a ≡ false → ys ≡ filter p (take i xs) → zs ≡ ys → zs ≡ filter p (take (i + 1) xs)
fails_more p xs ys zs i a within is fails before same =
    same ∙ before ∙ sym (append-nil (filter p (take i xs)))
    ∙ sym (filter_more p xs i a within ∙ ap (λ (us : List Item). filter p (take i xs) ++ us)
    (subst (λ (b : Item). cond (p b) (b ∷ []) [] ≡ []) is (ap (λ (t : Bool). cond t (a ∷ []) []) fails)))

-- a join's marks after it
pub join_marks : (d : Design) (g items : List Item) (o : Offer) (first after : ℕ) (old new : List Bool)
    → first ≡ length g → after ≡ first + (length o.add + length o.shoves)
    → AreMarks old items → MarksJoin (Join o first after) old new → AreMarks new (joined_items d g items o)
join_marks d g items o first after old new first_is after_is h (out, put, range) = record {
  each = λ x d within. by x d (let l = range.long in let m = put.long in omega (arith, within, l, m))
      (cases_lt x first) (cases_lt x after);
}
  where
    end_is : after ≡ length g + length (new_items d g o)
    end_is = let l = new_long d g o in omega (arith, first_is, after_is, l)

    on_is : (x : ℕ) → is_on x (joined_items d g items o) ≡
        (is_on x (without (gone o) items) || is_on x (new_items d g o))
    on_is x = on_append x (without (gone o) items) (new_items d g o)

    stays : (x : ℕ) (d : Bool) → x < length old → slice_index_or out x d ≡ is_on x (without (gone o) items)
    stays x d within = elim (bool_cases (names (gone o) x)) [
      | inl named ↦ put.named x d within named ∙ sym (off_named (gone o) x items named)
      | inr free ↦ put.others x d within free ∙ h.each x d within ∙ sym (on_others (gone o) x items free)
    ]

    aside : (x : ℕ) (e : Bool) → x < length old → slice_index_or new x e ≡ slice_index_or out x e
        → is_on x (new_items d g o) ≡ false → slice_index_or new x e ≡ is_on x (joined_items d g items o)
    aside x e within same off =
        same ∙ stays x e within
        ∙ sym (on_is x ∙ off_right (is_on x (without (gone o) items)) (is_on x (new_items d g o)) off)

    by : (x : ℕ) (e : Bool) → x < length old → (x < first) ⊎ (first ≤ x) → (x < after) ⊎ (after ≤ x)
        → slice_index_or new x e ≡ is_on x (joined_items d g items o)
    by x e within (inl below) _ =
        aside x e within (range.below x e below) (new_off d g o x (inl (omega (arith, below, first_is))))
    by x e within (inr from) (inr above) =
        aside x e within (range.above x e above) (new_off d g o x (inr (omega (arith, above, end_is))))
    by x e within (inr from) (inl before) =
        range.within x e from before
        ∙ sym (on_is x ∙ or_right (is_on x (without (gone o) items)) (is_on x (new_items d g o))
        (new_on d g o x (omega (arith, from, first_is)) (omega (arith, before, end_is))))

-- ---- entries one by one
module _ (b : BoardOf) (numbered : AreNumbered b) where
  abbrev until : ℕ → Past
  until k = past b.design b.start (take k b.history)

  taken : (k : ℕ) (e : Entry) → slice_get b.history k ≡ Some e → take (k + 1) b.history ≡ take k b.history ++ e ∷ []
  taken k e at = taken_one b.history k e at

  step : (k : ℕ) (e : Entry) → slice_get b.history k ≡ Some e → until (k + 1) ≡ next b.design (until k) e
  step k e at =
      ap (λ (es : List Entry). past b.design b.start es) (taken k e at)
      ∙ past_more b.design b.start (take k b.history) e

  pub join_step : (k : ℕ) (o : Offer) (first after : ℕ) → slice_get b.history k ≡ Some (Join o first after)
      → replayed b (k + 1) ≡ joined_items b.design (until k).given (replayed b k) o
  join_step k o first after at = ap (λ (p : Past). p.items) (step k (Join o first after) at)

  pub back_step : (k to : ℕ) → slice_get b.history k ≡ Some (Back to) → replayed b (k + 1) ≡ replayed b to
  back_step k to at =
      let le : to ≤ k = numbered.each k (Back to) at in
      let within : k < length b.history = slice_get_within b.history k (Back to) at in
      ap (λ (p : Past). p.items) (step k (Back to) at)
      ∙ boards_are b.design b.start (take k b.history) to
      (let l = length-take-le k b.history (omega (arith, within)) in omega (arith, l, le))
      ∙ ap (λ (es : List Entry). (past b.design b.start es).items) (take_less to k b.history le)

  -- the new ids of a join are below the number of those that are given by now
  pub join_ends : (k : ℕ) (e : Entry) → slice_get b.history k ≡ Some e → EndsWithin e (length (given b))
  join_ends k (Back to) at = tt
  join_ends k (Join o first after) at =
      let n = numbered.each k (Join o first after) at in
      let grown = ap (λ (p : Past). length p.given) (step k (Join o first after) at) in
      let long = length-append (until k).given (new_items b.design (until k).given o) in
      let count = new_long b.design (until k).given o in
      let first_is : first ≡ length (until k).given = n.0 in
      let after_is : after ≡ first + (length o.add + length o.shoves) = n.1 in
      let all : length (until (k + 1)).given ≤ length (given b) = given_grows b.design b.start b.history (k + 1) in
      (omega (arith, after_is), omega (arith, grown, long, count, first_is, after_is, all))

  -- the marks after one more of the joins
  pub marks_more : (k : ℕ) (e : Entry) (old new : List Bool) → IsJoinAt b k → slice_get b.history k ≡ Some e
      → AreMarks old (replayed b k) → MarksJoin e old new → AreMarks new (replayed b (k + 1))
  marks_more k (Join o first after) old new join at h marks =
      let n = numbered.each k (Join o first after) at in
      subst (AreMarks new) (sym (join_step k o first after at))
      (join_marks b.design (until k).given (replayed b k) o first after old new n.0 n.1 h marks)
  marks_more k (Back to) old new join at h marks = never (sym join.there ∙ at)
    where
      never : Some (Join join.offer join.first join.after) ≡ Some (Back to) → AreMarks new (replayed b (k + 1))
      never e = cc

-- ---- the way back
pub lead_more : (b : BoardOf) (n : ℕ) (js : List ℕ) (k j : ℕ) → k ≡ j + 1 → LeadBack b n js k → IsJoinAt b j
    → LeadBack b n (js ++ j ∷ []) j
lead_more b n [] k j is h join = (h ∙ ap (replayed b) is, join, refl)
lead_more b n (i ∷ js) k j is h join = (h.0, h.1, lead_more b i js k j is h.2 join)

pub lead_same : (b : BoardOf) (n : ℕ) (js : List ℕ) (k m : ℕ) → replayed b k ≡ replayed b m → LeadBack b n js k
    → LeadBack b n js m
lead_same b n [] k m same h = h ∙ same
lead_same b n (i ∷ js) k m same h = (h.0, h.1, lead_same b i js k m same h.2)

-- an entry that the code reads
pub read_at : (xs ys : List Entry) (k : ℕ) (x e : Entry) → xs ≡ ys → 0 < k → k ≤ length ys → x ≡ get_or xs (k - 1) x
    → x ≡ e → slice_get ys (k - 1) ≡ Some e
read_at xs ys k x e same some le is e_is =
    subst (λ (zs : List Entry). slice_get zs (k - 1) ≡ Some e) same
    (slice_get_read xs (length xs) (k - 1) x refl (let l = ap length same in omega (arith, l, some, le)) is
    ∙ ap (λ (y : Entry). Some y) e_is)

pub lead_join : (b : BoardOf) (n : ℕ) (js : List ℕ) (k : ℕ) (o : Offer) (first after : ℕ) → 0 < k
    → slice_get b.history (k - 1) ≡ Some (Join o first after) → LeadBack b n js k
    → LeadBack b n (js ++ (k - 1) ∷ []) (k - 1)
lead_join b n js k o first after some at h =
    lead_more b n js k (k - 1) (omega (arith, some)) h (record { offer = o; first = first; after = after; there = at })

pub lead_back : (b : BoardOf) (numbered : AreNumbered b) (n : ℕ) (js : List ℕ) (k to : ℕ) → 0 < k
    → slice_get b.history (k - 1) ≡ Some (Back to) → LeadBack b n js k → LeadBack b n js to
lead_back b numbered n js k to some at h =
    let e : k ≡ k - 1 + 1 = omega (arith, some) in
    lead_same b n js k to (ap (replayed b) e ∙ back_step b numbered (k - 1) to at) h

-- the last of the joins is the first to be made again
pub record Leads (b : BoardOf) (n : ℕ) (js : List ℕ) (j k : ℕ) : Type 0 where
  pub same : replayed b k ≡ replayed b j
  pub join : IsJoinAt b j
  pub rest : LeadBack b n js (j + 1)

pub lead_last : (b : BoardOf) (n : ℕ) (js : List ℕ) (j k : ℕ) → LeadBack b n (js ++ j ∷ []) k → Leads b n js j k
lead_last b n [] j k h = record { same = sym h.2; join = h.1; rest = h.0 }
lead_last b n (i ∷ js) j k h =
    let l = lead_last b i js j k h.2 in record { same = l.same; join = l.join; rest = (h.0, h.1, l.rest) }

-- ---- the start
pub start_marks : (items : List Item) (old new : List Bool) (d : Design) (g : List Item) (n : ℕ)
    → AreGiven d items → items ≡ take n g → n ≤ length g → length old ≡ length g
    → ((x : ℕ) (e : Bool) → x < length old → slice_index_or old x e ≡ false) → IsRangePut 0 n old new
    → AreMarks new items
start_marks items old new d g n are is le long blank range = record {
  each = λ x e within. by x e (let l = range.long in omega (arith, l, within)) (cases_lt x n);
}
  where
    count : length items ≡ n
    count = ap length is ∙ length-take-le n g le

    by : (x : ℕ) (e : Bool) → x < length old → (x < n) ⊎ (n ≤ x) → slice_index_or new x e ≡ is_on x items
    by x e within (inl below) =
        let h = there items x (omega (arith, below, count)) in
        range.within x e (omega arith) below
        ∙ sym (is_on_in items x h.item (in_from items x h.item h.at) (are x h.item h.at).numbered)
    by x e within (inr above) =
        range.above x e above ∙ blank x e within
        ∙ sym (is_false (is_on x items) (λ on.
        let h = on_item items x on in
        let f = found_at items h.item h.there in
        let is_at : h.item.id ≡ f.place = (are f.place h.item f.there).numbered in
        let less : f.place < length items = slice_get_within items f.place h.item f.there in
        let same : h.item.id ≡ x = h.id_is in
        absurd (omega (arith, above, count, is_at, less, same))))

-- ---- what a board that goes back keeps
module _ (b : BoardOf) (to : ℕ) (board : IsBoard b) (le : to ≤ length b.history) where
  abbrev after : List Item
  after = replayed b to

  found_after : All (λ (a : Item). slice_get (given b) a.id ≡ Some a) after
  found_after = board.from_given to le

  -- the marked items are those after the first entries
  pub marked_is : (marks : List Bool) → length marks ≡ length (given b) → AreMarks marks after
      → filter (λ (a : Item). is_marked marks a.id) (given b) ≡ after
  marked_is marks long h =
      standing_is b.design (given b) after (is_marked marks) board.given_are (board.ascends to le) found_after
      (λ a there.
      let f = found_at (given b) a there in
      let id_is : a.id ≡ f.place = (board.given_are f.place a f.there).numbered in
      let less : f.place < length (given b) = slice_get_within (given b) f.place a f.there in
      h.each a.id false (omega (arith, id_is, less, long)))

  pub turned_indexed : (items : List Item) (marks : List Bool) (changed later : List ℕ) → AreIndexed b items changed
      → length marks ≡ length items → AreMarks marks after
      → AreTurned b.items marks (length b.history + 1) (length changed) changed later
      → AreIndexed (taken_back b to) items later
  turned_indexed items marks changed later h long marked t = record {
    items_are = h.items_are ∙ sym (given_is b to board le);
    all = t.long ∙ h.all;
    last = λ x n within.
        let inside : x < length changed = let a = h.all in omega (arith, a, within) in
        let mark_is : is_marked marks x ≡ is_on x after = marked.each x false (omega (arith, long, within)) in
        by x n inside within (equal_or_not (is_on x b.items) (is_marked marks x)) mark_is;
  }
    where
      equal_or_not : (p q : Bool) → (p ≡ q) ⊎ (p ≢ q)
      equal_or_not true true = inl refl
      equal_or_not true false = inr true≢false
      equal_or_not false true = inr (λ e. true≢false (sym e))
      equal_or_not false false = inl refl

      by : (x n : ℕ) → x < length changed → x < length items
          → (is_on x b.items ≡ is_marked marks x) ⊎ (is_on x b.items ≢ is_marked marks x)
          → is_marked marks x ≡ is_on x after
          → IsLast (Changes (taken_back b to) x) (length (taken_back b to).history) (slice_index_or later x n)
      by x n inside within (inl same) mark_is =
          subst (IsLast (Changes (taken_back b to) x) (length (taken_back b to).history))
          (sym (t.others x n inside same))
          (stays_last b (taken_back b to) after (length-append b.history _) (before_is b to board le)
          (last_is b to board le)
          board.replays x (slice_index_or changed x n) (sym mark_is ∙ sym same) (h.last x n within))
      by x n inside within (inr differ) mark_is =
          subst (IsLast (Changes (taken_back b to) x) (length (taken_back b to).history))
          (sym (t.turned x n inside differ))
          (changes_last b (taken_back b to) after (length-append b.history _) (before_is b to board le)
          (last_is b to board le)
          board.replays x (λ same. differ (sym same ∙ sym mark_is)))

-- ---- an entry at its place
pub if_there : (P : Entry → Type 0) (o : Option Entry) (e : Entry) → o ≡ Some e → P e → IfSome o P
if_there P o e is h = subst (λ (p : Option Entry). IfSome p P) (sym is) h

pub there_if : (P : Entry → Type 0) (o : Option Entry) (e : Entry) → o ≡ Some e → IfSome o P → P e
there_if P o e is h = subst (λ (p : Option Entry). IfSome p P) is h

pub marks_long : (e : Entry) (old new : List Bool) → MarksJoin e old new → length new ≡ length old
marks_long (Join o first after) old new (out, put, range) = range.long ∙ put.long
marks_long (Back to) old new same = ap length same

-- one of the joins is made again
module _ (b : BoardOf) (numbered : AreNumbered b) (n : ℕ) (joins rest : List ℕ) (j : ℕ) (old : List Bool)
    (is : joins ≡ rest ++ j ∷ []) (h : IsReached b n joins old) where
  last : Leads b n rest j h.k
  last = lead_last b n rest j h.k (subst (λ (js : List ℕ). LeadBack b n js h.k) is h.leads)

  abbrev join_here : Entry
  join_here = Join last.join.offer last.join.first last.join.after

  pub step_within : j < length b.history
  step_within = slice_get_within b.history j join_here last.join.there

  pub step_ends : IfSome (slice_get b.history j) (λ (e : Entry). EndsWithin e (length (given b)))
  step_ends =
      if_there (λ (e : Entry). EndsWithin e (length (given b))) (slice_get b.history j) join_here last.join.there
      (join_ends b numbered j join_here last.join.there)

  made : (new : List Bool) → IfSome (slice_get b.history j) (λ (e : Entry). MarksJoin e old new)
      → MarksJoin join_here old new
  made new marks = there_if (λ (e : Entry). MarksJoin e old new) (slice_get b.history j) join_here last.join.there marks

  pub step_reached : (new : List Bool) → IfSome (slice_get b.history j) (λ (e : Entry). MarksJoin e old new)
      → IsReached b n rest new
  step_reached new marks = record {
    k = j + 1;
    marked = marks_more b numbered j join_here old new last.join last.join.there
        (subst (AreMarks old) last.same h.marked) (made new marks);
    leads = last.rest;
  }

  pub step_long : (new : List Bool) → IfSome (slice_get b.history j) (λ (e : Entry). MarksJoin e old new)
      → length new ≡ length old
  step_long new marks = marks_long join_here old new (made new marks)
