-- What a seat that has all passes knows at the end.
use Rattle.std.proofs.Common.{◌≡◌, ◌≢◌, ◌⊎◌, ℕ, zero, suc, ◌+◌, ◌-◌, ◌<◌, ◌≤◌, Bool, cond, eqb, List, []}
use Rattle.std.proofs.Common.{◌∷◌, ◌++◌, map, length, All, refl, sym, ap, ◌∙◌, subst, inl, inr, ⊎_elim, arith, Option}
use Rattle.std.proofs.Common.{Some, length-append, append_assoc, eq-eqb}
use Rattle.std.proofs.lemmas.Bool.{cases_eq, le-ltb, lt-ltb, cases_order, ne_eqb}
use Rattle.std.proofs.lemmas.List.{append-nil, length-map}
use mathlib.Core.Option as maybe
use mathlib.Core.Option.{some-injective, some-ne-none}
use lib.ListN.{get_elem?}
use Rattle.atomic_table.specs.Table.{Final, Seen}
use Rattle.atomic_table.proofs.Lists.{at_map}
use Rattle.atomic_table.specs.Seated.{TableId}
use Rattle.pcb_board.specs.Boards.{BoardOf}
use Rattle.board_turn.specs.declared.event.Event.{Event}
use Rattle.board_turn.specs.declared.lock.Opening.{Opening}
use Rattle.board_turn.specs.declared.lock.PassView.{PassView}
use Rattle.board_turn.specs.declared.lock.Role.TheVariants.{Free, Holds}
use Rattle.board_turn.specs.declared.lock.View.{View}
use Rattle.board_turn.specs.Events.{Reaches, own, IsPrefix, AllNamed}
use Rattle.board_turn.specs.Turns.{TurnOf, PassOf, turn_of, count_of, Ended}
use Rattle.board_turn.specs.Lock.{Slot}
use Rattle.board_turn.specs.inner.Lock.{named, HaveSeen, FitsRole, HasHolder, Kept}
use Rattle.board_turn.specs.Claims.{one_if, once_below}
use Rattle.board_turn.specs.Seats.{pass_of}
use Rattle.board_turn.proofs.Totals.{total-at, total-two}
use Rattle.board_turn.proofs.Counts.{one_if_same, one_if_most, is_below, below_is}
use Rattle.board_turn.proofs.EventLists.{own-append, extends}

-- f of each number below n, added up
sum_below : (ℕ → ℕ) → ℕ → ℕ
sum_below f zero = 0
sum_below f (suc n) = sum_below f n + f n

-- one number stands once below n, or not at all
counts_once : (x n : ℕ) → sum_below (λ y. one_if (eqb x y)) n ≡ once_below x n
unfolding sum_below
counts_once x zero = sym (ap one_if (le-ltb x 0 (omega arith)))
counts_once x (suc n) =
    let h = counts_once x n in
    ⊎_elim
    (λ (e : x ≡ n). let a = ap one_if (le-ltb x n (omega arith)) in let b = ap one_if (eq-eqb x n e) in
    let c = ap one_if (lt-ltb x (suc n) (omega arith)) in omega (arith, a, b, c))
    (λ r. ⊎_elim
    (λ (l : x < n). let a = ap one_if (lt-ltb x n l) in let b = ap one_if (ne_eqb x n (λ z. omega arith)) in
    let c = ap one_if (lt-ltb x (suc n) (omega arith)) in omega (arith, a, b, c))
    (λ (l : n < x). let a = ap one_if (le-ltb x n (omega arith)) in let b = ap one_if (ne_eqb x n (λ z. omega arith)) in
    let c = ap one_if (le-ltb x (suc n) (omega arith)) in omega (arith, a, b, c))
    r)
    (cases_order x n)

-- two sums are added
sum_below-add : (f g : ℕ → ℕ) (n : ℕ) → sum_below (λ y. f y + g y) n ≡ sum_below f n + sum_below g n
unfolding sum_below
sum_below-add f g zero = refl
sum_below-add f g (suc n) = let h = sum_below-add f g n in omega arith

-- zeros add up to zero
sum_below-none : (n : ℕ) → sum_below (λ y. 0) n ≡ 0
unfolding sum_below
sum_below-none zero = refl
sum_below-none (suc n) = let h = sum_below-none n in omega arith

-- the names below n, each as often as it stands there, are all names
all_counted : (n : ℕ) (ps : List PassView) → ((x : ℕ) → named x ps ≤ once_below x n)
    → sum_below (λ x. named x ps) n ≡ length ps
all_counted n [] h = sum_below-none n
all_counted n (p ∷ ps) h =
    let a = sum_below-add (λ x. one_if (eqb p.name x)) (λ x. named x ps) n in
    let b = counts_once p.name n in
    let z = h p.name in
    let o = one_if_same p.name in
    let c = below_is p.name n (is_below p.name n (omega arith)) in
    let d = all_counted n ps (λ x. let y = h x in omega arith) in
    omega (arith, a, b, c, d)

-- ones and zeros below n add up to n at most
sum_below-most : (f : ℕ → ℕ) (n : ℕ) → ((x : ℕ) → f x ≤ 1) → sum_below f n ≤ n
unfolding sum_below
sum_below-most f zero h = omega arith
sum_below-most f (suc n) h = let a = sum_below-most f n h in let b = h n in omega arith

-- where they add up to n each is one
each_one : (f : ℕ → ℕ) (n : ℕ) → ((x : ℕ) → f x ≤ 1) → sum_below f n ≡ n → (x : ℕ) → x < n → f x ≡ 1
unfolding sum_below
each_one f zero h e x l = absurd (omega arith)
each_one f (suc n) h e x l =
    let a = sum_below-most f n h in
    let b = h n in
    ⊎_elim (λ (q : x ≡ n). ap f q ∙ omega arith) (λ (q : x ≢ n). each_one f n h (omega arith) x (omega arith))
    (cases_eq x n)

-- as many passes as there are names have each name once
pub each_name : (n : ℕ) (ps : List PassView) → ((x : ℕ) → named x ps ≤ once_below x n) → length ps ≡ n → (x : ℕ) → x < n
    → named x ps ≡ 1
each_name n ps h e = each_one (λ x. named x ps) n (λ x. let a = h x in
    let b = one_if_most (Rattle.std.proofs.Common.ltb x n) in omega arith) (all_counted n ps h ∙ e)

-- a name that is counted stands somewhere
pub find : (x : ℕ) (ps : List PassView) → 1 ≤ named x ps
    → (k : ℕ) × (p : PassView) × (get_elem? ps k ≡ maybe.some p) × (p.name ≡ x)
find x [] h = absurd (omega arith)
find x (p ∷ ps) h =
    ⊎_elim
    (λ (e : p.name ≡ x). (0, p, refl, e))
    (λ (e : p.name ≢ x). let o = ap one_if (ne_eqb p.name x e) in let r = find x ps (omega (arith, o)) in
    (suc r.0, r.1, r.2, r.3))
    (cases_eq p.name x)

-- what one of the passes has seen
pub seen_at : (events : List Event) (ps : List PassView) (k : ℕ) (p : PassView) → HaveSeen events ps
    → get_elem? ps k ≡ maybe.some p → IsPrefix p.seen events × (own p.name p.seen ≡ own p.name events)
seen_at events [] k p t e = absurd (some-ne-none p (sym e))
seen_at events (q ∷ ps) zero p t e = subst
    (λ (u : PassView). IsPrefix u.seen events × (own u.name u.seen ≡ own u.name events))
    (some-injective q p e) t.0
seen_at events (q ∷ ps) (suc k) p t e = seen_at events ps k p t.1 e

-- a list is empty, or has a last
abbrev Last : List Event → Type 0
Last xs = (ys : List Event) × (e : Event) × (xs ≡ ys ++ e ∷ [])

-- a list is empty, or has a last
last_or : (xs : List Event) → (xs ≡ []) ⊎ Last xs
last_or [] = inl refl
last_or (x ∷ xs) = inr
    (⊎_elim (λ (e : xs ≡ []). ([], x, ap (λ zs. x ∷ zs) e)) (λ (l : Last xs). (x ∷ l.0, l.1, ap (λ zs. x ∷ zs) l.2))
    (last_or xs))

-- the last of a list that begins with d
last_of : Event → List Event → Event
last_of d [] = d
last_of d (x ∷ xs) = last_of x xs

-- the last is what was put behind
last_of-snoc : (d : Event) (xs : List Event) (e : Event) → last_of d (xs ++ e ∷ []) ≡ e
unfolding last_of
last_of-snoc d [] e = refl
last_of-snoc d (x ∷ xs) e = last_of-snoc x xs e

-- equal lists have one last event
one_last : (xs ys : List Event) (e f : Event) → xs ++ e ∷ [] ≡ ys ++ f ∷ [] → e ≡ f
one_last xs ys e f h = sym (last_of-snoc e xs e) ∙ ap (last_of e) h ∙ last_of-snoc e ys f

-- an event is the last of its own
own_last : (xs : List Event) (e : Event) → own e.name (xs ++ e ∷ []) ≡ own e.name xs ++ e ∷ []
own_last xs e = own-append e.name xs (e ∷ [])
    ∙ ap (λ b. own e.name xs ++ (cond b (e ∷ []) [] ++ [])) (eq-eqb e.name e.name refl)

-- a pass whose name the last event has saw all events
saw_all : (events : List Event) (p : PassView) (xs : List Event) (e : Event) → events ≡ xs ++ e ∷ [] → p.name ≡ e.name
    → IsPrefix p.seen events → own p.name p.seen ≡ own p.name events → p.seen ≡ events
saw_all events p xs e end same pre mine =
    ⊎_elim
    (λ (z : pre.0 ≡ []). sym (pre.1 ∙ ap (λ zs. p.seen ++ zs) z ∙ append-nil p.seen))
    (λ (l : Last pre.0).
    let whole : events ≡ (p.seen ++ l.0) ++ l.1 ∷ [] = pre.1 ∙ ap (λ zs. p.seen ++ zs) l.2
    ∙ sym (append_assoc p.seen l.0 (l.1 ∷ [])) in
    let is : l.1 ≡ e = one_last (p.seen ++ l.0) xs l.1 e (sym whole ∙ end) in
    let name : l.1.name ≡ p.name = ap (λ (u : Event). u.name) is ∙ sym same in
    let a : own l.1.name events ≡ own l.1.name (p.seen ++ l.0) ++ l.1 ∷ [] = ap (own l.1.name) whole
    ∙ own_last (p.seen ++ l.0) l.1 in
    let b : own l.1.name (p.seen ++ l.0) ≡ own l.1.name p.seen ++ own l.1.name l.0 = own-append l.1.name p.seen l.0 in
    let c : own l.1.name p.seen ≡ own l.1.name events = subst (λ n. own n p.seen ≡ own n events) (sym name) mine in
    let x = ap length a in
    let y = ap length b in
    let z = ap length c in
    let u = length-append (own l.1.name (p.seen ++ l.0)) (l.1 ∷ []) in
    let v = length-append (own l.1.name p.seen) (own l.1.name l.0) in
    absurd (omega arith))
    (last_or pre.0)

-- each event has a name below n
named_at : (n : ℕ) (es : List Event) (k : ℕ) (e : Event) → AllNamed n es → get_elem? es k ≡ maybe.some e → e.name < n
named_at n [] k e a h = absurd (some-ne-none e (sym h))
named_at n (x ∷ es) zero e a h = let s = ap (λ (u : Event). u.name) (some-injective x e h) in omega (arith, a.0, s)
named_at n (x ∷ es) (suc k) e a h = named_at n es k e a.1 h

-- the last event has one too
named_end : (n : ℕ) (xs : List Event) (e : Event) → AllNamed n (xs ++ e ∷ []) → e.name < n
named_end n [] e a = a.0
named_end n (x ∷ xs) e a = named_end n xs e a.1

-- the first of a list that isn't empty
first_at : (ps : List PassView) → 0 < length ps → (p : PassView) × (get_elem? ps 0 ≡ maybe.some p)
first_at [] h = absurd (omega arith)
first_at (p ∷ ps) h = (p, refl)

-- the events and the board that stands in the slot, as a seat with all passes knows them
pub record KnowsEnd (k : Opening) (v : View) (xs : List Slot) : Type 0 where
  pub events : List Event
  pub board : BoardOf
  pub legal : Reaches k.board.value events board
  pub slot : get_elem? xs 0 ≡ maybe.some (Some board)
  pub seen : HaveSeen events v.passes
  pub longest : (j : ℕ) × (p : PassView) × (get_elem? v.passes j ≡ maybe.some p) × (p.seen ≡ events)
  pub called : (j : ℕ) (e : Event) → get_elem? events j ≡ maybe.some e
      → (i : ℕ) × (p : PassView) × (get_elem? v.passes i ≡ maybe.some p) × (p.name ≡ e.name)

-- a seat that has all passes knows the events and the board
pub knows_end : (k : Opening) (id : ℕ) (v : View) (ws : List ℕ) (xs : List Slot) → v.role ≡ Free
    → length v.passes ≡ k.count → 0 < k.count → Final (Seen (Kept k) id v) ws xs → KnowsEnd k v xs
knows_end k id v ws xs free all some f =
    let s = f.0 in
    let h = f.1.0 in
    let at = f.1.1 in
    let most : (x : ℕ) → named x v.passes ≤ once_below x k.count = λ x. let a = total-at
    (λ (u : View). named x u.passes) s.views id v at in let b = h.names x in omega arith in
    let once = each_name k.count v.passes most all in
    let seen = (h.views id v at).seen in
    let home : h.home ≡ maybe.some (Some h.board) =
    ⊎_elim (λ x. x)
    (λ (q : HasHolder s.views).
    let u = q.1 in
    let p : FitsRole h.events h.serving u.passes (Holds q.2) = subst (FitsRole h.events h.serving u.passes) q.4
    (h.views q.0 u q.3).role in
    let apart : q.0 ≢ id = λ e. let same : u ≡ v = some-injective u v (sym q.3 ∙ ap (get_elem? s.views) e ∙ at) in
    let x : Free ≡ Holds q.2 = sym free ∙ ap (λ (y : View). y.role) (sym same) ∙ q.4 in cc in
    let n = p.1.name in
    let two = total-two (λ (y : View). named n y.passes) s.views q.0 id u v apart q.3 at in
    let mine : named n u.passes ≡ 1 = ap (named n) p.2 ∙ (let o = one_if_same n in omega arith) in
    let below = h.names n in
    let low : n < k.count = is_below n k.count (omega arith) in
    let o = once n low in
    let t = one_if_most (Rattle.std.proofs.Common.ltb n k.count) in
    absurd (omega arith))
    h.place in record {
      events = h.events;
      board = h.board;
      legal = h.legal;
      slot = f.4 0 (Some h.board) (ap (λ hs. get_elem? hs 0) h.homes ∙ ap maybe.some home);
      seen = seen;
      longest = ⊎_elim
          (λ (z : h.events ≡ []). let p = first_at v.passes (omega arith) in
          let t = seen_at h.events v.passes 0 p.0 seen p.1 in (0, p.0, p.1, empty_prefix p.0.seen h.events z t.0))
          (λ (l : Last h.events).
          let low : l.1.name < k.count = named_end k.count l.0 l.1 (subst (AllNamed k.count) l.2 h.called) in
          let p = find l.1.name v.passes (let o = once l.1.name low in omega arith) in
          let t = seen_at h.events v.passes p.0 p.1 seen p.2 in
          (p.0, p.1, p.2, saw_all h.events p.1 l.0 l.1 l.2 p.3 t.0 t.1))
          (last_or h.events);
      called = λ j e there. let low = named_at k.count h.events j e h.called there in
          find e.name v.passes (let o = once e.name low in omega arith);
    }
  where
    empty_prefix : (xs events : List Event) → events ≡ [] → IsPrefix xs events → xs ≡ events
    empty_prefix [] events z p = sym z
    empty_prefix (x ∷ xs) events z p = let e : [] ≡ x ∷ (xs ++ p.0) = sym z ∙ p.1 in cc

-- so does a seat that took in as many passes as the turn has
pub knows_all : (z : TableId) (k : Opening) (id : ℕ) (v : View) (ws : List ℕ) (xs : List Slot) (turn : TurnOf)
    (ps : List PassOf) → turn_of z k ≡ turn → map (pass_of z k) v.passes ≡ ps → v.role ≡ Free
    → length ps ≡ count_of turn → 0 < count_of turn → Final (Seen (Kept k) id v) ws xs → KnowsEnd k v xs
knows_all z k id v ws xs turn ps same made free all some f =
    let count = ap count_of same in
    let passes = length-map v.passes (pass_of z k) in
    let long = ap (λ (qs : List PassOf). length qs) made in
    knows_end k id v ws xs free (omega (arith, count, passes, long, all)) (omega (arith, count, some)) f

-- what stands in a mapped list
at_map_back : {A B : Type 0} (f : A → B) (l : List A) (i : ℕ) (b : B) → get_elem? (map f l) i ≡ maybe.some b
    → (a : A) × (get_elem? l i ≡ maybe.some a) × (f a ≡ b)
at_map_back f [] i b e = absurd (some-ne-none b (sym e))
at_map_back f (x ∷ xs) zero b e = (x, refl, some-injective (f x) b e)
at_map_back f (x ∷ xs) (suc i) b e = at_map_back f xs i b e

-- what the seat knows, told of its passes
ended_here : (z : TableId) (k : Opening) (v : View) (xs : List Slot) (t : KnowsEnd k v xs)
    → Ended (turn_of z k) (map (pass_of z k) v.passes) t.board
ended_here z k v xs t = record {
  events = t.events;
  longest = let l = t.longest in (l.0, pass_of z k l.1, at_map (pass_of z k) v.passes l.0 l.1 l.2, l.3);
  legal = t.legal;
  each = λ j p there.
      let a = at_map_back (pass_of z k) v.passes j p there in
      let h = seen_at t.events v.passes j a.0 t.seen a.1 in
      subst (λ (q : PassOf). IsPrefix q.seen t.events × (own q.name t.events ≡ own q.name q.seen)) a.2 (h.0, sym h.1);
  called = λ j e there. let c = t.called j e there in
      (c.0, pass_of z k c.1, at_map (pass_of z k) v.passes c.0 c.1 c.2, c.3);
  history = extends k.board.value t.board t.events t.legal;
}

-- what the passes of a turn tell at its end
pub ended : (z : TableId) (k : Opening) (v : View) (xs : List Slot) (t : KnowsEnd k v xs) (turn : TurnOf)
    (ps : List PassOf) (b : BoardOf) → turn_of z k ≡ turn → map (pass_of z k) v.passes ≡ ps → t.board ≡ b
    → Ended turn ps b
ended z k v xs t turn ps b e f g = let of : TurnOf → List PassOf → BoardOf → Type 0 = Ended in
    subst (λ (u : TurnOf × List PassOf × BoardOf). of u.0 u.1 u.2) (λ i. (e i, f i, g i)) (ended_here z k v xs t)

module _ {A : Type 0} (P : A → Type 0) where
  -- what holds of all holds of the last
  pub all_last : (xs : List A) (p : A) → All P (xs ++ p ∷ []) → P p
  all_last [] p h = h 0 p (omega arith)
  all_last (x ∷ xs) p h = all_last xs p (λ k d l. h (suc k) d (omega arith))

  -- and of all others
  pub all_front : (xs : List A) (p : A) → All P (xs ++ p ∷ []) → All P xs
  all_front [] p h k d l = absurd (omega arith)
  all_front (x ∷ xs) p h zero d l = h 0 d (omega arith)
  all_front (x ∷ xs) p h (suc k) d l = all_front xs p (λ j e m. h (suc j) e (omega arith)) k d (omega arith)
