-- Lists of events, and what they make of a board.
use Rattle.std.proofs.Common.{◌≡◌, ◌≢◌, ℕ, ◌+◌, ◌<◌, cond, eqb, List, [], ◌∷◌, ◌++◌, map, length, Some, refl, sym, ap}
use Rattle.std.proofs.Common.{◌∙◌, subst, arith, append_assoc, eq-eqb, ne_eqb}
use Rattle.std.proofs.lemmas.List.{append-nil, map-append}
use Rattle.board_offers.specs.declared.offer.Offer.{Offer}
use Rattle.board_offers.specs.Items.{new_items}
use Rattle.board_turn.specs.Claims.{one_if}
use Rattle.pcb_board.specs.declared.answer.Answer.{Answer}
use Rattle.pcb_board.specs.declared.answer.Answer.TheVariants.{Committed, Stale, Wrong, Malformed, Full}
use Rattle.pcb_board.specs.declared.answer.Entry.{Entry}
use Rattle.pcb_board.specs.declared.answer.Entry.TheVariants.{Join}
use Rattle.pcb_board.specs.Boards.{BoardOf, given}
use Rattle.pcb_board.specs.Answers.{Step}
use Rattle.pcb_board.specs.Keeping.{Grows}
use Rattle.pcb_board.proofs.Runs.{grows_none, grows_on, step_grows}
use Rattle.board_turn.specs.declared.event.Action.{Action}
use Rattle.board_turn.specs.declared.event.Action.TheVariants.{Snapped, Offered, NoMemory}
use Rattle.board_turn.specs.declared.event.Event.{Event}
use Rattle.board_turn.specs.declared.lock.PassView.{PassView}
use Rattle.board_turn.specs.Events.{Does, Reaches, Extends, own, IsPrefix, AllNamed, committed_by, committed, offer_in}
use Rattle.board_turn.specs.inner.Lock.{HaveSeen, named}

-- ---- parts of lists of events
pub own-append : (n : ℕ) (xs ys : List Event) → own n (xs ++ ys) ≡ own n xs ++ own n ys
own-append n [] ys = refl
own-append n (e ∷ xs) ys = ap (λ zs. cond (eqb e.name n) (e ∷ []) [] ++ zs) (own-append n xs ys)
    ∙ sym (append_assoc (cond (eqb e.name n) (e ∷ []) []) (own n xs) (own n ys))

-- one event of another name
pub own-other : (n : ℕ) (xs : List Event) (e : Event) → e.name ≢ n → own n (xs ++ e ∷ []) ≡ own n xs
own-other n xs e other = own-append n xs (e ∷ [])
    ∙ ap (λ b. own n xs ++ (cond b (e ∷ []) [] ++ [])) (ne_eqb e.name n other) ∙ append-nil (own n xs)

-- a list begins with itself
pub prefix_refl : {A : Type 0} (xs : List A) → IsPrefix xs xs
prefix_refl xs = ([], sym (append-nil xs))

-- a longer list begins with it too
pub prefix_snoc : {A : Type 0} (xs ys : List A) (y : A) → IsPrefix xs ys → IsPrefix xs (ys ++ y ∷ [])
prefix_snoc xs ys y p = (p.0 ++ y ∷ [], ap (λ zs. zs ++ y ∷ []) p.1 ∙ append_assoc xs p.0 (y ∷ []))

-- ---- what events make of a board
-- a step has one end
step_one : (b c d : BoardOf) (o : Offer) (a : Answer) → Step b o a c → Step b o a d → d ≡ c
step_one b c d o Full h g = g.1 ∙ sym h.1
step_one b c d o (Malformed clause) h g = g.2 ∙ sym h.2
step_one b c d o (Stale item commit) h g = g.2 ∙ sym h.2
step_one b c d o (Wrong item commit) h g = g.2 ∙ sym h.2
step_one b c d o (Committed number) h g = g.3 ∙ sym h.3

-- an action has one end
does_one : (b c d : BoardOf) (x : Action) → Does b x c → Does b x d → d ≡ c
does_one b c d Snapped h g = g ∙ sym h
does_one b c d (Offered o a) h g = step_one b c d o a h g
does_one b c d NoMemory h g = g ∙ sym h

-- events have one end
pub reaches_one : (b c d : BoardOf) (es : List Event) → Reaches b es c → Reaches b es d → d ≡ c
reaches_one b c d [] r q = q ∙ sym r
reaches_one b c d (e ∷ es) r q =
    let same : q.0 ≡ r.0 = does_one b r.0 q.0 e.action r.1 q.1 in
    reaches_one r.0 c d es r.2 (subst (λ (m : BoardOf). Reaches m es d) same q.2)

-- events in two parts
pub reaches_parts : (b c : BoardOf) (es fs : List Event) → Reaches b (es ++ fs) c
    → (m : BoardOf) × Reaches b es m × Reaches m fs c
reaches_parts b c [] fs r = (b, refl, r)
reaches_parts b c (e ∷ es) fs r =
    let p = reaches_parts r.0 c es fs r.2 in
    (p.0, (r.0, r.1, p.1), p.2)

-- two lists of events, one behind the other
pub reaches_whole : (b m c : BoardOf) (es fs : List Event) → Reaches b es m → Reaches m fs c → Reaches b (es ++ fs) c
reaches_whole b m c [] fs r q = subst (λ (x : BoardOf). Reaches x fs c) r q
reaches_whole b m c (e ∷ es) fs r q = (r.0, r.1, reaches_whole r.0 m c es fs r.2 q)

-- one event more
pub reaches-snoc : (b m c : BoardOf) (es : List Event) (e : Event) → Reaches b es m → Does m e.action c
    → Reaches b (es ++ e ∷ []) c
reaches-snoc b m c es e r d = reaches_whole b m c es (e ∷ []) r (c, d, refl)

-- what an action adds to the history
abbrev Adds : BoardOf → Action → BoardOf → Type 0
Adds b d c = (entries : List Entry)
    × (c.history ≡ b.history ++ entries) × (map offer_in entries ≡ map Some (committed_by d))

-- what changes nothing adds nothing
adds_none : (b c : BoardOf) (d : Action) → committed_by d ≡ [] → c ≡ b → Adds b d c
adds_none b c d none same =
    ([], ap (λ (x : BoardOf). x.history) same ∙ sym (append-nil b.history), ap (map Some) (sym none))

-- a step adds the join of the offer that it commits
step_adds : (b c : BoardOf) (o : Offer) (a : Answer) → Step b o a c → Adds b (Offered o a) c
step_adds b c o Full h = adds_none b c (Offered o Full) refl h.1
step_adds b c o (Malformed clause) h = adds_none b c (Offered o (Malformed clause)) refl h.2
step_adds b c o (Stale item commit) h = adds_none b c (Offered o (Stale item commit)) refl h.2
step_adds b c o (Wrong item commit) h = adds_none b c (Offered o (Wrong item commit)) refl h.2
step_adds b c o (Committed number) h =
    let first = length (given b) in
    (Join o first (first + length (new_items b.design (given b) o)) ∷ [], ap (λ (x : BoardOf). x.history) h.3, refl)

-- an action adds what it commits
does_adds : (b c : BoardOf) (d : Action) → Does b d c → Adds b d c
does_adds b c Snapped h = adds_none b c Snapped refl h
does_adds b c (Offered o a) h = step_adds b c o a h
does_adds b c NoMemory h = adds_none b c NoMemory refl h

-- the history grows by the offers that were committed
pub extends : (b c : BoardOf) (es : List Event) → Reaches b es c → Extends b es c
extends b c [] r = ([], ap (λ (x : BoardOf). x.history) r ∙ sym (append-nil b.history), refl)
extends b c (e ∷ es) r =
    let first = does_adds b r.0 e.action r.1 in
    let more = extends r.0 c es r.2 in
    let offers : map offer_in first.0 ++ map offer_in more.0
    ≡ map Some (committed_by e.action) ++ map Some (committed es) = λ i. first.2 i ++ more.2 i in (
      first.0 ++ more.0,
      more.1 ∙ ap (λ (h : List Entry). h ++ more.0) first.1 ∙ append_assoc b.history first.0 more.0,
      map-append offer_in first.0 more.0 ∙ offers ∙ sym (map-append Some (committed_by e.action) (committed es)),
    )

-- a board grows by an action
does_grows : (b c : BoardOf) (d : Action) → Does b d c → Grows b c
does_grows b c Snapped h = grows_none b c h
does_grows b c (Offered o a) h = step_grows b c o a h
does_grows b c NoMemory h = grows_none b c h

-- a board grows by events
pub reaches_grows : (b c : BoardOf) (es : List Event) → Reaches b es c → Grows b c
reaches_grows b c [] r = grows_none b c r
reaches_grows b c (e ∷ es) r = grows_on b r.0 c (does_grows b r.0 e.action r.1) (reaches_grows r.0 c es r.2)

-- what a step keeps, events keep
module _ (P : BoardOf → Type 0) (keeps : (b c : BoardOf) (o : Offer) (a : Answer) → P b → Step b o a c → P c) where
  -- one action keeps it
  does_keeps : (b c : BoardOf) (d : Action) → P b → Does b d c → P c
  does_keeps b c Snapped p h = subst P (sym h) p
  does_keeps b c (Offered o a) p h = keeps b c o a p h
  does_keeps b c NoMemory p h = subst P (sym h) p

  -- all events keep it
  pub reaches_keeps : (b c : BoardOf) (es : List Event) → P b → Reaches b es c → P c
  reaches_keeps b c [] p r = subst P (sym r) p
  reaches_keeps b c (e ∷ es) p r = reaches_keeps r.0 c es (does_keeps b r.0 e.action p r.1) r.2

-- ---- names and what was seen
pub named_snoc : (n : ℕ) (es : List Event) (e : Event) → AllNamed n es → e.name < n → AllNamed n (es ++ e ∷ [])
named_snoc n [] e a l = (l, tt)
named_snoc n (x ∷ xs) e a l = (a.0, named_snoc n xs e a.1 l)

-- passes of two lists have seen the events
pub seen-append : (events : List Event) (ps qs : List PassView) → HaveSeen events ps → HaveSeen events qs
    → HaveSeen events (ps ++ qs)
seen-append events [] qs a b = b
seen-append events (p ∷ ps) qs a b = (a.0, seen-append events ps qs a.1 b)

-- an event of another name changes nothing for passes that don't have it
pub seen-other : (events : List Event) (e : Event) (ps : List PassView) → named e.name ps ≡ 0 → HaveSeen events ps
    → HaveSeen (events ++ e ∷ []) ps
seen-other events e [] none t = tt
seen-other events e (p ∷ ps) none t =
    let other : e.name ≢ p.name = λ h. let one = ap one_if (eq-eqb p.name e.name (sym h)) in
    absurd (omega (arith, one)) in (
      (prefix_snoc p.seen events e t.0.0, t.0.1 ∙ sym (own-other p.name events e other)),
      seen-other events e ps (omega arith) t.1,
    )

-- the first of the events have such names too
named_front : (n : ℕ) (xs ys : List Event) → AllNamed n (xs ++ ys) → AllNamed n xs
named_front n [] ys a = tt
named_front n (x ∷ xs) ys a = (a.0, named_front n xs ys a.1)

-- where there is one name, all events have it
own_all : (es : List Event) → AllNamed 1 es → own 0 es ≡ es
own_all [] a = refl
own_all (e ∷ es) a =
    let first : e.name ≡ 0 = let low = a.0 in omega arith in
    ap (λ b. cond b (e ∷ []) [] ++ own 0 es) (eq-eqb e.name 0 first) ∙ ap (λ xs. e ∷ xs) (own_all es a.1)

-- the only pass has seen all events
pub saw_all_alone : (n count : ℕ) (seen events : List Event) → n ≡ 0 → count ≡ 1 → IsPrefix seen events
    → own n events ≡ own n seen → AllNamed count events → events ≡ seen
saw_all_alone n count seen events zero_is one_is before mine called =
    let named : AllNamed 1 events = subst (λ c. AllNamed c events) one_is called in
    let front : AllNamed 1 seen = named_front 1 seen before.0 (subst (AllNamed 1) before.1 named) in
    let same : own 0 events ≡ own 0 seen = subst (λ k. own k events ≡ own k seen) zero_is mine in
    sym (own_all events named) ∙ same ∙ own_all seen front
