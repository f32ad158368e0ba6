-- What is left of a session, flag by flag, and the links of its items.
use Rattle.std.proofs.Common.{◌≡◌, ◌≢◌, ◌∙◌, inl, inr, ℕ, zero, suc, ◌+◌, ◌<◌, ◌≤◌, ◌==◌, ◌&&◌, Bool, true, false}
use Rattle.std.proofs.Common.{true≢false, List, [], ◌∷◌, ◌++◌, Option, None, Some, ap, arith, drop, eq-eqb, eqb-true}
use Rattle.std.proofs.Common.{get_or, length, refl, replicate, subst, sym}
use Rattle.std.specs.Prelude.{if◌then◌else◌, slice_get}
use Rattle.std.proofs.Math.ListN.{set}
use Rattle.std.proofs.lemmas.Bool.{cases_lt}
use Rattle.std.proofs.lemmas.List.{append-nil, append_assoc, at_drop_all, drop_more, get_or-replicate}
use Rattle.std.proofs.lemmas.List.{length-replicate, length-set, length_push}
use Rattle.std.proofs.lemmas.Option.{get_or_from_slice_get, same_Some, slice_get_within}
use Rattle.pcb_model.specs.declared.item.Item.{Item}
use Rattle.pcb_model.specs.declared.design.Design.{Design}
use Rattle.pcb_model.specs.Pieces.{item_of}
use Rattle.pcb_islands.proofs.Elements.{look_set_other, look_set_same}
use Rattle.ses_reader.specs.declared.item.SesItem.{SesItem}
use Rattle.route_check.specs.Board.{is_equal, is_net, is_same, left_of, numbered, without}
use Rattle.route_check.specs.inner.Left.{AreLinked, IsNextOf, NoneSame, kept}

-- ---- flags
-- where no item that is there is the same, none is taken away
pub none_taken : (a : Item) (gone : List Bool) (xs : List SesItem)
    → ((i : ℕ) (x : SesItem) → slice_get xs i ≡ Some x → slice_get gone i ≡ Some false → is_same a x ≡ false)
    → kept gone xs ≡ without a (kept gone xs)
none_taken a [] xs h = refl
none_taken a (g ∷ gone) [] h = refl
none_taken a (true ∷ gone) (x ∷ xs) h = none_taken a gone xs (λ i y p q. h (suc i) y p q)
none_taken a (false ∷ gone) (x ∷ xs) h =
    ap (λ (ys : List SesItem). x ∷ ys) (none_taken a gone xs (λ i y p q. h (suc i) y p q))
    ∙ sym (ap (λ (b : Bool). if b then kept gone xs else x ∷ without a (kept gone xs)) (h 0 x refl refl))

-- behind an item that is gone, or isn't the same
taken_behind : (a : Item) (g : Bool) (gone flags : List Bool) (y : SesItem) (xs : List SesItem)
    → (g ≡ false → is_same a y ≡ false) → kept flags xs ≡ without a (kept gone xs)
    → kept (g ∷ flags) (y ∷ xs) ≡ without a (kept (g ∷ gone) (y ∷ xs))
taken_behind a true gone flags y xs other rest = rest
taken_behind a false gone flags y xs other rest =
    ap (λ (ys : List SesItem). y ∷ ys) rest
    ∙ sym (ap (λ (b : Bool). if b then kept gone xs else y ∷ without a (kept gone xs)) (other refl))

-- the first that is the same is taken away
pub one_taken : (a : Item) (gone : List Bool) (xs : List SesItem) (k : ℕ) (x : SesItem) → slice_get xs k ≡ Some x
    → slice_get gone k ≡ Some false → is_same a x ≡ true → NoneSame a xs gone k
    → kept (set gone k true) xs ≡ without a (kept gone xs)
one_taken a [] xs k x p q s none = absurd (cc)
one_taken a (g ∷ gone) [] k x p q s none = absurd (cc)
one_taken a (g ∷ gone) (y ∷ xs) zero x p q s none =
    let there : g ≡ false = same_Some g false q in
    let same : is_same a y ≡ true = ap (is_same a) (same_Some y x p) ∙ s in
    sym (ap (λ (b : Bool). without a (if b then kept gone xs else y ∷ kept gone xs)) there
    ∙ ap (λ (b : Bool). if b then kept gone xs else y ∷ without a (kept gone xs)) same)
one_taken a (g ∷ gone) (y ∷ xs) (suc k) x p q s none =
    taken_behind a g gone (set gone k true) y xs
    (λ e. none.before 0 y (omega arith) refl (ap (λ (b : Bool). Some b) e))
    (one_taken a gone xs k x p q s
    (record { before = λ i z less at there. none.before (suc i) z (omega (arith, less)) at there }))

-- before any is gone, all are kept
pub all_kept : (gone : List Bool) (xs : List SesItem) → length gone ≡ length xs
    → ((i : ℕ) (b : Bool) → slice_get gone i ≡ Some b → b ≡ false) → kept gone xs ≡ xs
all_kept [] [] e h = refl
all_kept [] (x ∷ xs) e h = absurd (omega (arith, e))
all_kept (g ∷ gone) [] e h = refl
all_kept (g ∷ gone) (x ∷ xs) e h =
    ap (λ (b : Bool). if b then kept gone xs else x ∷ kept gone xs) (h 0 g refl)
    ∙ ap (λ (ys : List SesItem). x ∷ ys) (all_kept gone xs (omega (arith, e)) (λ i b at. h (suc i) b at))

-- one more fixed item takes away from what is left
pub left_more : (fixed : List Item) (a : Item) (xs : List SesItem)
    → left_of (fixed ++ a ∷ []) xs ≡ without a (left_of fixed xs)
left_more [] a xs = refl
left_more (b ∷ fixed) a xs = left_more fixed a (without b xs)

-- a list that is filled with one value
pub filled : {X : Type 0} (n : ℕ) (y : X) (xs : List X) → xs ≡ replicate n y → (i : ℕ) (b : X)
    → slice_get xs i ≡ Some b
    → b ≡ y
filled {X} n y xs e i b at =
    let own : slice_get (replicate n y) i ≡ Some b = ap (λ (zs : List X). slice_get zs i) (sym e) ∙ at in
    let within : i < length (replicate n y) = slice_get_within (replicate n y) i b own in
    sym (get_or_from_slice_get (replicate n y) i b b own)
    ∙ get_or-replicate n i y b (let count = length-replicate n y in omega (arith, within, count))

-- ---- links
-- before the first link no item is looked at
pub link_none : (xs : List SesItem) (nets : ℕ) (first next : List ℕ) → first ≡ replicate nets (length xs)
    → next ≡ replicate (length xs) (length xs) → AreLinked xs nets (length xs) first next
link_none xs nets first next f n = record {
  all_nets = ap length f ∙ length-replicate nets (length xs);
  all_items = ap length n ∙ length-replicate (length xs) (length xs);
  firsts = λ net place at.
      let is : place ≡ length xs = filled nets (length xs) first f net place at in
      record {
        within = omega (arith, is);
        from_on = omega (arith, is);
        own = λ x there. let within = slice_get_within xs place x there in absurd (omega (arith, is, within));
        before = λ i x from less there own. absurd (omega (arith, is, from, less));
      };
  nexts = λ i place x from there at.
      let within = slice_get_within xs i x there in absurd (omega (arith, from, within));
}

-- one item more to look at, which isn't the net's
widened : (xs : List SesItem) (net i place : ℕ) (x : SesItem) → slice_get xs i ≡ Some x → x.net ≢ net
    → IsNextOf xs net (i + 1) place → IsNextOf xs net i place
widened xs net i place x at apart h = record {
  within = h.within;
  from_on = (let on = h.from_on in omega (arith, on));
  own = h.own;
  before = λ j y from less there own. elim (cases_lt i j) [
    | inl more ↦ h.before j y (omega (arith, more)) less there own
    | inr only ↦
        let is : j ≡ i = omega (arith, from, only) in
        apart (ap (λ (z : SesItem). z.net)
        (same_Some x y (sym at ∙ ap (slice_get xs) (sym is) ∙ there)) ∙ own)
  ];
}

-- the item is the first of its net
itself : (xs : List SesItem) (net i : ℕ) (x : SesItem) → slice_get xs i ≡ Some x → x.net ≡ net → IsNextOf xs net i i
itself xs net i x at own = record {
  within = (let within = slice_get_within xs i x at in omega (arith, within));
  from_on = omega arith;
  own = λ y there. ap (λ (z : SesItem). z.net) (sym (same_Some x y (sym at ∙ there))) ∙ own;
  before = λ j y from less there same. absurd (omega (arith, from, less));
}

-- it is linked before the others
pub link_more : (xs : List SesItem) (nets i place : ℕ) (x : SesItem) (first next : List ℕ)
    → AreLinked xs nets (i + 1) first next → slice_get xs i ≡ Some x → slice_get first x.net ≡ Some place
    → AreLinked xs nets i (set first x.net i) (set next i place)
link_more xs nets i place x first next h at was = record {
  all_nets = length-set first x.net i ∙ h.all_nets;
  all_items = length-set next i place ∙ h.all_items;
  firsts = λ net p there. net_by net p there (x.net == net) refl;
  nexts = λ j p y from y_at there. elim (cases_lt i j) [
    | inl more ↦ h.nexts j p y (omega (arith, more)) y_at
        (sym (look_set_other next i j place (λ e. absurd (omega (arith, e, more)))) ∙ there)
    | inr only ↦
        let is : j ≡ i = omega (arith, from, only) in
        let same : x ≡ y = same_Some x y (sym at ∙ ap (slice_get xs) (sym is) ∙ y_at) in
        let in_next : i < length next =
        (let within = slice_get_within xs i x at in let count = h.all_items in omega (arith, within, count)) in
        let own : place ≡ p = same_Some place p
        (sym (look_set_same next i place in_next) ∙ ap (slice_get (set next i place)) (sym is) ∙ there) in
        subst (λ (z : SesItem). IsNextOf xs z.net (j + 1) p) same
        (subst (λ (k : ℕ). IsNextOf xs x.net (k + 1) p) (sym is)
        (subst (λ (q : ℕ). IsNextOf xs x.net (i + 1) q) own (h.firsts x.net place was)))
  ];
}
  where
    net_by : (net p : ℕ) → slice_get (set first x.net i) net ≡ Some p → (b : Bool) → (x.net == net) ≡ b
        → IsNextOf xs net i p
    net_by net p there true e =
        let is : x.net ≡ net = eqb-true x.net net e in
        let in_first : x.net < length first = slice_get_within first x.net place was in
        let own : i ≡ p = same_Some i p
        (sym (look_set_same first x.net i in_first) ∙ ap (slice_get (set first x.net i)) is ∙ there) in
        subst (IsNextOf xs net i) own (itself xs net i x at is)
    net_by net p there false e =
        let apart : x.net ≢ net = λ is. absurd (true≢false (sym (eq-eqb x.net net is) ∙ e)) in
        widened xs net i p x at apart
        (h.firsts net p (sym (look_set_other first x.net net i (λ is. absurd (apart (sym is)))) ∙ there))

-- ---- the search for the first that is the same
-- an item without a net is the same as none
pub no_net : (a : Item) (x : SesItem) → a.net ≡ None → is_same a x ≡ false
no_net a x e = ap (λ (o : Option ℕ). is_net o x.net && is_equal a.metal x.metal) e

-- nor is one of another net
other_net : (a : Item) (x : SesItem) (net : ℕ) → a.net ≡ Some net → (x.net ≡ net → ⊥) → is_same a x ≡ false
other_net a x net e apart =
    ap (λ (o : Option ℕ). is_net o x.net && is_equal a.metal x.metal) e
    ∙ ap (λ (b : Bool). b && is_equal a.metal x.metal) (differs (net == x.net) refl)
  where
    differs : (b : Bool) → (net == x.net) ≡ b → (net == x.net) ≡ false
    differs true same = absurd (apart (sym (eqb-true net x.net same)))
    differs false same = same

-- before the first item of the net none is the same
pub none_first : (a : Item) (net place : ℕ) (xs : List SesItem) (gone : List Bool) → a.net ≡ Some net
    → IsNextOf xs net 0 place → NoneSame a xs gone place
none_first a net place xs gone e h = record {
  before = λ i x less there free. other_net a x net e (h.before i x (omega arith) less there);
}

-- nor before the next one, where this one isn't
pub none_next : (a : Item) (net place next : ℕ) (xs : List SesItem) (gone : List Bool) → a.net ≡ Some net
    → NoneSame a xs gone place
    → ((x : SesItem) → slice_get xs place ≡ Some x → slice_get gone place ≡ Some false → is_same a x ≡ false)
    → IsNextOf xs net (place + 1) next → NoneSame a xs gone next
none_next a net place next xs gone e none here h = record {
  before = λ i x less there free. elim (cases_lt i place) [
    | inl early ↦ none.before i x early there free
    | inr late ↦ elim (cases_lt place i) [
      | inl later ↦ other_net a x net e (h.before i x (omega (arith, later)) less there)
      | inr only ↦
          let is : i ≡ place = omega (arith, late, only) in
          here x (ap (slice_get xs) (sym is) ∙ there) (ap (slice_get gone) (sym is) ∙ free)
    ]
  ];
}

-- an element at a place within a list
pub element : {X : Type 0} (xs : List X) (k : ℕ) → k < length xs → (x : X) × (slice_get xs k ≡ Some x)
element [] k within = absurd (omega (arith, within))
element (x ∷ xs) zero within = (x, refl)
element (x ∷ xs) (suc k) within = element xs k (omega (arith, within))

-- ---- the items that are left, one by one
-- of no items none is left
kept_none : (gone : List Bool) → kept gone [] ≡ []
kept_none [] = refl
kept_none (g ∷ gone) = refl

-- the next one is kept or not
kept_more : (gone : List Bool) (xs : List SesItem) (i : ℕ) (g : Bool) (x : SesItem) → i < length gone → i < length xs
    → kept (drop i gone) (drop i xs) ≡ (if get_or gone i g then kept (drop (i + 1) gone) (drop (i + 1) xs)
    else get_or xs i x ∷ kept (drop (i + 1) gone) (drop (i + 1) xs))
kept_more gone xs i g x in_gone in_xs = rw (drop_more gone i g in_gone, drop_more xs i x in_xs) refl

-- where it is gone, nothing changes
pub left_gone : (left : List SesItem) (gone : List Bool) (xs : List SesItem) (i : ℕ) (g : Bool) → i < length gone
    → i < length xs → get_or gone i g ≡ true
    → left ++ kept (drop (i + 1) gone) (drop (i + 1) xs) ≡ left ++ kept (drop i gone) (drop i xs)
left_gone left gone xs i g in_gone in_xs e =
    let x = element xs i in_xs in
    ap (λ (ys : List SesItem). left ++ ys)
    (sym (kept_more gone xs i g x.0 in_gone in_xs ∙ ap (λ (b : Bool).
    if b then kept (drop (i + 1) gone) (drop (i + 1) xs)
    else get_or xs i x.0 ∷ kept (drop (i + 1) gone) (drop (i + 1) xs)) e))

-- where it isn't, it is the next one that is left
pub left_there : (left more : List SesItem) (gone : List Bool) (xs : List SesItem) (i : ℕ) (g : Bool) (x : SesItem)
    → i < length gone → i < length xs → get_or gone i g ≡ false → more ≡ left ++ get_or xs i x ∷ []
    → more ++ kept (drop (i + 1) gone) (drop (i + 1) xs) ≡ left ++ kept (drop i gone) (drop i xs)
left_there left more gone xs i g x in_gone in_xs e is =
    let rest = kept (drop (i + 1) gone) (drop (i + 1) xs) in
    ap (λ (ys : List SesItem). ys ++ rest) is
    ∙ append_assoc left (get_or xs i x ∷ []) rest
    ∙ ap (λ (ys : List SesItem). left ++ ys)
    (sym (kept_more gone xs i g x in_gone in_xs
    ∙ ap (λ (b : Bool). if b then rest else get_or xs i x ∷ rest) e))

-- behind the last one
pub left_end : (left : List SesItem) (gone : List Bool) (xs : List SesItem) (i : ℕ) → length xs ≤ i
    → left ++ kept (drop i gone) (drop i xs) ≡ left
left_end left gone xs i past =
    ap (λ (ys : List SesItem). left ++ ys)
    (at_drop_all (λ (ys : List SesItem). kept (drop i gone) ys) xs i past ∙ kept_none (drop i gone))
    ∙ append-nil left

-- ---- items with ids that count up
-- the next one of the session has the next id
pub numbered_more : (d : Design) (items more : List Item) (xs : List SesItem) (i : ℕ) (x : SesItem) → i < length xs
    → more ≡ items ++ numbered d (length items) (get_or xs i x ∷ [])
    → more ++ numbered d (length more) (drop (i + 1) xs) ≡ items ++ numbered d (length items) (drop i xs)
numbered_more d items more xs i x within is =
    let rest = drop (i + 1) xs in
    let one = item_of d (length items) (Some (get_or xs i x).net) false (get_or xs i x).metal in
    ap (λ (as_ : List Item). as_ ++ numbered d (length as_) rest) is
    ∙ append_assoc items (one ∷ []) (numbered d (length (items ++ one ∷ [])) rest)
    ∙ ap (λ (n : ℕ). items ++ one ∷ numbered d n rest)
    (let count = length_push items one in
    let same : length (items ++ one ∷ []) ≡ length items + 1 = omega (arith, count) in same)
    ∙ ap (λ (ys : List SesItem). items ++ numbered d (length items) ys) (sym (drop_more xs i x within))

-- behind the last one
pub numbered_end : (d : Design) (items : List Item) (xs : List SesItem) (i : ℕ) → length xs ≤ i
    → items ++ numbered d (length items) (drop i xs) ≡ items
numbered_end d items xs i past =
    ap (λ (ys : List Item). items ++ ys) (at_drop_all (numbered d (length items)) xs i past) ∙ append-nil items
