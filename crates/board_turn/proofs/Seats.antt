-- What a seat's view and slots are, from step to step.
use Rattle.std.proofs.Common.{◌≡◌, ℕ, List, [], ◌∷◌, ◌++◌, map, append_assoc, ◌+◌, ◌-◌, ◌<◌, zero, suc, arith, refl}
use Rattle.std.proofs.Common.{sym, ap, ◌∙◌, subst, Some, None}
use Rattle.atomic_table.specs.Table.{Me, rest}
use Rattle.pcb_board.specs.Boards.{BoardOf}
use Rattle.board_turn.specs.declared.event.Action.{Action}
use Rattle.board_turn.specs.declared.lock.Opening.{Opening}
use Rattle.board_turn.specs.declared.lock.PassView.{PassView}
use Rattle.board_turn.specs.declared.lock.Role.{Role}
use Rattle.board_turn.specs.declared.lock.Role.TheVariants.{Free, Holds}
use Rattle.board_turn.specs.declared.lock.View.{View}
use Rattle.atomic_table.specs.Seated.{TableId}
use Rattle.board_turn.specs.Events.{event}
use Rattle.board_turn.specs.Turns.{PassOf, TurnOf, Calls, passes_of, turn_of}
use Rattle.board_turn.specs.Lock.{Slot, view_of, pass_view}
use Rattle.board_turn.specs.inner.Lock.{new_passes, without_first, first_alone, Served, with_event}
use Rattle.board_turn.specs.Seats.{pass_at, HasRole, HasBoardOut, HasTaken, pass_of, key_of}

-- a seat that has the slot holds it first
pub slot_held : (m : Me Slot View) (w : View) (y : Slot) → m ≡ (w, (0, y) ∷ []) → m.1 ≡ (0, y) ∷ rest m.1
slot_held m w y e = ap (λ (x : Me Slot View). x.1) e ∙ ap (λ (x : Me Slot View). (0, y) ∷ rest x.1) (sym e)

-- what is in the first slot held
slot_of : List (ℕ × Slot) → Slot
slot_of [] = None
slot_of (x ∷ xs) = x.1

-- what was found in the slot
pub slot_found : (m : Me Slot View) (w : View) (x y : Slot) → m ≡ (w, (0, y) ∷ []) → m.1 ≡ (0, x) ∷ rest m.1 → x ≡ y
unfolding slot_of
slot_found m w x y e f = ap slot_of (sym f) ∙ ap (λ (z : Me Slot View). slot_of z.1) e

-- the slot with something else in it
pub slot_put : (m n : Me Slot View) (w : View) (x y : Slot) → m ≡ (w, (0, x) ∷ []) → n ≡ (m.0, (0, y) ∷ rest m.1)
    → n ≡ (w, (0, y) ∷ [])
slot_put m n w x y e f = let put : Me Slot View → Me Slot View = λ z. (z.0, (0, y) ∷ rest z.1) in f ∙ ap put e

-- the seat that gave its slot up
pub slot_given : (m n : Me Slot View) (w v : View) (y : Slot) → m ≡ (w, (0, y) ∷ []) → n ≡ (v, rest m.1) → n ≡ (v, [])
slot_given m n w v y e f = let put : Me Slot View → Me Slot View = λ z. (v, rest z.1) in f ∙ ap put e

-- a seat whose slot is empty has the board out
pub out_role : (k : Opening) (q : PassView) (t : ℕ) (m : Me Slot View)
    → m ≡ (view_of k (q ∷ []) (Holds t), (0, None) ∷ []) → HasBoardOut k t m
out_role k q t m e = let put : PassView → Me Slot View = λ h. (view_of k (h ∷ []) (Holds t), (0, None) ∷ []) in
    e ∙ ap put (sym (ap pass_at e))

-- a seat without slots has its role
pub free_role : (k : Opening) (q : PassView) (r : Role) (m : Me Slot View) → m ≡ (view_of k (q ∷ []) r, [])
    → HasRole k r m
free_role k q r m e =
    let put : PassView → Me Slot View = λ h. (view_of k (h ∷ []) r, []) in
    e ∙ ap put (sym (ap pass_at e))

-- a pass that was served took the board
pub taken_is : (k : Opening) (p : PassView) (t : ℕ) (now after : Me Slot View) (b : BoardOf) (s : Served k p t now)
    → after ≡ (view_of k (pass_view p.name s.seen ∷ []) (Holds t), (0, None) ∷ []) → Some s.board ≡ Some b
    → HasTaken k p (pass_at after) b
taken_is k p t now after b s e f =
    let g : s.board ≡ b = cc in
    let at : HasTaken k p (pass_view p.name s.seen) s.board = record {
      same = refl;
      before = s.before;
      mine = s.mine;
      called = s.called;
      legal = s.legal;
    } in
    subst (λ (x : PassView × BoardOf). HasTaken k p x.0 x.1) (λ i. (sym (ap pass_at e) i, g i)) at

-- a pass that took the board and noted an action made a call
calls_are : (z : TableId) (k : Opening) (p q r : PassView) (d : Action) (b : BoardOf) → HasTaken k p q b
    → r ≡ with_event q d → Calls (pass_of z k p) (pass_of z k r) d b
calls_are z k p q r d b t e =
    let named : ℕ → PassOf = λ n.
    record { turn = record { table = z; key = k }; name = n; seen = q.seen ++ event n d ∷ [] } in record {
      events = q.seen;
      before = t.before;
      mine = t.mine;
      called = t.called;
      legal = t.legal;
      now_is = ap (pass_of z k) e ∙ ap named t.same;
    }

-- the whole call, from the pass before to the seat after
pub calls_of : (z y : TableId) (k j : Opening) (p p' q : PassView) (m : Me Slot View) (old : PassOf) (turn : TurnOf)
    (x : TableId) (d : Action) (b : BoardOf)
    → pass_of z j p ≡ old → old.turn ≡ turn → record { table = x; key = k } ≡ turn → y ≡ z → p' ≡ p → HasTaken k p' q b
    → HasRole k Free m → pass_at m ≡ with_event q d → Calls old (pass_of y (key_of m.0.opening) (pass_at m)) d b
calls_of z y k j p p' q m old turn x d b is of turn_is yz pp took at then =
    let key : j ≡ k = ap (λ (u : PassOf). u.turn.key) is ∙ ap (λ (u : TurnOf). u.key) of
    ∙ ap (λ (u : TurnOf). u.key) (sym turn_is) in
    let mine : key_of m.0.opening ≡ k = ap (λ (u : Me Slot View). key_of u.0.opening) at in
    let c = calls_are z k p q (pass_at m) d b (subst (λ (u : PassView). HasTaken k u q b) pp took) then in
    subst (λ (u : PassOf × TableId × Opening). Calls u.0 (pass_of u.1 u.2 (pass_at m)) d b)
    (λ i. ((ap (λ o. pass_of z o p) (sym key) ∙ is) i, sym yz i, sym mine i)) c

-- new passes begin with the first
pub new_passes-first : (i n : ℕ) → 0 < n → new_passes i n ≡ pass_view i [] ∷ new_passes (i + 1) (n - 1)
new_passes-first i zero h = absurd (omega arith)
new_passes-first i (suc n) h =
    let e : n ≡ suc n - 1 = omega arith in
    ap (λ (k : ℕ). pass_view i [] ∷ new_passes (i + 1) k) e

-- one pass more
pub passes_of-snoc : (t : TurnOf) (i n : ℕ)
    → passes_of t i n ++ record { turn = t; name = i + n; seen = [] } ∷ [] ≡ passes_of t i (n + 1)
passes_of-snoc t i zero = let e : i + 0 ≡ i = omega arith in
    let p : ℕ → List PassOf = λ k. record { turn = t; name = k; seen = [] } ∷ [] in ap p e
passes_of-snoc t i (suc n) =
    let e : i + suc n ≡ i + 1 + n = omega arith in
    let f : suc n + 1 ≡ suc (n + 1) = omega arith in
    let at : ℕ → PassOf = λ k. record { turn = t; name = k; seen = [] } in
    ap (λ (k : ℕ). at i ∷ (passes_of t (i + 1) n ++ at k ∷ [])) e ∙ ap (λ ps. at i ∷ ps) (passes_of-snoc t (i + 1) n)
    ∙ ap (passes_of t i) (sym f)

abbrev Same : Me Slot View → Me Slot View → Type 0
Same m n = m ≡ n

-- the seat gives its first pass away
pub split_others : (k : Opening) (i n : ℕ) (m : Me Slot View) → 0 < n → m ≡ (view_of k (new_passes i n) Free, [])
    → Same (without_first m.0, m.1) (view_of k (new_passes (i + 1) (n - 1)) Free, [])
split_others k i n m h e =
    let cut : Me Slot View → Me Slot View = λ x. (without_first x.0, x.1) in
    let of : List PassView → Me Slot View = λ ps. (without_first (view_of k ps Free), []) in
    ap cut e ∙ ap of (new_passes-first i n h)

-- the pass that goes to a new seat
pub split_first : (k : Opening) (i n : ℕ) (m : Me Slot View) → 0 < n → m ≡ (view_of k (new_passes i n) Free, [])
    → Same (first_alone m.0, []) (view_of k (pass_view i [] ∷ []) Free, [])
split_first k i n m h e =
    let cut : Me Slot View → Me Slot View = λ x. (first_alone x.0, []) in
    let of : List PassView → Me Slot View = λ ps. (first_alone (view_of k ps Free), []) in
    ap cut e ∙ ap of (new_passes-first i n h)

-- the pass of a seat that saw nothing yet
pub pass_is : (z y : TableId) (k : Opening) (i : ℕ) (m : Me Slot View) → y ≡ z
    → m ≡ (view_of k (pass_view i [] ∷ []) Free, [])
    → pass_of y (key_of m.0.opening) (pass_at m) ≡ record { turn = turn_of z k; name = i; seen = [] }
pass_is z y k i m e f = let of : TableId → Me Slot View → PassOf = λ x u. pass_of x (key_of u.0.opening) (pass_at u) in
    λ j. of (e j) (f j)

-- one pass more was made
pub passes_more : (xs : List PassOf) (t : TurnOf) (i : ℕ) (p : PassOf) → xs ≡ passes_of t 0 i
    → p ≡ record { turn = t; name = i; seen = [] } → xs ++ p ∷ [] ≡ passes_of t 0 (i + 1)
passes_more xs t i p e f =
    let z : i ≡ 0 + i = omega arith in
    let at : ℕ → PassOf = λ k. record { turn = t; name = k; seen = [] } in
    let of : List PassOf → PassOf → List PassOf = λ ys q. ys ++ q ∷ [] in
    (λ j. of (e j) (f j)) ∙ ap (λ k. passes_of t 0 i ++ at k ∷ []) z ∙ passes_of-snoc t 0 i

-- what is left after one more was split off
pub split_rest : (k : Opening) (i n : ℕ) (m : Me Slot View) → i < n → m ≡ (view_of k (new_passes i (n - i)) Free, [])
    → Same (without_first m.0, m.1) (view_of k (new_passes (i + 1) (n - (i + 1))) Free, [])
split_rest k i n m h e =
    let of : ℕ → Me Slot View = λ j. (view_of k (new_passes (i + 1) j) Free, []) in
    let same : n - i - 1 ≡ n - (i + 1) = omega arith in
    split_others k i (n - i) m (omega arith) e ∙ ap of same

-- the last seat has one pass left
pub last_one : (k : Opening) (i n : ℕ) (m : Me Slot View) → n ≡ i + 1 → m ≡ (view_of k (new_passes i (n - i)) Free, [])
    → m ≡ (view_of k (pass_view i [] ∷ []) Free, [])
last_one k i n m h e =
    let of : ℕ → Me Slot View = λ j. (view_of k (new_passes i j) Free, []) in
    let same : n - i ≡ suc 0 = omega arith in
    e ∙ ap of same

-- one pass more is taken in
pub join_more : (z y : TableId) (k : Opening) (old new all : List PassOf) (p : PassOf) (o : Me Slot View)
    (ps : List PassView)
    → old ≡ new ++ p ∷ [] → old ++ map (pass_of z k) ps ≡ all → pass_of y (key_of o.0.opening) (pass_at o) ≡ p
    → p.turn ≡ turn_of z k → HasRole (key_of o.0.opening) Free o → new ++ map (pass_of z k) (o.0.passes ++ ps) ≡ all
join_more z y k old new all p o ps e made is turn at =
    let t : turn_of y (key_of o.0.opening) ≡ turn_of z k = ap (λ (u : PassOf). u.turn) is ∙ turn in
    let q : pass_of z k (pass_at o) ≡ p = let of : TurnOf
    → PassOf = λ u. record { turn = u; name = (pass_at o).name; seen = (pass_at o).seen } in ap of (sym t) ∙ is in
    let one : o.0.passes ≡ pass_at o ∷ [] = ap (λ (m : Me Slot View). m.0.passes) at in
    ap (λ (xs : List PassView). new ++ map (pass_of z k) (xs ++ ps)) one
    ∙ ap (λ (u : PassOf). new ++ (u ∷ map (pass_of z k) ps)) q
    ∙ sym (append_assoc new (p ∷ []) (map (pass_of z k) ps)) ∙ ap (λ xs. xs ++ map (pass_of z k) ps) (sym e) ∙ made

-- a seat of one pass without slots is that of a pass
pub own_role : (k : Opening) (q : PassView) (m : Me Slot View) → m ≡ (view_of k (q ∷ []) Free, [])
    → HasRole (key_of m.0.opening) Free m
own_role k q m e = subst (λ (j : Opening). HasRole j Free m) (sym (ap (λ (u : Me Slot View). key_of u.0.opening) e))
    (free_role k q Free m e)

-- at first all passes are left
pub none_given : (k : Opening) (n : ℕ) (m : Me Slot View) → m ≡ (view_of k (new_passes 0 n) Free, [])
    → m ≡ (view_of k (new_passes 0 (n - 0)) Free, [])
none_given k n m e =
    let of : ℕ → Me Slot View = λ j. (view_of k (new_passes 0 j) Free, []) in
    let same : n ≡ n - 0 = omega arith in
    e ∙ ap of same
