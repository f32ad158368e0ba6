-- Each step keeps the rule.
use Rattle.std.proofs.Common.{◌≡◌, ◌≢◌, ◌⊎◌, ℕ, zero, suc, ◌+◌, ◌-◌, ◌%◌, ◌^◌, ◌<◌, ◌≤◌, Bool, eqb, List}
use Rattle.std.proofs.Common.{[], ◌∷◌, ◌++◌, length, take, drop, set, refl, sym, ap, ◌∙◌, subst, inl, inr, ⊎_elim}
use Rattle.std.proofs.Common.{arith, Option, Some, length-append}
use Rattle.std.specs.Prelude.{slice_index}
use Rattle.std.proofs.lemmas.Bool.{cases_eq, le-ltb}
use mathlib.Core.Option as maybe
use mathlib.Core.Option.{some-injective, some-ne-none}
use lib.ListN.{get_elem?}
use prog.Atomic.{either}
use Rattle.atomic_table.specs.Table.{State, Me, Act, keeps, takes, gives, step, stepped, Allows, Splits, Joins, Valid}
use Rattle.atomic_table.specs.Table.{carried_after}
use Rattle.atomic_table.proofs.Lists.{at_set, at_snoc, at_longer, set_again, set_else, exchanged}
use Rattle.pcb_board.specs.Boards.{BoardOf}
use Rattle.board_turn.specs.declared.event.Action.{Action}
use Rattle.board_turn.specs.declared.event.Event.{Event}
use Rattle.board_turn.specs.declared.lock.Opening.{Opening}
use Rattle.board_turn.specs.declared.lock.PassView.{PassView}
use Rattle.board_turn.specs.declared.lock.Role.{Role}
use Rattle.board_turn.specs.declared.lock.Role.TheVariants.{Free, Waits, Holds}
use Rattle.board_turn.specs.declared.lock.View.{View}
use Rattle.board_turn.specs.Events.{event, Does, Reaches, own, IsPrefix}
use Rattle.board_turn.specs.Claims.{one_if, once_below}
use Rattle.board_turn.specs.Lock.{Slot, pass_view}
use Rattle.board_turn.specs.inner.Lock.{named, has_ticket, HaveSeen, FitsRole, IsTrueView, HasHolder, Kept}
use Rattle.board_turn.specs.Lock.{view_of}
use Rattle.board_turn.specs.inner.Lock.{new_passes, no_passes, with_role, Reads, Draws, Served, Looks, with_event}
use Rattle.board_turn.specs.inner.Lock.{Advances, without_first, first_alone, both_views}
use Rattle.board_turn.proofs.Totals.{total-set, total-snoc, total-at, total-two, once_below-suc}
use Rattle.board_turn.proofs.Counts.{set_at, one_if_same, one_if_most, is_below, named-append}
use Rattle.board_turn.proofs.EventLists.{prefix_refl, reaches-snoc, named_snoc, seen-append, seen-other}

abbrev Lock_state : Type 0
Lock_state = State Slot View

-- the views after one changed
views_set : (k : Opening) (events : List Event) (n : ℕ) (views : List View) (id : ℕ) (w : View)
    → ((by : ℕ) (u : View) → by ≢ id → get_elem? views by ≡ maybe.some u → IsTrueView k events n u)
    → IsTrueView k events n w
    → (by : ℕ) (u : View) → get_elem? (set views id w) by ≡ maybe.some u → IsTrueView k events n u
views_set k events n views id w others mine by u there =
    ⊎_elim
    (λ (x : (by ≡ id) × (w ≡ u)). subst (λ (y : View). IsTrueView k events n y) x.1 mine)
    (λ (x : (by ≢ id) × (get_elem? views by ≡ maybe.some u)). others by u x.0 x.1)
    (at_set views id by w u there)

-- a load by a seat that learns nothing
unchanged : (k : Opening) (s : Lock_state) (i id : ℕ) (v : View) → get_elem? s.views id ≡ maybe.some v → Kept k s
    → Kept k record { words = set s.words i (slice_index s.words i); homes = s.homes; views = set s.views id v }
unchanged k s i id v at h = subst
    (λ (t : List ℕ × List View). Kept k record { words = t.0; homes = s.homes; views = t.1 })
    (λ j. (sym (same s.words i) j, sym (set_again s.views id v at) j)) h
  where
    same : (ws : List ℕ) (i : ℕ) → set ws i (slice_index ws i) ≡ ws
    same [] i = refl
    same (w ∷ ws) zero = refl
    same (w ∷ ws) (suc i) = ap (λ us. w ∷ us) (same ws i)

-- a load keeps the rule
pub reads : (k : Opening) (slots id : ℕ) (me : Me Slot View)
    → Allows (Kept k) slots id me 0 (λ n. n) (Reads (step slots 0 0 0 maybe.none) me)
reads k slots id me s h homes at small = (me.0, keeps, tt, unchanged k s 0 id me.0 at h, refl)

-- a holder stays one where a seat that isn't one changes
holder_stays : (views : List View) (id : ℕ) (v w : View) → get_elem? views id ≡ maybe.some v
    → ((t : ℕ) → v.role ≢ Holds t) → HasHolder views → HasHolder (set views id w)
holder_stays views id v w at never h =
    let apart : h.0 ≢ id = λ e. let same : h.1 ≡ v = some-injective h.1 v (sym h.3 ∙ ap (get_elem? views) e ∙ at) in
    never h.2 (ap (λ (u : View). u.role) (sym same) ∙ h.4) in
    (h.0, h.1, h.2, set_else views id h.0 w apart ∙ h.3, h.4)

-- a free seat holds no board
free_never : (r : Role) → r ≡ Free → (t : ℕ) → r ≢ Holds t
free_never r e t f = let x : Free ≡ Holds t = sym e ∙ f in cc

-- a seat that waits holds no board
waits_never : (r : Role) (u : ℕ) → r ≡ Waits u → (t : ℕ) → r ≢ Holds t
waits_never r u e t f = let x : Waits u ≡ Holds t = sym e ∙ f in cc

-- a seat that stands for one pass draws the next ticket
drawn : (k : Opening) (s : Lock_state) (id : ℕ) (v : View) (n : ℕ) → n + 1 < 2 ^ 64 → length v.passes ≡ 1
    → v.role ≡ Free → get_elem? s.views id ≡ maybe.some v → slice_index s.words 0 ≡ n → Kept k s
    → Kept k record { words = set s.words 0 (n + 1); homes = s.homes; views = set s.views id (with_role v (Waits n)) }
drawn k s id v n fits one free at e h =
    let w = with_role v (Waits n) in
    let is : h.ticket ≡ n = ap (λ ws. slice_index ws 0) (sym h.words) ∙ e in
    let mine = h.views id v at in record {
      ticket = n + 1;
      serving = h.serving;
      words = ap (λ ws. set ws 0 (n + 1)) h.words;
      order = let o = h.order in omega arith;
      small = fits;
      events = h.events;
      number = h.number;
      called = h.called;
      board = h.board;
      legal = h.legal;
      home = h.home;
      homes = h.homes;
      place = ⊎_elim (λ x. inl x) (λ x. inr (holder_stays s.views id v w at (free_never v.role free) x)) h.place;
      tickets = λ t.
          let a = total-set (λ (u : View). has_ticket t u.role) s.views id v w at in
          let b = h.tickets t in
          let c = ap (has_ticket t) free in
          let d = ap (once_below t) is in
          omega (arith, a, b, c, d, once_below-suc t n);
      names = λ x. let a = total-set (λ (u : View). named x u.passes) s.views id v w at in let b = h.names x in
          omega arith;
      views = views_set k h.events h.serving s.views id w
          (λ by u _ there. h.views by u there) record { seen = mine.seen; opened = mine.opened; role = one };
    }

-- a compare-exchange on the next ticket keeps the rule
pub draws : (k : Opening) (slots id : ℕ) (me : Me Slot View) (n : ℕ) → n + 1 < 2 ^ 64 → length me.0.passes ≡ 1
    → me.0.role ≡ Free
    → Allows (Kept k) slots id me 0 (λ m. either (eqb m n) (n + 1) m) (Draws (step slots 0 n (n + 1) maybe.none) me)
draws k slots id me n fits one free s h homes at small =
    exchanged (slice_index s.words 0) n (n + 1)
    (λ m. (w : View) × (a : Act Slot) × Valid s.homes me.1 a × Kept k (stepped s 0 m id me.1 w a)
    × Draws (step slots 0 n (n + 1) maybe.none) me (slice_index s.words 0) (w, carried_after me.1 a))
    (λ e. (
      with_role me.0 (Waits n),
      keeps,
      tt,
      drawn k s id me.0 n fits one free at e h,
      ((λ _. ap (λ t. (with_role me.0 (Waits t), me.1)) (sym e)), (λ x. absurd (x e))),
    ))
    (λ x. (me.0, keeps, tt, unchanged k s 0 id me.0 at h, ((λ e. absurd (x e)), (λ _. refl))))

-- two seats never have one ticket that isn't served yet
ticket_once : (k : Opening) (s : Lock_state) (h : Kept k s) (id by : ℕ) (v u : View) (t : ℕ) → by ≢ id
    → get_elem? s.views id ≡ maybe.some v → get_elem? s.views by ≡ maybe.some u → has_ticket t v.role ≡ 1
    → has_ticket t u.role ≡ 1 → ⊥
ticket_once k s h id by v u t apart at there one two =
    let a = total-two (λ (y : View). has_ticket t y.role) s.views by id u v apart there at in
    let b = h.tickets t in
    let c = one_if_most (Rattle.std.proofs.Common.ltb t h.ticket) in
    absurd (omega arith)

-- the seat that is served takes the board
served : (k : Opening) (s : Lock_state) (id : ℕ) (p : PassView) (t : ℕ) (h : Kept k s)
    → get_elem? s.views id ≡ maybe.some (view_of k (p ∷ []) (Waits t)) → h.serving ≡ t
    → (get_elem? s.homes 0 ≡ maybe.some (maybe.some (Some h.board))) × Kept k record {
      words = set s.words 1 (slice_index s.words 1);
      homes = set s.homes 0 maybe.none;
      views = set s.views id (view_of k (pass_view p.name h.events ∷ []) (Holds t));
    }
served k s id p t h at e =
    let v = view_of k (p ∷ []) (Waits t) in
    let q = pass_view p.name h.events in
    let w = view_of k (q ∷ []) (Holds t) in
    let here : h.home ≡ maybe.some (Some h.board) =
    ⊎_elim (λ x. x)
    (λ (x : HasHolder s.views).
    let u = x.1 in
    let it : FitsRole h.events h.serving u.passes (Holds x.2) = subst (FitsRole h.events h.serving u.passes) x.4
    (h.views x.0 u x.3).role in
    let apart : x.0 ≢ id = λ f. let same : u ≡ v = some-injective u v (sym x.3 ∙ ap (get_elem? s.views) f ∙ at) in
    absurd (waits_never v.role t refl x.2 (ap (λ (y : View). y.role) (sym same) ∙ x.4)) in
    let theirs : has_ticket t u.role ≡ 1 = ap (has_ticket t) x.4 ∙ ap (λ y. one_if (eqb y t)) (it.0 ∙ e)
    ∙ one_if_same t in
    absurd (ticket_once k s h id x.0 v u t apart at x.3 (one_if_same t) theirs))
    h.place in (
      ap (λ hs. get_elem? hs 0) h.homes ∙ ap maybe.some here,
      record {
        ticket = h.ticket;
        serving = h.serving;
        words = ap (λ ws. set ws 1 (slice_index ws 1)) h.words;
        order = h.order;
        small = h.small;
        events = h.events;
        number = h.number;
        called = h.called;
        board = h.board;
        legal = h.legal;
        home = maybe.none;
        homes = ap (λ hs. set hs 0 maybe.none) h.homes;
        place = inr (id, w, t, set_at s.views id v w at, refl);
        tickets = λ x. let a = total-set (λ (u : View). has_ticket x u.role) s.views id v w at in let b = h.tickets x in
            omega arith;
        names = λ x. let a = total-set (λ (u : View). named x u.passes) s.views id v w at in let b = h.names x in
            omega arith;
        views = views_set k h.events h.serving s.views id w (λ by u _ there. h.views by u there) record {
          seen = ((prefix_refl h.events, refl), tt);
          opened = λ _. refl;
          role = (sym e, q, refl, refl);
        };
      },
    )

-- the parts of a seat that are known
same_seat : (k k' : Opening) (p p' : PassView) (r r' : Role) → view_of k (p ∷ []) r ≡ view_of k' (p' ∷ []) r'
    → (k ≡ k') × (p ≡ p') × (r ≡ r')
same_seat k k' p p' r r' e =
    let a : Some k ≡ Some k' = ap (λ (v : View). v.opening) e in
    let b : p ∷ [] ≡ p' ∷ [] = ap (λ (v : View). v.passes) e in
    (cc, cc, ap (λ (v : View). v.role) e)

-- seats that wait alike have one ticket
same_wait : (t u : ℕ) → Waits t ≡ Waits u → t ≡ u
same_wait t u e = cc

-- a load of the served number keeps the rule, at the seat as it stands
looks_at : (k : Opening) (slots id : ℕ) (p : PassView) (t : ℕ)
    → Allows (Kept k) slots id (view_of k (p ∷ []) (Waits t), []) 1 (λ n. n)
    (Looks (step slots 1 0 0 maybe.none) (view_of k (p ∷ []) (Waits t), []))
looks_at k slots id p t s h homes at small =
    let n = slice_index s.words 1 in
    let v = view_of k (p ∷ []) (Waits t) in
    let serves : n ≡ h.serving = ap (λ ws. slice_index ws 1) h.words in
    let parts : (k' : Opening) (p' : PassView) (t' : ℕ) → (v, []) ≡ (view_of k' (p' ∷ []) (Waits t'), [])
    → (k ≡ k') × (p ≡ p') × (t ≡ t') =
    λ k' p' t' is. let e = same_seat k k' p p' (Waits t) (Waits t') (ap (λ (m : Me Slot View). m.0) is) in
    (e.0, e.1, same_wait t t' e.2) in
    ⊎_elim
    (λ (e : n ≡ t).
    let r = served k s id p t h at (sym serves ∙ e) in
    let q = pass_view p.name h.events in
    let mine = (h.views id v at).seen in
    let w = view_of k (q ∷ []) (Holds t) in
    let told : Served k p t (w, (0, Some h.board) ∷ []) = record {
      seen = h.events;
      board = h.board;
      before = mine.0.0;
      mine = sym mine.0.1;
      called = h.called;
      legal = h.legal;
      now_is = refl;
    } in (
      w,
      takes 0 (Some h.board),
      r.0,
      r.1,
      λ k' p' t' is. let y = parts k' p' t' is in (
        (λ x. absurd (x (e ∙ y.2))),
        (λ _. subst (λ (z : Opening × PassView × ℕ). Served z.0 z.1 z.2 (w, (0, Some h.board) ∷ []))
            (λ i. (y.0 i, y.1 i, y.2 i)) told),
      ),
    ))
    (λ (x : n ≢ t). (
      v,
      keeps,
      tt,
      unchanged k s 1 id v at h,
      λ k' p' t' is. let y = parts k' p' t' is in
          ((λ _. refl), (λ e. absurd (x (e ∙ sym y.2)))),
    ))
    (cases_eq n t)

-- a load of the served number keeps the rule
pub looks : (k : Opening) (slots id : ℕ) (me : Me Slot View) (p : PassView) (t : ℕ)
    → me ≡ (view_of k (p ∷ []) (Waits t), [])
    → Allows (Kept k) slots id me 1 (λ n. n) (Looks (step slots 1 0 0 maybe.none) me)
looks k slots id me p t is = subst
    (λ (m : Me Slot View). Allows (Kept k) slots id m 1 (λ n. n) (Looks (step slots 1 0 0 maybe.none) m)) (sym is)
    (looks_at k slots id p t)

-- where a seat that has a name goes on, no other has that name
name_once : (k : Opening) (s : Lock_state) (h : Kept k s) (id by : ℕ) (v u : View) (n : ℕ) → by ≢ id
    → get_elem? s.views id ≡ maybe.some v → get_elem? s.views by ≡ maybe.some u → 1 ≤ named n v.passes
    → named n u.passes ≡ 0
name_once k s h id by v u n apart at there one =
    let a = total-two (λ (y : View). named n y.passes) s.views by id u v apart there at in
    let b = h.names n in
    let c = one_if_most (Rattle.std.proofs.Common.ltb n k.count) in
    omega arith

-- a seat that doesn't hold the board fits its role after one more event
role_on : (events more : List Event) (serving : ℕ) (ps : List PassView) (r : Role) → ((t : ℕ) → r ≡ Holds t → ⊥)
    → FitsRole events serving ps r → FitsRole more (serving + 1) ps r
role_on events more serving ps Free never it = tt
role_on events more serving ps (Waits t) never it = it
role_on events more serving ps (Holds t) never it = absurd (never t refl)

-- the served number doesn't wrap
next_served : (x : ℕ) → x + 1 < 2 ^ 64 → (x + 1) % 2 ^ 64 ≡ x + 1
next_served x h = omega arith

-- the holder notes its action, and gives the board back
given : (k : Opening) (s : Lock_state) (id : ℕ) (p : PassView) (t : ℕ) (d : Action) (b c : BoardOf) (h : Kept k s)
    → get_elem? s.views id ≡ maybe.some (view_of k (p ∷ []) (Holds t)) → Reaches k.board.value p.seen b → Does b d c
    → Kept k record {
      words = set s.words 1 ((slice_index s.words 1 + 1) % 2 ^ 64);
      homes = set s.homes 0 (maybe.some (Some c));
      views = set s.views id (view_of k (with_event p d ∷ []) Free);
    }
given k s id p t d b c h at legal did =
    let v = view_of k (p ∷ []) (Holds t) in
    let q = with_event p d in
    let w = view_of k (q ∷ []) Free in
    let it = (h.views id v at).role in
    let seen : p.seen ≡ h.events = ap (λ (ps : List PassView). last_seen ps) it.2 ∙ it.3 in
    let e = event p.name d in
    let later = h.events ++ e ∷ [] in
    let mine : 1 ≤ has_ticket h.serving (Holds t) = let o = one_if_same h.serving in
    let y = ap (λ x. one_if (eqb x h.serving)) it.0 in omega arith in
    let top : h.serving < h.ticket = is_below h.serving h.ticket
    (let a = total-at (λ (u : View). has_ticket h.serving u.role) s.views id v at in let y = h.tickets h.serving in
    omega arith) in
    let fits : h.serving + 1 < 2 ^ 64 = let z = h.small in omega arith in
    let called : p.name < k.count = is_below p.name k.count
    (let a = total-at (λ (u : View). named p.name u.passes) s.views id v at in let y = h.names p.name in
    let o = one_if_same p.name in omega arith) in
    let alone : (by : ℕ) (u : View) → by ≢ id → get_elem? s.views by ≡ maybe.some u → (x : ℕ) → u.role ≡ Holds x → ⊥ =
    λ by u apart there x r.
    let their : FitsRole h.events h.serving u.passes (Holds x) = subst (FitsRole h.events h.serving u.passes) r
    (h.views by u there).role in
    ticket_once k s h id by v u h.serving apart at there
    (ap (λ y. one_if (eqb y h.serving)) it.0 ∙ one_if_same h.serving)
    (ap (has_ticket h.serving) r ∙ ap (λ y. one_if (eqb y h.serving)) their.0 ∙ one_if_same h.serving) in record {
      ticket = h.ticket;
      serving = h.serving + 1;
      words = ap (λ ws. set ws 1 ((slice_index ws 1 + 1) % 2 ^ 64)) h.words
          ∙ ap (λ x. h.ticket ∷ x ∷ []) (next_served h.serving fits);
      order = omega arith;
      small = h.small;
      events = later;
      number = length-append h.events (e ∷ []) ∙ ap (λ x. x + 1) h.number;
      called = named_snoc k.count h.events e h.called called;
      board = c;
      legal = reaches-snoc k.board.value b c h.events e (subst (λ es. Reaches k.board.value es b) seen legal) did;
      home = maybe.some (Some c);
      homes = ap (λ hs. set hs 0 (maybe.some (Some c))) h.homes;
      place = inl refl;
      tickets = λ x.
          let a = total-set (λ (u : View). has_ticket x u.role) s.views id v w at in
          let y = h.tickets x in
          let z = ap (λ n. one_if (eqb n x)) it.0 in
          omega (arith, a, y, z, once_below-suc x h.serving);
      names = λ x. let a = total-set (λ (u : View). named x u.passes) s.views id v w at in let y = h.names x in
          omega arith;
      views = views_set k later (h.serving + 1) s.views id w
          (λ by u apart there.
          let was = h.views by u there in
          let none : named p.name u.passes ≡ 0 = name_once k s h id by v u p.name apart at there
          (let o = one_if_same p.name in omega arith) in record {
            seen = seen-other h.events e u.passes none was.seen;
            opened = was.opened;
            role = role_on h.events later h.serving u.passes u.role (alone by u apart there) was.role;
          })
          record {
            seen = (
              (
                subst (λ es. IsPrefix (p.seen ++ e ∷ []) (es ++ e ∷ [])) seen (prefix_refl (p.seen ++ e ∷ [])),
                ap (λ es. own p.name (es ++ e ∷ [])) seen,
              ),
              tt,
            );
            opened = λ _. refl;
            role = tt;
          };
    }
  where
    last_seen : List PassView → List Event
    last_seen [] = []
    last_seen (x ∷ xs) = x.seen

-- the addition keeps the rule, at the seat as it stands
gives_at : (k : Opening) (slots id : ℕ) (p : PassView) (t : ℕ) (d : Action) (b c : BoardOf)
    → Reaches k.board.value p.seen b → Does b d c
    → Allows (Kept k) slots id (view_of k (p ∷ []) (Holds t), (0, Some c) ∷ []) 1 (λ n. (n + 1) % 2 ^ 64)
    (Advances d (step slots 1 1 0 maybe.none) (view_of k (p ∷ []) (Holds t), (0, Some c) ∷ []))
gives_at k slots id p t d b c legal did s h homes at small =
    let v = view_of k (p ∷ []) (Holds t) in
    let w = view_of k (with_event p d ∷ []) Free in
    let back : Opening → PassView → Me Slot View = λ x y. (view_of x (with_event y d ∷ []) Free, []) in (
      w,
      gives,
      tt,
      given k s id p t d b c h at legal did,
      λ k' p' t' is. let y = same_seat k k' p p' (Holds t) (Holds t') is in
          subst (λ (z : Opening × PassView). back k p ≡ back z.0 z.1) (λ i. (y.0 i, y.1 i)) refl,
    )

-- the addition to the served number keeps the rule
pub advances : (k : Opening) (slots id : ℕ) (me : Me Slot View) (p : PassView) (t : ℕ) (d : Action) (b c : BoardOf)
    → me ≡ (view_of k (p ∷ []) (Holds t), (0, Some c) ∷ []) → Reaches k.board.value p.seen b → Does b d c
    → Allows (Kept k) slots id me 1 (λ n. (n + 1) % 2 ^ 64) (Advances d (step slots 1 1 0 maybe.none) me)
advances k slots id me p t d b c is legal did = subst
    (λ (m : Me Slot View). Allows (Kept k) slots id m 1 (λ n. (n + 1) % 2 ^ 64)
    (Advances d (step slots 1 1 0 maybe.none) m)) (sym is) (gives_at k slots id p t d b c legal did)

-- A seat gives its first pass to a new seat.
pub splits : (k : Opening) (id : ℕ) (v : View) → v.role ≡ Free → v.opening ≡ Some k
    → Splits {S = Slot} (Kept k) id v (without_first v) (first_alone v)
splits k id v free is s h at =
    let l = without_first v in
    let r = first_alone v in
    let vs = set s.views id l in
    let mine = h.views id v at in
    let l_true : IsTrueView k h.events h.serving l = record {
      seen = seen_drop h.events v.passes mine.seen;
      opened = λ _. is;
      role = subst (FitsRole h.events h.serving (drop 1 v.passes)) (sym free) tt;
    } in
    let r_true : IsTrueView k h.events h.serving r = record {
      seen = seen_take h.events v.passes mine.seen;
      opened = λ _. is;
      role = tt;
    } in record {
      ticket = h.ticket;
      serving = h.serving;
      words = h.words;
      order = h.order;
      small = h.small;
      events = h.events;
      number = h.number;
      called = h.called;
      board = h.board;
      legal = h.legal;
      home = h.home;
      homes = h.homes;
      place = ⊎_elim (λ x. inl x)
          (λ x. inr (longer vs r (holder_stays s.views id v l at (free_never v.role free) x))) h.place;
      tickets = λ x.
          let a = total-set (λ (u : View). has_ticket x u.role) s.views id v l at in
          let b = total-snoc (λ (u : View). has_ticket x u.role) vs r in
          let y = h.tickets x in
          omega arith;
      names = λ x.
          let a = total-set (λ (u : View). named x u.passes) s.views id v l at in
          let b = total-snoc (λ (u : View). named x u.passes) vs r in
          let y = h.names x in
          let z = named-cut x v.passes in
          omega arith;
      views = λ by u there. ⊎_elim
          (λ was. views_set k h.events h.serving s.views id l (λ j y _ t. h.views j y t) l_true by u was)
          (λ (same : r ≡ u). subst (λ (y : View). IsTrueView k h.events h.serving y) same r_true)
          (at_snoc vs r u by there);
    }
  where
    seen_drop : (events : List Event) (ps : List PassView) → HaveSeen events ps → HaveSeen events (drop 1 ps)
    seen_drop events [] t = tt
    seen_drop events (p ∷ ps) t = t.1

    seen_take : (events : List Event) (ps : List PassView) → HaveSeen events ps → HaveSeen events (take 1 ps)
    seen_take events [] t = tt
    seen_take events (p ∷ ps) t = (t.0, tt)

    named-cut : (x : ℕ) (ps : List PassView) → named x (take 1 ps) + named x (drop 1 ps) ≡ named x ps
    named-cut x [] = refl
    named-cut x (p ∷ ps) = omega arith

    longer : (views : List View) (w : View) → HasHolder views → HasHolder (views ++ w ∷ [])
    longer views w x = (x.0, x.1, x.2, at_longer views (w ∷ []) x.0 x.1 x.3, x.4)

-- A seat takes in the passes of another.
pub joins : (k : Opening) (id : ℕ) (v : View) (other : ℕ) (w : View) → v.role ≡ Free → w.role ≡ Free
    → v.opening ≡ Some k → Joins {S = Slot} (Kept k) id v other w (both_views v w) no_passes
joins k id v other w free theirs is s h at apart there =
    let b = both_views v w in
    let vs = set s.views id b in
    let was : get_elem? s.views other ≡ maybe.some w = ⊎_elim (λ (e : (other ≡ id) × (b ≡ w)). absurd (apart e.0))
    (λ (e : (other ≢ id) × (get_elem? s.views other ≡ maybe.some w)). e.1) (at_set s.views id other b w there) in
    let b_true : IsTrueView k h.events h.serving b = record {
      seen = seen-append h.events w.passes v.passes (h.views other w was).seen (h.views id v at).seen;
      opened = λ _. is;
      role = subst (FitsRole h.events h.serving (w.passes ++ v.passes)) (sym free) tt;
    } in
    let none : IsTrueView k h.events h.serving no_passes = record {
      seen = tt;
      opened = λ x. absurd (omega arith);
      role = tt;
    } in record {
      ticket = h.ticket;
      serving = h.serving;
      words = h.words;
      order = h.order;
      small = h.small;
      events = h.events;
      number = h.number;
      called = h.called;
      board = h.board;
      legal = h.legal;
      home = h.home;
      homes = h.homes;
      place = ⊎_elim (λ x. inl x)
          (λ x. inr (holder_stays vs other w no_passes there (free_never w.role theirs)
          (holder_stays s.views id v b at (free_never v.role free) x))) h.place;
      tickets = λ x.
          let a = total-set (λ (u : View). has_ticket x u.role) s.views id v b at in
          let y = total-set (λ (u : View). has_ticket x u.role) vs other w no_passes there in
          let z = h.tickets x in
          let f = ap (has_ticket x) theirs in
          omega arith;
      names = λ x.
          let a = total-set (λ (u : View). named x u.passes) s.views id v b at in
          let y = total-set (λ (u : View). named x u.passes) vs other w no_passes there in
          let z = h.names x in
          let f = named-append x w.passes v.passes in
          omega arith;
      views = views_set k h.events h.serving vs other no_passes
          (λ by u _ t. views_set k h.events h.serving s.views id b (λ j y _ q. h.views j y q) b_true by u t) none;
    }

-- the passes from i on, n of them
named-new : (x i n : ℕ) → named x (new_passes i n) + once_below x i ≡ once_below x (i + n)
named-new x i zero = let same : i + 0 ≡ i = omega arith in let a = ap (once_below x) same in omega (arith, a)
named-new x i (suc n) =
    let same : i + 1 + n ≡ i + suc n = omega arith in
    let a = ap (once_below x) same in
    omega (arith, named-new x (i + 1) n, once_below-suc x i, a)

-- new passes have seen all of no events
seen_new : (i n : ℕ) → HaveSeen [] (new_passes i n)
seen_new i zero = tt
seen_new i (suc n) = ((([], refl), refl), seen_new (i + 1) n)

-- the rule holds at the start
pub opens : (k : Opening)
    → Kept k record {
      words = 0 ∷ 0 ∷ [];
      homes = maybe.some (Some k.board.value) ∷ [];
      views = view_of k
          (new_passes 0 k.count) Free ∷ [];
    }
opens k = record {
  ticket = 0;
  serving = 0;
  words = refl;
  order = omega arith;
  small = omega arith;
  events = [];
  number = refl;
  called = tt;
  board = k.board.value;
  legal = refl;
  home = maybe.some (Some k.board.value);
  homes = refl;
  place = inl refl;
  tickets = λ t. omega arith;
  names = λ x. let a = named-new x 0 k.count in let b : 0 + k.count ≡ k.count = omega arith in
      let c = ap (once_below x) b in let d : once_below x 0 ≡ 0 = ap one_if (le-ltb x 0 (omega arith)) in omega arith;
  views = first;
}
  where
    first : (by : ℕ) (v : View) → get_elem? (view_of k (new_passes 0 k.count) Free ∷ []) by ≡ maybe.some v
        → IsTrueView k [] 0 v
    first zero v e = subst (λ (u : View). IsTrueView k [] 0 u)
        (some-injective _ _ e) record { seen = seen_new 0 k.count; opened = λ _. refl; role = tt }
    first (suc n) v e = absurd (some-ne-none v (sym e))
