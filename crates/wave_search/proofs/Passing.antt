-- What a pass keeps while it comes to nodes.
use Rattle.std.proofs.Common.{◌≡◌, ℕ, zero, suc, ◌+◌, ◌<◌, ◌≤◌, List, [], ◌∷◌, ◌++◌, length, map, take, get_or}
use Rattle.std.proofs.Common.{replicate}
use Rattle.std.proofs.Common.{Option, Some, Bool, true, false, not, cond, refl, sym, ap, ◌∙◌, subst, inl, inr, ◌⊎◌}
use Rattle.std.proofs.Common.{arith}
use Rattle.std.specs.Prelude.{Contains, slice_get, AllPairs}
use Rattle.std.proofs.lemmas.List.Kept.{AllPairs-from_increasing}
use Rattle.std.specs.List.{count_by}
use Rattle.std.specs.List.Sorted.{IsStrictlyIncreasing}
use Rattle.std.proofs.Math.ListN.{set}
use Rattle.std.proofs.lemmas.List.{map-append, length-append, length-map}
use Rattle.std.proofs.lemmas.List.Sums.{sum_by-set}
use Rattle.std.proofs.lemmas.List.Folds.{sum_by-replicate}
use Rattle.std.proofs.Common.{◌*◌}
use Rattle.std.proofs.lemmas.Option.{slice_get-get_or}
use Rattle.route_lattice.specs.Walks.{MoveGraph}
use Rattle.wave_search.specs.declared.rows.Label.{Label}
use Rattle.wave_search.specs.declared.stated.Pass.{Pass}
use Rattle.wave_search.specs.declared.stated.TheConstants.{NO_PLACE}
use Rattle.wave_search.specs.inner.State.{IsStep}
use Rattle.wave_search.specs.inner.Spreads.{Has, IsPath, IsSpread, AllAbove, Ascend, AreFresh, onto}
use Rattle.wave_search.specs.inner.Passing.{IsMarked, first_of, IsTold, IsPlace, Adds, AddsAll, AreNew, IsPriced, IsAt}
use Rattle.wave_search.specs.inner.Passing.{EndsAt, IsBlankPass}
use Rattle.wave_search.specs.inner.State.{IsCheap}
use Rattle.wave_search.proofs.Table.{within}
use Rattle.std.proofs.lemmas.List.{append-nil, take_more}
use Rattle.std.proofs.lemmas.List.Elements.{Contains-get_or, All-contains}
use Rattle.std.specs.Prelude.{All}
use Rattle.wave_search.proofs.Spreading.{has_left, has_right, has_cases, append_assoc, mapped, begins, goes_on, first}
use Rattle.wave_search.proofs.Spreading.{misses}

-- ---- elements
pub contains_has : (xs : List ℕ) (v : ℕ) → Contains xs v → Has xs v
contains_has [] v (k, within, is) = absurd (omega (arith, within))
contains_has (x ∷ xs) v (zero, within, is) = inl is
contains_has (x ∷ xs) v (suc k, within, is) = inr (contains_has xs v (k, omega (arith, within), is))

pub has_contains : (xs : List ℕ) (v : ℕ) → Has xs v → Contains xs v
has_contains [] v h = absurd h
has_contains (x ∷ xs) v h = elim h [
  | inl e ↦ (0, omega arith, e)
  | inr r ↦ let c = has_contains xs v r in (suc c.0, omega (arith, c.1), c.2)
]

above_of : (x : ℕ) (ys : List ℕ) → ((k d : ℕ) → k < length ys → x < get_or ys k d) → AllAbove x ys
above_of x [] f = tt
above_of x (y ∷ ys) f = (f 0 0 (omega arith), above_of x ys (λ k d h. f (suc k) d (omega (arith, h))))

ascend_pairs : (xs : List ℕ) → AllPairs (λ x y. x < y) xs → Ascend xs
ascend_pairs [] f = tt
ascend_pairs (x ∷ xs) f = (
  above_of x xs (λ k d h. f 0 (suc k) d (omega arith) (omega (arith, h))),
  ascend_pairs xs (λ i k d a b. f (suc i) (suc k) d (omega (arith, a)) (omega (arith, b))),
)

pub ascend_of : (xs : List ℕ) → IsStrictlyIncreasing xs → Ascend xs
ascend_of xs f = ascend_pairs xs (AllPairs-from_increasing xs f)

pub get_left : {X : Type 0} (xs ys : List X) (k : ℕ) (x : X) → slice_get xs k ≡ Some x → slice_get (xs ++ ys) k ≡ Some x
get_left [] ys k x h = cc
get_left (z ∷ xs) ys zero x h = h
get_left (z ∷ xs) ys (suc k) x h = get_left xs ys k x h

pub get_last : {X : Type 0} (xs : List X) (x : X) → slice_get (xs ++ x ∷ []) (length xs) ≡ Some x
get_last [] x = refl
get_last (z ∷ xs) x = get_last xs x

pub get_cases : {X : Type 0} (xs : List X) (x : X) (k : ℕ) (y : X) → slice_get (xs ++ x ∷ []) k ≡ Some y
    → (slice_get xs k ≡ Some y) ⊎ ((k ≡ length xs) × (x ≡ y))
get_cases [] x zero y h = inr (refl, cc)
get_cases [] x (suc k) y h = cc
get_cases (z ∷ xs) x zero y h = inl h
get_cases (z ∷ xs) x (suc k) y h = elim (get_cases xs x k y h) [
  | inl p ↦ inl p
  | inr p ↦ inr (omega (arith, p.0), p.1)
]

pub get_has : {X : Type 0} (xs : List X) (k : ℕ) (x : X) → slice_get xs k ≡ Some x → Has xs x
get_has [] k x h = cc
get_has (z ∷ xs) zero x h = inl cc
get_has (z ∷ xs) (suc k) x h = inr (get_has xs k x h)

-- ---- marks
mark_here : (marks : List Bool) (v : ℕ) → v < length marks → IsMarked (set marks v true) v
mark_here [] v h = absurd (omega arith)
mark_here (x ∷ xs) zero h = refl
mark_here (x ∷ xs) (suc v) h = mark_here xs v (omega arith)

mark_stays : (marks : List Bool) (v u : ℕ) → IsMarked marks u → IsMarked (set marks v true) u
mark_stays [] v u m = m
mark_stays (x ∷ xs) zero zero m = refl
mark_stays (x ∷ xs) zero (suc u) m = m
mark_stays (x ∷ xs) (suc v) zero m = m
mark_stays (x ∷ xs) (suc v) (suc u) m = mark_stays xs v u m

mark_only : (marks : List Bool) (v u : ℕ) → IsMarked (set marks v true) u → IsMarked marks u ⊎ (v ≡ u)
mark_only [] v u m = inl m
mark_only (x ∷ xs) zero zero m = inr refl
mark_only (x ∷ xs) zero (suc u) m = inl m
mark_only (x ∷ xs) (suc v) zero m = inl m
mark_only (x ∷ xs) (suc v) (suc u) m = elim (mark_only xs v u m) [ inl p ↦ inl p | inr e ↦ inr (ap suc e) ]

not_set : (marks : List Bool) (v : ℕ) (b : Bool) → slice_get marks v ≡ Some b → (IsMarked marks v → ⊥) → b ≡ false
not_set marks v true e n = absurd (n e)
not_set marks v false e n = refl

mark_less : (marks : List Bool) (v : ℕ) → v < length marks → (IsMarked marks v → ⊥)
    → count_by not (set marks v true) + 1 ≡ count_by not marks
mark_less marks v h n =
    let was = get_or marks v false in
    let is : was ≡ false = not_set marks v was (slice_get-get_or marks v false h) n in
    let one : cond {A = ℕ} (not was) 1 0 ≡ 1 = ap (λ (b : Bool). cond {A = ℕ} (not b) 1 0) is in
    omega (arith, one, sum_by-set (λ (b : Bool). cond {A = ℕ} (not b) 1 0) marks v true false h)

set_size : (marks : List Bool) (v : ℕ) → length (set marks v true) ≡ length marks
set_size [] v = refl
set_size (x ∷ xs) zero = refl
set_size (x ∷ xs) (suc v) = omega (arith, set_size xs v)

-- ---- one node more
pub sized : (old new : Pass) (v place : ℕ) → Adds old v place new → length new.marks.items ≡ length old.marks.items
sized old new v place a = ap (length {A = Bool}) a.marks_are ∙ set_size old.marks.items v

pub told_more : (paths : List (List ℕ)) (old new : Pass) (v place : ℕ) (back : List ℕ) → IsTold paths old
    → (IsMarked old.marks.items v → ⊥) → v < length old.marks.items → IsPlace paths place back → Adds old v place new
    → IsTold (paths ++ (v ∷ back) ∷ []) new
told_more paths old new v place back t fresh within place_is a =
    let path : List ℕ = v ∷ back in
    let more : List (List ℕ) = paths ++ path ∷ [] in record {
      nodes_are = a.nodes_are ∙ ap (λ (l : List ℕ). l ++ v ∷ []) t.nodes_are
          ∙ sym (map-append first_of paths (path ∷ []));
      many = omega (
        arith,
        ap (length {A = ℕ}) a.before_is,
        length-append old.before.items (place ∷ []),
        length-append paths (path ∷ []),
        t.many,
      );
      behind = λ k u bk h. elim (get_cases paths path k (u ∷ bk) h) [
        | inl p ↦ let b = t.behind k u bk p in (
          b.0,
          subst (λ (l : List ℕ). slice_get l k ≡ Some b.0) (sym a.before_is)
              (get_left old.before.items (place ∷ []) k b.0 b.1),
          elim b.2 [ inl q ↦ inl q | inr q ↦ inr (q.0, get_left paths (path ∷ []) b.0 bk q.1) ],
        )
        | inr p ↦ (
          place,
          subst (λ (l : List ℕ). slice_get l k ≡ Some place) (sym a.before_is)
              (subst (λ (x : ℕ). slice_get (old.before.items ++ place ∷ []) x ≡ Some place) (t.many ∙ sym p.0)
              (get_last old.before.items place)),
          subst (λ (l : List ℕ). ((place ≡ NO_PLACE) × (l ≡ [])) ⊎ ((place < k) × (slice_get more place ≡ Some l)))
              (tails v u back bk p.1) (elim place_is [
                | inl q ↦ inl q
                | inr q ↦ inr (omega (arith, q.0, p.0), get_left paths (path ∷ []) place back q.1)
              ]),
        )
      ];
      some = λ k h. elim (get_cases paths path k [] h) [ inl p ↦ t.some k p | inr p ↦ cc ];
      marked = λ u m. elim (mark_only old.marks.items v u (subst (λ (l : List Bool). IsMarked l u) a.marks_are m)) [
        | inl p ↦ let b = t.marked u p in (b.0, has_left paths (path ∷ []) (u ∷ b.0) b.1)
        | inr e ↦ (back, subst (λ (x : ℕ). Has more (x ∷ back)) e (has_right paths (path ∷ []) path (inl refl)))
      ];
      marks = λ u bk h. subst (λ (l : List Bool). IsMarked l u) (sym a.marks_are)
          (elim (has_cases paths (path ∷ []) (u ∷ bk) h) [
            | inl p ↦ mark_stays old.marks.items v u (t.marks u bk p)
            | inr p ↦ elim p [
              | inl e ↦ subst (λ (x : ℕ). IsMarked (set old.marks.items v true) x) (heads v u back bk e)
                  (mark_here old.marks.items v within)
              | inr n ↦ absurd n
            ]
          ]);
      room = omega (
        arith,
        length-append paths (path ∷ []),
        t.room,
        mark_less old.marks.items v within fresh,
        ap (λ (l : List Bool). count_by not l) a.marks_are,
        sized old new v place a,
      );
    }
  where
    heads : (x y : ℕ) (xs ys : List ℕ) → x ∷ xs ≡ y ∷ ys → x ≡ y
    heads x y xs ys e = cc

    tails : (x y : ℕ) (xs ys : List ℕ) → x ∷ xs ≡ y ∷ ys → xs ≡ ys
    tails x y xs ys e = cc

-- ---- the first node that waits
pub record HasFirst (done rest : List (List ℕ)) (k : ℕ) : Type 0 where
  pub path : List ℕ
  pub later : List (List ℕ)
  pub rest_is : rest ≡ path ∷ later
  pub node_is : get_or (map first_of (done ++ rest)) k 0 ≡ first_of path
  pub there : slice_get (done ++ rest) k ≡ Some path

pub has_first : (done rest : List (List ℕ)) (k : ℕ) → length done ≡ k → k < length (map first_of (done ++ rest))
    → HasFirst done rest k
has_first [] [] k e h = absurd (omega (arith, h))
has_first [] (p ∷ r) zero e h =
    record { path = p; later = r; rest_is = refl; node_is = refl; there = refl }
has_first [] (p ∷ r) (suc k) e h = absurd (omega (arith, e))
has_first (d ∷ done) rest zero e h = absurd (omega (arith, e))
has_first (d ∷ done) rest (suc k) e h = let f = has_first done rest k (omega (arith, e)) (omega (arith, h)) in
    record { path = f.path; later = f.later; rest_is = f.rest_is; node_is = f.node_is; there = f.there }

-- ---- the pass goes on
module _ (graph : MoveGraph) (starts goals : List ℕ) (t : List (Option Label)) (most : ℕ) where
  abbrev R : ℕ → Type 0
  R = Contains starts

  abbrev T : ℕ → ℕ → Type 0
  T = IsStep graph t

  abbrev G : ℕ → Type 0
  G u = Contains goals u × IsPriced t u most

  -- it begins at the starts
  pub at_starts : (roots : List ℕ) (p : Pass) → IsStrictlyIncreasing roots
      → ((v : ℕ) → Contains roots v → Contains starts v) → ((v : ℕ) → Contains starts v → Contains roots v)
      → IsTold (map (onto []) roots) p → length p.marks.items ≡ graph.count → IsAt graph starts goals t most p 0
  at_starts roots p up led every told size = record {
    done = [];
    rest = map (onto []) roots;
    spread = begins R T roots (ascend_of roots up) (λ v h. led v (has_contains roots v h))
        (λ v r. contains_has roots v (every v r));
    told = told;
    place = refl;
    sized = size;
    no_goal = λ u back h. absurd h;
  }

  -- at a node that is no goal it comes to the nodes beyond
  pub at_next : (p new : Pass) (k : ℕ) (a : IsAt graph starts goals t most p k) (f : HasFirst a.done a.rest k)
      (u : ℕ) (back fresh : List ℕ) → f.path ≡ u ∷ back → (G u → ⊥) → AreNew graph t p.marks.items u fresh
      → IsTold ((a.done ++ a.rest) ++ map (onto (u ∷ back)) fresh) new
      → length new.marks.items ≡ length p.marks.items → IsAt graph starts goals t most new (k + 1)
  at_next p new k a f u back fresh path_is none is_new told size =
      let path : List ℕ = u ∷ back in
      let rest_is : a.rest ≡ path ∷ f.later = f.rest_is ∙ ap (λ (l : List ℕ). l ∷ f.later) path_is in
      let spread : IsSpread R T a.done (path ∷ f.later) = subst (IsSpread R T a.done) rest_is a.spread in
      let fresh_are : AreFresh T (a.done ++ path ∷ f.later) u fresh = record {
        ascend = ascend_of fresh is_new.ascend;
        led = λ v h. (is_new.led v (has_contains fresh v h)).0;
        every = λ v s. elim (is_new.every v s) [
          | inl c ↦ inl (contains_has fresh v c)
          | inr m ↦ let b = a.told.marked v m in
              inr (b.0, subst (λ (l : List (List ℕ)). Has (a.done ++ l) (v ∷ b.0)) rest_is b.1)
        ];
      } in
      record {
        done = a.done ++ path ∷ [];
        rest = f.later ++ map (onto path) fresh;
        spread = goes_on R T a.done f.later u back fresh spread fresh_are;
        told = subst (λ (l : List (List ℕ)). IsTold l new)
            (ap (λ (l : List (List ℕ)). (a.done ++ l) ++ map (onto path) fresh) rest_is
            ∙ sym (append_assoc a.done path f.later (map (onto path) fresh))) told;
        place = omega (arith, length-append a.done (path ∷ []), a.place);
        sized = size ∙ a.sized;
        no_goal = λ w ys h. elim (has_cases a.done (path ∷ []) (w ∷ ys) h) [
          | inl q ↦ a.no_goal w ys q
          | inr q ↦ elim q [
            | inl e ↦ subst (λ (x : ℕ). G x → ⊥) (heads u w back ys e) none
            | inr n ↦ absurd n
          ]
        ];
      }
    where
      heads : (x y : ℕ) (xs ys : List ℕ) → x ∷ xs ≡ y ∷ ys → x ≡ y
      heads x y xs ys e = cc

  -- at a goal it ends
  pub at_goal : (p : Pass) (k : ℕ) (a : IsAt graph starts goals t most p k) (f : HasFirst a.done a.rest k) (u : ℕ)
      (back : List ℕ) → f.path ≡ u ∷ back → G u → EndsAt graph starts goals t most p k
  at_goal p k a f u back path_is goal =
      let path : List ℕ = u ∷ back in
      let rest_is : a.rest ≡ path ∷ f.later = f.rest_is ∙ ap (λ (l : List ℕ). l ∷ f.later) path_is in
      let spread : IsSpread R T a.done (path ∷ f.later) = subst (IsSpread R T a.done) rest_is a.spread in
      record {
        paths = a.done ++ a.rest;
        told = a.told;
        goal = u;
        back = back;
        there = subst (λ (l : List ℕ). slice_get (a.done ++ a.rest) k ≡ Some l) path_is f.there;
        leads = spread.paths path (has_right a.done (path ∷ f.later) path (inl refl));
        is_goal = goal;
        first = λ g ys leads is. first R T G a.done f.later path spread a.no_goal g ys leads is;
      }

  -- where a path leads to a goal it doesn't end before
  pub at_end : (p : Pass) (k : ℕ) → IsAt graph starts goals t most p k → length p.nodes.items ≤ k → (g : ℕ)
      (back : List ℕ) → IsPath R T (g ∷ back) → G g → ⊥
  at_end p k a over g back leads goal =
      misses R T G a.done (subst (IsSpread R T a.done) (none_left a.rest (omega (
        arith,
        length-append a.done a.rest,
        a.place,
        over,
        ap (length {A = ℕ}) a.told.nodes_are,
        length-map (a.done ++ a.rest) first_of,
      ))) a.spread) a.no_goal g back leads goal
    where
      none_left : (l : List (List ℕ)) → length l ≡ 0 → l ≡ []
      none_left [] e = refl
      none_left (x ∷ l) e = absurd (omega (arith, e))

-- the node at a place is the last one of its path
pub node_of : (done rest : List (List ℕ)) (k : ℕ) (f : HasFirst done rest k) (p : Pass) → IsTold (done ++ rest) p
    → (u : ℕ) → u ≡ get_or p.nodes.items k 0 → (back : List ℕ) × (f.path ≡ u ∷ back)
node_of done rest k f p told u e = by f.path f.there (sym f.node_is)
  where
    u_is : u ≡ get_or (map first_of (done ++ rest)) k 0
    u_is = e ∙ ap (λ (l : List ℕ). get_or l k 0) told.nodes_are

    by : (path : List ℕ) → slice_get (done ++ rest) k ≡ Some path
        → first_of path ≡ get_or (map first_of (done ++ rest)) k 0 → (back : List ℕ) × (path ≡ u ∷ back)
    by [] there h = absurd (told.some k there)
    by (v ∷ back) there h = (back, ap (λ (x : ℕ). x ∷ back) (h ∙ sym u_is))

-- ---- several nodes more
short_ascend : (xs : List ℕ) (v : ℕ) → Ascend (xs ++ v ∷ []) → Ascend xs × ((u : ℕ) → Has xs u → u < v)
short_ascend [] v f = (tt, λ u h. absurd h)
short_ascend (x ∷ xs) v f = let r = short_ascend xs v f.1 in (
  (short_above x xs v f.0, r.0),
  λ u h. elim h [ inl e ↦ omega (arith, e, last_above x xs v f.0) | inr k ↦ r.1 u k ],
)
  where
    short_above : (x : ℕ) (xs : List ℕ) (v : ℕ) → AllAbove x (xs ++ v ∷ []) → AllAbove x xs
    short_above x [] v f = tt
    short_above x (y ∷ xs) v f = (f.0, short_above x xs v f.1)

    last_above : (x : ℕ) (xs : List ℕ) (v : ℕ) → AllAbove x (xs ++ v ∷ []) → x < v
    last_above x [] v f = f.0
    last_above x (y ∷ xs) v f = last_above x xs v f.1

pub adds_none : (p : Pass) (place : ℕ) → AddsAll p [] place p
adds_none p place = record {
  size = refl;
  told = λ paths back t is up none. subst (λ (l : List (List ℕ)). IsTold l p) (sym (append-nil paths)) t;
}

pub adds_one : (old mid new : Pass) (fresh : List ℕ) (v place : ℕ) → AddsAll old fresh place mid → Adds mid v place new
    → v < length mid.marks.items → AddsAll old (fresh ++ v ∷ []) place new
adds_one old mid new fresh v place a one there = record {
  size = sized mid new v place one ∙ a.size;
  told = λ paths back t is up none.
      let s = short_ascend fresh v up in
      let before = a.told paths back t is s.0 (λ u h. none u (has_left fresh (v ∷ []) u h)) in
      let all : List (List ℕ) = paths ++ map (onto back) fresh in
      subst (λ (l : List (List ℕ)). IsTold l new) (longer paths back)
      (told_more all mid new v place back before (λ m.
      let b = before.marked v m in
      elim (has_cases paths (map (onto back) fresh) (v ∷ b.0) b.1) [
        | inl p ↦ none v (has_right fresh (v ∷ []) v (inl refl)) (t.marks v b.0 p)
        | inr p ↦ let q = mapped back fresh (v ∷ b.0) p in
            omega (arith, s.1 q.0 q.1, heads q.0 v back b.0 q.2)
      ]) there (elim is [
        | inl p ↦ inl p
        | inr p ↦ inr (
          omega (arith, p.0, length-append paths (map (onto back) fresh)),
          get_left paths (map (onto back) fresh) place back p.1,
        )
      ]) one);
}
  where
    heads : (x y : ℕ) (xs ys : List ℕ) → x ∷ xs ≡ y ∷ ys → x ≡ y
    heads x y xs ys e = cc

    assoc : (xs ys : List (List ℕ)) (z : List ℕ) → (xs ++ ys) ++ z ∷ [] ≡ xs ++ (ys ++ z ∷ [])
    assoc [] ys z = refl
    assoc (x ∷ xs) ys z = ap (λ (l : List (List ℕ)). x ∷ l) (assoc xs ys z)

    longer : (paths : List (List ℕ)) (back : List ℕ)
        → (paths ++ map (onto back) fresh) ++ (v ∷ back) ∷ [] ≡ paths ++ map (onto back) (fresh ++ v ∷ [])
    longer paths back = assoc paths (map (onto back) fresh) (v ∷ back)
        ∙ ap (λ (l : List (List ℕ)). paths ++ l) (sym (map-append (onto back) fresh (v ∷ [])))

pub adds_next : (old mid new : Pass) (fresh : List ℕ) (i place : ℕ) → AddsAll old (take i fresh) place mid
    → i < length fresh → All (λ v. v < length old.marks.items) fresh → Adds mid (get_or fresh i 0) place new
    → AddsAll old (take (i + 1) fresh) place new
adds_next old mid new fresh i place a h all one =
    subst (λ (l : List ℕ). AddsAll old l place new) (sym (take_more fresh i 0 h))
    (adds_one old mid new (take i fresh) (get_or fresh i 0) place a one (omega (arith, all i 0 h, a.size)))

pub all_below : (xs ys : List ℕ) (count n : ℕ) → ((v : ℕ) → Contains xs v → Contains ys v)
    → All (λ s. s < count) ys → n ≡ count → (k d : ℕ) → k < length xs → get_or xs k d < n
all_below xs ys count n f all e k d h =
    omega (
      arith,
      All-contains (λ s. s < count) ys (get_or xs k d) all (f (get_or xs k d) (Contains-get_or xs k d h)),
      e,
    )

-- a node that it came to has a label
pub node_there : (graph : MoveGraph) (starts goals : List ℕ) (t : List (Option Label)) (most : ℕ) (p : Pass) (k : ℕ)
    → IsAt graph starts goals t most p k → ((s : ℕ) → Contains starts s → IsCheap t s 0) → k < length p.nodes.items
    → (u : ℕ) → u ≡ get_or p.nodes.items k 0 → u < length t
node_there graph starts goals t most p k a seeded h u e =
    let f = has_first a.done a.rest k a.place (omega (arith, h, ap (length {A = ℕ}) a.told.nodes_are)) in
    let n = node_of a.done a.rest k f p a.told u e in
    by n.0 (a.spread.paths (u ∷ n.0) (subst (λ (l : List ℕ). Has (a.done ++ a.rest) l) n.1
    (get_has (a.done ++ a.rest) k f.path f.there)))
  where
    by : (back : List ℕ) → IsPath (Contains starts) (IsStep graph t) (u ∷ back) → u < length t
    by [] c = let w = seeded u c in within t u w.label w.there
    by (x ∷ back) c = within t u c.0.after c.0.there

-- a pass that has come to no node
pub blank_pass : (count : ℕ) (p : Pass) → p.nodes.items ≡ [] → p.before.items ≡ []
    → p.marks.items ≡ replicate count false
    → IsBlankPass count p
blank_pass count p ne be me = record {
  told = record {
    nodes_are = ne;
    many = ap (length {A = ℕ}) be;
    behind = λ k v back h. cc;
    some = λ k h. cc;
    marked = λ v m. absurd (none_set count v (subst (λ (l : List Bool). IsMarked l v) me m));
    marks = λ v back h. absurd h;
    room =
        let left : count_by not p.marks.items ≡ count = ap (λ (l : List Bool). count_by not l) me ∙ all_left count in
        let size : length p.marks.items ≡ count = ap (length {A = Bool}) me ∙ size_of count in
        omega (arith, left, size);
  };
  size = ap (length {A = Bool}) me ∙ size_of count;
}
  where
    none_set : (n v : ℕ) → IsMarked (replicate n false) v → ⊥
    none_set zero v m = cc
    none_set (suc n) zero m = cc
    none_set (suc n) (suc v) m = none_set n v m

    size_of : (n : ℕ) → length (replicate n false) ≡ n
    size_of zero = refl
    size_of (suc n) = omega (arith, size_of n)

    times_one : (n : ℕ) → n * 1 ≡ n
    times_one n = omega arith

    all_left : (n : ℕ) → count_by not (replicate n false) ≡ n
    all_left n = sum_by-replicate (λ (b : Bool). cond {A = ℕ} (not b) 1 0) n false ∙ times_one n
