-- Each step keeps the rule.
use Rattle.std.proofs.Common.{◌≡◌, ◌≢◌, ℕ, ◌+◌, ◌<◌, ◌≤◌, eqb, List, [], ◌∷◌, length, set, refl, sym, ap, ◌∙◌, subst}
use Rattle.std.proofs.Common.{⊎_elim, arith, length-set, All}
use Rattle.std.specs.Prelude.{slice_index}
use mathlib.Core.Option.{some, none}
use lib.ListN.{get_elem?}
use prog.Atomic.{either}
use Rattle.atomic_table.specs.Table.{State, Me, Act, keeps, step, stepped, Allows, Splits, Joins, Valid}
use Rattle.atomic_table.specs.Table.{carried_after, Final, Seen}
use Rattle.atomic_table.proofs.Lists.{at_set, at_snoc, set_again, exchanged}
use Rattle.board_turn.specs.declared.claims.Hand.{Hand}
use Rattle.board_turn.specs.Claims.{total, times, once_below, saw, drew, less_one, newcomer, both_hands, spent}
use Rattle.board_turn.specs.Claims.{Claims, Looks, Draws}
use Rattle.board_turn.proofs.Totals.{total-set, total-snoc, total-at, total-only, total-none, times-append}
use Rattle.board_turn.proofs.Totals.{once_below-suc, times-below}

-- the only word, after a write
word_is : (ws : List ℕ) (n : ℕ) → length ws ≡ 1 → slice_index (set ws 0 n) 0 ≡ n
word_is [] n e = absurd (omega arith)
word_is (x ∷ xs) n e = refl

set_word : (ws : List ℕ) → set ws 0 (slice_index ws 0) ≡ ws
set_word [] = refl
set_word (x ∷ xs) = refl

-- the rule after a load at which one view changes, but for what was drawn and its shares
notes : {S : Type 0} (tasks id : ℕ) (v : Hand) (s : State S Hand) → Claims tasks s → get_elem? s.views id ≡ some v
    → Claims tasks record {
      words = set s.words 0 (slice_index s.words 0);
      homes = s.homes;
      views = set s.views id
          (saw v (slice_index s.words 0));
    }
notes tasks id v s h at =
    let n = slice_index s.words 0 in
    let w = saw v n in
    subst (λ (ws : List ℕ). Claims tasks record { words = ws; homes = s.homes; views = set s.views id w })
    (sym (set_word s.words)) record {
      one_word = h.one_word;
      within = h.within;
      shares = let t = total-set (λ (u : Hand). u.shares) s.views id v w at in omega (arith, t, h.shares);
      once = λ x. let t = total-set (λ (u : Hand). times x u.drawn) s.views id v w at in omega (arith, t, h.once x);
      idle = λ by u there z. ⊎_elim (λ (e : (by ≡ id)
          × (w ≡ u)). let q = ap (λ (y : Hand). y.shares) e.1 in ap (λ (y : Hand). y.drawn) (sym e.1)
          ∙ h.idle id v at (q ∙ z)) (λ (e : (by ≢ id)
          × (get_elem? s.views by ≡ some u)). h.idle by u e.1 z) (at_set s.views id by w u there);
      seen = λ by u there. ⊎_elim (λ (e : (by ≡ id)
          × (w ≡ u)). let q = ap (λ (y : Hand). y.floor) e.1 in omega arith) (λ (e : (by ≢ id)
          × (get_elem? s.views by ≡ some u)). h.seen by u e.1) (at_set s.views id by w u there);
    }

pub looks : {S : Type 0} (tasks slots id : ℕ) (me : Me S Hand)
    → Allows (Claims tasks) slots id me 0 (λ n. n) (Looks (step slots 0 0 0 none) me)
looks tasks slots id me s h homes at small = (
  saw me.0
      (slice_index s.words 0),
  keeps,
  tt,
  notes tasks id me.0 s h at,
  refl,
)

module _ {S : Type 0} (tasks id : ℕ) (v : Hand) (next : ℕ) (low : next < tasks) (mine : 0 < v.shares)
    (s : State S Hand) (h : Claims tasks s) (at : get_elem? s.views id ≡ some v) (e : slice_index s.words 0
    ≡ next) where
  at_most : (x : ℕ) → times x v.drawn ≤ once_below x next
  at_most x = subst (λ k. times x v.drawn ≤ once_below x k) e
      (subst (λ k. times x v.drawn ≤ k) (h.once x) (total-at (λ (u : Hand). times x u.drawn) s.views id v at))

  won : Claims tasks record { words = set s.words 0 (next + 1); homes = s.homes; views = set s.views id (drew v next) }
  won =
      let w = drew v next in
      let now : slice_index (set s.words 0 (next + 1)) 0 ≡ next + 1 = word_is s.words (next + 1) h.one_word in record {
        one_word = length-set s.words 0 (next + 1) ∙ h.one_word;
        within = subst (λ k. k ≤ tasks) (sym now) (omega arith);
        shares = let t = total-set (λ (u : Hand). u.shares) s.views id v w at in omega (arith, t, h.shares);
        once = λ x. let t = total-set (λ (u : Hand). times x u.drawn) s.views id v w at in
            let o : total (λ (u : Hand). times x u.drawn) s.views ≡ once_below x next = h.once x
            ∙ ap (once_below x) e in
            let g : once_below x (slice_index (set s.words 0 (next + 1)) 0)
            ≡ once_below x (next + 1) = ap (once_below x) now in
            omega (arith, t, o, g, times-append x v.drawn (next ∷ []), once_below-suc x next);
        idle = λ by u there z. ⊎_elim (λ (q : (by ≡ id)
            × (w ≡ u)). let r = ap (λ (y : Hand). y.shares) q.1 in absurd (omega arith)) (λ (q : (by ≢ id)
            × (get_elem? s.views by ≡ some u)). h.idle by u q.1 z) (at_set s.views id by w u there);
        seen = λ by u there. ⊎_elim
            (λ (q : (by ≡ id) × (w ≡ u)). let r = ap (λ (y : Hand). y.floor) q.1 in let f = h.seen id v at in omega
            (arith, now))
            (λ (q : (by ≢ id) × (get_elem? s.views by ≡ some u)). let f = h.seen by u q.1 in omega (arith, now))
            (at_set s.views id by w u there);
      }

pub draws : {S : Type 0} (tasks slots id : ℕ) (me : Me S Hand) (next : ℕ) → next < tasks → 0 < me.0.shares
    → Allows (Claims tasks) slots id me 0 (λ n. either (eqb n next) (next + 1) n)
    (Draws (step slots 0 next (next + 1) none) me)
draws {S} tasks slots id me next low mine s h homes at small =
    exchanged (slice_index s.words 0) next (next + 1)
    (λ m. (w : Hand) × (a : Act S) × Valid s.homes me.1 a × Claims tasks (stepped s 0 m id me.1 w a)
    × Draws (step slots 0 next (next + 1) none) me (slice_index s.words 0) (w, carried_after me.1 a))
    (λ e. (
      drew me.0 next,
      keeps,
      tt,
      won tasks id me.0 next low mine s h at e,
      (
        (λ _. (
          ap (λ k. (drew me.0 k, me.1)) (sym e),
          subst (λ k. All (λ x. x < k) me.0.drawn) (sym e)
              (times-below next me.0.drawn (at_most tasks id me.0 next low mine s h at e)),
        )),
        (λ n. absurd (n e)),
      ),
    ))
    (λ n. (
      me.0,
      keeps,
      tt,
      subst (λ (t : List ℕ
          × List Hand). Claims tasks record { words = t.0; homes = s.homes; views = t.1 })
          (λ i. (sym (set_word s.words) i, sym (set_again s.views id me.0 at) i)) h,
      ((λ e. absurd (n e)), (λ _. refl)),
    ))

pub cuts : {S : Type 0} (tasks id : ℕ) (v : Hand) → 1 < v.shares
    → Splits {S = S} (Claims tasks) id v (less_one v) (newcomer v)
cuts tasks id v two s h at =
    let l = less_one v in
    let r = newcomer v in
    let vs = set s.views id l in record {
      one_word = h.one_word;
      within = h.within;
      shares = let t = total-set (λ (u : Hand). u.shares) s.views id v l at in let q = total-snoc
          (λ (u : Hand). u.shares) vs r in omega (arith, t, q, h.shares);
      once = λ x. let t = total-set (λ (u : Hand). times x u.drawn) s.views id v l at in let q = total-snoc
          (λ (u : Hand). times x u.drawn) vs r in omega (arith, t, q, h.once x);
      idle = λ by u there z. ⊎_elim
          (λ was. ⊎_elim (λ (e : (by ≡ id) × (l
          ≡ u)). let y = ap (λ (k : Hand). k.shares) e.1 in absurd (omega arith)) (λ (e : (by ≢ id)
          × (get_elem? s.views by ≡ some u)). h.idle by u e.1 z) (at_set s.views id by l u was))
          (λ (same : r ≡ u). ap (λ (k : Hand). k.drawn) (sym same))
          (at_snoc vs r u by there);
      seen = λ by u there. ⊎_elim
          (λ was. ⊎_elim (λ (e : (by ≡ id) × (l
          ≡ u)). subst (λ (k : Hand). k.floor ≤ slice_index s.words 0) e.1 (h.seen id v at)) (λ (e : (by ≢ id)
          × (get_elem? s.views by ≡ some u)). h.seen by u e.1) (at_set s.views id by l u was))
          (λ (same : r ≡ u). subst (λ (k : Hand). k.floor ≤ slice_index s.words 0) same (h.seen id v at))
          (at_snoc vs r u by there);
    }

pub glues : {S : Type 0} (tasks id : ℕ) (v : Hand) (other : ℕ) (w : Hand) → 0 < v.shares
    → Joins {S = S} (Claims tasks) id v other w (both_hands v w) spent
glues tasks id v other w mine s h at apart there =
    let b = both_hands v w in
    let vs = set s.views id b in
    let was : get_elem? s.views other ≡ some w = ⊎_elim (λ (e : (other ≡ id)
    × (b ≡ w)). absurd (apart e.0)) (λ (e : (other ≢ id)
    × (get_elem? s.views other ≡ some w)). e.1) (at_set s.views id other b w there) in record {
      one_word = h.one_word;
      within = h.within;
      shares = let t = total-set (λ (u : Hand). u.shares) s.views id v b at in let q = total-set
          (λ (u : Hand). u.shares) vs other w spent there in omega (arith, t, q, h.shares);
      once = λ x. let t = total-set (λ (u : Hand). times x u.drawn) s.views id v b at in let q = total-set
          (λ (u : Hand). times x u.drawn) vs other w spent there in omega
          (arith, t, q, h.once x, times-append x v.drawn w.drawn);
      idle = λ by u here z. ⊎_elim
          (λ (e : (by ≡ other) × (spent ≡ u)). ap (λ (k : Hand). k.drawn) (sym e.1))
          (λ (f : (by ≢ other) × (get_elem? vs by ≡ some u)). ⊎_elim (λ (e : (by ≡ id)
          × (b ≡ u)). let y = ap (λ (k : Hand). k.shares) e.1 in absurd (omega arith)) (λ (e : (by ≢ id)
          × (get_elem? s.views by ≡ some u)). h.idle by u e.1 z) (at_set s.views id by b u f.1))
          (at_set vs other by spent u here);
      seen = λ by u here. ⊎_elim
          (λ (e : (by ≡ other) × (spent ≡ u)). let y = ap (λ (k : Hand). k.floor) e.1 in omega arith)
          (λ (f : (by ≢ other) × (get_elem? vs by ≡ some u)). ⊎_elim (λ (e : (by ≡ id)
          × (b ≡ u)). let y = ap (λ
          (k : Hand). k.floor) e.1 in let p = h.seen id v at in let q = h.seen other w was in omega arith)
          (λ (e : (by ≢ id) × (get_elem? s.views by ≡ some u)). h.seen by u e.1) (at_set s.views id by b u f.1))
          (at_set vs other by spent u here);
    }

-- at the end one seat has all shares, so the others drew nothing, and it drew all numbers
pub all_drawn : {S : Type 0} (tasks id : ℕ) (v : Hand) (ws : List ℕ) (xs : List S) → v.shares ≡ 17 → tasks ≤ v.floor
    → Final (Seen (Claims tasks) id v) ws xs → (x : ℕ) → times x v.drawn ≡ once_below x tasks
all_drawn tasks id v ws xs all ended f x =
    let s = f.0 in
    let h = f.1.0 in
    let at = f.1.1 in
    let full : total (λ (u : Hand). u.shares) s.views ≡ v.shares = h.shares ∙ sym all in
    let others : (j : ℕ) (u : Hand) → id ≢ j → get_elem? s.views j ≡ some u → times x u.drawn
    ≡ 0 = λ j u n there. ap (times x) (h.idle j u there (total-none
    (λ (y : Hand). y.shares) s.views id v at full j u n there)) in
    let one = total-only (λ (u : Hand). times x u.drawn) s.views id v at others in
    let top : slice_index s.words 0 ≡ tasks = let p = h.seen id v at in let q = h.within in omega arith in
    sym one ∙ h.once x ∙ ap (once_below x) top
