-- The tokens of a tree have no fault of their own.
use Rattle.std.proofs.Common.{◌≡◌, ◌<◌, ◌≤◌, ◌+◌, ◌-◌, ◌∙◌, ap, sym, subst, ℕ, List, [], ◌∷◌, ◌++◌, map, length, arith}
use Rattle.std.proofs.Common.{refl, suc, append_assoc}
use Rattle.std.specs.Prelude.{Option, Ok, Err}
use Rattle.std.specs.List.{flat_map, AllByRecursion}
use Rattle.std.proofs.lemmas.Bool.Decides.{nat_tests}
use Rattle.dsn_tree.specs.declared.tree.Tree.{Tree}
use Rattle.dsn_tree.specs.declared.tree.Tree.TheOpen.{Tree-F}
use Rattle.dsn_tree.specs.declared.tree.Tree.TheOpen as layer
use Rattle.dsn_tree.specs.declared.tree.Tree.TheViews.{roll-Tree}
use Rattle.dsn_tree.specs.declared.tree.Tree.TheFolds.{ind-Tree, map-Tree}
use Rattle.dsn_tree.specs.declared.fault.TreeFault.TheVariants.{TooDeep}
use Rattle.dsn_tree.specs.Flat.{flat, depth, shown, shown_at, greatest}
use Rattle.dsn_tree.specs.Verdict.{Standing, inside, closed, step, judge, verdict}
use Rattle.dsn_tree.proofs.Flats.{right, cons_one, layer_word, layer_group, depth_layer, all_le}
use Rattle.dsn_tokens.specs.declared.token.Token.{Token}
use Rattle.dsn_tokens.specs.declared.token.TokenFault.{TokenFault}
use Rattle.dsn_tokens.specs.declared.token.Mark.{Mark}
use Rattle.dsn_tokens.specs.declared.token.Mark.TheVariants.{Left, Right, Word}

shown_mark : (at : ℕ) (m : Mark) → (shown_at at m).mark ≡ m
shown_mark at Left = refl
shown_mark at Right = refl
shown_mark at (Word text) = refl

pub mark_is : (u x : Token) → shown u ≡ x → u.mark ≡ x.mark
mark_is u x e = sym (shown_mark u.at u.mark) ∙ ap (λ t. t.mark) e

record Split (us xs ys : List Token) : Type 0 where
  left : List Token
  back : List Token
  is : us ≡ left ++ back
  shows_left : map shown left ≡ xs
  shows_back : map shown back ≡ ys

split : (us xs ys : List Token) → map shown us ≡ xs ++ ys → Split us xs ys
split us [] ys e = record { left = []; back = us; is = refl; shows_left = refl; shows_back = e }
split [] (x ∷ xs) ys e = absurd (omega (arith, ap length e))
split (u ∷ us) (x ∷ xs) ys e =
    let h = cons_one _ x _ (xs ++ ys) e in
    let r = split us xs ys h.1 in
    record {
      left = u ∷ r.left;
      back = r.back;
      is = ap (λ zs. u ∷ zs) r.is;
      shows_left = ap (λ z. z ∷ map shown r.left) h.0 ∙ ap (λ zs. x ∷ zs) r.shows_left;
      shows_back = r.shows_back;
    }

pub verdict_step : (s r : Standing) (t : Token) (ts : List Token) (end : Option TokenFault) → step s t.at t.mark ≡ Ok r
    → verdict s (t ∷ ts) end ≡ verdict r ts end
verdict_step s r t ts end e = ap (λ o. judge o (λ x. verdict x ts end)) e

can_open : (at new : ℕ) (outer : List ℕ) → length outer < 63
    → step (inside at outer) new Left ≡ Ok (inside new (at ∷ outer))
can_open at new outer h = grind (arith, nat_tests)

pub cannot_open : (at new : ℕ) (outer : List ℕ) → 63 ≤ length outer
    → step (inside at outer) new Left ≡ Err (TooDeep new)
cannot_open at new outer h = grind (arith, nat_tests)

pub opens : (at : ℕ) (outer : List ℕ) (t : Token) (ts : List Token) (end : Option TokenFault) → t.mark ≡ Left
    → length outer < 63 → verdict (inside at outer) (t ∷ ts) end ≡ verdict (inside t.at (at ∷ outer)) ts end
opens at outer t ts end e h =
    verdict_step (inside at outer) (inside t.at (at ∷ outer)) t ts end
    (ap (step (inside at outer) t.at) e ∙ can_open at t.at outer h)

-- one token, as it is shown
one : (us : List Token) (x : Token) (s r : Standing) (more : List Token) (end : Option TokenFault)
    → map shown us ≡ x ∷ [] → ((at : ℕ) → step s at x.mark ≡ Ok r) → verdict s (us ++ more) end ≡ verdict r more end
one [] x s r more end e h = absurd (omega (arith, ap length e))
one (u ∷ []) x s r more end e h =
    verdict_step s r u more end (ap (step s u.at) (mark_is u x (cons_one _ x [] [] e).0) ∙ h u.at)
one (u ∷ v ∷ us) x s r more end e h = absurd (omega (arith, ap length e))

abbrev Fits : Tree → Type 0
Fits t = (room : ℕ) (us : List Token) (at : ℕ) (outer : List ℕ) (more : List Token) (end : Option TokenFault)
    → depth t ≤ room → map shown us ≡ flat t → length outer + room ≡ 63 → verdict (inside at outer) (us ++ more) end
    ≡ verdict (inside at outer) more end

all_fit : (items : List Tree) (room : ℕ) (us : List Token) (at : ℕ) (outer : List ℕ) (more : List Token)
    (end : Option TokenFault) → AllByRecursion Fits items → AllByRecursion (λ t. depth t ≤ room) items
    → map shown us ≡ flat_map flat items → length outer + room ≡ 63 → verdict (inside at outer) (us ++ more) end
    ≡ verdict (inside at outer) more end
all_fit [] room [] at outer more end f d e r = refl
all_fit [] room (u ∷ us) at outer more end f d e r = absurd (omega (arith, ap length e))
all_fit (t ∷ items) room us at outer more end f d e r =
    let s = split us (flat t) (flat_map flat items) e in
    ap (λ zs. verdict (inside at outer) (zs ++ more) end) s.is ∙ ap (λ zs. verdict (inside at outer) zs end)
    (append_assoc s.left s.back more)
    ∙ f.0 room s.left at outer (s.back ++ more) end d.0 s.shows_left r ∙ all_fit items room s.back at outer more end f.1
    d.1 s.shows_back r

close : (items : List Tree) (room : ℕ) (us : List Token) (at : ℕ) (outer : List ℕ) (more : List Token)
    (end : Option TokenFault) → AllByRecursion Fits items → AllByRecursion (λ t. depth t ≤ room) items
    → map shown us ≡ flat_map flat items ++ right ∷ [] → length outer + room ≡ 63
    → verdict (inside at outer) (us ++ more) end ≡ verdict (closed outer) more end
close items room us at outer more end f d e r =
    let s = split us (flat_map flat items) (right ∷ []) e in
    ap (λ zs. verdict (inside at outer) (zs ++ more) end) s.is ∙ ap (λ zs. verdict (inside at outer) zs end)
    (append_assoc s.left s.back more)
    ∙ all_fit items room s.left at outer (s.back ++ more) end f d s.shows_left r ∙ one s.back right (inside at outer)
    (closed outer) more end s.shows_back (λ a. refl)

group : (b : ℕ) (items : List Tree) (room : ℕ) (us : List Token) (at : ℕ) (outer : List ℕ) (more : List Token)
    (end : Option TokenFault) → AllByRecursion Fits items → suc (greatest (map depth items)) ≤ room
    → map shown us ≡ record { at = b; mark = Left } ∷ flat_map flat items ++ right ∷ [] → length outer + room ≡ 63
    → verdict (inside at outer) (us ++ more) end ≡ verdict (inside at outer) more end
group b items room [] at outer more end f d e r = absurd (omega (arith, ap length e))
group b items room (u ∷ us) at outer more end f d e r =
    let h = cons_one _ _ _ _ e in
    opens at outer u (us ++ more) end (mark_is u _ h.0) (omega arith) ∙ close items (room - 1) us u.at (at ∷ outer) more
    end f (all_le (room - 1) items (omega arith)) h.1 (omega arith)

alls : (es : List ((t : Tree) × Fits t)) → AllByRecursion Fits (map (λ e. e.0) es)
alls [] = tt
alls (e ∷ es) = (e.1, alls es)

fits_layer : (y : Tree-F ((t : Tree) × Fits t)) (x : Tree-F Tree) → map-Tree ((t : Tree) × Fits t) Tree (λ e. e.0) y ≡ x
    → Fits (roll-Tree x)
fits_layer (layer.Word b text) x is =
    subst (λ z. Fits (roll-Tree z)) is
    (λ room us at outer more end d e r. one us _ (inside at outer) (inside at outer) more end (e ∙ layer_word b text)
    (λ a. refl))
fits_layer (layer.Group b es) x is = subst (λ z. Fits (roll-Tree z)) is (λ room us at outer more end d e r.
    group b (map (λ e. e.0) es) room us at outer more end (alls es) (omega (arith, depth_layer b (map (λ e. e.0) es)))
    (e ∙ layer_group b (map (λ e. e.0) es)) r)

fits : (t : Tree) → Fits t
fits = ind-Tree Fits (λ x y is. fits_layer y x is)

fits_all : (items : List Tree) → AllByRecursion Fits items
fits_all [] = tt
fits_all (t ∷ items) = (fits t, fits_all items)

-- whole trees inside a group leave it as it is
pub items_fit : (items : List Tree) (room : ℕ) (us : List Token) (at : ℕ) (outer : List ℕ) (more : List Token)
    (end : Option TokenFault) → AllByRecursion (λ t. depth t ≤ room) items → map shown us ≡ flat_map flat items
    → length outer + room ≡ 63 → verdict (inside at outer) (us ++ more) end ≡ verdict (inside at outer) more end
items_fit items room us at outer more end d e r = all_fit items room us at outer more end (fits_all items) d e r

-- whole trees and a closing bracket close the group
pub rest_fit : (items : List Tree) (room : ℕ) (us : List Token) (at : ℕ) (outer : List ℕ) (more : List Token)
    (end : Option TokenFault) → AllByRecursion (λ t. depth t ≤ room) items → map shown us ≡ flat_map flat items
    ++ right ∷ [] → length outer + room ≡ 63 → verdict (inside at outer) (us ++ more) end
    ≡ verdict (closed outer) more end
rest_fit items room us at outer more end d e r = close items room us at outer more end (fits_all items) d e r
