-- The first place of a name, with one more name behind.
use Rattle.std.proofs.Common.{suc, ◌≡◌, ◌++◌, ◌+◌, ◌∙◌, ap, sym, ℕ, List, [], ◌∷◌, length, Bool, true, false, cond}
use Rattle.std.proofs.Common.{refl, arith}
use Rattle.std.specs.Prelude.{Option, Some, None, is_some, if◌then◌else◌}
use Rattle.std.specs.Option.{option_or}
use Rattle.std.specs.List.{position_from}
use Rattle.std.specs.Str.{bytes_eq}
use Rattle.std.proofs.lemmas.Slice.Eq.{bytes_eq-Decides}
use Rattle.std.specs.Borrow.{Bor}
use Rattle.std.specs.BTreeMap.{BTreeMap}
use Rattle.dsn_shapes.specs.Names.{first_place}
use Rattle.dsn_shapes.specs.Index.{place_by}
use Rattle.dsn_shapes.specs.Lists.{heads_of}

cons_place : (b c : Bool) (i n : ℕ) (p q : Option ℕ) → p ≡ option_or q (cond c (Some (i + 1 + n)) None)
    → cond b (Some i) p ≡ option_or (cond b (Some i) q) (cond c (Some (i + suc n)) None)
cons_place true c i n p q e = refl
cons_place false c i n p q e = let s : i + 1 + n ≡ i + suc n = omega arith in
    e ∙ ap (λ m. option_or q (cond c (Some m) None)) s

pub push_place : {K : Type 0} (t : K → Bool) (xs : List K) (x : K) (i : ℕ) → position_from t i (xs ++ x ∷ [])
    ≡ option_or (position_from t i xs) (cond (t x) (Some (i + length xs)) None)
push_place t [] x i = let s : i ≡ i + 0 = omega arith in ap (λ m. cond (t x) (Some m) None) s
push_place t (y ∷ ys) x i = cons_place (t y) (t x) i (length ys) _ _ (push_place t ys x (i + 1))

joined : (p r : Option ℕ) (b : Bool) (n : ℕ) → (b ≡ true → r ≡ p) → option_or p (cond b (Some n) None)
    ≡ (if is_some r then p else cond b (Some n) p)
joined None None true n h = refl
joined None None false n h = refl
joined None (Some y) true n h = let e = h refl in cc
joined None (Some y) false n h = refl
joined (Some x) None true n h = let e = h refl in cc
joined (Some x) None false n h = refl
joined (Some x) (Some y) true n h = refl
joined (Some x) (Some y) false n h = refl

-- a name that is there keeps its place, and a new one gets the place behind
pub pushed_name : (name q : List ℕ) (names : List (List ℕ)) → first_place q (names ++ name ∷ [])
    ≡ (if is_some (first_place name names) then first_place q names
    else cond (bytes_eq name q) (Some (length names)) (first_place q names))
unfolding first_place
pushed_name name q names =
    push_place (λ n. bytes_eq n q) names name 0
    ∙ (let s : 0 + length names ≡ length names = omega arith in
    ap (λ m. option_or (first_place q names) (cond (bytes_eq name q) (Some m) None)) s)
    ∙ joined (first_place q names) (first_place name names) (bytes_eq name q) (length names)
    (λ e. ap (λ z. first_place z names) ((bytes_eq-Decides name q).0 e))

pub chosen : (b : Bool) (p r v : Option ℕ) → b ≡ false → v ≡ r → v ≡ (if b then p else r)
chosen true p r v e f = absurd (cc)
chosen false p r v e f = f

same_choice : (a c p r : Option ℕ) (b : Bool) (m n : ℕ) → a ≡ c → p ≡ r → m ≡ n
    → (if is_some a then p else cond b (Some m) p) ≡ (if is_some c then r else cond b (Some n) r)
same_choice a c p r b m n e f g = cc

pub no_names : (m : BTreeMap (Bor (List ℕ)) ℕ) (names : List (Bor (List ℕ))) (q : List ℕ) → place_by m q ≡ None
    → names ≡ [] → place_by m q ≡ first_place q (heads_of names)
unfolding first_place
no_names m names q e f = rw f e

-- the places of some names, with one more name
pub next_names : (old new : List ℕ → Option ℕ) (names more : List (List ℕ)) (name : List ℕ) (n : ℕ)
    → ((q : List ℕ) → old q ≡ first_place q names)
    → ((q : List ℕ) → new q ≡ (if is_some (old name) then old q else cond (bytes_eq name q) (Some n) (old q)))
    → n ≡ length names → more ≡ names ++ name ∷ [] → (q : List ℕ) → new q ≡ first_place q more
next_names old new names more name n all step len more_is q =
    step q
    ∙ same_choice (old name) (first_place name names) (old q) (first_place q names) (bytes_eq name q) n (length names)
    (all name) (all q) len
    ∙ sym (pushed_name name q names)
    ∙ sym (ap (first_place q) more_is)
