-- The pair rule doesn't ask which item comes first.
use Rattle.std.proofs.Common.{◌≡◌, ℕ, ◌+◌, ◌*◌, max, ◌==◌, Bool, true, false, not, ◌&&◌, ◌||◌, List, flat_map, Any}
use Rattle.std.proofs.Common.{Option, Some, None, refl, sym, ap, eq-eqb, ◌∙◌, subst, arith, length, get_or, ◌<◌, []}
use Rattle.std.proofs.Common.{◌∷◌}
use Rattle.std.proofs.lemmas.Bool.{eqb-true}
use Rattle.std.specs.Option.{option_or}
use Rattle.geo_kernel.specs.Spine.{SpinesKeep, SpinesTouch}
use Rattle.geo_kernel.proofs.Keeping.{keep_symmetric, touch_symmetric}
use Rattle.pcb_model.specs.declared.item.Kind.{Kind}
use Rattle.pcb_model.specs.declared.item.Kind.TheVariants as kind
use Rattle.pcb_model.specs.declared.item.Piece.{Piece}
use Rattle.pcb_model.specs.declared.item.Metal.{Metal}
use Rattle.pcb_model.specs.declared.item.Metal.TheVariants.{Wire, Via, Pad, Ban}
use Rattle.pcb_model.specs.declared.item.Item.{Item}
use Rattle.pcb_model.specs.declared.design.Typed.{Typed}
use Rattle.pcb_model.specs.declared.design.RuleSet.{RuleSet}
use Rattle.pcb_model.specs.declared.design.Design.{Design}
use Rattle.pcb_model.specs.Rules.{is_kind, is_pair, names_pair, names_one, last_value, typed_value, first_present}
use Rattle.pcb_model.specs.Rules.{levels, rule_sets, value_to, pair_rules, clearance_of}
use Rattle.pcb_model.specs.Pairs.{PieceKeeps, PiecesKeep, PieceTouches, TouchesSome, PiecesTouch, is_same_net}
use Rattle.pcb_model.specs.Pairs.{is_compared, must_keep, must_stay_off, Agrees, AreTouching}

-- ---- the rules
swapped : (x y z w : Bool) → ((x && y) || (z && w)) ≡ ((w && z) || (y && x))
swapped true true true true = refl
swapped true true true false = refl
swapped true true false true = refl
swapped true true false false = refl
swapped true false true true = refl
swapped true false true false = refl
swapped true false false true = refl
swapped true false false false = refl
swapped false true true true = refl
swapped false true true false = refl
swapped false true false true = refl
swapped false true false false = refl
swapped false false true true = refl
swapped false false true false = refl
swapped false false false true = refl
swapped false false false false = refl

pair_swapped : (ka kb a b : Kind) → is_pair ka kb a b ≡ is_pair kb ka a b
pair_swapped ka kb a b = swapped (is_kind ka a) (is_kind kb b) (is_kind ka b) (is_kind kb a)

names_swapped : (ka kb a : Kind) (b : Option Kind) → names_pair ka kb a b ≡ names_pair kb ka a b
names_swapped ka kb a None = refl
names_swapped ka kb a (Some b) = pair_swapped ka kb a b

either : (x y : Bool) → (x || y) ≡ (y || x)
either true true = refl
either true false = refl
either false true = refl
either false false = refl

one_swapped : (ka kb a : Kind) (b : Option Kind) → names_one ka kb a b ≡ names_one kb ka a b
one_swapped ka kb a None = either (is_kind ka a) (is_kind kb a)
one_swapped ka kb a (Some b) = refl

typed_swapped : (ka kb : Kind) (ts : List Typed) → typed_value ka kb ts ≡ typed_value kb ka ts
typed_swapped ka kb ts =
    λ i. option_or (last_value (λ t. names_swapped ka kb t.a t.b i) ts)
    (last_value (λ t. one_swapped ka kb t.a t.b i) ts)

levels_swapped : (ka kb : Kind) (rs : RuleSet) → levels ka kb rs ≡ levels kb ka rs
levels_swapped ka kb rs = λ i. typed_swapped ka kb rs.typed i ∷ rs.plain ∷ []

value_swapped : (d : Design) (net other : Option ℕ) (ka kb : Kind)
    → value_to d net other ka kb ≡ value_to d net other kb ka
value_swapped d net other ka kb =
    ap (λ (f : RuleSet → List (Option ℕ)). first_present 0 (flat_map f (pair_rules d net other ∷ rule_sets d net)))
    (λ i rs. levels_swapped ka kb rs i)

clearance_swapped : (d : Design) (a : Option ℕ) (ka : Kind) (b : Option ℕ) (kb : Kind)
    → clearance_of d a ka b kb ≡ clearance_of d b kb a ka
clearance_swapped d a ka b kb = omega (arith, value_swapped d a b ka kb, value_swapped d b a ka kb)

-- ---- the nets and metals
same_bools : (b c : Bool) → (b ≡ true → c ≡ true) → (c ≡ true → b ≡ true) → b ≡ c
same_bools true true f g = refl
same_bools true false f g = sym (f refl)
same_bools false true f g = g refl
same_bools false false f g = refl

eq_swapped : (x y : ℕ) → (x == y) ≡ (y == x)
eq_swapped x y =
    same_bools (x == y) (y == x) (λ h. eq-eqb y x (sym (eqb-true x y h))) (λ h. eq-eqb x y (sym (eqb-true y x h)))

net_swapped : (x y : Option ℕ) → is_same_net x y ≡ is_same_net y x
net_swapped None None = refl
net_swapped None (Some y) = refl
net_swapped (Some x) None = refl
net_swapped (Some x) (Some y) = eq_swapped x y

compared_swapped : (m n : Metal) → is_compared m n ≡ is_compared n m
compared_swapped (Wire l w c) (Wire l' w' c') = refl
compared_swapped (Wire l w c) (Via p' at') = refl
compared_swapped (Wire l w c) (Pad i') = refl
compared_swapped (Wire l w c) (Ban x' y') = refl
compared_swapped (Via p at) (Wire l' w' c') = refl
compared_swapped (Via p at) (Via p' at') = refl
compared_swapped (Via p at) (Pad i') = refl
compared_swapped (Via p at) (Ban x' y') = refl
compared_swapped (Pad i) (Wire l' w' c') = refl
compared_swapped (Pad i) (Via p' at') = refl
compared_swapped (Pad i) (Pad i') = refl
compared_swapped (Pad i) (Ban x' y') = refl
compared_swapped (Ban x y) (Wire l' w' c') = refl
compared_swapped (Ban x y) (Via p' at') = refl
compared_swapped (Ban x y) (Pad i') = refl
compared_swapped (Ban x y) (Ban x' y') = refl

-- ---- the pieces
piece_swapped : (c : ℕ) (p r : Piece) → PieceKeeps c p r → PieceKeeps c r p
piece_swapped c p r h = record {
  keep = λ l. subst (SpinesKeep r.spine p.spine) (width c p.width r.width)
      (keep_symmetric p.spine r.spine (max 1 (2 * c + p.width + r.width)) (h.keep (sym l)));
}
  where
    width : (c x y : ℕ) → max 1 (2 * c + x + y) ≡ max 1 (2 * c + y + x)
    width c x y = omega arith

keep_swapped : (c : ℕ) (ps rs : List Piece) → PiecesKeep c ps rs → PiecesKeep c rs ps
keep_swapped c ps rs h =
    record { each = λ k d l. record { each = λ j e m. piece_swapped c _ _ ((h.each j e m).each k d l) } }

one_touches : (p r : Piece) → PieceTouches p r → PieceTouches r p
one_touches p r t = record {
  one_layer = sym t.one_layer;
  touch = subst (SpinesTouch r.spine p.spine) (plus p.width r.width)
      (touch_symmetric p.spine r.spine (p.width + r.width) t.touch);
}
  where
    plus : (x y : ℕ) → x + y ≡ y + x
    plus x y = omega arith

touch_swapped : (ps rs : List Piece) → PiecesTouch ps rs → PiecesTouch rs ps
touch_swapped ps rs h = swap h.some
  where
    inner : (k : ℕ) (p : Piece) (l : k < length ps) (e : get_or ps k p ≡ p) → Any (PieceTouches p) rs
        → PiecesTouch rs ps
    inner k p l e (j, r, m, f, t) = record { some = (j, r, m, f, record { some = (k, p, l, e, one_touches p r t) }) }

    swap : Any (TouchesSome rs) ps → PiecesTouch rs ps
    swap (k, p, l, e, s) = inner k p l e s.some

-- ---- the items
pub agrees_swapped : (d : Design) (a b : Item) → Agrees d a b → Agrees d b a
agrees_swapped d a b h =
    let n = net_swapped b.net a.net in
    let m : must_keep b a ≡ must_keep a b = λ i. not (n i) && compared_swapped b.metal a.metal i in
    let s : must_stay_off d b a ≡ must_stay_off d a b = λ i. not d.via_at_smd && n i
    && pair_swapped b.kind a.kind kind.Via kind.Smd i in
    let F : ℕ → Type 0 = λ c. PiecesKeep c b.pieces a.pieces in
    record {
      keep = λ k. subst F (clearance_swapped d a.net a.kind b.net b.kind)
          (keep_swapped (clearance_of d a.net a.kind b.net b.kind) a.pieces b.pieces (h.keep (sym m ∙ k)));
      stay_off = λ k t. h.stay_off (sym s ∙ k) (touch_swapped b.pieces a.pieces t);
    }

pub touching_swapped : (a b : Item) → AreTouching a b → AreTouching b a
touching_swapped a b h =
    record { same_net = net_swapped b.net a.net ∙ h.same_net; touch = touch_swapped a.pieces b.pieces h.touch }
