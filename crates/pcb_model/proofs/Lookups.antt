-- What is looked up by an index, and the first value that is present.
use Rattle.std.proofs.Common.{◌≡◌, ℕ, ◌<◌, ◌≤◌, Bool, true, false, not, List, [], ◌∷◌, ◌++◌, length, get_or, map}
use Rattle.std.proofs.Common.{flat_map}
use Rattle.std.proofs.Common.{Option, Some, None, IsTrue, ◌↔◌, ◌+◌, take, refl, sym, ap, ◌∙◌, subst, true≢false}
use Rattle.std.proofs.Common.{slice_get, reverse, cond}
use Rattle.std.specs.Option.{IsSomeAnd, unwrap_or, option_to_list, option_map}
use Rattle.std.specs.List.{find}
use Rattle.std.proofs.lemmas.Option.{slice_get_read, slice_get_past, none-some, same_Some}
use Rattle.std.proofs.lemmas.List.{take_more, map_more, reverse-append}
use Rattle.pcb_model.specs.declared.rules.TheConstants.{DEFAULT_WIDTH}
use Rattle.pcb_model.specs.declared.item.Kind.{Kind}
use Rattle.pcb_model.specs.declared.design.RuleSet.{RuleSet}
use Rattle.pcb_model.specs.declared.design.Typed.{Typed}
use Rattle.pcb_model.specs.declared.design.Net.{Net}
use Rattle.pcb_model.specs.declared.design.Design.{Design}
use Rattle.pcb_model.specs.Rules.{first_present, levels, class_rules, net_rules, with_class, width_for, typed_value}
use Rattle.pcb_model.specs.Rules.{last_value}

-- ---- an element, or none
pub got : {X : Type 0} (xs ys : List X) (i : ℕ) (x : X) → xs ≡ ys → x ≡ get_or xs i x → i < length xs
    → slice_get ys i ≡ Some x
got xs ys i x e is h = ap (λ zs. slice_get zs i) (sym e) ∙ slice_get_read xs (length xs) i x refl h is

pub got_none : {X : Type 0} (xs ys : List X) (i : ℕ) → xs ≡ ys → length xs ≤ i → slice_get ys i ≡ None
got_none xs ys i e h = ap (λ zs. slice_get zs i) (sym e) ∙ slice_get_past xs i h

-- what a test tells of the element, or of none
pub told_some : {X : Type 0} (P : X → Type 0) (o : Option X) (x : X) (b : Bool) → o ≡ Some x → (IsTrue b ↔ P x)
    → IsTrue b ↔ IsSomeAnd o P
told_some P o x b e h = subst (λ p. IsTrue b ↔ IsSomeAnd p P) (sym e) h

pub told_none : {X : Type 0} (P : X → Type 0) (o : Option X) → o ≡ None → IsTrue false ↔ IsSomeAnd o P
told_none P o e = subst (λ p. IsTrue false ↔ IsSomeAnd p P) (sym e) (λ t. absurd (true≢false (sym t)), λ a. absurd a)

pub not_true : (b : Bool) → IsTrue (not b) ↔ (b ≡ false)
not_true true = (λ t. sym t, λ e. sym e)
not_true false = (λ t. refl, λ e. refl)

-- ---- rules
pub two_levels : (a b : Option ℕ) (rest : ℕ) (vs : List (Option ℕ))
    → first_present (first_present rest vs) (a ∷ b ∷ []) ≡ first_present rest (a ∷ b ∷ vs)
two_levels None None rest vs = refl
two_levels None (Some y) rest vs = refl
two_levels (Some x) b rest vs = refl

module _ (d : Design) (ka kb : Kind) (rest : ℕ) where
  class_is : (class : Option ℕ) (c : ℕ) (o : Option RuleSet) → class ≡ Some c → slice_get d.classes c ≡ o
      → first_present rest (flat_map (levels ka kb) (option_to_list o))
      ≡ first_present rest (flat_map (levels ka kb) (class_rules d class))
  class_is class c o e f =
      ap (λ (p : Option RuleSet). first_present rest (flat_map (levels ka kb) (option_to_list p))) (sym f)
      ∙ ap (λ (k : Option ℕ). first_present rest (flat_map (levels ka kb) (class_rules d k))) (sym e)

  pub class_there : (class : Option ℕ) (c : ℕ) (rs : RuleSet) → class ≡ Some c → slice_get d.classes c ≡ Some rs
      → first_present rest (levels ka kb rs) ≡ first_present rest (flat_map (levels ka kb) (class_rules d class))
  class_there class c rs e f = class_is class c (Some rs) e f

  pub class_not_there : (class : Option ℕ) (c : ℕ) → class ≡ Some c → slice_get d.classes c ≡ None
      → rest ≡ first_present rest (flat_map (levels ka kb) (class_rules d class))
  class_not_there class c e f = class_is class c None e f

  net_is : (net : Option ℕ) (i : ℕ) (o : Option Net) → net ≡ Some i → slice_get d.nets i ≡ o
      → first_present rest (flat_map (levels ka kb) (with_class d o))
      ≡ first_present rest (flat_map (levels ka kb) (net_rules d net))
  net_is net i o e f =
      ap (λ (p : Option Net). first_present rest (flat_map (levels ka kb) (with_class d p))) (sym f)
      ∙ ap (λ (k : Option ℕ). first_present rest (flat_map (levels ka kb) (net_rules d k))) (sym e)

  -- a net's own rules come before those of its class
  pub net_there : (net : Option ℕ) (i : ℕ) (n : Net) (inner : ℕ) → net ≡ Some i → slice_get d.nets i ≡ Some n
      → inner ≡ first_present rest (flat_map (levels ka kb) (class_rules d n.class))
      → first_present inner (levels ka kb n.rules)
      ≡ first_present rest (flat_map (levels ka kb) (net_rules d net))
  net_there net i n inner e f g =
      ap (λ (k : ℕ). first_present k (levels ka kb n.rules)) g
      ∙ two_levels (typed_value ka kb n.rules.typed) n.rules.plain rest
      (flat_map (levels ka kb) (class_rules d n.class))
      ∙ net_is net i (Some n) e f

  pub net_not_there : (net : Option ℕ) (i : ℕ) → net ≡ Some i → slice_get d.nets i ≡ None
      → rest ≡ first_present rest (flat_map (levels ka kb) (net_rules d net))
  net_not_there net i e f = net_is net i None e f

-- ---- widths
abbrev widths : List RuleSet → List (Option ℕ)
widths rs = map (λ (r : RuleSet). r.width) rs

width_is : (d : Design) (class : Option ℕ) (c : ℕ) (rest : ℕ) (o : Option RuleSet) → class ≡ Some c
    → slice_get d.classes c ≡ o
    → first_present rest (widths (option_to_list o)) ≡ first_present rest (widths (class_rules d class))
width_is d class c rest o e f =
    ap (λ (p : Option RuleSet). first_present rest (widths (option_to_list p))) (sym f)
    ∙ ap (λ (k : Option ℕ). first_present rest (widths (class_rules d k))) (sym e)

present : (v : Option ℕ) (rest : ℕ) → unwrap_or v rest ≡ first_present rest (v ∷ [])
present None rest = refl
present (Some x) rest = refl

pub width_there : (d : Design) (class : Option ℕ) (c rest : ℕ) (rs : RuleSet) → class ≡ Some c
    → slice_get d.classes c ≡ Some rs
    → unwrap_or rs.width rest ≡ first_present rest (map (λ (r : RuleSet). r.width) (class_rules d class))
width_there d class c rest rs e f = present rs.width rest ∙ width_is d class c rest (Some rs) e f

pub width_not_there : (d : Design) (class : Option ℕ) (c rest : ℕ) → class ≡ Some c → slice_get d.classes c ≡ None
    → rest ≡ first_present rest (map (λ (r : RuleSet). r.width) (class_rules d class))
width_not_there d class c rest e f = width_is d class c rest None e f

present_next : (v w : Option ℕ) (vs ws : List (Option ℕ)) (rest k : ℕ) → v ≡ w
    → first_present k vs ≡ first_present rest ws → first_present k (v ∷ vs) ≡ first_present rest (w ∷ ws)
present_next None None vs ws rest k e h = h
present_next None (Some y) vs ws rest k e h = absurd (none-some y e)
present_next (Some x) None vs ws rest k e h = absurd (none-some x (sym e))
present_next (Some x) (Some y) vs ws rest k e h = same_Some x y e

last_present : (rs : List RuleSet) (r : RuleSet) (rest : ℕ)
    → first_present (unwrap_or r.width rest) (widths rs) ≡ first_present rest (widths (rs ++ r ∷ []))
last_present [] r rest = present r.width rest
last_present (x ∷ rs) r rest =
    present_next x.width x.width (widths rs) (widths (rs ++ r ∷ [])) rest (unwrap_or r.width rest) refl
    (last_present rs r rest)

-- the width of a net that is there, and of one that isn't
pub net_width_there : (d : Design) (net structure class : ℕ) (n : Net) → slice_get d.nets net ≡ Some n
    → structure ≡ unwrap_or d.rules.width DEFAULT_WIDTH
    → class ≡ first_present structure (map (λ (r : RuleSet). r.width) (class_rules d n.class))
    → unwrap_or n.rules.width class ≡ width_for d net
net_width_there d net structure class n e s h =
    present n.rules.width class
    ∙ present_next n.rules.width n.rules.width [] (widths (class_rules d n.class)) structure class refl h
    ∙ ap (λ (k : ℕ). first_present k (widths (n.rules ∷ class_rules d n.class))) s
    ∙ last_present (n.rules ∷ class_rules d n.class) d.rules DEFAULT_WIDTH
    ∙ ap (λ (o : Option Net). first_present DEFAULT_WIDTH (widths (with_class d o ++ d.rules ∷ []))) (sym e)

pub net_width_not_there : (d : Design) (net structure : ℕ) → slice_get d.nets net ≡ None
    → structure ≡ unwrap_or d.rules.width DEFAULT_WIDTH → structure ≡ width_for d net
net_width_not_there d net structure e s =
    s ∙ present d.rules.width DEFAULT_WIDTH
    ∙ ap (λ (o : Option Net). first_present DEFAULT_WIDTH (widths (with_class d o ++ d.rules ∷ []))) (sym e)

-- ---- one more of a list that is copied or mapped
pub mapped_more : {X Y : Type 0} (f : X → Y) (xs : List X) (i : ℕ) (x : X) (ys : List Y) (y : Y) → i < length xs
    → x ≡ get_or xs i x → ys ≡ map f (take i xs) → y ≡ f x → ys ++ y ∷ [] ≡ map f (take (i + 1) xs)
mapped_more f xs i x ys y h e p q =
    ap (λ zs. zs ++ y ∷ []) p ∙ ap (λ z. map f (take i xs) ++ z ∷ []) (q ∙ ap f e) ∙ sym (map_more f xs i x h)

pub copied_more : {X : Type 0} (xs : List X) (i : ℕ) (x : X) (ys : List X) (y : X) → i < length xs → x ≡ get_or xs i x
    → ys ≡ take i xs → y ≡ x → ys ++ y ∷ [] ≡ take (i + 1) xs
copied_more xs i x ys y h e p q =
    ap (λ zs. zs ++ y ∷ []) p ∙ ap (λ z. take i xs ++ z ∷ []) (q ∙ e) ∙ sym (take_more xs i x h)

picked : (b : Bool) (t : Typed) (o : Option Typed) → option_map (λ (t : Typed). t.value) (cond b (Some t) o)
    ≡ cond b (Some t.value) (option_map (λ (t : Typed). t.value) o)
picked true t o = refl
picked false t o = refl

-- the last value up to a place, and one further
pub last_more : (test : Typed → Bool) (ts : List Typed) (i : ℕ) (t : Typed) (b : Bool) → i < length ts
    → test (get_or ts i t) ≡ b
    → last_value test (take (i + 1) ts) ≡ cond b (Some (get_or ts i t).value) (last_value test (take i ts))
last_more test ts i t b h is =
    ap (last_value test) (take_more ts i t h)
    ∙ (ap (λ l. option_map (λ (t : Typed). t.value) (find test l)) (reverse-append (take i ts) (get_or ts i t ∷ []))
    ∙ (picked (test (get_or ts i t)) (get_or ts i t) (find test (reverse (take i ts)))
    ∙ ap (λ (a : Bool). cond a (Some (get_or ts i t).value) (last_value test (take i ts))) is))
