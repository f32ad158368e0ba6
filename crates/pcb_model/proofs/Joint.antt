-- The rules of class pairs as one set.
use Rattle.std.proofs.Common.{◌≡◌, ℕ, ◌<◌, ◌+◌, ◌++◌, ◌∷◌, [], Bool, true, false, cond, List, length, take, get_or}
use Rattle.std.proofs.Common.{Option, Some, None, filter, flat_map, reverse, refl, sym, ap, ◌∙◌, ◌&&◌, ◌||◌, ◌==◌, max}
use Rattle.std.proofs.Common.{arith}
use Rattle.std.specs.Option.{option_or, option_map, unwrap_or}
use Rattle.std.specs.List.{find}
use Rattle.std.proofs.lemmas.List.{take_more, reverse-append, append-nil}
use Rattle.std.proofs.lemmas.List.Elements.{filter-append}
use Rattle.std.proofs.lemmas.List.Folds.{find-append}
use Rattle.std.proofs.lemmas.Grind.{flat_map-append}
use Rattle.pcb_model.specs.declared.item.Kind.{Kind}
use Rattle.pcb_model.specs.declared.design.Typed.{Typed}
use Rattle.pcb_model.specs.declared.design.Design.{Design}
use Rattle.pcb_model.specs.declared.design.ClassPair.{ClassPair}
use Rattle.pcb_model.specs.Rules.{last_value, last_plain, joint_rules, is_of_classes, first_present, pairs_of, class_of}
use Rattle.pcb_model.specs.Rules.{pair_rules, levels, typed_value, rule_sets, value_of, value_to, clearance_of}
use Rattle.pcb_model.proofs.Lookups.{two_levels}

-- ---- one pair more
single : (test : ClassPair → Bool) (p : ClassPair) (b : Bool) → test p ≡ b
    → filter test (p ∷ []) ≡ cond b (p ∷ []) []
single test p b is = ap (λ (x : Bool). cond x (p ∷ []) []) is

pub taken : (a b : ℕ) (pairs : List ClassPair) (i : ℕ) (p : ClassPair) → i < length pairs → p ≡ get_or pairs i p
    → is_of_classes a b p ≡ true
    → filter (is_of_classes a b) (take (i + 1) pairs) ≡ filter (is_of_classes a b) (take i pairs) ++ p ∷ []
taken a b pairs i p h e is =
    ap (filter (is_of_classes a b)) (take_more pairs i p h)
    ∙ (filter-append (is_of_classes a b) (take i pairs) (get_or pairs i p ∷ [])
    ∙ ap (λ (qs : List ClassPair). filter (is_of_classes a b) (take i pairs) ++ qs)
    (single (is_of_classes a b) (get_or pairs i p) true (ap (is_of_classes a b) (sym e) ∙ is)
    ∙ ap (λ (q : ClassPair). q ∷ []) (sym e)))

pub passed : (a b : ℕ) (pairs : List ClassPair) (i : ℕ) (p : ClassPair) → i < length pairs → p ≡ get_or pairs i p
    → is_of_classes a b p ≡ false
    → filter (is_of_classes a b) (take (i + 1) pairs) ≡ filter (is_of_classes a b) (take i pairs)
passed a b pairs i p h e is =
    ap (filter (is_of_classes a b)) (take_more pairs i p h)
    ∙ (filter-append (is_of_classes a b) (take i pairs) (get_or pairs i p ∷ [])
    ∙ (ap (λ (qs : List ClassPair). filter (is_of_classes a b) (take i pairs) ++ qs)
    (single (is_of_classes a b) (get_or pairs i p) false (ap (is_of_classes a b) (sym e) ∙ is))
    ∙ append-nil (filter (is_of_classes a b) (take i pairs))))

-- ---- the last values
mapped_or : (a b : Option Typed) → option_map (λ (t : Typed). t.value) (option_or a b)
    ≡ option_or (option_map (λ (t : Typed). t.value) a) (option_map (λ (t : Typed). t.value) b)
mapped_or None b = refl
mapped_or (Some x) b = refl

last_joined : (test : Typed → Bool) (xs ys : List Typed) → last_value test (xs ++ ys)
    ≡ option_or (last_value test ys) (last_value test xs)
last_joined test xs ys =
    ap (λ l. option_map (λ (t : Typed). t.value) (find test l)) (reverse-append xs ys)
    ∙ (ap (option_map (λ (t : Typed). t.value)) (find-append test (reverse ys) (reverse xs))
    ∙ mapped_or (find test (reverse ys)) (find test (reverse xs)))

pub typed_more : (test : Typed → Bool) (ps : List ClassPair) (p : ClassPair)
    → last_value test (joint_rules (ps ++ p ∷ [])).typed
    ≡ option_or (last_value test p.rules.typed) (last_value test (joint_rules ps).typed)
typed_more test ps p =
    ap (last_value test) (flat_map-append (λ (q : ClassPair). q.rules.typed) ps (p ∷ [])
    ∙ ap (λ (ts : List Typed). flat_map (λ (q : ClassPair). q.rules.typed) ps ++ ts) (append-nil p.rules.typed))
    ∙ last_joined test (flat_map (λ (q : ClassPair). q.rules.typed) ps) p.rules.typed

or_none : (a : Option ℕ) → option_or a None ≡ a
or_none None = refl
or_none (Some x) = refl

or_assoc : (a b c : Option ℕ) → option_or (option_or a b) c ≡ option_or a (option_or b c)
or_assoc None b c = refl
or_assoc (Some x) b c = refl

pub plain_more : (ps : List ClassPair) (p : ClassPair) → last_plain (ps ++ p ∷ [])
    ≡ option_or p.rules.plain (last_plain ps)
plain_more [] p = sym (or_none p.rules.plain)
plain_more (q ∷ ps) p =
    ap (λ (o : Option ℕ). option_or o q.rules.plain) (plain_more ps p)
    ∙ or_assoc p.rules.plain (last_plain ps) q.rules.plain

-- ---- the first that is present
pub first_of : (a b c : Option ℕ) (rest : ℕ)
    → unwrap_or (option_or (option_or a b) c) rest ≡ first_present rest (option_or a b ∷ c ∷ [])
first_of (Some x) b c rest = refl
first_of None (Some y) c rest = refl
first_of None None (Some z) rest = refl
first_of None None None rest = refl

-- ---- two nets
either : (x y : Bool) → (x || y) ≡ (y || x)
either true true = refl
either true false = refl
either false true = refl
either false false = refl

pub pairs_swapped : (d : Design) (x y : Option ℕ) → pairs_of d x y ≡ pairs_of d y x
pairs_swapped d None None = refl
pairs_swapped d None (Some b) = refl
pairs_swapped d (Some a) None = refl
pairs_swapped d (Some a) (Some b) =
    λ i. filter (λ (p : ClassPair). either (p.a == a && p.b == b) (p.a == b && p.b == a) i) d.pairs

-- the class pairs say of two nets what they say of them in the other order
pub rules_swapped : (d : Design) (a b : Option ℕ) → pair_rules d a b ≡ pair_rules d b a
rules_swapped d a b = ap joint_rules (pairs_swapped d (class_of d a) (class_of d b))

-- a net's own levels come after those of the class pairs
pub value_is : (d : Design) (net other : Option ℕ) (ka kb : Kind)
    → first_present (value_of d net ka kb) (levels ka kb (pair_rules d net other)) ≡ value_to d net other ka kb
value_is d net other ka kb =
    two_levels (typed_value ka kb (pair_rules d net other).typed) (pair_rules d net other).plain 0
    (flat_map (levels ka kb) (rule_sets d net))

both : (x y : ℕ) (t p : Option ℕ)
    → first_present (max x y) (t ∷ p ∷ []) ≡ max (first_present x (t ∷ p ∷ [])) (first_present y (t ∷ p ∷ []))
both x y (Some v) p = omega arith
both x y None (Some w) = omega arith
both x y None None = refl

-- what the class pairs say, or else the greater of what both nets say
pub clearance_is : (d : Design) (a : Option ℕ) (ka : Kind) (b : Option ℕ) (kb : Kind)
    → first_present (max (value_of d a ka kb) (value_of d b ka kb)) (levels ka kb (pair_rules d a b))
    ≡ clearance_of d a ka b kb
clearance_is d a ka b kb =
    let r = pair_rules d a b in
    let x = value_is d a b ka kb in
    let y = ap (λ s. first_present (value_of d b ka kb) (levels ka kb s)) (rules_swapped d a b)
    ∙ value_is d b a ka kb in
    both (value_of d a ka kb) (value_of d b ka kb) (typed_value ka kb r.typed) r.plain
    ∙ (ap (λ (v : ℕ). max v (first_present (value_of d b ka kb) (levels ka kb r))) x
    ∙ ap (λ (v : ℕ). max (value_to d a b ka kb) v) y)
