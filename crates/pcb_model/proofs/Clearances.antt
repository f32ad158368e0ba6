-- The greatest clearance: of all nets, and of none.
use Rattle.std.proofs.Common.{◌≡◌, ℕ, ◌<◌, ◌≤◌, ◌^◌, ◌++◌, ◌∷◌, [], length, Option, Some, None, flat_map, max, ap, sym}
use Rattle.std.proofs.Common.{subst, inl, inr, arith, ◌+◌, ◌⊎◌, ◌∙◌, refl, List, Bool, true, false, cond, filter, All}
use Rattle.std.proofs.Common.{◌&&◌, ◌||◌, ◌==◌, true≢false}
use Rattle.std.proofs.lemmas.Bool.{eqb-true}
use Rattle.std.proofs.lemmas.List.Elements.{All-head, All-tail, All-nil, All-cons}
use Rattle.std.proofs.Math.Nat.{max-le, max-eq_left}
use Rattle.std.proofs.lemmas.Option.{slice_get_past}
use Rattle.pcb_model.specs.declared.item.Kind.{Kind}
use Rattle.pcb_model.specs.declared.item.Kind.TheVariants.{Wire, Via, Pin, Smd, Area}
use Rattle.pcb_model.specs.declared.design.Net.{Net}
use Rattle.pcb_model.specs.declared.design.ClassPair.{ClassPair}
use Rattle.pcb_model.specs.declared.rules.Side.{Side}
use Rattle.pcb_model.specs.Near.{IsSideOf, side_value}
use Rattle.pcb_model.specs.declared.design.Design.{Design}
use Rattle.pcb_model.specs.Rules.{value_of, value_to, levels, first_present, with_class, class_of, is_of_classes}
use Rattle.pcb_model.specs.Rules.{pairs_of, joint_rules, pair_rules, rule_sets, typed_value}
use Rattle.pcb_model.specs.Bounds.{IsValue, AreValuesWithin, AreRulesWithin, IsPairWithin, HasRulesWithin}
use Rattle.pcb_model.specs.Bounds.{IsGreatestClearance}
use Rattle.pcb_model.specs.Greatest.{IsPairCovered}
use Rattle.pcb_model.proofs.Far.{clearances_within}
use Rattle.pcb_model.proofs.Growing.{rules_more}
use Rattle.pcb_model.proofs.Within.{joint_value}
use Rattle.pcb_model.proofs.Joint.{pairs_swapped, value_is}
use Rattle.pcb_model.proofs.First.{cases_lt as below_or_from}

-- what holds of each kind holds of any
pub by_kinds : (P : Kind → Type 0) → P Wire → P Via → P Pin → P Smd → P Area → (k : Kind) → P k
by_kinds P wire via pin smd area Wire = wire
by_kinds P wire via pin smd area Via = via
by_kinds P wire via pin smd area Pin = pin
by_kinds P wire via pin smd area Smd = smd
by_kinds P wire via pin smd area Area = area

-- a net that isn't there has the values of none
value_past : (d : Design) (n : ℕ) → length d.nets ≤ n → (one other : Kind)
    → value_of d (Some n) one other ≡ value_of d None one other
value_past d n h one other =
    ap (λ (net : Option Net). first_present 0 (flat_map (levels one other) (with_class d net ++ d.rules ∷ [])))
    (slice_get_past d.nets n h)

-- the values of all nets are within m where those of the design's nets, and of none, are
within_all : (d : Design) (m : ℕ) → AreValuesWithin d None m
    → ((n : ℕ) → n < length d.nets → AreValuesWithin d (Some n) m) → (net : Option ℕ) → AreValuesWithin d net m
within_all d m none nets None = none
within_all d m none nets (Some n) = elim (below_or_from n (length d.nets)) [
  | inl h ↦ nets n h
  | inr h ↦ record {
    each = λ one other. subst (λ (v : ℕ). v ≤ m) (sym (value_past d n h one other))
        (none.each one other);
  }
]

-- ---- class pairs
-- no pair is between a net and none
none_between : (d : Design) (x : Option ℕ) → pairs_of d x None ≡ []
none_between d None = refl
none_between d (Some a) = refl

no_pair : (d : Design) (net : Option ℕ) (ka kb : Kind) → value_to d net None ka kb ≡ value_of d net ka kb
no_pair d net ka kb =
    ap (λ ps. first_present 0 (flat_map (levels ka kb) (joint_rules ps ∷ rule_sets d net)))
    (none_between d (class_of d net))

-- a net's value towards none
pub one_value : (d : Design) (net : Option ℕ) (ka kb : Kind) (m : ℕ) → m ≡ value_of d net ka kb → IsValue d m
one_value d net ka kb m e =
    record { net = net; to = None; one = ka; other = kb; is = no_pair d net ka kb ∙ sym e }

taken_first : (least : ℕ) (t p : Option ℕ) (vs : List (Option ℕ)) → least < first_present least (t ∷ p ∷ [])
    → first_present 0 (t ∷ p ∷ vs) ≡ first_present least (t ∷ p ∷ [])
taken_first least (Some v) p vs h = refl
taken_first least None (Some w) vs h = refl
taken_first least None None vs h = absurd (omega (arith, h))

in_both : (m x : ℕ) (t p : Option ℕ) → x ≤ m → first_present 0 (t ∷ p ∷ []) ≤ m → first_present x (t ∷ p ∷ []) ≤ m
in_both m x (Some v) p h k = k
in_both m x None (Some w) h k = k
in_both m x None None h k = h

-- what the pairs of two classes say, where two nets are of these
pub pair_is_value : (d : Design) (p : ClassPair) (a b : ℕ) (ka kb : Kind) (least next : ℕ)
    → class_of d (Some a) ≡ Some p.a → class_of d (Some b) ≡ Some p.b
    → next ≡ first_present least (levels ka kb (joint_rules (filter (is_of_classes p.a p.b) d.pairs))) → least < next
    → IsValue d next
pair_is_value d p a b ka kb least next e f is h =
    let r = joint_rules (filter (is_of_classes p.a p.b) d.pairs) in
    let rules : pair_rules d (Some a) (Some b) ≡ r = λ i. joint_rules (pairs_of d (e i) (f i)) in
    record {
      net = Some a;
      to = Some b;
      one = ka;
      other = kb;
      is = ap (λ s. first_present 0 (flat_map (levels ka kb) (s ∷ rule_sets d (Some a)))) rules
          ∙ (taken_first least (typed_value ka kb r.typed) r.plain (flat_map (levels ka kb) (rule_sets d (Some a)))
          (subst (λ (v : ℕ). least < v) is h)
          ∙ sym is);
    }

-- ---- the pairs of two classes: each has what L says, or one has what R says
kept_at : {X : Type 0} (test : X → Bool) (L R : X → Type 0) (x : X) (xs : List X) (b : Bool) → test x ≡ b → L x ⊎ R x
    → All L (filter test xs) ⊎ ((y : X) × R y × (test y ≡ true))
    → All L (filter test (x ∷ xs)) ⊎ ((y : X) × R y × (test y ≡ true))
kept_at test L R x xs true is (inr h) rest = inr (x, h, is)
kept_at test L R x xs true is (inl h) (inr s) = inr s
kept_at test L R x xs true is (inl h) (inl all) =
    inl (subst (All L) (sym (ap (λ (b : Bool). cond b (x ∷ filter test xs) (filter test xs)) is))
    (All-cons L x (filter test xs) h all))
kept_at test L R x xs false is h (inl all) =
    inl (subst (All L) (sym (ap (λ (b : Bool). cond b (x ∷ filter test xs) (filter test xs)) is)) all)
kept_at test L R x xs false is h (inr s) = inr s

first_kept : {X : Type 0} (test : X → Bool) (L R : X → Type 0) (xs : List X) → All (λ x. L x ⊎ R x) xs
    → All L (filter test xs) ⊎ ((x : X) × R x × (test x ≡ true))
first_kept test L R [] h = inl (All-nil L)
first_kept test L R (x ∷ xs) h =
    kept_at test L R x xs (test x) refl (All-head (λ y. L y ⊎ R y) x xs h)
    (first_kept test L R xs (All-tail (λ y. L y ⊎ R y) x xs h))

parts : (x y z w : Bool) → ((x && y) || (z && w)) ≡ true
    → ((x ≡ true) × (y ≡ true)) ⊎ ((z ≡ true) × (w ≡ true))
parts true true z w h = inl (refl, refl)
parts true false true true h = inr (refl, refl)
parts true false true false h = absurd (true≢false (sym h))
parts true false false w h = absurd (true≢false (sym h))
parts false y true true h = inr (refl, refl)
parts false y true false h = absurd (true≢false (sym h))
parts false y false w h = absurd (true≢false (sym h))

module _ (d : Design) (m : ℕ) (pairs : All (IsPairCovered d m) d.pairs) (one other : Kind) where
  abbrev Within : List ClassPair → Type 0
  Within ps = first_present 0 (levels one other (joint_rules ps)) ≤ m

  nothing : Within []
  nothing = omega arith

  -- of the classes x and y
  classes_within : (a b x y : ℕ) → class_of d (Some a) ≡ Some x → class_of d (Some b) ≡ Some y
      → Within (pairs_of d (Some x) (Some y))
  classes_within a b x y e f =
      let L : ClassPair → Type 0 = λ p. AreRulesWithin m p.rules in
      elim (first_kept (is_of_classes x y) L (IsPairWithin d m) d.pairs pairs) [
        | inl all ↦ joint_value m (filter (is_of_classes x y) d.pairs) one other all
        | inr s ↦ let p = s.0 in
            elim (parts (p.a == x) (p.b == y) (p.a == y) (p.b == x) s.2) [
              | inl h ↦
                  let u : p.a ≡ x = eqb-true p.a x h.0 in
                  let v : p.b ≡ y = eqb-true p.b y h.1 in
                  subst Within (λ i. pairs_of d (Some (u i)) (Some (v i)))
                  (s.1.each a b (e ∙ ap Some (sym u)) (f ∙ ap Some (sym v)) one other)
              | inr h ↦
                  let u : p.a ≡ y = eqb-true p.a y h.0 in
                  let v : p.b ≡ x = eqb-true p.b x h.1 in
                  subst Within (pairs_swapped d (Some y) (Some x))
                  (subst Within (λ i. pairs_of d (Some (u i)) (Some (v i)))
                  (s.1.each b a (f ∙ ap Some (sym u)) (e ∙ ap Some (sym v)) one other))
            ]
      ]

  of_nets : (a b : ℕ) (x y : Option ℕ) → class_of d (Some a) ≡ x → class_of d (Some b) ≡ y → Within (pairs_of d x y)
  of_nets a b None y e f = nothing
  of_nets a b (Some x) None e f = nothing
  of_nets a b (Some x) (Some y) e f = classes_within a b x y e f

  between_within : (a b : Option ℕ) → Within (pairs_of d (class_of d a) (class_of d b))
  between_within None b = nothing
  between_within (Some a) None = subst Within (sym (none_between d (class_of d (Some a)))) nothing
  between_within (Some a) (Some b) = of_nets a b (class_of d (Some a)) (class_of d (Some b)) refl refl

  value_to_below : (a b : Option ℕ) → value_of d a one other ≤ m → value_to d a b one other ≤ m
  value_to_below a b h =
      let r = pair_rules d a b in
      subst (λ (v : ℕ). v ≤ m) (value_is d a b one other)
      (in_both m (value_of d a one other) (typed_value one other r.typed) r.plain h (between_within a b))

pub greatest_is : (d : Design) (m : ℕ) → IsValue d m → AreValuesWithin d None m
    → ((n : ℕ) → n < length d.nets → AreValuesWithin d (Some n) m) → All (IsPairCovered d m) d.pairs
    → IsGreatestClearance d m
greatest_is d m v none nets pairs =
    let all : (a b : Option ℕ) (ka kb : Kind) → value_to d a b ka kb ≤ m = λ a b ka kb.
    value_to_below d m pairs ka kb a b ((within_all d m none nets a).each ka kb) in
    record {
      within = record { each = λ a b ka kb. max-le (all a b ka kb) (all b a ka kb) };
      reached = (
        v.net,
        v.to,
        v.one,
        v.other,
        subst (λ (w : ℕ). max w (value_to d v.to v.net v.one v.other) ≡ m) (sym v.is)
            (max-eq_left (all v.to v.net v.one v.other)),
      );
    }

-- what is within m is within what is more
pub pair_more : (d : Design) (m r : ℕ) → m ≤ r → (p : ClassPair) → IsPairCovered d m p → IsPairCovered d r p
pair_more d m r h p (inl w) = inl (rules_more m r h p.rules w)
pair_more d m r h p (inr w) =
    inr (record { each = λ a b e f one other. let v = w.each a b e f one other in omega (arith, h, v) })

-- a clearance that some nets have is within what the rules are
pub greatest_within : (d : Design) (m : ℕ) → HasRulesWithin (2 ^ 28) d → IsGreatestClearance d m → m ≤ 2 ^ 28
greatest_within d m rules g =
    let (a, b, ka, kb, is) = g.reached in
    subst (λ (v : ℕ). v ≤ 2 ^ 28) is ((clearances_within (2 ^ 28) d rules).each a b ka kb)

-- what is within m is within what is more
pub values_more : (d : Design) (net : Option ℕ) (m r : ℕ) → m ≤ r → AreValuesWithin d net m → AreValuesWithin d net r
values_more d net m r h v = record { each = λ one other. let w = v.each one other in omega (arith, h, w) }

-- one more net whose values are within r
pub nets_more : (d : Design) (net m r : ℕ) → m ≤ r → ((n : ℕ) → n < net → AreValuesWithin d (Some n) m)
    → AreValuesWithin d (Some net) r → (n : ℕ) → n < net + 1 → AreValuesWithin d (Some n) r
nets_more d net m r h before v n l = elim (below_or_from n net) [
  | inl a ↦ values_more d (Some n) m r h (before n a)
  | inr a ↦ let e : net ≡ n = omega (arith, a, l) in subst (λ (k : ℕ). AreValuesWithin d (Some k) r) e v
]

-- the value of a side is that of its net
pub side_is : (d : Design) (net : Option ℕ) (k : Kind) (s : Side) → IsSideOf d net k s → (other : Kind)
    → side_value s other ≡ value_of d net k other
side_is d net k s h Wire = h.wire_is
side_is d net k s h Via = h.via_is
side_is d net k s h Pin = h.pin_is
side_is d net k s h Smd = h.smd_is
side_is d net k s h Area = h.area_is
