-- The first nets of groups, found net by net.
use Rattle.std.proofs.Common.{◌≡◌, ℕ, ◌+◌, ◌*◌, ◌≤◌, ◌<◌, ◌^◌, Bool, true, false, List, [], ◌∷◌, ◌++◌, length}
use Rattle.std.proofs.Common.{Option, Some, None, refl, sym, ap, ◌∙◌, subst, arith, ◌⊎◌, inl, inr}
use Rattle.std.specs.Prelude.{Contains, Any, All, slice_get, nat_lt}
use Rattle.std.specs.Option.{IsSomeAnd}
use Rattle.std.specs.List.Sorted.{IsStrictlyIncreasing}
use Rattle.std.proofs.lemmas.Bool.{ltb-true, ltb-false}
use Rattle.std.proofs.lemmas.Option.{slice_get_within}
use Rattle.std.proofs.lemmas.List.{length-append, get_or_append_left}
use Rattle.std.proofs.lemmas.List.Elements.{All-nil, All-push, All-weaker, All-contains}
use Rattle.std.proofs.lemmas.List.Elements.{Contains-push_cases}
use Rattle.std.proofs.lemmas.List.Quantifiers.{Any-push}
use Rattle.geo_kernel.proofs.Ascending.{ascend_push}
use Rattle.pcb_model.specs.declared.design.Net.{Net}
use Rattle.pcb_model.specs.declared.design.Design.{Design}
use Rattle.route_lattice.specs.Mesh.{Mesh, node_count}
use Rattle.route_lattice.specs.Ways.{way_count}
use Rattle.move_maps.specs.Groups.{IsEmptyRules, IsUnruled, AreNetsAlike, AreAlike, IsFirst, AreMapped, move_total}

-- ---- likeness
-- equal values within
some_is : (a b : Net) → Some a ≡ Some b → a ≡ b
some_is a b e = cc

-- equal nets are alike
same_nets : (a b : Net) → a ≡ b → AreNetsAlike a b
same_nets a b e = record { class_is = ap (λ (n : Net). n.class) e; vias_are = ap (λ (n : Net). n.vias) e }

-- a net without a rule of its own is like itself
pub itself : (d : Design) (g : ℕ) → IsUnruled d g → AreAlike d g g
itself d g h = record {
  g_unruled = h;
  net_unruled = h;
  width_is = refl;
  nets = λ a b e f. same_nets a b (some_is a b (sym e ∙ f));
}

-- likeness goes both ways
pub back : (d : Design) (g h : ℕ) → AreAlike d g h → AreAlike d h g
back d g h k = record {
  g_unruled = k.net_unruled;
  net_unruled = k.g_unruled;
  width_is = sym k.width_is;
  nets = λ a b e f. let n = k.nets b a f e in record { class_is = sym n.class_is; vias_are = sym n.vias_are };
}

-- a net without a rule of its own is there
there : (o : Option Net) → IsSomeAnd o (λ (n : Net). IsEmptyRules n.rules) → (n : Net) × (o ≡ Some n)
there None h = absurd h
there (Some n) h = (n, refl)

-- so it is a net of the design
pub unruled_within : (d : Design) (g : ℕ) → IsUnruled d g → g < length d.nets
unruled_within d g h = let n = there (slice_get d.nets g) h in slice_get_within d.nets g n.0 n.1

-- two nets that are like a third are alike
pub through : (d : Design) (f g h : ℕ) → AreAlike d f g → AreAlike d g h → AreAlike d f h
through d f g h k l = record {
  g_unruled = k.g_unruled;
  net_unruled = l.net_unruled;
  width_is = k.width_is ∙ l.width_is;
  nets = λ a b e z.
      let m = there (slice_get d.nets g) k.net_unruled in
      let p = k.nets a m.0 e m.1 in
      let q = l.nets m.0 b m.1 z in
      record { class_is = p.class_is ∙ q.class_is; vias_are = p.vias_are ∙ q.vias_are };
}

-- ---- some element of a list
-- some element has what follows from what it has
any_weaker : {X : Type 0} (P Q : X → Type 0) (xs : List X) → ((x : X) → P x → Q x) → Any P xs → Any Q xs
any_weaker P Q xs f (k, x, within, e, p) = (k, x, within, e, f x p)

-- some element of the first part is one of all
any_left : {X : Type 0} (P : X → Type 0) (xs ys : List X) → Any P xs → Any P (xs ++ ys)
any_left P xs ys (k, x, within, e, p) =
    let l : length (xs ++ ys) ≡ length xs + length ys = length-append xs ys in
    (k, x, omega (arith, within, l), get_or_append_left xs ys x k within ∙ e, p)

-- ---- lists of numbers that ascend
-- two numbers of which neither is less
one_of : (g h : ℕ) → (g < h → ⊥) → (h < g → ⊥) → g ≡ h
one_of g h p q = at (nat_lt g h) refl (nat_lt h g) refl
  where
    at : (s : Bool) → nat_lt g h ≡ s → (t : Bool) → nat_lt h g ≡ t → g ≡ h
    at true e t f = absurd (p (ltb-true g h e))
    at false e true f = absurd (q (ltb-true h g f))
    at false e false f = let a = ltb-false g h e in let b = ltb-false h g f in omega (arith, a, b)

-- ---- net by net
-- the first nets below one, all of which have maps
pub record AreFirstsBelow (d : Design) (m : Mesh) (net : ℕ) (gs : List ℕ) (used : ℕ) : Type 0 where
  pub ascend : IsStrictlyIncreasing gs
  pub below : All (λ g. g < net) gs
  pub firsts : (g : ℕ) → Contains gs g → IsFirst d g
  pub found : (h : ℕ) → h < net → IsUnruled d h → Any (λ g. AreAlike d g h) gs
  pub few : length gs ≤ 16
  pub small : move_total d m gs ≤ 2 ^ 28
  pub used_is : used ≡ move_total d m gs

-- below the first net there is none
pub no_firsts : (d : Design) (m : Mesh) (gs : List ℕ) → gs ≡ [] → AreFirstsBelow d m 0 gs 0
no_firsts d m gs e = subst (λ (l : List ℕ). AreFirstsBelow d m 0 l 0) (sym e)
    (record {
      ascend = λ k within. absurd (none k within);
      below = All-nil (λ g. g < 0);
      firsts = λ g h. absurd (empty g h);
      found = λ h lt u. absurd (never h lt);
      few = omega arith;
      small = omega arith;
      used_is = refl;
    })
  where
    none : (k : ℕ) → k + 1 < 0 → ⊥
    none k h = omega (arith, h)

    never : (h : ℕ) → h < 0 → ⊥
    never h lt = omega (arith, lt)

    empty : (g : ℕ) → Contains [] g → ⊥
    empty g (k, within, e) = omega (arith, within)

module _ (d : Design) (m : Mesh) (net : ℕ) (gs : List ℕ) (used : ℕ) (f : AreFirstsBelow d m net gs used) where
  -- each first net below is among them
  first_in : (h : ℕ) → h < net → IsFirst d h → Contains gs h
  first_in h lt first = from (f.found h lt first.unruled)
    where
      from : Any (λ g. AreAlike d g h) gs → Contains gs h
      from (k, g, within, e, alike) =
          let in_gs : Contains gs g = (k, within, e) in
          let is : g ≡ h = one_of g h (λ less. first.none_before g less alike)
          (λ less. (f.firsts g in_gs).none_before h less (back d g h alike)) in
          subst (λ x. Contains gs x) is in_gs

  -- a net that is like none of them is a first net
  is_first : IsUnruled d net → ¬ (Any (λ g. AreAlike d g net) gs) → IsFirst d net
  is_first u new = record {
    unruled = u;
    none_before = λ h lt alike. new
        (any_weaker (λ g. AreAlike d g h) (λ g. AreAlike d g net) gs (λ g k. through d g h net k alike)
        (f.found h lt alike.g_unruled));
  }

  -- the net itself isn't among them
  not_in : Contains gs net → ⊥
  not_in h = let less = All-contains (λ g. g < net) gs net f.below h in omega (arith, less)

  -- none is left out below one of them
  left_out : (g h : ℕ) → Contains gs g → h < g → IsFirst d h → Contains gs h
  left_out g h in_gs lt first =
      let less = All-contains (λ x. x < net) gs g f.below in_gs in first_in h (omega (arith, lt, less)) first

  -- the net has a rule of its own, or is like one of them
  pub passed_by : (IsUnruled d net → Any (λ g. AreAlike d g net) gs) → AreFirstsBelow d m (net + 1) gs used
  passed_by old = record {
    ascend = f.ascend;
    below = All-weaker (λ g. g < net) (λ g. g < net + 1) (λ g less. omega (arith, less)) gs f.below;
    firsts = f.firsts;
    found = λ h lt u. at h lt u (nat_lt h net) refl;
    few = f.few;
    small = f.small;
    used_is = f.used_is;
  }
    where
      at : (h : ℕ) → h < net + 1 → IsUnruled d h → (s : Bool) → nat_lt h net ≡ s → Any (λ g. AreAlike d g h) gs
      at h lt u true e = f.found h (ltb-true h net e) u
      at h lt u false e =
          let high = ltb-false h net e in
          let is : net ≡ h = omega (arith, lt, high) in
          subst (λ x. Any (λ g. AreAlike d g x) gs) is (old (subst (λ x. IsUnruled d x) (sym is) u))

  -- one more group has its moves more
  total_push : (xs : List ℕ) (y : ℕ)
      → move_total d m (xs ++ y ∷ []) ≡ move_total d m xs + node_count m * way_count d m y
  total_push [] y = omega arith
  total_push (x ∷ xs) y = let e = total_push xs y in omega (arith, e)

  -- the net is the next first net, and there is room for its map
  pub one_first : (size : ℕ) → IsUnruled d net → ¬ (Any (λ g. AreAlike d g net) gs)
      → size ≡ node_count m * way_count d m net
      → length gs < 16 → used + size ≤ 2 ^ 28 → AreFirstsBelow d m (net + 1) (gs ++ net ∷ []) (used + size)
  one_first size u new is few small =
      let bits = total_push gs net in
      let used_is = f.used_is in
      let l : length (gs ++ net ∷ []) ≡ length gs + 1 = length-append gs (net ∷ []) in
      record {
        ascend = ascend_push gs net f.ascend f.below;
        below = All-push (λ g. g < net + 1) gs net
            (All-weaker (λ g. g < net) (λ g. g < net + 1) (λ g less. omega (arith, less)) gs f.below) (omega arith);
        firsts = λ g in_gs. of g (Contains-push_cases gs net g in_gs);
        found = λ h lt v. at h lt v (nat_lt h net) refl;
        few = omega (arith, few, l);
        small = omega (arith, bits, used_is, is, small);
        used_is = omega (arith, bits, used_is, is);
      }
    where
      of : (g : ℕ) → Contains gs g ⊎ (net ≡ g) → IsFirst d g
      of g (inl old) = f.firsts g old
      of g (inr e) = subst (λ x. IsFirst d x) e (is_first u new)

      at : (h : ℕ) → h < net + 1 → IsUnruled d h → (s : Bool) → nat_lt h net ≡ s
          → Any (λ g. AreAlike d g h) (gs ++ net ∷ [])
      at h lt v true e = any_left (λ g. AreAlike d g h) gs (net ∷ []) (f.found h (ltb-true h net e) v)
      at h lt v false e =
          let high = ltb-false h net e in
          let is : net ≡ h = omega (arith, lt, high) in
          Any-push (λ g. AreAlike d g h) gs net (subst (λ x. AreAlike d net x) is (itself d net u))

  -- there is no room for the map of a net's group
  abbrev Full : ℕ → Type 0
  Full x = (length gs ≡ 16) ⊎ (2 ^ 28 < move_total d m gs + node_count m * way_count d m x)

  -- the net is the next first net, and there is no room for its map
  pub no_room : (size : ℕ) → IsUnruled d net → ¬ (Any (λ g. AreAlike d g net) gs)
      → size ≡ node_count m * way_count d m net
      → (16 ≤ length gs) ⊎ (2 ^ 28 < used + size) → AreMapped d m gs
  no_room size u new is full = record {
    ascend = f.ascend;
    each_first = f.firsts;
    none_left_out = left_out;
    few = f.few;
    small = f.small;
    no_more = λ h first out all. subst (λ x. Full x)
        (one_of net h (λ lt. not_in (all net lt (is_first u new))) (λ lt. out (first_in h lt first))) (reached full);
  }
    where
      reached : (16 ≤ length gs) ⊎ (2 ^ 28 < used + size) → Full net
      reached (inl many) = let few = f.few in inl (omega (arith, many, few))
      reached (inr large) = let used_is = f.used_is in inr (omega (arith, large, used_is, is))

  -- there are no more nets
  pub no_nets : length d.nets ≤ net → AreMapped d m gs
  no_nets last = record {
    ascend = f.ascend;
    each_first = f.firsts;
    none_left_out = left_out;
    few = f.few;
    small = f.small;
    no_more = λ h first out all.
        let within = unruled_within d h first.unruled in absurd (out (first_in h (omega (arith, within, last)) first));
  }
