-- Maps that are made for some copper, and that follow it, one after another.
use Rattle.std.proofs.Common.{◌≡◌, ℕ, zero, suc, ◌+◌, ◌*◌, ◌≤◌, ◌<◌, ◌^◌, Bool, true, false, List, [], ◌∷◌, ◌++◌}
use Rattle.std.proofs.Common.{map, length}
use Rattle.std.proofs.Common.{refl, sym, ap, ◌∙◌, subst, arith, inl, inr, get_or, set, take, length-set}
use Rattle.std.proofs.Common.{get_or-set_same, get_or-set_other}
use Rattle.std.specs.Prelude.{Contains, All, nat_lt}
use Rattle.std.proofs.lemmas.Bool.{ltb-true, ltb-false}
use Rattle.std.proofs.lemmas.List.{map-append, take_more, take_all}
use Rattle.std.proofs.lemmas.List.Elements.{All-nil, All-cons, All-head, All-tail, All-same, All-push, Contains-get_or}
use Rattle.pcb_model.specs.declared.item.Item.{Item}
use Rattle.pcb_model.specs.declared.design.Design.{Design}
use Rattle.route_lattice.specs.Mesh.{Mesh, node_count}
use Rattle.route_lattice.specs.Ways.{way_count}
use Rattle.move_maps.specs.declared.map.GroupMap.{GroupMap}
use Rattle.move_maps.specs.Groups.{AreMapped, move_total}
use Rattle.copper_change.specs.Changes.{IsMerge}
use Rattle.move_maps.specs.Maps.{IsMapOf, IsSized, AreMapsOf, Follows, FollowFrom, first_of}
use Rattle.move_maps.specs.Paint.{AreTallied}
use Rattle.move_maps.proofs.Grouping.{unruled_within}

-- ---- one map
-- counts with the tallies of a net's group make its map
pub map_of : (d : Design) (m : Mesh) (items : List Item) (g : GroupMap) → g.first < length d.nets
    → length g.counts ≤ 2 ^ 28
    → AreTallied d m g.first items g.counts → IsMapOf d m items g
map_of d m items g net few t = record { net = net; few = few; size = t.size; tallies = t.each }

-- the same where the counts follow a change
pub map_changed : (d : Design) (m : Mesh) (old new : List Item) (g h : GroupMap) → h.first ≡ g.first
    → length h.counts ≡ length g.counts
    → (AreTallied d m g.first old g.counts → AreTallied d m g.first new h.counts) → IsMapOf d m old g
    → IsMapOf d m new h
map_changed d m old new g h e z f k =
    map_of d m new h (subst (λ n. n < length d.nets) (sym e) k.net) (subst (λ n. n ≤ 2 ^ 28) (sym z) k.few)
    (subst (λ n. AreTallied d m n new h.counts) (sym e) (f (record { size = k.size; each = k.tallies })))

-- a map has a count for each move
pub sized : (d : Design) (m : Mesh) (items : List Item) (g : GroupMap) → IsMapOf d m items g → IsSized d m g
sized d m items g h = record { net = h.net; size = h.size }

-- so have all maps
pub all_sized : (d : Design) (m : Mesh) (items : List Item) (maps : List GroupMap) → All (IsMapOf d m items) maps
    → All (IsSized d m) maps
all_sized d m items maps h = λ k o within. sized d m items (get_or maps k o) (h k o within)

-- ---- map by map
-- the maps below a place follow the change, and the others are as they were
pub record FollowTo (d : Design) (m : Mesh) (gone come : List Item) (old new : List GroupMap) (to : ℕ) : Type 0 where
  pub size : length new ≡ length old
  pub front : (k : ℕ) (o : GroupMap) → k < to → Follows d m gone come (get_or old k o) (get_or new k o)
  pub behind : (k : ℕ) (o : GroupMap) → to ≤ k → get_or new k o ≡ get_or old k o

-- at first none has followed
pub follow_none : (d : Design) (m : Mesh) (gone come : List Item) (maps : List GroupMap)
    → FollowTo d m gone come maps maps 0
follow_none d m gone come maps = record {
  size = refl;
  front = λ k o h. absurd (never k h);
  behind = λ k o h. refl;
}
  where
    never : (k : ℕ) → k < 0 → ⊥
    never k h = omega (arith, h)

-- the next map follows
pub follow_next : (d : Design) (m : Mesh) (gone come : List Item) (old new : List GroupMap) (i : ℕ) (x y : GroupMap)
    → i < length new
    → x ≡ get_or new i x → Follows d m gone come x y → FollowTo d m gone come old new i
    → FollowTo d m gone come old (set new i y) (i + 1)
follow_next d m gone come old new i x y within is f t = record {
  size = length-set new i y ∙ t.size;
  front = λ k o h. at k o h (nat_lt k i) refl;
  behind = λ k o h. get_or-set_other new i k y o (λ e. never k e h) ∙ t.behind k o (omega (arith, h));
}
  where
    never : (k : ℕ) → k ≡ i → i + 1 ≤ k → ⊥
    never k e h = omega (arith, e, h)

    other : (k : ℕ) → k < i → k ≡ i → ⊥
    other k h e = omega (arith, e, h)

    here : (o : GroupMap) → get_or old i o ≡ x
    here o = sym (t.behind i o (omega arith)) ∙ (same new i o x within ∙ sym is)
      where
        same : (xs : List GroupMap) (n : ℕ) (a b : GroupMap) → n < length xs → get_or xs n a ≡ get_or xs n b
        same [] n a b h = absurd (omega (arith, h))
        same (z ∷ xs) zero a b h = refl
        same (z ∷ xs) (suc n) a b h = same xs n a b (omega (arith, h))

    at : (k : ℕ) (o : GroupMap) → k < i + 1 → (s : Bool) → nat_lt k i ≡ s
        → Follows d m gone come (get_or old k o) (get_or (set new i y) k o)
    at k o h true e =
        let low = ltb-true k i e in
        subst (λ (z : GroupMap). Follows d m gone come (get_or old k o) z)
        (sym (get_or-set_other new i k y o (other k low))) (t.front k o low)
    at k o h false e =
        let high = ltb-false k i e in
        let eq : i ≡ k = omega (arith, h, high) in
        subst (λ n. Follows d m gone come (get_or old n o) (get_or (set new i y) n o)) eq
        (subst (λ (z : GroupMap). Follows d m gone come (get_or old i o) z) (sym (get_or-set_same new i y o within))
        (subst (λ (z : GroupMap). Follows d m gone come z y) (sym (here o)) f))

-- the next map is as it was
pub next_sized : (d : Design) (m : Mesh) (gone come : List Item) (old new : List GroupMap) (i : ℕ) (x : GroupMap)
    → i < length new
    → x ≡ get_or new i x → All (IsSized d m) old → FollowTo d m gone come old new i → IsSized d m x
next_sized d m gone come old new i x within is all t =
    let size = t.size in
    subst (λ (z : GroupMap). IsSized d m z) (sym (is ∙ t.behind i x (omega arith)))
    (all i x (omega (arith, within, size)))

-- ---- all maps
-- maps of the same nets
same_firsts : (xs ys : List GroupMap) → length ys ≡ length xs
    → ((k : ℕ) (o : GroupMap) → k < length xs → (get_or ys k o).first ≡ (get_or xs k o).first)
    → map first_of ys ≡ map first_of xs
same_firsts [] [] e f = refl
same_firsts [] (y ∷ ys) e f = absurd (omega (arith, e))
same_firsts (x ∷ xs) [] e f = absurd (omega (arith, e))
same_firsts (x ∷ xs) (y ∷ ys) e f =
    let one : y.first ≡ x.first = f 0 x (omega arith) in
    let more : map first_of ys ≡ map first_of xs =
    same_firsts xs ys (omega (arith, e)) (λ k o h. f (suc k) o (omega (arith, h))) in
    ap (λ n. n ∷ map first_of ys) one ∙ ap (λ (l : List ℕ). x.first ∷ l) more

-- what all of a merged list have, all of the one part have
pub merged_left : (P : Item → Type 0) (a b c : List Item) → IsMerge a b c → All P c → All P a
merged_left P a b [] (ea, eb) h = All-same P a [] ea (All-nil P)
merged_left P a b (x ∷ c) (inl (rest, e, k)) h =
    All-same P a (x ∷ rest) e (All-cons P x rest (All-head P x c h) (merged_left P rest b c k (All-tail P x c h)))
merged_left P a b (x ∷ c) (inr (rest, e, k)) h = merged_left P a rest c k (All-tail P x c h)

-- the same for equal parts
pub follow_given : (d : Design) (m : Mesh) (gone come g h new : List Item) (xs ys : List GroupMap) → g ≡ gone → h ≡ come
    → ys ≡ xs → FollowFrom d m gone come new xs → FollowFrom d m g h new ys
follow_given d m gone come g h new xs ys p q r f =
    subst (λ (l : List GroupMap). FollowFrom d m g h new l) (sym r)
    (subst (λ (l : List Item). FollowFrom d m g l new xs) (sym q)
    (subst (λ (l : List Item). FollowFrom d m l come new xs) (sym p) f))

-- all maps have followed
pub followed : (d : Design) (m : Mesh) (gone come new : List Item) (xs ys : List GroupMap)
    → FollowFrom d m gone come new xs → length ys ≡ length xs
    → ((k : ℕ) (o : GroupMap) → k < length xs → Follows d m gone come (get_or xs k o) (get_or ys k o))
    → AreMapsOf d m new ys
followed d m gone come new xs ys h size each = record {
  mapped = subst (AreMapped d m)
      (sym (same_firsts xs ys size (λ k o within. (each k o within).first))) h.maps_are.mapped;
  each = λ k o within.
      let less : k < length xs = omega (arith, within, size) in
      (each k o less).changes h.old new h.change (h.maps_are.each k o less);
}

-- the front of a list, by its length
pub take_front : {X : Type 0} (xs ys : List X) (n : ℕ) → n ≡ length xs → take n (xs ++ ys) ≡ xs
take_front [] ys zero e = refl
take_front [] ys (suc n) e = absurd (omega (arith, e))
take_front (x ∷ xs) ys zero e = absurd (omega (arith, e))
take_front {X} (x ∷ xs) ys (suc n) e = ap (λ (l : List X). x ∷ l) (take_front xs ys n (omega (arith, e)))

-- ---- maps that are made
-- the maps of the first few of these nets
pub record AreMadeTo (d : Design) (m : Mesh) (items : List Item) (firsts : List ℕ) (to : ℕ)
    (maps : List GroupMap) : Type 0 where
  pub nets : map first_of maps ≡ take to firsts
  pub each : All (IsMapOf d m items) maps

-- at first no map is made
pub none_made : (d : Design) (m : Mesh) (items : List Item) (firsts : List ℕ) (maps : List GroupMap) → maps ≡ []
    → AreMadeTo d m items firsts 0 maps
none_made d m items firsts maps e = subst (λ (l : List GroupMap). AreMadeTo d m items firsts 0 l) (sym e)
    (record { nets = refl; each = All-nil (IsMapOf d m items) })

-- the moves of one net's map are among those of all
total_within : (d : Design) (m : Mesh) (gs : List ℕ) (g : ℕ) → Contains gs g
    → node_count m * way_count d m g ≤ move_total d m gs
total_within d m [] g (k, within, e) = absurd (omega (arith, within))
total_within d m (x ∷ gs) g (zero, within, e) =
    subst (λ n. node_count m * way_count d m n ≤ move_total d m (x ∷ gs)) e (omega arith)
total_within d m (x ∷ gs) g (suc k, within, e) = let h = total_within d m gs g (k, omega (arith, within), e) in
    omega (arith, h)

-- the next net's map is made
pub one_made : (d : Design) (m : Mesh) (items : List Item) (firsts : List ℕ) (i : ℕ) (g : GroupMap)
    (maps new : List GroupMap) → i < length firsts → g.first ≡ get_or firsts i 0 → AreMapped d m firsts
    → AreTallied d m g.first items g.counts → new ≡ maps ++ g ∷ [] → AreMadeTo d m items firsts i maps
    → AreMadeTo d m items firsts (i + 1) new
one_made d m items firsts i g maps new within is mapped t e made =
    let there : Contains firsts g.first =
    subst (λ n. Contains firsts n) (sym is) (Contains-get_or firsts i 0 within) in
    let most = total_within d m firsts g.first there in
    let small = mapped.small in
    let size = t.size in
    let net = unruled_within d g.first (mapped.each_first g.first there).unruled in
    subst (λ (l : List GroupMap). AreMadeTo d m items firsts (i + 1) l) (sym e)
    (record {
      nets = map-append first_of maps (g ∷ []) ∙ (ap (λ (l : List ℕ). l ++ g.first ∷ []) made.nets
          ∙ (ap (λ n. take i firsts ++ n ∷ []) is ∙ sym (take_more firsts i 0 within)));
      each = All-push (IsMapOf d m items) maps g made.each
          (map_of d m items g net (omega (arith, most, small, size)) t);
    })

-- at last all maps are made
pub all_made : (d : Design) (m : Mesh) (items : List Item) (firsts : List ℕ) (to : ℕ) (maps : List GroupMap)
    → length firsts ≤ to → AreMapped d m firsts
    → AreMadeTo d m items firsts to maps → AreMapsOf d m items maps
all_made d m items firsts to maps high mapped made = record {
  mapped = subst (AreMapped d m) (sym (made.nets ∙ take_all to firsts high)) mapped;
  each = made.each;
}
