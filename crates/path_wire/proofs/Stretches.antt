-- What each step of a stretch has, the segments of its wire have.
use Rattle.std.proofs.Common.{◌≡◌, ℕ, ◌==◌, Bool, true, false, List, [], ◌∷◌, map, All, T, refl, sym, subst}
use Rattle.std.proofs.Math.Dec.{eqb→eq}
use Rattle.std.proofs.lemmas.List.Elements.{All-nil, All-cons}
use Rattle.geo_kernel.specs.declared.point.Point.{Point}
use Rattle.geo_kernel.specs.Spine.{Segment, links, chain_segments}
use Rattle.route_lattice.specs.declared.moves.Move.{Move}
use Rattle.route_lattice.specs.declared.moves.Move.TheVariants as move
use Rattle.path_wire.specs.Wires.{unless_straight, corners}
use Rattle.path_wire.proofs.Dirs.{IsAhead, ahead_further}

abbrev pub segment : Point → Point → Segment
segment p q = record { from = p; to = q }

-- each step of the stretch that begins at v leads straight in its direction, and its segment has P
abbrev pub StepsHave : (Segment → Type 0) → (ℕ → Point) → ℕ → List ℕ → List Move → Type 0
StepsHave P at v vs [] = Unit {0}
StepsHave P at v vs (move.Via padstack layer ∷ ms) = Unit {0}
StepsHave P at v [] (move.Step dir ∷ ms) = ⊥
StepsHave P at v (w ∷ vs) (move.Step dir ∷ ms) =
    IsAhead dir (at v) (at w) × P (segment (at v) (at w)) × StepsHave P at w vs ms

pub steps_map : (P Q : Segment → Type 0) (at : ℕ → Point) → ((p q : Point) → P (segment p q) → Q (segment p q))
    → (v : ℕ) (vs : List ℕ) (ms : List Move) → StepsHave P at v vs ms → StepsHave Q at v vs ms
steps_map P Q at f v vs [] h = tt
steps_map P Q at f v vs (move.Via padstack layer ∷ ms) h = tt
steps_map P Q at f v [] (move.Step dir ∷ ms) h = absurd h
steps_map P Q at f v (w ∷ vs) (move.Step dir ∷ ms) (a, p, r) = (a, f (at v) (at w) p, steps_map P Q at f w vs ms r)

-- ---- corners
-- the last of the nodes of a stretch, and how its corners begin
pub last_corner : (v : ℕ) (vs : List ℕ) (dir : ℕ) → corners (v ∷ vs) (move.Step dir ∷ []) ≡ v ∷ []
last_corner v [] dir = refl
last_corner v (w ∷ vs) dir = refl

pub via_corner : (v : ℕ) (vs : List ℕ) (dir padstack layer : ℕ) (ms : List Move)
    → corners (v ∷ vs) (move.Step dir ∷ move.Via padstack layer ∷ ms) ≡ v ∷ []
via_corner v [] dir padstack layer ms = refl
via_corner v (w ∷ vs) dir padstack layer ms = refl

same_number : (a b : ℕ) → (a == b) ≡ true → a ≡ b
same_number a b e = eqb→eq a b (subst T (sym e) tt)

-- the way goes straight on at v, or turns
at_corner : (P : Segment → Type 0) (at : ℕ → Point) (p : Point) (v : ℕ) (rest : List ℕ) (t : Bool)
    → (t ≡ true → All P (links p (map at rest))) → P (segment p (at v)) → All P (links (at v) (map at rest))
    → All P (links p (map at (unless_straight t v rest)))
at_corner P at p v rest true straight h turn = straight refl
at_corner P at p v rest false straight h turn = All-cons P (segment p (at v)) (links (at v) (map at rest)) h turn

module _ (P : Segment → Type 0) (at : ℕ → Point)
    (merge : (dir : ℕ) (a b c : Point) → IsAhead dir a b → IsAhead dir b c → P (segment a b) → P (segment b c)
    → P (segment a c)) where
  -- p is the last vertex so far, and v lies straight ahead of it
  pub path_has : (p : Point) (dir v : ℕ) (vs : List ℕ) (ms : List Move) → IsAhead dir p (at v) → P (segment p (at v))
      → StepsHave P at v vs ms → All P (links p (map at (corners (v ∷ vs) (move.Step dir ∷ ms))))
  path_has p dir v vs [] a h s =
      subst (λ (us : List ℕ). All P (links p (map at us))) (sym (last_corner v vs dir))
      (All-cons P (segment p (at v)) [] h (All-nil P))
  path_has p dir v vs (move.Via padstack layer ∷ ms) a h s =
      subst (λ (us : List ℕ). All P (links p (map at us))) (sym (via_corner v vs dir padstack layer ms))
      (All-cons P (segment p (at v)) [] h (All-nil P))
  path_has p dir v [] (move.Step next ∷ ms) a h s = absurd s
  path_has p dir v (w ∷ vs) (move.Step next ∷ ms) a h (b, k, r) =
      at_corner P at p v (corners (w ∷ vs) (move.Step next ∷ ms)) (dir == next)
      (λ t. let e = same_number dir next t in
      let c : IsAhead dir (at v) (at w) = subst (λ (n : ℕ). IsAhead n (at v) (at w)) (sym e) b in
      path_has p next w vs ms (subst (λ (n : ℕ). IsAhead n p (at w)) e (ahead_further dir p (at v) (at w) a c))
      (merge dir p (at v) (at w) a c h k) r)
      h (path_has (at v) next w vs ms b k r)

-- a stretch has a corner
pub some_corner : (P : Segment → Type 0) (at : ℕ → Point) (v w : ℕ) (vs : List ℕ) (dir : ℕ) (ms : List Move)
    → StepsHave P at w vs ms → (u : ℕ) × (us : List ℕ) × (corners (w ∷ vs) (move.Step dir ∷ ms) ≡ u ∷ us)
some_corner P at v w vs dir [] s = (w, [], last_corner w vs dir)
some_corner P at v w vs dir (move.Via padstack layer ∷ ms) s = (w, [], via_corner w vs dir padstack layer ms)
some_corner P at v w [] dir (move.Step next ∷ ms) s = absurd s
some_corner P at v w (x ∷ vs) dir (move.Step next ∷ ms) (b, k, r) =
    either (dir == next) w (corners (x ∷ vs) (move.Step next ∷ ms)) (some_corner P at w x vs next ms r)
  where
    either : (t : Bool) (w : ℕ) (rest : List ℕ) → (u : ℕ) × (us : List ℕ) × (rest ≡ u ∷ us)
        → (u : ℕ) × (us : List ℕ) × (unless_straight t w rest ≡ u ∷ us)
    either true w rest c = c
    either false w rest c = (w, rest, refl)

-- the segments of the wire of a stretch
pub chain_has : (P : Segment → Type 0) (at : ℕ → Point)
    → ((dir : ℕ) (a b c : Point) → IsAhead dir a b → IsAhead dir b c → P (segment a b) → P (segment b c)
    → P (segment a c))
    → (v w : ℕ) (vs : List ℕ) (dir : ℕ) (ms : List Move) → StepsHave P at v (w ∷ vs) (move.Step dir ∷ ms)
    → All P (chain_segments (at v ∷ map at (corners (w ∷ vs) (move.Step dir ∷ ms))))
chain_has P at merge v w vs dir ms (a, h, s) =
    let c = some_corner P at v w vs dir ms s in
    let F : List ℕ → Type 0 = λ us. All P (links (at v) (map at us)) in
    let G : List ℕ → Type 0 = λ us. All P (chain_segments (at v ∷ map at us)) in
    let here : All P (links (at v) (map at (c.0 ∷ c.1))) = subst F c.2 (path_has P at merge (at v) dir w vs ms a h s) in
    subst G (sym c.2) here
