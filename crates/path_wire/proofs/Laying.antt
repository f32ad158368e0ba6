-- The loops over the moves of a walk: what is laid, and what is left.
use Rattle.std.proofs.Common.{◌≡◌, ℕ, ◌+◌, ◌-◌, ◌<◌, ◌≤◌, Bool, true, false, List, [], ◌∷◌, ◌++◌, map, take, drop}
use Rattle.std.proofs.Common.{get_or, length, drop-cons, add-one, append_assoc, length-drop, refl, sym, ap, ap₂, ◌∙◌}
use Rattle.std.proofs.Common.{arith, ◌⊎◌, inl, inr}
use Rattle.std.specs.Prelude.{slice_index}
use Rattle.std.proofs.lemmas.List.{drop_all, take_all}
use Rattle.geo_kernel.specs.declared.point.Point.{Point}
use Rattle.pcb_model.specs.declared.item.Metal.{Metal}
use Rattle.pcb_model.specs.declared.item.Metal.TheVariants as metal
use Rattle.pcb_model.specs.declared.design.Design.{Design}
use Rattle.route_lattice.specs.declared.moves.Move.{Move}
use Rattle.route_lattice.specs.declared.moves.Move.TheVariants as move
use Rattle.route_lattice.specs.Mesh.{Mesh, point_of, layer_of}
use Rattle.path_wire.specs.Wires.{MovesLead, unless_straight, goes_on, corners, wire_from, copper_from}

pub no_corners : (vs : List ℕ) → corners vs [] ≡ []
no_corners [] = refl
no_corners (v ∷ vs) = refl

pub no_copper : (m : Mesh) (width : ℕ) (fresh : Bool) (vs : List ℕ) → copper_from m width fresh vs [] ≡ []
no_copper m width fresh [] = refl
no_copper m width true (v ∷ vs) = refl
no_copper m width false (v ∷ vs) = refl

append_nil : {X : Type 0} (xs : List X) → xs ++ [] ≡ xs
append_nil [] = refl
append_nil (x ∷ xs) = ap (λ ys. x ∷ ys) (append_nil xs)

pub rest_is : {X : Type 0} (xs : List X) (i : ℕ) → take (length xs - i) (drop i xs) ≡ drop i xs
rest_is xs i = take_all (length xs - i) (drop i xs) (let e = length-drop i xs in omega (arith, e))

pub from_here : {X : Type 0} (xs : List X) (i : ℕ) (d : X) → i < length xs → drop i xs ≡ get_or xs i d ∷ drop (i + 1) xs
from_here xs i d h = drop-cons xs i d h ∙ rw add-one refl

-- a walk's lists
pub walk_length : (d : Design) (m : Mesh) (net : ℕ) (nodes : List ℕ) (moves : List Move) → MovesLead d m net nodes moves
    → length nodes ≡ length moves + 1
walk_length d m net [] [] h = absurd h
walk_length d m net [] (a ∷ ms) h = absurd h
walk_length d m net (v ∷ []) [] h = refl
walk_length d m net (v ∷ []) (a ∷ ms) h = absurd h
walk_length d m net (v ∷ w ∷ vs) [] h = absurd h
walk_length d m net (v ∷ w ∷ vs) (a ∷ ms) h = let e = walk_length d m net (w ∷ vs) ms h.1 in omega (arith, e)

-- ---- the points of a stretch
module _ (f : ℕ → Point) (nodes : List ℕ) (moves : List Move) (i : ℕ) where
  pub step_corners : (d : Move) (dir : ℕ) → i < length moves → length nodes ≡ length moves + 1
      → get_or moves i d ≡ move.Step dir →
      corners (drop (i + 1) nodes) (drop i moves)
      ≡ unless_straight (goes_on dir (drop (i + 1) moves)) (get_or nodes (i + 1) 0)
      (corners (drop (i + 1 + 1) nodes) (drop (i + 1) moves))
  step_corners d dir h l e =
      let k : i + 1 < length nodes = omega arith in
      ap₂ corners (from_here nodes (i + 1) 0 k) (from_here moves i d h ∙ ap (λ a. a ∷ drop (i + 1) moves) e)

  pub via_corners : (d : Move) (padstack layer : ℕ) → i < length moves → length nodes ≡ length moves + 1
      → get_or moves i d ≡ move.Via padstack layer → corners (drop (i + 1) nodes) (drop i moves) ≡ []
  via_corners d padstack layer h l e =
      let k : i + 1 < length nodes = omega arith in
      ap₂ corners (from_here nodes (i + 1) 0 k) (from_here moves i d h ∙ ap (λ a. a ∷ drop (i + 1) moves) e)

  pub points_done : (points whole : List Point) → corners (drop (i + 1) nodes) (drop i moves) ≡ []
      → points ++ map f (corners (drop (i + 1) nodes) (drop i moves)) ≡ whole → points ≡ whole
  points_done points whole e h = sym (append_nil points) ∙ ap (λ vs. points ++ map f vs) (sym e) ∙ h

  pub at_end : length moves ≤ i → corners (drop (i + 1) nodes) (drop i moves) ≡ []
  at_end h = ap (corners (drop (i + 1) nodes)) (drop_all i moves h) ∙ no_corners (drop (i + 1) nodes)

pub points_next : (f : ℕ → Point) (points more whole : List Point) (b : Bool) (v : ℕ) (here rest : List ℕ)
    → points ++ map f here ≡ whole → here ≡ unless_straight b v rest →
    ((b ≡ true) × (more ≡ points)) ⊎ ((b ≡ false) × (more ≡ points ++ f v ∷ [])) → more ++ map f rest ≡ whole
points_next f points more whole b v here rest h e (inl (t, m)) =
    ap₂ (λ ps vs. ps ++ map f vs) m (sym (e ∙ ap (λ c. unless_straight c v rest) t)) ∙ h
points_next f points more whole b v here rest h e (inr (t, m)) =
    ap (λ ps. ps ++ map f rest) m ∙ append_assoc points (f v ∷ []) (map f rest)
    ∙ ap (λ vs. points ++ map f vs) (sym (e ∙ ap (λ c. unless_straight c v rest) t)) ∙ h

-- ---- the metals
module _ (m : Mesh) (width : ℕ) (nodes : List ℕ) (moves : List Move) (i : ℕ) (h : i < length moves)
    (l : length nodes ≡ length moves + 1) (metals more whole : List Metal) where
  node : ℕ
  node = get_or nodes i 0

  heads : (fresh : Bool) (d a : Move) → get_or moves i d ≡ a → copper_from m width fresh (drop i nodes) (drop i moves)
      ≡ copper_from m width fresh (get_or nodes i 0 ∷ drop (i + 1) nodes) (a ∷ drop (i + 1) moves)
  heads fresh d a e =
      let k : i < length nodes = omega arith in
      ap₂ (copper_from m width fresh) (from_here nodes i 0 k)
      (from_here moves i d h ∙ ap (λ x. x ∷ drop (i + 1) moves) e)

  one_more : (x : Metal) (rest here : List Metal) → metals ++ here ≡ whole → here ≡ x ∷ rest → more ≡ metals ++ x ∷ []
      → more ++ rest ≡ whole
  one_more x rest here w e n =
      ap (λ ms. ms ++ rest) n ∙ append_assoc metals (x ∷ []) rest ∙ ap (λ ms. metals ++ ms) (sym e) ∙ w

  pub lay_via : (fresh : Bool) (d : Move) (padstack layer : ℕ) → get_or moves i d ≡ move.Via padstack layer →
      metals ++ copper_from m width fresh (drop i nodes) (drop i moves) ≡ whole
      → more ≡ metals ++ metal.Via padstack (point_of m (get_or nodes i 0)) ∷ [] →
      more ++ copper_from m width true (drop (i + 1) nodes) (drop (i + 1) moves) ≡ whole
  lay_via fresh d padstack layer e w n =
      one_more (metal.Via padstack (point_of m (get_or nodes i 0))) _ _ w
      (heads fresh d (move.Via padstack layer) e ∙ by fresh) n
    where
      by : (fresh : Bool)
          → copper_from m width fresh (get_or nodes i 0 ∷ drop (i + 1) nodes)
          (move.Via padstack layer ∷ drop (i + 1) moves) ≡ metal.Via padstack (point_of m (get_or nodes i 0))
          ∷ copper_from m width true (drop (i + 1) nodes) (drop (i + 1) moves)
      by true = refl
      by false = refl

  -- the wire of the code
  pub wire_is : (a : Metal) (vs : List ℕ) (ms : List Move) → vs ≡ drop i nodes → ms ≡ drop i moves →
      a ≡ metal.Wire (layer_of m (slice_index vs 0)) width
      (map (point_of m) (slice_index vs 0 ∷ corners (drop 1 vs) ms)) →
      a ≡ wire_from m width (get_or nodes i 0) (drop (i + 1) nodes) (drop i moves)
  wire_is a vs ms e f w =
      let k : i < length nodes = omega arith in
      w ∙ ap₂ (λ (xs : List ℕ) (ys : List Move). metal.Wire (layer_of m (slice_index xs 0)) width
      (map (point_of m) (slice_index xs 0 ∷ corners (drop 1 xs) ys))) (e ∙ from_here nodes i 0 k) f

  pub lay_wire : (fresh : Bool) (d : Move) (dir : ℕ) (a : Metal) → fresh ≡ true → get_or moves i d ≡ move.Step dir →
      metals ++ copper_from m width fresh (drop i nodes) (drop i moves) ≡ whole
      → a ≡ wire_from m width (get_or nodes i 0) (drop (i + 1) nodes) (drop i moves) → more ≡ metals ++ a ∷ [] →
      more ++ copper_from m width false (drop (i + 1) nodes) (drop (i + 1) moves) ≡ whole
  lay_wire fresh d dir a t e w is n =
      one_more a _ _ w
      (heads fresh d (move.Step dir) e
      ∙ ap (λ b. copper_from m width b (get_or nodes i 0 ∷ drop (i + 1) nodes)
      (move.Step dir ∷ drop (i + 1) moves)) t
      ∙ ap (λ x. x ∷ copper_from m width false (drop (i + 1) nodes) (drop (i + 1) moves))
      (sym (is ∙ ap (wire_from m width (get_or nodes i 0) (drop (i + 1) nodes))
      (from_here moves i d h ∙ ap (λ x. x ∷ drop (i + 1) moves) e)))) n

  pub lay_none : (fresh : Bool) (d : Move) (dir : ℕ) → fresh ≡ false → get_or moves i d ≡ move.Step dir →
      metals ++ copper_from m width fresh (drop i nodes) (drop i moves) ≡ whole → more ≡ metals
      → more ++ copper_from m width false (drop (i + 1) nodes) (drop (i + 1) moves) ≡ whole
  lay_none fresh d dir t e w n =
      ap₂ (λ x y. x ++ y) n
      (sym (heads fresh d (move.Step dir) e
      ∙ ap (λ b. copper_from m width b (get_or nodes i 0 ∷ drop (i + 1) nodes)
      (move.Step dir ∷ drop (i + 1) moves)) t)) ∙ w

pub all_laid : (m : Mesh) (width : ℕ) (fresh : Bool) (nodes : List ℕ) (moves : List Move) (i : ℕ)
    (metals whole : List Metal) → length moves ≤ i →
    metals ++ copper_from m width fresh (drop i nodes) (drop i moves) ≡ whole → metals ≡ whole
all_laid m width fresh nodes moves i metals whole h w =
    sym (append_nil metals)
    ∙ ap (λ ms. metals ++ ms)
    (sym (ap (copper_from m width fresh (drop i nodes)) (drop_all i moves h)
    ∙ no_copper m width fresh (drop i nodes))) ∙ w

pub first_point : (f : ℕ → Point) (points none : List Point) (p : Point) (v : ℕ) (rest : List ℕ)
    → points ≡ none ++ p ∷ [] → none ≡ [] → p ≡ f v → points ++ map f rest ≡ map f (v ∷ rest)
first_point f points none p v rest e n q = ap (λ ps. ps ++ map f rest) (e ∙ ap₂ (λ ps x. ps ++ x ∷ []) n q)
