-- What holds of the numbers of all lines holds of the coordinates of all candidates between them.
use Rattle.std.proofs.Common.{ℤ, List, [], ◌∷◌, flat_map, map, All, Bool, true, false, get_or}
use Rattle.std.proofs.lemmas.List.Elements.{All-append, All-cons, All-head, All-map, All-nil, All-tail}
use Rattle.geo_kernel.specs.declared.point.Point.{Point}
use Rattle.plane_joins.specs.declared.candidate.Candidate.{Candidate}
use Rattle.plane_joins.specs.Planes.{along, between_lines, crossing, steps, steps_from}

-- of both coordinates of a point
pub record HasPoint (P : ℤ → Type 0) (p : Point) : Type 0 where
  pub x_has : P p.x
  pub y_has : P p.y

-- of both ends of a candidate
pub record HasEnds (P : ℤ → Type 0) (c : Candidate) : Type 0 where
  pub from_has : HasPoint P c.from
  pub to_has : HasPoint P c.to

module _ (P : ℤ → Type 0) where
  at_crossing : (upright : Bool) (line other : ℤ) → P line → P other → HasPoint P (crossing upright line other)
  at_crossing true line other h k = record { x_has = h; y_has = k }
  at_crossing false line other h k = record { x_has = k; y_has = h }

  on_steps_from : (p : Point) (ps : List Point) → HasPoint P p → All (HasPoint P) ps
      → All (HasEnds P) (steps_from p ps)
  on_steps_from p [] h all = All-nil (HasEnds P)
  on_steps_from p (q ∷ qs) h all =
      let k = All-head (HasPoint P) q qs all in
      All-cons (HasEnds P) (record { from = p; to = q }) (steps_from q qs) (record { from_has = h; to_has = k })
      (on_steps_from q qs k (All-tail (HasPoint P) q qs all))

  on_steps : (ps : List Point) → All (HasPoint P) ps → All (HasEnds P) (steps ps)
  on_steps [] all = All-nil (HasEnds P)
  on_steps (p ∷ ps) all =
      on_steps_from p ps (All-head (HasPoint P) p ps all) (All-tail (HasPoint P) p ps all)

  along_line : (upright : Bool) (others : List ℤ) (line : ℤ) → All P others → P line
      → All (HasEnds P) (along upright others line)
  along_line upright others line all h =
      on_steps (map (crossing upright line) others)
      (All-map (HasPoint P) (crossing upright line) others
      (λ k e within. at_crossing upright line (get_or others k e) h (all k e within)))

  along_lines : (upright : Bool) (others lines : List ℤ) → All P others → All P lines
      → All (HasEnds P) (flat_map (along upright others) lines)
  along_lines upright others [] h all = All-nil (HasEnds P)
  along_lines upright others (z ∷ zs) h all =
      All-append (HasEnds P) (along upright others z) (flat_map (along upright others) zs)
      (along_line upright others z h (All-head P z zs all)) (along_lines upright others zs h (All-tail P z zs all))

pub between_has : (P : ℤ → Type 0) (xs ys : List ℤ) → All P xs → All P ys → All (HasEnds P) (between_lines xs ys)
unfolding between_lines
between_has P xs ys h k =
    All-append (HasEnds P) (flat_map (along false xs) ys) (flat_map (along true ys) xs) (along_lines P false xs ys h k)
    (along_lines P true ys xs k h)
