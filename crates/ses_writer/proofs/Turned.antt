-- Reading a list of points from its end.
use Rattle.std.proofs.Common.{◌≡◌, ℕ, ◌+◌, ◌-◌, ◌<◌, List, ◌∷◌, length, get_or, drop, reverse, true, false}
use Rattle.std.proofs.Common.{if◌then◌else◌, refl, ap, ◌∙◌}
use Rattle.std.proofs.lemmas.List.{drop_more, get_or-reverse, length-reverse}
use Rattle.geo_kernel.specs.declared.point.Point.{Point}
use Rattle.ses_writer.specs.Words.{is_before, is_lesser}

pub drop-reverse : {X : Type 0} (xs : List X) (i : ℕ) (d : X) → i < length xs
    → drop i (reverse xs) ≡ get_or xs (length xs - 1 - i) d ∷ drop (i + 1) (reverse xs)
drop-reverse xs i d lt =
    let within : i < length (reverse xs) = rw length-reverse lt in
    drop_more (reverse xs) i d within ∙ ap (λ x. x ∷ drop (i + 1) (reverse xs)) (get_or-reverse xs i d lt)

-- one more pair of points
pub is_lesser-drop : (ps : List Point) (i : ℕ) (d : Point) → i < length ps → is_lesser (drop i (reverse ps)) (drop i ps)
    ≡ (if is_before (get_or ps (length ps - 1 - i) d) (get_or ps i d) then true
    else if is_before (get_or ps i d) (get_or ps (length ps - 1 - i) d) then false
    else is_lesser (drop (i + 1) (reverse ps)) (drop (i + 1) ps))
is_lesser-drop ps i d lt = rw (drop-reverse ps i d lt, drop_more ps i d lt) refl
