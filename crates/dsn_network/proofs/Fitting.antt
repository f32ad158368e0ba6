-- Splits of a reference that fit, one hyphen after the other.
use Rattle.std.proofs.Common.{◌≡◌, List, [], ◌∷◌, refl}
use Rattle.std.specs.Prelude.{fold}
use Rattle.dsn_shapes.specs.declared.parts.PinRef.{PinRef}
use Rattle.dsn_shapes.specs.declared.parts.Split.TheVariants.{Unknown, Many}
use Rattle.dsn_network.specs.Splits.{split_by, with_fit}

many_stay : (ps : List PinRef) → fold with_fit Many ps ≡ Many
many_stay [] = refl
many_stay (p ∷ ps) = many_stay ps

-- one split after the other gives what they give together
pub split_fold : (ps : List PinRef) → fold with_fit Unknown ps ≡ split_by ps
split_fold [] = refl
split_fold (p ∷ []) = refl
split_fold (p ∷ (q ∷ ps)) = many_stay ps
