-- The first vertex of a spine.
use Rattle.std.proofs.Common.{◌≡◌, ◌<◌, ◌≤◌, List, [], ◌∷◌, get_or, length, ◌↔◌, sym, ap, ◌∙◌, subst, arith}
use Rattle.std.proofs.Common.{Bool, IsTrue, ◌⊎◌, pos}
use Rattle.geo_kernel.specs.declared.point.Point.{Point}
use Rattle.geo_kernel.specs.declared.spine.Spine.{Spine}
use Rattle.geo_kernel.specs.declared.spine.Spine.TheVariants.{Chain, Area}
use Rattle.geo_kernel.specs.Spine.{outline, IsFirst, IsWellFormed, IsInside, BeginInside, BeginsInside}
use Rattle.geo_kernel.specs.Moved.{moved_spine}
use Rattle.geo_kernel.specs.Close.{IsInsideSpine}
use Rattle.geo_kernel.proofs.Moves.{spine_stays}

first_of : (s : Spine) (ps : List Point) (d : Point) → outline s ≡ ps → 0 < length ps → IsFirst s (get_or ps 0 d)
first_of s [] d e h = absurd (omega arith)
first_of s (p ∷ ps) d e h = record { rest = ps; is = e }

pub chain_first : (s : Spine) (ps qs : List Point) (d : Point) → s ≡ Chain ps → qs ≡ ps → IsWellFormed s
    → IsFirst s (get_or qs 0 d)
chain_first s ps qs d e f w =
    let v : IsWellFormed (Chain ps) = subst IsWellFormed e w in
    let P : List Point → Type 0 = λ xs. IsFirst s (get_or xs 0 d) in
    subst P (sym f) (first_of s ps d (ap outline e) v)

area_outline : (ls : List (List Point)) (l : List Point) → IsWellFormed (Area ls) → l ≡ get_or ls 0 l
    → (outline (Area ls) ≡ l) × (3 ≤ length l)
area_outline [] l w e = absurd (let h = w.0 in omega arith)
area_outline (m ∷ ms) l w e = let P : List Point → Type 0 = λ xs. 3 ≤ length xs in
    (sym e, subst P (sym e) (w.1 0 m (omega arith)))

pub area_first : (s : Spine) (ls ms : List (List Point)) (l qs : List Point) (d : Point) → s ≡ Area ls → ms ≡ ls
    → l ≡ get_or ms 0 l → qs ≡ l → IsWellFormed s → IsFirst s (get_or qs 0 d)
area_first s ls ms l qs d e f g h w =
    let v : IsWellFormed (Area ls) = subst IsWellFormed e w in
    let o = area_outline ls l v (g ∙ ap (λ xs. get_or xs 0 l) f) in
    let P : List Point → Type 0 = λ xs. IsFirst s (get_or xs 0 d) in
    let some : 0 < length l = (let m = o.1 in omega arith) in
    subst P (sym h) (first_of s l d (ap outline e ∙ o.0) some)

pub begins_is : (s t : Spine) (p : Point) → IsFirst s p → IsInsideSpine p t ↔ BeginsInside s t
begins_is s (Chain ps) p f = (λ x. x, λ x. x)
begins_is s (Area loops) p f = let Q : List Point → Type 0 = λ ps. IsInside p loops ↔ BeginInside ps loops in
    subst Q (sym f.is) (λ x. x, λ x. x)

-- a test whether s or t begins inside the other, where t was moved by nothing
pub either_still : (s t : Spine) (r : Bool)
    → (let still = moved_spine (record { x = pos 0; y = pos 0 }) t in
    IsTrue r ↔ (BeginsInside s still ⊎ BeginsInside still s)) → IsTrue r ↔ (BeginsInside s t ⊎ BeginsInside t s)
either_still s t r h =
    let P : Spine → Type 0 = λ u. IsTrue r ↔ (BeginsInside s u ⊎ BeginsInside u s) in subst P (spine_stays t) h
