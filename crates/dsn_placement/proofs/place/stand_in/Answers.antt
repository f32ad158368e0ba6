use Rattle.std.proofs.Common.{rules, ◌≡◌, ◌∙◌, ap, sym, ℕ, Bool, cond, true, Option, Some, None, []}
use Rattle.std.proofs.lemmas.List.Sums.{fold-append}
use Rattle.dsn_tree.specs.declared.tree.Tree.{Tree}
use Rattle.dsn_units.specs.declared.angle.Angle.{Angle}
use Rattle.geo_kernel.specs.declared.point.Point.{Point}
use Rattle.dsn_shapes.specs.declared.refusal.Refusal.{Refusal}
use Rattle.dsn_shapes.specs.Refusals.{kept, noted}
use Rattle.dsn_placement.specs.Places.{angle_in, angle_refusal, point_in, point_refusals, side_in, side_refusal}
use Rattle.dsn_placement.specs.Places.{has_coordinates, stand_by, stand_in, stand_refusals, words_refusals, words_stand}
use Rattle.dsn_placement.proofs.place.stand_in.Goals as goal

-- the refusals of the place, the side and the angle, noted one after the other
all_noted : (nm : ℕ) (t : Tree) (f g h k : Option Refusal) → g ≡ noted f (point_refusals nm t)
    → h ≡ noted g (side_refusal t) → k ≡ noted h (angle_refusal t) → k ≡ noted f (words_refusals nm t)
unfolding words_refusals
all_noted nm t f g h k p q r =
    r ∙ ap (λ x. noted x (angle_refusal t)) (q ∙ ap (λ x. noted x (side_refusal t)) p)
    ∙ sym (fold-append kept (noted f (point_refusals nm t)) (side_refusal t) (angle_refusal t))
    ∙ sym (fold-append kept f (point_refusals nm t) _)

-- where they let it stand, by what was read of each
stands : (nm : ℕ) (flip_last : Bool) (t : Tree) (at : Option Point) (back : Option Bool) (angle : Option Angle)
    → point_in nm t ≡ at → back ≡ side_in t → angle ≡ angle_in t
    → stand_by flip_last at back angle ≡ words_stand nm flip_last t
unfolding words_stand
stands nm flip_last t at back angle p q r =
    ap (λ o. stand_by flip_last o back angle) (sym p) ∙ ap (λ o. stand_by flip_last (point_in nm t) o angle) q
    ∙ ap (stand_by flip_last (point_in nm t) (side_in t)) r

-- it has words behind its name
all_stand : (nm : ℕ) (flip_last : Bool) (t : Tree) → has_coordinates t ≡ true
    → words_stand nm flip_last t ≡ stand_in nm flip_last t
unfolding stand_in
all_stand nm flip_last t h = ap (λ b. cond b (words_stand nm flip_last t) None) (sym h)

all_refused : (nm : ℕ) (t : Tree) → has_coordinates t ≡ true → words_refusals nm t ≡ stand_refusals nm t
unfolding stand_refusals
all_refused nm t h = ap (λ b. cond b (words_refusals nm t) []) (sym h)

pub returns-then-is_none-clause-noted : goal.returns-then-is_none-clause-noted
unfolding stand_refusals
returns-then-is_none-clause-noted c = search rules

pub returns-then-is_none-clause-value : goal.returns-then-is_none-clause-value
unfolding stand_in
returns-then-is_none-clause-value c = search rules

pub turn_by-requires-clause-at_within : goal.turn_by-requires-clause-at_within
turn_by-requires-clause-at_within c = c.in-Some.ensures.within

pub turn_by-requires-clause-reduced : goal.turn_by-requires-clause-reduced
turn_by-requires-clause-reduced c = c.angle_in-angle.ensures.reduced

pub returns-in-Some-clause-noted : goal.returns-in-Some-clause-noted
returns-in-Some-clause-noted c =
    let has : has_coordinates c.args.tree.now ≡ true = search rules in
    all_noted c.args.s.nm c.args.tree.now _ _ _ _ c.point_in-at.ensures.noted c.side_in-back.ensures.noted
    c.angle_in-angle.ensures.noted ∙ ap (noted c.args.first.now) (all_refused c.args.s.nm c.args.tree.now has)

pub returns-in-Some-clause-value : goal.returns-in-Some-clause-value
returns-in-Some-clause-value c =
    let has : has_coordinates c.args.tree.now ≡ true = search rules in
    c.turn_by.ensures.value
    ∙ stands c.args.s.nm c.args.flip_last c.args.tree.now (Some c.in-Some.at) _ _ (sym c.in-Some.ensures.value)
    c.side_in-back.ensures.value c.angle_in-angle.ensures.value
    ∙ all_stand c.args.s.nm c.args.flip_last c.args.tree.now has

pub returns-in-Some-clause-within : goal.returns-in-Some-clause-within
returns-in-Some-clause-within c = c.turn_by.ensures.within

pub returns-in-None-clause-noted : goal.returns-in-None-clause-noted
returns-in-None-clause-noted c =
    let has : has_coordinates c.args.tree.now ≡ true = search rules in
    all_noted c.args.s.nm c.args.tree.now _ _ _ _ c.point_in-at.ensures.noted c.side_in-back.ensures.noted
    c.angle_in-angle.ensures.noted ∙ ap (noted c.args.first.now) (all_refused c.args.s.nm c.args.tree.now has)

pub returns-in-None-clause-value : goal.returns-in-None-clause-value
returns-in-None-clause-value c =
    let has : has_coordinates c.args.tree.now ≡ true = search rules in
    stands c.args.s.nm c.args.flip_last c.args.tree.now None _ _ (sym c.in-None.ensures.value)
    c.side_in-back.ensures.value c.angle_in-angle.ensures.value
    ∙ all_stand c.args.s.nm c.args.flip_last c.args.tree.now has
