use Rattle.std.proofs.Common.{◌<◌, ◌∙◌, ap, sym, subst, List, [], ◌∷◌, ◌++◌, length}
use Rattle.std.proofs.lemmas.List.Elements.{All-set, All-push}
use Rattle.geo_kernel.specs.declared.point.Rect4.{Rect4}
use Rattle.std.specs.Prelude.{All}
use Rattle.route_lattice.specs.Parts.{IsBoxWithin}
use Rattle.wave_search.specs.Around.{widened, IsHeldBy}
use Rattle.wave_search.proofs.Around.{put_keeps, put_holds, added_keeps, added_holds, grown_is, widened_within}
use Rattle.wave_search.proofs.Around.{alone_within}
use Rattle.wave_search.proofs.box_bound.take_in.Goals as goal

pub returns-in-Some-clause-within : goal.returns-in-Some-clause-within
returns-in-Some-clause-within c =
    let w = c.grown_by-grown.ensures in
    let inside = subst (λ (xs : List Rect4). c.in-Some.k < length xs) c.as_slice.ensures.value c.in-Some.ensures in
    let is = grown_is c.index.result.now c.grown_by-grown.result c.args.p w.x0 w.y0 w.x1 w.y1 in
    let was = subst IsBoxWithin (sym c.index.ensures) (c.requires.boxes c.in-Some.k c.index.result.now inside) in
    All-set IsBoxWithin c.args.boxes.now.items c.in-Some.k c.grown_by-grown.result
    (subst IsBoxWithin (sym is) (widened_within c.index.result.now c.args.p was c.requires.p)) c.requires.boxes

pub returns-in-Some-clause-keeps : goal.returns-in-Some-clause-keeps
returns-in-Some-clause-keeps c =
    let w = c.grown_by-grown.ensures in
    let inside = subst (λ (xs : List Rect4). c.in-Some.k < length xs) c.as_slice.ensures.value c.in-Some.ensures in
    let is = grown_is c.index.result.now c.grown_by-grown.result c.args.p w.x0 w.y0 w.x1 w.y1
    ∙ ap (λ (z : Rect4). widened z c.args.p) c.index.ensures in
    λ q h. put_keeps c.args.boxes.now.items c.in-Some.k c.index.result.now c.grown_by-grown.result c.args.p q inside is
    h

pub returns-in-Some-clause-holds : goal.returns-in-Some-clause-holds
returns-in-Some-clause-holds c =
    let w = c.grown_by-grown.ensures in
    let inside = subst (λ (xs : List Rect4). c.in-Some.k < length xs) c.as_slice.ensures.value c.in-Some.ensures in
    let is = grown_is c.index.result.now c.grown_by-grown.result c.args.p w.x0 w.y0 w.x1 w.y1
    ∙ ap (λ (z : Rect4). widened z c.args.p) c.index.ensures in
    put_holds c.args.boxes.now.items c.in-Some.k c.index.result.now c.grown_by-grown.result c.args.p inside is

pub returns-clause-within : goal.returns-clause-within
returns-clause-within c = subst (λ (xs : List Rect4). All IsBoxWithin xs) (sym c.in_ok-push.ensures.items)
    (All-push IsBoxWithin c.args.boxes.now.items c.box_of.result c.requires.boxes
    (subst IsBoxWithin (sym c.box_of.ensures) (alone_within c.args.p c.requires.p)))

pub returns-clause-keeps : goal.returns-clause-keeps
returns-clause-keeps c =
    let is = c.in_ok-push.ensures.items ∙ ap (λ (b : Rect4). c.args.boxes.now.items ++ (b ∷ [])) c.box_of.ensures in
    λ q h. subst (λ (xs : List Rect4). IsHeldBy xs q) (sym is) (added_keeps c.args.boxes.now.items c.args.p q h)

pub returns-clause-holds : goal.returns-clause-holds
returns-clause-holds c =
    let is = c.in_ok-push.ensures.items ∙ ap (λ (b : Rect4). c.args.boxes.now.items ++ (b ∷ [])) c.box_of.ensures in
    subst (λ (xs : List Rect4). IsHeldBy xs c.args.p) (sym is) (added_holds c.args.boxes.now.items c.args.p)
