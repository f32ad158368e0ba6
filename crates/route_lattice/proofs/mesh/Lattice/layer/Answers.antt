use Rattle.std.proofs.Common.{ℕ, ◌<◌, ◌*◌, ◌/◌, List, length, get_or, sym, subst, ap, ap₂, ◌∙◌}
use Rattle.std.proofs.lemmas.Nat.{div_below}
use Rattle.route_lattice.specs.Mesh.{Mesh}
use Rattle.route_lattice.proofs.Places.{width_positive, level_below}
use Rattle.route_lattice.proofs.mesh.Lattice.layer.Goals as goal

pub nonzero_div-place : goal.nonzero_div-place
nonzero_div-place c =
    let m = c.args.self.now in
    let xs = ap (λ (l : Mesh). l.xs) c.self.view_is in
    subst (λ (n : ℕ). 0 < n) (sym (c.len.ensures ∙ ap length xs))
    (width_positive (length m.xs) (length m.layers * length m.ys) c.args.node c.requires)

pub nonzero_div-place-2 : goal.nonzero_div-place-2
nonzero_div-place-2 c =
    let m = c.args.self.now in
    let ys = ap (λ (l : Mesh). l.ys) c.self.view_is in
    let w = length m.xs in
    let h = length m.layers * length m.ys in
    let wide = width_positive w h c.args.node c.requires in
    subst (λ (n : ℕ). 0 < n) (sym (c.len-2.ensures ∙ ap length ys))
    (width_positive (length m.ys) (length m.layers) (c.args.node / w) (div_below c.args.node w h wide c.requires))

pub bounds-as_slice-place : goal.bounds-as_slice-place
bounds-as_slice-place c =
    let m = c.args.self.now in
    let xs = ap (λ (l : Mesh). l.xs) c.self.view_is in
    let ys = ap (λ (l : Mesh). l.ys) c.self.view_is in
    let layers = ap (λ (l : Mesh). l.layers) c.self.view_is in
    subst (λ (ls : List ℕ). c.args.node / c.len.result / c.len-2.result < length ls)
    (sym (c.as_slice.ensures ∙ layers))
    (subst (λ (n : ℕ). n < length m.layers)
    (ap₂ (λ (w h : ℕ). c.args.node / w / h) (sym (c.len.ensures ∙ ap length xs))
    (sym (c.len-2.ensures ∙ ap length ys)))
    (level_below (length m.xs) (length m.ys) (length m.layers) c.args.node c.requires))

pub returns : goal.returns
returns c =
    let m = c.args.self.now in
    let xs = ap (λ (l : Mesh). l.xs) c.self.view_is in
    let ys = ap (λ (l : Mesh). l.ys) c.self.view_is in
    let layers = ap (λ (l : Mesh). l.layers) c.self.view_is in
    ap₂ (λ (ls : List ℕ) (n : ℕ). get_or ls n 0) (c.as_slice.ensures ∙ layers)
    (ap₂ (λ (w h : ℕ). c.args.node / w / h) (c.len.ensures ∙ ap length xs) (c.len-2.ensures ∙ ap length ys))
