use Rattle.std.proofs.Common.{◌≡◌, ℕ, ℤ, ◌*◌, List, length, sym, ap, ap₂, ◌∙◌}
use Rattle.route_lattice.specs.Mesh.{Mesh, node_count}
use Rattle.route_lattice.specs.Parts.{mesh_of, across_ruler, up_ruler}
use Rattle.route_lattice.proofs.make.lattice_on.Goals as goal

-- lattices of the same parts are one
same_mesh : (g u : ℕ) (xs ys : List ℤ) (ls : List ℕ) (h v : ℕ) (zs ws : List ℤ) (ks : List ℕ) → g ≡ h → u ≡ v → xs ≡ zs
    → ys ≡ ws → ls ≡ ks
    → (let m : Mesh = record { grid = g; unit = u; xs = xs; ys = ys; layers = ls } in m)
    ≡ record { grid = h; unit = v; xs = zs; ys = ws; layers = ks }
same_mesh g u xs ys ls h v zs ws ks a b c d e = cc

-- the nodes are counted by the lines and the layers
counted : (n : ℕ) (m : Mesh) (xs ys : List ℤ) (ls : List ℕ) → n ≡ node_count m → xs ≡ m.xs → ys ≡ m.ys → ls ≡ m.layers
    → n ≡ length ls * length ys * length xs
counted n m xs ys ls e a b c =
    e ∙ sym (ap₂ (λ (i j : ℕ). i * j) (ap₂ (λ (i j : ℕ). i * j) (ap length c) (ap length b)) (ap length a))

pub of_parts-requires-clause-counted : goal.of_parts-requires-clause-counted
of_parts-requires-clause-counted c =
    let p = c.args.p.now in
    let axes = c.requires.axes in
    counted c.args.count (mesh_of p c.args.grid) _ _ _ c.requires.counted
    (c.in_ok-xs.ensures (across_ruler p c.args.grid) p.across axes.across)
    (c.in_ok-ys.ensures (up_ruler p c.args.grid) p.up axes.up) (c.in_ok-layers.ensures ∙ c.as_slice.ensures)

pub returns : goal.returns
returns c =
    let p = c.args.p.now in
    let made = c.of_parts.ensures in
    let axes = c.requires.axes in
    same_mesh _ _ _ _ _ _ _ _ _ _ made.grid made.unit
    (made.xs ∙ c.in_ok-xs.ensures (across_ruler p c.args.grid) p.across axes.across)
    (made.ys ∙ c.in_ok-ys.ensures (up_ruler p c.args.grid) p.up axes.up)
    (made.layers ∙ c.in_ok-layers.ensures ∙ c.as_slice.ensures)
