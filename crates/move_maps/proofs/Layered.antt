-- Where an item has no copper on a layer, the steps there are clear of it.
use Rattle.std.proofs.Common.{◌≡◌, ℕ, ◌+◌, ◌*◌, ◌<◌, ◌==◌, Bool, true, false, [], ◌∷◌, length, Option, Some}
use Rattle.std.proofs.Common.{None, All, sym, ap, ◌∙◌, subst, arith, eq-eqb}
use Rattle.std.specs.Prelude.{slice_index}
use Rattle.std.specs.Option.{option_map}
use Rattle.std.proofs.lemmas.List.Elements.{All-nil, All-cons}
use Rattle.std.proofs.lemmas.List.Folds.{list_any_at}
use Rattle.geo_kernel.specs.declared.point.Point.{Point}
use Rattle.pcb_model.specs.declared.item.Kind.TheVariants as kind
use Rattle.pcb_model.specs.declared.item.Piece.{Piece}
use Rattle.pcb_model.specs.declared.item.Item.{Item}
use Rattle.pcb_model.specs.declared.item.Probe.TheVariants as probe
use Rattle.pcb_model.specs.declared.design.Design.{Design}
use Rattle.pcb_model.specs.Pieces.{wire_piece}
use Rattle.pcb_model.specs.Rules.{clearance_of}
use Rattle.pcb_model.specs.Pairs.{KeepsFrom}
use Rattle.route_lattice.specs.declared.moves.Move.{Move}
use Rattle.route_lattice.specs.declared.moves.Move.TheVariants.{Step, Via}
use Rattle.route_lattice.specs.Mesh.{Mesh, level, layer_of}
use Rattle.route_lattice.specs.Ways.{step_at, has_copper}
use Rattle.route_lattice.specs.Legal.{probe_of}
use Rattle.move_maps.specs.Clear.{IsClearOf}
use Rattle.move_maps.specs.Paint.{IsClearAt, AreFirstClear}
use Rattle.move_maps.proofs.Foreign.{IsNoVia, step_no_via, way_step}
use Rattle.move_maps.proofs.Plains.{level_is}

-- no piece lies on the layer
abbrev IsOff : ℕ → Item → Type 0
IsOff layer b = All (λ (r : Piece). ¬ (r.layer ≡ layer)) b.pieces

-- where the test finds none
off_layer : (layer : ℕ) (b : Item) → has_copper b.pieces layer ≡ false → IsOff layer b
off_layer layer b h = λ j r hj e.
    both (has_copper b.pieces layer) (list_any_at (λ (q : Piece). q.layer == layer) b.pieces j r hj (eq-eqb _ _ e)) h
  where
    both : (t : Bool) → t ≡ true → t ≡ false → ⊥
    both t e h = cc

-- a wire on the layer is clear
wire_off : (d : Design) (g : ℕ) (b : Item) (layer width : ℕ) (p q : Point) → IsOff layer b
    → IsClearOf d g (probe.Step layer width p q) b
wire_off d g b layer width p q off =
    let c = clearance_of d (Some g) kind.Wire b.net b.kind in
    let piece = wire_piece layer width (p ∷ q ∷ []) in record {
      keep = λ m. record {
        each = All-cons (KeepsFrom c b.pieces) piece []
            (record { each = λ j r hj. record { keep = λ e. absurd (off j r hj (sym e)) } })
            (All-nil (KeepsFrom c b.pieces));
      };
      stay_off = λ v k o. absurd (never k);
    }
  where
    never : kind.Wire ≡ kind.Via → ⊥
    never e = cc

-- so is a step
step_off : (d : Design) (m : Mesh) (g : ℕ) (b : Item) (v : ℕ) (o : Option (Move × ℕ)) → IsOff (layer_of m v) b
    → IsNoVia o → IsClearAt d g b (option_map (λ (x : Move × ℕ). probe_of d m g v x.0 x.1) o)
step_off d m g b v None off h = tt
step_off d m g b v (Some (Step dir, to)) off h = wire_off d g b _ _ _ _ off
step_off d m g b v (Some (Via padstack layer, to)) off h = absurd h

-- the steps of the nodes of a signal layer on which the item has no copper
pub steps_clear : (d : Design) (m : Mesh) (g : ℕ) (b : Item) (l layer : ℕ) → layer ≡ slice_index m.layers l
    → has_copper b.pieces layer ≡ false → AreFirstClear d m g b l 4
steps_clear d m g b l layer is h = record {
  within = omega arith;
  each = λ v i hv e hi.
      subst (λ (o : Option (Move × ℕ)). IsClearAt d g b (option_map (λ (x : Move × ℕ). probe_of d m g v x.0 x.1) o))
      (sym (way_step d m g v i hi))
      (step_off d m g b v (step_at m v i)
      (subst (λ n. IsOff n b) (is ∙ ap (slice_index m.layers) (sym e)) (off_layer layer b h)) (step_no_via m v i));
}

-- no move is passed over
pub none_clear : (d : Design) (m : Mesh) (g : ℕ) (b : Item) (l : ℕ) → AreFirstClear d m g b l 0
none_clear d m g b l = record { within = omega arith; each = λ v i hv e hi. absurd (omega (arith, hi)) }

-- the level of a node by its places
pub clear_at : (d : Design) (m : Mesh) (g : ℕ) (b : Item) (l j i first h w : ℕ) → h ≡ length m.ys → w ≡ length m.xs
    → j < length m.ys → i < length m.xs → AreFirstClear d m g b l first
    → AreFirstClear d m g b (level m ((l * h + j) * w + i)) first
clear_at d m g b l j i first h w eh ew hj hi c =
    subst (λ n. AreFirstClear d m g b n first)
    (sym (ap (λ n. level m ((l * n + j) * w + i)) eh
    ∙ (ap (λ n. level m ((l * length m.ys + j) * n + i)) ew ∙ level_is (length m.ys) (length m.xs) l j i hj hi))) c
