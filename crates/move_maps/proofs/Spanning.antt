-- In a row, the columns beside all windows are out of them.
use Rattle.std.proofs.Common.{◌≡◌, ℕ, ◌+◌, ◌*◌, ◌%◌, ◌<◌, ◌≤◌, List, length, All, take, get_or, sym, ap, ◌∙◌}
use Rattle.std.proofs.Common.{subst, arith, ◌⊎◌, inl, inr}
use Rattle.std.proofs.lemmas.Nat.{mod-mul-add}
use Rattle.std.proofs.lemmas.List.{take_all}
use Rattle.std.proofs.lemmas.List.Elements.{All-nil, All-more}
use Rattle.pcb_model.specs.declared.item.Item.{Item}
use Rattle.pcb_model.specs.declared.design.Design.{Design}
use Rattle.route_lattice.specs.Mesh.{Mesh, column, row}
use Rattle.route_lattice.proofs.Windows.{column_below}
use Rattle.move_maps.specs.declared.window.Window.{Window}
use Rattle.move_maps.specs.Windows.{IsPlaceOut, IsOutOfAll, IsSpanOf}
use Rattle.move_maps.specs.Paint.{CoverTogether}
use Rattle.move_maps.proofs.Lines.{AreSidesClear}

module _ (ws : List Window) (columns row : ℕ) where
  -- no window
  pub span_first : (left : ℕ) → IsSpanOf (take 0 ws) columns row left 0
  span_first left = record { outs = λ c h out. All-nil (λ (w : Window). IsPlaceOut w c row); within = omega arith }

  -- one window more
  pub span_next : (k : ℕ) (z : Window) (left right more_left more_right : ℕ) → k < length ws → more_left ≤ left
      → right ≤ more_right → more_right ≤ columns
      → ((c : ℕ) → c < columns → c < more_left ⊎ more_right ≤ c → IsPlaceOut (get_or ws k z) c row)
      → IsSpanOf (take k ws) columns row left right → IsSpanOf (take (k + 1) ws) columns row more_left more_right
  span_next k z left right more_left more_right h l r n outs s = record {
    outs = λ c hc out. All-more (λ (w : Window). IsPlaceOut w c row) ws k z h
        (s.outs c hc (beside c left right more_left more_right l r out)) (outs c hc out);
    within = n;
  }
    where
      beside : (c a b x y : ℕ) → x ≤ a → b ≤ y → c < x ⊎ y ≤ c → c < a ⊎ b ≤ c
      beside c a b x y l r (inl h) = inl (omega (arith, l, h))
      beside c a b x y l r (inr h) = inr (omega (arith, r, h))

  -- all windows, the ends in order
  pub span_last : (k left right first : ℕ) → length ws ≤ k → first ≤ left → IsSpanOf (take k ws) columns row left right
      → IsSpanOf ws columns row first right
  span_last k left right first h l s = record {
    outs = λ c hc out. subst (All (λ (w : Window). IsPlaceOut w c row)) (take_all k ws h)
        (s.outs c hc (beside c left first right l out));
    within = s.within;
  }
    where
      beside : (c a x b : ℕ) → x ≤ a → c < x ⊎ b ≤ c → c < a ⊎ b ≤ c
      beside c a x b l (inl h) = inl (omega (arith, l, h))
      beside c a x b l (inr h) = inr h

-- a node of a column and a row that are out of all the windows
pub node_out : (m : Mesh) (ws : List Window) (v c r : ℕ) → column m v ≡ c → row m v ≡ r
    → All (λ (w : Window). IsPlaceOut w c r) ws → IsOutOfAll m ws v
node_out m ws v c r ec er out =
    subst (λ (n : ℕ). All (λ (w : Window). IsPlaceOut w n (row m v)) ws) (sym ec)
    (subst (λ (n : ℕ). All (λ (w : Window). IsPlaceOut w c n) ws) (sym er) out)

-- the sides of a line, beside the columns that the windows hold there, are clear
pub line_sides : (d : Design) (m : Mesh) (g : ℕ) (b : Item) (ws us : List Window) (columns level line left right : ℕ)
    → us ≡ ws → columns ≡ length m.xs → line < length m.ys → CoverTogether d m g b ws
    → IsSpanOf us columns line left right → AreSidesClear d m g b (level * length m.ys + line) left right
line_sides d m g b ws us columns level line left right eu ec h cover span = record {
  each = λ v i hv hi e out.
      let is : row m v ≡ line = ap (λ n. n % length m.ys) e ∙ mod-mul-add level (length m.ys) line h in
      let all = span.outs (column m v) (subst (λ n. column m v < n) (sym ec) (column_below m v hv)) out in
      cover.each v i hv hi (subst (λ (us : List Window). IsOutOfAll m us v) eu
      (subst (λ (n : ℕ). All (λ (w : Window). IsPlaceOut w (column m v) n) us) (sym is) all));
}
