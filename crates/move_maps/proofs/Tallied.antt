-- Tallies of the whole table, as items come and go.
use Rattle.std.proofs.Common.{◌≡◌, ℕ, ◌+◌, ◌*◌, ◌<◌, ◌≤◌, List, [], ◌∷◌, ◌++◌, length, take, drop}
use Rattle.std.proofs.Common.{Option, Some, None, refl, sym, ap, ◌∙◌, subst, arith, inl, inr, append_assoc}
use Rattle.std.proofs.Common.{add-one, drop-cons, get_or}
use Rattle.std.specs.Prelude.{slice_index}
use Rattle.std.proofs.lemmas.Nat.{mul-add-lt}
use Rattle.std.proofs.lemmas.List.{take_more}
use Rattle.pcb_model.specs.declared.item.Item.{Item}
use Rattle.pcb_model.specs.declared.item.Probe.{Probe}
use Rattle.pcb_model.specs.declared.design.Design.{Design}
use Rattle.route_lattice.specs.Mesh.{Mesh, node_count}
use Rattle.route_lattice.specs.Ways.{way_count}
use Rattle.route_lattice.specs.Legal.{probe_at}
use Rattle.copper_change.specs.Changes.{IsChange}
use Rattle.move_maps.specs.Maps.{IsTally, place_at}
use Rattle.move_maps.specs.declared.brush.Stroke.TheVariants.{Comes, Goes}
use Rattle.move_maps.specs.Paint.{IsRepainted, Paints, AreTallied}
use Rattle.move_maps.proofs.Changing.{changes}
use Rattle.move_maps.proofs.Merging.{merges, moved_in}

module _ (d : Design) (g : ℕ) (b : Item) (items : List Item) where
  -- a tally after an item has come
  pub come_at : (o : Option Probe) (x y : ℕ) → IsRepainted Comes d g b o x y → IsTally d g items o x
      → IsTally d g (b ∷ items) o y
  come_at None x y (inl (clear, e)) t = e ∙ t
  come_at None x y (inr (inl (bad, e))) t = absurd (bad tt)
  come_at None x y (inr (inr (h, e))) t = e
  come_at (Some p) x y (inl (clear, e)) t =
      subst (λ n. IsTally d g (b ∷ items) (Some p) n) (sym e) (changes.come_clear d g items b p x clear t)
  come_at (Some p) x y (inr (inr (h, e))) t = inl e
  come_at (Some p) x y (inr (inl (bad, e))) t =
      subst (λ n. IsTally d g (b ∷ items) (Some p) n) (sym e) (changes.come_shut d g items b p x bad t)

  -- a tally after an item has gone
  go_at : (o : Option Probe) (x y : ℕ) → IsRepainted Goes d g b o x y → IsTally d g (b ∷ items) o x
      → IsTally d g items o y
  go_at None x y (inl (clear, e)) t = e ∙ t
  go_at None x y (inr (inl (bad, e))) t = absurd (bad tt)
  go_at None x y (inr (inr (h, e))) t = e
  go_at (Some p) x y (inl (clear, e)) t =
      subst (λ n. IsTally d g items (Some p) n) (sym e) (changes.gone_clear d g items b p x clear t)
  go_at (Some p) x y (inr (inr (h, e))) t = inl e
  go_at (Some p) x y (inr (inl (bad, e))) t = subst (λ n. IsTally d g items (Some p) n) (sym e)
      (changes.gone_shut d g items b p x bad t)

-- a place is below the number of places
within : (v n a i : ℕ) → v < n → i < a → v * a + i < n * a
within v n a i h k = let l = mul-add-lt v a i n h k in omega (arith, l)

-- no number is below 0
low : (n : ℕ) → 0 ≤ n
low n = omega arith

module _ (d : Design) (m : Mesh) (g : ℕ) where
  -- an item that is painted in comes first
  pub come_painted : (b : Item) (items : List Item) (xs ys : List ℕ)
      → Paints Comes d m g b 0 (node_count m * way_count d m g) xs ys → AreTallied d m g items xs
      → AreTallied d m g (b ∷ items) ys
  come_painted b items xs ys p t = record {
    size = p.size ∙ t.size;
    each = λ v i hv hi.
        come_at d g b items (probe_at d m g v i) (slice_index xs (place_at d m g v i))
        (slice_index ys (place_at d m g v i))
        (p.painted v i hi (low (place_at d m g v i)) (within v (node_count m) (way_count d m g) i hv hi))
        (t.each v i hv hi);
  }

  -- and one that is taken out was the first
  pub go_painted : (b : Item) (items : List Item) (xs ys : List ℕ)
      → Paints Goes d m g b 0 (node_count m * way_count d m g) xs ys → AreTallied d m g (b ∷ items) xs
      → AreTallied d m g items ys
  go_painted b items xs ys p t = record {
    size = p.size ∙ t.size;
    each = λ v i hv hi.
        go_at d g b items (probe_at d m g v i) (slice_index xs (place_at d m g v i))
        (slice_index ys (place_at d m g v i))
        (p.painted v i hi (low (place_at d m g v i)) (within v (node_count m) (way_count d m g) i hv hi))
        (t.each v i hv hi);
  }

  -- the same counts for a list with the same tallies
  pub weaker : (ps qs : List Item) (xs : List ℕ)
      → ((o : Option Probe) (n : ℕ) → IsTally d g ps o n → IsTally d g qs o n) → AreTallied d m g ps xs
      → AreTallied d m g qs xs
  weaker ps qs xs f t = record {
    size = t.size;
    each = λ v i hv hi. f (probe_at d m g v i) (slice_index xs (place_at d m g v i)) (t.each v i hv hi);
  }

  -- the next item comes behind those that have come
  pub come_next : (come : List Item) (k : ℕ) (item : Item) (kept : List Item) (xs ys : List ℕ) → k < length come
      → item ≡ get_or come k item
      → Paints Comes d m g item 0 (node_count m * way_count d m g) xs ys → AreTallied d m g (take k come ++ kept) xs
      → AreTallied d m g (take (k + 1) come ++ kept) ys
  come_next come k item kept xs ys h e p t =
      let first = come_painted item (take k come ++ kept) xs ys p t in
      let there = weaker (item ∷ (take k come ++ kept)) (take k come ++ item ∷ kept) ys
      (λ o n s. moved_in d g item (take k come) kept o n s) first in
      let eq : (take k come ++ item ∷ []) ++ kept ≡ take k come ++ item ∷ kept =
      append_assoc (take k come) (item ∷ []) kept in
      let last : take (k + 1) come ≡ take k come ++ item ∷ [] = take_more come k item h
      ∙ ap (λ (x : Item). take k come ++ x ∷ []) (sym e) in
      subst (λ (l : List Item). AreTallied d m g (l ++ kept) ys) (sym last)
      (subst (λ (l : List Item). AreTallied d m g l ys) (sym eq) there)

  -- the items from one on begin with it
  next_of : (gone : List Item) (k : ℕ) (item : Item) → k < length gone → item ≡ get_or gone k item
      → drop k gone ≡ item ∷ drop (k + 1) gone
  next_of gone k item h e =
      let eq : drop k gone ≡ get_or gone k item ∷ drop (k + 1) gone = rw (add-one, drop-cons gone k item) refl in
      eq ∙ ap (λ (x : Item). x ∷ drop (k + 1) gone) (sym e)

  -- the next item goes, which was the first of those that are still there
  pub go_next : (gone : List Item) (k : ℕ) (item : Item) (kept : List Item) (xs ys : List ℕ) → k < length gone
      → item ≡ get_or gone k item
      → Paints Goes d m g item 0 (node_count m * way_count d m g) xs ys → AreTallied d m g (drop k gone ++ kept) xs
      → AreTallied d m g (drop (k + 1) gone ++ kept) ys
  go_next gone k item kept xs ys h e p t =
      let eq : drop k gone ≡ item ∷ drop (k + 1) gone = next_of gone k item h e in
      go_painted item (drop (k + 1) gone ++ kept) xs ys p
      (subst (λ (l : List Item). AreTallied d m g (l ++ kept) xs) eq t)

  -- the whole change
  pub changed : (old gone come new : List Item) (xs ys zs : List ℕ) → IsChange old gone come new
      → ((kept : List Item) → AreTallied d m g (gone ++ kept) xs → AreTallied d m g kept ys)
      → ((kept : List Item) → AreTallied d m g kept ys → AreTallied d m g (come ++ kept) zs)
      → AreTallied d m g old xs → AreTallied d m g new zs
  changed old gone come new xs ys zs h out in_ t =
      let a = weaker old (gone ++ h.kept) xs (λ o n s. merges.apart d g gone h.kept old o n h.before s) t in
      weaker (come ++ h.kept) new zs (λ o n s. merges.together d g come h.kept new o n h.after s)
      (in_ h.kept (out h.kept a))
