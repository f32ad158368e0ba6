-- The library and the network of a session are lists of named blocks.
use Rattle.std.proofs.Common.{◌≡◌, ℕ, ◌<◌, Bool, true, false, not, List, [], ◌∷◌, ◌++◌, length, get_or, ap, sym, ◌∙◌}
use Rattle.std.proofs.Common.{refl, arith}
use Rattle.std.proofs.Common.{eqb-true}
use Rattle.std.specs.Prelude.{flat_map, codes, ◌==◌, if◌then◌else◌}
use Rattle.std.specs.List.{enumerate_from}
use Rattle.std.proofs.lemmas.List.{append_assoc, append_cancel_left, nil_from_length}
use Rattle.pcb_model.specs.declared.item.Item.{Item}
use Rattle.pcb_model.specs.declared.design.Padstack.{Padstack}
use Rattle.pcb_model.specs.declared.design.Net.{Net}
use Rattle.pcb_model.specs.declared.design.Design.{Design}
use Rattle.pcb_model.specs.Sound.{HasDistinctNames, HasPrintableNames}
use Rattle.ses_writer.specs.Words.{spelled}
use Rattle.ses_writer.specs.Session.{has_via_of, shape_line, padstack_lines, library_entry, library_lines}
use Rattle.ses_writer.specs.Session.{copper_lines, net_lines, network_entry, network_lines}
use Rattle.session_law.proofs.ToldLines.{net_end}
use Rattle.session_law.proofs.ToldBlocks.{IsOpening, part_end, opened, block, block_if, blocks, blocks_tell}

-- ---- the library
-- how a padstack begins
abbrev padstack_head : List ℕ
padstack_head = codes "      (padstack "

-- how a padstack is called
abbrev padstack_name : Padstack → List ℕ
padstack_name s = s.name

-- it is not how the library ends
padstack_opens : IsOpening padstack_head
padstack_opens r t e = let k : 41 ≡ 32 = ap (λ (xs : List ℕ). get_or xs 4 0) e in omega (arith, k)

-- what stands behind its name
abbrev shapes : Design → ℕ → ℕ → Padstack → List ℕ
shapes d nm k s = flat_map (shape_line d nm) s.pieces ++ codes "        (attach off)\n      )\n"

-- no item names it
abbrev is_left_out : List Item → ℕ → Bool
is_left_out items k = not (has_via_of k items)

module _ (d : Design) (nm : ℕ) where
  -- its lines are a named block
  padstack_is : (k : ℕ) (s : Padstack) → padstack_lines d nm s
      ≡ opened Padstack padstack_head padstack_name s (shapes d nm k s)
  unfolding padstack_lines
  padstack_is k s = simp append_assoc

  -- an entry is that block, or nothing
  entry_is : (items : List Item) (e : ℕ × Padstack) → library_entry d nm items e
      ≡ block Padstack padstack_head padstack_name (is_left_out items) (shapes d nm) e
  entry_is items (k, s) = by (has_via_of k items)
    where
      by : (b : Bool) → (if b then padstack_lines d nm s else [])
          ≡ block_if Padstack padstack_head padstack_name (not b) s (shapes d nm k s)
      by true = padstack_is k s
      by false = refl

  -- the library is a list of such blocks
  library_is : (items : List Item) → library_lines d nm items
      ≡ blocks Padstack padstack_head padstack_name (is_left_out items) (shapes d nm) 0 d.padstacks
  unfolding library_lines
  library_is items = λ i. flat_map (λ (e : ℕ × Padstack). entry_is items e i) (enumerate_from 0 d.padstacks)

  -- where a text goes on behind its library
  pub library_tells : (first second : List Item) (r t : List ℕ) → HasDistinctNames d → HasPrintableNames d
      → library_lines d nm first ++ (part_end ++ r) ≡ library_lines d nm second ++ (part_end ++ t) → r ≡ t
  library_tells first second r t differ plain e =
      (blocks_tell Padstack padstack_head padstack_name padstack_opens (is_left_out first) (is_left_out second)
      (shapes d nm) (shapes d nm)
      (λ k. Unit {0}) (λ k s u v p q same. (tt, append_cancel_left (shapes d nm k s) u v same))
      (λ k p q. tt) 0 d.padstacks r t
      differ.padstacks plain.padstacks
      (ap (λ (xs : List ℕ). xs ++ (part_end ++ r)) (sym (library_is first)) ∙ e
      ∙ ap (λ (xs : List ℕ). xs ++ (part_end ++ t)) (library_is second))).1

-- ---- the network
-- how a net begins
abbrev net_head : List ℕ
net_head = codes "      (net "

-- how a net is called
abbrev net_name : Net → List ℕ
net_name n = n.name

-- it is not how the network ends
net_opens : IsOpening net_head
net_opens r t e = let k : 41 ≡ 32 = ap (λ (xs : List ℕ). get_or xs 4 0) e in omega (arith, k)

module _ (d : Design) (nm : ℕ) where
  -- what stands behind its name
  abbrev body : List Item → ℕ → Net → List ℕ
  body items k n = copper_lines d nm items k ++ net_end

  -- it has no lines
  abbrev is_empty : List Item → ℕ → Bool
  is_empty items k = length (copper_lines d nm items k) == 0

  -- the block of a net, or nothing
  abbrev net_lines_if : Bool → List ℕ → List ℕ → List ℕ
  net_lines_if out name lines =
      if out then [] else codes "      (net " ++ spelled name ++ codes "\n" ++ lines ++ codes "      )\n"

  -- its lines are a named block
  net_is : (name lines : List ℕ) → net_lines_if false name lines
      ≡ net_head ++ (spelled name ++ (10 ∷ (lines ++ net_end)))
  net_is name lines = simp append_assoc

  -- an entry is that block, or nothing
  net_entry_is : (items : List Item) (e : ℕ × Net) → network_entry d nm items e
      ≡ block Net net_head net_name (is_empty items) (body items) e
  unfolding net_lines
  net_entry_is items (k, n) = by (is_empty items k)
    where
      by : (b : Bool) → net_lines_if b n.name (copper_lines d nm items k)
          ≡ block_if Net net_head net_name b n (body items k n)
      by true = refl
      by false = net_is n.name (copper_lines d nm items k)

  -- the network is a list of such blocks
  network_is : (items : List Item) → network_lines d nm items
      ≡ blocks Net net_head net_name (is_empty items) (body items) 0 d.nets
  unfolding network_lines
  network_is items = λ i. flat_map (λ (e : ℕ × Net). net_entry_is items e i) (enumerate_from 0 d.nets)

  -- a net that is left out has no lines
  none : (items : List Item) (k : ℕ) → is_empty items k ≡ true → copper_lines d nm items k ≡ []
  none items k e = nil_from_length (copper_lines d nm items k) (eqb-true (length (copper_lines d nm items k)) 0 e)

  -- what the lines of each net tell
  pub network_tells : (first second : List Item) (Q : ℕ → Type 0)
      → ((k : ℕ) (u v : List ℕ) → copper_lines d nm first k ++ (net_end ++ u)
      ≡ copper_lines d nm second k ++ (net_end ++ v) → Q k × (u ≡ v))
      → (r t : List ℕ) → HasDistinctNames d → HasPrintableNames d
      → network_lines d nm first ++ (part_end ++ r) ≡ network_lines d nm second ++ (part_end ++ t)
      → (k : ℕ) → k < length d.nets → Q k
  network_tells first second Q tells r t differ plain e k within =
      (blocks_tell Net net_head net_name net_opens (is_empty first) (is_empty second) (body first) (body second) Q
      (λ k n u v p q same. tells k u v (sym (append_assoc (copper_lines d nm first k) net_end u) ∙ same
      ∙ append_assoc (copper_lines d nm second k) net_end v))
      (λ k p q. (tells k [] [] (ap (λ (xs : List ℕ). xs ++ (net_end ++ []))
      (none first k p ∙ sym (none second k q)))).0) 0 d.nets r t
      differ.nets plain.nets
      (ap (λ (xs : List ℕ). xs ++ (part_end ++ r)) (sym (network_is first)) ∙ e
      ∙ ap (λ (xs : List ℕ). xs ++ (part_end ++ t)) (network_is second))).0 k (omega arith) (omega (arith, within))
