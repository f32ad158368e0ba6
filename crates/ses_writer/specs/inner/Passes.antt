-- What one pass over the items of a board gives, padstack by padstack and net by net.
use Rattle.std.specs.Prelude.{◌≡◌, ℕ, ◌<◌, ◌||◌, Bool, false, List, [], length, slice_index_or, if◌then◌else◌, ◌==◌}
use Rattle.std.specs.Prelude.{Vec, ◌++◌, codes, Option, Some, None}
use Rattle.std.specs.Global.{Global}
use Rattle.pcb_model.specs.declared.item.Item.{Item}
use Rattle.pcb_model.specs.declared.item.Metal.{Metal}
use Rattle.pcb_model.specs.declared.design.Design.{Design}
use Rattle.ses_writer.specs.Words.{Appends, spelled}
use Rattle.ses_writer.specs.Session.{is_via_of, has_via_of, copper_lines, metal_line}

-- for each padstack, whether a via of the items names it
pub record TellsVias (items : List Item) (count : ℕ) (flags : List Bool) : Type 0 where
  pub count_is : length flags ≡ count
  pub flags_are : (k : ℕ) → k < count → slice_index_or flags k false ≡ has_via_of k items

-- the flag of the via's padstack is set
pub record Marks (metal : Metal) (old new : List Bool) : Type 0 where
  pub count_is : length new ≡ length old
  pub flags_are : (k : ℕ) → k < length old
      → slice_index_or new k false ≡ (is_via_of k metal || slice_index_or old k false)

-- a metal's line goes to the text of its net, and no other text changes
pub record AddsLine (d : Design) (nm net : ℕ) (metal : Metal) (old new : List (Vec ℕ Global)) : Type 0 where
  pub count_is : length new ≡ length old
  pub texts_are : (k : ℕ) (e : Vec ℕ Global) → k < length old
      → Appends (slice_index_or old k e).items (slice_index_or new k e).items (if net == k then metal_line d nm metal
      else [])

-- for each net, the lines of its items
pub record TellsLines (d : Design) (nm : ℕ) (items : List Item) (count : ℕ) (texts : List (Vec ℕ Global)) : Type 0 where
  pub count_is : length texts ≡ count
  pub texts_are : (k : ℕ) (e : Vec ℕ Global) → k < count → (slice_index_or texts k e).items ≡ copper_lines d nm items k

-- the line of a host, whose word stands in its front
abbrev pub fronted_line : List ℕ → Option (List ℕ) → List ℕ
fronted_line front None = []
fronted_line front (Some host) = front ++ spelled host ++ codes ")\n"
