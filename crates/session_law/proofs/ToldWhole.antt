-- A session tells the routed copper behind fixed items.
use Rattle.std.proofs.Common.{◌≡◌, ℕ, Bool, List, ◌++◌, sym, ◌∙◌}
use Rattle.std.specs.Prelude.{filter, codes}
use Rattle.std.specs.List.{AllZip}
use Rattle.std.proofs.lemmas.List.{append_assoc, append_cancel_left}
use Rattle.pcb_model.specs.declared.item.Item.{Item}
use Rattle.pcb_model.specs.declared.design.Design.{Design}
use Rattle.pcb_model.specs.declared.design.SesScale.{SesScale}
use Rattle.pcb_model.specs.Scale.{scale_of}
use Rattle.pcb_model.specs.Sound.{HasDistinctNames, HasPrintableNames}
use Rattle.ses_writer.specs.Session.{session_of, placement_part, routes_part, parser_lines, resolution_line}
use Rattle.ses_writer.specs.Session.{library_lines, network_lines, is_printed}
use Rattle.session_law.specs.Told.{AreRoutedOf, HaveSameCopper, AreAlike, routed_copper}
use Rattle.session_law.proofs.ToldScales.{some_scale}
use Rattle.session_law.proofs.ToldBlocks.{part_end}
use Rattle.session_law.proofs.ToldParts.{library_tells, network_tells}
use Rattle.session_law.proofs.ToldPrinted.{copper_tells}

-- ---- the session's parts
-- what stands before the library
abbrev before_library : Design → SesScale → List ℕ
before_library d s = placement_part d s
    ++ (codes "  (routes\n" ++ (resolution_line s ++ (parser_lines d ++ codes "    (library_out\n")))

-- what stands behind the network
abbrev last : List ℕ
last = codes "  )\n)\n"

-- from the library on
abbrev from_library : Design → ℕ → List Item → List ℕ
from_library d nm items = library_lines d nm items
    ++ (part_end ++ (codes "    (network_out\n" ++ (network_lines d nm items ++ (part_end ++ last))))

-- a session is what stands before its library, and the rest
session_is : (d : Design) (items : List Item) (omit : Bool) → session_of d items omit
    ≡ before_library d (scale_of d) ++ from_library d (scale_of d).nm (filter (is_printed omit) items)
unfolding session_of routes_part
session_is d items omit = simp append_assoc

-- sessions with the same bytes have the same routed copper
pub sessions_tell : (d : Design) (fixed first second : List Item) (omit : Bool) → HasDistinctNames d
    → HasPrintableNames d → AreRoutedOf d first → AreRoutedOf d second
    → session_of d (fixed ++ first) omit ≡ session_of d (fixed ++ second) omit → HaveSameCopper d first second
sessions_tell d fixed first second omit differ plain f s e =
    let nm = (scale_of d).nm in
    let a = filter (is_printed omit) (fixed ++ first) in
    let b = filter (is_printed omit) (fixed ++ second) in
    let head = codes "    (network_out\n" in
    let tail = part_end ++ last in
    let library = append_cancel_left (before_library d (scale_of d)) (from_library d nm a) (from_library d nm b)
    (sym (session_is d (fixed ++ first) omit) ∙ e ∙ session_is d (fixed ++ second) omit) in
    let network = append_cancel_left head (network_lines d nm a ++ tail) (network_lines d nm b ++ tail)
    (library_tells d nm a b (head ++ (network_lines d nm a ++ tail)) (head ++ (network_lines d nm b ++ tail))
    differ plain library) in
    record {
      each = network_tells d nm a b (λ k. AllZip AreAlike (routed_copper k first) (routed_copper k second))
          (copper_tells d nm (some_scale d) differ plain omit fixed first second f.routed s.routed f.items_fit
          s.items_fit f.on_scale s.on_scale)
          last last differ plain network;
    }
