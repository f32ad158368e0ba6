-- The report: what a run tells of the design, the lattice, the passes and each net.
use Rattle.std.specs.Prelude.{ℕ, ◌+◌, ◌==◌, Bool, false, true, not, ◌&&◌, if◌then◌else◌, List, [], ◌∷◌, ◌++◌}
use Rattle.std.specs.Prelude.{length, filter, flat_map, codes, decimal, Option, Some, None, slice_get}
use Rattle.std.specs.List.{list_any, enumerate_from}
use Rattle.pcb_model.specs.declared.item.Item.{Item}
use Rattle.pcb_model.specs.declared.item.Kind.{Kind}
use Rattle.pcb_model.specs.declared.item.Kind.TheVariants as kind
use Rattle.pcb_model.specs.declared.design.Net.{Net}
use Rattle.pcb_model.specs.declared.design.Design.{Design}
use Rattle.route_lattice.specs.Mesh.{Mesh, column, row, level}
use Rattle.cut_certificate.specs.declared.cut.Blocker.{Blocker}
use Rattle.cut_certificate.specs.declared.cut.Blocker.TheVariants as blocker
use Rattle.cut_certificate.specs.declared.cut.Block.{Block}
use Rattle.cut_certificate.specs.declared.cut.Cut.{Cut}
use Rattle.ses_writer.specs.Words.{spelled}
use Rattle.told_words.specs.PinNames.{pin_name}
use Rattle.route_run.specs.declared.facts.Facts.{Facts}
use Rattle.route_run.specs.declared.facts.PassLine.{PassLine}

-- ---- the design, the lattice and the passes

-- a word, and the number of what it counts
unfoldable pub counted : List ℕ → ℕ → List ℕ
counted word n = word ++ decimal n

abbrev pub count_line : List ℕ → ℕ → List ℕ
count_line word n = counted word n ++ codes "\n"

unfoldable pub board_line : Design → List ℕ
board_line d = codes "board " ++ spelled d.name ++ codes "\n"

unfoldable pub size_line : Design → List ℕ
size_line d = counted (codes "layers ") (length d.layers) ++ counted (codes " nets ") (length d.nets)
    ++ count_line (codes " pins ") (length d.pins)

unfoldable pub lattice_line : Facts → List ℕ
lattice_line facts = counted (codes "grid ") facts.grid ++ count_line (codes " nodes ") facts.nodes

abbrev pub drop_line : ℕ → List ℕ
drop_line place = count_line (codes "drop ") place

-- the passes count from 1
unfoldable pub pass_line : (ℕ × PassLine) → List ℕ
pass_line (number, pass) = counted (codes "pass ") number ++ counted (codes " commits ") pass.commits
    ++ count_line (codes " open ") pass.parted

abbrev pub pass_lines : List PassLine → List ℕ
pass_lines passes = flat_map pass_line (enumerate_from 1 passes)

unfoldable pub head_lines : Design → Facts → List ℕ
head_lines d facts = board_line d ++ size_line d ++ lattice_line facts
    ++ count_line (codes "dropped ") (length facts.dropped) ++ flat_map drop_line facts.dropped
    ++ count_line (codes "notes ") d.notes

unfoldable pub run_lines : Facts → List ℕ
run_lines facts = pass_lines facts.passes ++ count_line (codes "kept ") facts.kept
    ++ count_line (codes "joins ") facts.joins

-- ---- a cut

-- the name of the pin with this number, as one word
unfoldable pub pin_word : Design → ℕ → List ℕ
pin_word d pin = spelled (pin_name d pin)

-- the first pin of the island, how many nodes legal moves reach, and how many moves lead on from these
unfoldable pub cut_line : Design → Cut → List ℕ
cut_line d cut = codes "cut " ++ pin_word d cut.pin ++ counted (codes " reached ") (length cut.reach.nodes)
    ++ count_line (codes " blocked ") (length cut.blocked)

abbrev pub kind_word : Kind → List ℕ
kind_word kind.Wire = codes "wire"
kind_word kind.Via = codes "via"
kind_word kind.Pin = codes "pin"
kind_word kind.Smd = codes "smd"
kind_word kind.Area = codes "area"

abbrev pub is_item : ℕ → Blocker → Bool
is_item id (blocker.Item other) = other == id
is_item id blocker.Outside = false

abbrev pub is_outside : Blocker → Bool
is_outside (blocker.Item other) = false
is_outside blocker.Outside = true

-- some block names the item of this id; some block names a boundary
abbrev pub is_named : List Block → ℕ → Bool
is_named blocked id = list_any (λ (b : Block). is_item id b.by) blocked

abbrev pub has_outside : List Block → Bool
has_outside blocked = list_any (λ (b : Block). is_outside b.by) blocked

unfoldable pub by_line : Item → List ℕ
by_line a = codes "by " ++ kind_word a.kind ++ count_line (codes " ") a.id

abbrev pub outside_line : List Block → List ℕ
outside_line blocked = if has_outside blocked then codes "by outside\n" else []

-- what blocks: the board's items that some block names, each once and in order of id, and a boundary last
abbrev pub by_lines : List Item → List Block → List ℕ
by_lines items blocked = flat_map by_line (filter (λ (a : Item). is_named blocked a.id) items) ++ outside_line blocked

-- the signal layer, the y line and the first and the last x line of nodes that stand one after another
unfoldable pub stretch_line : Mesh → ℕ → ℕ → List ℕ
stretch_line m first last = counted (codes "run ") (level m first) ++ counted (codes " ") (row m first)
    ++ counted (codes " ") (column m first) ++ count_line (codes " ") (column m last)

-- the node is the next one on the row of the last
abbrev pub goes_on : Mesh → ℕ → ℕ → Bool
goes_on m last node = (node == last + 1) && not (column m node == 0)

-- a stretch has begun and has come to the last node
abbrev pub stretches_from : Mesh → ℕ → ℕ → List ℕ → List ℕ
stretches_from m first last [] = stretch_line m first last
stretches_from m first last (node ∷ nodes) =
    if goes_on m last node then stretches_from m first node nodes
    else stretch_line m first last ++ stretches_from m node node nodes

-- each longest stretch of nodes of one row
abbrev pub stretch_lines : Mesh → List ℕ → List ℕ
stretch_lines m [] = []
stretch_lines m (node ∷ nodes) = stretches_from m node node nodes

-- how many nodes moves reach, those at 45 degrees among them, where that is told
abbrev pub wide_line : Option ℕ → List ℕ
wide_line None = []
wide_line (Some size) = count_line (codes "wide ") size

abbrev pub detail_lines : Mesh → List Item → Bool → Option ℕ → Cut → List ℕ
detail_lines m items short wide cut =
    if short then [] else by_lines items cut.blocked ++ stretch_lines m cut.reach.nodes ++ wide_line wide

unfoldable pub cut_lines : Design → Mesh → List Item → Bool → Option ℕ → Cut → List ℕ
cut_lines d m items short wide cut = cut_line d cut ++ detail_lines m items short wide cut

-- ---- the nets

abbrev pub is_of_net : ℕ → Cut → Bool
is_of_net net cut = cut.net == net

-- the cuts of the net with this number
abbrev pub cuts_of : Facts → ℕ → List Cut
cuts_of facts net = filter (is_of_net net) facts.cuts

-- the same, each with its number among all cuts
abbrev pub is_at_net : ℕ → (ℕ × Cut) → Bool
is_at_net net numbered = is_of_net net numbered.1

abbrev pub numbered_cuts : Facts → ℕ → List (ℕ × Cut)
numbered_cuts facts net = filter (is_at_net net) (enumerate_from 0 facts.cuts)

-- what the run tells of moves at 45 degrees from the cut with this number
abbrev pub wide_at : Option (List ℕ) → ℕ → Option ℕ
wide_at None number = None
wide_at (Some sizes) number = slice_get sizes number

abbrev pub told_cut : Design → Mesh → List Item → Facts → Bool → (ℕ × Cut) → List ℕ
told_cut d m items facts short numbered = cut_lines d m items short (wide_at facts.wide numbered.0) numbered.1

-- a complete net has no cuts, an open one as many as islands
abbrev pub verdict_words : ℕ → List ℕ
verdict_words count = if count == 0 then codes " complete\n" else count_line (codes " open ") count

unfoldable pub net_line : List ℕ → ℕ → List ℕ
net_line name count = codes "net " ++ spelled name ++ verdict_words count

abbrev pub net_lines : Design → Mesh → List Item → Facts → Bool → (ℕ × Net) → List ℕ
net_lines d m items facts short (i, net) =
    net_line net.name (length (cuts_of facts i)) ++ flat_map (told_cut d m items facts short) (numbered_cuts facts i)

abbrev pub is_complete : Facts → (ℕ × Net) → Bool
is_complete facts (i, net) = length (cuts_of facts i) == 0

abbrev pub is_open : Facts → (ℕ × Net) → Bool
is_open facts net = not (is_complete facts net)

-- how many nets are complete, and how many open
unfoldable pub total_line : Design → Facts → List ℕ
total_line d facts =
    let nets = enumerate_from 0 d.nets in
    counted (codes "complete ") (length (filter (is_complete facts) nets))
    ++ count_line (codes " open ") (length (filter (is_open facts) nets))

-- ---- the whole

unfoldable pub report_of : Design → Mesh → List Item → Facts → Bool → List ℕ
report_of d m items facts short = head_lines d facts ++ run_lines facts
    ++ flat_map (net_lines d m items facts short) (enumerate_from 0 d.nets) ++ total_line d facts
