-- What the private functions give: for each net, how many cuts it has and what is told of them.
use Rattle.std.specs.Prelude.{◌≡◌, ◌==◌, ℕ, ◌+◌, ◌<◌, List, [], length, filter, flat_map, slice_index}
use Rattle.std.specs.Prelude.{slice_index_or, slice_get, if◌then◌else◌, ◌++◌, Vec}
use Rattle.std.specs.List.{enumerate_from}
use Rattle.std.specs.Option.{option_map_or}
use Rattle.std.specs.Global.{Global}
use Rattle.cut_certificate.specs.declared.cut.Cut.{Cut}
use Rattle.ses_writer.specs.Words.{Appends}
use Rattle.pcb_model.specs.declared.design.Net.{Net}
use Rattle.route_report.specs.Report.{is_at_net, is_of_net, net_line}

-- the number of a net is one more, and no other changes
pub record AddsOne (net : ℕ) (old new : List ℕ) : Type 0 where
  pub count_is : length new ≡ length old
  pub numbers_are : (k : ℕ) → k < length old → slice_index new k ≡ slice_index old k + (if net == k then 1 else 0)

-- for each net, how many of the cuts it has
pub record AreCounts (cuts : List Cut) (nets : ℕ) (counts : List ℕ) : Type 0 where
  pub count_is : length counts ≡ nets
  pub counts_are : (k : ℕ) → k < nets → slice_index counts k ≡ length (filter (is_of_net k) cuts)

-- a piece goes to the text of a net, and no other text changes
pub record AddsPiece (net : ℕ) (piece : List ℕ) (old new : List (Vec ℕ Global)) : Type 0 where
  pub count_is : length new ≡ length old
  pub texts_are : (k : ℕ) (e : Vec ℕ Global) → k < length old
      → Appends (slice_index_or old k e).items (slice_index_or new k e).items (if net == k then piece else [])

-- for each net, the lines of its cuts
pub record TellsCuts (lines : (ℕ × Cut) → List ℕ) (cuts : List Cut) (nets : ℕ) (texts : List (Vec ℕ Global)) : Type 0
  where
    pub count_is : length texts ≡ nets
    pub texts_are : (k : ℕ) (e : Vec ℕ Global) → k < nets
        → (slice_index_or texts k e).items ≡ flat_map lines (filter (is_at_net k) (enumerate_from 0 cuts))

-- the lines of the net with this number, by how many cuts it has and what is told of these
abbrev pub told_lines : List ℕ → List (Vec ℕ Global) → (ℕ × Net) → List ℕ
told_lines counts texts (i, net) = net_line net.name (slice_index counts i)
    ++ option_map_or (λ (t : Vec ℕ Global). t.items) (slice_get texts i) []
