-- What is tested of the cuts that were kept of a report.
use Rattle.std.specs.Prelude.{◌≡◌, ◌⊎◌, ◌<◌, ◌≤◌, ℕ, List, Option, Some, None, length, map, remove, slice_get}
use Rattle.pcb_model.specs.declared.item.Item.{Item}
use Rattle.pcb_model.specs.declared.design.Design.{Design}
use Rattle.pcb_islands.specs.declared.net.Island.{Island}
use Rattle.route_lattice.specs.Mesh.{Mesh}
use Rattle.cut_check.specs.declared.stretch.Stretch.{Stretch}
use Rattle.report_form.specs.declared.reading.ReadRun.{ReadRun}
use Rattle.report_form.specs.declared.reading.ReadCut.{ReadCut}
use Rattle.report_form.specs.Form.{CutTold, IsNumber}
use Rattle.report_form.specs.Reading.{IsCutKept}
use Rattle.route_check.specs.Judged.{IsCutTrue, first_name, first_of, islands_told}

-- ---- lines
-- the net has as many cuts as islands are told
abbrev pub HasItsCuts : List Island → List ReadCut → Type 0
HasItsCuts own cuts = length cuts ≡ islands_told own

-- the first net that hasn't
pub record IsFirstLine (found : List (List Island)) (nets : List (List ReadCut)) (at : ℕ) : Type 0 where
  pub own : List Island
  pub own_is : slice_get found at ≡ Some own
  pub cuts : List ReadCut
  pub cuts_is : slice_get nets at ≡ Some cuts
  pub not_ : HasItsCuts own cuts → ⊥
  pub before : (net : ℕ) (os : List Island) (ks : List ReadCut) → net < at → slice_get found net ≡ Some os
      → slice_get nets net ≡ Some ks → HasItsCuts os ks

-- each net has
pub record HaveTheirCuts (found : List (List Island)) (nets : List (List ReadCut)) : Type 0 where
  pub each : (net : ℕ) (os : List Island) (ks : List ReadCut) → slice_get found net ≡ Some os
      → slice_get nets net ≡ Some ks → HasItsCuts os ks

-- ---- cuts
abbrev pub stretch_of : ReadRun → Stretch
stretch_of r = record { level = r.level; row = r.row; first = r.first; last = r.last }

-- whatever cut was kept so, it is true
pub record IsKeptTrue (d : Design) (m : Mesh) (items : List Item) (own : List Island) (k : ℕ) (cut : ReadCut) : Type 0
  where
    pub each : (island : Island) (told : CutTold) → slice_get own k ≡ Some island → IsNumber told.reached
        → IsNumber told.blocked → IsCutKept (Some (first_name d island)) told cut
        → IsCutTrue d m items island (remove own k) told

-- or false
pub record IsKeptFalse (d : Design) (m : Mesh) (items : List Item) (own : List Island) (k : ℕ) (cut : ReadCut) : Type 0
  where
    pub each : (island : Island) (told : CutTold) → slice_get own k ≡ Some island
        → IsCutKept (Some (first_name d island)) told cut → IsCutTrue d m items island (remove own k) told → ⊥

-- ---- the least first pin
-- the pin is below the bound; with no bound each is
abbrev pub IsPinBelow : Option ℕ → ℕ → Type 0
IsPinBelow None pin = Unit {0}
IsPinBelow (Some bound) pin = pin < bound

-- a false cut of a net has this first pin
pub record HasFalseAt (d : Design) (m : Mesh) (items : List Item) (own : List Island) (cuts : List ReadCut)
    (pin : ℕ) : Type 0 where
  pub k : ℕ
  pub island : Island
  pub island_is : slice_get own k ≡ Some island
  pub cut : ReadCut
  pub cut_is : slice_get cuts k ≡ Some cut
  pub pin_is : first_of island.pins ≡ pin
  pub false_ : IsKeptFalse d m items own k cut

-- so many cuts of a net were judged: those whose first pins are below the new bound are true; the new bound is the old
-- one, or a first pin of a false one
pub record AreJudged (d : Design) (m : Mesh) (items : List Item) (own : List Island) (cuts : List ReadCut) (count : ℕ)
    (old new : Option ℕ) : Type 0 where
  pub below : (pin : ℕ) → IsPinBelow new pin → IsPinBelow old pin
  pub true_ : (k : ℕ) (island : Island) (cut : ReadCut) → k < count → slice_get own k ≡ Some island
      → slice_get cuts k ≡ Some cut → IsPinBelow new (first_of island.pins) → IsKeptTrue d m items own k cut
  pub reached : (new ≡ old) ⊎ ((pin : ℕ) × (new ≡ Some pin) × HasFalseAt d m items own cuts pin)

-- a false cut of some net has the first pin
pub record HasFalse (d : Design) (m : Mesh) (items : List Item) (found : List (List Island))
    (nets : List (List ReadCut)) (pin : ℕ) : Type 0 where
  pub net : ℕ
  pub own : List Island
  pub own_is : slice_get found net ≡ Some own
  pub cuts : List ReadCut
  pub cuts_is : slice_get nets net ≡ Some cuts
  pub at : HasFalseAt d m items own cuts pin

abbrev pub IsReachedBy : Design → Mesh → List Item → List (List Island) → List (List ReadCut) → Option ℕ → Type 0
IsReachedBy d m items found nets None = Unit {0}
IsReachedBy d m items found nets (Some pin) = HasFalse d m items found nets pin

-- so many nets were judged
pub record AreAllJudged (d : Design) (m : Mesh) (items : List Item) (found : List (List Island))
    (nets : List (List ReadCut)) (count : ℕ) (bound : Option ℕ) : Type 0 where
  pub true_ : (net k : ℕ) (own : List Island) (cuts : List ReadCut) (island : Island) (cut : ReadCut) → net < count
      → slice_get found net ≡ Some own → slice_get nets net ≡ Some cuts → slice_get own k ≡ Some island
      → slice_get cuts k ≡ Some cut → IsPinBelow bound (first_of island.pins) → IsKeptTrue d m items own k cut
  pub reached : IsReachedBy d m items found nets bound
