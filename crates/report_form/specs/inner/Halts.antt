-- What reading a part of a report gives.
use Rattle.std.specs.Prelude.{◌≡◌, ◌<◌, ℕ, Bool, true, not, List, [], ◌∷◌, ◌++◌, length, map, slice_get, Option}
use Rattle.std.specs.Prelude.{false, Some, None}
use Rattle.pcb_model.specs.declared.item.Kind.{Kind}
use Rattle.pcb_model.specs.declared.design.Net.{Net}
use Rattle.report_form.specs.Form.{Told, NetTold, CutTold, PassTold, IsNumber, cuts_in, tells_wide, value}
use Rattle.report_form.specs.Reading.{IsCutKept, AreCutsKept, AreNetsKept, run_kept}
use Rattle.report_form.specs.declared.reading.ReadRun.{ReadRun}
use Rattle.report_form.specs.declared.reading.ReadCut.{ReadCut}
use Rattle.report_form.specs.declared.cuts.Halt.{Halt}
use Rattle.report_form.specs.declared.cuts.Halt.TheVariants.{Stop, Memory}
use Rattle.report_form.specs.declared.cuts.CutLine.{CutLine}
use Rattle.report_form.specs.declared.cuts.CutAt.{CutAt}
use Rattle.report_form.specs.declared.nets.NetLine.{NetLine}
use Rattle.report_form.specs.declared.nets.NetLine.TheVariants.{Complete, Open}
use Rattle.report_form.specs.inner.State.{Page, State, Sized, Gridded, Dropping, Passing, Joining, Netting}
use Rattle.report_form.specs.inner.State.{Parts, Ended}
use Rattle.report_form.specs.inner.State.{At, IsStopped, IsStuck, IsEarly, IsBetween, IsBeforeCut, PassStep}
use Rattle.report_form.specs.inner.State.{MayTell, PartStep}
use Rattle.report_form.specs.inner.State.{firsts_after, opened, gridded}
use Rattle.report_form.specs.inner.Fields.{HasItem, HasOpened, HasWhole, OpenedAt}

-- a line isn't in its place, or memory is wanting
abbrev pub IsHalted : Page → Halt → Type 0
IsHalted p (Stop rest) = IsStopped p rest.now
IsHalted p (Memory e) = Unit {0}

-- the first byte, if there is one
abbrev pub IsHead : ℕ → List ℕ → Type 0
IsHead byte [] = ⊥
IsHead byte (b ∷ bs) = b ≡ byte

-- ---- the head
-- the first three lines, where the rest before the third was this
pub record HeadRead (p : Page) (before grid nodes rest : List ℕ) : Type 0 where
  pub sized : At p Sized before
  pub number : IsNumber grid
  pub nodes_number : IsNumber nodes
  pub at : At p (Gridded (gridded grid nodes)) rest

-- ---- the passes
-- all places are read
pub record PlacesRead (p : Page) (h : Told) (rest : List ℕ) : Type 0 where
  pub places : List (List ℕ)
  pub at : At p (Dropping h places) rest
  pub all : length places ≡ value h.dropped

-- the first ones
pub record PlacesFirst (p : Page) (h : Told) (count : ℕ) (rest : List ℕ) : Type 0 where
  pub places : List (List ℕ)
  pub at : At p (Dropping h places) rest
  pub count_is : count ≡ length places

pub record DroppedRead (p : Page) (rest : List ℕ) : Type 0 where
  pub told : Told
  pub read : PlacesRead p told rest

-- the first passes are read
pub record PassesRead (p : Page) (h : Told) (count : ℕ) (rest : List ℕ) : Type 0 where
  pub passes : List PassTold
  pub at : At p (Passing h passes) rest
  pub count_is : count ≡ length passes

-- and no further one begins the rest
pub record AllPassesRead (p : Page) (h : Told) (count : ℕ) (rest : List ℕ) : Type 0 where
  pub passes : List PassTold
  pub at : At p (Passing h passes) rest
  pub count_is : count ≡ length passes
  pub none : (l : List ℕ) (t : State) (r : List ℕ) → PassStep h passes l t → rest ≡ l ++ r → ⊥

pub record IsPassingAt (p : Page) (rest : List ℕ) : Type 0 where
  pub told : Told
  pub at : At p (Passing told []) rest

pub record IsJoiningAt (p : Page) (rest : List ℕ) : Type 0 where
  pub told : Told
  pub at : At p (Joining told) rest

pub record IsNettingAt (p : Page) (rest : List ℕ) : Type 0 where
  pub told : Told
  pub at : At p (Netting told []) rest

-- ---- cuts
-- the same name and numbers
pub record IsSameCut (c e : CutTold) : Type 0 where
  pub pin : e.pin ≡ c.pin
  pub reached : e.reached ≡ c.reached
  pub blocked : e.blocked ≡ c.blocked

-- some of its lines of items are read
pub record ItemsRead (p : Page) (h : Told) (ns : List NetTold) (islands : List ℕ) (cs : List CutTold) (c : CutTold)
    (rest : List ℕ) : Type 0 where
  pub cut : CutTold
  pub same : IsSameCut c cut
  pub early : IsEarly cut
  pub at : At p (Parts h ns islands cs cut) rest

-- and no further one begins the rest
pub record AllItemsRead (p : Page) (h : Told) (ns : List NetTold) (islands : List ℕ) (cs : List CutTold) (c : CutTold)
    (rest : List ℕ) : Type 0 where
  pub items : ItemsRead p h ns islands cs c rest
  pub none : (item : Kind × List ℕ) (r : List ℕ) → HasItem item r rest → ⊥

-- all lines before those of stretches
pub record BlockersRead (p : Page) (h : Told) (ns : List NetTold) (islands : List ℕ) (cs : List CutTold) (c : CutTold)
    (rest : List ℕ) : Type 0 where
  pub cut : CutTold
  pub same : IsSameCut c cut
  pub no_run : cut.runs ≡ []
  pub no_wide : cut.wide ≡ None
  pub at : At p (Parts h ns islands cs cut) rest
  pub head : IsHead 98 rest → ⊥

-- the lines of items and, if there is one, that of a boundary; no line of an item may come
pub record OutsideRead (p : Page) (h : Told) (ns : List NetTold) (islands : List ℕ) (cs : List CutTold) (c : CutTold)
    (rest : List ℕ) : Type 0 where
  pub cut : CutTold
  pub same : IsSameCut c cut
  pub no_run : cut.runs ≡ []
  pub no_wide : cut.wide ≡ None
  pub at : At p (Parts h ns islands cs cut) rest
  pub stuck : IsHead 98 rest → IsStuck p (Parts h ns islands cs cut) rest

-- some stretches
pub record RunsRead (p : Page) (h : Told) (ns : List NetTold) (islands : List ℕ) (cs : List CutTold) (c : CutTold)
    (runs : List ReadRun) (rest : List ℕ) : Type 0 where
  pub cut : CutTold
  pub same : IsSameCut c cut
  pub no_wide : cut.wide ≡ None
  pub runs_are : runs ≡ map run_kept cut.runs
  pub at : At p (Parts h ns islands cs cut) rest
  pub head : IsHead 98 rest → ⊥

-- and no further one begins the rest
pub record RunsReadTo (p : Page) (h : Told) (ns : List NetTold) (islands : List ℕ) (cs : List CutTold) (c : CutTold)
    (runs : List ReadRun) (rest : List ℕ) : Type 0 where
  pub read : RunsRead p h ns islands cs c runs rest
  pub no_run : IsHead 114 rest → ⊥

-- as it is kept behind its own line
pub record PartsAt (p : Page) (h : Told) (ns : List NetTold) (islands : List ℕ) (cs : List CutTold) (c : CutTold)
    (line : CutLine) (x : CutAt) : Type 0 where
  pub parts : RunsReadTo p h ns islands cs c x.cut.runs x.rest.now
  pub named : x.cut.named ≡ line.named
  pub reached : x.cut.reached ≡ line.reached
  pub blocked : x.cut.blocked ≡ line.blocked

-- all lines of a cut but the last one
pub record MostRead (p : Page) (h : Told) (ns : List NetTold) (islands : List ℕ) (cs : List CutTold) (k : ReadCut)
    (rest : List ℕ) : Type 0 where
  pub cut : CutTold
  pub kept : IsCutKept (slice_get (firsts_after p.firsts ns) (length cs)) cut k
  pub at : At p (Parts h ns islands cs cut) rest
  pub no_wide : cut.wide ≡ None
  pub no_blocker : IsHead 98 rest → ⊥
  pub no_run : IsHead 114 rest → ⊥

-- all lines of a cut, and whether it tells how far moves at 45 degrees reach, which those before tell alike
pub record CutRead (p : Page) (h : Told) (ns : List NetTold) (islands : List ℕ) (cs : List CutTold) (k : ReadCut)
    (wide : Bool) (rest : List ℕ) : Type 0 where
  pub cut : CutTold
  pub kept : IsCutKept (slice_get (firsts_after p.firsts ns) (length cs)) cut k
  pub at : At p (Parts h ns islands cs cut) rest
  pub wide_is : tells_wide cut ≡ wide
  pub may : MayTell wide ns cs
  pub no_part : (l : List ℕ) (t : State) (r : List ℕ) → PartStep h ns islands cs cut l t → rest ≡ l ++ r → ⊥

-- what the cuts so far tell of that: there is none; or all do or all don't
pub record HaveTold (ns : List NetTold) (cs : List CutTold) (wide : Bool) : Type 0 where
  pub some : 0 < length (cuts_in ns ++ cs)
  pub all : MayTell wide ns cs

-- a cut may tell it or not
abbrev pub may_follow : Option Bool → Bool → Bool
may_follow None wide = true
may_follow (Some before) true = before
may_follow (Some before) false = not before

abbrev pub IsSoFar : List NetTold → List CutTold → Option Bool → Type 0
IsSoFar ns cs None = cuts_in ns ++ cs ≡ []
IsSoFar ns cs (Some wide) = HaveTold ns cs wide

-- the first cuts of a net
pub record CutsRead (p : Page) (h : Told) (ns : List NetTold) (islands : List ℕ) (count : ℕ) (ks : List ReadCut)
    (told : Option Bool) (rest : List ℕ) : Type 0 where
  pub cuts : List CutTold
  pub told_is : IsSoFar ns cuts told
  pub count_is : count ≡ length cuts
  pub kept : AreCutsKept (firsts_after p.firsts ns) cuts ks
  pub before : length cuts < value islands → IsBeforeCut p h ns islands cuts rest
  pub full : length cuts ≡ value islands → IsBetween p h (ns ++ opened islands cuts ∷ []) rest

-- all of them
pub record OpenRead (p : Page) (h : Told) (ns : List NetTold) (islands : List ℕ) (ks : List ReadCut)
    (told : Option Bool) (rest : List ℕ) : Type 0 where
  pub cuts : List CutTold
  pub told_is : IsSoFar ns cuts told
  pub full : length cuts ≡ value islands
  pub kept : AreCutsKept (firsts_after p.firsts ns) cuts ks
  pub between : IsBetween p h (ns ++ opened islands cuts ∷ []) rest

-- the net with these cuts is the last one
pub record CutsAdded (p : Page) (h : Told) (ns : List NetTold) (islands : List ℕ) (old new : List (List ReadCut))
    (told : Option Bool) (rest : List ℕ) : Type 0 where
  pub cuts : List ReadCut
  pub is : new ≡ old ++ cuts ∷ []
  pub read : OpenRead p h ns islands cuts told rest

-- the net in this place, and the names of the first pins of its islands
pub record NetHere (p : Page) (count : ℕ) (net : Net) (own : List (List ℕ)) : Type 0 where
  pub net_is : slice_get p.design.nets count ≡ Some net
  pub own_is : slice_get p.firsts count ≡ Some own

-- the line of a net of this name, if one begins the text
pub record HasNoNetLine (name text : List ℕ) : Type 0 where
  pub no_whole : (r : List ℕ) → HasWhole name r text → ⊥
  pub no_opened : (islands r : List ℕ) → HasOpened name islands r text → ⊥

abbrev pub IsNetLine : List ℕ → List ℕ → Option NetLine → Type 0
IsNetLine name text None = HasNoNetLine name text
IsNetLine name text (Some (Complete next)) = HasWhole name next.now text
IsNetLine name text (Some (Open count next)) = OpenedAt name count next.now text

-- ---- nets
-- some nets
pub record NetsRead (p : Page) (h : Told) (count : ℕ) (ks : List (List ReadCut)) (told : Option Bool)
    (rest : List ℕ) : Type 0 where
  pub nets : List NetTold
  pub told_is : IsSoFar nets [] told
  pub count_is : count ≡ length nets
  pub kept : AreNetsKept p.firsts nets ks
  pub between : IsBetween p h nets rest

-- the whole report
pub record WholeRead (p : Page) (ks : List (List ReadCut)) : Type 0 where
  pub told : Told
  pub at : At p (Ended told) []
  pub kept : AreNetsKept p.firsts told.nets ks
