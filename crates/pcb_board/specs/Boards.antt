-- A board's value, its start list, and what its history makes of it.
use Rattle.std.specs.Prelude.{◌≡◌, ◌≢◌, ℕ, ◌+◌, ◌<◌, ◌≤◌, ◌⊎◌, Bool, true, false, nat_lt, List, [], ◌∷◌, ◌++◌}
use Rattle.std.specs.Prelude.{length, take, count_by, slice_index_or, Some, None}
use Rattle.geo_kernel.specs.declared.unit.Unit.TheVariants.{Um}
use Rattle.pcb_model.specs.declared.item.Item.{Item}
use Rattle.pcb_model.specs.declared.design.FreeWire.{FreeWire}
use Rattle.pcb_model.specs.declared.design.Design.{Design}
use Rattle.pcb_model.specs.Pieces.{item_of}
use Rattle.pcb_model.specs.Board.{IsLegal}
use Rattle.pcb_board.specs.declared.answer.Entry.{Entry}
use Rattle.pcb_board.specs.declared.answer.Entry.TheVariants.{Join, Back}
use Rattle.board_offers.specs.Items.{is_on, new_items, joined_items}
use Rattle.board_offers.specs.declared.offer.TheConstants.{CLOSER}

-- a board as contracts see it: its design and start list, how many entries of workers may stand, its history,
-- and its items in order of id
pub record BoardOf : Type 0 where
  pub design : Design
  pub start : List Item
  pub cap : ℕ
  pub history : List Entry
  pub items : List Item

-- a snapshot: the design, the items, and the number of entries that it has seen
pub record SnapOf : Type 0 where
  pub design : Design
  pub items : List Item
  pub number : ℕ

-- a made-up board, for what has to have one
abbrev pub no_design : Design
no_design = record {
  name = [];
  unit = Um;
  per = 1;
  host_cad = None;
  host_version = None;
  layers = [];
  bounds = [];
  padstacks = [];
  components = [];
  pins = [];
  nets = [];
  classes = [];
  rules = record { width = None; plain = None; typed = [] };
  pairs = [];
  via_at_smd = false;
  fixed = [];
  free = [];
  notes = 0;
}

abbrev pub no_board : BoardOf
no_board = record { design = no_design; start = []; cap = 0; history = []; items = [] }

-- ---- the start list
abbrev pub free_item : Design → List Item → FreeWire → Item
free_item d items w = item_of d (length items) (Some w.net) false w.metal

-- each free item, in order, is kept with the next id where the list with it is legal, and else its place is listed
abbrev pub Loads : Design → List Item → List FreeWire → List ℕ → List Item → Type 0
Loads d items [] dropped start = (dropped ≡ []) × (start ≡ items)
Loads d items (w ∷ ws) dropped start =
    let more = items ++ free_item d items w ∷ [] in
    (IsLegal d more × Loads d more ws dropped start)
    ⊎ (¬ (IsLegal d more) × (others : List ℕ) × (dropped ≡ w.at ∷ others) × Loads d items ws others start)

-- the fixed items and behind them the kept free ones; the places of the others
pub record Starts (d : Design) (dropped : List ℕ) (start : List Item) : Type 0 where
  pub loads : Loads d d.fixed d.free dropped start

-- ---- what entries make
-- after some entries: the items ever given, the items on the board, and those that were on it after each number
-- of entries
pub record Past : Type 0 where
  pub given : List Item
  pub items : List Item
  pub boards : List (List Item)

abbrev pub opening : List Item → Past
opening start = record { given = start; items = start; boards = start ∷ [] }

abbrev pub then_items : Past → List Item → List Item → Past
then_items p new items = record {
  given = p.given ++ new;
  items = items;
  boards = p.boards ++ items ∷ [];
}

-- a join changes the items as its offer says; `Back` gives those after the first `to` entries
abbrev pub next : Design → Past → Entry → Past
next d p (Join o first after) = then_items p (new_items d p.given o) (joined_items d p.given p.items o)
next d p (Back to) = then_items p [] (slice_index_or p.boards to [])

abbrev pub past_from : Design → Past → List Entry → Past
past_from d p [] = p
past_from d p (e ∷ es) = past_from d (next d p e) es

abbrev pub past : Design → List Item → List Entry → Past
past d start history = past_from d (opening start) history

-- the items after the first n entries
abbrev pub replay : Design → List Item → List Entry → ℕ → List Item
replay d start history n = (past d start (take n history)).items

-- every item that the board ever gave an id, in order of id; a removed one stays known
abbrev pub given : BoardOf → List Item
given b = (past b.design b.start b.history).given

abbrev pub replayed : BoardOf → ℕ → List Item
replayed b n = replay b.design b.start b.history n

-- the board after its first n entries
abbrev pub board_at : BoardOf → ℕ → BoardOf
board_at b n = record b { history = take n b.history; items = replayed b n }

-- ---- entries of workers
abbrev pub is_worker : ℕ → Bool
is_worker w = nat_lt w CLOSER

abbrev pub is_of_worker : Entry → Bool
is_of_worker (Join o first after) = is_worker o.worker
is_of_worker (Back to) = false

abbrev pub worker_entries : List Entry → ℕ
worker_entries history = count_by is_of_worker history

-- ---- entries that place or remove an id
-- entry k + 1 places x: it is on the board after the entry and not before
pub record Places (b : BoardOf) (x k : ℕ) : Type 0 where
  pub before : is_on x (replayed b k) ≡ false
  pub after : is_on x (replayed b (k + 1)) ≡ true

-- entry k + 1 removes x
pub record Removes (b : BoardOf) (x k : ℕ) : Type 0 where
  pub before : is_on x (replayed b k) ≡ true
  pub after : is_on x (replayed b (k + 1)) ≡ false

-- entry k + 1 places or removes x
pub record Changes (b : BoardOf) (x k : ℕ) : Type 0 where
  pub change : is_on x (replayed b (k + 1)) ≢ is_on x (replayed b k)

-- n is the number of the last entry with P, or 0 where none has it
pub record IsLast (P : ℕ → Type 0) (entries n : ℕ) : Type 0 where
  pub within : n ≤ entries
  pub holds : (k : ℕ) → n ≡ k + 1 → P k
  pub none_later : (k : ℕ) → n ≤ k → k < entries → ¬ (P k)

-- the last entry that removed x where it is missing, or placed it where it is there
pub record IsCommitOf (b : BoardOf) (x n : ℕ) : Type 0 where
  pub removed : is_on x b.items ≡ false → IsLast (Removes b x) (length b.history) n
  pub placed : is_on x b.items ≡ true → IsLast (Places b x) (length b.history) n
