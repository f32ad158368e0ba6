-- Items in chunks, in order of id throughout. Only private functions speak of them.
use Rattle.std.specs.Prelude.{ℕ, ◌-◌, ◌<◌, ◌≤◌, List, [], Option, Some, None, All, length, slice_get, slice_index_or}
use Rattle.std.specs.Prelude.{take, drop, suc}
use Rattle.std.specs.List.{flat_map}
use Rattle.pcb_model.specs.declared.item.Item.{Item}
use Rattle.pcb_model.specs.Copper.{Ascends}

-- the items of all chunks
abbrev pub flat : List (List Item) → List Item
flat chunks = flat_map (λ (c : List Item). c) chunks

-- a chunk has an item, and at most 128
pub record IsChunk (items : List Item) : Type 0 where
  pub some : 0 < length items
  pub at_most : length items ≤ 128

-- chunks of items in order of id
pub record AreChunks (chunks : List (List Item)) : Type 0 where
  pub ascends : Ascends (flat chunks)
  pub each : All IsChunk chunks

abbrev pub id_of : Option Item → ℕ
id_of None = 0
id_of (Some a) = a.id

-- the id of the last item, or 0 where there is none
abbrev pub last_id : List Item → ℕ
last_id items = id_of (slice_get items (length items - 1))

-- the chunk at a place
abbrev pub chunk_at : List (List Item) → ℕ → List Item
chunk_at chunks k = slice_index_or chunks k []

-- where an id belongs: the first chunk whose last id isn't below it
pub record IsHome (chunks : List (List Item)) (id k : ℕ) : Type 0 where
  pub within : k ≤ length chunks
  pub below : All (λ (c : List Item). last_id c < id) (take k chunks)
  pub at : k < length chunks → id ≤ last_id (chunk_at chunks k)

-- the ids before the chunk at a place are below an id, and those after it above
pub record IsRoom (chunks : List (List Item)) (id k : ℕ) : Type 0 where
  pub low : All (λ (b : Item). b.id < id) (flat (take k chunks))
  pub high : All (λ (b : Item). id < b.id) (flat (drop (suc k) chunks))
