-- The layers that a word names: those of that name, or else those of a group of layers.
use Rattle.std.specs.Prelude.{◌+◌, ◌*◌, take, ℕ, Bool, true, not, List, [], ◌∷◌, codes, if◌then◌else◌}
use Rattle.std.specs.List.{list_any}
use Rattle.std.specs.Str.{bytes_eq, str_eq_ignore_ascii_case}
use Rattle.dsn_tree.specs.declared.tree.Tree.{Tree}
use Rattle.dsn_shapes.specs.declared.parts.Layer.{Layer}
use Rattle.dsn_shapes.specs.declared.layers.Group.{Group}
use Rattle.dsn_shapes.specs.declared.layers.Group.TheVariants.{Named, All, Signal, Power}
use Rattle.dsn_shapes.specs.declared.refusal.Refusal.{Refusal}
use Rattle.dsn_shapes.specs.Refusals.{refused}
use Rattle.dsn_shapes.specs.Lists.{name_of, place_of}
use Rattle.dsn_shapes.specs.declared.table.TheConstants.{NO_LAYER}
use Rattle.pcb_model.specs.declared.limits.TheConstants.{MOST_LAYERS}

-- bit i is set where layer i passes the test
abbrev pub mask : (Layer → Bool) → List Layer → ℕ
mask test [] = 0
mask test (l ∷ ls) = (if test l then 1 else 0) + 2 * mask test ls

abbrev pub stands_for : Group → List ℕ → Layer → Bool
stands_for Named word l = bytes_eq l.name word
stands_for All word l = true
stands_for Signal word l = not l.power
stands_for Power word l = l.power

abbrev pub group_of : List ℕ → Group
group_of word =
    if str_eq_ignore_ascii_case word (codes "pcb") then All else
    (if str_eq_ignore_ascii_case word (codes "signal") then Signal else
    (if str_eq_ignore_ascii_case word (codes "power") then Power else
    Named))

-- a word names the layers of its name, or else those of its group
unfoldable pub named_by : List Layer → List ℕ → Group
named_by layers word = if list_any (stands_for Named word) layers then Named else group_of word

-- its layers, of the first ones that there may be
unfoldable pub layers_of : List Layer → List ℕ → ℕ
layers_of layers word = mask (stands_for (named_by layers word) word) (take MOST_LAYERS layers)

unfoldable pub names_some : List Layer → List ℕ → Bool
names_some layers word = list_any (stands_for (named_by layers word) word) layers

-- the layer word of a form
abbrev pub layer_refusal : List Layer → Tree → List Refusal
layer_refusal layers t = if names_some layers (name_of t 1) then [] else refused NO_LAYER (place_of t 1) ∷ []
