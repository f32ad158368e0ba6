-- Sets of layers, which are numbers: bit i stands for layer i.
use Rattle.std.specs.Prelude.{◌==◌, ◌/◌, ◌%◌, ◌^◌, ℕ, Bool, List, filter}
use Rattle.std.specs.List.{range_with_len}

abbrev pub has_layer : ℕ → ℕ → Bool
has_layer layers i = layers / 2 ^ i % 2 == 1

-- its layers below n, ascending
unfoldable pub layers_below : ℕ → ℕ → List ℕ
layers_below n layers = filter (has_layer layers) (range_with_len 0 n)
