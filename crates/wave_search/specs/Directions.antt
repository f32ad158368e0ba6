-- What a move costs by the rule of layers' directions.
use Rattle.std.specs.Prelude.{ℕ, ◌+◌, ◌-◌, ◌*◌, ◌/◌, ◌^◌, ◌%◌, ◌==◌, min, Bool, true, false, cond, nat_lt}
use Rattle.route_lattice.specs.declared.moves.Move.{Move}
use Rattle.route_lattice.specs.declared.moves.Move.TheVariants.{Step, Via}
use Rattle.route_lattice.specs.Mesh.{Mesh, level}
use Rattle.wave_search.specs.declared.ties.Heading.{Heading}
use Rattle.wave_search.specs.declared.ties.Heading.TheVariants.{Across, Up, Elsewhere}

-- a step of direction 0 or 1 leads along x, one of 2 or 3 along y, and any other move elsewhere
abbrev pub heading : Move → Heading
heading (Step dir) = cond (nat_lt dir 2) Across (cond (nat_lt dir 4) Up Elsewhere)
heading (Via padstack layer) = Elsewhere

-- a walk turns a corner between a step along one axis and a step along the other
abbrev pub turns : Heading → Heading → Bool
turns Across Up = true
turns Up Across = true
turns Across Across = false
turns Up Up = false
turns Elsewhere b = false
turns a Elsewhere = false

-- the heading is one along x, or one along y
abbrev pub is_across : Heading → Bool
is_across Across = true
is_across Up = false
is_across Elsewhere = false

abbrev pub is_up : Heading → Bool
is_up Up = true
is_up Across = false
is_up Elsewhere = false

-- the layer prefers steps along x where its place among the signal layers is even, and else steps along y
abbrev pub is_against : ℕ → Heading → Bool
is_against place h = cond (place % 2 == 0) (is_up h) (is_across h)

-- the high half of the product of a pattern and a node, of 32 bits
abbrev pub high_half : ℕ → ℕ → ℕ
high_half pattern v = v * pattern % 2 ^ 32 / 65536

-- a number from 0 to 3 that a pattern gives a node; pattern 0 gives each node 0
abbrev pub quarter : ℕ → ℕ → ℕ
quarter pattern v = high_half pattern v * high_half pattern v / 16384 % 4

-- a step against it costs its price, a corner as much as 20 um of such steps, and a move what the pattern gives the
-- node that it leaves, at most 2^64 - 1 together
abbrev pub cost_by : ℕ → Heading → Heading → ℕ → ℕ → ℕ
cost_by place h next price drawn =
    min (cond (is_against place h) price 0 + (cond (turns h next) 20000 0 + drawn)) (2 ^ 64 - 1)

-- the cost of a move from a node by a pattern, before a move of that heading
abbrev pub direction_cost : Mesh → ℕ → ℕ → Move → ℕ → Heading → ℕ
direction_cost m pattern v move price next = cost_by (level m v) (heading move) next price (quarter pattern v)
