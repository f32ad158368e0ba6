-- The names of a design, each kind in the design's order.
use Rattle.std.specs.Prelude.{ℕ, List, map}
use Rattle.pcb_model.specs.declared.design.BoardLayer.{BoardLayer}
use Rattle.pcb_model.specs.declared.design.Padstack.{Padstack}
use Rattle.pcb_model.specs.declared.design.Net.{Net}
use Rattle.pcb_model.specs.declared.design.Design.{Design}

-- those of its layers
abbrev pub layer_names : Design → List (List ℕ)
layer_names d = map (λ (l : BoardLayer). l.name) d.layers

-- those of its padstacks
abbrev pub padstack_names : Design → List (List ℕ)
padstack_names d = map (λ (s : Padstack). s.name) d.padstacks

-- those of its nets
abbrev pub net_names : Design → List (List ℕ)
net_names d = map (λ (n : Net). n.name) d.nets
