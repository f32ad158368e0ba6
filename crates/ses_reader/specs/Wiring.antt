-- What a session holds, as wiring of the design.
use Rattle.pcb_model.specs.declared.design.FreeWire.{FreeWire}
use Rattle.ses_reader.specs.declared.item.SesItem.{SesItem}

-- an item of a session as a wire or via of the design, with its place
abbrev pub wire_of : SesItem → FreeWire
wire_of x = record { at = x.at; net = x.net; metal = x.metal }
