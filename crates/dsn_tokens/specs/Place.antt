-- A place between two tokens of a text.
use Rattle.std.specs.Prelude.{◌+◌, ℕ, List, Bool, false, length}
use Rattle.dsn_tokens.specs.declared.context.Context.{Context}
use Rattle.dsn_tokens.specs.declared.context.Line.TheVariants.{Fresh, Begun}

-- the offset, the bytes from there on, and the context
pub record Place : Type 0 where
  pub at : ℕ
  pub rest : List ℕ
  pub context : Context

-- where a text begins, with `"` as the quoting byte
abbrev pub start : List ℕ → Place
start text = record { at = 0; rest = text; context = record { line = Fresh; opened = false; quote = 34 } }

-- the offset of the text's end
abbrev pub end_of : Place → ℕ
end_of p = p.at + length p.rest

-- the context behind a token, where no quoting byte is due
abbrev pub behind_token : Bool → ℕ → Context
behind_token opened quote = record { line = Begun; opened = opened; quote = quote }
