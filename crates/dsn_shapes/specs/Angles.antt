-- Words that are angles, in degrees counter-clockwise.
use Rattle.std.specs.Prelude.{List, Option}
use Rattle.dsn_tree.specs.declared.tree.Tree.{Tree}
use Rattle.dsn_units.specs.declared.angle.Angle.{Angle}
use Rattle.dsn_units.specs.Reading.{decimal_of}
use Rattle.dsn_units.specs.Length.{angle_of}
use Rattle.dsn_shapes.specs.declared.refusal.Refusal.{Refusal}
use Rattle.dsn_shapes.specs.Lists.{at_of, text_of}
use Rattle.dsn_shapes.specs.Numbers.{number_by, refusal_by}

-- a word as degrees counter-clockwise
abbrev pub word_angle : Tree → Option Angle
word_angle w = number_by angle_of (decimal_of (text_of w))

abbrev pub word_angle_refusal : Tree → List Refusal
word_angle_refusal w = refusal_by angle_of (at_of w) (decimal_of (text_of w))

abbrev pub no_turn : Angle
no_turn = record { microdegrees = 0 }
