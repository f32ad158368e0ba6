-- The exit code of an outcome.
use Rattle.std.specs.Prelude.{ℕ, ◌==◌, if◌then◌else◌}
use Rattle.picture_call.specs.declared.outcome.Outcome.{Outcome}
use Rattle.picture_call.specs.declared.outcome.Outcome.TheVariants.{Drawn, DesignUnread, SessionUnread, DesignTooLong}
use Rattle.picture_call.specs.declared.outcome.Outcome.TheVariants.{SessionTooLong, DesignMisspelt, DesignRefused}
use Rattle.picture_call.specs.declared.outcome.Outcome.TheVariants.{SessionMisspelt, SessionRefused, Unwritten, Memory}
use Rattle.dsn_shapes.specs.declared.table.TheConstants.{PAST_LIMIT}

-- the codes are those of the program that routes, and one more for a session
abbrev pub code_of : Outcome → ℕ
code_of Drawn = 0
code_of (DesignMisspelt f) = 3
code_of (DesignRefused r) = if r.number == PAST_LIMIT then 6 else 3
code_of DesignUnread = 4
code_of SessionUnread = 4
code_of Unwritten = 5
code_of DesignTooLong = 6
code_of SessionTooLong = 6
code_of Memory = 7
code_of (SessionMisspelt f) = 8
code_of (SessionRefused number at) = 8
