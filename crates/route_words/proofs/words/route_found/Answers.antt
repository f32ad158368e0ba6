use Rattle.std.proofs.Common.{sym}
use Rattle.clap.specs.Matches.{found_of}
use Rattle.route_words.proofs.Meaning.{no_input, no_knobs, no_output, route_named}
use Rattle.route_words.proofs.words.route_found.Goals as goal

pub returns-in_default : goal.returns-in_default
returns-in_default c = λ words holds. no_input words (found_of c.args.found.now) holds (sym c.in_default.ensures)

pub returns-in_default-get_str : goal.returns-in_default-get_str
returns-in_default-get_str c = λ words holds. no_output words (found_of c.args.found.now) holds
    (sym c.in_default-get_str.ensures)

pub returns-in_default-knobs_found : goal.returns-in_default-knobs_found
returns-in_default-knobs_found c = λ words holds. no_knobs words (found_of c.args.found.now) holds
    (sym c.in_default-knobs_found.ensures)

pub returns : goal.returns
returns c = λ words holds.
    let named = route_named words (found_of c.args.found.now) holds c.in-Some.input.now c.in-Some-get_str.output.now
    c.in-Some-knobs_found.knobs (sym c.in-Some.ensures) (sym c.in-Some-get_str.ensures)
    (sym c.in-Some-knobs_found.ensures) in
    rw (named, ← c.get_str-from.ensures, ← c.get_str-3.ensures, ← c.is_on-diagonal.ensures) c.route_with.ensures
