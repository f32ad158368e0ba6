use Rattle.std.proofs.Common.{sym}
use Rattle.clap.specs.Matches.{found_of}
use Rattle.route_words.proofs.Meaning.{check_named, no_design, no_report, no_session}
use Rattle.route_words.proofs.words.check_found.Goals as goal

pub returns-in_default : goal.returns-in_default
returns-in_default c = λ words holds. no_design words (found_of c.args.found.now) holds (sym c.in_default.ensures)

pub returns-in_default-get_str : goal.returns-in_default-get_str
returns-in_default-get_str c = λ words holds. no_session words (found_of c.args.found.now) holds
    (sym c.in_default-get_str.ensures)

pub returns-in_default-get_str-2 : goal.returns-in_default-get_str-2
returns-in_default-get_str-2 c = λ words holds. no_report words (found_of c.args.found.now) holds
    (sym c.in_default-get_str-2.ensures)

pub returns : goal.returns
returns c = λ words holds.
    let named = check_named words (found_of c.args.found.now) holds c.in-Some.input.now c.in-Some-get_str.session.now
    c.in-Some-get_str-2.report.now (sym c.in-Some.ensures) (sym c.in-Some-get_str.ensures)
    (sym c.in-Some-get_str-2.ensures) in
    rw named c.check_with.ensures
