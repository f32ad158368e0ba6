use Rattle.std.proofs.Common.{◌∙◌, refl, sym}
use Rattle.clap.specs.Matches.{found_of}
use Rattle.route_words.proofs.Meaning.{gen_named, no_number}
use Rattle.route_words.proofs.words.gen_found.Goals as goal

pub returns-in_default : goal.returns-in_default
returns-in_default c = λ words holds. no_number words (found_of c.args.found.now) holds (sym c.in_default.ensures)

pub returns-in-Some-read_number : goal.returns-in-Some-read_number
returns-in-Some-read_number c = λ words holds.
    gen_named words (found_of c.args.found.now) holds c.in-Some.word.now (sym c.in-Some.ensures)
    ∙ rw (sym c.in-Some-read_number.ensures) refl

pub returns-in-None : goal.returns-in-None
returns-in-None c = λ words holds.
    gen_named words (found_of c.args.found.now) holds c.in-Some.word.now (sym c.in-Some.ensures)
    ∙ rw (sym c.in-None.ensures) refl
