use Rattle.std.proofs.Common.{◌∙◌, ap, subst, sym, [], ◌∷◌, None}
use Rattle.std.specs.Option.{option_map_or}
use Rattle.dsn_shapes.specs.Lists.{at_of}
use Rattle.dsn_shapes.specs.Numbers.{word_coord, word_coord_refusal}
use Rattle.dsn_shapes.specs.Refusals.{kept, noted, refused}
use Rattle.dsn_shapes.specs.declared.table.TheConstants.{NO_NUMBER}
use Rattle.dsn_shapes.proofs.Within.{IsNearIfRead, word_near}
use Rattle.dsn_placement.proofs.place.coord_word.Goals as goal

pub returns-in-Some-clause-noted : goal.returns-in-Some-clause-noted
returns-in-Some-clause-noted c =
    c.coord_in.ensures.noted
    ∙ ap (λ o. noted c.args.first.now
    (option_map_or (word_coord_refusal c.args.s.nm) o (refused NO_NUMBER (at_of c.args.tree.now) ∷ [])))
    c.in-Some.ensures

pub returns-in-Some-clause-value : goal.returns-in-Some-clause-value
returns-in-Some-clause-value c =
    c.coord_in.ensures.value ∙ ap (λ o. option_map_or (word_coord c.args.s.nm) o None) c.in-Some.ensures

pub returns-in-Some-clause-within : goal.returns-in-Some-clause-within
returns-in-Some-clause-within c =
    subst IsNearIfRead (sym c.coord_in.ensures.value) (word_near c.args.s.nm c.in-Some.word.now)

pub returns-in-None-clause-noted : goal.returns-in-None-clause-noted
returns-in-None-clause-noted c =
    c.note.ensures ∙ ap (kept c.args.first.now) (c.refused.ensures ∙ ap (refused NO_NUMBER) c.at_of.ensures)
    ∙ ap (λ o. noted c.args.first.now
    (option_map_or (word_coord_refusal c.args.s.nm) o (refused NO_NUMBER (at_of c.args.tree.now) ∷ [])))
    c.in-None.ensures

pub returns-in-None-clause-value : goal.returns-in-None-clause-value
returns-in-None-clause-value c = ap (λ o. option_map_or (word_coord c.args.s.nm) o None) c.in-None.ensures
