use Rattle.route_words.proofs.words.knobs_found.Goals as goal

pub returns : goal.returns
returns c =
    rw (
      ← c.get_str.ensures,
      ← c.get_str-2.ensures,
      ← c.get_str-3.ensures,
      ← c.get_str-4.ensures,
      ← c.get_str-5.ensures,
      ← c.get_str-6.ensures,
      ← c.is_on.ensures,
    ) c.read_knobs.ensures
