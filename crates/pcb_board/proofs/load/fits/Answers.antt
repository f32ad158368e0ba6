use Rattle.std.proofs.Common.{true≢false, sym, ◌∙◌}
use Rattle.std.proofs.lemmas.List.Elements.{All-contains}
use Rattle.pcb_model.specs.Pairs.{Agrees}
use Rattle.board_offers.proofs.Lists.{all_from}
use Rattle.pcb_board.proofs.Loading.{fits_legal, legal_fits}
use Rattle.pcb_board.proofs.load.fits.Goals as goal

pub returns-then-not-inside_board : goal.returns-then-not-inside_board
returns-then-not-inside_board c = (
  λ t. absurd (true≢false (sym t)),
  λ legal.
      let f = legal_fits c.args.d.now c.args.tiles.now.items c.args.item.now c.requires.routed legal in
      absurd (true≢false (sym (c.inside_board.ensures.1 f.inside) ∙ c.if-not-inside_board.true)),
)

pub returns-then-not-width_ok : goal.returns-then-not-width_ok
returns-then-not-width_ok c = (
  λ t. absurd (true≢false (sym t)),
  λ legal.
      let f = legal_fits c.args.d.now c.args.tiles.now.items c.args.item.now c.requires.routed legal in
      absurd (true≢false (sym (c.width_ok.ensures.1 f.laid) ∙ c.if-not-width_ok.true)),
)

pub returns : goal.returns
returns c = (
  λ t. fits_legal c.args.d.now c.args.tiles.now.items c.args.item.now c.requires.legal c.requires.routed c.requires.made
      (record {
        agrees = λ b there. c.pairs_are_symmetric.ensures.agree c.args.d.now c.args.item.now b
            (All-contains (Agrees c.args.d.now c.args.item.now) c.args.tiles.now.items b
            (c.is_agreed_by.ensures.0 t) there);
        inside = c.inside_board.ensures.0 c.if-not-inside_board.false;
        laid = c.width_ok.ensures.0 c.if-not-width_ok.false;
      }),
  λ legal.
      let f = legal_fits c.args.d.now c.args.tiles.now.items c.args.item.now c.requires.routed legal in
      c.is_agreed_by.ensures.1 (all_from (Agrees c.args.d.now c.args.item.now) c.args.tiles.now.items
      (λ b there. c.pairs_are_symmetric.ensures.agree c.args.d.now b c.args.item.now (f.agrees b there))),
)
