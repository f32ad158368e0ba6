use Rattle.std.proofs.Common.{take, All}
use Rattle.board_offers.specs.Offers.{IsAddable}
use Rattle.board_offers.proofs.metals.has_metals.Given as goal

abbrev pub invariant-loop-m : goal.invariant-loop-m
invariant-loop-m l = All (IsAddable l.d l.net) (take l.m-index l.add)
