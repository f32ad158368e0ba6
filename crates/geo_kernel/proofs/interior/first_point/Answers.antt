use Rattle.std.proofs.Common.{pos}
use Rattle.geo_kernel.proofs.Firsts.{chain_first, area_first}
use Rattle.geo_kernel.proofs.interior.first_point.Goals as goal

pub returns-in-Chain-clause-first : goal.returns-in-Chain-clause-first
returns-in-Chain-clause-first c =
    chain_first c.args.s.now _ _ (record { x = pos 0; y = pos 0 }) c.in-Chain.is c.as_slice.ensures
    c.requires.well_formed

pub returns-in-Area-clause-first : goal.returns-in-Area-clause-first
returns-in-Area-clause-first c =
    area_first c.args.s.now _ _ c.index-as_slice-0.result _ (record { x = pos 0; y = pos 0 }) c.in-Area.is
    c.as_slice-in-Area.ensures c.index-as_slice-0.is c.as_slice-in-Area-2.ensures c.requires.well_formed
