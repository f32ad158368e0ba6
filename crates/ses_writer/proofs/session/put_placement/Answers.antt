use Rattle.std.proofs.Common.{◌++◌, sym, append_assoc}
use Rattle.std.specs.Prelude.{codes}
use Rattle.ses_writer.specs.Session.{placement_part}
use Rattle.ses_writer.specs.Words.{spelled}
use Rattle.ses_writer.proofs.Puts.{then_put, put_last}
use Rattle.ses_writer.proofs.session.put_placement.Goals as goal

pub returns : goal.returns
unfolding placement_part
returns c =
    let name = spelled c.as_slice-name.result.now in
    let front = codes "(session " ++ name ++ codes "\n  (base_design " in
    let back = codes ")\n  (placement\n" in
    let named = rw (sym (append_assoc front name back))
    at (then_put c.in_ok-put_framed.ensures c.in_ok-put_framed-2.ensures) in
    let head = rw c.as_slice-name.ensures at named in
    let components = rw c.as_slice.ensures at c.in_ok-put_components.ensures in
    let two = then_put head c.in_ok-put_resolution.ensures in
    let three = then_put two components in
    put_last c.put.result _ _ three c.put.ensures
