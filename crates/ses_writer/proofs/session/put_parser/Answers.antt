use Rattle.std.proofs.Common.{◌≡◌, ◌++◌, ℕ, List, Option, None, Some, refl}
use Rattle.std.specs.Prelude.{codes}
use Rattle.ses_writer.specs.Session.{parser_lines, host_line}
use Rattle.ses_writer.specs.inner.Passes.{fronted_line}
use Rattle.ses_writer.proofs.Puts.{then_put, put_last}
use Rattle.ses_writer.proofs.session.put_parser.Goals as goal

-- a host's line with the word in its front
host_is : (word : List ℕ) (host : Option (List ℕ))
    → fronted_line (codes "      (" ++ word ++ codes " ") host ≡ host_line word host
unfolding host_line
host_is word None = refl
host_is word (Some host) = refl

pub returns : goal.returns
unfolding parser_lines
returns c =
    let cad = rw (host_is (codes "host_cad") c.args.d.now.host_cad) at c.in_ok-put_host.ensures in
    let version = rw (host_is (codes "host_version") c.args.d.now.host_version) at c.in_ok-put_host-2.ensures in
    let two = then_put c.in_ok-put.ensures cad in
    let three = then_put two version in
    put_last c.put-2.result _ _ three c.put-2.ensures
