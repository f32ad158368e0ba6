use Rattle.std.proofs.Common.{◌≡◌, ℕ, List, Any, IsTrue, ◌↔◌, subst, slice_get}
use Rattle.pcb_model.specs.declared.design.Net.{Net}
use Rattle.pcb_model.proofs.Lookups.{got, got_none, told_some, told_none}
use Rattle.pcb_model.proofs.legal.is_listed.Goals as goal

pub returns-in-Some : goal.returns-in-Some
returns-in-Some c =
    let look = c.in-Some.ensures.lookup in
    let at = got c.as_slice.result.now c.args.d.now.nets c.args.net c.in-Some.n.now c.as_slice.ensures look.1
    look.3.0 in
    let F : List ℕ → Type 0 = λ vs. IsTrue c.has_via.result ↔ Any (λ v. v ≡ c.args.padstack) vs in
    told_some (λ (n : Net). Any (λ v. v ≡ c.args.padstack) n.vias) (slice_get c.args.d.now.nets c.args.net)
    c.in-Some.n.now c.has_via.result at (subst F c.as_slice-in-Some.ensures c.has_via.ensures)

pub returns-in-None : goal.returns-in-None
returns-in-None c =
    let at = got_none c.as_slice.result.now c.args.d.now.nets c.args.net c.as_slice.ensures
    c.in-None.ensures.lookup.3 in
    told_none (λ (n : Net). Any (λ v. v ≡ c.args.padstack) n.vias) (slice_get c.args.d.now.nets c.args.net) at
