use Rattle.std.proofs.Common.{◌<◌, ◌∙◌, ap, subst, ℕ, Vec, Global, length, List, filter, flat_map}
use Rattle.std.specs.List.{enumerate_from}
use Rattle.pcb_model.specs.declared.design.Net.{Net}
use Rattle.ses_writer.specs.Session.{net_lines, is_printed, network_entry, network_lines}
use Rattle.ses_writer.specs.Words.{Appends}
use Rattle.ses_writer.proofs.Puts.{with_next, at_end, leads_on, all_put}
use Rattle.ses_writer.proofs.network.put_network.Goals as goal

pub returns : goal.returns
unfolding network_lines
returns c = let copper = filter (is_printed c.args.omit_fixed) c.args.items.now in
    all_put (at_end (λ (ns : List Net). flat_map (network_entry c.args.d.now c.args.nm copper)
    (enumerate_from c.loop-i.i ns)) c.as_slice-n-items.result.now c.loop-i.i c.loop-i-test.false c.loop-i.invariant)

pub loop-i-preserved : goal.loop-i-preserved
loop-i-preserved c =
    let copper = filter (is_printed c.args.omit_fixed) c.args.items.now in
    let left = with_next (λ (ns : List Net). flat_map (network_entry c.args.d.now c.args.nm copper)
    (enumerate_from c.loop-i.i ns)) c.as_slice-n-items.result.now c.loop-i.i c.n-item.result c.loop-i-test.true
    c.n-item.is c.loop-i.invariant in
    let lt : c.loop-i.i < length c.args.d.now.nets =
    subst (λ (ns : List Net). c.loop-i.i < length ns) c.as_slice-n-items.ensures c.loop-i-test.true in
    let text = c.as_slice.ensures.value ∙ ap (λ (v : Vec ℕ Global). v.items) c.index.ensures
    ∙ c.in_ok-texts.ensures.texts_are c.loop-i.i c.index.result.now lt in
    leads_on left (subst (λ (l : List ℕ). Appends c.loop-i.out.items c.put_net.new.out.items
    (net_lines c.n-item.result.name l)) text c.in_ok-put_net.ensures)
