use Rattle.std.proofs.Common.{◌≡◌, ℕ, List, ◌++◌, Vec, Global, flat_map, refl, ap, subst, sym, ◌∙◌, arith, get_or}
use Rattle.std.proofs.Common.{length}
use Rattle.std.specs.List.{enumerate_from}
use Rattle.std.specs.Option.{option_map_or}
use Rattle.std.specs.Prelude.{Option, []}
use Rattle.std.proofs.lemmas.Option.{slice_get_read}
use Rattle.pcb_model.specs.declared.design.Net.{Net}
use Rattle.ses_writer.specs.Words.{Appends}
use Rattle.ses_writer.proofs.Puts.{Leads, leads_on}
use Rattle.route_report.specs.Report.{net_line}
use Rattle.route_report.specs.inner.Tallies.{told_lines}
use Rattle.route_report.proofs.Tallied.{all_told, next_front}
use Rattle.route_report.proofs.nets.put_told.Goals as goal

pub loop-i-preserved : goal.loop-i-preserved
loop-i-preserved c =
    let counts = c.args.counts.now in
    let texts = c.args.texts.now in
    let nets = c.args.nets.now in
    let lines = told_lines counts texts in
    let i = c.loop-i.i in
    let net = c.index-nets-i.result in
    let text = c.index-texts-i.result in
    let F : List Net → List ℕ = λ ns. flat_map lines (enumerate_from i ns) in
    let there = slice_get_read texts (length nets) i text (sym c.requires.texts) c.loop-i-test.true
    c.index-texts-i.is in
    let told = c.as_slice.ensures.value
    ∙ sym (ap (λ (o : Option (Vec ℕ Global)). option_map_or (λ (t : Vec ℕ Global). t.items) o []) there) in
    let piece : net_line net.name (get_or counts i 0) ++ c.as_slice.result.now ≡ lines (i, net) =
    ap (λ (ls : List ℕ). net_line net.name (get_or counts i 0) ++ ls) told in
    let all = c.args.out.now.items ++ flat_map lines (enumerate_from 0 nets) in
    leads_on (subst (λ r. Leads c.loop-i.out.items r all) (next_front F nets i net c.loop-i-test.true c.index-nets-i.is)
    c.loop-i.invariant)
    (subst (λ x. Appends c.loop-i.out.items c.put_net.new.out.items x) piece c.in_ok-put_net.ensures)

pub returns : goal.returns
returns c =
    let lines = told_lines c.args.counts.now c.args.texts.now in
    record {
      is = all_told (λ (ns : List Net). flat_map lines (enumerate_from c.loop-i.i ns)) c.args.nets.now c.loop-i.i
          (omega (arith, c.loop-i-test.false)) refl c.loop-i.invariant;
    }
