use Rattle.std.proofs.Common.{List, [], ℕ, ◌≡◌, ◌<◌, ◌+◌, ◌++◌, ap, sym, subst, ◌∙◌, flat_map, filter, Bool}
use Rattle.std.proofs.Common.{true, false, if◌then◌else◌, length, get_or, drop, Vec, Global}
use Rattle.std.proofs.lemmas.List.{get_or_default}
use Rattle.std.specs.List.{enumerate_from}
use Rattle.pcb_model.specs.declared.design.Design.{Design}
use Rattle.pcb_model.specs.declared.design.Padstack.{Padstack}
use Rattle.pcb_model.specs.declared.item.Item.{Item}
use Rattle.ses_writer.specs.Session.{library_lines, library_entry, padstack_lines, is_printed, has_via_of}
use Rattle.ses_writer.specs.inner.Passes.{TellsVias}
use Rattle.ses_writer.proofs.Puts.{Leads, with_next, at_end, leads_on, all_put}
use Rattle.ses_writer.proofs.library.put_library.Goals as goal
use Rattle.ses_writer.proofs.library.put_library.Goals.{then-index+in_ok-put_padstack, else-index}

-- a flag that was read says whether a printed via names the padstack
flag_says : (copper : List Item) (n i : ℕ) (flags : List Bool) (b : Bool) → TellsVias copper n flags → n ≡ length flags
    → i < n → b ≡ get_or flags i b → b ≡ has_via_of i copper
flag_says copper n i flags b tells n_is lt read =
    read ∙ get_or_default flags i b false (subst (λ (m : ℕ). i < m) n_is lt) ∙ tells.flags_are i lt

-- a padstack that is named, and one that isn't
entry : (d : Design) (nm : ℕ) (copper : List Item) (i : ℕ) (s : Padstack) (out rest all : List ℕ) (b : Bool)
    → b ≡ has_via_of i copper → Leads out (library_entry d nm copper (i, s) ++ rest) all
    → Leads out ((if b then padstack_lines d nm s else []) ++ rest) all
entry d nm copper i s out rest all b is left =
    subst (λ (t : Bool). Leads out ((if t then padstack_lines d nm s else []) ++ rest) all) (sym is) left

pub loop-i-init : goal.loop-i-init
unfolding library_lines
loop-i-init c =
    record {
      is = ap (λ (ps : List Padstack). c.args.out.now.items
          ++ flat_map (library_entry c.args.d.now c.args.nm (filter (is_printed c.args.omit_fixed) c.args.items.now))
          (enumerate_from 0 ps)) c.as_slice-s-items.ensures;
    }

pub loop-i-preserved : goal.loop-i-preserved
loop-i-preserved c =
    let copper = filter (is_printed c.args.omit_fixed) c.args.items.now in
    let left = with_next (λ (ps : List Padstack). flat_map (library_entry c.args.d.now c.args.nm copper)
    (enumerate_from c.loop-i.i ps)) c.as_slice-s-items.result.now
    c.loop-i.i c.s-item.result c.loop-i-test.true c.s-item.is c.loop-i.invariant in
    let rest = flat_map (library_entry c.args.d.now c.args.nm copper)
    (enumerate_from (c.loop-i.i + 1) (drop (c.loop-i.i + 1) c.as_slice-s-items.result.now)) in
    let all = c.args.out.now.items ++ library_lines c.args.d.now c.args.nm copper in
    let n = length c.args.d.now.padstacks in
    let lt : c.loop-i.i < n =
    subst (λ (ps : List Padstack). c.loop-i.i < length ps) c.as_slice-s-items.ensures c.loop-i-test.true in
    let says = flag_says copper n c.loop-i.i c.in_ok-flags.flags.items c.index.result.now c.in_ok-flags.ensures
    (sym c.in_ok-flags.ensures.count_is) lt c.index.ensures in
    let now = λ (b : Bool) (is : b ≡ has_via_of c.loop-i.i copper).
    entry c.args.d.now c.args.nm copper c.loop-i.i c.s-item.result c.loop-i.out.items rest all b is left in
    elim c.if-index.branch [
      | then-index+in_ok-put_padstack w ↦
          subst (λ (v : Vec ℕ Global). Leads v.items rest all) (sym w.out-is)
          (leads_on (now true (sym w.if-index.true ∙ says)) w.in_ok-put_padstack.ensures)
      | else-index w ↦
          subst (λ (v : Vec ℕ Global). Leads v.items rest all) (sym w.out-is)
          (now false (sym w.if-index.false ∙ says))
    ]

pub returns : goal.returns
unfolding library_lines
returns c =
    let copper = filter (is_printed c.args.omit_fixed) c.args.items.now in
    all_put (at_end (λ (ps : List Padstack). flat_map (library_entry c.args.d.now c.args.nm copper)
    (enumerate_from c.loop-i.i ps)) c.as_slice-s-items.result.now c.loop-i.i c.loop-i-test.false c.loop-i.invariant)
