use Rattle.std.proofs.Common.{◌+◌, ◌<◌, ◌∙◌, ap, sym, subst, Vec, Global, ℕ, List, Bool, false, get_or, length}
use Rattle.std.proofs.lemmas.List.{length-replicate, get_or-replicate}
use Rattle.ses_writer.proofs.Printed.{AreMarked, lent_whole, flag_printed, flag_past, vias_told, no_flags}
use Rattle.ses_writer.proofs.library.named_padstacks.Goals as goal
use Rattle.ses_writer.proofs.library.named_padstacks.Goals.{then-prints, else-prints}

pub returns : goal.returns
returns c = vias_told c.args.omit_fixed c.args.items.now c.loop-a.a-index (length c.args.d.now.padstacks)
    c.loop-a.flags.items c.loop-a-test.false c.loop-a.invariant.count_is c.loop-a.invariant.flags_are

pub loop-a-init : goal.loop-a-init
loop-a-init c =
    let made = c.in_ok-flags.ensures.items_if_clones_equal (λ _ h. h) in
    record {
      count_is = ap (λ (fs : List Bool). length fs) made ∙ length-replicate c.len.result false ∙ c.len.ensures;
      flags_are = no_flags c.args.omit_fixed c.args.items.now (length c.args.d.now.padstacks) c.in_ok-flags.flags.items
          (λ k below. ap (λ (fs : List Bool). get_or fs k false) made
          ∙ get_or-replicate c.len.result k false false (subst (λ (n : ℕ). k < n) (sym c.len.ensures) below));
    }

pub loop-a-preserved : goal.loop-a-preserved
loop-a-preserved c =
    let omit = c.args.omit_fixed in let items = c.args.items.now in let i = c.loop-a.a-index in
    let n = length c.args.d.now.padstacks in let a = c.a-item.result in let inv = c.loop-a.invariant in
    elim c.if-prints.branch [
      | then-prints w ↦
          let whole = lent_whole c.loop-a.flags.items w.deref_mut.result.now w.mark_via.new.flags c.loop-a.flags.len
          (sym w.deref_mut.ensures.len) w.mark_via.auto.flags in
          let is = ap (λ (v : Vec Bool Global). v.items) w.flags-is ∙ whole in
          record {
            count_is = ap (λ (fs : List Bool). length fs) is ∙ w.mark_via.auto.flags
                ∙ ap (λ (fs : List Bool). length fs) w.deref_mut.ensures.value ∙ inv.count_is;
            flags_are = subst (λ (fs : List Bool). AreMarked omit items n (i + 1) fs) (sym is)
                (flag_printed omit items i n a c.loop-a-test.true c.a-item.is w.deref_mut.result.now
                w.mark_via.new.flags (sym c.prints.ensures ∙ w.if-prints.true) w.mark_via.ensures
                (ap (λ (fs : List Bool). length fs) w.deref_mut.ensures.value ∙ inv.count_is)
                (subst (λ (fs : List Bool). AreMarked omit items n i fs) (sym w.deref_mut.ensures.value)
                inv.flags_are));
          }
      | else-prints w ↦ record {
        count_is = ap (λ (v : Vec Bool Global). length v.items) w.flags-is ∙ inv.count_is;
        flags_are = subst (λ (v : Vec Bool Global). AreMarked omit items n (i + 1) v.items) (sym w.flags-is)
            (flag_past omit items i n a c.loop-a-test.true c.a-item.is c.loop-a.flags.items
            (sym c.prints.ensures ∙ w.if-prints.false) inv.flags_are);
      }
    ]
