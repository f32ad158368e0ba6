use Rattle.std.proofs.Common.{◌≡◌, Bool, true, false, Some, sym, ap, ◌∙◌, string_bytes}
use Rattle.std.specs.Cmp.Lexicographic.{slice_cmp}
use Rattle.std.specs.Ordering.{nat_cmp}
use Rattle.std.specs.Option.{option_copied}
use Rattle.std.specs.Str.{bytes_eq}
use Rattle.std.specs.FinMap.{get-empty}
use Rattle.desk_io.proofs.Content.{get_one_more}
use Rattle.desk_io.proofs.calm.content.Goals as goal
use Rattle.desk_io.proofs.calm.content.Goals.{then-eq, else-eq}

pub loop-pair-init : goal.loop-pair-init
loop-pair-init c = sym (get-empty (slice_cmp nat_cmp) c.args.name.now)

pub loop-pair-preserved : goal.loop-pair-preserved
loop-pair-preserved c =
    let item = c.pair-item.is in
    let same = ap (λ t. bytes_eq t c.args.name.now) (sym (c.as_str.ensures.value ∙ ap (λ p. string_bytes p.0) item))
    ∙ sym c.eq.ensures in
    let more = λ (b : Bool) (e : c.eq.result ≡ b). get_one_more c.args.files.now c.loop-pair.pair-index c.args.name.now
    c.pair-item.result b c.loop-pair-test.true (same ∙ e) in
    elim c.if-eq.branch [
      | then-eq w ↦ ap option_copied w.found-is ∙ ap Some (w.deref.ensures.value ∙ ap (λ p. p.1.items) item)
          ∙ sym (more true w.if-eq.true)
      | else-eq w ↦ ap option_copied w.found-is ∙ c.loop-pair.invariant ∙ sym (more false w.if-eq.false)
    ]
