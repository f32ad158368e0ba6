use Rattle.std.proofs.Common.{◌≡◌, ◌∙◌, ◌++◌, ap, sym}
use Rattle.std.specs.Option.{option_to_list}
use Rattle.std.proofs.lemmas.List.{append-nil}
use Rattle.dsn_network.specs.Nets.{ref_pins, ref_refusals}
use Rattle.dsn_shapes.proofs.Looped.{all_more, noted_more}
use Rattle.dsn_network.proofs.refs.read_refs.Goals as goal
use Rattle.dsn_network.proofs.refs.read_refs.Goals.{in-Some+in_ok-push, in_default}

pub loop-word-preserved : goal.loop-word-preserved
loop-word-preserved c =
    let t = c.word-item.result in
    let lib = c.args.pins.now.lib.now in
    let placing = c.args.pins.now.placing.now in
    let named = c.loop-word.named in
    let pushed : c.match-read_ref.named ≡ named ++ ref_pins lib placing t.now =
    elim c.match-read_ref.branch [
      | in-Some+in_ok-push w ↦
          w.named-is ∙ w.in_ok-push.ensures.ok ∙ ap (λ ps. named ++ ps) w.in-Some.ensures.value
      | in_default w ↦
          w.named-is ∙ sym (append-nil named) ∙ ap (λ o. named ++ option_to_list o) (sym w.in_default.is)
          ∙ ap (λ ps. named ++ ps) c.read_ref.ensures.value
    ] in (
      noted_more (ref_refusals lib placing) c.args.words.now c.loop-word.word-index t c.args.first.now
          c.loop-word.first c.read_ref.new.first c.loop-word-test.true c.word-item.is c.loop-word.invariant.0
          c.read_ref.ensures.noted,
      pushed
          ∙ all_more (ref_pins lib placing) c.args.words.now c.loop-word.word-index t named c.loop-word-test.true
          c.word-item.is c.loop-word.invariant.1,
    )
