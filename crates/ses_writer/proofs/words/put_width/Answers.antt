use Rattle.std.proofs.Common.{List, ℕ, ap, subst, ◌∙◌}
use Rattle.std.proofs.lemmas.Result.{on_ok_weaker}
use Rattle.std.proofs.lemmas.Int.{to_z-of_z}
use Rattle.std.specs.Fmt.{signed_decimal}
use mir.Syntax.{w128}
use Rattle.ses_writer.specs.Words.{Appends, length_word}
use Rattle.ses_writer.proofs.Puts.{then_put}
use Rattle.ses_writer.proofs.words.put_width.Goals as goal

pub returns : goal.returns
unfolding length_word
returns c =
    let text = c.as_bytes.ensures.value ∙ c.format.ensures.text
    ∙ ap signed_decimal (to_z-of_z w128 c.width_in.result (record { sfits = c.width_in.type_inv })
    ∙ c.width_in.ensures) in
    on_ok_weaker c.put-2.result (λ last. then_put c.in_ok-put.ensures
    (subst (λ (l : List ℕ). Appends c.put.new.out.items c.put-2.new.out.items l) text last)) c.put-2.ensures
