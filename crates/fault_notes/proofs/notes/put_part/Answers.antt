use Rattle.std.proofs.Common.{◌≡◌, List, ℕ, ◌++◌, sym, subst}
use Rattle.std.specs.Prelude.{OnOk, string_bytes}
use Rattle.fault_notes.specs.declared.notes.Part.{Part}
use Rattle.fault_notes.specs.inner.Parts.{part_word}
use Rattle.fault_notes.proofs.Parts.{pushed}
use Rattle.fault_notes.proofs.notes.put_part.Goals as goal

pub returns-in-Number : goal.returns-in-Number
returns-in-Number c =
    let old = string_bytes c.args.out.now in
    let new = string_bytes c.push_str.new.self in
    let put = pushed c.push_str.result old new c.format.result.now c.push_str.ensures.bytes in
    subst (λ (p : Part). OnOk c.push_str.result (new ≡ old ++ part_word p)) (sym c.in-Number.is)
    (subst (λ (t : List ℕ). OnOk c.push_str.result (new ≡ old ++ t)) c.format.ensures.text put)

pub returns-in-Text : goal.returns-in-Text
returns-in-Text c =
    let old = string_bytes c.args.out.now in
    let new = string_bytes c.push_str-in-Text.new.self in
    subst (λ (p : Part). OnOk c.push_str-in-Text.result (new ≡ old ++ part_word p)) (sym c.in-Text.is)
    (pushed c.push_str-in-Text.result old new c.in-Text.text.now c.push_str-in-Text.ensures.bytes)
