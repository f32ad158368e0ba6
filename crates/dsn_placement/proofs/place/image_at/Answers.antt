use Rattle.std.proofs.Common.{◌≡◌, subst, sym, Option, Some, None}
use Rattle.std.specs.Prelude.{IfSome}
use Rattle.std.specs.Option.{option_copied}
use Rattle.std.specs.Borrow.{Bor}
use Rattle.pcb_model.proofs.Within.{All-at}
use Rattle.dsn_shapes.specs.declared.parts.Image.{Image}
use Rattle.dsn_shapes.specs.Within.{IsImageWithin}
use Rattle.dsn_placement.proofs.place.image_at.Goals as goal

seen : (r : Option (Bor Image)) (o : Option Image) → option_copied r ≡ o → IfSome o IsImageWithin
    → IfSome r (λ i. IsImageWithin i.now)
seen None o e h = tt
seen (Some x) o e h = subst (λ i. IfSome i IsImageWithin) (sym e) h

pub returns-in-Some-clause-within : goal.returns-in-Some-clause-within
returns-in-Some-clause-within c =
    seen c.get.result _ c.get.ensures.value
    (All-at IsImageWithin c.args.library.now.images c.in-Some.place c.requires.images)
