use Rattle.std.proofs.Common.{inl, inr, refl}
use Rattle.move_maps.proofs.window.is_place_out.Goals as goal

pub returns-then-column-window : goal.returns-then-column-window
returns-then-column-window c = (λ t. inl (inl c.if-column-window.true), λ h. refl)

pub returns-then-column-window-2 : goal.returns-then-column-window-2
returns-then-column-window-2 c = (λ t. inl (inr c.if-column-window-2.true), λ h. refl)

pub returns-then-row-window : goal.returns-then-row-window
returns-then-row-window c = (λ t. inr (inl c.if-row-window.true), λ h. refl)
