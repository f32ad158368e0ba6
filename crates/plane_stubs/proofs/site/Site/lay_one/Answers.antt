use Rattle.std.proofs.Common.{◌≡◌, ℕ, ◌<◌, ◌+◌, ◌∷◌, ◌++◌, [], List, All, length, sym, ap, ap₂, ◌∙◌, subst}
use Rattle.std.proofs.lemmas.List.{length-append}
use Rattle.pcb_model.specs.declared.item.Item.{Item}
use Rattle.pcb_model.specs.Bounds.{IsItemFit}
use Rattle.pcb_tiles.specs.Spread.{Spread, holding}
use Rattle.path_wire.specs.Lays.{laid_item}
use Rattle.plane_stubs.specs.inner.Holding.{IsHeld}
use Rattle.plane_stubs.specs.inner.Sites.{IsNetMetal, SiteOf}
use Rattle.plane_stubs.proofs.Metals.{held_count, held_more}
use Rattle.plane_stubs.proofs.Standing.{held_below}
use Rattle.plane_stubs.proofs.site.Site.lay_one.Goals as goal

pub item_from-requires-clause-metal : goal.item_from-requires-clause-metal
item_from-requires-clause-metal c =
    subst (λ (s : SiteOf). IsNetMetal s.d c.args.net c.args.metal.now) (sym c.self.view_is) c.requires.metal

pub item_from-requires-2-clause-metal : goal.item_from-requires-2-clause-metal
item_from-requires-2-clause-metal c =
    subst (λ (s : SiteOf). IsNetMetal s.d c.args.net c.args.metal.now) (sym c.self.view_is) c.requires.metal

pub add-requires-clause-above : goal.add-requires-clause-above
add-requires-clause-above c =
    let site = c.self.inside in
    let s : SiteOf = record {
      d = site.d.now;
      lat = site.lat.now;
      via_cost = site.via_cost;
      first = site.first;
      last = site.last;
    } in
    let h = c.args.held.now in
    let k : IsHeld s h = subst (λ (t : SiteOf). IsHeld t h) (sym c.self.view_is) c.requires.held in
    let id_is : length c.as_slice.result.now + length c.as_slice-2.result.now ≡ length (s.d.fixed ++ h.added) =
    ap₂ (λ (a b : ℕ). a + b) (ap (λ (xs : List Item). length xs) c.as_slice.ensures)
    (ap (λ (xs : List Item). length xs) c.as_slice-2.ensures) ∙ sym (length-append s.d.fixed h.added) in
    subst (λ (n : ℕ). All (λ (b : Item). b.id < n) h.tiles.items)
    (sym (ap (λ (a : Item). a.id) c.in_ok-routed.ensures ∙ id_is)) (held_below s c.self.invariant.0.sound h k)

pub add-requires-clause-fits : goal.add-requires-clause-fits
add-requires-clause-fits c =
    let m = subst (λ (s : SiteOf). IsNetMetal s.d c.args.net c.args.metal.now) (sym c.self.view_is) c.requires.metal in
    subst IsItemFit (sym c.in_ok-routed.ensures)
    (m.well_laid (length c.as_slice.result.now + length c.as_slice-2.result.now)).fits.fits

pub returns-clause-held : goal.returns-clause-held
returns-clause-held c =
    let site = c.self.inside in
    let s : SiteOf = record {
      d = site.d.now;
      lat = site.lat.now;
      via_cost = site.via_cost;
      first = site.first;
      last = site.last;
    } in
    let h = c.args.held.now in
    let a = c.args.metal.now in
    let net = c.args.net in
    let id = length c.as_slice.result.now + length c.as_slice-2.result.now in
    let k : IsHeld s h = subst (λ (t : SiteOf). IsHeld t h) (sym c.self.view_is) c.requires.held in
    let m = subst (λ (t : SiteOf). IsNetMetal t.d net a) (sym c.self.view_is) c.requires.metal in
    let id_is : id ≡ length (s.d.fixed ++ h.added) =
    ap₂ (λ (a b : ℕ). a + b) (ap (λ (xs : List Item). length xs) c.as_slice.ensures)
    (ap (λ (xs : List Item). length xs) c.as_slice-2.ensures) ∙ sym (length-append s.d.fixed h.added) in
    subst (λ (t : SiteOf). IsHeld t (record { tiles = c.add.new.tiles; added = c.push.new.self })) c.self.view_is
    (held_more s h k net id a m id_is c.add.new.tiles
    (c.in_ok-add.ensures ∙ ap (λ (b : Item). holding h.tiles (h.tiles.items ++ b ∷ [])) c.in_ok-routed.ensures)
    c.push.new.self (c.in_ok-push.ensures.ok ∙ ap (λ (b : Item). h.added ++ b ∷ []) c.in_ok-fixed.ensures))

pub returns-clause-more : goal.returns-clause-more
returns-clause-more c =
    let site = c.self.inside in
    let s : SiteOf = record {
      d = site.d.now;
      lat = site.lat.now;
      via_cost = site.via_cost;
      first = site.first;
      last = site.last;
    } in
    let h = c.args.held.now in
    let a = c.args.metal.now in
    let net = c.args.net in
    let id = length c.as_slice.result.now + length c.as_slice-2.result.now in
    let k : IsHeld s h = subst (λ (t : SiteOf). IsHeld t h) (sym c.self.view_is) c.requires.held in
    let id_is : id ≡ length (s.d.fixed ++ h.added) =
    ap₂ (λ (a b : ℕ). a + b) (ap (λ (xs : List Item). length xs) c.as_slice.ensures)
    (ap (λ (xs : List Item). length xs) c.as_slice-2.ensures) ∙ sym (length-append s.d.fixed h.added) in
    subst (λ (t : SiteOf).
    c.add.new.tiles.items ≡ h.tiles.items ++ laid_item t.d net (length h.tiles.items) a ∷ []) c.self.view_is
    (ap (λ (t : Spread). t.items) (c.in_ok-add.ensures
    ∙ ap (λ (b : Item). holding h.tiles (h.tiles.items ++ b ∷ [])) c.in_ok-routed.ensures)
    ∙ ap (λ (n : ℕ). h.tiles.items ++ laid_item s.d net n a ∷ []) (id_is ∙ sym (held_count s h k)))
