use Rattle.std.proofs.Common.{◌∙◌, List, length, drop, All, sym, subst}
use Rattle.pcb_model.specs.Sound.{IsItemOf}
use Rattle.move_maps.specs.declared.map.GroupMap.{GroupMap as OneMap}
use Rattle.move_maps.specs.Maps.{IsSized, AreMapsOf}
use Rattle.move_maps.proofs.Following.{merged_left, all_sized, followed, follow_given, take_front}
use Rattle.move_maps.proofs.map.MoveMaps.follow.Goals as goal

pub invariant_of-on : goal.invariant_of-on
invariant_of-on g c = record {
  sound = c.requires.sound;
  fits = c.requires.fits;
  serves = c.requires.serves;
  in_order = c.in_order.ensures.ascends;
}

pub change_all-requires-clause-gone : goal.change_all-requires-clause-gone
change_all-requires-clause-gone g c =
    let h = c.requires.follows in
    subst (All (IsItemOf c.args.d.now)) (sym c.as_slice.ensures)
    (merged_left (IsItemOf c.args.d.now) c.args.gone.now h.change.kept h.old h.change.before h.fit)

pub change_all-requires-clause-come : goal.change_all-requires-clause-come
change_all-requires-clause-come g c =
    let h = c.requires.follows in
    let items = g.C.Copper.items c.args.c.now in
    subst (All (IsItemOf c.args.d.now)) (sym c.as_slice-2.ensures)
    (merged_left (IsItemOf c.args.d.now) c.args.come.now h.change.kept items h.change.after
    (g.met.C.Copper.serving c.args.c.now c.args.d.now c.requires.serves).items_fit)

pub change_all-requires-clause-maps : goal.change_all-requires-clause-maps
change_all-requires-clause-maps g c =
    let h = c.requires.follows in
    let e = c.as_mut_slice-maps.ensures.value ∙ c.self.view_is in
    subst (All (IsSized c.args.d.now c.args.lat.now)) (sym e)
    (all_sized c.args.d.now c.args.lat.now h.old c.args.self.now h.maps_are.each)

pub returns-clause-ok : goal.returns-clause-ok
returns-clause-ok g c =
    let d = c.args.d.now in
    let m = c.args.lat.now in
    let items = g.C.Copper.items c.args.c.now in
    let gone = c.as_slice.result.now in
    let come = c.as_slice-2.result.now in
    let maps = c.as_mut_slice-maps.result.now in
    let e = c.as_mut_slice-maps.ensures.value ∙ c.self.view_is in
    let new = c.change_all.new.maps in
    let whole = take_front new (drop (length new) c.self.inside.maps.items) c.self.inside.maps.len
    (sym (c.change_all.ensures.count ∙ c.as_mut_slice-maps.ensures.len)) in
    subst (λ (l : List OneMap). AreMapsOf d m items l) (sym whole)
    (followed d m gone come items maps new
    (follow_given d m c.args.gone.now c.args.come.now gone come items c.args.self.now maps
    c.as_slice.ensures c.as_slice-2.ensures e c.requires.follows)
    c.change_all.ensures.count c.change_all.ensures.each)
