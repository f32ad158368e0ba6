use Rattle.std.proofs.Common.{arith, ◌≡◌, ◌+◌, Option, Some, refl, sym, subst, ◌∙◌, true, false}
use Rattle.wave_search.specs.declared.rows.Label.{Label}
use Rattle.wave_search.specs.inner.State.{label_at, improves_on, is_done_by}
use Rattle.wave_search.proofs.Steps.{price_room, relabel_keeps, relabelled, better_from, unchanged, done_before}
use Rattle.wave_search.proofs.Steps.{cheap_from, nowhere, shut}
use Rattle.wave_search.proofs.query.Query.relax_one.Goals as goal

pub overflow_add-price : goal.overflow_add-price
overflow_add-price g c =
    let room = price_room (g.M.Moves.graph c.args.self.now.m.now) c.args.self.now.starts.now c.args.self.now.goals.now
    (g.B.Bound.low_of c.args.self.now.b.now) c.args.self.now.sound c.args.self.now.bound _ _ _ _ _ _ c.requires.state
    c.args.node c.args.label c.requires.there c.requires.is_done in
    omega (
      arith,
      room,
      c.args.self.now.sound.small_price c.args.node c.args.i c.price.result c.requires.node
          c.requires.index c.price.ensures,
    )

pub get-old-requires : goal.get-old-requires
get-old-requires g c = omega (
  arith,
  c.requires.state.roots.size,
  c.args.self.now.sound.leads c.args.node c.args.i c.in-Some.field-0-0 c.in-Some.to c.requires.node c.requires.index
      (sym c.at.ensures ∙ c.in-Some.is),
)

pub let_wait-requires-clause-node : goal.let_wait-requires-clause-node
let_wait-requires-clause-node g c = omega (
  arith,
  c.requires.state.roots.size,
  c.args.self.now.sound.leads c.args.node c.args.i c.in-Some.field-0-0 c.in-Some.to c.requires.node c.requires.index
      (sym c.at.ensures ∙ c.in-Some.is),
)

pub let_wait-requires-clause-low : goal.let_wait-requires-clause-low
let_wait-requires-clause-low g c =
    let limit = c.args.self.now.bound.limit c.in-Some.to
    (c.args.self.now.sound.leads c.args.node c.args.i c.in-Some.field-0-0 c.in-Some.to c.requires.node c.requires.index
    (sym c.at.ensures ∙ c.in-Some.is)) in omega (arith, limit)

pub returns-clause-state : goal.returns-clause-state
returns-clause-state g c =
    let l : Label = record { price = c.args.label.price + c.price.result; rank = 0; origin = Some c.args.node } in
    let better : improves_on l.price (label_at c.args.table.now c.in-Some.to) ≡ true =
    subst (λ (o : Option Label). improves_on (c.args.label.price + c.price.result) o ≡ true) c.get-old.ensures
    (sym c.if-not-improves.ensures) in
    relabelled (g.M.Moves.graph c.args.self.now.m.now) c.args.self.now.starts.now c.args.self.now.goals.now
    (g.B.Bound.low_of c.args.self.now.b.now) c.args.self.now.sound c.args.self.now.bound
    c.args.table.now c.args.front.now
    (c.args.label.price + g.B.Bound.low_of c.args.self.now.b.now c.args.node) c.args.label.rank c.args.node c.args.i
    c.args.label c.requires.state c.requires.there c.requires.is_done refl
    c.in-Some.field-0-0 c.in-Some.to c.price.result
    (record {
      listed = c.requires.index;
      leads = sym c.at.ensures
          ∙ c.in-Some.is;
      is_open = c.if-not-is_open.ensures.opens;
      costs = c.price.ensures;
    })
    l refl refl refl (better_from c.args.table.now c.in-Some.to l.price better)
    c.let_wait.new.table c.let_wait.new.front c.in_ok-let_wait.ensures.put c.in_ok-let_wait.ensures.added

pub returns-clause-kept : goal.returns-clause-kept
returns-clause-kept g c =
    let l : Label = record { price = c.args.label.price + c.price.result; rank = 0; origin = Some c.args.node } in
    let better : improves_on l.price (label_at c.args.table.now c.in-Some.to) ≡ true =
    subst (λ (o : Option Label). improves_on (c.args.label.price + c.price.result) o ≡ true) c.get-old.ensures
    (sym c.if-not-improves.ensures) in
    relabel_keeps (g.M.Moves.graph c.args.self.now.m.now) c.args.self.now.starts.now c.args.self.now.goals.now
    (g.B.Bound.low_of c.args.self.now.b.now) c.args.self.now.sound c.args.self.now.bound
    c.args.table.now c.args.front.now
    (c.args.label.price + g.B.Bound.low_of c.args.self.now.b.now c.args.node) c.args.label.rank c.args.node c.args.i
    c.args.label c.requires.state c.requires.there c.requires.is_done refl
    c.in-Some.field-0-0 c.in-Some.to c.price.result
    (record {
      listed = c.requires.index;
      leads = sym c.at.ensures
          ∙ c.in-Some.is;
      is_open = c.if-not-is_open.ensures.opens;
      costs = c.price.ensures;
    })
    l refl refl refl (better_from c.args.table.now c.in-Some.to l.price better)
    c.let_wait.new.table c.in_ok-let_wait.ensures.put

pub returns-then-not-improves-clause-state : goal.returns-then-not-improves-clause-state
returns-then-not-improves-clause-state g c =
    let worse : improves_on (c.args.label.price + c.price.result) (label_at c.args.table.now c.in-Some.to) ≡ false =
    subst (λ (o : Option Label). improves_on (c.args.label.price + c.price.result) o ≡ false) c.get-old.ensures
    (sym c.if-not-improves.ensures) in
    unchanged (g.M.Moves.graph c.args.self.now.m.now) c.args.self.now.starts.now c.args.self.now.goals.now
    (g.B.Bound.low_of c.args.self.now.b.now) c.args.self.now.sound c.args.self.now.bound
    c.args.table.now c.args.front.now
    (c.args.label.price + g.B.Bound.low_of c.args.self.now.b.now c.args.node) c.args.label.rank c.args.node c.args.i
    c.args.label c.requires.state c.requires.there
    c.in-Some.field-0-0 c.in-Some.to c.price.result (sym c.at.ensures ∙ c.in-Some.is) c.price.ensures
    (cheap_from c.args.table.now c.in-Some.to (c.args.label.price + c.price.result) worse)

pub returns-then-is_done-clause-state : goal.returns-then-is_done-clause-state
returns-then-is_done-clause-state g c =
    done_before (g.M.Moves.graph c.args.self.now.m.now) c.args.self.now.starts.now c.args.self.now.goals.now
    (g.B.Bound.low_of c.args.self.now.b.now) c.args.self.now.sound c.args.self.now.bound
    c.args.table.now c.args.front.now
    (c.args.label.price + g.B.Bound.low_of c.args.self.now.b.now c.args.node) c.args.label.rank c.args.node c.args.i
    c.args.label c.requires.state c.requires.there refl
    c.in-Some.field-0-0 c.in-Some.to (sym c.at.ensures ∙ c.in-Some.is)
    (subst (λ (o : Option Label). is_done_by o ≡ true) c.get-old.ensures (sym c.if-is_done.ensures))

pub let_wait-requires-clause-price : goal.let_wait-requires-clause-price
let_wait-requires-clause-price g c =
    let room = price_room (g.M.Moves.graph c.args.self.now.m.now) c.args.self.now.starts.now c.args.self.now.goals.now
    (g.B.Bound.low_of c.args.self.now.b.now) c.args.self.now.sound c.args.self.now.bound _ _ _ _ _ _ c.requires.state
    c.args.node c.args.label c.requires.there c.requires.is_done in
    omega (
      arith,
      room,
      c.args.self.now.sound.small_price c.args.node c.args.i c.price.result c.requires.node
          c.requires.index c.price.ensures,
    )

pub let_wait-requires-clause-origin : goal.let_wait-requires-clause-origin
let_wait-requires-clause-origin g c = omega (arith, c.requires.node, c.args.self.now.sound.nodes)

pub returns-in_default-clause-state : goal.returns-in_default-clause-state
returns-in_default-clause-state g c =
    nowhere (g.M.Moves.graph c.args.self.now.m.now) c.args.self.now.starts.now c.args.self.now.goals.now
    (g.B.Bound.low_of c.args.self.now.b.now) c.args.self.now.sound c.args.self.now.bound
    c.args.table.now c.args.front.now
    (c.args.label.price + g.B.Bound.low_of c.args.self.now.b.now c.args.node) c.args.label.rank c.args.node c.args.i
    c.args.label c.requires.state c.requires.there (sym c.at.ensures ∙ c.in_default.is)

pub returns-then-not-is_open-clause-state : goal.returns-then-not-is_open-clause-state
returns-then-not-is_open-clause-state g c =
    shut (g.M.Moves.graph c.args.self.now.m.now) c.args.self.now.starts.now c.args.self.now.goals.now
    (g.B.Bound.low_of c.args.self.now.b.now) c.args.self.now.sound c.args.self.now.bound
    c.args.table.now c.args.front.now
    (c.args.label.price + g.B.Bound.low_of c.args.self.now.b.now c.args.node) c.args.label.rank c.args.node c.args.i
    c.args.label c.requires.state c.requires.there c.if-not-is_open.ensures.shut
