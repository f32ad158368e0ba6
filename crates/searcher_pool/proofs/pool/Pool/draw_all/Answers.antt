use Rattle.std.proofs.Common.{◌≡◌, ◌<◌, ◌∙◌, ap, sym, subst, refl, arith, All, ℕ, List, [], ◌∷◌, ◌++◌, Some}
use Rattle.std.proofs.Common.{get_or, length}
use Rattle.std.specs.Prelude.{AllPairs, Vec, slice_get}
use Rattle.std.proofs.lemmas.List.Quantifiers.{all_pairs_push}
use Rattle.std.specs.declared.alloc.Global.{Global}
use Rattle.std.proofs.lemmas.Option.{slice_get-get_or}
use Rattle.geo_kernel.proofs.Paths.{Any-append_second, Any-here}
use Rattle.board_turn.specs.declared.claims.Hand.{Hand}
use Rattle.board_turn.specs.Claims.{Claim, CounterOf, drew, saw}
use Rattle.searcher_pool.specs.declared.worker.Worker.{Worker}
use Rattle.searcher_pool.specs.Passes.{PassOf}
use Rattle.searcher_pool.specs.inner.Working.{EndsDrawn, HasMapped, IsDrawn, IsReady, IsSeated, Knows}
use Rattle.board_turn.specs.Turns.{TurnOf, PassOf as PassOfTurn}
use Rattle.searcher_pool.specs.inner.Pools.{PoolOf}
use Rattle.searcher_pool.proofs.Ending.{drawn_later, drawn_more, knows_drawn}
use Rattle.searcher_pool.proofs.pool.Pool.draw_all.Goals as goal

-- a worker whose drawn places stand in other memory is ready still
ready_moved : (p : PassOf) (t : TurnOf) (v w : Worker) → w.number ≡ v.number → w.search ≡ v.search → w.pass ≡ v.pass
    → w.notes.items ≡ v.notes.items → w.drawn.items ≡ v.drawn.items → w.mapped ≡ v.mapped → IsReady p t v
    → IsReady p t w
ready_moved p t v w number search pass notes drawn mapped ready = record {
  number_is = number ∙ ready.number_is ∙ sym (ap (λ (x : _). x.name) pass);
  size = search ∙ ready.size;
  knows = subst (λ (x : _). Knows p t x w.drawn.items w.notes.items) (sym pass)
      (subst (λ (xs : List ℕ). Knows p t v.pass xs w.notes.items) (sym drawn)
      (subst (Knows p t v.pass v.drawn.items) (sym notes) ready.knows));
  mapped = subst (λ (x : PassOfTurn). HasMapped p t x.seen w.mapped) (sym pass)
      (subst (HasMapped p t v.pass.seen) (sym mapped) ready.mapped);
}

-- so it is with its seat
seated_moved : (c : CounterOf) (v w : Worker) → w.seat ≡ v.seat → w.drawn.items ≡ v.drawn.items → IsSeated c v
    → IsSeated c w
seated_moved c v w seat drawn before = record {
  table = ap (λ (x : Claim). x.table) seat ∙ before.table;
  shares = ap (λ (x : Claim). x.hand.shares) seat ∙ before.shares;
  drawn = ap (λ (x : Claim). x.hand.drawn) seat ∙ before.drawn ∙ sym drawn;
  ascends = subst (AllPairs (λ (x y : ℕ). x < y)) (sym drawn) before.ascends;
}

-- a seat that saw that no place is left
seated_saw : (c : CounterOf) (v w : Worker) → IsSeated c v → w.seat.table ≡ v.seat.table
    → w.seat.hand ≡ saw v.seat.hand w.seat.hand.floor → w.drawn.items ≡ v.drawn.items → IsSeated c w
seated_saw c v w before table hand drawn = record {
  table = table ∙ before.table;
  shares = ap (λ (h : Hand). h.shares) hand ∙ before.shares;
  drawn = ap (λ (h : Hand). h.drawn) hand ∙ before.drawn ∙ sym drawn;
  ascends = subst (AllPairs (λ (x y : ℕ). x < y)) (sym drawn) before.ascends;
}

-- a seat that drew one place more, which was noted
seated_more : (c : CounterOf) (v w : Worker) (s : Claim) (n : ℕ) → IsSeated c v → s.table ≡ v.seat.table
    → All (λ x. x < n) v.seat.hand.drawn → s.hand ≡ drew (saw v.seat.hand s.hand.floor) n → w.seat ≡ s
    → w.drawn.items ≡ v.drawn.items ++ n ∷ [] → IsSeated c w
seated_more c v w s n before table above hand seat drawn = record {
  table = ap (λ (x : Claim). x.table) seat ∙ table ∙ before.table;
  shares = ap (λ (x : Claim). x.hand.shares) seat ∙ ap (λ (h : Hand). h.shares) hand ∙ before.shares;
  drawn = ap (λ (x : Claim). x.hand.drawn) seat ∙ ap (λ (h : Hand). h.drawn) hand
      ∙ ap (λ (xs : List ℕ). xs ++ n ∷ []) before.drawn ∙ sym drawn;
  ascends = subst (AllPairs (λ (x y : ℕ). x < y)) (sym drawn)
      (all_pairs_push (λ (x y : ℕ). x < y) v.drawn.items n before.ascends
      (subst (All (λ x. x < n)) before.drawn above));
}

-- the net of the last place is drawn
drawn_last : (p : PassOf) (drawn after : List ℕ) (place net : ℕ) → after ≡ drawn ++ place ∷ []
    → slice_get p.tasks place ≡ Some net → IsDrawn p after net
drawn_last p drawn after place net is there =
    subst (λ (xs : List ℕ). IsDrawn p xs net) (sym is)
    (Any-append_second (λ place. slice_get p.tasks place ≡ Some net) drawn (place ∷ [])
    (Any-here (λ place. slice_get p.tasks place ≡ Some net) place [] there))

-- the net that stands at a place of the list of tasks
task_at : (xs tasks : List ℕ) (place : ℕ) → xs ≡ tasks → place < length xs
    → slice_get tasks place ≡ Some (get_or xs place 0)
task_at xs tasks place same within =
    subst (λ (ys : List ℕ). slice_get ys place ≡ Some (get_or xs place 0)) same (slice_get-get_or xs place 0 within)

pub loop-init : goal.loop-init
loop-init g c = record { may_work = c.requires; name = refl }

pub returns-in_err-reserve-clause-ready : goal.returns-in_err-reserve-clause-ready
returns-in_err-reserve-clause-ready g c =
    ready_moved c.args.self.now.pass c.args.self.now.turn c.loop.worker _ refl refl refl refl c.reserve.ensures.items
    refl c.loop.invariant.may_work.ready

pub returns-in_err-reserve-clause-seated : goal.returns-in_err-reserve-clause-seated
returns-in_err-reserve-clause-seated g c =
    seated_moved c.args.self.now.counter c.loop.worker _ refl c.reserve.ensures.items c.loop.invariant.may_work.seated

pub returns-in_err-reserve-clause-name : goal.returns-in_err-reserve-clause-name
returns-in_err-reserve-clause-name g c = c.loop.invariant.name

pub claim-requires-clause-table : goal.claim-requires-clause-table
claim-requires-clause-table g c =
    c.loop.invariant.may_work.seated.table ∙ sym (ap (λ (o : PoolOf). o.counter.table) c.self.view_is)

pub claim-requires-clause-share : goal.claim-requires-clause-share
claim-requires-clause-share g c =
    let shares = c.loop.invariant.may_work.seated.shares in
    omega (arith, shares)

pub returns-in_default-clause-ready : goal.returns-in_default-clause-ready
returns-in_default-clause-ready g c =
    ready_moved c.args.self.now.pass c.args.self.now.turn c.loop.worker _ refl refl refl refl
    c.in_ok-reserve.ensures.items refl c.loop.invariant.may_work.ready

pub returns-in_default-clause-seated : goal.returns-in_default-clause-seated
returns-in_default-clause-seated g c =
    seated_saw c.args.self.now.counter c.loop.worker _ c.loop.invariant.may_work.seated c.claim.ensures.table
    c.in_default.ensures.none.1 c.in_ok-reserve.ensures.items

pub returns-in_default-clause-name : goal.returns-in_default-clause-name
returns-in_default-clause-name g c = c.loop.invariant.name

pub returns-in_default-clause-done : goal.returns-in_default-clause-done
returns-in_default-clause-done g c = (
  (let none = c.in_default.ensures.none.0 in let same = ap (λ (o : PoolOf). o.counter.tasks) c.self.view_is in
      omega (arith, none, same)),
  subst (λ (xs : List ℕ). EndsDrawn c.args.self.now.pass c.args.self.now.turn c.loop.worker.pass xs
      c.loop.worker.notes.items)
      (sym c.in_ok-reserve.ensures.items) c.loop.invariant.may_work.ended,
)

pub overflow_cast-place : goal.overflow_cast-place
overflow_cast-place g c =
    let below = c.in-Some-claim.ensures.some.0 in
    let tasks = c.self.invariant.tasks in
    let few = c.self.invariant.input.few_tasks in
    omega (arith, below, tasks, few)

pub push_reserved-requires : goal.push_reserved-requires
push_reserved-requires g c =
    let room = c.in_ok-reserve.ensures.ok in
    omega (arith, room)

pub offset_bounds-self-inside-place : goal.offset_bounds-self-inside-place
offset_bounds-self-inside-place g c =
    let below = c.in-Some-claim.ensures.some.0 in
    let tasks = c.self.invariant.tasks in
    let few = c.self.invariant.input.few_tasks in
    omega (arith, below, tasks, few)

pub bounds-self-inside-place : goal.bounds-self-inside-place
bounds-self-inside-place g c =
    let below = c.in-Some-claim.ensures.some.0 in
    let tasks = c.self.invariant.tasks in
    omega (arith, below, tasks)

pub work_off-requires : goal.work_off-requires
work_off-requires g c =
    let p = c.args.self.now.pass in
    let t = c.args.self.now.turn in
    let before = c.loop.invariant.may_work.ready in
    let drawn : c.push_reserved.new.self.items ≡ c.loop.worker.drawn.items ++ c.in-Some-claim.place ∷ [] =
    c.push_reserved.ensures.items ∙ ap (λ (xs : List ℕ). xs ++ c.in-Some-claim.place ∷ [])
    c.in_ok-reserve.ensures.items in
    record {
      ready = record {
        number_is = before.number_is;
        size = before.size;
        knows = knows_drawn p t c.loop.worker.pass c.loop.worker.drawn.items c.push_reserved.new.self.items
            c.in-Some-claim.place c.loop.worker.notes.items drawn before.knows;
        mapped = before.mapped;
      };
      drawn = drawn_last p c.loop.worker.drawn.items c.push_reserved.new.self.items c.in-Some-claim.place _ drawn
          (task_at c.self.inside.input.tasks.now p.tasks c.in-Some-claim.place
          (ap (λ (o : PoolOf). o.pass.tasks) c.self.view_is)
          (let below = c.in-Some-claim.ensures.some.0 in let tasks = c.self.invariant.tasks in
          omega (arith, below, tasks)));
    }

pub returns-in_err-work_off-clause-ready : goal.returns-in_err-work_off-clause-ready
returns-in_err-work_off-clause-ready g c = c.work_off.ensures.ready

pub returns-in_err-work_off-clause-seated : goal.returns-in_err-work_off-clause-seated
returns-in_err-work_off-clause-seated g c =
    let after = c.work_off.ensures.after in
    seated_more c.args.self.now.counter c.loop.worker c.work_off.new.worker c.claim.new.me c.in-Some-claim.place
    c.loop.invariant.may_work.seated c.claim.ensures.table c.in-Some-claim.ensures.some.1
    c.in-Some-claim.ensures.some.2 after.seat
    (ap (λ (v : Vec ℕ Global). v.items) after.drawn ∙ c.push_reserved.ensures.items
    ∙ ap (λ (xs : List ℕ). xs ++ c.in-Some-claim.place ∷ []) c.in_ok-reserve.ensures.items)

pub returns-in_err-work_off-clause-name : goal.returns-in_err-work_off-clause-name
returns-in_err-work_off-clause-name g c = c.work_off.ensures.after.name ∙ c.loop.invariant.name

pub loop-preserved : goal.loop-preserved
loop-preserved g c =
    let p = c.args.self.now.pass in
    let t = c.args.self.now.turn in
    let before = c.loop.invariant.may_work in
    let w = c.work_off.new.worker in
    let after = c.work_off.ensures.after in
    let drawn : c.push_reserved.new.self.items ≡ c.loop.worker.drawn.items ++ c.in-Some-claim.place ∷ [] =
    c.push_reserved.ensures.items ∙ ap (λ (xs : List ℕ). xs ++ c.in-Some-claim.place ∷ [])
    c.in_ok-reserve.ensures.items in
    let drawn_is : w.drawn.items ≡ c.loop.worker.drawn.items ++ c.in-Some-claim.place ∷ [] =
    ap (λ (v : Vec ℕ Global). v.items) after.drawn ∙ drawn in
    let drew = c.in-Some-claim.ensures.some in
    record {
      may_work = record {
        ready = c.work_off.ensures.ready;
        seated = seated_more c.args.self.now.counter c.loop.worker w c.claim.new.me c.in-Some-claim.place before.seated
            c.claim.ensures.table drew.1 drew.2 after.seat drawn_is;
        ended = subst (λ (xs : List ℕ). EndsDrawn p t w.pass xs w.notes.items) (sym drawn_is)
            (drawn_more p t w.pass c.loop.worker.drawn.items c.in-Some-claim.place _ w.notes.items
            (task_at c.self.inside.input.tasks.now p.tasks c.in-Some-claim.place
            (ap (λ (o : PoolOf). o.pass.tasks) c.self.view_is)
            (let below = drew.0 in let tasks = c.self.invariant.tasks in omega (arith, below, tasks)))
            c.in_ok-work_off.ensures.ended
            (drawn_later p t c.loop.worker.pass w.pass c.loop.worker.drawn.items c.loop.worker.notes.items
            w.notes.items after.seen
            after.notes before.ended));
      };
      name = after.name ∙ c.loop.invariant.name;
    }
