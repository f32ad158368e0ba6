use Rattle.std.proofs.Common.{◌≡◌, ◌∙◌, ℕ, List, [], ◌∷◌, Bool, Option, ap, subst, sym}
use Rattle.std.specs.Prelude.{Contains}
use Rattle.std.specs.Bool.{OnFalse}
use Rattle.std.proofs.lemmas.Bool.{false≢true}
use Rattle.std.proofs.lemmas.Result.{IfOk-weaker}
use Rattle.std.proofs.lemmas.List.Elements.{All-contains}
use Rattle.pcb_model.specs.declared.item.Item.{Item}
use Rattle.cut_certificate.specs.Cuts.{LeadsOn}
use Rattle.board_offers.specs.Items.{without}
use Rattle.pcb_board.specs.Boards.{BoardOf}
use Rattle.pcb_board.specs.Keeping.{IsBoard}
use Rattle.closing_pass.specs.Settled.{IsSettled, MovesAside, TakesOut}
use Rattle.closing_pass.specs.inner.Steps.{AreReady}
use Rattle.closing_pass.specs.inner.Trials.{after_trial}
use Rattle.closing_pass.specs.inner.Tries.{AnswersBy, AnswersItem, IsOfOther, IsShutIsland, ShutIslandOf}
use Rattle.closing_pass.proofs.Answered.{item_answers, not_opened, not_other, tried_item}
use Rattle.closing_pass.proofs.moves.ShutIsland.try_item.Goals as goal

pub unreachable-requires : goal.unreachable-requires
unreachable-requires c =
    All-contains (λ (b : Item). b.id ≡ c.args.id → ⊥) c.items.result.now.items c.requires.item.item c.in_default.ensures
    (subst (λ (xs : List Item). Contains xs c.requires.item.item)
    (sym (c.items.ensures.items ∙ ap (λ (t : ShutIslandOf). t.board.items) c.self.view_is)) c.requires.item.there)
    c.requires.item.id_is

pub returns-then-not-is_of_other-clause-answers : goal.returns-then-not-is_of_other-clause-answers
returns-then-not-is_of_other-clause-answers c =
    let s = c.args.self.now in
    let x = c.in-Some.item.now in
    let inv = subst (λ (t : ShutIslandOf). IsShutIsland t.lat t.via_cost t.board t.island t.others t.cut) c.self.view_is
    c.self.invariant in
    let kept = subst (λ (t : ShutIslandOf). IsBoard t.board) c.self.view_is c.keeps.ensures in
    let has : Contains c.items.result.now.items x × (x.id ≡ c.args.id) = c.in-Some.ensures in
    let there = subst (λ (xs : List Item). Contains xs x)
    (c.items.ensures.items ∙ ap (λ (t : ShutIslandOf). t.board.items) c.self.view_is) has.0 in
    subst (λ (k : ℕ). IsSettled s.lat s.via_cost s.board s.island s.others k) has.1
    (not_other s inv kept x there (λ o. false≢true (sym c.if-not-is_of_other.true
    ∙ c.is_of_other.ensures.1 (subst (λ (t : ShutIslandOf). IsOfOther x t.island.net) (sym c.self.view_is) o))))

pub returns-then-not-is_of_other-clause-ready : goal.returns-then-not-is_of_other-clause-ready
returns-then-not-is_of_other-clause-ready c = c.requires.ready

pub opens-requires-clause-ready : goal.opens-requires-clause-ready
opens-requires-clause-ready c = c.requires.ready

pub opens-requires-clause-there : goal.opens-requires-clause-there
opens-requires-clause-there c = record {
  item = c.requires.item.item;
  there = c.requires.item.there;
  routed = c.requires.item.routed;
  id_is = c.requires.item.id_is;
  moved_fits = tt;
}

pub returns-then-not-branch-clause-answers : goal.returns-then-not-branch-clause-answers
returns-then-not-branch-clause-answers c =
    let s = c.args.self.now in
    let x = c.in-Some.item.now in
    let inv = subst (λ (t : ShutIslandOf). IsShutIsland t.lat t.via_cost t.board t.island t.others t.cut) c.self.view_is
    c.self.invariant in
    let kept = subst (λ (t : ShutIslandOf). IsBoard t.board) c.self.view_is c.keeps.ensures in
    let has : Contains c.items.result.now.items x × (x.id ≡ c.args.id) = c.in-Some.ensures in
    let there = subst (λ (xs : List Item). Contains xs x)
    (c.items.ensures.items ∙ ap (λ (t : ShutIslandOf). t.board.items) c.self.view_is) has.0 in
    let tried = tried_item s c.args.id x kept c.requires.item there has.1
    (subst (λ (t : ShutIslandOf). IsOfOther x t.island.net) c.self.view_is
    (c.is_of_other.ensures.0 c.if-not-is_of_other.false)) in
    let P : ℕ → Type 0 = λ (k : ℕ). ¬ (LeadsOn s.board.design s.lat (without (k ∷ []) s.board.items) s.via_cost s.island
    s.others) in
    subst (λ (k : ℕ). IsSettled s.lat s.via_cost s.board s.island s.others k) has.1
    (not_opened s inv kept x tried (subst P (sym has.1)
    (subst (λ (t : Bool). OnFalse t (P c.args.id)) c.if-not-branch.true c.in_ok-opens.ensures.shut)))

pub returns-then-not-branch-clause-ready : goal.returns-then-not-branch-clause-ready
returns-then-not-branch-clause-ready c = c.in_ok-opens.ensures.ready

pub try_runs-requires-clause-ready : goal.try_runs-requires-clause-ready
try_runs-requires-clause-ready c = c.in_ok-opens.ensures.ready

pub try_runs-requires-clause-item : goal.try_runs-requires-clause-item
try_runs-requires-clause-item c =
    let s = c.args.self.now in
    let x = c.in-Some.item.now in
    let kept = subst (λ (t : ShutIslandOf). IsBoard t.board) c.self.view_is c.keeps.ensures in
    let has : Contains c.items.result.now.items x × (x.id ≡ c.args.id) = c.in-Some.ensures in
    let there = subst (λ (xs : List Item). Contains xs x)
    (c.items.ensures.items ∙ ap (λ (t : ShutIslandOf). t.board.items) c.self.view_is) has.0 in
    let tried = tried_item s c.args.id x kept c.requires.item there has.1
    (subst (λ (t : ShutIslandOf). IsOfOther x t.island.net) c.self.view_is
    (c.is_of_other.ensures.0 c.if-not-is_of_other.false)) in
    tried

pub returns-in-Some-2-clause-answers : goal.returns-in-Some-2-clause-answers
returns-in-Some-2-clause-answers c =
    let s = c.args.self.now in
    let x = c.in-Some.item.now in
    subst (λ (r : Option BoardOf). AnswersBy s x.id (λ o. MovesAside s.lat s.board o x.id) r) c.in-Some-2.is
    c.in_ok-helped.ensures.answers

pub returns-in-Some-2-clause-ready : goal.returns-in-Some-2-clause-ready
returns-in-Some-2-clause-ready c =
    let s = c.args.self.now in
    subst (λ (r : Option BoardOf). AreReady s.lat s.via_cost (after_trial s.board r) c.try_runs.new.state)
    c.in-Some-2.is c.in_ok-helped.ensures.ready

pub try_out-requires-clause-ready : goal.try_out-requires-clause-ready
try_out-requires-clause-ready c =
    let s = c.args.self.now in
    subst (λ (r : Option BoardOf). AreReady s.lat s.via_cost (after_trial s.board r) c.try_runs.new.state)
    c.in_default-2.is c.in_ok-helped.ensures.ready

pub try_out-requires-clause-item : goal.try_out-requires-clause-item
try_out-requires-clause-item c =
    let s = c.args.self.now in
    let x = c.in-Some.item.now in
    let kept = subst (λ (t : ShutIslandOf). IsBoard t.board) c.self.view_is c.keeps.ensures in
    let has : Contains c.items.result.now.items x × (x.id ≡ c.args.id) = c.in-Some.ensures in
    let there = subst (λ (xs : List Item). Contains xs x)
    (c.items.ensures.items ∙ ap (λ (t : ShutIslandOf). t.board.items) c.self.view_is) has.0 in
    let tried = tried_item s c.args.id x kept c.requires.item there has.1
    (subst (λ (t : ShutIslandOf). IsOfOther x t.island.net) c.self.view_is
    (c.is_of_other.ensures.0 c.if-not-is_of_other.false)) in
    tried

pub returns-clause-answers : goal.returns-clause-answers
returns-clause-answers c =
    let s = c.args.self.now in
    let x = c.in-Some.item.now in
    let inv = subst (λ (t : ShutIslandOf). IsShutIsland t.lat t.via_cost t.board t.island t.others t.cut) c.self.view_is
    c.self.invariant in
    let kept = subst (λ (t : ShutIslandOf). IsBoard t.board) c.self.view_is c.keeps.ensures in
    let has : Contains c.items.result.now.items x × (x.id ≡ c.args.id) = c.in-Some.ensures in
    let there = subst (λ (xs : List Item). Contains xs x)
    (c.items.ensures.items ∙ ap (λ (t : ShutIslandOf). t.board.items) c.self.view_is) has.0 in
    let tried = tried_item s c.args.id x kept c.requires.item there has.1
    (subst (λ (t : ShutIslandOf). IsOfOther x t.island.net) c.self.view_is
    (c.is_of_other.ensures.0 c.if-not-is_of_other.false)) in
    IfOk-weaker c.try_out.result (AnswersBy s x.id (λ o. TakesOut o x.id)) (AnswersItem s c.args.id)
    (λ r h. item_answers s inv kept x tried c.args.id has.1
    (subst (λ (q : Option BoardOf). AnswersBy s x.id (λ o. MovesAside s.lat s.board o x.id) q) c.in_default-2.is
    c.in_ok-helped.ensures.answers) r h) c.try_out.ensures.answers

pub returns-clause-ready : goal.returns-clause-ready
returns-clause-ready c = c.try_out.ensures.ready
