-- Workers that begin, and what comes back of them.
use Rattle.std.proofs.Common.{◌≡◌, ◌∙◌, ◌+◌, ◌<◌, ℕ, refl, sym, ap, subst, arith, List, [], ◌∷◌, ◌++◌, length, None}
use Rattle.std.specs.Prelude.{AllPairs}
use Rattle.std.proofs.lemmas.List.{append-nil}
use Rattle.std.proofs.lemmas.List.Elements.{All-nil}
use Rattle.route_lattice.specs.Mesh.{node_count}
use Rattle.board_turn.specs.declared.claims.Hand.{Hand}
use Rattle.board_turn.specs.Claims.{CounterOf, hand, times}
use Rattle.board_turn.specs.Turns.{TurnOf, opening}
use Rattle.board_turn.specs.Turns as turn
use Rattle.searcher_pool.specs.declared.log.OfferNote.{OfferNote}
use Rattle.searcher_pool.specs.declared.log.WorkerLog.{WorkerLog}
use Rattle.searcher_pool.specs.declared.worker.Worker.{Worker}
use Rattle.pcb_board.specs.Boards.{BoardOf}
use Rattle.searcher_pool.specs.Passes.{Grows, PassOf, claimed}
use Rattle.searcher_pool.specs.inner.Working.{EndsDrawn, HasMapped, Knows, MayWork}
use Rattle.searcher_pool.specs.inner.Workers.{AreEnded, AreLogsOf, IsLogOf}
use Rattle.searcher_pool.proofs.Following.{mapped_none}
use Rattle.searcher_pool.proofs.Rows.{at_push, zip_push}

-- a pass that has seen nothing knows nothing
pub knows_nothing : (p : PassOf) (t : TurnOf) (q : turn.PassOf) (n : ℕ) (drawn : List ℕ) (notes : List OfferNote)
    → q ≡ record { turn = t; name = n; seen = [] } → n < p.workers → notes ≡ [] → Knows p t q drawn notes
knows_nothing p t q n drawn notes is below none =
    subst (λ (x : turn.PassOf). Knows p t x drawn notes) (sym is)
    (subst (Knows p t (record { turn = t; name = n; seen = [] }) drawn) (sym none) (record {
      turn_is = refl;
      below = below;
      notes_are = refl;
      board = opening t;
      reached = refl;
      told = All-nil _;
      fresh = λ i j d lt within. absurd (omega (arith, within));
      seen = All-nil _;
      spent = All-nil _;
      prompt = λ only. All-nil _;
    }))

-- a new worker may work
pub new_worker : (p : PassOf) (t : TurnOf) (c : CounterOf) (w : Worker) (n : ℕ)
    → w.pass ≡ record { turn = t; name = n; seen = [] } → w.number ≡ n → n < p.workers
    → w.search ≡ node_count p.lattice → w.drawn.items ≡ [] → w.notes.items ≡ [] → w.seat.table ≡ c.table
    → w.seat.hand ≡ hand 1 [] 0 → w.mapped ≡ None → MayWork p t c w
new_worker p t c w n pass number below size drawn notes table seat mapped = record {
  ready = record {
    number_is = number ∙ sym (ap (λ (x : turn.PassOf). x.name) pass);
    size = size;
    knows = knows_nothing p t w.pass n w.drawn.items w.notes.items pass below notes;
    mapped = subst (HasMapped p t w.pass.seen) (sym mapped) (mapped_none p t w.pass.seen);
  };
  seated = record {
    table = table;
    shares = ap (λ (h : Hand). h.shares) seat;
    drawn = ap (λ (h : Hand). h.drawn) seat ∙ sym drawn;
    ascends = subst (AllPairs (λ (x y : ℕ). x < y)) (sym drawn) (λ i j d lt within. absurd (omega (arith, within)));
  };
  ended = subst (λ (xs : List ℕ). EndsDrawn p t w.pass xs w.notes.items) (sym drawn) (All-nil _);
}

-- one log more
pub claimed_push : (x : ℕ) (logs : List WorkerLog) (log : WorkerLog)
    → claimed x (logs ++ log ∷ []) ≡ claimed x logs + times x log.tasks
claimed_push x [] log = omega arith
claimed_push x (l ∷ logs) log = let rest = claimed_push x logs log in omega (arith, rest)

pub logs_push : (p : PassOf) (t : TurnOf) (passes : List turn.PassOf) (logs : List WorkerLog) (q : turn.PassOf)
    (log : WorkerLog) → AreLogsOf p t passes logs → IsLogOf p t q log → log.worker ≡ length logs
    → AreLogsOf p t (passes ++ q ∷ []) (logs ++ log ∷ [])
logs_push p t passes logs q log are is place = record {
  logs_are = zip_push (IsLogOf p t) passes logs q log are.logs_are is;
  numbered = at_push (λ (k : ℕ) (l : WorkerLog). l.worker ≡ k) logs log are.numbered place;
}

pub no_logs : (p : PassOf) (t : TurnOf) → AreLogsOf p t [] []
no_logs p t = record { logs_are = tt; numbered = λ k d lt. absurd (omega (arith, lt)) }

pub ended_push : (p : PassOf) (t : TurnOf) (passes : List turn.PassOf) (logs : List WorkerLog) (q : turn.PassOf)
    (log : WorkerLog) → AreEnded p t passes logs → EndsDrawn p t q log.tasks log.notes
    → AreEnded p t (passes ++ q ∷ []) (logs ++ log ∷ [])
ended_push p t passes logs q log are is =
    zip_push (λ (r : turn.PassOf) (l : WorkerLog). EndsDrawn p t r l.tasks l.notes) passes logs q log are is

-- a board that stays grew by no entry
pub grows_by_none : (p : PassOf) (b c : BoardOf) → c ≡ b → Grows p b c
grows_by_none p b c same = subst (Grows p b) (sym same) (record {
  design = refl;
  start = refl;
  cap = refl;
  entries = [];
  history = sym (append-nil b.history);
  joins = All-nil _;
})
