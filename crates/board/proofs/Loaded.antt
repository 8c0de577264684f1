-- What the loads make of a seat's own facts.
use Rattle.std.proofs.Common.{◌≡◌, ℕ, suc, ◌^◌, ◌<◌, ◌≤◌, Bool, true, false, Option, Some, None, length, sym, refl, ap, ◌∙◌, subst, arith, eqb-true}
use Rattle.std.specs.Prelude.{if◌then◌else◌, ◌==◌, ◌&&◌}
use mathlib.Core.Option.{none}
use Rattle.atomic_table.specs.Table.{Me, step}
use Rattle.atomic_table.specs.Seated.{TableId}
use Rattle.armus_base.specs.declared.event.Event.{Event}
use Rattle.armus_base.specs.Plans.{Plan}
use Rattle.armus_base.specs.States.{State}
use Rattle.armus_base.specs.Runs.{Place}
use Rattle.armus_base.specs.Places.{published_after}
use Rattle.armus_base.specs.CheckedPlans.{IsCheckedPlan}
use Rattle.armus_base.specs.calls.Seats.{Found, is_not_behind, own_event, scanned_after}
use Rattle.board.specs.declared.mode.Mode.{Mode}
use Rattle.board.specs.declared.view.View.{View}
use Rattle.board.specs.calls.Words.{IsInRange, await_index, await_number, phase_index, phase_number}
use Rattle.board.specs.calls.Views.{avoids, seen}
use Rattle.board.specs.calls.Steps.{IsSameSeat, LoadsAwait, LoadsPhase, Looked, WasSo, Watched}
use Rattle.board.specs.calls.Seats.{AnswersAwait, AnswersPhase, Frame, IsOf, IsSeat, event_of}
use Rattle.board.specs.inside.Sitting.{IsSitting}

-- a seat stays one after a load
pub loaded_seat :
    (table table' : TableId) (v w : View) → IsSeat (record { table = table; view = v }) → IsSameSeat v w → ((u : ℕ) → (seen w).exact u ≡ (seen v).exact u) →
    (seen w).scanned ≤ length v.plan.parents → IsSeat (record { table = table'; view = w })
loaded_seat table table' v w seat same exact few =
    record {
      live = same.spent ∙ seat.live;
      checked = subst IsCheckedPlan (sym same.plan) seat.checked;
      count = same.count ∙ seat.count ∙ ap (λ (q : Plan). length q.parents) (sym same.plan);
      few = subst (λ (q : Plan). (seen w).scanned ≤ length q.parents) (sym same.plan) few;
      own = λ u e.
          let o = seat.own u (sym same.own ∙ e) in
          (subst (λ (q : Plan). u < length q.parents) (sym same.plan) o.0, exact u ∙ o.1);
      lock = λ has. ap avoids same.mode ∙ seat.lock (sym same.holds ∙ has);
    }

-- a load scans no more than the tasks of the plan
few_after : (o : Option Event) (k t p n : ℕ) (answer : Option ℕ) → k ≤ n → t < n → scanned_after o k t p answer ≤ n
few_after None k t p n answer l small = l
few_after (Some e) k t p n answer l small = by_test (e.p.0 == p) (t == k) refl (is_not_behind answer e)
  where
    by_test : (x y : Bool) → (t == k) ≡ y → (z : Bool) → (if x && y && z then suc k else k) ≤ n
    by_test false y is z = l
    by_test true false is z = l
    by_test true true is false = l
    by_test true true is true = (let same = eqb-true t k is in omega arith)

pub few_await :
    (table : TableId) (v w : View) (plan : Plan) (mode : Mode) (t : ℕ) (answer : Found) → IsSeat (record { table = table; view = v }) → LoadsAwait plan mode t answer v w →
    (seen w).scanned ≤ length v.plan.parents
few_await table v w plan mode t answer seat load = subst (λ k. k ≤ length v.plan.parents) (sym load.seen_now.scanned) seat.few

pub few_phase :
    (table : TableId) (v w : View) (mode : Mode) (t p : ℕ) (answer : Option ℕ) → IsSeat (record { table = table; view = v }) → t < length v.plan.parents →
    LoadsPhase v.plan mode t p answer v w →
    (seen w).scanned ≤ length v.plan.parents
few_phase table v w mode t p answer seat small load =
    subst (λ k. k ≤ length v.plan.parents) (sym load.seen_now.scanned)
    (few_after (own_event v.plan v.own (seen v)) (seen v).scanned t p (length v.plan.parents) answer seat.few small)

-- and its own place stays
pub own_stays :
    (table : TableId) (v w : View) (t : ℕ) (mode : Mode) (Holds : State → Type 0) → IsSeat (record { table = table; view = v }) → v.own ≡ Some t →
    ((u : ℕ) → (seen w).exact u ≡ (seen v).exact u) →
    WasSo v.plan mode Holds v w → (seen w).places t ≡ (seen v).places t
own_stays table v w t mode Holds seat own exact was =
    let o = seat.own t own in
    sym (was.now_far.equal t o.0 (exact t ∙ o.1)) ∙ was.before_far.equal t o.0 o.1

pub event_stays :
    (table table' : TableId) (v w : View) (t : ℕ) (mode : Mode) (Holds : State → Type 0) → IsSeat (record { table = table; view = v }) → v.own ≡ Some t → IsSameSeat v w →
    ((u : ℕ) → (seen w).exact u ≡ (seen v).exact u) → WasSo v.plan mode Holds v w →
    event_of (record { table = table'; view = w }) ≡ event_of (record { table = table; view = v })
event_stays table table' v w t mode Holds seat own same exact was =
    ap (λ (q : Plan). own_event q w.own (seen w)) same.plan ∙ ap (λ o. own_event v.plan o (seen w)) (same.own ∙ own)
    ∙ ap (λ (b : Place). published_after v.plan t b.done) (own_stays table v w t mode Holds seat own exact was)
    ∙ ap (λ o. own_event v.plan o (seen v)) (sym own)

pub loads_sitting :
    (table table' : TableId) (v w : View) (t n m : ℕ) (o : Option Event) (mode : Mode) (Holds : State → Type 0) →
    IsSitting t n o (record { table = table; view = v }) → IsSameSeat v w →
    ((u : ℕ) → (seen w).exact u ≡ (seen v).exact u) → WasSo v.plan mode Holds v w → (seen w).scanned ≤ length v.plan.parents → m ≡ (seen w).scanned →
    (event_of (record { table = table; view = v }) ≡ None → m ≡ 0) →
    IsSitting t m o (record { table = table'; view = w })
loads_sitting table table' v w t n m o mode Holds s same exact was few scanned idle =
    let event = event_stays table table' v w t mode Holds s.seat s.task same exact was in
    record {
      task = same.own ∙ s.task;
      seat = loaded_seat table table' v w s.seat same exact few;
      scanned_is = scanned;
      event = s.event ∙ sym event;
      idle = λ e. idle (sym event ∙ e);
    }

-- what a load of an await word told
pub watched_told :
    (slots index : ℕ) (me me' : Me (Unit {0}) View) (n t : ℕ) (f : Frame) (table : TableId) → Watched (step slots index 0 0 none) me n me' →
    IsOf (record { table = table; view = me.0 }) f →
    t < length f.plan.parents → index ≡ await_index t → (answer : Found) × n ≡ await_number answer × IsInRange answer × LoadsAwait me.0.plan me.0.mode t answer me.0 me'.0
watched_told slots index me me' n t f table told of small is = told.1 t (subst (λ (q : Plan). t < length q.parents) (sym of.plan) small) is

-- and one of a phase word
pub looked_told :
    (slots index : ℕ) (me me' : Me (Unit {0}) View) (n t p : ℕ) (f : Frame) (table : TableId) → Looked (step slots index 0 0 none) me n me' →
    IsOf (record { table = table; view = me.0 }) f →
    t < length f.plan.parents → p < length f.plan.makers → index ≡ phase_index f.plan t p →
    (answer : Option ℕ) × n ≡ phase_number answer × n < 2 ^ 32 × LoadsPhase me.0.plan me.0.mode t p answer me.0 me'.0
looked_told slots index me me' n t p f table told of small few is =
    told.1 t p (subst (λ (q : Plan). t < length q.parents) (sym of.plan) small) (subst (λ (q : Plan). p < length q.makers) (sym of.plan) few)
    (is ∙ ap (λ (q : Plan). phase_index q t p) (sym of.plan))

-- the answer of a load
pub answers_await :
    (table table' : TableId) (v w : View) (t : ℕ) (answer given : Found) → IsSeat (record { table = table; view = v }) → LoadsAwait v.plan v.mode t answer v w →
    table' ≡ table → given ≡ answer →
    AnswersAwait t given (record { table = table; view = v }) (record { table = table'; view = w })
answers_await table table' v w t answer given seat load same is =
    record {
      load = subst (λ f. LoadsAwait v.plan v.mode t f v w) (sym is) load;
      table = same;
      kept = loaded_seat table table' v w seat load.same load.seen_now.place.exact (few_await table v w v.plan v.mode t answer seat load);
    }

pub answers_phase :
    (table table' : TableId) (v w : View) (t p : ℕ) (answer given : Option ℕ) → IsSeat (record { table = table; view = v }) → t < length v.plan.parents →
    LoadsPhase v.plan v.mode t p answer v w → table' ≡ table → given ≡ answer →
    AnswersPhase t p given (record { table = table; view = v }) (record { table = table'; view = w })
answers_phase table table' v w t p answer given seat small load same is =
    record {
      load = subst (λ f. LoadsPhase v.plan v.mode t p f v w) (sym is) load;
      table = same;
      kept = loaded_seat table table' v w seat load.same load.seen_now.exact (few_phase table v w v.mode t p answer seat small load);
    }

-- what a call answers that loads a phase word and reads its number
pub looked_answers :
    (table table' : TableId) (slots index n t p : ℕ) (me me' : Me (Unit {0}) View) (f : Frame) (given : Option ℕ) →
    Looked (step slots index 0 0 none) me n me' →
    IsOf (record { table = table; view = me.0 }) f → IsSeat (record { table = table; view = me.0 }) → t < length f.plan.parents → p < length f.plan.makers →
    index ≡ phase_index f.plan t p → table' ≡ table → ((answer : Option ℕ) → n ≡ phase_number answer → given ≡ answer) →
    AnswersPhase t p given (record { table = table; view = me.0 }) (record { table = table'; view = me'.0 })
looked_answers table table' slots index n t p me me' f given looked of seat small few is same read =
    let told = looked_told slots index me me' n t p f table looked of small few is in
    answers_phase table table' me.0 me'.0 t p told.0 given seat (subst (λ (q : Plan). t < length q.parents) (sym of.plan) small) told.3 same
    (read told.0 told.1)

-- after such a load, with the tasks that are scanned then
pub phase_sitting :
    {table table' : TableId} {v w : View} {t n m u p : ℕ} {o : Option Event} {answer : Option ℕ} → IsSitting t n o (record { table = table; view = v }) →
    u < length v.plan.parents → LoadsPhase v.plan v.mode u p answer v w → m ≡ (seen w).scanned →
    (event_of (record { table = table; view = v }) ≡ None → m ≡ 0) →
    IsSitting t m o (record { table = table'; view = w })
phase_sitting {table} {table'} {v} {w} {t} {n} {m} {u} {p} {o} {answer} i small load scanned idle =
    loads_sitting table table' v w t n m o _ _ i load.same load.seen_now.exact load.was (few_phase table v w v.mode u p answer i.seat small load) scanned idle
