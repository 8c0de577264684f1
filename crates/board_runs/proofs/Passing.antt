-- A task passes the await on which it is published.
use Rattle.std.proofs.Common.{◌≡◌, ◌∙◌, ◌<◌, ◌+◌, ◌^◌, ℕ, [], ◌∷◌, Bool, true, false, Some, None, arith, refl, ap, subst, sym}
use Rattle.std.specs.Prelude.{IsSome}
use Rattle.std.proofs.lemmas.Bool.{false≢true}
use Rattle.armus_base.specs.Plans.{Passes}
use Rattle.armus_base.specs.Runs.{Place}
use Rattle.board.specs.calls.Seats.{Frame, IsSeat, Known, MakesPass, event_of}
use Rattle.board.specs.calls.Views.{own_place, task_of}
use Rattle.board.proofs.Seated.{place_made}
use Rattle.board.proofs.Walking.{left_passed, passes_next, published_is}
use Rattle.phase_scan.specs.calls.Looks.{LoadsAlone}
use Rattle.board_runs.specs.declared.task.Task.TheInside.{Inside}
use Rattle.board_runs.specs.inside.Tasks.{AreLeft, IsWorking, MakesSome}
use Rattle.board_runs.proofs.Goings.{goes_step, goes_then, own_stays, some_alone, stepped_place}
use Rattle.board_runs.proofs.Halting.{one_more_fits, left_by_loads, left_free, left_there}

-- to whom is not refused its ops are left
pub has_left : (t : Inside) → IsWorking t → (own_place t.seat.view).dropped ≡ None → (t.refused ≡ false) × AreLeft t.cursor t.seat
has_left t w none = by_flag t.refused refl
  where
    by_flag : (b : Bool) → t.refused ≡ b → (t.refused ≡ false) × AreLeft t.cursor t.seat
    by_flag true e = absurd (false≢true (subst IsSome none (w.come.gone e).refused))
    by_flag false e = (e, w.come.ops_are e)

-- a pass makes no load
pub pass_loads : (k m n : Known) → IsSome (event_of k) → LoadsAlone k m → MakesPass m n → n.view.loads ≡ m.view.loads
pass_loads k m n event goes pass = (let e = published_is (event_of k) event in (pass e.0 (goes.event ∙ e.1)).loads)

module _ (f : Frame) (t : Inside) (m n : Known) (own : ℕ) (w : IsWorking t) (free : t.seat.view.holds ≡ false) (none : (own_place t.seat.view).dropped ≡ None)
    (own_is : t.seat.view.own ≡ Some own) (seat : IsSeat t.seat) (event : IsSome (event_of t.seat)) (goes : LoadsAlone t.seat m) (pass : MakesPass m n) where
  pub record Passed : Type 0 where
    pub working : IsWorking (record t { seat = n; actions = t.actions + 1 })
    pub fits : t.actions + 1 < 2 ^ 32
    pub some : MakesSome f 1 (record { seat = t.seat; children = t.children.items }) (record { seat = n; children = t.children.items })

  pub passes : Passed
  passes =
      let e = published_is (event_of t.seat) event in
      let is : event_of m ≡ Some e.0 = goes.event ∙ e.1 in
      let step = pass e.0 is in
      let was = has_left t w none in
      let here = left_free t.cursor t.seat was.1 free in
      let left = left_by_loads t.cursor t.seat m own own_is seat here goes in
      let next = passes_next t.cursor m e.0 left is in
      let some =
      some_alone f (Passes e.0.p.0 ∷ []) t.seat n t.children.items 1 (Passes e.0.p.0) seat
      (passes_next t.cursor t.seat e.0 here e.1)
      (goes_then t.seat m n own (Passes e.0.p.0) own_is seat goes (goes_step m n (Passes e.0.p.0) next (λ p h. cc) step)) refl refl (omega arith) (omega arith) in
      let done : (own_place n.view).done ≡ (own_place t.seat.view).done + 1 =
      ap (λ (x : Place). x.done) (stepped_place m n (Passes e.0.p.0) step)
      ∙ place_made (own_place m.view).done (own_place m.view).dropped (Passes e.0.p.0) left.unrefused (λ p h. cc)
      ∙ (let same : (own_place m.view).done ≡ (own_place t.seat.view).done = ap (λ (x : Place). x.done) (own_stays t.seat m own own_is seat goes) in omega arith) in
      record {
        working = record {
          come = record {
            made_is = (let n = w.come.made_is in omega arith);
            ops_are = λ _. left_there t.cursor n (left_passed t.cursor m n e.0 own (goes.same.own ∙ own_is) left is step);
            gone = λ e. absurd (false≢true (sym was.0 ∙ e));
          };
          begun = (let l = w.begun in omega arith);
        };
        fits = (let l = one_more_fits t.seat.view.plan (task_of t.seat.view) (own_place t.seat.view).done seat.checked some.within in let n = w.come.made_is in omega arith);
        some = some;
      }
