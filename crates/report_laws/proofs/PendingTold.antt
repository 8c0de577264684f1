-- What is told of an activity's wait: the clocks that are pending are those of which it remembers a phase, and the statement is that of its next move.
use Rattle.std.proofs.Common.{◌≡◌, ◌⊎◌, ℕ, zero, suc, ◌+◌, ◌-◌, ◌<◌, ◌≤◌, true, false, Some, None, Ok, List, [], drop, length, take, arith, sym, ◌∙◌, ap, subst, refl, inl, inr}
use Rattle.std.specs.Prelude.{Contains, is_some, slice_index_or}
use Rattle.std.specs.List.{slice_get}
use Rattle.std.proofs.lemmas.Bool.{false≢true}
use Rattle.std.proofs.lemmas.List.{length-append, length-drop}
use Rattle.std.proofs.lemmas.Option.{get_or_from_slice_get, slice_get_within}
use Rattle.armus_base.specs.declared.ending.TaskEnd.{TaskEnd}
use Rattle.armus_base.specs.declared.ending.TaskEnd.TheVariants.{Blocked, Done, Refused, Unforked}
use Rattle.armus_base.specs.declared.event.Event.{Event}
use Rattle.armus_base.specs.declared.offset.Offset.TheVariants.{Here}
use Rattle.armus_base.specs.declared.op.Op.TheVariants as op
use Rattle.armus_base.specs.Finals.{end_of}
use Rattle.armus_base.specs.Numbers.{phaser}
use Rattle.armus_base.specs.Plans.{Plan, code_of}
use Rattle.armus_base.specs.Runs.{places, state_after}
use Rattle.armus_base.specs.States.{Step}
use Rattle.armus_base.proofs.Lists.{some_at}
use Rattle.pl_core.specs.Tasks.{IsAtOp}
use Rattle.clock_syntax.specs.Trees.{ClockTree}
use Rattle.clock_semantics.specs.Moves.{Move, code_of_moves, made_by, opens}
use Rattle.clock_semantics.specs.Unfolding.{ClockComing, ClockUnfolding, activities, clock_unfolded, plan_of_moves}
use Rattle.clock_semantics.proofs.MoveCodes.{moves_at}
use Rattle.clock_semantics.proofs.MoveRows.{first_made}
use Rattle.clock_semantics.proofs.Rows.{row_at}
use Rattle.clock_laws.specs.calls.Direct.{ClockState, StandsAs, has_ended, unstarted, waits_at_advance, waits_at_end}
use Rattle.clock_laws.specs.calls.Laws.{IsDirectEnd, moves_of}
use Rattle.clock_laws.specs.TextMachine.{Acting, Made}
use Rattle.clock_laws.specs.TextNumbers.{IsMadeIn, made_in, number_in}
use Rattle.clock_laws.proofs.ClockRuns.{is_clock}
use Rattle.clock_laws.proofs.Ending.{drop_end}
use Rattle.clock_laws.proofs.LawfulMoves.{kinds_now, plan_is_of_moves}
use Rattle.clock_laws.proofs.Numbers.{number_inside, unfolded_rows}
use Rattle.clock_laws.proofs.TextEnds.{ends_directly}
use Rattle.clock_laws.proofs.TextRuns.{runs, same_moves}
use Rattle.clock_source_map.specs.ClockOps.{all_op_origins}
use Rattle.clock_source_map.specs.ClockOrigins.{all_begun, all_waits, begun_by}
use Rattle.clock_source_map.proofs.AllOrigins.{begun_many}
use Rattle.explain_facts.proofs.OneAccount.{one_op}
use Rattle.explain_clock.specs.ClockFacts.{ClockFacts, ClockWait, IsWaitBy, IsWaitOf, is_pending, pending_in}
use Rattle.explain_clock.specs.ClockWords.{wait_statement}
use Rattle.explain_clock.proofs.PendingRows.{row_within}
use Rattle.program_io.specs.Texts.{Text}
use Rattle.explain.specs.ClockExplained.{IsClockExplanationOf}
use Rattle.explain.specs.Requests.{Form}
use Rattle.report_laws.specs.MovesMade.{MakesMoveAt}
use Rattle.report_laws.specs.PendingTold.{PendingIsRemembered}
use Rattle.report_laws.specs.WaitsTold.{IsOpOfMove}
use Rattle.report_laws.specs.calls.WaitsStand.{OthersAreToldNoWait, WaitsAreToldWhereTheyStand}
use Rattle.report_laws.proofs.ClocksByMoves.{begun_at}
use Rattle.report_laws.proofs.WaitingEnds.{WaitsNext, code_is, forgets_at_end, stands, waits_next}
use Rattle.report_laws.proofs.WaitsByMoves.{waits_are_told_by_their_moves}

-- ---- how an activity stands that makes no step

module _ (s : ClockState) (t : ℕ) where
  done_left : (x : TaskEnd) → StandsAs s t x → x ≡ Done → s.left t ≡ []
  done_left x (unstarted idle) e = absurd (cc)
  done_left x (has_ended started over) e = over
  done_left x (waits_at_advance p k ms started left memory) e = absurd (cc)
  done_left x (waits_at_end f ms started left) e = absurd (cc)

  unforked_off : (x : TaskEnd) → StandsAs s t x → x ≡ Unforked → s.started t ≡ false
  unforked_off x (unstarted idle) e = idle
  unforked_off x (has_ended started over) e = absurd (cc)
  unforked_off x (waits_at_advance p k ms started left memory) e = absurd (cc)
  unforked_off x (waits_at_end f ms started left) e = absurd (cc)

  never_refused : (x : TaskEnd) (event : Event) → StandsAs s t x → x ≡ Refused event → ⊥
  never_refused x event (unstarted idle) e = absurd (cc)
  never_refused x event (has_ended started over) e = absurd (cc)
  never_refused x event (waits_at_advance p k ms started left memory) e = absurd (cc)
  never_refused x event (waits_at_end f ms started left) e = absurd (cc)

  -- who is blocked is started, and has a move left
  blocked_goes : (x : TaskEnd) (event : Event) → StandsAs s t x → x ≡ Blocked event → (s.started t ≡ false ⊎ s.left t ≡ []) → ⊥
  blocked_goes x event (unstarted idle) e rests = absurd (cc)
  blocked_goes x event (has_ended started over) e rests = absurd (cc)
  blocked_goes x event (waits_at_advance p k ms started left memory) e (inl idle) = false≢true (sym idle ∙ started)
  blocked_goes x event (waits_at_advance p k ms started left memory) e (inr over) = absurd (let none = sym over ∙ left in cc)
  blocked_goes x event (waits_at_end f ms started left) e (inl idle) = false≢true (sym idle ∙ started)
  blocked_goes x event (waits_at_end f ms started left) e (inr over) = absurd (let none = sym over ∙ left in cc)

-- ---- numbers of clocks

module _ (p : ClockTree) (u : ClockUnfolding) (e : clock_unfolded p ≡ Ok u) where
  made_grows : (a n : ℕ) → first_made u a ≤ first_made u (a + n)
  made_grows a zero = omega (arith, ap (first_made u) (let z : a + 0 ≡ a = omega arith in z))
  made_grows a (suc n) = omega (arith, made_grows a n, ap (first_made u) (let z : a + suc n ≡ suc (a + n) = omega arith in z))

  -- the number of a clock or finish is one of those that are made
  made_inside : (c : Made) → IsMadeIn u c → made_in u c < length u.makers
  made_inside c is =
      let t = number_in u c.maker in
      let l = number_inside p u e c.maker is.0 in
      let rows = unfolded_rows p u e in
      let at : made_in u c ≡ first_made u t + c.before =
      ap (λ xs. slice_index_or xs c.before 0) (rows.rows t l).made ∙ row_at (length (made_by (moves_at u t))) (first_made u t) c.before is.1 in
      let last : suc t + (activities u - suc t) ≡ activities u = omega (arith, l) in
      omega (arith, at, is.1, made_grows (suc t) (activities u - suc t), ap (first_made u) last, rows.makers)

-- ---- what is told

module _ (form : Form) (text : Text) (status : ℕ) (lines : Text) (x : IsClockExplanationOf form text status lines) where
  abbrev u : ClockUnfolding
  u = x.unfolded

  abbrev plan : Plan
  plan = plan_of_moves u

  abbrev g : List Step
  g = x.steps

  abbrev e : clock_unfolded x.program ≡ Ok u
  e = x.ended.unfolds

  abbrev facts : ClockFacts
  facts = x.explains.tells.facts

  -- this is told of the wait of activity t, whose task has ended so
  abbrev IsTold : ℕ → TaskEnd → ClockWait → Type 0
  IsTold t end w =
      IsWaitBy (code_of plan t) (slice_index_or (all_waits u) t []) (slice_index_or (all_op_origins u) t []) (length plan.makers) (places g t).done end w

  told : (t : ℕ) → t < activities u → (w : ClockWait) × (slice_get facts.waits t ≡ Some w) × IsTold t (end_of (state_after g) t) w
  told t inside =
      let are = x.explains.tells.are_facts.waits_are in
      let (w, found) = some_at facts.waits t (omega (arith, inside, are.all)) in (
        w,
        found,
        subst (IsTold t (end_of (state_after g) t)) (get_or_from_slice_get facts.waits t w w found) (are.each t w inside),
      )

  module _ (s : ClockState) (end : IsDirectEnd u s) (t : ℕ) (inside : t < activities u) where
    next : (event : Event) → end_of (state_after g) t ≡ Blocked event → WaitsNext (kinds_now x.program u e).is (moves_of u t) (λ q. s.remembered q t) (s.left t) (places g t).done
    next event blocked = waits_next x.program u e s end g x.ended.run x.ended.maximal t inside event blocked

    own_code : code_of plan t ≡ code_of_moves (moves_of u t)
    own_code = code_is x.program u e s end g x.ended.run x.ended.maximal t inside

    stand : StandsAs s t (end_of (state_after g) t)
    stand = stands x.program u e s end g x.ended.run x.ended.maximal t inside

    -- where the activity is said to wait is where it waits
    same_op :
        (event : Event) (blocked : end_of (state_after g) t ≡ Blocked event) (w : ClockWait) →
        (wait : IsWaitOf (code_of plan t) (slice_index_or (all_waits u) t []) (slice_index_or (all_op_origins u) t []) (length plan.makers) (places g t).done w) →
        wait.op ≡ (next event blocked).waits.place
    same_op event blocked w wait =
        let waits = (next event blocked).waits in
        one_op (code_of plan t) (places g t).done wait.op waits.place wait.stands (subst (λ ops. IsAtOp ops (places g t).done waits.place) (sym own_code) waits.stands)

    -- ---- what is pending

    pending_by :
        (c : ℕ) → (kinds_now x.program u e).is c ≡ true → c < length u.makers → (s.started t ≡ false → s.remembered c t ≡ None) → (end_is : TaskEnd) →
        end_of (state_after g) t ≡ end_is → (w : ClockWait) → IsTold t end_is w → slice_index_or w.pending c false ≡ is_some (s.remembered c t)
    pending_by c is few idle (Blocked event) same w wait =
        let waits = (next event same).waits in
        ap (λ row. slice_index_or row c false) wait.pending_is
        ∙ row_within (is_pending (take wait.op (code_of plan t))) (length plan.makers) c few
        ∙ ap (λ k. is_pending (take k (code_of plan t)) c) (same_op event same w wait)
        ∙ ap (λ ops. is_pending (take waits.place ops) c) own_code ∙ waits.pending c is
    pending_by c is few idle Done same w none =
        ap (λ row. slice_index_or row c false) none.pending_is
        ∙ sym (forgets_at_end x.program u e s end g x.ended.run x.ended.maximal t inside (done_left s t (end_of (state_after g) t) stand same) c is)
    pending_by c is few idle (Refused event) same w none = absurd (never_refused s t (end_of (state_after g) t) event stand same)
    pending_by c is few idle Unforked same w none =
        ap (λ row. slice_index_or row c false) none.pending_is ∙ ap is_some (sym (idle (unforked_off s t (end_of (state_after g) t) stand same)))

    -- ---- where it waits

    module _ (k : ℕ) (m : ClockComing) (move : Move) (h : MakesMoveAt u t k m move) (left : s.left t ≡ drop k (slice_index_or u.moves t [])) where
      some_left : s.left t ≡ [] → ⊥
      some_left over =
          let none = drop_end k (slice_index_or u.moves t []) (sym left ∙ over) in absurd (let both : Some move ≡ None = sym h.makes ∙ none.0 in cc)

      made_many : (w : WaitsNext (kinds_now x.program u e).is (moves_of u t) (λ q. s.remembered q t) (s.left t) (places g t).done) → length w.made ≡ k
      made_many w =
          let all : length (slice_index_or u.moves t []) ≡ length w.made + length (s.left t) =
          ap length (sym (same_moves u t) ∙ w.split) ∙ length-append w.made (s.left t) in
          let rest : length (s.left t) ≡ length (slice_index_or u.moves t []) - k = ap length left ∙ length-drop k (slice_index_or u.moves t []) in
          omega (arith, all, rest, slice_get_within (slice_index_or u.moves t []) k move h.makes)

      statement_by : s.started t ≡ true → (end_is : TaskEnd) → end_of (state_after g) t ≡ end_is → (w : ClockWait) → IsTold t end_is w → w.statement ≡ Some m.statement
      statement_by started (Blocked event) same w wait =
          let waits = (next event same).waits in
          let here = same_op event same w wait in
          let of_move : IsOpOfMove (slice_index_or u.moves t []) k wait.op =
          subst (IsOpOfMove (slice_index_or u.moves t []) k) (sym here)
          (subst (λ n. IsOpOfMove (slice_index_or u.moves t []) n waits.place) (made_many (next event same))
          (subst (λ ms. IsOpOfMove ms (length (next event same).made) waits.place) (same_moves u t) waits.of_move)) in
          waits_are_told_by_their_moves x.program u t k (length plan.makers) (places g t).done m move w (op.Await (phaser waits.phaser_number) Here) e h wait
          (ap (slice_get (code_of plan t)) here ∙ ap (λ ops. slice_get ops waits.place) own_code ∙ waits.awaits) refl of_move
      statement_by started Done same w none = absurd (some_left (done_left s t (end_of (state_after g) t) stand same))
      statement_by started (Refused event) same w none = absurd (never_refused s t (end_of (state_after g) t) event stand same)
      statement_by started Unforked same w none = absurd (false≢true (sym (unforked_off s t (end_of (state_after g) t) stand same) ∙ started))

    -- who does not wait
    none_by : (s.started t ≡ false ⊎ s.left t ≡ []) → (end_is : TaskEnd) → end_of (state_after g) t ≡ end_is → (w : ClockWait) → IsTold t end_is w → w.statement ≡ None
    none_by rests (Blocked event) same w wait = absurd (blocked_goes s t (end_of (state_after g) t) event stand same rests)
    none_by rests Done same w none = none.statement_is
    none_by rests (Refused event) same w none = none.statement_is
    none_by rests Unforked same w none = none.statement_is

pub pending_is_remembered : PendingIsRemembered
pending_is_remembered form text status lines x s a c end is_activity is_of =
    let p = x.program in
    let u = x.unfolded in
    let e = x.ended.unfolds in
    let r = runs p u e end.steps s end.run in
    let direct : IsDirectEnd u r.m = record { steps = r.ts; run = r.run; at_rest = ends_directly p u e s end.steps r end.at_rest } in
    let t = number_in u a in
    let inside = number_inside p u e a is_activity in
    let (w, found, is_told) = told form text status lines x t inside in
    let maker = number_in u c.maker in
    let clock : (kinds_now p u e).is (made_in u c) ≡ true =
    is_clock u (kinds_now p u e) (plan_is_of_moves p u e) (made_in u c) (maker, subst (λ ms. Contains ms (opens (made_in u c))) (sym (same_moves u maker)) is_of.1) in
    let same : (s.acting a).remembers c ≡ r.m.remembered (made_in u c) t = r.both.tells.remembers c a is_of.0 is_activity in
    let idle : r.m.started t ≡ false → r.m.remembered (made_in u c) t ≡ None =
    λ off. sym same ∙ ap (λ (y : Acting). y.remembers c) (r.both.holds.unstarted a (r.both.tells.started a is_activity ∙ off)) in
    ap (λ o. slice_index_or (pending_in o) (made_in u c) false) found
    ∙ pending_by form text status lines x r.m direct t inside (made_in u c) clock (made_inside p u e c is_of.0) idle
    (end_of (state_after x.steps) t) refl w is_told
    ∙ ap is_some (sym same)

pub waits_are_told_where_they_stand : WaitsAreToldWhereTheyStand
waits_are_told_where_they_stand form text status lines x s t k m move end started h left =
    let begun = begun_at x.unfolded.starts t h.start h.started in
    let inside : t < activities x.unfolded =
    omega (arith, slice_get_within (all_begun x.unfolded) t (begun_by h.start) begun, begun_many x.program x.unfolded x.ended.unfolds) in
    let (w, found, is_told) = told form text status lines x t inside in
    ap wait_statement found
    ∙ statement_by form text status lines x s end t inside k m move h left started (end_of (state_after x.steps) t) refl w is_told

pub others_are_told_no_wait : OthersAreToldNoWait
others_are_told_no_wait form text status lines x s t inside end rests =
    let (w, found, is_told) = told form text status lines x t inside in
    ap wait_statement found ∙ none_by form text status lines x s end t inside rests (end_of (state_after x.steps) t) refl w is_told
