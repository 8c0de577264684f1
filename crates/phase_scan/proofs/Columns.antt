-- Columns of phases, one load more, and what they leave as it was.
use mathlib.Core.Path.{fun_ext}
use Rattle.std.proofs.Common.{◌≡◌, ℕ, zero, suc, ◌<◌, ◌≤◌, ◌+◌, Bool, true, false, List, Option, None, length, sym, refl, ap, ◌∙◌, subst, arith, add-one, inl, inr}
use Rattle.std.specs.Prelude.{◌++◌, is_some, take, unwrap_or, vec_len, if◌then◌else◌}
use Rattle.std.proofs.lemmas.List.{get_or_past, take-append-le, take_all}
use Rattle.std.proofs.lemmas.Option.{slice_get_past}
use Rattle.std.proofs.lemmas.Bool.{cases_eq, cases_lt}
use Rattle.armus_base.specs.declared.event.Event.{Event}
use Rattle.armus_base.specs.Plans.{Plan}
use Rattle.armus_base.specs.States.{State, updated}
use Rattle.armus_base.proofs.Steps.{updated_other, updated_same}
use Rattle.board.specs.calls.Views.{seen}
use Rattle.board.specs.calls.Seats.{AnswersPhase, IsSeat, Known}
use Rattle.phase_scan.specs.calls.Looks.{LoadsAlone}
use Rattle.phase_scan.specs.calls.Collects.{IfAsked}
use Rattle.phase_scan.specs.calls.Supposed.{LoadsColumn, phase_used}
use Rattle.phase_scan.specs.declared.findings.Findings.{Findings}
use Rattle.phase_scan.specs.calls.Tables.{awaited_in_findings, event_for, state_of_findings}
use Rattle.phase_scan.specs.inside.Phases.{phase_in}
use Rattle.phase_scan.specs.inside.Supposing.{KeepsColumn}
use Rattle.phase_scan.proofs.Loads.{PhaseLoad, goes_both, goes_itself, last_load, load_before, phase_load}

-- a column that was written as a whole is what a read of it finds
pub read_back : (n : ℕ) (xs ys : List (Option ℕ)) → n ≡ length xs → take n (xs ++ ys) ≡ xs
read_back n xs ys is = take-append-le n xs ys (omega arith) ∙ take_all n xs (omega arith)

module _ (events : ℕ → Option Event) (p : ℕ) where
  column_same : (f g : ℕ → Option ℕ) (n : ℕ) (k m : Known) → ((t : ℕ) → t < n → f t ≡ g t) → LoadsColumn events p f n k m → LoadsColumn events p g n k m
  column_same f g zero k m same loads = loads
  column_same f g (suc n) k m same (between, before, made) = (
    between,
    column_same f g n k between (λ t l. same t (omega arith)) before,
    subst (λ o. IfAsked (is_some (events n)) (AnswersPhase n p o) between m) (same n (omega arith)) made,
  )

  -- with one task more, whose word is loaded where it is asked for
  pub column_next :
      (f g : ℕ → Option ℕ) (t : ℕ) (answer : Option ℕ) (k j m : Known) → LoadsColumn events p f t k j →
      IfAsked (is_some (events t)) (AnswersPhase t p answer) j m → g ≡ updated f t answer → LoadsColumn events p g (t + 1) k m
  column_next f g t answer k j m before made is =
      subst (λ n. LoadsColumn events p g n k m) (sym (add-one t)) (
        j,
        column_same f g t k j (λ u l. sym (updated_other f t u answer (λ e. absurd (omega arith))) ∙ ap (λ h. h u) (sym is)) before,
        subst (λ o. IfAsked (is_some (events t)) (AnswersPhase t p o) j m) (sym (ap (λ h. h t) is ∙ updated_same f t t answer refl)) made,
      )

  -- a column is loads alone, which leave the finds
  pub record GoesDown (k m : Known) : Type 0 where
    pub goes : LoadsAlone k m
    pub finds : (u : ℕ) → (seen m.view).found u ≡ (seen k.view).found u

  down_itself : (k m : Known) → IsSeat k → m ≡ k → GoesDown k m
  down_itself k m seat same = subst (GoesDown k) (sym same) (record { goes = goes_itself k seat; finds = λ u. refl })

  down_if :
      (b : Bool) (t : ℕ) (answer : Option ℕ) (k m : Known) → IsSeat k → t < length k.view.plan.parents → IfAsked b (AnswersPhase t p answer) k m → GoesDown k m
  down_if true t answer k m seat small made =
      record { goes = (phase_load k m t p answer small made).goes; finds = made.load.seen_now.found }
  down_if false t answer k m seat small made = down_itself k m seat made

  module _ (plan : Plan) (column : ℕ → Option ℕ) where
    small_of : (k m : Known) (t : ℕ) → k.view.plan ≡ plan → LoadsAlone k m → t < length plan.parents → t < length m.view.plan.parents
    small_of k m t of goes small = subst (λ (q : Plan). t < length q.parents) (sym (goes.same.plan ∙ of)) small

    pub column_goes : (n : ℕ) (k m : Known) → k.view.plan ≡ plan → n ≤ length plan.parents → IsSeat k → LoadsColumn events p column n k m → GoesDown k m
    column_goes zero k m of few seat same = down_itself k m seat same
    column_goes (suc t) k m of few seat (between, before, made) =
        let x = column_goes t k between of (omega arith) seat before in
        let y = down_if (is_some (events t)) t (column t) between m x.goes.kept (small_of k between t of x.goes (omega arith)) made in
        record { goes = goes_both k between m x.goes y.goes; finds = λ u. y.finds u ∙ x.finds u }

    -- the load of one of them
    pub column_of :
        (n : ℕ) (k m : Known) → k.view.plan ≡ plan → n ≤ length plan.parents → IsSeat k → LoadsColumn events p column n k m → (t : ℕ) → t < n →
        is_some (events t) ≡ true → PhaseLoad t p (column t) k m
    column_of zero k m of few seat loads t l is = absurd (omega arith)
    column_of (suc n) k m of few seat (between, before, made) t l is =
        let goes = (column_goes n k between of (omega arith) seat before).goes in
        let within = small_of k between n of goes (omega arith) in
        let last = (down_if (is_some (events n)) n (column n) between m goes.kept within made).goes in
        elim (cases_eq t n) [
          | inl e ↦
              last_load t p (column t) k between m goes (subst (λ x. x < length between.view.plan.parents) (sym e) within)
              (subst (λ x. AnswersPhase x p (column x) between m) (sym e)
              (subst (λ b. IfAsked b (AnswersPhase n p (column n)) between m) (ap (λ x. is_some (events x)) (sym e) ∙ is) made))
          | inr ne ↦ load_before t p (column t) k between m (column_of n k between of (omega arith) seat before t (omega arith) is) last
        ]

module _ (f : Findings) (p : ℕ) where
  abbrev awaited : Bool
  awaited = awaited_in_findings f p

  abbrev s : State
  s = state_of_findings f

  -- with one task more, of which the phase that counts is kept
  pub keeps_next :
      (old new : List (Option ℕ)) (t : ℕ) (answer used : Option ℕ) (k j m : Known) → KeepsColumn f p old t k j →
      IfAsked (is_some (event_for f.events.items t)) (AnswersPhase t p answer) j m → used ≡ phase_used awaited s p (λ u. answer) t →
      phase_in new ≡ updated (phase_in old) t used → KeepsColumn f p new (t + 1) k m
  keeps_next old new t answer used k j m before made counts is =
      let loaded : ℕ → Option ℕ = updated before.loaded t answer in
      record {
        loaded = loaded;
        loads = column_next (event_for f.events.items) p before.loaded loaded t answer k j m before.loads made refl;
        kept = λ u l. elim (cases_eq u t) [
          | inl e ↦
              ap (λ g. g u) is ∙ updated_same (phase_in old) t u used e ∙ counts
              ∙ ap (λ o. phase_used awaited s p (λ _. o) t) (sym (updated_same before.loaded t t answer refl)) ∙ ap (phase_used awaited s p loaded) (sym e)
          | inr n ↦
              ap (λ g. g u) is ∙ updated_other (phase_in old) t u used n ∙ before.kept u (omega arith)
              ∙ ap (λ o. phase_used awaited s p (λ _. o) u) (sym (updated_other before.loaded t u answer n))
        ];
      }

  none_past : (u : ℕ) (loaded : ℕ → Option ℕ) → f.tasks ≤ u → phase_used awaited s p loaded u ≡ None
  none_past u loaded past =
      let within : length f.events.items ≤ u = (let count = f.task_count in let counted : vec_len f.events ≡ length f.events.items = f.events.ok.0 in omega arith) in
      ap (λ o. if is_some (unwrap_or o None) then (if awaited then s.phases u p else loaded u) else None) (slice_get_past f.events.items u within)

  -- so the column has the phases that count
  pub column_used :
      (column : List (Option ℕ)) (k m : Known) → length column ≡ f.tasks → (x : KeepsColumn f p column f.tasks k m) → phase_in column ≡ phase_used awaited s p x.loaded
  column_used column k m count x = fun_ext (λ u. elim (cases_lt u f.tasks) [
    | inl l ↦ x.kept u l
    | inr past ↦ get_or_past column u None (omega arith) ∙ sym (none_past u x.loaded past)
  ])
