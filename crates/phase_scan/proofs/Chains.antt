-- The loads of a collect, one after the other: where they lead, and each of them.
use Rattle.std.proofs.Common.{◌≡◌, ℕ, zero, suc, ◌<◌, ◌≤◌, Bool, true, false, length, sym, refl, ap, ◌∙◌, subst, arith, inl, inr}
use Rattle.std.specs.Prelude.{is_some}
use Rattle.std.proofs.lemmas.Bool.{cases_eq}
use Rattle.armus_base.specs.Plans.{Plan}
use Rattle.armus_base.specs.States.{Phases, State}
use Rattle.board.specs.calls.Views.{seen}
use Rattle.board.specs.calls.Seats.{AnswersPhase, IsSeat, Known}
use Rattle.phase_scan.specs.calls.Looks.{LoadsAlone}
use Rattle.phase_scan.specs.calls.Collects.{IfAsked, LoadsRow, LoadsRows}
use Rattle.phase_scan.proofs.Loads.{IsLoadOf, PhaseLoad, goes_both, goes_itself, last_load, load_before, phase_load}

-- loads of words of these tasks alone
pub record GoesAt (Only : ℕ → Type 0) (k m : Known) : Type 0 where
  pub goes : LoadsAlone k m
  pub others : (u : ℕ) → (Only u → ⊥) → (seen m.view).places u ≡ (seen k.view).places u

at_itself : (Only : ℕ → Type 0) (k m : Known) → IsSeat k → m ≡ k → GoesAt Only k m
at_itself Only k m seat same = subst (GoesAt Only k) (sym same) (record { goes = goes_itself k seat; others = λ u none. refl })

at_both : (Only : ℕ → Type 0) (a k m : Known) → GoesAt Only a k → GoesAt Only k m → GoesAt Only a m
at_both Only a k m x y = record { goes = goes_both a k m x.goes y.goes; others = λ u none. y.others u none ∙ x.others u none }

at_load : (Only : ℕ → Type 0) (t : ℕ) (k m : Known) → Only t → IsLoadOf t k m → GoesAt Only k m
at_load Only t k m is load =
    record { goes = load.goes; others = λ u none. load.others u (λ e. none (subst Only (sym e) is)) }

at_wider : (Only Also : ℕ → Type 0) (k m : Known) → ((u : ℕ) → Only u → Also u) → GoesAt Only k m → GoesAt Also k m
at_wider Only Also k m wider x = record { goes = x.goes; others = λ u none. x.others u (λ is. none (wider u is)) }

if_asked :
    (Only : ℕ → Type 0) (b : Bool) (Loads : Known → Known → Type 0) (k m : Known) → IsSeat k → IfAsked b Loads k m →
    (b ≡ true → Loads k m → GoesAt Only k m) → GoesAt Only k m
if_asked Only true Loads k m seat made goes = goes refl made
if_asked Only false Loads k m seat made goes = at_itself Only k m seat made

module _ (plan : Plan) where
  -- the plan of a seat that has gone on
  still : (k m : Known) → k.view.plan ≡ plan → LoadsAlone k m → m.view.plan ≡ plan
  still k m of goes = goes.same.plan ∙ of

  small_of : (k : Known) (t : ℕ) → k.view.plan ≡ plan → t < length plan.parents → t < length k.view.plan.parents
  small_of k t of small = subst (λ (q : Plan). t < length q.parents) (sym of) small

  -- the loads of phase words of one task
  module _ (asked : ℕ → Bool) (t : ℕ) (is_task : t < length plan.parents) (phases : Phases) where
    pub row_goes : (q : ℕ) (k m : Known) → k.view.plan ≡ plan → IsSeat k → LoadsRow asked t phases q k m → GoesAt (λ u. u ≡ t) k m
    row_goes zero k m of seat same = at_itself (λ u. u ≡ t) k m seat same
    row_goes (suc p) k m of seat (between, before, made) =
        let goes = row_goes p k between of seat before in
        at_both (λ u. u ≡ t) k between m goes
        (if_asked (λ u. u ≡ t) (asked p) (AnswersPhase t p (phases p)) between m goes.goes.kept made
        (λ is load. at_load (λ u. u ≡ t) t between m refl (phase_load between m t p (phases p) (small_of between t (still k between of goes.goes) is_task) load)))

    -- the load of one of them
    pub phase_of :
        (q : ℕ) (k m : Known) → k.view.plan ≡ plan → IsSeat k → LoadsRow asked t phases q k m → (p : ℕ) → p < q → asked p ≡ true → PhaseLoad t p (phases p) k m
    phase_of zero k m of seat loads p l is = absurd (omega arith)
    phase_of (suc q) k m of seat (between, before, made) p l is =
        let goes = row_goes q k between of seat before in
        let within = small_of between t (still k between of goes.goes) is_task in
        let last = if_asked (λ u. u ≡ t) (asked q) (AnswersPhase t q (phases q)) between m goes.goes.kept made
        (λ on load. at_load (λ u. u ≡ t) t between m refl (phase_load between m t q (phases q) within load)) in
        elim (cases_eq p q) [
          | inl e ↦
              last_load t p (phases p) k between m goes.goes within
              (subst (λ x. AnswersPhase t x (phases x) between m) (sym e)
              (subst (λ b. IfAsked b (AnswersPhase t q (phases q)) between m) (ap asked (sym e) ∙ is) made))
          | inr ne ↦ load_before t p (phases p) k between m (phase_of q k between of seat before p (omega arith) is) last.goes
        ]

  -- the rows of the tasks found waiting
  module _ (phasers : ℕ) (asked : ℕ → Bool) (found : State) where
    abbrev pub IsWaiting : ℕ → Type 0
    IsWaiting u = is_some (found.published u) ≡ true

    abbrev pub WaitsBelow : ℕ → ℕ → Type 0
    WaitsBelow n u = u < n × IsWaiting u

    one_row :
        (t : ℕ) (k m : Known) → k.view.plan ≡ plan → t < length plan.parents → IsSeat k →
        IfAsked (is_some (found.published t)) (LoadsRow asked t (found.phases t) phasers) k m → GoesAt (WaitsBelow (suc t)) k m
    one_row t k m of small seat made =
        if_asked (WaitsBelow (suc t)) (is_some (found.published t)) (LoadsRow asked t (found.phases t) phasers) k m seat made
        (λ is row. at_wider (λ u. u ≡ t) (WaitsBelow (suc t)) k m
        (λ u e. (omega arith, ap (λ x. is_some (found.published x)) e ∙ is))
        (row_goes asked t small (found.phases t) phasers k m of seat row))

    pub rows_go : (n : ℕ) (k m : Known) → k.view.plan ≡ plan → n ≤ length plan.parents → IsSeat k → LoadsRows phasers asked found n k m → GoesAt (WaitsBelow n) k m
    rows_go zero k m of few seat same = at_itself (WaitsBelow 0) k m seat same
    rows_go (suc t) k m of few seat (between, before, made) =
        let goes = rows_go t k between of (omega arith) seat before in
        at_both (WaitsBelow (suc t)) k between m
        (at_wider (WaitsBelow t) (WaitsBelow (suc t)) k between (λ u w. (let l = w.0 in omega arith, w.1)) goes)
        (one_row t between m (still k between of goes.goes) (omega arith) goes.goes.kept made)

    -- the row of one of them
    pub record Row (t : ℕ) (k m : Known) : Type 0 where
      pub from : Known
      pub to : Known
      pub goes_from : LoadsAlone k from
      pub row : LoadsRow asked t (found.phases t) phasers from to
      pub of : from.view.plan ≡ plan
      pub goes_to : LoadsAlone to m

    pub row_of : (n : ℕ) (k m : Known) → k.view.plan ≡ plan → n ≤ length plan.parents → IsSeat k → LoadsRows phasers asked found n k m → (t : ℕ) → t < n → IsWaiting t → Row t k m
    row_of zero k m of few seat loads t l is = absurd (omega arith)
    row_of (suc n) k m of few seat (between, before, made) t l is =
        let goes = rows_go n k between of (omega arith) seat before in
        let last = one_row n between m (still k between of goes.goes) (omega arith) goes.goes.kept made in
        elim (cases_eq t n) [
          | inl e ↦ record {
            from = between;
            to = m;
            goes_from = goes.goes;
            row = subst (λ x. LoadsRow asked x (found.phases x) phasers between m) (sym e)
                (subst (λ b. IfAsked b (LoadsRow asked n (found.phases n) phasers) between m) (ap (λ x. is_some (found.published x)) (sym e) ∙ is) made);
            of = still k between of goes.goes;
            goes_to = goes_itself m last.goes.kept;
          }
          | inr ne ↦
              let one = row_of n k between of (omega arith) seat before t (omega arith) is in record {
                from = one.from;
                to = one.to;
                goes_from = one.goes_from;
                row = one.row;
                of = one.of;
                goes_to = goes_both one.to between m one.goes_to last.goes;
              }
        ]
