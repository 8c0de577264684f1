-- How many loads a collect makes.
use Rattle.std.proofs.Common.{◌≡◌, ℕ, zero, suc, ◌<◌, ◌+◌, ◌*◌, Bool, true, false, List, Option, Some, None, length, sym, refl, ap, ◌∙◌, subst, arith, inl, inr, length-append, eqb-true}
use Rattle.std.specs.Prelude.{is_some, if◌then◌else◌, option_map, option_to_list}
use Rattle.std.proofs.lemmas.Bool.{cases_eq}
use Rattle.armus_base.specs.declared.event.Event.{Event}
use Rattle.armus_base.specs.declared.status.Status.{Status}
use Rattle.armus_base.specs.Plans.{Plan}
use Rattle.armus_base.specs.States.{Phases, State}
use Rattle.armus_base.specs.Counts.{IsCount}
use Rattle.armus_base.specs.CheckedPlans.{IsCheckedPlan}
use Rattle.armus_base.specs.Finals.{given_below, is_awaited, is_event_of, listed_phase, status_of}
use Rattle.armus_base.proofs.Counts.{count_more, count_none, count_same}
use Rattle.armus_base.proofs.Fixed.{some_before_is}
use Rattle.board.specs.calls.Seats.{AnswersPhase, Known}
use Rattle.phase_scan.specs.calls.Collects.{CountsLoads, IfAsked, IsAwaitedPhaser, IsCollect, LoadsAwaits, LoadsRow, LoadsRows}
use Rattle.phase_scan.proofs.Telling.{are, loaded_of}

-- how many numbers below n pass the test
unfoldable pub count_below : (ℕ → Bool) → ℕ → ℕ
count_below test zero = 0
count_below test (suc n) = if test n then count_below test n + 1 else count_below test n

pub counts_below : (test : ℕ → Bool) (n : ℕ) → IsCount (λ p. p < n × test p ≡ true) (count_below test n)
unfolding count_below
counts_below test zero = count_none (λ p. p < 0 × test p ≡ true) (λ p is. (let l = is.0 in omega arith))
counts_below test (suc n) = by_test (test n) refl (counts_below test n)
  where
    by_test :
        (b : Bool) → test n ≡ b → IsCount (λ p. p < n × test p ≡ true) (count_below test n) →
        IsCount (λ p. p < suc n × test p ≡ true) (if b then count_below test n + 1 else count_below test n)
    by_test true is counts =
        count_more (λ p. p < n × test p ≡ true) (λ p. p < suc n × test p ≡ true) (count_below test n) n counts
        (λ here. (let l = here.0 in omega arith))
        (λ p. (
          λ (l, on). elim (cases_eq p n) [ inl e ↦ inr e | inr ne ↦ inl (omega arith, on) ],
          λ either. elim either [ inl one ↦ (let l = one.0 in omega arith, one.1) | inr e ↦ (omega arith, ap test e ∙ is) ],
        ))
    by_test false is counts =
        count_same (λ p. p < n × test p ≡ true) (λ p. p < suc n × test p ≡ true) (count_below test n) counts
        (λ p. (
          λ (l, on). (omega arith, on),
          λ (l, on). elim (cases_eq p n) [ inl e ↦ absurd (let off = ap test e ∙ is in cc) | inr ne ↦ (omega arith, on) ],
        ))

awaits_loads : (events : ℕ → Option Event) (n : ℕ) (k m : Known) → LoadsAwaits events n k m → m.view.loads ≡ k.view.loads + n
awaits_loads events zero k m same = (let e = ap (λ (j : Known). j.view.loads) same in omega arith)
awaits_loads events (suc t) k m (between, before, finds) =
    let b = awaits_loads events t k between before in let l = finds.load.load.loads in omega arith

row_loads : (asked : ℕ → Bool) (t : ℕ) (phases : Phases) (q : ℕ) (k m : Known) → LoadsRow asked t phases q k m → m.view.loads ≡ k.view.loads + count_below asked q
unfolding count_below
row_loads asked t phases zero k m same = (let e = ap (λ (j : Known). j.view.loads) same in omega arith)
row_loads asked t phases (suc p) k m (between, before, made) = by_test (row_loads asked t phases p k between before) (asked p) made
  where
    by_test :
        between.view.loads ≡ k.view.loads + count_below asked p → (b : Bool) → IfAsked b (AnswersPhase t p (phases p)) between m →
        m.view.loads ≡ k.view.loads + (if b then count_below asked p + 1 else count_below asked p)
    by_test rest true load = (let l = load.load.loads in omega arith)
    by_test rest false same = (let l = ap (λ (j : Known). j.view.loads) same in omega arith)

rows_loads :
    (phasers : ℕ) (asked : ℕ → Bool) (found : State) (n : ℕ) (k m : Known) → LoadsRows phasers asked found n k m →
    m.view.loads ≡ k.view.loads + count_below (λ t. is_some (found.published t)) n * count_below asked phasers
unfolding count_below
rows_loads phasers asked found zero k m same = (let e = ap (λ (j : Known). j.view.loads) same in omega arith)
rows_loads phasers asked found (suc t) k m (between, before, made) =
    by_test (count_below asked phasers) (count_below (λ u. is_some (found.published u)) t) (rows_loads phasers asked found t k between before)
    (λ row. row_loads asked t (found.phases t) phasers between m row) (is_some (found.published t)) made
  where
    by_test :
        (each rest : ℕ) → between.view.loads ≡ k.view.loads + rest * each →
        (LoadsRow asked t (found.phases t) phasers between m → m.view.loads ≡ between.view.loads + each) →
        (b : Bool) → IfAsked b (LoadsRow asked t (found.phases t) phasers) between m → m.view.loads ≡ k.view.loads + (if b then rest + 1 else rest) * each
    by_test each rest before one true row = (let l = one row in omega arith)
    by_test each rest before one false same = (let l = ap (λ (j : Known). j.view.loads) same in omega arith)

statuses_count :
    (plan : Plan) (s : State) (asked : ℕ → Bool) (n : ℕ) → length (given_below (status_of plan s asked) n) ≡ count_below (λ t. is_some (s.published t)) n
unfolding count_below
statuses_count plan s asked zero = refl
statuses_count plan s asked (suc t) =
    length-append (given_below (status_of plan s asked) t) (option_to_list (status_of plan s asked t))
    ∙ by_event (count_below (λ u. is_some (s.published u)) t) (length (given_below (status_of plan s asked) t)) (statuses_count plan s asked t)
    (λ e. record { t = record { 0 = t }; event = e; phases = given_below (listed_phase asked (s.phases t)) (length plan.makers) }) (s.published t)
  where
    by_event :
        (rest n : ℕ) → n ≡ rest → (make : Event → Status) (o : Option Event) →
        n + length (option_to_list (option_map make o)) ≡ (if is_some o then rest + 1 else rest)
    by_event rest n is make None = omega arith
    by_event rest n is make (Some e) = omega arith

-- one load for each task, and one for each status and each awaited phaser
pub counts_loads :
    (before now : Known) (list : List Status) → IsCheckedPlan before.view.plan → 0 < length before.view.plan.parents → IsCollect before.view.plan list before now →
    CountsLoads before.view.plan list before now
counts_loads before now list checked some c =
    record {
      phasers = count_below asked (length plan.makers);
      distinct =
          count_same (λ p. p < length plan.makers × asked p ≡ true) (IsAwaitedPhaser list) (count_below asked (length plan.makers))
          (counts_below asked (length plan.makers)) (λ p. (λ (l, on). awaited p on, λ is. within p is));
      loads =
          (let a = awaits_loads c.found.published (length plan.parents) before c.between c.awaits in
          let r = rows_loads (length plan.makers) asked c.found (length plan.parents) c.between now c.rows in
          let n = ap length c.statuses ∙ statuses_count plan c.found asked (length plan.parents) in
          sums before.view.loads c.between.view.loads now.view.loads (length plan.parents) (count_below (λ t. is_some (c.found.published t)) (length plan.parents))
          (count_below asked (length plan.makers)) (length list) a r n);
    }
  where
    plan : Plan
    plan = before.view.plan

    asked : ℕ → Bool
    asked = is_awaited before.view.plan c.found

    sums : (k b m t w q n : ℕ) → b ≡ k + t → m ≡ b + w * q → n ≡ w → m ≡ k + (t + n * q)
    sums k b m t w q n a r e = subst (λ v. m ≡ k + (t + v * q)) (sym e) (omega arith)

    awaited : (p : ℕ) → asked p ≡ true → IsAwaitedPhaser list p
    awaited p on =
        let (u, l, is) = some_before_is (λ t. is_event_of p (c.found.published t)) (length plan.parents) on in
        by_event u l (c.found.published u) refl is
      where
        by_event : (u : ℕ) → u < length plan.parents → (o : Option Event) → c.found.published u ≡ o → is_event_of p o ≡ true → IsAwaitedPhaser list p
        by_event u l None is on = absurd (cc)
        by_event u l (Some e) is on =
            let (s, inside, same, event) = ((are before now list checked some c).events u e).1 (l, is) in
            (e, (s, inside, event), eqb-true e.p.0 p on)

    within : (p : ℕ) → IsAwaitedPhaser list p → p < length plan.makers × asked p ≡ true
    within p (e, awaited, same) =
        let (s, inside, event) = awaited in
        let loaded = loaded_of before now list checked some c s.t.0 e (s, inside, refl, event) e awaited in
        (subst (λ q. q < length plan.makers) same loaded.2, ap asked (sym same) ∙ loaded.3)
