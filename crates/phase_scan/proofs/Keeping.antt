-- One load more: what is kept of it.
use Rattle.std.proofs.Common.{◌≡◌, ◌≢◌, ℕ, zero, suc, ◌<◌, ◌≤◌, ◌+◌, ◌-◌, Bool, true, false, List, Option, Some, length, get_or, sym, refl, ap, ◌∙◌, subst, arith, add-one}
use Rattle.std.specs.Prelude.{◌||◌, is_some}
use Rattle.std.proofs.lemmas.List.{get_or_default}
use Rattle.armus_base.specs.declared.event.Event.{Event}
use Rattle.armus_base.specs.Plans.{Plan}
use Rattle.armus_base.specs.States.{Phases, State, updated, with_phase}
use Rattle.armus_base.specs.Places.{published_after, refused_at, some_before}
use Rattle.armus_base.specs.Finals.{is_event_of}
use Rattle.armus_base.specs.CheckedPlans.{IsCheckedPlan}
use Rattle.armus_base.specs.calls.Seats.{Found, await_word}
use Rattle.armus_base.proofs.Steps.{updated_other, updated_same, with_phase_other, with_phase_same}
use Rattle.armus_base.specs.calls.StatusLists.{AreNexts, IsNextMarked}
use Rattle.board.specs.calls.Views.{seen}
use Rattle.board.specs.calls.Steps.{IsSameSeat}
use Rattle.board.specs.calls.Seats.{AnswersAwait, AnswersPhase, Frame, IsOf, Known}
use Rattle.phase_scan.specs.calls.Collects.{IfAsked, LoadsAwaits, LoadsRow, LoadsRows, waiting_on}
use Rattle.phase_scan.proofs.ChosenLoads.{chosen_same}
use Rattle.phase_scan.proofs.Loads.{published_phaser}
use Rattle.phase_scan.proofs.Standing.{waits_unrefused, word_published}

-- a seat stays of its board
pub still_of : (k m : Known) (f : Frame) → IsOf k f → m.table ≡ k.table → IsSameSeat k.view m.view → IsOf m f
still_of k m f of table same = record { table = table ∙ of.table; plan = same.plan ∙ of.plan; mode = same.mode ∙ of.mode }

-- the phaser of an event on which a task was found waiting is one of the plan
pub waits_within :
    (k m : Known) (f : Frame) (t : ℕ) (answer : Found) (e : Event) → IsOf k f → AnswersAwait t answer k m → waiting_on answer ≡ Some e → e.p.0 < length f.plan.makers
waits_within k m f t answer e of answers waits =
    let b = (seen m.view).places t in
    let checked : IsCheckedPlan k.view.plan = subst IsCheckedPlan answers.load.same.plan answers.kept.checked in
    let word : await_word k.view.plan t b ≡ answer = answers.load.there (waits_unrefused answer e waits) in
    let on : published_after k.view.plan t b.done ≡ Some e =
    word_published (published_after k.view.plan t b.done) (refused_at k.view.plan t b.done b.dropped) e (ap waiting_on word ∙ waits) in
    subst (λ (q : Plan). e.p.0 < length q.makers) of.plan (published_phaser k.view.plan checked t b.done e on)

-- the loads of await words, with one more
pub awaits_more :
    (f g : ℕ → Option Event) (t : ℕ) (event : Option Event) (answer : Found) (k j m : Known) → LoadsAwaits f t k j → AnswersAwait t answer j m →
    event ≡ waiting_on answer → g ≡ updated f t event → LoadsAwaits g (t + 1) k m
awaits_more f g t event answer k j m before answers waits is =
    subst (λ n. LoadsAwaits g n k m) (sym (add-one t)) (
      j,
      chosen_same (λ u. true) f g t k j (λ u l. sym (updated_other f t u event (λ e. absurd (omega arith))) ∙ ap (λ h. h u) (sym is)) before,
      record { answer = answer; load = answers; waits = ap (λ h. h t) is ∙ updated_same f t t event refl ∙ waits },
    )

-- two tests that agree below a number
pub some_same : (f g : ℕ → Bool) (n : ℕ) → ((t : ℕ) → t < n → f t ≡ g t) → some_before f n ≡ some_before g n
some_same f g zero same = refl
some_same f g (suc n) same =
    ap (λ b. b || some_before f n) (same n (omega arith)) ∙ ap (λ b. g n || b) (some_same f g n (λ t l. same t (omega arith)))

-- the awaited phasers, with one task more
pub awaited_more :
    (f g : ℕ → Option Event) (t p : ℕ) (event : Option Event) (before now : Bool) → before ≡ some_before (λ u. is_event_of p (f u)) t →
    now ≡ (is_event_of p event || before) → g ≡ updated f t event → now ≡ some_before (λ u. is_event_of p (g u)) (t + 1)
awaited_more f g t p event before now was is changed =
    is
    ∙ ap (λ b. is_event_of p event || b) was
    ∙ ap (λ o. is_event_of p o || some_before (λ u. is_event_of p (f u)) t) (sym (ap (λ h. h t) changed ∙ updated_same f t t event refl))
    ∙ ap (λ b. is_event_of p (g t) || b)
    (some_same (λ u. is_event_of p (f u)) (λ u. is_event_of p (g u)) t
    (λ u l. ap (is_event_of p) (sym (updated_other f t u event (λ e. absurd (omega arith))) ∙ ap (λ h. h u) (sym changed))))
    ∙ ap (some_before (λ u. is_event_of p (g u))) (sym (add-one t))

-- the loads of a row, with one more
row_same : (asked : ℕ → Bool) (t : ℕ) (f g : Phases) (n : ℕ) (k m : Known) → ((p : ℕ) → p < n → f p ≡ g p) → LoadsRow asked t f n k m → LoadsRow asked t g n k m
row_same asked t f g zero k m same loads = loads
row_same asked t f g (suc n) k m same (between, before, made) = (
  between,
  row_same asked t f g n k between (λ p l. same p (omega arith)) before,
  subst (λ o. IfAsked (asked n) (AnswersPhase t n o) between m) (same n (omega arith)) made,
)

pub row_more :
    (asked : ℕ → Bool) (t : ℕ) (f g : ℕ → Phases) (p : ℕ) (answer : Option ℕ) (k j m : Known) → LoadsRow asked t (f t) p k j → asked p ≡ true →
    AnswersPhase t p answer j m → g ≡ with_phase f t p answer → LoadsRow asked t (g t) (p + 1) k m
row_more asked t f g p answer k j m before on answers is =
    subst (λ n. LoadsRow asked t (g t) n k m) (sym (add-one p)) (
      j,
      row_same asked t (f t) (g t) p k j
          (λ q l. sym (with_phase_other f t p answer t q (λ e s. absurd (omega arith))) ∙ ap (λ h. h t q) (sym is)) before,
      subst (λ b. IfAsked b (AnswersPhase t p (g t p)) j m) (sym on)
          (subst (λ o. AnswersPhase t p o j m) (sym (ap (λ h. h t p) is ∙ with_phase_same f t p answer)) answers),
    )

pub row_skip :
    (asked : ℕ → Bool) (t : ℕ) (f : Phases) (p : ℕ) (k m : Known) → LoadsRow asked t f p k m → asked p ≡ false → LoadsRow asked t f (p + 1) k m
row_skip asked t f p k m before off =
    subst (λ n. LoadsRow asked t f n k m) (sym (add-one p)) (m, before, subst (λ b. IfAsked b (AnswersPhase t p (f p)) m m) (sym off) refl)

-- up to a number before which nobody else is asked for
pub row_up_to :
    (asked : ℕ → Bool) (t : ℕ) (f : Phases) (d p : ℕ) (k m : Known) → LoadsRow asked t f p k m → ((q : ℕ) → p ≤ q → q < p + d → asked q ≡ false) →
    LoadsRow asked t f (p + d) k m
row_up_to asked t f zero p k m before none = (let same : p ≡ p + 0 = omega arith in subst (λ n. LoadsRow asked t f n k m) same before)
row_up_to asked t f (suc d) p k m before none =
    let same : p + 1 + d ≡ p + suc d = omega arith in
    subst (λ n. LoadsRow asked t f n k m) same
    (row_up_to asked t f d (p + 1) k m (row_skip asked t f p k m before (none p (omega arith) (omega arith))) (λ q a b. none q (omega arith) (omega arith)))

-- what is read of the list of next ones
pub next_read : (asked : ℕ → Bool) (n : ℕ) (nexts : List ℕ) (p r : ℕ) → AreNexts asked n nexts → length nexts ≡ n + 1 → p ≤ n → r ≡ get_or nexts p r → IsNextMarked asked n p r
next_read asked n nexts p r are room few read =
    subst (λ v. IsNextMarked asked n p v) (sym (read ∙ get_or_default nexts p r 0 (omega arith))) (are p few)

-- and to the next one that is
pub row_to_next : (asked : ℕ → Bool) (t : ℕ) (f : Phases) (n p g : ℕ) (k m : Known) → LoadsRow asked t f p k m → IsNextMarked asked n p g → LoadsRow asked t f g k m
row_to_next asked t f n p g k m before next =
    let from = next.from in
    let same : p + (g - p) ≡ g = omega arith in
    subst (λ z. LoadsRow asked t f z k m) same (row_up_to asked t f (g - p) p k m before (λ q a b. next.none q a (omega arith)))

-- a write of a phase of one task leaves those of others
pub others_stay :
    (a f g : ℕ → Phases) (t p : ℕ) (answer : Option ℕ) → g ≡ with_phase f t p answer → (u : ℕ) → u ≢ t → f u ≡ a u → g u ≡ a u
others_stay a f g t p answer is u n same =
    ap (λ h. h u) is ∙ (λ i q. with_phase_other f t p answer u q (λ e. absurd (n e)) i) ∙ same

-- the rows, with one more
rows_same :
    (phasers : ℕ) (asked : ℕ → Bool) (f g : State) (n : ℕ) (k m : Known) → ((t : ℕ) → t < n → f.published t ≡ g.published t) →
    ((t : ℕ) → t < n → f.phases t ≡ g.phases t) → LoadsRows phasers asked f n k m → LoadsRows phasers asked g n k m
rows_same phasers asked f g zero k m same phases loads = loads
rows_same phasers asked f g (suc n) k m same phases (between, before, made) = (
  between,
  rows_same phasers asked f g n k between (λ t l. same t (omega arith)) (λ t l. phases t (omega arith)) before,
  subst (λ o. IfAsked (is_some o) (LoadsRow asked n (g.phases n) phasers) between m) (same n (omega arith))
      (subst (λ (h : Phases). IfAsked (is_some (f.published n)) (LoadsRow asked n h phasers) between m) (phases n (omega arith)) made),
)

pub rows_more :
    (phasers : ℕ) (asked : ℕ → Bool) (f g : State) (t : ℕ) (k j m : Known) → LoadsRows phasers asked f t k j → is_some (f.published t) ≡ true →
    LoadsRow asked t (g.phases t) phasers j m → g.published ≡ f.published → ((u : ℕ) → u ≢ t → g.phases u ≡ f.phases u) → LoadsRows phasers asked g (t + 1) k m
rows_more phasers asked f g t k j m before waits row same others =
    subst (λ n. LoadsRows phasers asked g n k m) (sym (add-one t)) (
      j,
      rows_same phasers asked f g t k j (λ u l. ap (λ h. h u) (sym same)) (λ u l. sym (others u (λ e. absurd (omega arith)))) before,
      subst (λ b. IfAsked b (LoadsRow asked t (g.phases t) phasers) j m) (sym (ap (λ h. is_some (h t)) same ∙ waits)) row,
    )

pub rows_skip :
    (phasers : ℕ) (asked : ℕ → Bool) (f : State) (t : ℕ) (k m : Known) → LoadsRows phasers asked f t k m → is_some (f.published t) ≡ false →
    LoadsRows phasers asked f (t + 1) k m
rows_skip phasers asked f t k m before idle =
    subst (λ n. LoadsRows phasers asked f n k m) (sym (add-one t)) (
      m,
      before,
      subst (λ b. IfAsked b (LoadsRow asked t (f.phases t) phasers) m m) (sym idle) refl,
    )
