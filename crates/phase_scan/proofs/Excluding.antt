-- Who lies on no cycle of the statuses that are supposed, by the phases that were found.
use Rattle.std.proofs.Common.{◌≡◌, ◌≢◌, ℕ, ◌<◌, Bool, true, false, List, Option, Some, None, length, get_or, sym, refl, ap, ◌∙◌, subst, arith, inl, inr}
use Rattle.std.specs.Prelude.{IfSome, unwrap_or}
use Rattle.std.proofs.lemmas.Bool.{cases_eq, cases_lt, false≢true}
use Rattle.std.proofs.lemmas.Option.{slice_get_past}
use Rattle.armus_base.specs.declared.event.Event.{Event}
use Rattle.armus_base.specs.declared.ids.PhaserId.{PhaserId}
use Rattle.armus_base.specs.declared.status.Member.{Member}
use Rattle.armus_base.specs.declared.status.Status.{Status}
use Rattle.armus_base.specs.CheckedPlans.{IsCheckedPlan}
use Rattle.armus_base.specs.Deadlocks.{IsListedAt}
use Rattle.armus_base.specs.calls.FinalLaws.{AreStatuses}
use Rattle.armus_base.specs.Finals.{is_event_of, statuses_on}
use Rattle.armus_base.specs.Places.{some_before}
use Rattle.armus_base.specs.Plans.{Plan}
use Rattle.armus_base.specs.States.{Phases, State, updated}
use Rattle.armus_base.proofs.Fixed.{some_before_from}
use Rattle.armus_base.proofs.StatusesAre.{statuses_are}
use Rattle.armus_base.proofs.Steps.{updated_other, updated_same}
use Rattle.armus_base.specs.calls.StatusLists.{is_marked}
use Rattle.phase_scan.specs.calls.OffCycle.{ImpedesSome, IsImpeded, IsOffCycle}
use Rattle.phase_scan.specs.calls.Tables.{state_supposed}
use Rattle.phase_scan.specs.inside.Behind.{ExcludesCycle, IsBehind, IsBehindGiven}

-- the phaser of an event on which a task was found waiting is marked, so it is one of the marks
pub phaser_within :
    (events : ℕ → Option Event) (marks : List Bool) (tasks u : ℕ) (o : Option Event) → ((p : ℕ) → is_marked marks p ≡ some_before (λ t. is_event_of p (events t)) tasks) →
    u < tasks → events u ≡ o → IfSome o (λ e. e.p.0 < length marks)
phaser_within events marks tasks u None marked l is = tt
phaser_within events marks tasks u (Some e) marked l is =
    let on : is_event_of e.p.0 (events u) ≡ true = ap (is_event_of e.p.0) is ∙ same_phaser e in
    let mark : is_marked marks e.p.0 ≡ true = marked e.p.0 ∙ some_before_from (λ t. is_event_of e.p.0 (events t)) tasks u l on in
    elim (cases_lt e.p.0 (length marks)) [
      | inl within ↦ within
      | inr past ↦ absurd (false≢true (sym (ap (λ o. unwrap_or o false) (slice_get_past marks e.p.0 past)) ∙ mark))
    ]
  where
    same_phaser : (e : Event) → is_event_of e.p.0 (Some e) ≡ true
    same_phaser e = grind (arith)

is_behind : (o : Option ℕ) (n : ℕ) (e : Event) → o ≡ Some n → n < e.n → IsBehind o e
is_behind o n e is below = subst (λ x. IsBehind x e) (sym is) below

at_phaser :
    (ms : List Member) (i : ℕ) (m : Member) (p : PhaserId) → m.p ≡ p → get_or ms i m ≡ m →
    get_or ms i (record { p = record { 0 = p.0 }; n = m.n }) ≡ record { p = record { 0 = p.0 }; n = m.n }
at_phaser ms i m p same there = subst (λ v. get_or ms i v ≡ v) (λ j. record { p = same j; n = m.n }) there

one_event : (x y : Event) → Some x ≡ Some y → x ≡ y
one_event x y h = cc

module _ (plan : Plan) (checked : IsCheckedPlan plan) (found : State) (t : ℕ) (event : Event) (own : Phases) (column : ℕ → Option ℕ) (asked : ℕ → Bool) where
  abbrev s : State
  s = state_supposed found t event own column

  abbrev list : List Status
  list = statuses_on plan s asked

  are : AreStatuses plan s asked list
  are = statuses_are plan s asked checked

  -- a phase that is listed of the own task, and one of another on the event's phaser
  own_at : (u q n : ℕ) → u ≡ t → IsListedAt list u q n → own q ≡ Some n
  own_at u q n same at =
      sym (ap (λ (m : Phases). m q) (updated_same (λ w. updated (found.phases w) event.p.0 (column w)) t u own same)) ∙ ((are.phases u q n).0 at).phase

  column_at : (u n : ℕ) → u ≢ t → IsListedAt list u event.p.0 n → column u ≡ Some n
  column_at u n other at =
      sym (updated_same (found.phases u) event.p.0 event.p.0 (column u) refl)
      ∙ sym (ap (λ (m : Phases). m event.p.0) (updated_other (λ w. updated (found.phases w) event.p.0 (column w)) t u own other))
      ∙ ((are.phases u event.p.0 n).0 at).phase

  unimpeded : (IsBehind (own event.p.0) event → ⊥) → ((u : ℕ) → IsBehind (column u) event → ⊥) → IsImpeded list event → ⊥
  unimpeded ahead none (k, x, few, here, (i, m, within, there, (same, below))) =
      let at : IsListedAt list x.t.0 event.p.0 m.n = (x, (k, few, here), refl, (i, within, at_phaser x.phases i m event.p same there)) in
      elim (cases_eq x.t.0 t) [
        | inl e ↦ ahead (is_behind (own event.p.0) m.n event (own_at x.t.0 event.p.0 m.n e at) below)
        | inr n ↦ none x.t.0 (is_behind (column x.t.0) m.n event (column_at x.t.0 m.n n at) below)
      ]

  harmless :
      (IsBehind (own event.p.0) event → ⊥) → ((u : ℕ) → u < length plan.parents → IsBehindGiven own (found.published u) → ⊥) → ImpedesSome list t → ⊥
  harmless ahead none (k, x, few, here, (is_t, (j, u, few_u, here_u, (i, m, within, there, (same, below))))) =
      let at : IsListedAt list x.t.0 u.event.p.0 m.n = (x, (k, few, here), refl, (i, within, at_phaser x.phases i m u.event.p same there)) in
      let behind : IsBehind (own u.event.p.0) u.event = is_behind (own u.event.p.0) m.n u.event (own_at x.t.0 u.event.p.0 m.n is_t at) below in
      let on = (are.events u.t.0 u.event).0 (u, (j, few_u, here_u), refl, refl) in
      elim (cases_eq u.t.0 t) [
        | inl e ↦
            ahead (subst (λ (f : Event). IsBehind (own f.p.0) f) (one_event u.event event (sym on.1 ∙ updated_same found.published t u.t.0 (Some event) e)) behind)
        | inr n ↦ none u.t.0 on.0 (subst (IsBehindGiven own) (sym on.1 ∙ updated_other found.published t u.t.0 (Some event) n) behind)
      ]

  pub off_cycle : ExcludesCycle found.published (length plan.parents) event own column → IsOffCycle list t event
  off_cycle off = elim off.apart [
    | inl none ↦ inl (unimpeded off.ahead none)
    | inr none ↦ inr (harmless off.ahead none)
  ]
