-- Whoever is stuck became so by a line, and a wait by which anybody becomes stuck makes its own task stuck.
use Rattle.std.proofs.Common.{◌≡◌, ℕ, Bool, true, ◌&&◌, List, [], ◌∷◌, ◌++◌, ap, sym, refl, subst, ◌⊎◌, inl, inr}
use Rattle.std.specs.Prelude.{◌==◌, bytes_eq}
use Rattle.std.specs.List.{list_any}
use Rattle.std.proofs.lemmas.Bool.{and_from, and_parts, cases_Bool, eq-eqb, eqb-true}
use Rattle.std.proofs.lemmas.Slice.Eq.{bytes_eq-Decides}
use Rattle.armus_base.proofs.Elements.{nothing_in_nil}
use Rattle.monitor_laws.specs.Lines.{TraceLine, SaysNothing, AsksReport, AsksList, AreGone, Announces, PlaysAny, PlaysOneOf, Waits}
use Rattle.monitor_laws.specs.States.{Condition, Running, Waiting, Ended, AnyTask, OneOf, Participant, TraceState, after_lines}
use Rattle.monitor_laws.specs.Faults.{waits_now}
use Rattle.monitor_laws.specs.Stuck.{IsStuck}
use Rattle.monitor_laws.specs.Guards.{IsRefusedWait}
use Rattle.monitor_laws.specs.Told.{AllWereTold, IsGreatestClosedSet, IsStuckByNumber, OwnWaitSticks, StuckWereTold, WasTold}
use Rattle.monitor_laws.proofs.Filters.{any_from, any_is}
use Rattle.monitor_laws.proofs.Lawful.{lawful_lines}
use Rattle.monitor_laws.proofs.Guarding.{stuck_before}
use Rattle.monitor_laws.proofs.Told.{all_are_told}
use Rattle.monitor_laws.proofs.Known.{stuck_is_known}

waits_as : (c : Condition) → waits_now c ≡ true → (p : List ℕ) × (n : ℕ) × (c ≡ Waiting p n)
waits_as Running e = absurd (cc)
waits_as (Waiting p n) e = (p, n, refl)
waits_as Ended e = absurd (cc)
waits_as AnyTask e = absurd (cc)
waits_as (OneOf names tasks) e = absurd (cc)

-- the list behind its first
abbrev tail_of : List TraceLine → List TraceLine
tail_of [] = []
tail_of (l ∷ h) = h

-- the name that a line of a task has
abbrev pub name_of : TraceLine → List ℕ
name_of SaysNothing = []
name_of AsksReport = []
name_of AsksList = []
name_of (AreGone beginning) = []
name_of (Announces t what place) = t
name_of (PlaysAny w) = w
name_of (PlaysOneOf w names) = w

-- it waits, stands in the greatest closed set, and passes a test
abbrev passes : (ℕ → Bool) → (Participant → Bool) → Participant → Bool
passes known test t = (waits_now t.condition && known t.number) && test t

-- some stuck task passes a test, or none does
pub stuck_or_none : (s : TraceState) (test : Participant → Bool) → ((t : Participant) × IsStuck s t × (test t ≡ true)) ⊎ ((t : Participant) → IsStuck s t → test t ≡ true → ⊥)
stuck_or_none s test = by_set (stuck_is_known s).0 (stuck_is_known s).1
  where
    by_set : (known : ℕ → Bool) → IsGreatestClosedSet s known → ((t : Participant) × IsStuck s t × (test t ≡ true)) ⊎ ((t : Participant) → IsStuck s t → test t ≡ true → ⊥)
    by_set known is = elim (cases_Bool (list_any (passes known test) s.list)) [
      | inl some ↦
          (let t = any_is (passes known test) s.list some in
          let both = and_parts (waits_now t.0.condition && known t.0.number) (test t.0) t.2 in
          let parts = and_parts (waits_now t.0.condition) (known t.0.number) both.0 in
          inl (t.0, record { listed = t.1; waits = waits_as t.0.condition parts.0; set = known; closed = is.closed; inside = parts.1 }, both.1))
      | inr none ↦ inr (λ t stuck on.
          let inside = is.greatest stuck.set stuck.closed t stuck.listed stuck.inside in
          let (p, n, waits) = stuck.waits in
          let a = any_from (passes known test) s.list t stuck.listed (and_from (waits_now t.condition && known t.number) (test t) (and_from (waits_now t.condition) (known t.number) (ap waits_now waits) inside) on) in
          cc)
    ]

-- is the task with this number stuck?
by_number : (s : TraceState) (k : ℕ) → IsStuckByNumber s k ⊎ (IsStuckByNumber s k → ⊥)
by_number s k = elim (stuck_or_none s (λ t. t.number == k)) [
  | inl some ↦ inl (some.0, some.1, eqb-true some.0.number k some.2)
  | inr none ↦ inr (λ is. none is.0 is.1 (eq-eqb is.0.number k is.2))
]

told_by_number : (h : List TraceLine) (k : ℕ) → IsStuckByNumber (after_lines h) k → WasTold h k
told_by_number [] k is = absurd (nothing_in_nil is.0 is.1.listed)
told_by_number (l ∷ h) k is = elim (by_number (after_lines h) k) [
  | inr was_not ↦ record {
    later = [];
    line = l;
    before = h;
    is = refl;
    was_not = was_not;
    since = λ last more parts. subst (λ x. IsStuckByNumber (after_lines (x ++ l ∷ h)) k) (sym (no_more last more parts)) is;
  }
  | inl was ↦ (let told = told_by_number h k was in
      record {
        later = l ∷ told.later;
        line = told.line;
        before = told.before;
        is = ap (λ x. l ∷ x) told.is;
        was_not = told.was_not;
        since = still l h k is told;
      })
]
  where
    no_more : (last more : List TraceLine) → [] ≡ last ++ more → more ≡ []
    no_more [] more parts = sym parts
    no_more (d ∷ last) more parts = absurd (cc)

    still :
        (l : TraceLine) (h : List TraceLine) (k : ℕ) → IsStuckByNumber (after_lines (l ∷ h)) k → (told : WasTold h k) (last more : List TraceLine) →
        l ∷ told.later ≡ last ++ more → IsStuckByNumber (after_lines (more ++ told.line ∷ told.before)) k
    still l h k is told [] more parts =
        subst (λ x. IsStuckByNumber (after_lines (x ++ told.line ∷ told.before)) k) parts (subst (λ x. IsStuckByNumber (after_lines (l ∷ x)) k) told.is is)
    still l h k is told (d ∷ last) more parts = told.since last more (ap tail_of parts)

pub stuck_were_told : StuckWereTold
stuck_were_told h t stuck = told_by_number h t.number (t, stuck, refl)

pub all_were_told : AllWereTold
all_were_told h c t h_none c_none same stuck =
    let (u, there, is) = all_are_told h c t h_none c_none same stuck in
    (u, stuck_were_told c u there, there, is)

pub own_wait_sticks : OwnWaitSticks
own_wait_sticks h t p n place u now was_not = elim (stuck_or_none (after_lines (Announces t (Waits p n) place ∷ h)) (λ v. bytes_eq t v.name)) [
  | inl own ↦ (own.0, own.1, sym ((bytes_eq-Decides t own.0.name).0 own.2))
  | inr none ↦ absurd (was_not (stuck_before (after_lines h) (lawful_lines h) t p n place (λ refused. none refused.task refused.stuck (same_name refused.task.name (same_task refused))) u now))
]
  where
    same_name : (x : List ℕ) → t ≡ x → bytes_eq t x ≡ true
    same_name x is = (bytes_eq-Decides t x).1 is

    same_task : (refused : IsRefusedWait (after_lines h) (Announces t (Waits p n) place)) → t ≡ refused.task.name
    same_task refused = ap name_of refused.is
