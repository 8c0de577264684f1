-- Where nobody has ended and there is no wildcard, stuck is deadlocked.
use Rattle.std.proofs.Common.{◌≡◌, ℕ, Bool, true, ◌&&◌, ◌||◌, List, refl, sym, ◌∙◌, ap, subst, inl, inr, arith}
use Rattle.std.specs.Prelude.{Contains, eqb}
use Rattle.std.specs.List.{list_any}
use Rattle.std.proofs.lemmas.Bool.{and_from, and_parts, eq-eqb, eqb-true, or_cases, or_left, or_right}
use Rattle.armus_base.specs.Deadlocks.{IsDead, IsImpededWithin}
use Rattle.monitor_laws.specs.States.{Condition, Running, Waiting, Ended, AnyTask, OneOf, Participant, TraceState, after_lines, is_live_task}
use Rattle.monitor_laws.specs.Faults.{phase_on}
use Rattle.monitor_laws.specs.Stuck.{IsClosedSet, IsKeptIn, IsStuck}
use Rattle.monitor_laws.specs.DeadlockLaws.{AwaitsByNumber, HasPhaseByNumber, StuckIsDeadlocked, UnionsAreClosed}
use Rattle.monitor_laws.proofs.Filters.{any_from, any_is}
use Rattle.monitor_laws.proofs.Lawful.{lawful_lines}
use Rattle.monitor_laws.proofs.Phases.{below_from, below_is}

module _ (s : TraceState) (number : List ℕ → ℕ) (live : (u : Participant) → Contains s.list u → is_live_task u.condition ≡ true) (set : ℕ → Bool) (closed : IsClosedSet s set) where
  -- the numbers of the set that are listed
  abbrev listed_set : ℕ → Bool
  listed_set k = set k && list_any (λ u. eqb u.number k) s.list

  in_listed : (u : Participant) → Contains s.list u → set u.number ≡ true → listed_set u.number ≡ true
  in_listed u within inside =
      and_from (set u.number) (list_any (λ v. eqb v.number u.number) s.list) inside (any_from (λ v. eqb v.number u.number) s.list u within (eq-eqb u.number u.number refl))

  impeded_by : (u : Participant) → Contains s.list u → (k : ℕ) → u.number ≡ k → (c : Condition) → u.condition ≡ c → is_live_task c ≡ true → IsKeptIn s set c → IsImpededWithin (AwaitsByNumber s number) (HasPhaseByNumber s number) listed_set k
  impeded_by u within k is Running waits alive kept = absurd kept
  impeded_by u within k is (Waiting p n) waits alive (v, in_v, below, inside) =
      let b = below_is (phase_on v p) n below in
      record {
        event = record { p = record { 0 = number p }; n = n };
        waits = (u, within, is, p, n, waits, refl, refl);
        by = v.number;
        inside = in_listed v in_v inside;
        phase = b.0;
        impedes = (v, in_v, refl, p, refl, b.1);
        below = b.2;
      }
  impeded_by u within k is Ended waits alive kept = absurd (cc)
  impeded_by u within k is AnyTask waits alive kept = absurd (cc)
  impeded_by u within k is (OneOf names tasks) waits alive kept = absurd (cc)

  dead_by : (k : ℕ) → listed_set k ≡ true → IsImpededWithin (AwaitsByNumber s number) (HasPhaseByNumber s number) listed_set k
  dead_by k inside =
      let parts = and_parts (set k) (list_any (λ u. eqb u.number k) s.list) inside in
      let u = any_is (λ (v : Participant). eqb v.number k) s.list parts.1 in
      let is = eqb-true u.0.number k u.2 in
      impeded_by u.0 u.1 k is u.0.condition refl (live u.0 u.1) (closed u.0 u.1 (ap set is ∙ parts.0))

pub stuck_is_deadlocked : StuckIsDeadlocked
stuck_is_deadlocked h number t one live within = (dead, stuck)
  where
    s : TraceState
    s = after_lines h

    dead : IsStuck s t → IsDead (AwaitsByNumber s number) (HasPhaseByNumber s number) t.number
    dead is =
        let inside = in_listed s number live is.set is.closed t is.listed is.inside in
        record { tasks = listed_set s number live is.set is.closed; inside = inside; deadlocked = record { some = (t.number, inside); each = dead_by s number live is.set is.closed } }

    -- a participant with this number is the one who waits
    waits_as : (set : ℕ → Bool) (u : Participant) → Contains s.list u → IsImpededWithin (AwaitsByNumber s number) (HasPhaseByNumber s number) set u.number → (p : List ℕ) × (n : ℕ) × (u.condition ≡ Waiting p n) × IsKeptIn s set (Waiting p n)
    waits_as set u in_u held =
        let w = held.waits in
        let same : w.0 ≡ u = (lawful_lines h).one_number w.0 u w.1 in_u w.2 in
        let i = held.impedes in
        let p : i.3 ≡ w.3 = one i.3 w.3 (i.4 ∙ sym w.6) in (
          w.3,
          w.4,
          ap (λ (x : Participant). x.condition) (sym same) ∙ w.5,
          (i.0, i.1, below_from (phase_on i.0 w.3) held.phase w.4 (ap (phase_on i.0) (sym p) ∙ i.5) (let b = held.below in let e = w.7 in omega arith), ap set i.2 ∙ held.inside),
        )

    stuck : IsDead (AwaitsByNumber s number) (HasPhaseByNumber s number) t.number → IsStuck s t
    stuck is =
        let own = waits_as is.tasks t within (is.deadlocked.each t.number is.inside) in
        record {
          listed = within;
          waits = (own.0, own.1, own.2);
          set = is.tasks;
          closed = λ u in_u inside. let w = waits_as is.tasks u in_u (is.deadlocked.each u.number inside) in subst (λ c. IsKeptIn s is.tasks c) (sym w.2) w.3;
          inside = is.inside;
        }

-- a larger set keeps whom a smaller one keeps
pub kept_in_larger : (s : TraceState) (small large : ℕ → Bool) → ((u : Participant) → Contains s.list u → small u.number ≡ true → large u.number ≡ true) → (c : Condition) → IsKeptIn s small c → IsKeptIn s large c
kept_in_larger s small large more Running kept = kept
kept_in_larger s small large more (Waiting p n) (u, within, below, inside) = (u, within, below, more u within inside)
kept_in_larger s small large more Ended kept = tt
kept_in_larger s small large more AnyTask all = λ u within live. more u within (all u within live)
kept_in_larger s small large more (OneOf names tasks) all = λ u within live has. more u within (all u within live has)

pub unions_are_closed : UnionsAreClosed
unions_are_closed s one other closed too t within inside =
    elim (or_cases (one t.number) (other t.number) inside) [
      | inl here ↦ kept_in_larger s one (λ k. one k || other k) (λ u in_u on. or_left (one u.number) (other u.number) on) t.condition (closed t within here)
      | inr there ↦ kept_in_larger s other (λ k. one k || other k) (λ u in_u on. or_right (one u.number) (other u.number) on) t.condition (too t within there)
    ]
