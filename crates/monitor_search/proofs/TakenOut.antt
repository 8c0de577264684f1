-- Who is taken out stands in no closed set.
use Rattle.std.proofs.Common.{◌≡◌, ℕ, Bool, true, false, ◌&&◌, not, cond, nat_eq, Option, Some, None, List, refl, sym, ◌∙◌, ap, subst, inl, inr}
use Rattle.std.specs.Prelude.{Contains, filter, is_some}
use Rattle.std.specs.List.{list_any}
use Rattle.std.proofs.lemmas.Bool.{and_from, cases_Bool, cond-false, eqb-true, not_from_false}
use Rattle.monitor_laws.specs.States.{Condition, Running, Waiting, Ended, AnyTask, OneOf, Participant, TraceState}
use Rattle.monitor_laws.specs.Faults.{phase_on}
use Rattle.monitor_laws.specs.Stuck.{IsClosedSet, IsKeptIn, has_phase_below, is_phase_below}
use Rattle.monitor_laws.proofs.Filters.{any_from, from_filter, in_filter}
use Rattle.monitor_search.specs.inside.Cascades.{AreOut, HaveMembers, IsFreeWait, IsLeastInside, IsOut, IsPlayedOut}
use Rattle.monitor_search.specs.inside.Leaving.{is_freed}
use Rattle.monitor_search.specs.inside.Partings.{IsParting}
use Rattle.monitor_search.proofs.SurelyOut.{freed_out}

-- whose phase is below is a member
member_of : (phase : Option ℕ) (n : ℕ) → is_phase_below phase n ≡ true → is_some phase ≡ true
member_of None n below = absurd (cc)
member_of (Some m) n below = refl

pub least_is_inside :
    (s : TraceState) (group : List ℕ → List Participant) (out : ℕ → Bool) → HaveMembers s.list group → AreOut s out → (p : List ℕ) (least : Option ℕ) →
    ((n : ℕ) → is_phase_below least n ≡ list_any (λ u. not (out u.number) && has_phase_below u p n) (group p)) → IsLeastInside s p least
least_is_inside s group out members are_out p least is set closed u within inside n below =
    let not_out : out u.number ≡ false = elim (cases_Bool (out u.number)) [ inl on ↦ absurd (let off = are_out set closed u.number on in cc) | inr off ↦ off ] in
    is n
    ∙ any_from (λ v. not (out v.number) && has_phase_below v p n) (group p) u (members u p within (member_of (phase_on u p) n below))
    (and_from (not (out u.number)) (has_phase_below u p n) (not_from_false (out u.number) not_out) below)

pub free_wait_is_out : (s : TraceState) (p : List ℕ) (least : Option ℕ) → IsLeastInside s p least → (t : Participant) → Contains s.list t → IsFreeWait t p least → IsOut s t
free_wait_is_out s p least inside t within (n, waits, above) set closed = elim (cases_Bool (set t.number)) [
  | inr off ↦ off
  | inl on ↦
      absurd (let kept : IsKeptIn s set (Waiting p n) = subst (IsKeptIn s set) waits (closed t within on) in
      let e = inside set closed kept.0 kept.1 kept.3 n kept.2 in
      cc)
]

pub freed_is_out : (s : TraceState) (list : List Participant) → list ≡ s.list → (t : Participant) → Contains list t → is_freed list t.condition ≡ true → IsOut s t
freed_is_out s list same t within freed set closed = elim (cases_Bool (set t.number)) [
  | inr off ↦ off
  | inl on ↦ absurd (freed_out s list (λ u listed runs. subst (λ l. Contains l u) same listed) set closed t.condition freed (closed t (subst (λ l. Contains l t) same within) on))
]

-- one number more
pub out_added : (s : TraceState) (out more : ℕ → Bool) (j : ℕ) → AreOut s out → ((set : ℕ → Bool) → IsClosedSet s set → set j ≡ false) →
    ((k : ℕ) → more k ≡ cond (nat_eq j k) true (out k)) → AreOut s more
out_added s out more j are_out one is set closed k on = elim (cases_Bool (nat_eq j k)) [
  | inl same ↦ ap set (sym (eqb-true j k same)) ∙ one set closed
  | inr other ↦ are_out set closed k (sym (is k ∙ cond-false (nat_eq j k) true (out k) other) ∙ on)
]

-- the list, parted by them
pub parting_of_out : (s : TraceState) (out : ℕ → Bool) → AreOut s out → IsParting s (filter (λ u. not (out u.number)) s.list) (filter (λ u. out u.number) s.list)
parting_of_out s out are_out =
    record {
      chosen = (λ u. not (out u.number), refl);
      listed = λ u within. (from_filter (λ v. out v.number) s.list u within).0;
      covered = λ u within. elim (cases_Bool (out u.number)) [
        | inl on ↦ inr (in_filter (λ v. out v.number) s.list u within on)
        | inr off ↦ inl (in_filter (λ v. not (out v.number)) s.list u within (not_from_false (out u.number) off))
      ];
      out = λ set closed u within. are_out set closed u.number (from_filter (λ v. out v.number) s.list u within).1;
    }

pub played_is_out : (s : TraceState) (out : ℕ → Bool) → AreOut s out → (t : Participant) → Contains s.list t → IsPlayedOut s.list t.condition out → IsOut s t
played_is_out s out are_out t within played set closed = elim (cases_Bool (set t.number)) [
  | inr off ↦ off
  | inl on ↦ absurd (by_condition t.condition played (closed t within on))
]
  where
    by_condition : (c : Condition) → IsPlayedOut s.list c out → IsKeptIn s set c → ⊥
    by_condition Running none kept = none
    by_condition (Waiting p n) none kept = none
    by_condition Ended none kept = none
    by_condition AnyTask none kept = none
    by_condition (OneOf names tasks) (k, has, is_out, (u, listed, same, live)) all =
        let on = all u listed live (subst (Contains tasks) (sym same) has) in
        let off = ap set same ∙ are_out set closed k is_out in
        absurd (cc)
