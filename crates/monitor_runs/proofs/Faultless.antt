-- Lines at which the table of faults finds nothing.
use Rattle.std.proofs.Common.{◌≡◌, Bool, true, false, ◌&&◌, ◌||◌, not, None, List, [], ◌∷◌, ◌++◌, refl, ◌∙◌, ap, inl, inr}
use Rattle.std.specs.Prelude.{ℕ, length, nat_le, bytes_eq}
use Rattle.std.specs.List.{list_any}
use Rattle.std.proofs.lemmas.Bool.{cases_Bool, and_parts, cond-false}
use Rattle.monitor_laws.specs.Lines.{Announcement, Announces}
use Rattle.monitor_laws.specs.States.{Condition, Running, Waiting, Ended, AnyTask, OneOf, Participant, TraceState, is_live_task, is_live_wildcard, is_there_as}
use Rattle.monitor_laws.specs.Faults.{LineFault, NamesWildcard, StillWaits, TooManyListed, TooManyMemberships, fault_where, faults_of, has_no_room, is_go, is_join, is_of_tasks, is_wildcard_in, memberships_in, most_listed, most_memberships, participant_in, said_faults, waits_now}
use Rattle.monitor_laws.proofs.Filters.{any_is}
use Rattle.monitor_runs.proofs.Named.{AllLive}

pub none_where : (holds : Bool) (fault : LineFault) → holds ≡ false → fault_where holds fault ≡ []
none_where holds fault off = cond-false holds (fault ∷ []) [] off

pub and_false : (a b : Bool) → b ≡ false → (a && b) ≡ false
and_false true b off = off
and_false false b off = refl

pub all_empty : (a b c d e : List LineFault) → a ≡ [] → b ≡ [] → c ≡ [] → d ≡ [] → e ≡ [] → a ++ b ++ c ++ d ++ e ≡ []
all_empty a b c d e no_a no_b no_c no_d no_e =
    ap (λ x. x ++ b ++ c ++ d ++ e) no_a ∙ ap (λ x. x ++ c ++ d ++ e) no_b ∙ ap (λ x. x ++ d ++ e) no_c ∙ ap (λ x. x ++ e) no_d ∙ no_e

no_wildcard : (s : TraceState) → AllLive s → (t : List ℕ) → is_wildcard_in s t ≡ false
no_wildcard s live t = elim (cases_Bool (is_wildcard_in s t)) [
  | inr off ↦ off
  | inl on ↦ absurd (let u = any_is (λ (v : Participant). is_live_wildcard v.condition && bytes_eq t v.name) s.list on in
      not_both u.0.condition (live u.0 u.1) (and_parts (is_live_wildcard u.0.condition) (bytes_eq t u.0.name) u.2).0)
]
  where
    not_both : (c : Condition) → is_live_task c ≡ true → is_live_wildcard c ≡ true → ⊥
    not_both Running task wild = cc
    not_both (Waiting p n) task wild = cc
    not_both Ended task wild = cc
    not_both AnyTask task wild = cc
    not_both (OneOf names tasks) task wild = cc

-- where all are tasks and there is room
pub record HasRoom (s : TraceState) : Type 0 where
  pub listed : nat_le most_listed (length s.list) ≡ false
  pub memberships : nat_le most_memberships (memberships_in s) ≡ false

pub no_fault :
    (s : TraceState) → AllLive s → HasRoom s → (t : List ℕ) (what : Announcement) → (waits_now (participant_in s t).condition && not (is_go what)) ≡ false →
    said_faults t (participant_in s t) what ≡ [] → faults_of s (Announces t what None) ≡ []
no_fault s live room t what no_wait said =
    all_empty (fault_where (is_wildcard_in s t && (is_of_tasks what || false)) (NamesWildcard t))
    (fault_where (waits_now (participant_in s t).condition && not (is_go what)) (StillWaits t))
    (said_faults t (participant_in s t) what)
    (fault_where (has_no_room s t) TooManyListed)
    (fault_where (is_join what && nat_le most_memberships (memberships_in s)) TooManyMemberships)
    (none_where (is_wildcard_in s t && (is_of_tasks what || false)) (NamesWildcard t) (ap (λ b. b && (is_of_tasks what || false)) (no_wildcard s live t)))
    (none_where (waits_now (participant_in s t).condition && not (is_go what)) (StillWaits t) no_wait)
    said
    (none_where (has_no_room s t) TooManyListed (and_false (not (list_any (is_there_as t) s.list)) (nat_le most_listed (length s.list)) room.listed))
    (none_where (is_join what && nat_le most_memberships (memberships_in s)) TooManyMemberships (and_false (is_join what) (nat_le most_memberships (memberships_in s)) room.memberships))
