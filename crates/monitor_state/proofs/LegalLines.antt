-- What a legal line may change.
use Rattle.std.proofs.Common.{◌≡◌, ℕ, ◌<◌, ◌≤◌, ◌+◌, Bool, true, false, not, ◌&&◌, ◌||◌, Some, None, Option, List, [], ◌∷◌, ◌++◌, length, get_or, subst, refl, sym, ◌∙◌, ap, inl, inr, ◌⊎◌, arith}
use Rattle.std.specs.Prelude.{IfSome, bytes_eq, filter, if◌then◌else◌, is_some, nat_le, unwrap_or}
use Rattle.std.proofs.lemmas.Bool.{cases_Bool, cond-true, cond-false, leb-false}
use Rattle.std.proofs.lemmas.List.{length-append, length-map}
use Rattle.monitor_laws.specs.Lines.{Announcement, Joins, Arrives, Leaves, Waits, Goes, Ends, Stands, Announces, PlaysAny, TraceLine}
use Rattle.monitor_laws.specs.States.{AnyTask, Condition, Ended, OneOf, Participant, Running, Waiting, is_live_task, is_there_as, new_participant, TraceState, announced_by, is_live_wildcard, placed_at}
use Rattle.monitor_laws.specs.Faults.{NamesTask, NamesWildcard, StillWaits, IsMemberAlready, IsNoMember, IsAtLastPhase, TooManyListed, TooManyMemberships, fault_where, faults_of, first_fault, has_no_room, is_go, is_join, is_of_tasks, is_task_in, is_wildcard_in, last_phase, memberships_in, most_memberships, participant_in, phase_on, said_faults, waits_now}
use Rattle.std.specs.Borrow.{Bor}
use Rattle.std.specs.List.{list_any}
use Rattle.std.proofs.lemmas.Bool.{and_parts}
use Rattle.std.proofs.lemmas.List.{get_or_default}
use Rattle.std.proofs.lemmas.List.Folds.{list_any_at}
use Rattle.armus_base.proofs.Lists.{none_first}
use Rattle.monitor_state.specs.inside.FirstPlaces.{IsFirstAt}
use Rattle.monitor_state.proofs.OnePassing.{first_place, found_first, found_none}
use Rattle.trace_lines.specs.Values.{place_value}
use Rattle.monitor_laws.proofs.Rows.{both_tables, no_row}
use Rattle.monitor_state.specs.inside.Changes.{MayAnnounce, memberships_had}
use Rattle.monitor_state.proofs.KeptStates.{HasRoom}

no_phase : (o : Option ℕ) → is_some o ≡ false → o ≡ None
no_phase None none = refl
no_phase (Some m) none = absurd (let e : true ≡ false = none in cc)

below_last : (o : Option ℕ) → not (is_some o) ≡ false → nat_le last_phase (unwrap_or o 0) ≡ false → IfSome o (λ m. m < last_phase)
below_last None some below = absurd (let e : true ≡ false = some in cc)
below_last (Some m) some below = leb-false last_phase m below

-- what is said may be announced
pub may_say : (t : List ℕ) (u : Participant) (what : Announcement) → ((p : List ℕ) (n : ℕ) → what ≡ Waits p n → u.condition ≡ Running) → said_faults t u what ≡ [] → MayAnnounce what u
may_say t u (Joins p n) runs none = no_phase (phase_on u p) (no_row (is_some (phase_on u p)) (IsMemberAlready t p) none)
may_say t u (Arrives p) runs none =
    let rows = both_tables (fault_where (not (is_some (phase_on u p))) (IsNoMember t p)) (fault_where (nat_le last_phase (unwrap_or (phase_on u p) 0)) (IsAtLastPhase t p)) none in
    below_last (phase_on u p) (no_row (not (is_some (phase_on u p))) (IsNoMember t p) rows.0) (no_row (nat_le last_phase (unwrap_or (phase_on u p) 0)) (IsAtLastPhase t p) rows.1)
may_say t u (Leaves p) runs none = tt
may_say t u (Waits p n) runs none = runs p n refl
may_say t u Goes runs none = tt
may_say t u Ends runs none = tt
may_say t u Stands runs none = tt

-- who is there, is no wildcard and does not wait runs, and who comes does
not_wildcard : (s : TraceState) (t : List ℕ) → is_wildcard_in s t ≡ false → (i : ℕ) (u : Participant) → IsFirstAt (is_there_as t) s.list i → u ≡ get_or s.list i u → is_live_wildcard u.condition ≡ false
not_wildcard s t none i u first is = elim (cases_Bool (is_live_wildcard u.condition)) [
  | inr off ↦ off
  | inl on ↦ absurd (
      let there : is_there_as t u ≡ true = subst (λ v. is_there_as t v ≡ true) (sym is) (first.here u) in
      let name : bytes_eq t u.name ≡ true = (and_parts (is_live_task u.condition || is_live_wildcard u.condition) (bytes_eq t u.name) there).1 in
      let both : (is_live_wildcard u.condition && bytes_eq t u.name) ≡ true = ap (λ b. b && bytes_eq t u.name) on ∙ name in
      let some : is_wildcard_in s t ≡ true = list_any_at (λ v. is_live_wildcard v.condition && bytes_eq t v.name) s.list i u first.within (subst (λ v. (is_live_wildcard v.condition && bytes_eq t v.name) ≡ true) is both) in
      let e : true ≡ false = sym some ∙ none in
      cc)
]

runs_there : (c : Condition) → (is_live_task c || is_live_wildcard c) ≡ true → is_live_wildcard c ≡ false → waits_now c ≡ false → c ≡ Running
runs_there Running live wild waits = refl
runs_there (Waiting p n) live wild waits = absurd (let e : true ≡ false = waits in cc)
runs_there Ended live wild waits = absurd (let e : false ≡ true = live in cc)
runs_there AnyTask live wild waits = absurd (let e : true ≡ false = wild in cc)
runs_there (OneOf names tasks) live wild waits = absurd (let e : true ≡ false = wild in cc)

runs_in : (s : TraceState) (t : List ℕ) → is_wildcard_in s t ≡ false → waits_now (participant_in s t).condition ≡ false → (participant_in s t).condition ≡ Running
runs_in s t none waits = elim (cases_Bool (list_any (is_there_as t) s.list)) [
  | inl some ↦
      (let place = first_place (is_there_as t) s.list some in
      let d = new_participant s.named t in
      let u = get_or s.list place.0 d in
      let is : participant_in s t ≡ u = ap (λ o. unwrap_or o d) (found_first (is_there_as t) s.list place.0 d place.1) in
      let read : u ≡ get_or s.list place.0 u = get_or_default s.list place.0 d u place.1.within in
      let live = (and_parts (is_live_task u.condition || is_live_wildcard u.condition) (bytes_eq t u.name) (place.1.here d)).0 in
      ap (λ (v : Participant). v.condition) is
      ∙ runs_there u.condition live (not_wildcard s t none place.0 u place.1 read) (subst (λ (v : Participant). waits_now v.condition ≡ false) is waits))
  | inr nobody ↦ ap (λ o. (unwrap_or o (new_participant s.named t)).condition) (found_none (is_there_as t) s.list nobody)
]

-- a filter is not longer
pub fewer : {A : Type 0} (test : A → Bool) (xs : List A) → length (filter test xs) ≤ length xs
fewer test [] = omega arith
fewer test (x ∷ xs) = by_test (fewer test xs) (cases_Bool (test x))
  where
    by_test : length (filter test xs) ≤ length xs → ((test x ≡ true) ⊎ (test x ≡ false)) → length (filter test (x ∷ xs)) ≤ length (x ∷ xs)
    by_test rest (inl on) = let e = ap length (cond-true (test x) (x ∷ filter test xs) (filter test xs) on) in omega arith
    by_test rest (inr off) = let e = ap length (cond-false (test x) (x ∷ filter test xs) (filter test xs) off) in omega arith

none_or_all : {A : Type 0} (b : Bool) (xs : List A) → length (if b then [] else xs) ≤ length xs
none_or_all true xs = omega arith
none_or_all false xs = omega arith

-- a join is one membership more, and nothing else is more
announced_had : (what : Announcement) (u : Participant) → memberships_had (announced_by what u) ≤ memberships_had u + (if is_join what then 1 else 0)
announced_had (Joins p n) u = let e = length-append u.phases ((p, n) ∷ []) in omega arith
announced_had (Arrives p) u = let e = length-map u.phases (λ m. if bytes_eq p m.0 then (m.0, m.1 + 1) else m) in omega arith
announced_had (Leaves p) u = let e = fewer (λ (m : List ℕ × ℕ). not (bytes_eq p m.0)) u.phases in omega arith
announced_had (Waits p n) u = omega arith
announced_had Goes u = omega arith
announced_had Ends u = let e = none_or_all (is_live_wildcard u.condition) u.phases in omega arith
announced_had Stands u = omega arith

placed_had : (place : Option (List ℕ)) (u : Participant) → memberships_had (placed_at place u) ≡ memberships_had u
placed_had None u = refl
placed_had (Some place) u = refl

one_more : (b : Bool) (sum most a c : ℕ) → sum ≤ most → (b ≡ true → sum < most) → c ≤ a + (if b then 1 else 0) → sum + c ≤ most + a
one_more true sum most a c few joins le = let j = joins refl in omega arith
one_more false sum most a c few joins le = omega arith

first_off : (a b : Bool) → b ≡ true → (a && b) ≡ false → a ≡ false
first_off true b on off = absurd (let e : true ≡ false = sym on ∙ off in cc)
first_off false b on off = refl

-- a legal announcement may be made, and its memberships are few enough
pub record IsAllowed (s : TraceState) (t : List ℕ) (what : Announcement) (place : Option (List ℕ)) : Type 0 where
  pub may : MayAnnounce what (participant_in s t)
  pub room : HasRoom s t (λ u. placed_at place (announced_by what u))
  pub space : has_no_room s t ≡ false

pub allowed : (s : TraceState) (t : List ℕ) (what : Announcement) (place : Option (List ℕ)) → memberships_in s ≤ most_memberships → faults_of s (Announces t what place) ≡ [] → IsAllowed s t what place
allowed s t what place few legal =
    let u = participant_in s t in
    let first = fault_where (is_wildcard_in s t && (is_of_tasks what || is_some place)) (NamesWildcard t) in
    let second = fault_where (waits_now (participant_in s t).condition && not (is_go what)) (StillWaits t) in
    let said = said_faults t (participant_in s t) what in
    let listed = fault_where (has_no_room s t) TooManyListed in
    let many = fault_where (is_join what && nat_le most_memberships (memberships_in s)) TooManyMemberships in
    let most = both_tables (first ++ second ++ said ++ listed) many legal in
    let listed_too = both_tables (first ++ second ++ said) listed most.0 in
    let said_too = both_tables (first ++ second) said listed_too.0 in
    let not_many = no_row (is_join what && nat_le most_memberships (memberships_in s)) TooManyMemberships most.1 in
    let head = both_tables first second said_too.0 in
    let not_of_tasks : (p : List ℕ) (n : ℕ) → what ≡ Waits p n → is_wildcard_in s t ≡ false =
    λ p n waits. first_off (is_wildcard_in s t) (is_of_tasks what || is_some place) (ap (λ w. is_of_tasks w || is_some place) waits) (no_row (is_wildcard_in s t && (is_of_tasks what || is_some place)) (NamesWildcard t) head.0) in
    let not_waiting : (p : List ℕ) (n : ℕ) → what ≡ Waits p n → waits_now u.condition ≡ false =
    λ p n waits. first_off (waits_now u.condition) (not (is_go what)) (ap (λ w. not (is_go w)) waits) (no_row (waits_now u.condition && not (is_go what)) (StillWaits t) head.1) in
    let had = announced_had what u in
    let placed = placed_had place (announced_by what u) in
    record {
      may = may_say t u what (λ p n waits. runs_in s t (not_of_tasks p n waits) (not_waiting p n waits)) said_too.1;
      room =
          one_more (is_join what) (memberships_in s) most_memberships (memberships_had u) (memberships_had (placed_at place (announced_by what u))) few
          (λ joins. leb-false most_memberships (memberships_in s) (sym (ap (λ b. b && nat_le most_memberships (memberships_in s)) joins) ∙ not_many)) (omega arith);
      space = no_row (has_no_room s t) TooManyListed listed_too.1;
    }

-- a wildcard that any task may play has no more memberships than before
pub any_room : (s : TraceState) (w : List ℕ) → memberships_in s ≤ most_memberships → HasRoom s w (λ u. record u { condition = AnyTask })
any_room s w few = omega arith

pub any_space : (s : TraceState) (w : List ℕ) → faults_of s (PlaysAny w) ≡ [] → has_no_room s w ≡ false
any_space s w legal =
    let rows = both_tables (fault_where (is_task_in s w) (NamesTask w)) (fault_where (has_no_room s w) TooManyListed) legal in
    no_row (has_no_room s w) TooManyListed rows.1

-- a line without a first fault has none
pub no_fault : (s : TraceState) (l : TraceLine) → first_fault s (Some l) ≡ None → faults_of s l ≡ []
no_fault s l none = none_first (faults_of s l) none

pub place_is_there : (place : Option (Bor (List ℕ))) → is_some (place_value place) ≡ is_some place
place_is_there None = refl
place_is_there (Some raw) = refl
