-- What follows where no row of the table of faults holds, and who is there with a name.
use Rattle.std.proofs.Common.{◌≡◌, ℕ, Bool, true, false, ◌&&◌, ◌||◌, not, Some, Option, List, [], ◌∷◌, ◌++◌, refl, sym, ◌∙◌, ap, inl, inr, ◌⊎◌, arith}
use Rattle.std.specs.Prelude.{Contains, find, bytes_eq, unwrap_or, length, ◌==◌, is_some, nat_le, nat_lt, map, filter}
use Rattle.std.specs.Map.{lookup}
use Rattle.std.proofs.lemmas.Bool.{cases_Bool, and_parts, and_from, or_cases, or_right, not_from_false, ne_eqb, cond-true, cond-false}
use Rattle.std.proofs.lemmas.Slice.Eq.{bytes_eq-Decides}
use Rattle.armus_base.proofs.Elements.{Contains-cons_cases, Contains-head, Contains-tail, nothing_in_nil}
use Rattle.monitor_laws.specs.Lines.{Announcement, Announces, PlaysOneOf}
use Rattle.monitor_laws.specs.States.{Participant, TraceState, after_line, is_live_task, is_live_wildcard, is_there_as, new_participant, stays_listed}
use Rattle.monitor_laws.specs.Faults.{LineFault, NamesTask, NamesWildcard, StillWaits, TooManyListed, TooManyMemberships, fault_where, faults_of, has_no_room, is_go, is_join, is_of_tasks, is_task_in, is_wildcard_in, memberships_in, most_memberships, participant_in, said_faults, waits_now}
use Rattle.monitor_laws.specs.Stuck.{has_phase_below, is_phase_below}
use Rattle.monitor_laws.proofs.Filters.{any_from}
use Rattle.monitor_laws.specs.Lawful.{IsLawfulState}

-- where the table finds nothing, no row does
pub no_row : (holds : Bool) (fault : LineFault) → fault_where holds fault ≡ [] → holds ≡ false
no_row true fault none = absurd (cc)
no_row false fault none = refl

pub both_tables : (rows rest : List LineFault) → rows ++ rest ≡ [] → (rows ≡ []) × (rest ≡ [])
both_tables [] rest none = (refl, none)
both_tables (row ∷ rows) rest none = absurd (cc)

-- the first that passes
pub find_is : {A : Type 0} (p : A → Bool) (xs : List A) (u : A) → Contains xs u → p u ≡ true → (x : A) × (find p xs ≡ Some x) × Contains xs x × (p x ≡ true)
find_is p [] u within on = absurd (nothing_in_nil u within)
find_is {A} p (y ∷ xs) u within on = by_test (λ there. find_is p xs u there on) (cases_Bool (p y))
  where
    by_test :
        (Contains xs u → (x : A) × (find p xs ≡ Some x) × Contains xs x × (p x ≡ true)) → ((p y ≡ true) ⊎ (p y ≡ false)) →
        (x : A) × (find p (y ∷ xs) ≡ Some x) × Contains (y ∷ xs) x × (p x ≡ true)
    by_test rest (inl here) = (y, cond-true (p y) (Some y) (find p xs) here, Contains-head y xs, here)
    by_test rest (inr other) =
        let r = rest (elim (Contains-cons_cases y xs u within) [ inl same ↦ absurd (let e = ap p same in cc) | inr there ↦ there ]) in
        (r.0, cond-false (p y) (Some y) (find p xs) other ∙ r.1, Contains-tail y xs r.0 r.2, r.3)

-- who is there with a name is the one
pub named_is : (s : TraceState) → IsLawfulState s → (t : List ℕ) (u : Participant) → Contains s.list u → is_there_as t u ≡ true → participant_in s t ≡ u
named_is s lawful t u within there =
    let f = find_is (is_there_as t) s.list u within there in
    ap (λ o. unwrap_or o (new_participant s.named t)) f.1 ∙ lawful.one_name t f.0 u f.2 within f.3 there

-- whoever is there has the name
pub name_is : (t : List ℕ) (u : Participant) → is_there_as t u ≡ true → t ≡ u.name
name_is t u there = (bytes_eq-Decides t u.name).0 (and_parts (is_live_task u.condition || is_live_wildcard u.condition) (bytes_eq t u.name) there).1

pub is_wildcard : (s : TraceState) (t : List ℕ) (u : Participant) → Contains s.list u → is_there_as t u ≡ true → is_live_wildcard u.condition ≡ true → is_wildcard_in s t ≡ true
is_wildcard s t u within there wild =
    any_from (λ v. is_live_wildcard v.condition && bytes_eq t v.name) s.list u within
    (and_from (is_live_wildcard u.condition) (bytes_eq t u.name) wild (and_parts (is_live_task u.condition || is_live_wildcard u.condition) (bytes_eq t u.name) there).1)

pub is_task : (s : TraceState) (t : List ℕ) (u : Participant) → Contains s.list u → is_there_as t u ≡ true → is_live_task u.condition ≡ true → is_task_in s t ≡ true
is_task s t u within there live =
    any_from (λ v. is_live_task v.condition && bytes_eq t v.name) s.list u within
    (and_from (is_live_task u.condition) (bytes_eq t u.name) live (and_parts (is_live_task u.condition || is_live_wildcard u.condition) (bytes_eq t u.name) there).1)

-- who is there is a task or a wildcard
pub task_or_wildcard : (t : List ℕ) (u : Participant) → is_there_as t u ≡ true → (is_live_task u.condition ≡ true) ⊎ (is_live_wildcard u.condition ≡ true)
task_or_wildcard t u there =
    or_cases (is_live_task u.condition) (is_live_wildcard u.condition) (and_parts (is_live_task u.condition || is_live_wildcard u.condition) (bytes_eq t u.name) there).0

-- a member of some phaser stays listed
pub some_phase : (l : List (List ℕ × ℕ)) (p : List ℕ) (n : ℕ) → is_phase_below (lookup (bytes_eq p) l) n ≡ true → (length l == 0) ≡ false
some_phase [] p n lower = absurd (cc)
some_phase (m ∷ l) p n lower = ne_eqb (length (m ∷ l)) 0 (λ e. omega arith)

pub member_stays : (u : Participant) (p : List ℕ) (n : ℕ) → has_phase_below u p n ≡ true → stays_listed u ≡ true
member_stays u p n below =
    or_right (is_live_task u.condition || is_live_wildcard u.condition) (not (length u.phases == 0))
    (not_from_false (length u.phases == 0) (some_phase u.phases p n below))

-- a first membership is found before one that is added behind
pub found_before : (l : List (List ℕ × ℕ)) (m : List ℕ × ℕ) (p : List ℕ) (n : ℕ) → is_phase_below (lookup (bytes_eq p) l) n ≡ true → is_phase_below (lookup (bytes_eq p) (l ++ m ∷ [])) n ≡ true
found_before [] m p n lower = absurd (cc)
found_before (k ∷ l) m p n lower = by_test (found_before l m p n) (cases_Bool (bytes_eq p k.0))
  where
    by_test :
        (is_phase_below (lookup (bytes_eq p) l) n ≡ true → is_phase_below (lookup (bytes_eq p) (l ++ m ∷ [])) n ≡ true) → ((bytes_eq p k.0 ≡ true) ⊎ (bytes_eq p k.0 ≡ false)) →
        is_phase_below (lookup (bytes_eq p) ((k ∷ l) ++ m ∷ [])) n ≡ true
    by_test rest (inl here) =
        ap (λ o. is_phase_below o n) (cond-true (bytes_eq p k.0) (Some k.1) (lookup (bytes_eq p) (l ++ m ∷ [])) here)
        ∙ sym (ap (λ o. is_phase_below o n) (cond-true (bytes_eq p k.0) (Some k.1) (lookup (bytes_eq p) l) here)) ∙ lower
    by_test rest (inr other) =
        ap (λ o. is_phase_below o n) (cond-false (bytes_eq p k.0) (Some k.1) (lookup (bytes_eq p) (l ++ m ∷ [])) other)
        ∙ rest (sym (ap (λ o. is_phase_below o n) (cond-false (bytes_eq p k.0) (Some k.1) (lookup (bytes_eq p) l) other)) ∙ lower)

-- of a line of a task or wildcard that is legal
pub record HasNoFault (s : TraceState) (t : List ℕ) (what : Announcement) (place : Option (List ℕ)) : Type 0 where
  pub no_wildcard : (is_wildcard_in s t && (is_of_tasks what || is_some place)) ≡ false
  pub no_wait : (waits_now (participant_in s t).condition && not (is_go what)) ≡ false
  pub said : said_faults t (participant_in s t) what ≡ []

pub has_no_fault : (s : TraceState) (t : List ℕ) (what : Announcement) (place : Option (List ℕ)) → faults_of s (Announces t what place) ≡ [] → HasNoFault s t what place
has_no_fault s t what place legal =
    let one = fault_where (is_wildcard_in s t && (is_of_tasks what || is_some place)) (NamesWildcard t) in
    let two = fault_where (waits_now (participant_in s t).condition && not (is_go what)) (StillWaits t) in
    let three = said_faults t (participant_in s t) what in
    let four = fault_where (has_no_room s t) TooManyListed in
    let five = fault_where (is_join what && nat_le most_memberships (memberships_in s)) TooManyMemberships in
    let to_four = both_tables (one ++ two ++ three ++ four) five legal in
    let to_three = both_tables (one ++ two ++ three) four to_four.0 in
    let to_two = both_tables (one ++ two) three to_three.0 in
    let first = both_tables one two to_two.0 in
    record {
      no_wildcard = no_row (is_wildcard_in s t && (is_of_tasks what || is_some place)) (NamesWildcard t) first.0;
      no_wait = no_row (waits_now (participant_in s t).condition && not (is_go what)) (StillWaits t) first.1;
      said = to_two.1;
    }

-- of a line that says which tasks may play a wildcard, and is legal
pub no_task_row : (s : TraceState) (w : List ℕ) (names : List (List ℕ)) → faults_of s (PlaysOneOf w names) ≡ [] → fault_where (is_task_in s w) (NamesTask w) ≡ []
no_task_row s w names legal =
    let one = fault_where (is_task_in s w) (NamesTask w) in
    let two = map NamesWildcard (filter (λ t. bytes_eq w t || is_wildcard_in s t) names) in
    let three = fault_where (has_no_room s w) TooManyListed in
    let four = fault_where (nat_lt most_memberships (memberships_in (after_line s (PlaysOneOf w names)))) TooManyMemberships in
    (both_tables one two (both_tables (one ++ two) three (both_tables (one ++ two ++ three) four legal).0).0).0
