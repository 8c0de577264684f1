-- The table of faults against the tests one after the other.
use Rattle.std.proofs.Common.{◌≡◌, ℕ, Bool, true, false, not, ◌&&◌, ◌||◌, Some, None, Option, List, [], ◌∷◌, ◌++◌, length, map, refl, sym, ◌∙◌, ap, subst, inl, inr, ◌⊎◌}
use Rattle.std.specs.Prelude.{Contains, IfNone, bytes_eq, filter, find, if◌then◌else◌, is_some, nat_le, nat_lt, unwrap_or}
use Rattle.std.specs.List.{list_any, slice_get}
use Rattle.std.proofs.lemmas.Bool.{cases_Bool, cond-true, cond-false, and_parts, and_from, or_left, or_right}
use Rattle.monitor_laws.specs.Lines.{Announcement, Joins, Arrives, Leaves, Waits, Goes, Ends, Stands, Announces, PlaysAny, PlaysOneOf}
use Rattle.monitor_laws.specs.States.{Participant, TraceState, after_line, is_live_task, is_live_wildcard, is_there_as, new_participant}
use Rattle.monitor_laws.specs.Faults.{LineFault, NamesTask, NamesWildcard, StillWaits, DoesNotWait, IsMemberAlready, IsNoMember, IsAtLastPhase, TooManyListed, TooManyMemberships, fault_where, faults_of, has_no_room, is_go, is_join, is_of_tasks, is_task_in, is_wildcard_in, last_phase, memberships_in, most_listed, most_memberships, participant_in, phase_on, said_faults, waits_now}
use Rattle.monitor_laws.proofs.Filters.{any_from, any_is, none_passes}
use Rattle.monitor_laws.specs.Lawful.{IsLawfulState}
use Rattle.monitor_laws.proofs.Rows.{find_is}
use Rattle.monitor_state.specs.inside.FirstFaults.{announced_fault, any_fault, arrive_fault, many_fault, misnamed_fault, one_of_fault, first_of_two, go_fault, is_task_there, is_wildcard_there, join_fault, leave_fault, phase_there, room_fault, said_fault, is_waiting_there}
use Rattle.monitor_state.proofs.OnePassing.{found_none}

-- the first row
abbrev pub first_row : List LineFault → Option LineFault
first_row rows = slice_get rows 0

pub first_joined : (one other : List LineFault) → first_row (one ++ other) ≡ first_of_two (first_row one) (first_row other)
first_joined [] other = refl
first_joined (fault ∷ one) other = refl

joined_two : (one other : Option LineFault) (a b : Option LineFault) → one ≡ a → other ≡ b → first_of_two one other ≡ first_of_two a b
joined_two one other a b e f = ap (λ x. first_of_two x other) e ∙ ap (first_of_two a) f

-- five parts of the table, of which the third is of what is said
five_rows :
    (a b x y : Bool) (f g : LineFault) (said : Option LineFault) →
    first_of_two (first_of_two (first_of_two (first_of_two (first_row (fault_where a f)) (first_row (fault_where b g))) said) (first_row (fault_where x TooManyListed))) (first_row (fault_where y TooManyMemberships))
    ≡ (if a then Some f else if b then Some g else first_of_two said (room_fault x y))
five_rows true b x y f g said = refl
five_rows false true x y f g said = refl
five_rows false false x y f g (Some fault) = refl
five_rows false false true y f g None = refl
five_rows false false false true f g None = refl
five_rows false false false false f g None = refl

-- what is said
join_rows : (t p : List ℕ) (o : Option ℕ) → first_row (fault_where (is_some o) (IsMemberAlready t p)) ≡ join_fault t p o
join_rows t p None = refl
join_rows t p (Some m) = refl

last_row : (b : Bool) (f : LineFault) → first_row (fault_where b f) ≡ (if b then Some f else None)
last_row true f = refl
last_row false f = refl

arrive_rows : (t p : List ℕ) (o : Option ℕ) → first_row (fault_where (not (is_some o)) (IsNoMember t p) ++ fault_where (nat_le last_phase (unwrap_or o 0)) (IsAtLastPhase t p)) ≡ arrive_fault t p o
arrive_rows t p None = refl
arrive_rows t p (Some m) = last_row (nat_le last_phase m) (IsAtLastPhase t p)

leave_rows : (t p : List ℕ) (o : Option ℕ) → first_row (fault_where (not (is_some o)) (IsNoMember t p)) ≡ leave_fault t p o
leave_rows t p None = refl
leave_rows t p (Some m) = refl

go_rows : (t : List ℕ) (b : Bool) → first_row (fault_where (not b) (DoesNotWait t)) ≡ go_fault t b
go_rows t true = refl
go_rows t false = refl

-- of who is there, or of somebody new
there_or_new : ℕ → List ℕ → Option Participant → Participant
there_or_new named t found = unwrap_or found (new_participant named t)

phase_found : (named : ℕ) (t p : List ℕ) (found : Option Participant) → phase_on (unwrap_or found (new_participant named t)) p ≡ phase_there found p
phase_found named t p None = refl
phase_found named t p (Some u) = refl

waits_found : (named : ℕ) (t : List ℕ) (found : Option Participant) → waits_now (unwrap_or found (new_participant named t)).condition ≡ is_waiting_there found
waits_found named t None = refl
waits_found named t (Some u) = refl

said_rows : (named : ℕ) (t : List ℕ) (found : Option Participant) (what : Announcement) → first_row (said_faults t (unwrap_or found (new_participant named t)) what) ≡ said_fault t found what
said_rows named t found (Joins p n) = join_rows t p (phase_on (unwrap_or found (new_participant named t)) p) ∙ ap (join_fault t p) (phase_found named t p found)
said_rows named t found (Arrives p) = arrive_rows t p (phase_on (unwrap_or found (new_participant named t)) p) ∙ ap (arrive_fault t p) (phase_found named t p found)
said_rows named t found (Leaves p) = leave_rows t p (phase_on (unwrap_or found (new_participant named t)) p) ∙ ap (leave_fault t p) (phase_found named t p found)
said_rows named t found (Waits p n) = refl
said_rows named t found Goes = go_rows t (waits_now (unwrap_or found (new_participant named t)).condition) ∙ ap (go_fault t) (waits_found named t found)
said_rows named t found Ends = refl
said_rows named t found Stands = refl

-- somebody passes where one is found
pub any_found : {A : Type 0} (p : A → Bool) (xs : List A) → list_any p xs ≡ is_some (find p xs)
any_found p [] = refl
any_found p (x ∷ xs) = by_test (any_found p xs) (cases_Bool (p x))
  where
    by_test : list_any p xs ≡ is_some (find p xs) → ((p x ≡ true) ⊎ (p x ≡ false)) → list_any p (x ∷ xs) ≡ is_some (find p (x ∷ xs))
    by_test rest (inl on) = ap (λ b. b || list_any p xs) on ∙ sym (ap is_some (cond-true (p x) (Some x) (find p xs) on))
    by_test rest (inr off) = ap (λ b. b || list_any p xs) off ∙ rest ∙ sym (ap is_some (cond-false (p x) (Some x) (find p xs) off))

abbrev kind_there : (Participant → Bool) → Option Participant → Bool
kind_there kind None = false
kind_there kind (Some u) = kind u

some_same : {A : Type 0} (x y : A) → Some x ≡ Some y → x ≡ y
some_same x y e = ap (λ o. unwrap_or o x) e

-- a kind of those who are there is the kind of the one who is there
module _ (kind : Participant → Bool) (s : TraceState) (t : List ℕ) (lawful : IsLawfulState s) (comes : (u : Participant) → kind u ≡ true → (is_live_task u.condition || is_live_wildcard u.condition) ≡ true) where
  no_kind : ((u : Participant) → Contains s.list u → is_there_as t u ≡ true → kind u ≡ false) → list_any (λ u. kind u && bytes_eq t u.name) s.list ≡ false
  no_kind none = elim (cases_Bool (list_any (λ u. kind u && bytes_eq t u.name) s.list)) [
    | inr off ↦ off
    | inl on ↦ absurd (
        let x = any_is (λ (u : Participant). kind u && bytes_eq t u.name) s.list on in
        let parts = and_parts (kind x.0) (bytes_eq t x.0.name) x.2 in
        let there = and_from (is_live_task x.0.condition || is_live_wildcard x.0.condition) (bytes_eq t x.0.name) (comes x.0 parts.0) parts.1 in
        let not_so = none x.0 x.1 there in
        let e : true ≡ false = sym parts.0 ∙ not_so in
        cc)
  ]

  kind_found : (o : Option Participant) → find (is_there_as t) s.list ≡ o → ((u : Participant) → o ≡ Some u → Contains s.list u × (is_there_as t u ≡ true)) → (o ≡ None → list_any (is_there_as t) s.list ≡ false) → list_any (λ u. kind u && bytes_eq t u.name) s.list ≡ kind_there kind o
  kind_found None is there nobody = no_kind (λ u within too. absurd (let e = none_passes (is_there_as t) s.list u within (nobody refl) in let f : true ≡ false = sym too ∙ e in cc))
  kind_found (Some y) is there nobody = elim (cases_Bool (kind y)) [
    | inl on ↦ (
        let place = there y refl in
        let name = (and_parts (is_live_task y.condition || is_live_wildcard y.condition) (bytes_eq t y.name) place.1).1 in
        any_from (λ (u : Participant). kind u && bytes_eq t u.name) s.list y place.0 (and_from (kind y) (bytes_eq t y.name) on name) ∙ sym on)
    | inr off ↦ (
        let place = there y refl in
        no_kind (λ u within too. ap kind (lawful.one_name t u y within place.0 too place.1) ∙ off) ∙ sym off)
  ]

  pub kind_is : list_any (λ u. kind u && bytes_eq t u.name) s.list ≡ kind_there kind (find (is_there_as t) s.list)
  kind_is = elim (cases_Bool (list_any (is_there_as t) s.list)) [
    | inr none ↦ kind_found None (found_none (is_there_as t) s.list none) (λ u e. absurd (let f : None ≡ Some u = e in cc)) (λ e. none) ∙ ap (kind_there kind) (sym (found_none (is_there_as t) s.list none))
    | inl some ↦ (
        let x = any_is (is_there_as t) s.list some in
        let y = find_is (is_there_as t) s.list x.0 x.1 x.2 in
        kind_found (Some y.0) y.1 (λ u e. subst (λ (v : Participant). Contains s.list v × (is_there_as t v ≡ true)) (some_same y.0 u e) (y.2, y.3)) (λ e. absurd (let f : Some y.0 ≡ None = e in cc)) ∙ ap (kind_there kind) (sym y.1))
  ]

pub wildcard_is : (s : TraceState) (t : List ℕ) → IsLawfulState s → is_wildcard_in s t ≡ is_wildcard_there (find (is_there_as t) s.list)
wildcard_is s t lawful = kind_is (λ u. is_live_wildcard u.condition) s t lawful (λ u wild. or_right (is_live_task u.condition) (is_live_wildcard u.condition) wild) ∙ same (find (is_there_as t) s.list)
  where
    same : (o : Option Participant) → kind_there (λ u. is_live_wildcard u.condition) o ≡ is_wildcard_there o
    same None = refl
    same (Some u) = refl

pub task_is : (s : TraceState) (t : List ℕ) → IsLawfulState s → is_task_in s t ≡ is_task_there (find (is_there_as t) s.list)
task_is s t lawful = kind_is (λ u. is_live_task u.condition) s t lawful (λ u live. or_left (is_live_task u.condition) (is_live_wildcard u.condition) live) ∙ same (find (is_there_as t) s.list)
  where
    same : (o : Option Participant) → kind_there (λ u. is_live_task u.condition) o ≡ is_task_there o
    same None = refl
    same (Some u) = refl

pub no_room_is : (s : TraceState) (t : List ℕ) → has_no_room s t ≡ (not (is_some (find (is_there_as t) s.list)) && nat_le most_listed (length s.list))
no_room_is s t = ap (λ b. not b && nat_le most_listed (length s.list)) (any_found (is_there_as t) s.list)

-- the first fault of an announcement
pub announced_first :
    (s : TraceState) (t : List ℕ) (what : Announcement) (place : Option (List ℕ)) → IsLawfulState s →
    first_row (faults_of s (Announces t what place))
    ≡ announced_fault t (find (is_there_as t) s.list) what (is_some place) (nat_le most_listed (length s.list)) (nat_le most_memberships (memberships_in s))
announced_first s t what place lawful =
    parts (is_wildcard_in s t && (is_of_tasks what || is_some place)) (waits_now (participant_in s t).condition && not (is_go what)) (has_no_room s t) (is_join what && nat_le most_memberships (memberships_in s)) (said_faults t (participant_in s t) what)
    ∙ ap (λ said. if is_wildcard_in s t && (is_of_tasks what || is_some place) then Some (NamesWildcard t) else if waits_now (participant_in s t).condition && not (is_go what) then Some (StillWaits t) else first_of_two said (room_fault (has_no_room s t) (is_join what && nat_le most_memberships (memberships_in s)))) (said_rows s.named t found what)
    ∙ ap (λ b. if b && (is_of_tasks what || is_some place) then Some (NamesWildcard t) else if waits_now (participant_in s t).condition && not (is_go what) then Some (StillWaits t) else first_of_two (said_fault t found what) (room_fault (has_no_room s t) (is_join what && nat_le most_memberships (memberships_in s)))) (wildcard_is s t lawful)
    ∙ ap (λ b. if is_wildcard_there found && (is_of_tasks what || is_some place) then Some (NamesWildcard t) else if b && not (is_go what) then Some (StillWaits t) else first_of_two (said_fault t found what) (room_fault (has_no_room s t) (is_join what && nat_le most_memberships (memberships_in s)))) (waits_found s.named t found)
    ∙ ap (λ b. if is_wildcard_there found && (is_of_tasks what || is_some place) then Some (NamesWildcard t) else if is_waiting_there found && not (is_go what) then Some (StillWaits t) else first_of_two (said_fault t found what) (room_fault b (is_join what && nat_le most_memberships (memberships_in s)))) (no_room_is s t)
  where
    found : Option Participant
    found = find (is_there_as t) s.list

    parts :
        (a b x y : Bool) (said : List LineFault) →
        first_row (fault_where a (NamesWildcard t) ++ fault_where b (StillWaits t) ++ said ++ fault_where x TooManyListed ++ fault_where y TooManyMemberships)
        ≡ (if a then Some (NamesWildcard t) else if b then Some (StillWaits t) else first_of_two (first_row said) (room_fault x y))
    parts a b x y said =
        first_joined (fault_where a (NamesWildcard t) ++ fault_where b (StillWaits t) ++ said ++ fault_where x TooManyListed) (fault_where y TooManyMemberships)
        ∙ ap (λ o. first_of_two o (first_row (fault_where y TooManyMemberships)))
        (first_joined (fault_where a (NamesWildcard t) ++ fault_where b (StillWaits t) ++ said) (fault_where x TooManyListed)
        ∙ ap (λ o. first_of_two o (first_row (fault_where x TooManyListed)))
        (first_joined (fault_where a (NamesWildcard t) ++ fault_where b (StillWaits t)) said
        ∙ ap (λ o. first_of_two o (first_row said)) (first_joined (fault_where a (NamesWildcard t)) (fault_where b (StillWaits t)))))
        ∙ five_rows a b x y (NamesWildcard t) (StillWaits t) (first_row said)

-- the first fault of a line by which any task may play a wildcard
two_rows : (a x : Bool) (f : LineFault) → first_of_two (first_row (fault_where a f)) (first_row (fault_where x TooManyListed)) ≡ (if a then Some f else room_fault x false)
two_rows true x f = refl
two_rows false true f = refl
two_rows false false f = refl

pub any_first :
    (s : TraceState) (w : List ℕ) → IsLawfulState s →
    first_row (faults_of s (PlaysAny w)) ≡ any_fault w (find (is_there_as w) s.list) (nat_le most_listed (length s.list))
any_first s w lawful =
    first_joined (fault_where (is_task_in s w) (NamesTask w)) (fault_where (has_no_room s w) TooManyListed)
    ∙ two_rows (is_task_in s w) (has_no_room s w) (NamesTask w)
    ∙ ap (λ b. if b then Some (NamesTask w) else room_fault (has_no_room s w) false) (task_is s w lawful)
    ∙ ap (λ b. if is_task_there (find (is_there_as w) s.list) then Some (NamesTask w) else room_fault b false) (no_room_is s w)

-- the first fault of a line by which one of these tasks may play a wildcard
misnamed_rows : (test : List ℕ → Bool) (names : List (List ℕ)) → first_row (map NamesWildcard (filter test names)) ≡ misnamed_fault (find test names)
misnamed_rows test [] = refl
misnamed_rows test (t ∷ names) = by_test (misnamed_rows test names) (cases_Bool (test t))
  where
    by_test :
        first_row (map NamesWildcard (filter test names)) ≡ misnamed_fault (find test names) → ((test t ≡ true) ⊎ (test t ≡ false)) →
        first_row (map NamesWildcard (filter test (t ∷ names))) ≡ misnamed_fault (find test (t ∷ names))
    by_test rest (inl on) =
        ap (λ l. first_row (map NamesWildcard l)) (cond-true (test t) (t ∷ filter test names) (filter test names) on)
        ∙ sym (ap misnamed_fault (cond-true (test t) (Some t) (find test names) on))
    by_test rest (inr off) =
        ap (λ l. first_row (map NamesWildcard l)) (cond-false (test t) (t ∷ filter test names) (filter test names) off) ∙ rest
        ∙ sym (ap misnamed_fault (cond-false (test t) (Some t) (find test names) off))

four_rows :
    (a x y : Bool) (f : LineFault) (o : Option LineFault) →
    first_of_two (first_of_two (first_of_two (first_row (fault_where a f)) o) (first_row (fault_where x TooManyListed))) (first_row (fault_where y TooManyMemberships))
    ≡ first_of_two (if a then Some f else first_of_two o (room_fault x false)) (many_fault y)
four_rows true x y f o = refl
four_rows false x y f (Some fault) = refl
four_rows false true y f None = refl
four_rows false false true f None = refl
four_rows false false false f None = refl

pub one_of_first :
    (s : TraceState) (w : List ℕ) (names : List (List ℕ)) → IsLawfulState s →
    first_row (faults_of s (PlaysOneOf w names))
    ≡ first_of_two
    (one_of_fault w (find (is_there_as w) s.list) (find (λ t. bytes_eq w t || is_wildcard_in s t) names) (nat_le most_listed (length s.list)))
    (many_fault (nat_lt most_memberships (memberships_in (after_line s (PlaysOneOf w names)))))
one_of_first s w names lawful =
    first_joined (first ++ named ++ listed) many
    ∙ ap (λ o. first_of_two o (first_row many)) (first_joined (first ++ named) listed ∙ ap (λ o. first_of_two o (first_row listed)) (first_joined first named))
    ∙ four_rows (is_task_in s w) (has_no_room s w) (nat_lt most_memberships (memberships_in (after_line s (PlaysOneOf w names)))) (NamesTask w) (first_row named)
    ∙ ap (λ o. first_of_two (if is_task_in s w then Some (NamesTask w) else first_of_two o (room_fault (has_no_room s w) false)) too_many) (misnamed_rows (λ t. bytes_eq w t || is_wildcard_in s t) names)
    ∙ ap (λ b. first_of_two (if b then Some (NamesTask w) else first_of_two misnamed (room_fault (has_no_room s w) false)) too_many) (task_is s w lawful)
    ∙ ap (λ b. first_of_two (if is_task_there (find (is_there_as w) s.list) then Some (NamesTask w) else first_of_two misnamed (room_fault b false)) too_many) (no_room_is s w)
  where
    first : List LineFault
    first = fault_where (is_task_in s w) (NamesTask w)

    named : List LineFault
    named = map NamesWildcard (filter (λ t. bytes_eq w t || is_wildcard_in s t) names)

    listed : List LineFault
    listed = fault_where (has_no_room s w) TooManyListed

    many : List LineFault
    many = fault_where (nat_lt most_memberships (memberships_in (after_line s (PlaysOneOf w names)))) TooManyMemberships

    too_many : Option LineFault
    too_many = many_fault (nat_lt most_memberships (memberships_in (after_line s (PlaysOneOf w names))))

    misnamed : Option LineFault
    misnamed = misnamed_fault (find (λ t. bytes_eq w t || is_wildcard_in s t) names)

-- where no fault is found, there is room
room_left : (x y : Bool) → room_fault x y ≡ None → x ≡ false
room_left false y none = refl
room_left true y none = absurd (let e : Some TooManyListed ≡ None = none in cc)

space_left : (task : Bool) (w : List ℕ) (misnamed : Option LineFault) (x : Bool) → (if task then Some (NamesTask w) else first_of_two misnamed (room_fault x false)) ≡ None → x ≡ false
space_left true w misnamed x none = absurd (let e : Some (NamesTask w) ≡ None = none in cc)
space_left false w (Some fault) x none = absurd (let e : Some fault ≡ None = none in cc)
space_left false w None x none = room_left x false none

pub one_of_space :
    (s : TraceState) (w : List ℕ) (misnamed : Option (List ℕ)) → one_of_fault w (find (is_there_as w) s.list) misnamed (nat_le most_listed (length s.list)) ≡ None → has_no_room s w ≡ false
one_of_space s w misnamed none =
    no_room_is s w
    ∙ space_left (is_task_there (find (is_there_as w) s.list)) w (misnamed_fault misnamed) (not (is_some (find (is_there_as w) s.list)) && nat_le most_listed (length s.list)) none

pub where_none : {A : Type 0} {P : Type 0} (o : Option A) → (o ≡ None → P) → IfNone o P
where_none None holds = holds refl
where_none (Some x) holds = tt
