-- Behind a legal line who waits newly is the task of a wait.
use Rattle.std.proofs.Common.{◌≡◌, ℕ, Bool, true, false, not, ◌&&◌, ◌||◌, Option, List, [], refl, sym, ◌∙◌, ap, inl, inr, arith}
use Rattle.std.specs.Prelude.{Contains, ◌==◌, bytes_eq, eqb}
use Rattle.std.specs.List.{list_any, starts_with}
use Rattle.std.proofs.lemmas.Bool.{cases_Bool, and_parts, and_from, cond-true, cond-false, eqb-true, eq-eqb, not_from_false}
use Rattle.monitor_laws.specs.Lines.{Announcement, Joins, Arrives, Leaves, Waits, Goes, Ends, Stands, TraceLine, SaysNothing, AsksReport, AsksList, AreGone, Announces, PlaysAny, PlaysOneOf}
use Rattle.monitor_laws.specs.States.{Ended, AnyTask, OneOf, Participant, TraceState, after_line, announced_by, gone_by, is_live_task, is_live_wildcard, is_there_as, placed_at, task_numbers, with_named}
use Rattle.monitor_laws.specs.Faults.{faults_of, waits_now}
use Rattle.monitor_laws.proofs.Changes.{changed_there, from_change, from_named, other_is, there_is}
use Rattle.monitor_laws.proofs.Filters.{any_from, any_is}
use Rattle.monitor_laws.proofs.Lawful.{IsLawfulState, announced_number, placed_condition, placed_name, placed_number}
use Rattle.monitor_laws.proofs.Rows.{has_no_fault, named_is}
use Rattle.monitor_words.specs.Messages.{waits_newly}
use Rattle.monitor_messages.specs.inside.Newly.{waits_by}

-- two tests of which each passes where the other does
pub same_tests : (a b : Bool) → (a ≡ true → b ≡ true) → (b ≡ true → a ≡ true) → a ≡ b
same_tests true b there back = sym (there refl)
same_tests false true there back = back refl
same_tests false false there back = refl

module _ (s : TraceState) (lawful : IsLawfulState s) where
  -- somebody with the number waited
  abbrev waited : ℕ → Bool
  waited k = list_any (λ v. waits_now v.condition && (v.number == k)) s.list

  -- who waited before does not wait newly
  was_waiting : (u v : Participant) → Contains s.list v → waits_now v.condition ≡ true → v.number ≡ u.number → waits_newly s u ≡ true → ⊥
  was_waiting u v within waits same newly =
      let some = any_from (λ x. waits_now x.condition && (x.number == u.number)) s.list v within (and_from (waits_now v.condition) (v.number == u.number) waits (eq-eqb v.number u.number same)) in
      let parts = and_parts (waits_now u.condition) (not (waited u.number)) newly in
      let e = ap not some in
      let none = parts.1 in
      cc

  -- nor does who is there as before, or comes by the line and runs
  stays_as_was : (t : List ℕ) (m u : Participant) → Contains (with_named s t).list m → waits_now m.condition ≡ true → u.number ≡ m.number → waits_newly s u ≡ true → ⊥
  stays_as_was t m u within waits same newly = elim (from_named s t m within) [
    | inl old ↦ was_waiting u m old waits (sym same) newly
    | inr new ↦ (let e = ap (λ (x : Participant). waits_now x.condition) new.1 in cc)
  ]

  waits_at_all : (u : Participant) → waits_newly s u ≡ true → waits_now u.condition ≡ true
  waits_at_all u newly = (and_parts (waits_now u.condition) (not (waited u.number)) newly).0

  -- behind a change of who is there with a name to somebody who does not wait
  no_wait_by : (t : List ℕ) (change : Participant → Participant) (u : Participant) → ((m : Participant) → waits_now (change m).condition ≡ false) → (m : Participant) → Contains (with_named s t).list m →
      changed_there t change m ≡ u → waits_newly s u ≡ true → ⊥
  no_wait_by t change u never m within is newly = elim (cases_Bool (is_there_as t m)) [
    | inl there ↦
        (let e = ap (λ (x : Participant). waits_now x.condition) (sym (there_is t change m there) ∙ is) in
        let n = never m in
        let w = waits_at_all u newly in
        cc)
    | inr other ↦
        (let same = sym (other_is t change m other) ∙ is in
        stays_as_was t m u within (ap (λ (x : Participant). waits_now x.condition) same ∙ waits_at_all u newly) (ap (λ (x : Participant). x.number) (sym same)) newly)
  ]

  -- behind a change that keeps the number, and whether somebody waits
  no_wait_kept : (t : List ℕ) (change : Participant → Participant) (u : Participant) → ((m : Participant) → waits_now (change m).condition ≡ waits_now m.condition) → ((m : Participant) → (change m).number ≡ m.number) →
      (m : Participant) → Contains (with_named s t).list m → changed_there t change m ≡ u → waits_newly s u ≡ true → ⊥
  no_wait_kept t change u keeps number m within is newly = elim (cases_Bool (is_there_as t m)) [
    | inl there ↦
        (let same = sym (there_is t change m there) ∙ is in
        stays_as_was t m u within (sym (keeps m) ∙ ap (λ (x : Participant). waits_now x.condition) same ∙ waits_at_all u newly) (ap (λ (x : Participant). x.number) (sym same) ∙ number m) newly)
    | inr other ↦
        (let same = sym (other_is t change m other) ∙ is in
        stays_as_was t m u within (ap (λ (x : Participant). waits_now x.condition) same ∙ waits_at_all u newly) (ap (λ (x : Participant). x.number) (sym same)) newly)
  ]

  -- what a line of a task makes of it
  abbrev said_of : Announcement → Option (List ℕ) → Participant → Participant
  said_of what place u = placed_at place (announced_by what u)

  said_number : (what : Announcement) (place : Option (List ℕ)) (m : Participant) → (said_of what place m).number ≡ m.number
  said_number what place m = placed_number place (announced_by what m) ∙ announced_number what m

  said_waits : (what : Announcement) (place : Option (List ℕ)) (m : Participant) → waits_now (said_of what place m).condition ≡ waits_now (announced_by what m).condition
  said_waits what place m = ap waits_now (placed_condition place (announced_by what m))

  -- of a wait: its task is there with the name
  is_of_wait : (t p : List ℕ) (n : ℕ) (place : Option (List ℕ)) (u m : Participant) → Contains (with_named s t).list m → changed_there t (said_of (Waits p n) place) m ≡ u → waits_newly s u ≡ true → is_there_as t u ≡ true
  is_of_wait t p n place u m within is newly = elim (cases_Bool (is_there_as t m)) [
    | inl there ↦
        (let same = sym (there_is t (said_of (Waits p n) place) m there) ∙ is in
        let condition = ap (λ (x : Participant). x.condition) (sym same) ∙ placed_condition place (announced_by (Waits p n) m) in
        let name = ap (λ (x : Participant). x.name) (sym same) ∙ placed_name place (announced_by (Waits p n) m) in
        and_from (is_live_task u.condition || is_live_wildcard u.condition) (bytes_eq t u.name) (ap (λ c. is_live_task c || is_live_wildcard c) condition)
        (ap (bytes_eq t) name ∙ (and_parts (is_live_task m.condition || is_live_wildcard m.condition) (bytes_eq t m.name) there).1))
    | inr other ↦
        absurd (let same = sym (other_is t (said_of (Waits p n) place) m other) ∙ is in
        stays_as_was t m u within (ap (λ (x : Participant). waits_now x.condition) same ∙ waits_at_all u newly) (ap (λ (x : Participant). x.number) (sym same)) newly)
  ]

  by_said : (t : List ℕ) (what : Announcement) (place : Option (List ℕ)) (u m : Participant) → Contains (with_named s t).list m → changed_there t (said_of what place) m ≡ u → waits_newly s u ≡ true → waits_by (Announces t what place) u ≡ true
  by_said t (Joins p n) place u m within is newly = absurd (no_wait_kept t (said_of (Joins p n) place) u (said_waits (Joins p n) place) (said_number (Joins p n) place) m within is newly)
  by_said t (Arrives p) place u m within is newly = absurd (no_wait_kept t (said_of (Arrives p) place) u (said_waits (Arrives p) place) (said_number (Arrives p) place) m within is newly)
  by_said t (Leaves p) place u m within is newly = absurd (no_wait_kept t (said_of (Leaves p) place) u (said_waits (Leaves p) place) (said_number (Leaves p) place) m within is newly)
  by_said t (Waits p n) place u m within is newly = is_of_wait t p n place u m within is newly
  by_said t Goes place u m within is newly = absurd (no_wait_by t (said_of Goes place) u (said_waits Goes place) m within is newly)
  by_said t Ends place u m within is newly = absurd (no_wait_by t (said_of Ends place) u (said_waits Ends place) m within is newly)
  by_said t Stands place u m within is newly = absurd (no_wait_kept t (said_of Stands place) u (said_waits Stands place) (said_number Stands place) m within is newly)

  -- who ends with others waits no more
  none_by_gone : (beginning : List ℕ) (u m : Participant) → Contains s.list m → gone_by beginning m ≡ u → waits_newly s u ≡ true → ⊥
  none_by_gone beginning u m within is newly = elim (cases_Bool (starts_with eqb m.name beginning)) [
    | inl gone ↦
        (let e = ap (λ (x : Participant). waits_now x.condition) (sym (cond-true (starts_with eqb m.name beginning) (record m { condition = Ended }) m gone) ∙ is) in
        let w = waits_at_all u newly in
        cc)
    | inr other ↦
        (let same = sym (cond-false (starts_with eqb m.name beginning) (record m { condition = Ended }) m other) ∙ is in
        was_waiting u m within (ap (λ (x : Participant). waits_now x.condition) same ∙ waits_at_all u newly) (ap (λ (x : Participant). x.number) same) newly)
  ]

  -- who waits newly is the task of a wait
  newly_by : (l : TraceLine) (u : Participant) → Contains (after_line s l).list u → waits_newly s u ≡ true → waits_by l u ≡ true
  newly_by SaysNothing u within newly = absurd (was_waiting u u within (waits_at_all u newly) refl newly)
  newly_by AsksReport u within newly = absurd (was_waiting u u within (waits_at_all u newly) refl newly)
  newly_by AsksList u within newly = absurd (was_waiting u u within (waits_at_all u newly) refl newly)
  newly_by (AreGone beginning) u within newly = (let m = from_change (gone_by beginning) s u within in absurd (none_by_gone beginning u m.0 m.1 m.2 newly))
  newly_by (Announces t what place) u within newly =
      (let m = from_change (changed_there t (said_of what place)) (with_named s t) u within in by_said t what place u m.0 m.1 m.2 newly)
  newly_by (PlaysAny w) u within newly =
      (let change : Participant → Participant = λ x. record x { condition = AnyTask } in
      let m = from_change (changed_there w change) (with_named s w) u within in
      absurd (no_wait_by w change u (λ x. refl) m.0 m.1 m.2 newly))
  newly_by (PlaysOneOf w names) u within newly =
      (let change : Participant → Participant = λ x. record x { condition = OneOf names (task_numbers s names) } in
      let m = from_change (changed_there w change) (with_named s w) u within in
      absurd (no_wait_by w change u (λ x. refl) m.0 m.1 m.2 newly))

  -- nobody waited with the number of the task of a legal wait
  nobody_waited : (t p : List ℕ) (n : ℕ) (place : Option (List ℕ)) → faults_of s (Announces t (Waits p n) place) ≡ [] → (m : Participant) → Contains (with_named s t).list m → is_there_as t m ≡ true →
      (v : Participant) → Contains s.list v → waits_now v.condition ≡ true → v.number ≡ m.number → ⊥
  nobody_waited t p n place legal m within there v in_v waits same = elim (from_named s t m within) [
    | inl old ↦
        (let no_wait = (has_no_fault s t (Waits p n) place legal).no_wait in
        let is = named_is s lawful t m old there in
        let one = lawful.one_number v m in_v old same in
        let e = ap (λ (x : Participant). waits_now x.condition && true) (is ∙ sym one) in
        let f = and_from (waits_now v.condition) true waits refl in
        cc)
    | inr new ↦ (let k = lawful.numbers v in_v in let e = ap (λ (x : Participant). x.number) new.1 in omega arith)
  ]

  not_waited : (k : ℕ) → ((v : Participant) → Contains s.list v → waits_now v.condition ≡ true → v.number ≡ k → ⊥) → waited k ≡ false
  not_waited k none = elim (cases_Bool (waited k)) [
    | inl some ↦
        absurd (let v = any_is (λ x. waits_now x.condition && (x.number == k)) s.list some in
        let parts = and_parts (waits_now v.0.condition) (v.0.number == k) v.2 in
        none v.0 v.1 parts.0 (eqb-true v.0.number k parts.1))
    | inr off ↦ off
  ]

  -- the task of a legal wait waits newly
  wait_is_new : (t p : List ℕ) (n : ℕ) (place : Option (List ℕ)) → faults_of s (Announces t (Waits p n) place) ≡ [] → (u m : Participant) → Contains (with_named s t).list m → changed_there t (said_of (Waits p n) place) m ≡ u →
      is_there_as t u ≡ true → waits_newly s u ≡ true
  wait_is_new t p n place legal u m within is as_u = elim (cases_Bool (is_there_as t m)) [
    | inl there ↦
        (let same = sym (there_is t (said_of (Waits p n) place) m there) ∙ is in
        let waits = ap (λ (x : Participant). waits_now x.condition) (sym same) ∙ said_waits (Waits p n) place m in
        let number = ap (λ (x : Participant). x.number) (sym same) ∙ said_number (Waits p n) place m in
        and_from (waits_now u.condition) (not (waited u.number)) waits
        (not_from_false (waited u.number) (not_waited u.number (λ v in_v on e. nobody_waited t p n place legal m within there v in_v on (e ∙ number)))))
    | inr other ↦ absurd (let e = ap (is_there_as t) (sym (other_is t (said_of (Waits p n) place) m other) ∙ is) in cc)
  ]

  said_is_new : (t : List ℕ) (what : Announcement) (place : Option (List ℕ)) → faults_of s (Announces t what place) ≡ [] → (u m : Participant) → Contains (with_named s t).list m → changed_there t (said_of what place) m ≡ u →
      waits_by (Announces t what place) u ≡ true → waits_newly s u ≡ true
  said_is_new t (Joins p n) place legal u m within is on = absurd (cc)
  said_is_new t (Arrives p) place legal u m within is on = absurd (cc)
  said_is_new t (Leaves p) place legal u m within is on = absurd (cc)
  said_is_new t (Waits p n) place legal u m within is on = wait_is_new t p n place legal u m within is on
  said_is_new t Goes place legal u m within is on = absurd (cc)
  said_is_new t Ends place legal u m within is on = absurd (cc)
  said_is_new t Stands place legal u m within is on = absurd (cc)

  by_newly : (l : TraceLine) → faults_of s l ≡ [] → (u : Participant) → Contains (after_line s l).list u → waits_by l u ≡ true → waits_newly s u ≡ true
  by_newly SaysNothing legal u within on = absurd (cc)
  by_newly AsksReport legal u within on = absurd (cc)
  by_newly AsksList legal u within on = absurd (cc)
  by_newly (AreGone beginning) legal u within on = absurd (cc)
  by_newly (Announces t what place) legal u within on =
      (let m = from_change (changed_there t (said_of what place)) (with_named s t) u within in said_is_new t what place legal u m.0 m.1 m.2 on)
  by_newly (PlaysAny w) legal u within on = absurd (cc)
  by_newly (PlaysOneOf w names) legal u within on = absurd (cc)

  pub newly_is_of_wait : (l : TraceLine) → faults_of s l ≡ [] → (u : Participant) → Contains (after_line s l).list u → waits_newly s u ≡ waits_by l u
  newly_is_of_wait l legal u within = same_tests (waits_newly s u) (waits_by l u) (newly_by l u within) (by_newly l legal u within)
