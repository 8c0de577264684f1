-- A wait that is refused: where its task goes at once, the state is as if it had said only where it is.
use Rattle.std.proofs.Common.{◌≡◌, ℕ, ◌+◌, Bool, true, false, ◌||◌, ◌&&◌, not, Some, None, Option, List, [], ◌∷◌, ◌++◌, refl, sym, ◌∙◌, ap, subst, inl, inr, ◌⊎◌}
use Rattle.std.specs.Prelude.{Contains, filter, map, length, ◌==◌, bytes_eq, nat_le}
use Rattle.std.specs.List.{list_any, slice_get}
use Rattle.std.proofs.lemmas.Bool.{cases_Bool, and_parts, and_from, cond-true, cond-false, or_right}
use Rattle.std.proofs.lemmas.Slice.Eq.{bytes_eq-Decides}
use Rattle.std.proofs.lemmas.List.Elements.{Contains-append_right}
use Rattle.armus_base.proofs.Elements.{Contains-head, Contains-tail}
use Rattle.monitor_laws.specs.Lines.{Announces, Goes, Stands, Waits}
use Rattle.monitor_laws.specs.States.{AnyTask, Condition, Ended, OneOf, Participant, Running, TraceState, Waiting, after_line, announced_by, is_live_task, is_live_wildcard, is_there_as, new_participant, placed_at, stays_listed, with_named}
use Rattle.monitor_laws.specs.Faults.{DoesNotWait, LineFault, NamesWildcard, StillWaits, TooManyListed, fault_where, faults_of, first_fault, has_no_room, is_wildcard_in, most_listed, participant_in, waits_now}
use Rattle.monitor_laws.proofs.Changes.{changed_there, from_named, in_change, in_named, other_is, there_is}
use Rattle.monitor_laws.proofs.Filters.{any_from, any_is}
use Rattle.monitor_laws.proofs.Lawful.{IsLawfulState, lawful_after, placed_condition, placed_name}
use Rattle.monitor_state.specs.Taking.{taken_state}
use Rattle.monitor_messages.specs.inside.Changes.{IsKnownBefore}
use Rattle.monitor_laws.proofs.Rows.{HasNoFault, has_no_fault, is_wildcard, named_is, task_or_wildcard}

-- a task that is there and neither waits nor is a wildcard runs
runs_or : (c : Condition) → is_live_task c ≡ true → waits_now c ≡ false → c ≡ Running
runs_or Running live waits = refl
runs_or (Waiting p n) live waits = absurd (cc)
runs_or Ended live waits = absurd (cc)
runs_or AnyTask live waits = absurd (cc)
runs_or (OneOf names tasks) live waits = absurd (cc)

and_false : (b : Bool) → (b && false) ≡ false
and_false true = refl
and_false false = refl

first_of_and : (a : Bool) → (a && true) ≡ false → a ≡ false
first_of_and true e = e
first_of_and false e = refl

no_fault_where : (holds : Bool) (fault : LineFault) → holds ≡ false → fault_where holds fault ≡ []
no_fault_where true fault e = absurd (let f : true ≡ false = e in cc)
no_fault_where false fault e = refl

module _ (s : TraceState) (lawful : IsLawfulState s) (t p : List ℕ) (n : ℕ) (place : Option (List ℕ)) (legal : faults_of s (Announces t (Waits p n) place) ≡ []) where
  abbrev waiting : Participant → Participant
  waiting u = placed_at place (announced_by (Waits p n) u)

  abbrev going : Participant → Participant
  going u = placed_at None (announced_by Goes u)

  abbrev standing : Participant → Participant
  standing u = placed_at place (announced_by Stands u)

  abbrev named : TraceState
  named = with_named s t

  abbrev after : TraceState
  after = after_line s (Announces t (Waits p n) place)

  no_fault : HasNoFault s t (Waits p n) place
  no_fault = has_no_fault s t (Waits p n) place legal

  -- who is there with the name runs before the wait
  ran : (u : Participant) → Contains named.list u → is_there_as t u ≡ true → u.condition ≡ Running
  ran u within there = elim (from_named s t u within) [
    | inl old ↦
        let not_wild : is_wildcard_in s t ≡ false = first_of_and (is_wildcard_in s t) no_fault.no_wildcard in
        let no_wait : waits_now (participant_in s t).condition ≡ false = first_of_and (waits_now (participant_in s t).condition) no_fault.no_wait in
        let is = named_is s lawful t u old there in
        let not_waiting : waits_now u.condition ≡ false = sym (ap (λ (x : Participant). waits_now x.condition) is) ∙ no_wait in
        elim (task_or_wildcard t u there) [
          | inl live ↦ runs_or u.condition live not_waiting
          | inr wild ↦ absurd (let e = is_wildcard s t u old there wild in cc)
        ]
    | inr new ↦ ap (λ (x : Participant). x.condition) new.1
  ]

  waiting_condition : (u : Participant) → (waiting u).condition ≡ Waiting p n
  waiting_condition u = placed_condition place (announced_by (Waits p n) u)

  waiting_there : (u : Participant) → is_there_as t u ≡ true → is_there_as t (waiting u) ≡ true
  waiting_there u there =
      let name = (and_parts (is_live_task u.condition || is_live_wildcard u.condition) (bytes_eq t u.name) there).1 in
      and_from (is_live_task (waiting u).condition || is_live_wildcard (waiting u).condition) (bytes_eq t (waiting u).name)
      (ap (λ c. is_live_task c || is_live_wildcard c) (waiting_condition u))
      (ap (bytes_eq t) (placed_name place (announced_by (Waits p n) u)) ∙ name)

  waiting_stays : (u : Participant) → stays_listed (waiting u) ≡ true
  waiting_stays u = subst (λ c. (is_live_task c || is_live_wildcard c || not (length (waiting u).phases == 0)) ≡ true) (sym (waiting_condition u)) refl

  -- who waits and goes at once is where it was, at its place
  back_of : (u : Participant) → u.condition ≡ Running → going (waiting u) ≡ standing u
  back_of u runs = by_place place
    where
      ran_so : record u { condition = Running } ≡ u
      ran_so = ap (λ c. record u { condition = c }) (sym runs)

      by_place : (o : Option (List ℕ)) → placed_at None (announced_by Goes (placed_at o (announced_by (Waits p n) u))) ≡ placed_at o (announced_by Stands u)
      by_place None = ran_so
      by_place (Some x) = ap (λ (v : Participant). record v { place = Some x }) ran_so

  there_back : (u : Participant) → is_there_as t u ≡ true → u.condition ≡ Running → changed_there t going (changed_there t waiting u) ≡ changed_there t standing u
  there_back u there runs =
      ap (changed_there t going) (there_is t waiting u there) ∙ there_is t going (waiting u) (waiting_there u there) ∙ back_of u runs ∙ sym (there_is t standing u there)

  -- the list, one by one
  list_back : (us : List Participant) → ((u : Participant) → Contains us u → is_there_as t u ≡ true → u.condition ≡ Running) → filter stays_listed (map (changed_there t going) (filter stays_listed (map (changed_there t waiting) us))) ≡ filter stays_listed (map (changed_there t standing) us)
  list_back [] run = refl
  list_back (u ∷ us) run = by_there (cases_Bool (is_there_as t u)) (list_back us (λ v within. run v (Contains-tail u us v within)))
    where
      kept : (x : Participant) (xs : List Participant) → stays_listed x ≡ true → filter stays_listed (x ∷ xs) ≡ x ∷ filter stays_listed xs
      kept x xs stays = cond-true (stays_listed x) (x ∷ filter stays_listed xs) (filter stays_listed xs) stays

      left_out : (x : Participant) (xs : List Participant) → stays_listed x ≡ false → filter stays_listed (x ∷ xs) ≡ filter stays_listed xs
      left_out x xs gone = cond-false (stays_listed x) (x ∷ filter stays_listed xs) (filter stays_listed xs) gone

      same_front : (x y : Participant) (xs ys : List Participant) → x ≡ y → filter stays_listed xs ≡ filter stays_listed ys → filter stays_listed (x ∷ xs) ≡ filter stays_listed (y ∷ ys)
      same_front x y xs ys is rest = elim (cases_Bool (stays_listed x)) [
        | inl stays ↦ kept x xs stays ∙ ap (λ v. v ∷ filter stays_listed xs) is ∙ ap (λ l. y ∷ l) rest ∙ sym (kept y ys (sym (ap stays_listed is) ∙ stays))
        | inr gone ↦ left_out x xs gone ∙ rest ∙ sym (left_out y ys (sym (ap stays_listed is) ∙ gone))
      ]

      goes_then : List Participant → List Participant
      goes_then xs = filter stays_listed (map (changed_there t going) xs)

      waited : List Participant
      waited = filter stays_listed (map (changed_there t waiting) us)

      by_there :
          ((is_there_as t u ≡ true) ⊎ (is_there_as t u ≡ false)) → goes_then waited ≡ filter stays_listed (map (changed_there t standing) us) →
          goes_then (filter stays_listed (changed_there t waiting u ∷ map (changed_there t waiting) us)) ≡ filter stays_listed (changed_there t standing u ∷ map (changed_there t standing) us)
      by_there (inl there) rest =
          let stays : stays_listed (changed_there t waiting u) ≡ true = ap stays_listed (there_is t waiting u there) ∙ waiting_stays u in
          ap goes_then (kept (changed_there t waiting u) (map (changed_there t waiting) us) stays)
          ∙ same_front (changed_there t going (changed_there t waiting u)) (changed_there t standing u) (map (changed_there t going) waited) (map (changed_there t standing) us)
          (there_back u there (run u (Contains-head u us) there)) rest
      by_there (inr other) rest =
          let to_waiting = other_is t waiting u other in
          let to_standing = other_is t standing u other in
          elim (cases_Bool (stays_listed u)) [
            | inl stays ↦
                ap goes_then (kept (changed_there t waiting u) (map (changed_there t waiting) us) (ap stays_listed to_waiting ∙ stays))
                ∙ same_front (changed_there t going (changed_there t waiting u)) (changed_there t standing u) (map (changed_there t going) waited) (map (changed_there t standing) us)
                (ap (changed_there t going) to_waiting ∙ other_is t going u other ∙ sym to_standing) rest
            | inr gone ↦
                ap goes_then (left_out (changed_there t waiting u) (map (changed_there t waiting) us) (ap stays_listed to_waiting ∙ gone))
                ∙ rest ∙ sym (left_out (changed_there t standing u) (map (changed_there t standing) us) (ap stays_listed to_standing ∙ gone))
          ]

  -- somebody is there with the name
  somebody_named : (u : Participant) × Contains named.list u × (is_there_as t u ≡ true)
  somebody_named = elim (cases_Bool (list_any (is_there_as t) s.list)) [
    | inl old ↦ let f = any_is (is_there_as t) s.list old in (f.0, in_named s t f.0 f.1, f.2)
    | inr none ↦
        let new = new_participant s.named t in
        let more : TraceState = record { list = s.list ++ new ∷ []; named = s.named + 1 } in (
          new,
          subst (λ (x : TraceState). Contains x.list new) (sym (cond-false (list_any (is_there_as t) s.list) s more none)) (Contains-append_right s.list (new ∷ []) new (Contains-head new [])),
          (bytes_eq-Decides t t).1 refl,
        )
  ]

  waits_after : (u : Participant) × Contains after.list u × (is_there_as t u ≡ true) × (u.condition ≡ Waiting p n)
  waits_after =
      let f = somebody_named in
      let is = there_is t waiting f.0 f.2 in (
        waiting f.0,
        subst (λ x. Contains after.list x) is (in_change (changed_there t waiting) named f.0 f.1 (ap stays_listed is ∙ waiting_stays f.0)),
        waiting_there f.0 f.2,
        waiting_condition f.0,
      )

  nobody_comes : with_named after t ≡ after
  nobody_comes =
      let w = waits_after in
      cond-true (list_any (is_there_as t) after.list) after (record { list = after.list ++ new_participant after.named t ∷ []; named = after.named + 1 }) (any_from (is_there_as t) after.list w.0 w.1 w.2)

  pub goes_back : after_line after (Announces t Goes None) ≡ after_line s (Announces t Stands place)
  goes_back =
      ap (λ (x : TraceState). record { list = filter stays_listed (map (changed_there t going) x.list); named = x.named }) nobody_comes
      ∙ ap (λ l. record { list = l; named = named.named }) (list_back named.list ran)

  -- the go is legal
  no_wildcard_after : is_wildcard_in after t ≡ false
  no_wildcard_after = elim (cases_Bool (is_wildcard_in after t)) [
    | inr none ↦ none
    | inl some ↦
        let f = any_is (λ u. is_live_wildcard u.condition && bytes_eq t u.name) after.list some in
        let parts = and_parts (is_live_wildcard f.0.condition) (bytes_eq t f.0.name) f.2 in
        let there : is_there_as t f.0 ≡ true = and_from (is_live_task f.0.condition || is_live_wildcard f.0.condition) (bytes_eq t f.0.name) (or_right (is_live_task f.0.condition) (is_live_wildcard f.0.condition) parts.0) parts.1 in
        let w = waits_after in
        let is = (lawful_after s (Announces t (Waits p n) place) lawful).one_name t f.0 w.0 f.1 w.1 there w.2 in
        absurd (let e : is_live_wildcard (Waiting p n) ≡ true = sym (ap is_live_wildcard (ap (λ (x : Participant). x.condition) is ∙ w.3)) ∙ parts.0 in let f : false ≡ true = e in cc)
  ]

  pub go_is_legal : first_fault after (Some (Announces t Goes None)) ≡ None
  go_is_legal =
      let w = waits_after in
      let is = named_is after (lawful_after s (Announces t (Waits p n) place) lawful) t w.0 w.1 w.2 in
      let waits : waits_now (participant_in after t).condition ≡ true = ap waits_now (ap (λ (x : Participant). x.condition) is ∙ w.3) in
      let there : list_any (is_there_as t) after.list ≡ true = any_from (is_there_as t) after.list w.0 w.1 w.2 in
      let room : has_no_room after t ≡ false = ap (λ b. not b && nat_le most_listed (length after.list)) there in
      ap (λ rows. slice_get rows 0) (no_rows waits room)
    where
      no_rows : waits_now (participant_in after t).condition ≡ true → has_no_room after t ≡ false → faults_of after (Announces t Goes None) ≡ []
      no_rows waits room =
          ap (λ b. fault_where (b && true) (NamesWildcard t) ++ fault_where (waits_now (participant_in after t).condition && false) (StillWaits t) ++ fault_where (not (waits_now (participant_in after t).condition)) (DoesNotWait t) ++ fault_where (has_no_room after t) TooManyListed ++ []) no_wildcard_after
          ∙ ap (λ b. fault_where (b && false) (StillWaits t) ++ fault_where (not b) (DoesNotWait t) ++ fault_where (has_no_room after t) TooManyListed ++ []) waits
          ∙ ap (λ b. fault_where b TooManyListed ++ []) room

-- behind the go it is known who was stuck before the line that says only where the task is
pub stands_known : (s : TraceState) (t p : List ℕ) (n : ℕ) (place : Option (List ℕ)) (was : List (ℕ × List ℕ)) (after back : TraceState) (fault : Option LineFault) → IsKnownBefore s (Announces t (Waits p n) place) was after → fault ≡ first_fault after (Some (Announces t Goes None)) → back ≡ taken_state after (Announces t Goes None) fault → IsKnownBefore s (Announces t Stands place) was back
stands_known s t p n place was after back fault known found taken =
    let legal = go_is_legal s known.lawful t p n place known.legal in
    let none : fault ≡ None = found ∙ ap (λ x. first_fault x (Some (Announces t Goes None))) known.leads ∙ legal in
    record {
      lawful = known.lawful;
      legal = known.legal;
      leads = taken ∙ ap (taken_state after (Announces t Goes None)) none ∙ ap (λ x. after_line x (Announces t Goes None)) known.leads ∙ goes_back s known.lawful t p n place known.legal;
      before = known.before;
    }
