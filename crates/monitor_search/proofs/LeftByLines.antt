-- Lines by which nobody becomes stuck and nobody is stuck no longer, and those by which one task becomes stuck alone.
use Rattle.std.proofs.Common.{◌≡◌, ◌==◌, ℕ, Bool, true, false, ◌||◌, not, Option, List, [], ◌∷◌, length, map, refl, sym, ◌∙◌, ap, subst, ◌⊎◌, inl, inr, arith}
use Rattle.std.specs.Prelude.{Contains, filter, is_some}
use Rattle.std.specs.List.{list_any}
use Rattle.std.proofs.lemmas.Bool.{and_from, eq-eqb, and_parts, cases_Bool, or_cases, or_left}
use Rattle.monitor_laws.specs.Lines.{Announcement, Joins, Arrives, Leaves, Waits, Goes, Ends, Stands, Announces, PlaysAny, PlaysOneOf}
use Rattle.monitor_laws.specs.States.{Condition, Running, Waiting, Ended, AnyTask, OneOf, Participant, TraceState, announced_by, changed_at, is_live_task, is_live_wildcard, is_there_as, new_participant, placed_at, task_numbers}
use Rattle.monitor_laws.specs.Faults.{NamesTask, TooManyListed, fault_where, faults_of, has_no_room, is_of_tasks, is_task_in, is_wildcard_in}
use Rattle.monitor_laws.specs.Stuck.{IsClosedSet, IsKeptIn, IsStuck}
use Rattle.monitor_laws.proofs.Filters.{any_from, any_is}
use Rattle.monitor_laws.proofs.Lawful.{IsLawfulState, announced_name, announced_number, lawful_after, placed_condition, placed_name, placed_number}
use Rattle.monitor_search.proofs.QuietEnds.{quietly_ended}
use Rattle.monitor_laws.proofs.Rows.{both_tables, has_no_fault, is_task, is_wildcard, no_row, no_task_row, task_or_wildcard}
use Rattle.monitor_search.specs.Known.{AreStuckAfter, AreStuckTasks, KeepsStuck, has_stuck_number, known_task}
use Rattle.monitor_search.specs.inside.Joining.{JoinsAlone, JoinsAloneBy, known_with}
use Rattle.monitor_search.specs.inside.Keeping.{LeavesStuck, LeavesStuckBy, StaysOut}
use Rattle.monitor_search.specs.inside.Leaving.{HasNoPhase, is_for_any, is_freed, ends_quietly, is_nobody, is_surely_out, runs_beside, runs_now}
use Rattle.monitor_search.specs.inside.Waits.{is_inside_below, needs_other, waits_inside, waits_unneeded}
use Rattle.monitor_search.proofs.Carried.{AsksFor, IsApart, IsCarried, NoneAsks, apart_idle, apart_outside, still_stuck}
use Rattle.monitor_search.proofs.OneChanged.{WasThere, had_number, new_number, one_there, others_are, others_were, same_number, same_passed, was_there}
use Rattle.monitor_search.proofs.OneMore.{one_more}
use Rattle.monitor_search.proofs.SurelyOut.{freed_out, runs_is, surely_out}
use Rattle.monitor_search.proofs.Unneeded.{IsBeside, unneeded_out}

-- a condition is of a task or of a wildcard
wild_not_live : (c : Condition) → is_live_wildcard c ≡ true → is_live_task c ≡ true → ⊥
wild_not_live Running wild live = absurd (cc)
wild_not_live (Waiting p n) wild live = absurd (cc)
wild_not_live Ended wild live = absurd (cc)
wild_not_live AnyTask wild live = absurd (cc)
wild_not_live (OneOf names tasks) wild live = absurd (cc)

wild_freed : (list : List Participant) (c : Condition) → is_live_wildcard c ≡ true → is_surely_out list c ≡ true → is_freed list c ≡ true
wild_freed list Running wild on = absurd (cc)
wild_freed list (Waiting p n) wild on = absurd (cc)
wild_freed list Ended wild on = absurd (cc)
wild_freed list AnyTask wild on = on
wild_freed list (OneOf names tasks) wild on = on

wild_not_unneeded : (list : List Participant) (known : List (ℕ × List ℕ)) (u : Participant) (c : Condition) → is_live_wildcard c ≡ true → waits_unneeded list known u c ≡ true → ⊥
wild_not_unneeded list known u Running wild on = absurd (cc)
wild_not_unneeded list known u (Waiting p n) wild on = absurd (cc)
wild_not_unneeded list known u Ended wild on = absurd (cc)
wild_not_unneeded list known u AnyTask wild on = absurd (cc)
wild_not_unneeded list known u (OneOf names tasks) wild on = absurd (cc)

from_not : (b : Bool) → not b ≡ true → b ≡ false
from_not true e = absurd (cc)
from_not false e = refl

nobody_is : (known : List (ℕ × List ℕ)) → is_nobody known ≡ true → known ≡ []
nobody_is [] e = refl
nobody_is (t ∷ known) e = absurd (cc)

module _ (s : TraceState) (lawful : IsLawfulState s) (t : List ℕ) (change : Participant → Participant) (number : (u : Participant) → (change u).number ≡ u.number)
    (lawful_too : IsLawfulState (changed_at t change s)) (known : List (ℕ × List ℕ)) (is : AreStuckTasks s known)
    (u : Participant) (within : Contains (changed_at t change s).list u) (there : is_there_as t u ≡ true) where
  abbrev after : TraceState
  after = changed_at t change s

  abbrev old : WasThere s lawful t change number u
  old = was_there s lawful t change number u within there

  has_number_after : (x : Participant) → Contains after.list x → x.number ≡ u.number → x ≡ u
  has_number_after x listed same = lawful_too.one_number x u listed within same

  had : (x : Participant) → Contains s.list x → x.number ≡ u.number → x ≡ old.was
  had = had_number s lawful t change number u old

  stuck_is_known : (x : Participant) → IsStuck s x → has_stuck_number known x.number ≡ true
  stuck_is_known x stuck = (is.tells x.number).1 (x, stuck, refl)

  module _ (new : has_stuck_number known u.number ≡ false) where
    -- who is known has another number
    known_differs : (x : Participant) → has_stuck_number known x.number ≡ true → x.number ≡ u.number → ⊥
    known_differs x on same = let e = ap (has_stuck_number known) same in absurd (cc)

    keeps : (IsStuck after u → ⊥) → IsApart s u.number → IsApart after u.number → (IsCarried s after u.number ⊎ (known ≡ [])) → IsCarried after s u.number → AreStuckTasks after known
    keeps not_stuck apart apart_after onward backward =
        record {
          tells = λ k. (λ on. stays k on onward, λ told. came k told);
          ordered = is.ordered ∙ ap (map known_task) (sym same_filter);
        }
      where
        stays : (k : ℕ) → has_stuck_number known k ≡ true → (IsCarried s after u.number ⊎ (known ≡ [])) → (x : Participant) × IsStuck after x × (x.number ≡ k)
        stays k on (inl carried) =
            let x = (is.tells k).0 on in
            (x.0, still_stuck s after u.number carried apart x.0 x.1 (known_differs x.0 (stuck_is_known x.0 x.1)), x.2)
        stays k on (inr none) = absurd (let e = ap (λ l. has_stuck_number l k) none in cc)

        came : (k : ℕ) → ((x : Participant) × IsStuck after x × (x.number ≡ k)) → has_stuck_number known k ≡ true
        came k (x, stuck, same) =
            (is.tells k).1 (x, still_stuck after s u.number backward apart_after x stuck (λ e. not_stuck (subst (IsStuck after) (has_number_after x stuck.listed e) stuck)), same)

        clean : (x : Participant) → Contains s.list x → has_stuck_number known x.number ≡ true → (is_there_as t x ≡ false)
        clean x listed on = elim (cases_Bool (is_there_as t x)) [
          | inr off ↦ off
          | inl on_t ↦ absurd (known_differs x on (ap (λ (y : Participant). y.number) (one_there s lawful t change number u old x (inl listed) on_t) ∙ sym (same_number s lawful t change number u old)))
        ]

        none_new : has_stuck_number known s.named ≡ false
        none_new = elim (cases_Bool (has_stuck_number known s.named)) [
          | inr off ↦ off
          | inl on ↦ absurd (let x = (is.tells s.named).0 on in let n = lawful.numbers x.0 x.1.listed in let e = x.2 in omega arith)
        ]

        same_filter : filter (λ x. has_stuck_number known x.number) after.list ≡ filter (λ x. has_stuck_number known x.number) s.list
        same_filter =
            same_passed s lawful t change number (λ x. has_stuck_number known x.number) (λ x. ap (has_stuck_number known) (number x)) none_new
            (λ x listed on. (clean x listed on, lawful.stays x listed))

    module _ (outside : (set : ℕ → Bool) → IsClosedSet after set → set u.number ≡ true → ⊥) where
      not_stuck_out : IsStuck after u → ⊥
      not_stuck_out stuck = outside stuck.set stuck.closed stuck.inside

      apart_out : IsApart after u.number
      apart_out =
          apart_outside after u.number
          (λ set closed x listed same inside. outside set closed (subst (λ (y : Participant). set y.number ≡ true) (has_number_after x listed same) inside))

      -- of a task
      module _ (live : is_live_task u.condition ≡ true) (was_live : Contains s.list old.was → is_live_task old.was.condition ≡ true) where
        stuck_or_out : (c : Condition) → old.was.condition ≡ c → is_live_task c ≡ true → Contains s.list old.was → (set : ℕ → Bool) → IsClosedSet s set → set old.was.number ≡ true → ⊥
        stuck_or_out Running same alive listed set closed inside = subst (IsKeptIn s set) same (closed old.was listed inside)
        stuck_or_out (Waiting p n) same alive listed set closed inside =
            known_differs old.was (stuck_is_known old.was (record { listed = listed; waits = (p, n, same); set = set; closed = closed; inside = inside }))
            (sym (same_number s lawful t change number u old))
        stuck_or_out Ended same alive listed set closed inside = absurd (cc)
        stuck_or_out AnyTask same alive listed set closed inside = absurd (cc)
        stuck_or_out (OneOf names tasks) same alive listed set closed inside = absurd (cc)

        apart_task : IsApart s u.number
        apart_task =
            apart_outside s u.number
            (λ set closed x listed same inside.
            let e = had x listed same in
            let in_s = subst (Contains s.list) e listed in
            stuck_or_out old.was.condition refl (was_live in_s) in_s set closed (subst (λ (y : Participant). set y.number ≡ true) e inside))

        task_back : IsCarried after s u.number
        task_back =
            record {
              back = others_are s lawful t change number u old;
              onward = others_were s lawful t change number u old;
              lives = λ lived. inl (u, within, refl, live);
            }

        -- a new task has a number that no wildcard has
        new_is_last : (list_any (is_there_as t) s.list ≡ false) × (old.was ≡ new_participant s.named t) → u.number ≡ s.named
        new_is_last fresh = new_number s lawful t change number u old fresh.1

        none_asks : u.number ≡ s.named → ((set : ℕ → Bool) → IsClosedSet s set → (w : Participant) → Contains s.list w → set w.number ≡ true → w.condition ≡ AnyTask → ⊥) → NoneAsks s u.number
        none_asks last none set closed w listed inside asks = by_condition w.condition refl asks
          where
            by_condition : (c : Condition) → w.condition ≡ c → AsksFor c u.number → ⊥
            by_condition Running same asked = asked
            by_condition (Waiting p n) same asked = asked
            by_condition Ended same asked = asked
            by_condition AnyTask same asked = none set closed w listed inside same
            by_condition (OneOf names tasks) same asked = let n = lawful.tasks w names tasks listed same u.number asked in absurd (omega arith)

        carried_where : ((list_any (is_there_as t) s.list ≡ false) × (old.was ≡ new_participant s.named t) → NoneAsks s u.number) → IsCarried s after u.number
        carried_where asks =
            record {
              back = others_were s lawful t change number u old;
              onward = others_are s lawful t change number u old;
              lives = λ lived. elim old.from [
                | inl listed ↦ inl (old.was, listed, sym (same_number s lawful t change number u old), was_live listed)
                | inr fresh ↦ inr (asks fresh)
              ];
            }

        task_onward :
            ((((is_live_wildcard u.condition ≡ true) ⊎ (is_nobody known ≡ true)) ⊎ (list_any (λ v. is_for_any v.condition) after.list ≡ false)) ⊎ ((v : Participant) × Contains after.list v × (runs_beside u.number v ≡ true))) →
            IsCarried s after u.number ⊎ (known ≡ [])
        task_onward (inl (inl (inl wild))) = absurd (wild_not_live u.condition wild live)
        task_onward (inl (inl (inr none))) = inr (nobody_is known none)
        task_onward (inl (inr none)) =
            inl (carried_where (λ fresh. none_asks (new_is_last fresh) (λ set closed w listed inside any.
            let last = new_is_last fresh in
            let in_after = others_are s lawful t change number u old w listed (λ e. let n = lawful.numbers w listed in absurd (omega arith)) in
            let some = any_from (λ v. is_for_any v.condition) after.list w in_after (ap is_for_any any) in
            absurd (cc))))
        task_onward (inr (v, listed_v, beside)) =
            inl (carried_where (λ fresh. none_asks (new_is_last fresh) (λ set closed w listed inside any.
            let parts = and_parts (runs_now v.condition) (not (v.number == u.number)) beside in
            let runs = runs_is v.condition parts.0 in
            let differs : v.number ≡ u.number → ⊥ = λ e. let f = ap not (eq-eqb v.number u.number e) in let g = parts.1 in absurd (cc) in
            let in_s = others_were s lawful t change number u old v listed_v differs in
            let all : IsKeptIn s set AnyTask = subst (IsKeptIn s set) any (closed w listed inside) in
            subst (IsKeptIn s set) runs (closed v in_s (all v in_s (ap is_live_task runs))))))

      -- of a wildcard that stays what it is
      module _ (wild : is_live_wildcard u.condition ≡ true) (same_condition : old.was.condition ≡ u.condition) (out : is_surely_out after.list u.condition ≡ true) where
        apart_wild : IsApart s u.number
        apart_wild =
            apart_outside s u.number
            (λ set closed x listed same inside.
            let e = had x listed same in
            freed_out s after.list
            (λ v in_after runs. others_were s lawful t change number u old v in_after
            (λ differs. let f = ap (λ (y : Participant). is_live_wildcard y.condition) (has_number_after v in_after differs) in let g = ap is_live_wildcard (runs_is v.condition runs) in absurd (cc)))
            set closed u.condition (wild_freed after.list u.condition wild out)
            (subst (IsKeptIn s set) (ap (λ (y : Participant). y.condition) e ∙ same_condition) (closed x listed inside)))

        wild_back : IsCarried after s u.number
        wild_back =
            record {
              back = others_are s lawful t change number u old;
              onward = others_were s lawful t change number u old;
              lives = λ (x, listed, same, lived). absurd (wild_not_live u.condition wild (subst (λ c. is_live_task c ≡ true) (ap (λ (y : Participant). y.condition) (had x listed same) ∙ same_condition) lived));
            }

        wild_onward : IsCarried s after u.number
        wild_onward =
            record {
              back = others_were s lawful t change number u old;
              onward = others_are s lawful t change number u old;
              lives = λ (x, listed, same, lived). absurd (wild_not_live u.condition wild (subst (λ (y : Participant). is_live_task y.condition ≡ true) (has_number_after x listed same) lived));
            }

  -- of a wildcard that is a member of nothing
  module _ (wild : is_live_wildcard u.condition ≡ true) (none : u.phases ≡ []) (had_none : old.was.phases ≡ []) (not_task : Contains s.list old.was → is_live_task old.was.condition ≡ false) where
    not_live : is_live_task u.condition ≡ false
    not_live = elim (cases_Bool (is_live_task u.condition)) [ inl live ↦ absurd (wild_not_live u.condition wild live) | inr off ↦ off ]

    was_idle : (x : Participant) → Contains s.list x → x.number ≡ u.number → (is_live_task x.condition ≡ false) × (x.phases ≡ [])
    was_idle x listed same =
        let e = had x listed same in
        (ap (λ (y : Participant). is_live_task y.condition) e ∙ not_task (subst (Contains s.list) e listed), ap (λ (y : Participant). y.phases) e ∙ had_none)

    is_idle : (x : Participant) → Contains after.list x → x.number ≡ u.number → (is_live_task x.condition ≡ false) × (x.phases ≡ [])
    is_idle x listed same =
        let e = has_number_after x listed same in
        (ap (λ (y : Participant). is_live_task y.condition) e ∙ not_live, ap (λ (y : Participant). y.phases) e ∙ none)

    waits_lives : (x : Participant) (p : List ℕ) (n : ℕ) → x.condition ≡ Waiting p n → is_live_task x.condition ≡ true
    waits_lives x p n waits = ap is_live_task waits

    new_idle : has_stuck_number known u.number ≡ false
    new_idle = elim (cases_Bool (has_stuck_number known u.number)) [
      | inr off ↦ off
      | inl on ↦
          absurd (let (x, stuck, same) = (is.tells u.number).0 on in
          let (p, n, waits) = stuck.waits in
          let live = waits_lives x p n waits in
          let idle = (was_idle x stuck.listed same).0 in
          cc)
    ]

    keeps_idle : AreStuckTasks after known
    keeps_idle =
        keeps new_idle
        (λ stuck. let (p, n, waits) = stuck.waits in let live = waits_lives u p n waits in let e = not_live in absurd (cc))
        (apart_idle s u.number was_idle)
        (apart_idle after u.number is_idle)
        (inl (record {
          back = others_were s lawful t change number u old;
          onward = others_are s lawful t change number u old;
          lives = λ (x, listed, same, lived). let e = (is_idle x listed same).0 in absurd (cc);
        }))
        (record {
          back = others_are s lawful t change number u old;
          onward = others_were s lawful t change number u old;
          lives = λ (x, listed, same, lived). let e = (was_idle x listed same).0 in absurd (cc);
        })

-- after what a task or wildcard announces
module _ (s : TraceState) (lawful : IsLawfulState s) (t : List ℕ) (what : Announcement) (place : Option (List ℕ)) (legal : faults_of s (Announces t what place) ≡ []) where
  change : Participant → Participant
  change u = placed_at place (announced_by what u)

  number : (u : Participant) → (change u).number ≡ u.number
  unfolding change
  number u = placed_number place (announced_by what u) ∙ announced_number what u

  condition : (u : Participant) → (change u).condition ≡ (announced_by what u).condition
  unfolding change
  condition u = placed_condition place (announced_by what u)

  -- what tasks alone say no wildcard says
  said_of_wildcard : (u : Participant) → Contains s.list u → is_there_as t u ≡ true → is_live_wildcard u.condition ≡ true → is_of_tasks what ≡ false
  said_of_wildcard u within there wild = elim (cases_Bool (is_of_tasks what)) [
    | inr off ↦ off
    | inl on ↦
        absurd (let w = is_wildcard s t u within there wild in
        let both = and_from (is_wildcard_in s t) (is_of_tasks what || is_some place) w (or_left (is_of_tasks what) (is_some place) on) in
        let none = (has_no_fault s t what place legal).no_wildcard in
        cc)
  ]

  task_was : (u : Participant) → Contains s.list u → is_there_as t u ≡ true → is_live_task (change u).condition ≡ true → is_live_task u.condition ≡ true
  task_was u within there live = elim (task_or_wildcard t u there) [
    | inl task ↦ task
    | inr wild ↦ absurd (by_said what (said_of_wildcard u within there wild) wild (subst (λ c. is_live_task c ≡ true) (condition u) live))
  ]
    where
      by_said : (x : Announcement) → is_of_tasks x ≡ false → is_live_wildcard u.condition ≡ true → is_live_task (announced_by x u).condition ≡ true → ⊥
      by_said (Joins p n) of wild e = wild_not_live u.condition wild e
      by_said (Arrives p) of wild e = wild_not_live u.condition wild e
      by_said (Leaves p) of wild e = wild_not_live u.condition wild e
      by_said (Waits p n) of wild e = absurd (cc)
      by_said Goes of wild e = absurd (cc)
      by_said Ends of wild e = absurd (cc)
      by_said Stands of wild e = absurd (cc)

  wild_was : (u : Participant) → is_live_wildcard (change u).condition ≡ true → u.condition ≡ (change u).condition
  wild_was u wild = by_said what (subst (λ c. is_live_wildcard c ≡ true) (condition u) wild) ∙ sym (condition u)
    where
      by_said : (x : Announcement) → is_live_wildcard (announced_by x u).condition ≡ true → u.condition ≡ (announced_by x u).condition
      by_said (Joins p n) e = refl
      by_said (Arrives p) e = refl
      by_said (Leaves p) e = refl
      by_said (Waits p n) e = absurd (cc)
      by_said Goes e = absurd (cc)
      by_said Ends e = absurd (cc)
      by_said Stands e = refl

  abbrev later : TraceState
  later = changed_at t change s

  announced_leaves : IsLawfulState later → (known : List (ℕ × List ℕ)) → AreStuckTasks s known → (u : Participant) → Contains later.list u → is_there_as t u ≡ true →
      LeavesStuck later.list known u → AreStuckTasks later known
  announced_leaves lawful_too known is u within there leaves = by_kind (task_or_wildcard t u there)
    where
      new : has_stuck_number known u.number ≡ false
      new = leaves.new

      kind : (((is_live_wildcard u.condition ≡ true) ⊎ (is_nobody known ≡ true)) ⊎ (list_any (λ v. is_for_any v.condition) later.list ≡ false)) ⊎ ((v : Participant) × Contains later.list v × (runs_beside u.number v ≡ true))
      kind = elim (or_cases ((is_live_wildcard u.condition || is_nobody known) || not (list_any (λ v. is_for_any v.condition) later.list)) (list_any (runs_beside u.number) later.list) leaves.frees) [
        | inl a ↦ elim (or_cases (is_live_wildcard u.condition || is_nobody known) (not (list_any (λ v. is_for_any v.condition) later.list)) a) [
          | inl b ↦ inl (inl (or_cases (is_live_wildcard u.condition) (is_nobody known) b))
          | inr none ↦ inl (inr (from_not (list_any (λ v. is_for_any v.condition) later.list) none))
        ]
        | inr more ↦ (let v = any_is (runs_beside u.number) later.list more in inr (v.0, v.1, v.2))
      ]

      was : WasThere s lawful t change number u
      was = was_there s lawful t change number u within there

      beside : IsBeside s later u
      beside =
          record {
            within = within;
            only = λ x listed same. lawful_too.one_number x u listed within same;
            back = others_were s lawful t change number u was;
            onward = others_are s lawful t change number u was;
          }

      outside : (set : ℕ → Bool) → IsClosedSet later set → set u.number ≡ true → ⊥
      outside set closed inside = by_way leaves.out
        where
          by_way : StaysOut later.list known u → ⊥
          by_way (inl out) = surely_out later u.condition out set closed (closed u within inside)
          by_way (inr unneeded) = unneeded_out s later u beside known is unneeded set closed inside

      surely : is_live_wildcard u.condition ≡ true → is_surely_out later.list u.condition ≡ true
      surely wild = elim leaves.out [
        | inl out ↦ out
        | inr unneeded ↦ absurd (wild_not_unneeded later.list known u u.condition wild unneeded)
      ]

      by_kind : (is_live_task u.condition ≡ true) ⊎ (is_live_wildcard u.condition ≡ true) → AreStuckTasks later known
      by_kind (inl live) =
          let lived : Contains s.list was.was → is_live_task was.was.condition ≡ true =
          λ listed. task_was was.was listed was.there (subst (λ (x : Participant). is_live_task x.condition ≡ true) (sym was.is) live) in
          keeps s lawful t change number lawful_too known is u within there new
          (not_stuck_out s lawful t change number lawful_too known is u within there new outside)
          (apart_task s lawful t change number lawful_too known is u within there new outside live lived)
          (apart_out s lawful t change number lawful_too known is u within there new outside)
          (task_onward s lawful t change number lawful_too known is u within there new outside live lived kind)
          (task_back s lawful t change number lawful_too known is u within there new outside live lived)
      by_kind (inr wild) =
          let same : was.was.condition ≡ u.condition =
          wild_was was.was (subst (λ (x : Participant). is_live_wildcard x.condition ≡ true) (sym was.is) wild) ∙ ap (λ (x : Participant). x.condition) was.is in
          keeps s lawful t change number lawful_too known is u within there new
          (not_stuck_out s lawful t change number lawful_too known is u within there new outside)
          (apart_wild s lawful t change number lawful_too known is u within there new outside wild same (surely wild))
          (apart_out s lawful t change number lawful_too known is u within there new outside)
          (inl (wild_onward s lawful t change number lawful_too known is u within there new outside wild same (surely wild)))
          (wild_back s lawful t change number lawful_too known is u within there new outside wild same (surely wild))

  announced_joins : IsLawfulState later → (known : List (ℕ × List ℕ)) → AreStuckTasks s known → (u : Participant) → Contains later.list u → is_there_as t u ≡ true →
      JoinsAlone later.list known u → AreStuckTasks later (known_with later.list known u.number)
  announced_joins lawful_too known is u within there joins = by_condition u.condition refl joins.waits
    where
      was : WasThere s lawful t change number u
      was = was_there s lawful t change number u within there

      beside : IsBeside s later u
      beside =
          record {
            within = within;
            only = λ x listed same. lawful_too.one_number x u listed within same;
            back = others_were s lawful t change number u was;
            onward = others_are s lawful t change number u was;
          }

      not_known : (x : Participant) → IsStuck s x → x.number ≡ u.number → ⊥
      not_known x stuck same =
          absurd (let on = (is.tells x.number).1 (x, stuck, refl) in let e = ap (has_stuck_number known) same in let off = joins.new in cc)

      -- it lived, and stood in no closed set
      out : is_live_task u.condition ≡ true → (set : ℕ → Bool) → IsClosedSet s set → (x : Participant) → Contains s.list x → x.number ≡ u.number → set x.number ≡ true → ⊥
      out live set closed x listed same inside = by_old x.condition refl lived
        where
          is_was : x ≡ was.was
          is_was = had_number s lawful t change number u was x listed same

          lived : is_live_task x.condition ≡ true
          lived =
              ap (λ (y : Participant). is_live_task y.condition) is_was
              ∙ task_was was.was (subst (Contains s.list) is_was listed) was.there (subst (λ (y : Participant). is_live_task y.condition ≡ true) (sym was.is) live)

          by_old : (c : Condition) → x.condition ≡ c → is_live_task c ≡ true → ⊥
          by_old Running waits alive = subst (IsKeptIn s set) waits (closed x listed inside)
          by_old (Waiting q m) waits alive = not_known x (record { listed = listed; waits = (q, m, waits); set = set; closed = closed; inside = inside }) same
          by_old Ended waits alive = absurd (cc)
          by_old AnyTask waits alive = absurd (cc)
          by_old (OneOf names tasks) waits alive = absurd (cc)

      by_condition : (c : Condition) → u.condition ≡ c → waits_inside later.list known u c ≡ true → AreStuckTasks later (known_with later.list known u.number)
      by_condition Running same on = absurd (cc)
      by_condition (Waiting p n) same on =
          let parts = and_parts (list_any (is_inside_below later.list known u.number p n) later.list) (not (list_any (needs_other later.list known u) later.list)) on in
          one_more s later u beside known is lawful (out (ap is_live_task same)) p n same joins.new parts.0 (from_not (list_any (needs_other later.list known u) later.list) parts.1)
      by_condition Ended same on = absurd (cc)
      by_condition AnyTask same on = absurd (cc)
      by_condition (OneOf names tasks) same on = absurd (cc)

-- after a line that says who may play a wildcard
module _ (s : TraceState) (lawful : IsLawfulState s) (w : List ℕ) (c : Condition) (wild : is_live_wildcard c ≡ true) (none : is_task_in s w ≡ false) where
  played : Participant → Participant
  played u = record u { condition = c }

  played_number : (u : Participant) → (played u).number ≡ u.number
  unfolding played
  played_number u = refl

  played_leaves : IsLawfulState (changed_at w played s) → (known : List (ℕ × List ℕ)) → AreStuckTasks s known → (u : Participant) → Contains (changed_at w played s).list u →
      is_there_as w u ≡ true → length u.phases ≡ 0 → AreStuckTasks (changed_at w played s) known
  unfolding played
  played_leaves lawful_too known is u within there short =
      keeps_idle s lawful w played played_number lawful_too known is u within there
      (subst (λ (x : Participant). is_live_wildcard x.condition ≡ true) was.is wild)
      (no_items u.phases short)
      (ap (λ (x : Participant). x.phases) was.is ∙ no_items u.phases short)
      (λ listed. elim (cases_Bool (is_live_task was.was.condition)) [
        | inr off ↦ off
        | inl task ↦ absurd (let e = is_task s w was.was listed was.there task in cc)
      ])
    where
      was : WasThere s lawful w played played_number u
      was = was_there s lawful w played played_number u within there

      no_items : (l : List (List ℕ × ℕ)) → length l ≡ 0 → l ≡ []
      no_items [] e = refl
      no_items (m ∷ l) e = absurd (omega arith)

pub announces_keeps : (state : TraceState) (t : List ℕ) (what : Announcement) (place : Option (List ℕ)) (known : List (ℕ × List ℕ)) →
    LeavesStuckBy state.list known t → KeepsStuck state (Announces t what place) known
unfolding change
announces_keeps state t what place known (inl (u, within, there, leaves)) s lawful same legal is =
    subst (λ a. AreStuckTasks a known) (sym same)
    (announced_leaves s lawful t what place legal (lawful_after s (Announces t what place) lawful) known is u
    (subst (λ (a : TraceState). Contains a.list u) same within) there (subst (λ (a : TraceState). LeavesStuck a.list known u) same leaves))
announces_keeps state t what place known (inr (nobody, quiet)) s lawful same legal is =
    subst (λ a. AreStuckTasks a known) (sym same)
    (quietly_ended s lawful t (λ u. placed_at place (announced_by what u)) (λ u. placed_name place (announced_by what u) ∙ announced_name what u) known
    (subst (λ (a : TraceState). list_any (is_there_as t) a.list ≡ false) same nobody) (subst (λ (a : TraceState). ends_quietly a.list known t ≡ true) same quiet) is)

pub any_keeps : (state : TraceState) (w : List ℕ) (known : List (ℕ × List ℕ)) → HasNoPhase state.list w → KeepsStuck state (PlaysAny w) known
unfolding played
any_keeps state w known (u, within, there, short) s lawful same legal is =
    subst (λ a. AreStuckTasks a known) (sym same)
    (played_leaves s lawful w AnyTask refl (no_row (is_task_in s w) (NamesTask w) (both_tables (fault_where (is_task_in s w) (NamesTask w)) (fault_where (has_no_room s w) TooManyListed) legal).0)
    (lawful_after s (PlaysAny w) lawful) known is u (subst (λ (a : TraceState). Contains a.list u) same within) there short)

pub one_of_keeps : (state : TraceState) (w : List ℕ) (names : List (List ℕ)) (known : List (ℕ × List ℕ)) → HasNoPhase state.list w → KeepsStuck state (PlaysOneOf w names) known
unfolding played
one_of_keeps state w names known (u, within, there, short) s lawful same legal is =
    subst (λ a. AreStuckTasks a known) (sym same)
    (played_leaves s lawful w (OneOf names (task_numbers s names)) refl (no_row (is_task_in s w) (NamesTask w) (no_task_row s w names legal))
    (lawful_after s (PlaysOneOf w names) lawful) known is u (subst (λ (a : TraceState). Contains a.list u) same within) there short)

pub announces_joins : (state : TraceState) (t : List ℕ) (what : Announcement) (place : Option (List ℕ)) (known more : List (ℕ × List ℕ)) →
    JoinsAloneBy state.list known t more → AreStuckAfter state (Announces t what place) known more
unfolding change
announces_joins state t what place known more (u, within, there, joins, is_more) s lawful same legal is =
    subst (AreStuckTasks state) (sym is_more)
    (subst (λ (a : TraceState). AreStuckTasks a (known_with a.list known u.number)) (sym same)
    (announced_joins s lawful t what place legal (lawful_after s (Announces t what place) lawful) known is u
    (subst (λ (a : TraceState). Contains a.list u) same within) there (subst (λ (a : TraceState). JoinsAlone a.list known u) same joins)))
