-- A wildcard that somebody who runs may play ends, and the same are stuck.
use Rattle.std.proofs.Common.{◌≡◌, ◌==◌, ℕ, true, false, ◌||◌, not, Option, List, [], length, map, sym, ◌∙◌, ap, subst, inl, inr, arith}
use Rattle.std.specs.Prelude.{Contains, filter}
use Rattle.std.proofs.lemmas.Bool.{cases_Bool, cond-true}
use Rattle.monitor_laws.specs.Lines.{Ends}
use Rattle.monitor_laws.specs.States.{Condition, Running, Waiting, Ended, AnyTask, OneOf, Participant, TraceState, announced_by, changed_at, is_live_task, is_live_wildcard, is_there_as, placed_at, stays_listed, with_named}
use Rattle.monitor_laws.specs.Stuck.{IsStuck}
use Rattle.monitor_laws.proofs.Changes.{changed_there, from_change, from_named, in_change, in_named, other_is, there_is}
use Rattle.monitor_laws.proofs.Filters.{none_passes}
use Rattle.monitor_laws.proofs.Lawful.{IsLawfulState, placed_condition, placed_number, placed_phases}
use Rattle.monitor_search.specs.Known.{AreStuckTasks, has_stuck_number, known_task}
use Rattle.monitor_search.specs.inside.Keeping.{IsFreedWildcard}
use Rattle.monitor_search.specs.inside.Leaving.{is_freed}
use Rattle.monitor_search.proofs.Carried.{IsApart, IsCarried, apart_outside, still_stuck}
use Rattle.monitor_search.proofs.OneChanged.{same_passed}
use Rattle.monitor_search.proofs.SurelyOut.{freed_out}

wild_waits_not : (c : Condition) (p : List ℕ) (n : ℕ) → is_live_wildcard c ≡ true → c ≡ Waiting p n → ⊥
wild_waits_not c p n wild waits = absurd (let e = ap is_live_wildcard waits in cc)

wild_lives_not : (c : Condition) → is_live_wildcard c ≡ true → is_live_task c ≡ true → ⊥
wild_lives_not Running wild live = absurd (cc)
wild_lives_not (Waiting p n) wild live = absurd (cc)
wild_lives_not Ended wild live = absurd (cc)
wild_lives_not AnyTask wild live = absurd (cc)
wild_lives_not (OneOf names tasks) wild live = absurd (cc)

-- who has ended and is a member of nothing is not listed
gone_not_listed : (v : Participant) → v.condition ≡ Ended → v.phases ≡ [] → stays_listed v ≡ false
gone_not_listed v ended none =
    ap (λ c. is_live_task c || is_live_wildcard c || not (length v.phases == 0)) ended ∙ ap (λ (l : List (List ℕ × ℕ)). not (length l == 0)) none

module _ (s : TraceState) (lawful : IsLawfulState s) (t : List ℕ) (place : Option (List ℕ)) (u : Participant) (within : Contains s.list u) (there : is_there_as t u ≡ true)
    (wild : is_live_wildcard u.condition ≡ true) (freed : is_freed s.list u.condition ≡ true) where
  change : Participant → Participant
  change v = placed_at place (announced_by Ends v)

  abbrev after : TraceState
  after = changed_at t change s

  number : (v : Participant) → (change v).number ≡ v.number
  unfolding change
  number v = placed_number place (announced_by Ends v)

  goes : stays_listed (change u) ≡ false
  unfolding change
  goes =
      gone_not_listed (change u) (placed_condition place (announced_by Ends u))
      (placed_phases place (announced_by Ends u) ∙ cond-true (is_live_wildcard u.condition) [] u.phases wild)

  -- whoever is listed after it was so before, and is another one
  was_listed : (x : Participant) → Contains after.list x → Contains s.list x × (x.number ≡ u.number → ⊥)
  was_listed x listed =
      let m = from_change (changed_there t change) (with_named s t) x listed in
      elim (from_named s t m.0 m.1) [
        | inr new ↦ absurd (let none = none_passes (is_there_as t) s.list u within new.0 in cc)
        | inl old ↦ elim (cases_Bool (is_there_as t m.0)) [
          | inl on ↦
              absurd (let own = lawful.one_name t m.0 u old within on there in
              let is : change u ≡ x = ap change (sym own) ∙ sym (there_is t change m.0 on) ∙ m.2 in
              let e = ap stays_listed is in
              let f = m.3 in
              let g = goes in
              cc)
          | inr off ↦
              (let is : m.0 ≡ x = sym (other_is t change m.0 off) ∙ m.2 in (
                subst (Contains s.list) is old,
                λ same. absurd (let own = lawful.one_number m.0 u old within (ap (λ (y : Participant). y.number) is ∙ same) in let e = ap (is_there_as t) own in cc),
              ))
        ]
      ]

  is_listed : (v : Participant) → Contains s.list v → (v.number ≡ u.number → ⊥) → Contains after.list v
  is_listed v listed other = elim (cases_Bool (is_there_as t v)) [
    | inl on ↦ absurd (other (ap (λ (y : Participant). y.number) (lawful.one_name t v u listed within on there)))
    | inr off ↦
        (let same = other_is t change v off in
        subst (Contains after.list) same
        (in_change (changed_there t change) (with_named s t) v (in_named s t v listed) (subst (λ x. stays_listed x ≡ true) (sym same) (lawful.stays v listed))))
  ]

  is_own : (x : Participant) → Contains s.list x → x.number ≡ u.number → x ≡ u
  is_own x listed same = lawful.one_number x u listed within same

  apart : IsApart s u.number
  apart =
      apart_outside s u.number
      (λ set closed x listed same inside.
      freed_out s s.list (λ v in_v runs. in_v) set closed u.condition freed (closed u within (subst (λ j. set j ≡ true) same inside)))

  apart_after : IsApart after u.number
  apart_after = apart_outside after u.number (λ set closed x listed same inside. (was_listed x listed).1 same)

  onward : IsCarried s after u.number
  onward =
      record {
        back = λ v listed other. (was_listed v listed).0;
        onward = is_listed;
        lives = λ (x, listed, same, live). absurd ((was_listed x listed).1 same);
      }

  backward : IsCarried after s u.number
  backward =
      record {
        back = is_listed;
        onward = λ v listed other. (was_listed v listed).0;
        lives = λ (x, listed, same, live). absurd (wild_lives_not u.condition wild (ap (λ (y : Participant). is_live_task y.condition) (sym (is_own x listed same)) ∙ live));
      }

  -- a stuck task is another one
  stuck_differs : (x : Participant) → IsStuck s x → x.number ≡ u.number → ⊥
  stuck_differs x stuck same =
      let (p, n, waits) = stuck.waits in
      wild_waits_not u.condition p n wild (ap (λ (y : Participant). y.condition) (sym (is_own x stuck.listed same)) ∙ waits)

  end_keeps : (known : List (ℕ × List ℕ)) → AreStuckTasks s known → AreStuckTasks after known
  end_keeps known is =
      record {
        tells = λ k. (
          λ on. (let (x, stuck, same) = (is.tells k).0 on in (x, still_stuck s after u.number onward apart x stuck (stuck_differs x stuck), same)),
          λ (x, stuck, same). (is.tells k).1 (x, still_stuck after s u.number backward apart_after x stuck (was_listed x stuck.listed).1, same),
        );
        ordered = is.ordered ∙ ap (map known_task) (sym same_filter);
      }
    where
      none_new : has_stuck_number known s.named ≡ false
      none_new = elim (cases_Bool (has_stuck_number known s.named)) [
        | inr off ↦ off
        | inl on ↦ absurd (let x = (is.tells s.named).0 on in let n = lawful.numbers x.0 x.1.listed in let e = x.2 in omega arith)
      ]

      clean : (x : Participant) → Contains s.list x → has_stuck_number known x.number ≡ true → (is_there_as t x ≡ false) × (stays_listed x ≡ true)
      clean x listed on = (
        elim (cases_Bool (is_there_as t x)) [
          | inr off ↦ off
          | inl on_t ↦
              absurd (let (y, stuck, same) = (is.tells x.number).0 on in
              stuck_differs y stuck (same ∙ ap (λ (z : Participant). z.number) (lawful.one_name t x u listed within on_t there)))
        ],
        lawful.stays x listed,
      )

      same_filter : filter (λ x. has_stuck_number known x.number) after.list ≡ filter (λ x. has_stuck_number known x.number) s.list
      same_filter = same_passed s lawful t change number (λ x. has_stuck_number known x.number) (λ x. ap (has_stuck_number known) (number x)) none_new clean

pub freed_wildcard_ends : (s : TraceState) → IsLawfulState s → (t : List ℕ) (place : Option (List ℕ)) → IsFreedWildcard s.list t → (known : List (ℕ × List ℕ)) → AreStuckTasks s known →
    AreStuckTasks (changed_at t (λ v. placed_at place (announced_by Ends v)) s) known
unfolding change
freed_wildcard_ends s lawful t place (u, within, there, wild, freed) known is = end_keeps s lawful t place u within there wild freed known is
