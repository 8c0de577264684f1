-- Worked traces.
use Rattle.std.proofs.Common.{◌≡◌, ℕ, Bool, true, false, Option, None, List, [], ◌∷◌, refl, sym, ap, subst, ◌⊎◌, inl, inr}
use Rattle.std.specs.Prelude.{Contains, codes, filter}
use Rattle.std.specs.List.{list_any}
use Rattle.std.proofs.lemmas.List.Elements.{filter-append}
use Rattle.std.proofs.lemmas.Bool.{false≢true, true≢false}
use Rattle.armus_base.proofs.Elements.{Contains-cons_cases, Contains-head, Contains-tail, nothing_in_nil}
use Rattle.monitor_laws.specs.Lines.{Announcement, Announces, Joins, Waits, Goes, Ends, TraceLine, PlaysAny}
use Rattle.monitor_laws.specs.States.{Running, Waiting, AnyTask, Participant, TraceState, after_lines, is_live_wildcard, is_there_as, nobody_named}
use Rattle.monitor_laws.specs.Stuck.{IsClosedSet, IsKeptIn, has_phase_below}
use Rattle.monitor_laws.specs.Traces.{BringsTask, IsHonestLine, NobodyWaits, is_line_of}
use Rattle.monitor_laws.proofs.WereTold.{name_of}
use Rattle.monitor_laws.specs.Worked.{HonestIsNeeded, IsTakenBack, LastingIsNeeded, OrderedJoinsAreNeeded, TrueGoesAreNeeded, WorkedEnds, WorkedFaults, WorkedGone, WorkedLimits, WorkedMembers, WorkedWildcards, listed, says}

pub worked_members : WorkedMembers
worked_members = refl

pub worked_ends : WorkedEnds
worked_ends = (refl, refl)

pub worked_wildcards : WorkedWildcards
worked_wildcards = (refl, refl)

pub worked_gone : WorkedGone
worked_gone = refl

pub worked_faults : WorkedFaults
worked_faults = (refl, refl, refl, refl, refl, refl, refl, refl, refl, refl, refl, refl, refl, refl)

pub worked_limits : WorkedLimits
worked_limits = (refl, refl, refl, refl, refl, refl)

-- the one element of a list
only_one : {A : Type 0} (x y : A) → Contains (x ∷ []) y → x ≡ y
only_one x y within = elim (Contains-cons_cases x [] y within) [ inl here ↦ here | inr there ↦ absurd (nothing_in_nil y there) ]

-- whose name is there is no new task
known_name : (s : TraceState) (t : List ℕ) (what : Announcement) (place : Option (List ℕ)) → list_any (is_there_as t) s.list ≡ true → BringsTask s (Announces t what place) → ⊥
known_name s t what place there (u, also, at, is, none) =
    let e = subst (λ x. list_any (is_there_as x) s.list ≡ false) (sym (ap name_of is)) none in cc

-- a join, a wait, and a first line of a wildcard, are honest where no task is new, or none waits
join_is_honest : (s : TraceState) (t p : List ℕ) (n : ℕ) → (list_any (is_there_as t) s.list ≡ true) ⊎ NobodyWaits s → IsHonestLine s (says t (Joins p n))
join_is_honest s t p n fine = record {
  goes = λ q m ends. absurd (let e = ends.2 in cc);
  plays = λ w within wild act. absurd act;
  comes = λ new. elim fine [ inl there ↦ absurd (known_name s t (Joins p n) None there new) | inr none ↦ inr none ];
}

wait_is_honest : (s : TraceState) (t p : List ℕ) (n : ℕ) → (list_any (is_there_as t) s.list ≡ true) ⊎ NobodyWaits s → IsHonestLine s (says t (Waits p n))
wait_is_honest s t p n fine = record {
  goes = λ q m ends. absurd (let e = ends.2 in cc);
  plays = λ w within wild act. absurd act;
  comes = λ new. elim fine [ inl there ↦ absurd (known_name s t (Waits p n) None there new) | inr none ↦ inr none ];
}

any_is_honest : (s : TraceState) (w : List ℕ) → ((v : Participant) → Contains s.list v → is_live_wildcard v.condition ≡ false) → IsHonestLine s (PlaysAny w)
any_is_honest s w none = record {
  goes = λ q m ends. absurd (let e = ends.2 in cc);
  plays = λ v within wild act. absurd (let e = none v within in cc);
  comes = λ new. absurd (let e = new.3 in cc);
}

nobody_at_first : NobodyWaits nobody_named
nobody_at_first u within = absurd (nothing_in_nil u within)

-- c waits for itself
abbrev c_waits : Participant
c_waits = listed 0 (codes "c") ((codes "p", 1) ∷ []) (Waiting (codes "p") 2) None

abbrev c_trace : List TraceLine
c_trace = says (codes "c") (Waits (codes "p") 2) ∷ says (codes "c") (Joins (codes "p") 1) ∷ []

go_takes_back : IsTakenBack c_trace (says (codes "c") Goes) c_waits
go_takes_back = (
  (((tt, refl), refl), refl),
  ((tt, join_is_honest nobody_named (codes "c") (codes "p") 1 (inr nobody_at_first)), wait_is_honest (after_lines (says (codes "c") (Joins (codes "p") 1) ∷ [])) (codes "c") (codes "p") 2 (inl refl)),
  record {
    listed = Contains-head c_waits [];
    waits = (codes "p", 2, refl);
    set = λ k. true;
    closed = λ t within inside. subst (λ (x : Participant). IsKeptIn (after_lines c_trace) (λ k. true) x.condition) (only_one c_waits t within) (c_waits, Contains-head c_waits [], refl, refl);
    inside = refl;
  },
  λ stuck. let e = ap (λ (x : Participant). x.condition) (only_one (listed 0 (codes "c") ((codes "p", 1) ∷ []) Running None) c_waits stuck.listed) in cc,
)

-- d waits for w, whom any task may play
abbrev d_waits : Participant
d_waits = listed 0 (codes "d") [] (Waiting (codes "p") 1) None

abbrev w_after : Participant
w_after = listed 1 (codes "w") ((codes "p", 0) ∷ []) AnyTask None

abbrev d_trace : List TraceLine
d_trace = says (codes "w") (Joins (codes "p") 0) ∷ PlaysAny (codes "w") ∷ says (codes "d") (Waits (codes "p") 1) ∷ []

end_takes_back : IsTakenBack d_trace (says (codes "w") Ends) d_waits
end_takes_back = (
  ((((tt, refl), refl), refl), refl),
  (
    (
      (tt, wait_is_honest nobody_named (codes "d") (codes "p") 1 (inr nobody_at_first)),
      any_is_honest (after_lines (says (codes "d") (Waits (codes "p") 1) ∷ [])) (codes "w") (λ v within. subst (λ (x : Participant). is_live_wildcard x.condition ≡ false) (only_one d_waits v within) refl),
    ),
    join_is_honest (after_lines (PlaysAny (codes "w") ∷ says (codes "d") (Waits (codes "p") 1) ∷ [])) (codes "w") (codes "p") 0 (inl refl),
  ),
  record {
    listed = Contains-head d_waits (w_after ∷ []);
    waits = (codes "p", 1, refl);
    set = λ k. true;
    closed = λ t within inside. elim (Contains-cons_cases d_waits (w_after ∷ []) t within) [
      | inl here ↦ subst (λ (x : Participant). IsKeptIn (after_lines d_trace) (λ k. true) x.condition) here (w_after, Contains-tail d_waits (w_after ∷ []) w_after (Contains-head w_after []), refl, refl)
      | inr there ↦ subst (λ (x : Participant). IsKeptIn (after_lines d_trace) (λ k. true) x.condition) (only_one w_after t there) (λ u has live. refl)
    ];
    inside = refl;
  },
  λ stuck. let kept : IsKeptIn (after_lines (says (codes "w") Ends ∷ d_trace)) stuck.set (Waiting (codes "p") 1) = stuck.closed d_waits (Contains-head d_waits []) stuck.inside in
      let below = kept.2 in let e = only_one d_waits kept.0 kept.1 in absurd (none kept.0 e below),
)
  where
    none : (u : Participant) → d_waits ≡ u → has_phase_below u (codes "p") 1 ≡ true → ⊥
    none u is below = false≢true (subst (λ x. has_phase_below x (codes "p") 1 ≡ true) (sym is) below)

-- a waits for w, whom any task may play, and b comes
abbrev w_waited : Participant
w_waited = listed 0 (codes "w") ((codes "p", 0) ∷ []) AnyTask None

abbrev a_waits : Participant
a_waits = listed 1 (codes "a") [] (Waiting (codes "p") 1) None

abbrev b_comes : Participant
b_comes = listed 2 (codes "b") ((codes "q", 0) ∷ []) Running None

abbrev a_trace : List TraceLine
a_trace = says (codes "a") (Waits (codes "p") 1) ∷ says (codes "w") (Joins (codes "p") 0) ∷ PlaysAny (codes "w") ∷ []

new_takes_back : IsTakenBack a_trace (says (codes "b") (Joins (codes "q") 0)) a_waits
new_takes_back = (
  ((((tt, refl), refl), refl), refl),
  (
    (
      (tt, any_is_honest nobody_named (codes "w") (λ v within. absurd (nothing_in_nil v within))),
      join_is_honest (after_lines (PlaysAny (codes "w") ∷ [])) (codes "w") (codes "p") 0 (inl refl),
    ),
    wait_is_honest (after_lines (says (codes "w") (Joins (codes "p") 0) ∷ PlaysAny (codes "w") ∷ [])) (codes "a") (codes "p") 1
        (inr (λ u within p n waits. let e = subst (λ (x : Participant). x.condition ≡ Waiting p n) (sym (only_one w_waited u within)) waits in cc)),
  ),
  record {
    listed = Contains-tail w_waited (a_waits ∷ []) a_waits (Contains-head a_waits []);
    waits = (codes "p", 1, refl);
    set = λ k. true;
    closed = λ t within inside. elim (Contains-cons_cases w_waited (a_waits ∷ []) t within) [
      | inl here ↦ subst (λ (x : Participant). IsKeptIn (after_lines a_trace) (λ k. true) x.condition) here (λ u has live. refl)
      | inr there ↦ subst (λ (x : Participant). IsKeptIn (after_lines a_trace) (λ k. true) x.condition) (only_one a_waits t there) (w_waited, Contains-head w_waited (a_waits ∷ []), refl, refl)
    ];
    inside = refl;
  },
  λ stuck. not_kept stuck.set stuck.closed (stuck.closed a_waits (Contains-tail w_waited (a_waits ∷ b_comes ∷ []) a_waits (Contains-head a_waits (b_comes ∷ []))) stuck.inside),
)
  where
    not_kept : (set : ℕ → Bool) → IsClosedSet (after_lines (says (codes "b") (Joins (codes "q") 0) ∷ a_trace)) set → IsKeptIn (after_lines (says (codes "b") (Joins (codes "q") 0) ∷ a_trace)) set (Waiting (codes "p") 1) → ⊥
    not_kept set closed (u, within, below, inside) =
        elim (Contains-cons_cases w_waited (a_waits ∷ b_comes ∷ []) u within) [
          | inl is ↦
              (let wild : IsKeptIn (after_lines (says (codes "b") (Joins (codes "q") 0) ∷ a_trace)) set AnyTask = closed w_waited (Contains-head w_waited (a_waits ∷ b_comes ∷ [])) (subst (λ (x : Participant). set x.number ≡ true) (sym is) inside) in
              closed b_comes b_last (wild b_comes b_last refl))
          | inr others ↦
              elim (Contains-cons_cases a_waits (b_comes ∷ []) u others) [
                | inl is ↦ false≢true (subst (λ x. has_phase_below x (codes "p") 1 ≡ true) (sym is) below)
                | inr last ↦ false≢true (subst (λ x. has_phase_below x (codes "p") 1 ≡ true) (sym (only_one b_comes u last)) below)
              ]
        ]
      where
        b_last : Contains (w_waited ∷ a_waits ∷ b_comes ∷ []) b_comes
        b_last = Contains-tail w_waited (a_waits ∷ b_comes ∷ []) b_comes (Contains-tail a_waits (b_comes ∷ []) b_comes (Contains-head b_comes []))

pub honest_is_needed : HonestIsNeeded
honest_is_needed = (go_takes_back, end_takes_back, new_takes_back)

-- a wait that was given up
abbrev given_up : List TraceLine
given_up = says (codes "b") Goes ∷ says (codes "b") (Waits (codes "p") 3) ∷ says (codes "b") (Joins (codes "p") 2) ∷ []

abbrev first_two : List TraceLine
first_two = says (codes "b") (Waits (codes "p") 3) ∷ says (codes "b") (Joins (codes "p") 2) ∷ []

abbrev b_waits : Participant
b_waits = listed 0 (codes "b") ((codes "p", 2) ∷ []) (Waiting (codes "p") 3) None

abbrev b_went : Participant
b_went = listed 0 (codes "b") ((codes "p", 2) ∷ []) Running None

pub lasting_is_needed : LastingIsNeeded
lasting_is_needed law =
    let u = law given_up first_two b_waits (((tt, refl), refl), refl) (((tt, refl), refl), refl) ((tt, refl), refl)
    (λ t. (filter (is_line_of t) (says (codes "b") Goes ∷ []), filter-append (is_line_of t) (says (codes "b") Goes ∷ []) first_two))
    (record {
      listed = Contains-head b_waits [];
      waits = (codes "p", 3, refl);
      set = λ k. true;
      closed = λ t within inside. subst (λ (x : Participant). IsKeptIn (after_lines first_two) (λ k. true) x.condition) (only_one b_waits t within) (b_waits, Contains-head b_waits [], refl, refl);
      inside = refl;
    }) in
    let e = ap (λ (x : Participant). x.condition) (only_one b_went u.0 u.1.listed) in
    let f = ap (λ (x : Participant). x.condition) u.2 in cc

pub true_goes_are_needed : TrueGoesAreNeeded
true_goes_are_needed law =
    let lasts = law given_up (((tt, refl), refl), refl)
    (((tt, λ p n joins. inl (λ d within of. nothing_in_nil d within)), λ p n joins. absurd (let e = joins.2 in cc)), λ p n joins. absurd (let e = joins.2 in cc)) in
    let none = lasts.1 (codes "p") 3 (inr (b_waits, None, refl, Contains-head b_waits [], refl)) b_went (Contains-head b_went []) in
    true≢false none

abbrev joined_low : List TraceLine
joined_low = says (codes "c") (Joins (codes "p") 1) ∷ says (codes "b") Goes ∷ says (codes "b") (Waits (codes "p") 3) ∷ []

abbrev b_alone : Participant
b_alone = listed 0 (codes "b") [] (Waiting (codes "p") 3) None

abbrev b_free : Participant
b_free = listed 0 (codes "b") [] Running None

abbrev c_joins : Participant
c_joins = listed 1 (codes "c") ((codes "p", 1) ∷ []) Running None

pub ordered_joins_are_needed : OrderedJoinsAreNeeded
ordered_joins_are_needed law =
    let lasts = law joined_low (((tt, refl), refl), refl)
    (((tt, λ p n ends. absurd (let e = ends.2 in cc)), λ p n ends u within. subst (λ x. has_phase_below x p n ≡ false) (only_one b_alone u within) refl), λ p n ends. absurd (let e = ends.2 in cc)) in
    let none = lasts.1 (codes "p") 3 (inl (inr (b_alone, None, refl, Contains-head b_alone [], refl))) c_joins (Contains-tail b_free (c_joins ∷ []) c_joins (Contains-head c_joins [])) in
    true≢false none
