-- Whoever is stuck stays so along honest lines.
use Rattle.std.proofs.Common.{◌≡◌, ℕ, ◌<◌, Bool, true, false, ◌&&◌, ◌||◌, not, Option, List, [], ◌∷◌, ◌++◌, refl, sym, ◌∙◌, ap, subst, inl, inr, ◌⊎◌, arith}
use Rattle.std.specs.Prelude.{Contains, bytes_eq, nat_lt, is_some, eqb}
use Rattle.std.specs.List.{list_any, starts_with}
use Rattle.std.specs.Map.{lookup}
use Rattle.std.proofs.lemmas.Bool.{cases_Bool, and_parts, and_from, or_left, not_from_false, lt-ltb, ltb-true, cond-true, cond-false}
use Rattle.std.proofs.lemmas.Slice.Eq.{bytes_eq-Decides}
use Rattle.monitor_laws.specs.Lines.{Announcement, Joins, Arrives, Leaves, Waits, Goes, Ends, Stands, TraceLine, SaysNothing, AsksReport, AsksList, AreGone, Announces, PlaysAny, PlaysOneOf}
use Rattle.monitor_laws.specs.States.{Condition, Running, Waiting, Ended, AnyTask, OneOf, Participant, TraceState, after_line, after_lines, announced_by, changed_at, changed_by, gone_by, is_live_task, is_live_wildcard, is_there_as, new_participant, task_numbers, placed_at, stays_listed, with_named}
use Rattle.monitor_laws.specs.Faults.{NamesTask, TooManyListed, fault_where, has_no_room, faults_of, is_go, is_of_tasks, is_task_in, is_wildcard_in, participant_in, waits_now}
use Rattle.monitor_laws.specs.Stuck.{IsClosedSet, IsKeptIn, IsStuck, has_phase_below, is_phase_below}
use Rattle.monitor_laws.specs.Traces.{IsActOf, IsHonestLine, MayPlay, NobodyWaits, SomebodyRuns}
use Rattle.monitor_laws.specs.Laws.{StuckStays}
use Rattle.monitor_laws.proofs.Changes.{changed_there, from_change, from_named, in_change, in_named, other_is, there_is}
use Rattle.monitor_laws.specs.Lawful.{IsLawfulState}
use Rattle.monitor_laws.proofs.Lawful.{lawful_lines, placed_condition, placed_number, placed_phases, announced_number}
use Rattle.monitor_laws.proofs.Rows.{HasNoFault, both_tables, has_no_fault, found_before, no_row, no_task_row, is_task, is_wildcard, member_stays, name_is, named_is, task_or_wildcard}

module _ (s : TraceState) (lawful : IsLawfulState s) (set : ℕ → Bool) (closed : IsClosedSet s set) where
  -- of those who were listed before
  abbrev kept_set : ℕ → Bool
  kept_set k = set k && nat_lt k s.named

  -- no wildcard of the set may be played by any task
  abbrev NoneIsAny : Type 0
  NoneIsAny = (w : Participant) → Contains s.list w → set w.number ≡ true → w.condition ≡ AnyTask → ⊥

  -- what the list after the line has of the set, and who lives there
  record Carries (after : TraceState) : Type 0 where
    keeps :
        (u : Participant) (p : List ℕ) (n : ℕ) → Contains s.list u → set u.number ≡ true → has_phase_below u p n ≡ true →
        (v : Participant) × Contains after.list v × (v.number ≡ u.number) × (has_phase_below v p n ≡ true)
    comes :
        (v : Participant) → Contains after.list v → set v.number ≡ true → v.number < s.named →
        (u : Participant) × Contains s.list u × (u.number ≡ v.number) × ((v.condition ≡ u.condition) ⊎ (v.condition ≡ Ended))
    lives :
        (v : Participant) → Contains after.list v → is_live_task v.condition ≡ true →
        ((u : Participant) × Contains s.list u × (u.number ≡ v.number) × (is_live_task u.condition ≡ true)) ⊎ ((v.number ≡ s.named) × NoneIsAny)

  in_kept : (k : ℕ) → set k ≡ true → k < s.named → kept_set k ≡ true
  in_kept k inside below = and_from (set k) (nat_lt k s.named) inside (lt-ltb k s.named below)

  carry :
      (after : TraceState) → Carries after → (c : Condition) → ((w : Participant) × Contains s.list w × (set w.number ≡ true) × (w.condition ≡ c)) →
      IsKeptIn s set c → IsKeptIn after kept_set c
  carry after carries Running w kept = kept
  carry after carries (Waiting p n) w (u, within, below, inside) =
      let v = carries.keeps u p n within inside below in
      (v.0, v.1, v.3, in_kept v.0.number (ap set v.2 ∙ inside) (let n = lawful.numbers u within in let e = v.2 in omega arith))
  carry after carries Ended w kept = tt
  carry after carries AnyTask w all = λ v within live.
      elim (carries.lives v within live) [
        | inl old ↦ in_kept v.number (ap set (sym old.2) ∙ all old.0 old.1 old.3) (let n = lawful.numbers old.0 old.1 in let e = old.2 in omega arith)
        | inr new ↦ absurd (new.1 w.0 w.1 w.2 w.3)
      ]
  carry after carries (OneOf names tasks) w all = λ v within live has.
      elim (carries.lives v within live) [
        | inl old ↦ in_kept v.number (ap set (sym old.2) ∙ all old.0 old.1 old.3 (subst (λ k. Contains tasks k) (sym old.2) has))
            (let n = lawful.numbers old.0 old.1 in let e = old.2 in omega arith)
        | inr new ↦ absurd (let n = lawful.tasks w.0 names tasks w.1 w.3 v.number has in let e = new.0 in omega arith)
      ]

  closed_after : (after : TraceState) → Carries after → IsClosedSet after kept_set
  closed_after after carries v within inside =
      let parts = and_parts (set v.number) (nat_lt v.number s.named) inside in
      let c = carries.comes v within parts.0 (ltb-true v.number s.named parts.1) in
      elim c.3 [
        | inl same ↦ subst (λ x. IsKeptIn after kept_set x) (sym same)
            (carry after carries c.0.condition (c.0, c.1, ap set c.2 ∙ parts.0, refl) (closed c.0 c.1 (ap set c.2 ∙ parts.0)))
        | inr ended ↦ subst (λ x. IsKeptIn after kept_set x) (sym ended) tt
      ]

  -- who runs is not in the set
  running_is_out : (u : Participant) → Contains s.list u → u.condition ≡ Running → set u.number ≡ true → ⊥
  running_is_out u within runs inside = subst (λ c. IsKeptIn s set c) runs (closed u within inside)

  -- of the set only a wildcard has a line of its own, which leaves its condition and its phases
  record OwnLine (change : Participant → Participant) (u : Participant) : Type 0 where
    wild : is_live_wildcard u.condition ≡ true
    condition : (change u).condition ≡ u.condition
    phases : (p : List ℕ) (n : ℕ) → has_phase_below u p n ≡ true → has_phase_below (change u) p n ≡ true

  record Fits (t : List ℕ) (change : Participant → Participant) : Type 0 where
    number : (u : Participant) → (change u).number ≡ u.number
    own : (u : Participant) → Contains s.list u → set u.number ≡ true → is_there_as t u ≡ true → OwnLine change u
    live : (u : Participant) → Contains s.list u → is_there_as t u ≡ true → is_live_task (change u).condition ≡ true → is_live_task u.condition ≡ true
    new : list_any (is_there_as t) s.list ≡ false → is_live_task (change (new_participant s.named t)).condition ≡ true → NoneIsAny

  changed_number : (t : List ℕ) (change : Participant → Participant) → Fits t change → (u : Participant) → (changed_there t change u).number ≡ u.number
  changed_number t change fits u = elim (cases_Bool (is_there_as t u)) [
    | inl there ↦ ap (λ (x : Participant). x.number) (there_is t change u there) ∙ fits.number u
    | inr other ↦ ap (λ (x : Participant). x.number) (other_is t change u other)
  ]

  carries_at : (t : List ℕ) (change : Participant → Participant) → Fits t change → Carries (changed_at t change s)
  carries_at t change fits =
      record {
        keeps = λ u p n within inside below.
            let stays : has_phase_below (changed_there t change u) p n ≡ true =
            elim (cases_Bool (is_there_as t u)) [
              | inl there ↦ subst (λ x. has_phase_below x p n ≡ true) (sym (there_is t change u there)) ((fits.own u within inside there).phases p n below)
              | inr other ↦ subst (λ x. has_phase_below x p n ≡ true) (sym (other_is t change u other)) below
            ] in (
              changed_there t change u,
              in_change (changed_there t change) (with_named s t) u (in_named s t u within) (member_stays (changed_there t change u) p n stays),
              changed_number t change fits u,
              stays,
            );
        comes = λ v within inside below.
            let m = from_change (changed_there t change) (with_named s t) v within in
            let e : m.0.number ≡ v.number = sym (changed_number t change fits m.0) ∙ ap (λ (x : Participant). x.number) m.2 in
            elim (from_named s t m.0 m.1) [
              | inl old ↦ (
                m.0,
                old,
                e,
                inl (ap (λ (x : Participant). x.condition) (sym m.2) ∙ elim (cases_Bool (is_there_as t m.0)) [
                  | inl there ↦ ap (λ (x : Participant). x.condition) (there_is t change m.0 there) ∙ (fits.own m.0 old (ap set e ∙ inside) there).condition
                  | inr other ↦ ap (λ (x : Participant). x.condition) (other_is t change m.0 other)
                ]),
              )
              | inr new ↦ absurd (let f = ap (λ (x : Participant). x.number) new.1 in omega arith)
            ];
        lives = λ v within live.
            let m = from_change (changed_there t change) (with_named s t) v within in
            let e : m.0.number ≡ v.number = sym (changed_number t change fits m.0) ∙ ap (λ (x : Participant). x.number) m.2 in
            let lived : is_live_task (changed_there t change m.0).condition ≡ true = subst (λ (x : Participant). is_live_task x.condition ≡ true) (sym m.2) live in
            elim (from_named s t m.0 m.1) [
              | inl old ↦ inl (
                m.0,
                old,
                e,
                elim (cases_Bool (is_there_as t m.0)) [
                  | inl there ↦ fits.live m.0 old there (subst (λ (x : Participant). is_live_task x.condition ≡ true) (there_is t change m.0 there) lived)
                  | inr other ↦ subst (λ (x : Participant). is_live_task x.condition ≡ true) (other_is t change m.0 other) lived
                ],
              )
              | inr new ↦ inr (sym e ∙ ap (λ (x : Participant). x.number) new.1, fits.new new.0 (now_live m.0 new.0 new.1 lived))
            ];
      }
    where
      now_live :
          (u : Participant) → list_any (is_there_as t) s.list ≡ false → u ≡ new_participant s.named t → is_live_task (changed_there t change u).condition ≡ true →
          is_live_task (change (new_participant s.named t)).condition ≡ true
      now_live u none is lived =
          subst (λ (x : Participant). is_live_task x.condition ≡ true)
          (there_is t change (new_participant s.named t) ((bytes_eq-Decides t t).1 refl))
          (subst (λ x. is_live_task (changed_there t change x).condition ≡ true) is lived)

  -- while some task runs, or nobody waits, no stuck task waits beside a wildcard that any may play
  none_is_any : (t : Participant) → Contains s.list t → (p : List ℕ) (n : ℕ) → t.condition ≡ Waiting p n → SomebodyRuns s ⊎ NobodyWaits s → NoneIsAny
  none_is_any t within p n waits (inl runs) w in_w inside any =
      let all : IsKeptIn s set AnyTask = subst (λ c. IsKeptIn s set c) any (closed w in_w inside) in
      running_is_out runs.0 runs.1 runs.2 (all runs.0 runs.1 (ap is_live_task runs.2))
  none_is_any t within p n waits (inr nobody) w in_w inside any = nobody t within p n waits

  -- a wildcard of the set is played by nobody who runs
  nobody_plays : (w : Participant) → Contains s.list w → set w.number ≡ true → (u : Participant) × Contains s.list u × (u.condition ≡ Running) × MayPlay u w.condition → ⊥
  nobody_plays w within inside (u, in_u, runs, plays) =
      by_condition w.condition refl plays (closed w within inside)
    where
      by_condition : (c : Condition) → w.condition ≡ c → MayPlay u c → IsKeptIn s set c → ⊥
      by_condition Running is may kept = may
      by_condition (Waiting p n) is may kept = may
      by_condition Ended is may kept = may
      by_condition AnyTask is may kept = running_is_out u in_u runs (kept u in_u (ap is_live_task runs))
      by_condition (OneOf names tasks) is may kept = running_is_out u in_u runs (kept u in_u (ap is_live_task runs) may)

  module _ (t : List ℕ) (what : Announcement) (place : Option (List ℕ)) (legal : faults_of s (Announces t what place) ≡ []) (honest : IsHonestLine s (Announces t what place)) where
    abbrev change : Participant → Participant
    change u = placed_at place (announced_by what u)

    free : HasNoFault s t what place
    free = has_no_fault s t what place legal

    -- what is said of a wildcard is not of tasks
    of_wildcard : (u : Participant) → Contains s.list u → is_there_as t u ≡ true → is_live_wildcard u.condition ≡ true → is_of_tasks what ≡ false
    of_wildcard u within there wild =
        elim (cases_Bool (is_of_tasks what)) [
          | inl of ↦ absurd (let w = is_wildcard s t u within there wild in
              let both = and_from (is_wildcard_in s t) (is_of_tasks what || is_some place) w (or_left (is_of_tasks what) (is_some place) of) in
              let none = free.no_wildcard in cc)
          | inr not_of ↦ not_of
        ]

    -- a task of the set that waits has no line
    waits_on : (u : Participant) → Contains s.list u → set u.number ≡ true → is_there_as t u ≡ true → (p : List ℕ) (n : ℕ) → u.condition ≡ Waiting p n → ⊥
    waits_on u within inside there p n waits =
        let kept : IsKeptIn s set (Waiting p n) = subst (λ c. IsKeptIn s set c) waits (closed u within inside) in
        let goes : what ≡ Goes = is_goes what (elim (cases_Bool (is_go what)) [
          | inl go ↦ go
          | inr other ↦ absurd (let w : waits_now (participant_in s t).condition ≡ true = ap (λ (x : Participant). waits_now x.condition) (named_is s lawful t u within there) ∙ ap waits_now waits in
              let both = and_from (waits_now (participant_in s t).condition) (not (is_go what)) w (not_from_false (is_go what) other) in
              let none = free.no_wait in cc)
        ]) in
        let below = honest.goes p n (u, place, ap (λ x. Announces x what place) (name_is t u there) ∙ ap (λ x. Announces u.name x place) goes, within, waits) kept.0 kept.1 in
        let lower = kept.2 in
        cc
      where
        is_goes : (x : Announcement) → is_go x ≡ true → x ≡ Goes
        is_goes Goes e = refl
        is_goes (Joins q m) e = absurd (cc)
        is_goes (Arrives q) e = absurd (cc)
        is_goes (Leaves q) e = absurd (cc)
        is_goes (Waits q m) e = absurd (cc)
        is_goes Ends e = absurd (cc)
        is_goes Stands e = absurd (cc)

    own_line : (u : Participant) → Contains s.list u → set u.number ≡ true → is_there_as t u ≡ true → OwnLine change u
    own_line u within inside there = by_kind (task_or_wildcard t u there)
      where
        by_task : (c : Condition) → u.condition ≡ c → is_live_task c ≡ true → OwnLine change u
        by_task Running is live = absurd (running_is_out u within is inside)
        by_task (Waiting p n) is live = absurd (waits_on u within inside there p n is)
        by_task Ended is live = absurd (cc)
        by_task AnyTask is live = absurd (cc)
        by_task (OneOf names tasks) is live = absurd (cc)

        by_said : (x : Announcement) → what ≡ x → is_live_wildcard u.condition ≡ true → is_of_tasks x ≡ false → OwnLine change u
        by_said (Joins p n) is wild of =
            record {
              wild = wild;
              condition = placed_condition place (announced_by what u) ∙ ap (λ y. (announced_by y u).condition) is;
              phases = λ q m below.
                  subst (λ l. is_phase_below (lookup (bytes_eq q) l) m ≡ true)
                  (sym (placed_phases place (announced_by what u) ∙ ap (λ y. (announced_by y u).phases) is))
                  (found_before u.phases (p, n) q m below);
            }
        by_said (Arrives p) is wild of = absurd (nobody_plays u within inside (honest.plays u within wild (subst (λ x. IsActOf u.name (Announces t x place)) (sym is) (name_is t u there))))
        by_said (Leaves p) is wild of = absurd (nobody_plays u within inside (honest.plays u within wild (subst (λ x. IsActOf u.name (Announces t x place)) (sym is) (name_is t u there))))
        by_said Ends is wild of = absurd (nobody_plays u within inside (honest.plays u within wild (subst (λ x. IsActOf u.name (Announces t x place)) (sym is) (name_is t u there))))
        by_said (Waits p n) is wild of = absurd (cc)
        by_said Goes is wild of = absurd (cc)
        by_said Stands is wild of = absurd (cc)

        by_kind : (is_live_task u.condition ≡ true) ⊎ (is_live_wildcard u.condition ≡ true) → OwnLine change u
        by_kind (inl live) = by_task u.condition refl live
        by_kind (inr wild) = by_said what refl wild (of_wildcard u within there wild)

    stays_task : (u : Participant) → Contains s.list u → is_there_as t u ≡ true → is_live_task (change u).condition ≡ true → is_live_task u.condition ≡ true
    stays_task u within there live = by_kind (task_or_wildcard t u there)
      where
        now : is_live_task (announced_by what u).condition ≡ true
        now = subst (λ c. is_live_task c ≡ true) (placed_condition place (announced_by what u)) live

        by_said : (x : Announcement) → is_of_tasks x ≡ false → is_live_task (announced_by x u).condition ≡ true → is_live_task u.condition ≡ true
        by_said (Joins p n) of e = e
        by_said (Arrives p) of e = e
        by_said (Leaves p) of e = e
        by_said (Waits p n) of e = absurd (cc)
        by_said Goes of e = absurd (cc)
        by_said Ends of e = absurd (cc)
        by_said Stands of e = absurd (cc)

        by_kind : (is_live_task u.condition ≡ true) ⊎ (is_live_wildcard u.condition ≡ true) → is_live_task u.condition ≡ true
        by_kind (inl task) = task
        by_kind (inr wild) = by_said what (of_wildcard u within there wild) now

    fits_said : (w : Participant) → Contains s.list w → (p : List ℕ) (n : ℕ) → w.condition ≡ Waiting p n → Fits t change
    fits_said w within p n waits =
        record {
          number = λ u. placed_number place (announced_by what u) ∙ announced_number what u;
          own = own_line;
          live = stays_task;
          new = λ nobody live. none_is_any w within p n waits (honest.comes (t, what, place, refl, nobody));
        }

  -- a line that says who may play a wildcard
  module _ (w : List ℕ) (c : Condition) (wild : is_live_task c ≡ false) (none : is_task_in s w ≡ false)
      (plays : (u : Participant) → Contains s.list u → is_live_wildcard u.condition ≡ true → w ≡ u.name → (r : Participant) × Contains s.list r × (r.condition ≡ Running) × MayPlay r u.condition) where
    fits_played : Fits w (λ u. record u { condition = c })
    fits_played =
        record {
          number = λ u. refl;
          own = λ u within inside there. elim (task_or_wildcard w u there) [
            | inl task ↦ absurd (let t = is_task s w u within there task in cc)
            | inr is ↦ absurd (nobody_plays u within inside (plays u within is (name_is w u there)))
          ];
          live = λ u within there live. absurd (cc);
          new = λ nobody live. absurd (cc);
        }

  -- a stuck task stays where a line fits
  still_stuck : (t : List ℕ) (change : Participant → Participant) → Fits t change → (u : Participant) → Contains s.list u → (p : List ℕ) (n : ℕ) → u.condition ≡ Waiting p n → set u.number ≡ true → IsStuck (changed_at t change s) u
  still_stuck t change fits u within p n waits inside =
      record {
        listed = subst (λ x. Contains (changed_at t change s).list x) same
            (in_change (changed_there t change) (with_named s t) u (in_named s t u within) (subst (λ x. stays_listed x ≡ true) (sym same) (lawful.stays u within)));
        waits = (p, n, waits);
        set = kept_set;
        closed = closed_after (changed_at t change s) (carries_at t change fits);
        inside = in_kept u.number inside (lawful.numbers u within);
      }
    where
      same : changed_there t change u ≡ u
      same = elim (cases_Bool (is_there_as t u)) [
        | inl there ↦ absurd (let wild = (fits.own u within inside there).wild in let w = ap is_live_wildcard waits in cc)
        | inr other ↦ other_is t change u other
      ]

  -- and where somebody else is gone
  gone_is : (beginning : List ℕ) (u : Participant) → (starts_with eqb u.name beginning ≡ true × (gone_by beginning u ≡ record u { condition = Ended })) ⊎ (starts_with eqb u.name beginning ≡ false × (gone_by beginning u ≡ u))
  gone_is beginning u = elim (cases_Bool (starts_with eqb u.name beginning)) [
    | inl gone ↦ inl (gone, cond-true (starts_with eqb u.name beginning) (record u { condition = Ended }) u gone)
    | inr other ↦ inr (other, cond-false (starts_with eqb u.name beginning) (record u { condition = Ended }) u other)
  ]

  gone_phases : (beginning : List ℕ) (u : Participant) → ((gone_by beginning u).phases ≡ u.phases) × ((gone_by beginning u).number ≡ u.number)
  gone_phases beginning u = elim (gone_is beginning u) [
    | inl gone ↦ (ap (λ (x : Participant). x.phases) gone.1, ap (λ (x : Participant). x.number) gone.1)
    | inr other ↦ (ap (λ (x : Participant). x.phases) other.1, ap (λ (x : Participant). x.number) other.1)
  ]

  carries_gone : (beginning : List ℕ) → Carries (changed_by (gone_by beginning) s)
  carries_gone beginning =
      record {
        keeps = λ u p n within inside below.
            let same = gone_phases beginning u in
            let stays : has_phase_below (gone_by beginning u) p n ≡ true = ap (λ l. is_phase_below (lookup (bytes_eq p) l) n) same.0 ∙ below in
            (gone_by beginning u, in_change (gone_by beginning) s u within (member_stays (gone_by beginning u) p n stays), same.1, stays);
        comes = λ v within inside below.
            let m = from_change (gone_by beginning) s v within in (
              m.0,
              m.1,
              sym (gone_phases beginning m.0).1 ∙ ap (λ (x : Participant). x.number) m.2,
              elim (gone_is beginning m.0) [
                | inl gone ↦ inr (ap (λ (x : Participant). x.condition) (sym m.2 ∙ gone.1))
                | inr other ↦ inl (ap (λ (x : Participant). x.condition) (sym m.2 ∙ other.1))
              ],
            );
        lives = λ v within live.
            let m = from_change (gone_by beginning) s v within in
            inl (
              m.0,
              m.1,
              sym (gone_phases beginning m.0).1 ∙ ap (λ (x : Participant). x.number) m.2,
              elim (gone_is beginning m.0) [
                | inl gone ↦ absurd (let e = ap (λ (x : Participant). is_live_task x.condition) (sym m.2 ∙ gone.1) in cc)
                | inr other ↦ ap (λ (x : Participant). is_live_task x.condition) (sym other.1 ∙ m.2) ∙ live
              ],
            );
      }

  still_stuck_gone : (beginning : List ℕ) (u : Participant) → starts_with eqb u.name beginning ≡ false → Contains s.list u → (p : List ℕ) (n : ℕ) → u.condition ≡ Waiting p n → set u.number ≡ true → IsStuck (changed_by (gone_by beginning) s) u
  still_stuck_gone beginning u stays within p n waits inside =
      record {
        listed = subst (λ x. Contains (changed_by (gone_by beginning) s).list x) same
            (in_change (gone_by beginning) s u within (subst (λ x. stays_listed x ≡ true) (sym same) (lawful.stays u within)));
        waits = (p, n, waits);
        set = kept_set;
        closed = closed_after (changed_by (gone_by beginning) s) (carries_gone beginning);
        inside = in_kept u.number inside (lawful.numbers u within);
      }
    where
      same : gone_by beginning u ≡ u
      same = cond-false (starts_with eqb u.name beginning) (record u { condition = Ended }) u stays

stays_stuck : (s : TraceState) → IsLawfulState s → (l : TraceLine) → faults_of s l ≡ [] → IsHonestLine s l → (u : Participant) → ((beginning : List ℕ) → l ≡ AreGone beginning → starts_with eqb u.name beginning ≡ false) → IsStuck s u → IsStuck (after_line s l) u
stays_stuck s lawful SaysNothing legal honest u stays stuck = stuck
stays_stuck s lawful AsksReport legal honest u stays stuck = stuck
stays_stuck s lawful AsksList legal honest u stays stuck = stuck
stays_stuck s lawful (AreGone beginning) legal honest u stays stuck =
    still_stuck_gone s lawful stuck.set stuck.closed beginning u (stays beginning refl) stuck.listed stuck.waits.0 stuck.waits.1 stuck.waits.2 stuck.inside
stays_stuck s lawful (Announces t what place) legal honest u stays stuck =
    still_stuck s lawful stuck.set stuck.closed t (λ x. placed_at place (announced_by what x))
    (fits_said s lawful stuck.set stuck.closed t what place legal honest u stuck.listed stuck.waits.0 stuck.waits.1 stuck.waits.2)
    u stuck.listed stuck.waits.0 stuck.waits.1 stuck.waits.2 stuck.inside
stays_stuck s lawful (PlaysAny w) legal honest u stays stuck =
    still_stuck s lawful stuck.set stuck.closed w (λ x. record x { condition = AnyTask })
    (fits_played s lawful stuck.set stuck.closed w AnyTask refl (no_row (is_task_in s w) (NamesTask w) (both_tables (fault_where (is_task_in s w) (NamesTask w)) (fault_where (has_no_room s w) TooManyListed) legal).0)
    (λ v within wild is. honest.plays v within wild is))
    u stuck.listed stuck.waits.0 stuck.waits.1 stuck.waits.2 stuck.inside
stays_stuck s lawful (PlaysOneOf w names) legal honest u stays stuck =
    still_stuck s lawful stuck.set stuck.closed w (λ x. record x { condition = OneOf names (task_numbers s names) })
    (fits_played s lawful stuck.set stuck.closed w (OneOf names (task_numbers s names)) refl (no_row (is_task_in s w) (NamesTask w) (no_task_row s w names legal))
    (λ v within wild is. honest.plays v within wild is))
    u stuck.listed stuck.waits.0 stuck.waits.1 stuck.waits.2 stuck.inside

pub stuck_stays : StuckStays
stuck_stays h [] t legal honest stays stuck = stuck
stuck_stays h (l ∷ more) t legal honest stays stuck =
    stays_stuck (after_lines (more ++ h)) (lawful_lines (more ++ h)) l legal.1 honest.1 t stays.1 (stuck_stays h more t legal.0 honest.0 stays.0 stuck)
