-- What holds of every state that lines lead to, and that each line keeps it.
use Rattle.std.proofs.Common.{◌≡◌, ℕ, ◌<◌, ◌≤◌, ◌+◌, true, false, ◌&&◌, ◌||◌, Some, None, Option, List, [], ◌∷◌, ◌++◌, refl, sym, ◌∙◌, ap, subst, inl, inr, ◌⊎◌, arith}
use Rattle.std.specs.Prelude.{Contains, filter, bytes_eq, eqb}
use Rattle.std.specs.List.{list_any, starts_with}
use Rattle.std.proofs.lemmas.Bool.{cases_Bool, and_parts, and_from, cond-true, cond-false}
use Rattle.std.proofs.lemmas.Slice.Eq.{bytes_eq-Decides}
use Rattle.armus_base.proofs.Elements.{from_map, nothing_in_nil}
use Rattle.monitor_laws.specs.Lines.{Announcement, Joins, Arrives, Leaves, Waits, Goes, Ends, Stands, TraceLine, SaysNothing, AsksReport, AsksList, AreGone, Announces, PlaysAny, PlaysOneOf}
use Rattle.monitor_laws.specs.States.{Condition, Running, Waiting, Ended, AnyTask, OneOf, Participant, TraceState, after_line, after_lines, announced_by, changed_at, changed_by, gone_by, is_live_task, is_live_wildcard, is_there_as, new_participant, task_numbers, placed_at, stays_listed, with_named}
pub use Rattle.monitor_laws.specs.Lawful.{IsLawfulState}
use Rattle.monitor_laws.proofs.Filters.{from_filter, none_passes}
use Rattle.monitor_laws.proofs.Changes.{changed_there, from_change, from_named, named_grows, other_is, there_is}

-- the change of one keeps who he is
pub record KeepsSelf (s : TraceState) (u v : Participant) : Type 0 where
  pub number : v.number ≡ u.number
  pub name : v.name ≡ u.name
  pub live : (t : List ℕ) → is_there_as t v ≡ true → is_there_as t u ≡ true
  pub tasks : (names : List (List ℕ)) (tasks : List ℕ) → v.condition ≡ OneOf names tasks → (u.condition ≡ OneOf names tasks) ⊎ (tasks ≡ task_numbers s names)

keeps_itself : (s : TraceState) (u : Participant) → KeepsSelf s u u
keeps_itself s u = record { number = refl; name = refl; live = λ t e. e; tasks = λ names tasks e. inl e }

-- by one more line of its own
pub announced_number : (what : Announcement) (u : Participant) → (announced_by what u).number ≡ u.number
announced_number (Joins p n) u = refl
announced_number (Arrives p) u = refl
announced_number (Leaves p) u = refl
announced_number (Waits p n) u = refl
announced_number Goes u = refl
announced_number Ends u = refl
announced_number Stands u = refl

pub announced_name : (what : Announcement) (u : Participant) → (announced_by what u).name ≡ u.name
announced_name (Joins p n) u = refl
announced_name (Arrives p) u = refl
announced_name (Leaves p) u = refl
announced_name (Waits p n) u = refl
announced_name Goes u = refl
announced_name Ends u = refl
announced_name Stands u = refl

pub announced_tasks : (what : Announcement) (u : Participant) (names : List (List ℕ)) (tasks : List ℕ) → (announced_by what u).condition ≡ OneOf names tasks → u.condition ≡ OneOf names tasks
announced_tasks (Joins p n) u names tasks e = e
announced_tasks (Arrives p) u names tasks e = e
announced_tasks (Leaves p) u names tasks e = e
announced_tasks (Waits p n) u names tasks e = absurd (cc)
announced_tasks Goes u names tasks e = absurd (cc)
announced_tasks Ends u names tasks e = absurd (cc)
announced_tasks Stands u names tasks e = e

pub placed_condition : (place : Option (List ℕ)) (u : Participant) → (placed_at place u).condition ≡ u.condition
placed_condition None u = refl
placed_condition (Some place) u = refl

pub placed_number : (place : Option (List ℕ)) (u : Participant) → (placed_at place u).number ≡ u.number
placed_number None u = refl
placed_number (Some place) u = refl

pub placed_name : (place : Option (List ℕ)) (u : Participant) → (placed_at place u).name ≡ u.name
placed_name None u = refl
placed_name (Some place) u = refl

pub placed_phases : (place : Option (List ℕ)) (u : Participant) → (placed_at place u).phases ≡ u.phases
placed_phases None u = refl
placed_phases (Some place) u = refl

-- who is changed under the name was there with it
keeps_there : (s : TraceState) (t : List ℕ) (change : Participant → Participant) (u : Participant) → (change u).number ≡ u.number → (change u).name ≡ u.name → ((names : List (List ℕ)) (tasks : List ℕ) → (change u).condition ≡ OneOf names tasks → (u.condition ≡ OneOf names tasks) ⊎ (tasks ≡ task_numbers s names)) → KeepsSelf s u (changed_there t change u)
keeps_there s t change u number name tasks =
    elim (cases_Bool (is_there_as t u)) [
      | inl there ↦ subst (KeepsSelf s u) (sym (there_is t change u there)) (record {
        number = number;
        name = name;
        live = λ x e.
            let parts = and_parts (is_live_task (change u).condition || is_live_wildcard (change u).condition) (bytes_eq x (change u).name) e in
            let live = and_parts (is_live_task u.condition || is_live_wildcard u.condition) (bytes_eq t u.name) there in
            and_from (is_live_task u.condition || is_live_wildcard u.condition) (bytes_eq x u.name) live.0 (ap (bytes_eq x) (sym name) ∙ parts.1);
        tasks = tasks;
      })
      | inr other ↦ subst (KeepsSelf s u) (sym (other_is t change u other)) (keeps_itself s u)
    ]

keeps_gone : (s : TraceState) (beginning : List ℕ) (u : Participant) → KeepsSelf s u (gone_by beginning u)
keeps_gone s beginning u = by_test (cases_Bool (starts_with eqb u.name beginning))
  where
    by_test : ((starts_with eqb u.name beginning ≡ true) ⊎ (starts_with eqb u.name beginning ≡ false)) → KeepsSelf s u (gone_by beginning u)
    by_test (inl gone) =
        subst (KeepsSelf s u) (sym (cond-true (starts_with eqb u.name beginning) (record u { condition = Ended }) u gone))
        (record { number = refl; name = refl; live = λ t e. absurd (cc); tasks = λ names tasks e. absurd (cc) })
    by_test (inr other) = subst (KeepsSelf s u) (sym (cond-false (starts_with eqb u.name beginning) (record u { condition = Ended }) u other)) (keeps_itself s u)

-- the numbers of tasks are below the count
numbers_below : (s : TraceState) → IsLawfulState s → (names : List (List ℕ)) (k : ℕ) → Contains (task_numbers s names) k → k < s.named
numbers_below s lawful names k within =
    let m = from_map (λ (u : Participant). u.number) (filter (λ (u : Participant). is_live_task u.condition && list_any (λ t. bytes_eq t u.name) names) s.list) k within in
    let f = from_filter (λ (u : Participant). is_live_task u.condition && list_any (λ t. bytes_eq t u.name) names) s.list m.0 m.1 in
    subst (λ x. x < s.named) m.2 (lawful.numbers m.0 f.0)

-- with somebody new
lawful_named : (s : TraceState) (t : List ℕ) → IsLawfulState s → IsLawfulState (with_named s t)
lawful_named s t lawful = by_test (named_grows s t)
  where
    most : s.named ≤ (with_named s t).named
    most = elim (named_grows s t) [ inl there ↦ (let e = there.1 in omega arith) | inr none ↦ (let e = none.1 in omega arith) ]

    by_test :
        ((list_any (is_there_as t) s.list ≡ true) × ((with_named s t).named ≡ s.named)) ⊎ ((list_any (is_there_as t) s.list ≡ false) × ((with_named s t).named ≡ s.named + 1)) →
        IsLawfulState (with_named s t)
    by_test (inl there) =
        subst IsLawfulState (sym (cond-true (list_any (is_there_as t) s.list) s (record { list = s.list ++ new_participant s.named t ∷ []; named = s.named + 1 }) there.0)) lawful
    by_test (inr none) =
        record {
          numbers = λ u within. elim (from_named s t u within) [
            | inl old ↦ (let n = lawful.numbers u old in omega arith)
            | inr new ↦ (let e = ap (λ (x : Participant). x.number) new.1 in let n = none.1 in omega arith)
          ];
          tasks = λ u names tasks within is k has. elim (from_named s t u within) [
            | inl old ↦ (let n = lawful.tasks u names tasks old is k has in omega arith)
            | inr new ↦ absurd (let e = ap (λ (x : Participant). x.condition) new.1 in cc)
          ];
          one_number = λ u v in_u in_v same. elim (from_named s t u in_u) [
            | inl old ↦ elim (from_named s t v in_v) [
              | inl too ↦ lawful.one_number u v old too same
              | inr new ↦ absurd (let n = lawful.numbers u old in let e = ap (λ (x : Participant). x.number) new.1 in omega arith)
            ]
            | inr new ↦ elim (from_named s t v in_v) [
              | inl too ↦ absurd (let n = lawful.numbers v too in let e = ap (λ (x : Participant). x.number) new.1 in omega arith)
              | inr also ↦ new.1 ∙ sym also.1
            ]
          ];
          one_name = λ x u v in_u in_v as_u as_v. elim (from_named s t u in_u) [
            | inl old ↦ elim (from_named s t v in_v) [
              | inl too ↦ lawful.one_name x u v old too as_u as_v
              | inr new ↦ absurd (not_new x u v old as_u new.0 new.1 as_v)
            ]
            | inr new ↦ elim (from_named s t v in_v) [
              | inl too ↦ absurd (not_new x v u too as_v new.0 new.1 as_u)
              | inr also ↦ new.1 ∙ sym also.1
            ]
          ];
          stays = λ u within. elim (from_named s t u within) [
            | inl old ↦ lawful.stays u old
            | inr new ↦ subst (λ x. stays_listed x ≡ true) (sym new.1) refl
          ];
        }
      where
        -- nobody who was there has the name of the new one
        not_new : (x : List ℕ) (u v : Participant) → Contains s.list u → is_there_as x u ≡ true → list_any (is_there_as t) s.list ≡ false → v ≡ new_participant s.named t → is_there_as x v ≡ true → ⊥
        not_new x u v old as_u nobody is as_v =
            let same : x ≡ t = (bytes_eq-Decides x t).0 (subst (λ (w : Participant). is_there_as x w ≡ true) is as_v) in
            let no = none_passes (is_there_as t) s.list u old nobody in
            let yes = subst (λ y. is_there_as y u ≡ true) same as_u in
            cc

-- after a change that keeps who each one is
lawful_changed :
    (s base : TraceState) (change : Participant → Participant) → IsLawfulState base → ((u : Participant) → Contains base.list u → KeepsSelf s u (change u)) →
    ((names : List (List ℕ)) (k : ℕ) → Contains (task_numbers s names) k → k < base.named) → IsLawfulState (changed_by change base)
lawful_changed s base change lawful keeps below =
    record {
      numbers = λ v within.
          let m = from_change change base v within in
          let e = ap (λ (x : Participant). x.number) m.2 in let k = (keeps m.0 m.1).number in let n = lawful.numbers m.0 m.1 in omega arith;
      tasks = λ v names tasks within is k has.
          let m = from_change change base v within in
          elim ((keeps m.0 m.1).tasks names tasks (ap (λ (x : Participant). x.condition) m.2 ∙ is)) [
            | inl old ↦ lawful.tasks m.0 names tasks m.1 old k has
            | inr new ↦ below names k (subst (λ l. Contains l k) new has)
          ];
      one_number = λ u v in_u in_v same.
          let m = from_change change base u in_u in let n = from_change change base v in_v in
          let e = ap (λ (x : Participant). x.number) m.2 in let f = ap (λ (x : Participant). x.number) n.2 in
          let k = (keeps m.0 m.1).number in let j = (keeps n.0 n.1).number in
          sym m.2 ∙ ap change (lawful.one_number m.0 n.0 m.1 n.1 (sym k ∙ e ∙ same ∙ sym f ∙ j)) ∙ n.2;
      one_name = λ t u v in_u in_v as_u as_v.
          let m = from_change change base u in_u in let n = from_change change base v in_v in
          sym m.2
          ∙ ap change (lawful.one_name t m.0 n.0 m.1 n.1
          ((keeps m.0 m.1).live t (subst (λ x. is_there_as t x ≡ true) (sym m.2) as_u))
          ((keeps n.0 n.1).live t (subst (λ x. is_there_as t x ≡ true) (sym n.2) as_v)))
          ∙ n.2;
      stays = λ v within. (from_change change base v within).3;
    }

-- after a change of who is there with the name
lawful_at :
    (s : TraceState) (t : List ℕ) (change : Participant → Participant) → IsLawfulState s → ((u : Participant) → (change u).number ≡ u.number) →
    ((u : Participant) → (change u).name ≡ u.name) →
    ((u : Participant) (names : List (List ℕ)) (tasks : List ℕ) → (change u).condition ≡ OneOf names tasks → (u.condition ≡ OneOf names tasks) ⊎ (tasks ≡ task_numbers s names)) →
    IsLawfulState (changed_at t change s)
lawful_at s t change lawful number name tasks =
    lawful_changed s (with_named s t) (changed_there t change) (lawful_named s t lawful) (λ u within. keeps_there s t change u (number u) (name u) (tasks u))
    (λ names k has. let n = numbers_below s lawful names k has in elim (named_grows s t) [ inl there ↦ (let e = there.1 in omega arith) | inr none ↦ (let e = none.1 in omega arith) ])

pub lawful_after : (s : TraceState) (l : TraceLine) → IsLawfulState s → IsLawfulState (after_line s l)
lawful_after s SaysNothing lawful = lawful
lawful_after s AsksReport lawful = lawful
lawful_after s AsksList lawful = lawful
lawful_after s (AreGone beginning) lawful = lawful_changed s s (gone_by beginning) lawful (λ u within. keeps_gone s beginning u) (numbers_below s lawful)
lawful_after s (Announces t what place) lawful =
    lawful_at s t (λ u. placed_at place (announced_by what u)) lawful
    (λ u. placed_number place (announced_by what u) ∙ announced_number what u)
    (λ u. placed_name place (announced_by what u) ∙ announced_name what u)
    (λ u names tasks is. inl (announced_tasks what u names tasks (sym (placed_condition place (announced_by what u)) ∙ is)))
lawful_after s (PlaysAny w) lawful = lawful_at s w (λ u. record u { condition = AnyTask }) lawful (λ u. refl) (λ u. refl) (λ u names tasks is. absurd (cc))
lawful_after s (PlaysOneOf w names) lawful =
    lawful_at s w (λ u. record u { condition = OneOf names (task_numbers s names) }) lawful (λ u. refl) (λ u. refl)
    (λ u others tasks is. inr (let e : names ≡ others = ap names_in is in ap tasks_in (sym is) ∙ ap (task_numbers s) e))
  where
    names_in : Condition → List (List ℕ)
    names_in (OneOf names tasks) = names
    names_in Running = []
    names_in (Waiting p n) = []
    names_in Ended = []
    names_in AnyTask = []

    tasks_in : Condition → List ℕ
    tasks_in (OneOf names tasks) = tasks
    tasks_in Running = []
    tasks_in (Waiting p n) = []
    tasks_in Ended = []
    tasks_in AnyTask = []

pub lawful_lines : (h : List TraceLine) → IsLawfulState (after_lines h)
lawful_lines [] =
    record {
      numbers = λ u within. absurd (nothing_in_nil u within);
      tasks = λ u names tasks within. absurd (nothing_in_nil u within);
      one_number = λ u v within. absurd (nothing_in_nil u within);
      one_name = λ t u v within. absurd (nothing_in_nil u within);
      stays = λ u within. absurd (nothing_in_nil u within);
    }
lawful_lines (l ∷ h) = lawful_after (after_lines h) l (lawful_lines h)
