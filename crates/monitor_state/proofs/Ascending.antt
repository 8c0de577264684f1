-- In every state that lines lead to numbers ascend.
use Rattle.std.proofs.Common.{◌≡◌, ℕ, ◌<◌, ◌+◌, Bool, true, false, List, [], ◌∷◌, ◌++◌, refl, sym, ◌∙◌, ap, subst, inl, inr, ◌⊎◌, arith, map}
use Rattle.std.specs.Prelude.{Contains, eqb, filter}
use Rattle.std.proofs.lemmas.Bool.{cases_Bool, cond-true, cond-false}
use Rattle.std.specs.List.{list_any, starts_with}
use Rattle.armus_base.proofs.Elements.{Contains-cons_cases, Contains-head, Contains-tail, from_map, nothing_in_nil}
use Rattle.std.proofs.lemmas.List.Elements.{Contains-append_cases}
use Rattle.monitor_laws.specs.Lines.{TraceLine, SaysNothing, AsksReport, AsksList, AreGone, Announces, PlaysAny, PlaysOneOf}
use Rattle.monitor_laws.specs.States.{AnyTask, OneOf, Participant, TraceState, after_line, announced_by, changed_at, changed_by, Ended, gone_by, is_there_as, new_participant, placed_at, stays_listed, task_numbers, with_named}
use Rattle.monitor_laws.proofs.Filters.{from_filter}
use Rattle.monitor_laws.proofs.Changes.{changed_there, there_is, other_is}
use Rattle.monitor_laws.specs.Lawful.{AreAscending, IsLawfulState}
use Rattle.monitor_laws.proofs.Lawful.{announced_number, placed_number}

ascending_map : (change : Participant → Participant) → ((u : Participant) → (change u).number ≡ u.number) → (us : List Participant) → AreAscending us → AreAscending (map change us)
ascending_map change keeps [] up = up
ascending_map change keeps (u ∷ us) up = (
  λ v within.
      let m = from_map change us v within in
      let less = up.0 m.0 m.1 in
      let a = keeps u in
      let b = keeps m.0 in
      let c = ap (λ (x : Participant). x.number) m.2 in
      omega arith,
  ascending_map change keeps us up.1,
)

pub ascending_filter : (test : Participant → Bool) (us : List Participant) → AreAscending us → AreAscending (filter test us)
ascending_filter test [] up = up
ascending_filter test (u ∷ us) up = by_test (ascending_filter test us up.1) (cases_Bool (test u))
  where
    by_test : AreAscending (filter test us) → ((test u ≡ true) ⊎ (test u ≡ false)) → AreAscending (filter test (u ∷ us))
    by_test rest (inl on) =
        subst AreAscending (sym (cond-true (test u) (u ∷ filter test us) (filter test us) on)) ((λ v within. up.0 v (from_filter test us v within).0), rest)
    by_test rest (inr off) = subst AreAscending (sym (cond-false (test u) (u ∷ filter test us) (filter test us) off)) rest

ascending_pushed : (us : List Participant) (v : Participant) → AreAscending us → ((u : Participant) → Contains us u → u.number < v.number) → AreAscending (us ++ v ∷ [])
ascending_pushed [] v up below = ((λ w within. absurd (nothing_in_nil w within)), tt)
ascending_pushed (u ∷ us) v up below = (
  λ w within. elim (Contains-append_cases us (v ∷ []) w within) [
    | inl old ↦ up.0 w old
    | inr new ↦ elim (Contains-cons_cases v [] w new) [
      | inl is ↦ subst (λ (x : Participant). u.number < x.number) is (below u (Contains-head u us))
      | inr more ↦ absurd (nothing_in_nil w more)
    ]
  ],
  ascending_pushed us v up.1 (λ w within. below w (Contains-tail u us w within)),
)

ascending_named : (s : TraceState) (t : List ℕ) → IsLawfulState s → AreAscending s.list → AreAscending (with_named s t).list
ascending_named s t lawful up = by_test (cases_Bool (list_any (is_there_as t) s.list))
  where
    more : TraceState
    more = record { list = s.list ++ new_participant s.named t ∷ []; named = s.named + 1 }

    by_test : ((list_any (is_there_as t) s.list ≡ true) ⊎ (list_any (is_there_as t) s.list ≡ false)) → AreAscending (with_named s t).list
    by_test (inl there) = subst (λ (x : TraceState). AreAscending x.list) (sym (cond-true (list_any (is_there_as t) s.list) s more there)) up
    by_test (inr none) =
        subst (λ (x : TraceState). AreAscending x.list) (sym (cond-false (list_any (is_there_as t) s.list) s more none))
        (ascending_pushed s.list (new_participant s.named t) up lawful.numbers)

gone_number : (beginning : List ℕ) (u : Participant) → (gone_by beginning u).number ≡ u.number
gone_number beginning u = elim (cases_Bool (starts_with eqb u.name beginning)) [
  | inl gone ↦ ap (λ (x : Participant). x.number) (cond-true (starts_with eqb u.name beginning) (record u { condition = Ended }) u gone)
  | inr other ↦ ap (λ (x : Participant). x.number) (cond-false (starts_with eqb u.name beginning) (record u { condition = Ended }) u other)
]

ascending_by : (change : Participant → Participant) (s : TraceState) → ((u : Participant) → (change u).number ≡ u.number) → AreAscending s.list → AreAscending (changed_by change s).list
ascending_by change s keeps up = ascending_filter stays_listed (map change s.list) (ascending_map change keeps s.list up)

ascending_at : (t : List ℕ) (change : Participant → Participant) (s : TraceState) → ((u : Participant) → (change u).number ≡ u.number) → IsLawfulState s → AreAscending s.list → AreAscending (changed_at t change s).list
ascending_at t change s keeps lawful up = ascending_by (changed_there t change) (with_named s t) kept (ascending_named s t lawful up)
  where
    kept : (u : Participant) → (changed_there t change u).number ≡ u.number
    kept u = elim (cases_Bool (is_there_as t u)) [
      | inl there ↦ ap (λ (x : Participant). x.number) (there_is t change u there) ∙ keeps u
      | inr other ↦ ap (λ (x : Participant). x.number) (other_is t change u other)
    ]

pub ascending_after : (s : TraceState) (l : TraceLine) → IsLawfulState s → AreAscending s.list → AreAscending (after_line s l).list
ascending_after s SaysNothing lawful up = up
ascending_after s AsksReport lawful up = up
ascending_after s AsksList lawful up = up
ascending_after s (AreGone beginning) lawful up = ascending_by (gone_by beginning) s (λ u. gone_number beginning u) up
ascending_after s (Announces t what place) lawful up =
    ascending_at t (λ u. placed_at place (announced_by what u)) s (λ u. placed_number place (announced_by what u) ∙ announced_number what u) lawful up
ascending_after s (PlaysAny w) lawful up = ascending_at w (λ u. record u { condition = AnyTask }) s (λ u. refl) lawful up
ascending_after s (PlaysOneOf w names) lawful up = ascending_at w (λ u. record u { condition = OneOf names (task_numbers s names) }) s (λ u. refl) lawful up
