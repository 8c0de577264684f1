-- Numbers ascend in the list.
use Rattle.std.proofs.Common.{◌≡◌, ℕ, zero, suc, ◌<◌, ◌+◌, List, [], ◌∷◌, ◌++◌, refl, sym, ◌∙◌, ap, subst, inl, inr, arith}
use Rattle.std.specs.Prelude.{AllPairs, Contains, map, eqb, slice_index_or}
use Rattle.std.specs.List.{list_any, starts_with}
use Rattle.std.proofs.lemmas.Bool.{cases_Bool, cond-true, cond-false}
use Rattle.std.proofs.lemmas.List.Elements.{Contains-get_or}
use Rattle.std.proofs.lemmas.List.Kept.{AllPairs-cons, AllPairs-filter}
use Rattle.std.proofs.lemmas.List.Quantifiers.{all_pairs_push}
use Rattle.armus_base.proofs.Elements.{from_map}
use Rattle.monitor_laws.specs.Lines.{TraceLine, SaysNothing, AsksReport, AsksList, AreGone, Announces, PlaysAny, PlaysOneOf}
use Rattle.monitor_laws.specs.States.{Ended, AnyTask, OneOf, Participant, TraceState, after_line, after_lines, announced_by, changed_by, gone_by, is_there_as, new_participant, placed_at, stays_listed, task_numbers, with_named}
use Rattle.monitor_laws.proofs.Changes.{changed_there, other_is, there_is}
use Rattle.monitor_laws.specs.Lawful.{IsLawfulState}
use Rattle.monitor_laws.proofs.Lawful.{announced_number, lawful_lines, placed_number}
use Rattle.monitor_words.specs.Laws.{NumbersAscend}

abbrev pub Ascends : List Participant → Type 0
Ascends xs = AllPairs (λ t u. t.number < u.number) xs

-- the first is below each that follows
pub above_first : (x : Participant) (xs : List Participant) → Ascends (x ∷ xs) → (y : Participant) → Contains xs y → x.number < y.number
above_first x xs up y (k, lt, e) = subst (λ z. x.number < z.number) e (up zero (suc k) y (omega arith) (omega arith))

pub rest_ascends : (x : Participant) (xs : List Participant) → Ascends (x ∷ xs) → Ascends xs
rest_ascends x xs up i j d lt within = up (suc i) (suc j) d (omega arith) (omega arith)

-- by a change that keeps numbers
map_ascends : (change : Participant → Participant) → ((u : Participant) → (change u).number ≡ u.number) → (xs : List Participant) → Ascends xs → Ascends (map change xs)
map_ascends change keeps [] up = λ i j d lt within. absurd (omega arith)
map_ascends change keeps (x ∷ xs) up =
    AllPairs-cons (λ t u. t.number < u.number) (change x) (map change xs)
    (λ i d within.
    let m = from_map change xs (slice_index_or (map change xs) i d) (Contains-get_or (map change xs) i d within) in
    let below = above_first x xs up m.0 m.1 in
    let first = keeps x in
    let later = keeps m.0 in
    subst (λ z. (change x).number < z.number) m.2 (omega arith))
    (map_ascends change keeps xs (rest_ascends x xs up))

changed_ascends : (change : Participant → Participant) → ((u : Participant) → (change u).number ≡ u.number) → (s : TraceState) → Ascends s.list → Ascends (changed_by change s).list
changed_ascends change keeps s up = AllPairs-filter (λ t u. t.number < u.number) stays_listed (map change s.list) (map_ascends change keeps s.list up)

named_ascends : (s : TraceState) (t : List ℕ) → IsLawfulState s → Ascends s.list → Ascends (with_named s t).list
named_ascends s t lawful up = elim (cases_Bool (list_any (is_there_as t) s.list)) [
  | inl there ↦ subst (λ (x : TraceState). Ascends x.list) (sym (cond-true (list_any (is_there_as t) s.list) s more there)) up
  | inr none ↦ subst (λ (x : TraceState). Ascends x.list) (sym (cond-false (list_any (is_there_as t) s.list) s more none))
      (all_pairs_push (λ x y. x.number < y.number) s.list (new_participant s.named t) up
      (λ k d within. lawful.numbers (slice_index_or s.list k d) (Contains-get_or s.list k d within)))
]
  where
    more : TraceState
    more = record { list = s.list ++ new_participant s.named t ∷ []; named = s.named + 1 }

keeps_there : (t : List ℕ) (change : Participant → Participant) → ((u : Participant) → (change u).number ≡ u.number) → (u : Participant) → (changed_there t change u).number ≡ u.number
keeps_there t change keeps u = elim (cases_Bool (is_there_as t u)) [
  | inl there ↦ ap (λ (x : Participant). x.number) (there_is t change u there) ∙ keeps u
  | inr other ↦ ap (λ (x : Participant). x.number) (other_is t change u other)
]

keeps_gone : (beginning : List ℕ) (u : Participant) → (gone_by beginning u).number ≡ u.number
keeps_gone beginning u = elim (cases_Bool (starts_with eqb u.name beginning)) [
  | inl gone ↦ ap (λ (x : Participant). x.number) (cond-true (starts_with eqb u.name beginning) (record u { condition = Ended }) u gone)
  | inr other ↦ ap (λ (x : Participant). x.number) (cond-false (starts_with eqb u.name beginning) (record u { condition = Ended }) u other)
]

line_ascends : (s : TraceState) (l : TraceLine) → IsLawfulState s → Ascends s.list → Ascends (after_line s l).list
line_ascends s SaysNothing lawful up = up
line_ascends s AsksReport lawful up = up
line_ascends s AsksList lawful up = up
line_ascends s (AreGone beginning) lawful up = changed_ascends (gone_by beginning) (keeps_gone beginning) s up
line_ascends s (Announces t what place) lawful up =
    changed_ascends (changed_there t (λ u. placed_at place (announced_by what u)))
    (keeps_there t (λ u. placed_at place (announced_by what u)) (λ u. placed_number place (announced_by what u) ∙ announced_number what u))
    (with_named s t) (named_ascends s t lawful up)
line_ascends s (PlaysAny w) lawful up =
    changed_ascends (changed_there w (λ u. record u { condition = AnyTask })) (keeps_there w (λ u. record u { condition = AnyTask }) (λ u. refl)) (with_named s w) (named_ascends s w lawful up)
line_ascends s (PlaysOneOf w names) lawful up =
    changed_ascends (changed_there w (λ u. record u { condition = OneOf names (task_numbers s names) }))
    (keeps_there w (λ u. record u { condition = OneOf names (task_numbers s names) }) (λ u. refl)) (with_named s w) (named_ascends s w lawful up)

pub numbers_ascend : NumbersAscend
numbers_ascend [] = λ i j d lt within. absurd (omega arith)
numbers_ascend (l ∷ h) = line_ascends (after_lines h) l (lawful_lines h) (numbers_ascend h)
