-- The list, where all whose names begin so have ended.
use Rattle.std.proofs.Common.{◌≡◌, ℕ, ◌<◌, ◌≤◌, ◌+◌, true, false, List, [], ◌∷◌, ◌++◌, length, get_or, take, drop, set, map, sym, ◌∙◌, ap, inl, inr, ◌⊎◌, arith, append_assoc}
use Rattle.std.specs.Prelude.{eqb, filter, sum_by}
use Rattle.std.specs.List.{starts_with}
use Rattle.std.proofs.lemmas.Bool.{cases_Bool, cond-true, cond-false}
use Rattle.std.proofs.lemmas.List.{drop_more, get_or_at, length-map, length-take-le, map-append, set_at, take_more}
use Rattle.std.proofs.lemmas.List.Sums.{sum_by-cons}
use Rattle.monitor_laws.specs.Lines.{AreGone}
use Rattle.monitor_laws.specs.States.{Ended, Participant, TraceState, after_line, gone_by, stays_listed}
use Rattle.monitor_laws.specs.Faults.{memberships_in, most_memberships}
use Rattle.monitor_laws.proofs.Lawful.{lawful_after}
use Rattle.monitor_state.specs.inside.Changes.{memberships_had}
use Rattle.monitor_state.specs.inside.States.{IsMonitorState}
use Rattle.monitor_state.proofs.Ascending.{ascending_after}
use Rattle.monitor_state.proofs.LegalLines.{fewer}

-- one more is changed
pub one_more_mapped :
    {X : Type 0} (f : X → X) (old xs : List X) (i : ℕ) (u v : X) → xs ≡ map f (take i old) ++ drop i old → i < length old → u ≡ get_or xs i u → v ≡ f u →
    set xs i v ≡ map f (take (i + 1) old) ++ drop (i + 1) old
one_more_mapped {X} f old xs i u v is within read changed =
    let x = get_or old i u in
    let front = map f (take i old) in
    let rest = drop (i + 1) old in
    let long : length front ≡ i = length-map (take i old) f ∙ length-take-le i old (omega arith) in
    let whole : xs ≡ front ++ x ∷ rest = is ∙ ap (λ (l : List X). front ++ l) (drop_more old i u within) in
    let same : u ≡ x = read ∙ ap (λ (l : List X). get_or l i u) whole ∙ get_or_at front x rest u i long in
    let grown : map f (take (i + 1) old) ≡ front ++ f x ∷ [] = ap (map f) (take_more old i u within) ∙ map-append f (take i old) (x ∷ []) in
    ap (λ (l : List X). set l i v) whole ∙ set_at front x rest v i long ∙ ap (λ (y : X). front ++ y ∷ rest) (changed ∙ ap f same)
    ∙ sym (append_assoc front (f x ∷ []) rest) ∙ ap (λ (l : List X). l ++ rest) (sym grown)

gone_had : (beginning : List ℕ) (u : Participant) → memberships_had (gone_by beginning u) ≤ memberships_had u
gone_had beginning u = elim (cases_Bool (starts_with eqb u.name beginning)) [
  | inl gone ↦ (let e = ap memberships_had (cond-true (starts_with eqb u.name beginning) (record u { condition = Ended }) u gone) in omega arith)
  | inr other ↦ (let e = ap memberships_had (cond-false (starts_with eqb u.name beginning) (record u { condition = Ended }) u other) in omega arith)
]

-- there are no more memberships than before
gone_sum : (beginning : List ℕ) (us : List Participant) → sum_by memberships_had (filter stays_listed (map (gone_by beginning) us)) ≤ sum_by memberships_had us
gone_sum beginning [] = omega arith
gone_sum beginning (u ∷ us) = by_test (gone_sum beginning us) (cases_Bool (stays_listed (gone_by beginning u)))
  where
    by_test :
        sum_by memberships_had (filter stays_listed (map (gone_by beginning) us)) ≤ sum_by memberships_had us → ((stays_listed (gone_by beginning u) ≡ true) ⊎ (stays_listed (gone_by beginning u) ≡ false)) →
        sum_by memberships_had (filter stays_listed (map (gone_by beginning) (u ∷ us))) ≤ sum_by memberships_had (u ∷ us)
    by_test rest (inl stays) =
        let e = ap (sum_by memberships_had) (cond-true (stays_listed (gone_by beginning u)) (gone_by beginning u ∷ filter stays_listed (map (gone_by beginning) us)) (filter stays_listed (map (gone_by beginning) us)) stays) in
        let first = sum_by-cons memberships_had (gone_by beginning u) (filter stays_listed (map (gone_by beginning) us)) in
        let all = sum_by-cons memberships_had u us in
        let less = gone_had beginning u in
        omega arith
    by_test rest (inr goes) =
        let e = ap (sum_by memberships_had) (cond-false (stays_listed (gone_by beginning u)) (gone_by beginning u ∷ filter stays_listed (map (gone_by beginning) us)) (filter stays_listed (map (gone_by beginning) us)) goes) in
        let all = sum_by-cons memberships_had u us in
        omega arith

pub gone_few : (s : TraceState) (m : ℕ) (beginning : List ℕ) → IsMonitorState s m → memberships_in (after_line s (AreGone beginning)) ≤ most_memberships
gone_few s m beginning kept =
    let less : memberships_in (after_line s (AreGone beginning)) ≤ memberships_in s = gone_sum beginning s.list in
    let counted = kept.counted in
    let few = kept.few in
    omega arith

pub kept_gone : (s : TraceState) (m k : ℕ) (beginning : List ℕ) → IsMonitorState s m → k ≡ memberships_in (after_line s (AreGone beginning)) → IsMonitorState (after_line s (AreGone beginning)) k
kept_gone s m k beginning kept count =
    let few = gone_few s m beginning kept in
    record {
      lawful = lawful_after s (AreGone beginning) kept.lawful;
      ascending = ascending_after s (AreGone beginning) kept.lawful kept.ascending;
      counted = count;
      few = omega arith;
      short = let short = kept.short in let same = length-map s.list (gone_by beginning) in let less = fewer stays_listed (map (gone_by beginning) s.list) in omega arith;
    }
