-- The dead tasks of a list of statuses that were not told, status by status.
use Rattle.std.proofs.Common.{◌≡◌, ◌≢◌, ℕ, ◌<◌, ◌+◌, List, [], ◌∷◌, ◌++◌, length, get_or, sym, refl, ap, ◌∙◌, subst, arith, inl, inr, ◌⊎◌, append_assoc}
use Rattle.std.specs.Prelude.{AllPairs, Any, Contains}
use Rattle.std.proofs.lemmas.Bool.{cases_eq}
use Rattle.std.proofs.lemmas.List.{get_or_default}
use Rattle.std.proofs.lemmas.List.Elements.{Contains-append_cases, Contains-append_left, Contains-append_right}
use Rattle.armus_base.specs.declared.ids.TaskId.{TaskId}
use Rattle.armus_base.specs.declared.status.Dead.{Dead}
use Rattle.armus_base.specs.declared.status.Status.{Status}
use Rattle.armus_base.specs.Deadlocks.{IsDeadBy, IsListedOn}
use Rattle.armus_base.specs.DeadLists.{IsDeadList}
use Rattle.armus_base.proofs.Elements.{Contains-cons_cases, Contains-head, nothing_in_nil}
use Rattle.report.specs.NamedDead.{AreSomeDead, AreTheDead}
use Rattle.task_runner.specs.inside.Rests.{IsNamedIn}
use Rattle.task_runner.proofs.TellingMore.{pairs_on}

-- the dead tasks of the first i statuses are told or among the rest
pub record IsRestUpTo (blocked : List Status) (told rest : List Dead) (i : ℕ) : Type 0 where
  pub some : AreSomeDead blocked (told ++ rest)
  pub all : (k : ℕ) (d : Status) → k < i → IsDeadBy blocked (get_or blocked k d).t.0 → IsNamedIn (told ++ rest) (get_or blocked k d).t

-- what a test of each of them says
pub any_named : (xs : List Dead) (t : TaskId) → Any (λ d. d.t ≡ t) xs → IsNamedIn xs t
any_named xs t a = (a.1, (a.0, a.2, a.3), a.4)

pub named_any : (xs : List Dead) (t : TaskId) → IsNamedIn xs t → Any (λ d. d.t ≡ t) xs
named_any xs t n = (n.1.0, n.0, n.1.1, n.1.2, n.2)

pub any_among : (ts : List TaskId) (t : TaskId) → Any (λ u. u ≡ t) ts → Contains ts t
any_among ts t a = subst (Contains ts) a.4 (a.0, a.2, a.3)

pub among_any : (ts : List TaskId) (t : TaskId) → Contains ts t → Any (λ u. u ≡ t) ts
among_any ts t i = (i.0, t, i.1, i.2, refl)

pub named_left : (xs ys : List Dead) (t : TaskId) → IsNamedIn xs t → IsNamedIn (xs ++ ys) t
named_left xs ys t is = (is.0, Contains-append_left xs ys is.0 is.1, is.2)

pub named_right : (xs ys : List Dead) (t : TaskId) → IsNamedIn ys t → IsNamedIn (xs ++ ys) t
named_right xs ys t is = (is.0, Contains-append_right xs ys is.0 is.1, is.2)

pub named_cases : (xs ys : List Dead) (t : TaskId) → IsNamedIn (xs ++ ys) t → IsNamedIn xs t ⊎ IsNamedIn ys t
named_cases xs ys t is = elim (Contains-append_cases xs ys is.0 is.1) [ inl here ↦ inl (is.0, here, is.2) | inr there ↦ inr (is.0, there, is.2) ]

module _ (blocked : List Status) (dead : List TaskId) (is_dead : IsDeadList blocked dead) (told rest : List Dead) (i : ℕ) (s : Status)
    (here : s ≡ get_or blocked i s) (within : i < length blocked) (before : IsRestUpTo blocked told rest i) where
  abbrev x : Dead
  x = record { t = s.t; event = s.event }

  status_at : (k : ℕ) (d : Status) → k ≡ i → get_or blocked k d ≡ s
  status_at k d last = ap (λ j. get_or blocked j d) last ∙ get_or_default blocked i d s within ∙ sym here

  grown : told ++ (rest ++ x ∷ []) ≡ (told ++ rest) ++ x ∷ []
  grown = sym (append_assoc told rest (x ∷ []))

  -- one that is dead and new is put among the rest
  pub rest_new : Contains dead s.t → (IsNamedIn (told ++ rest) s.t → ⊥) → IsRestUpTo blocked told (rest ++ x ∷ []) (i + 1)
  rest_new at fresh = record {
    some = subst (AreSomeDead blocked) (sym grown) (record { once = apart; dead = each });
    all = λ k d l is. subst (λ ds. IsNamedIn ds (get_or blocked k d).t) (sym grown) (by_place k d l is);
  }
    where
      apart : AllPairs (λ (a b : Dead). a.t ≢ b.t) ((told ++ rest) ++ x ∷ [])
      apart =
          pairs_on (λ (a b : Dead). a.t ≢ b.t) (told ++ rest) (x ∷ []) before.some.once (λ m n d l few. absurd (omega arith))
          (λ a b p q e. elim (Contains-cons_cases x [] b q) [
            | inl same ↦ fresh (a, p, e ∙ ap (λ (z : Dead). z.t) (sym same))
            | inr no_way ↦ nothing_in_nil b no_way
          ])

      each : (d : Dead) → Contains ((told ++ rest) ++ x ∷ []) d → IsDeadBy blocked d.t.0 × IsListedOn blocked d.t.0 d.event
      each d p = elim (Contains-append_cases (told ++ rest) (x ∷ []) d p) [
        | inl old ↦ before.some.dead d old
        | inr new ↦ elim (Contains-cons_cases x [] d new) [
          | inl same ↦ subst (λ (z : Dead). IsDeadBy blocked z.t.0 × IsListedOn blocked z.t.0 z.event) same ((is_dead.exact s.t).0 at, listed)
          | inr no_way ↦ absurd (nothing_in_nil d no_way)
        ]
      ]
        where
          listed : IsListedOn blocked s.t.0 s.event
          listed = (s, (i, within, sym here), refl, refl)

      by_place : (k : ℕ) (d : Status) → k < i + 1 → IsDeadBy blocked (get_or blocked k d).t.0 → IsNamedIn ((told ++ rest) ++ x ∷ []) (get_or blocked k d).t
      by_place k d l is = elim (cases_eq k i) [
        | inl last ↦
            subst (λ (z : Status). IsNamedIn ((told ++ rest) ++ x ∷ []) z.t) (sym (status_at k d last))
            (x, Contains-append_right (told ++ rest) (x ∷ []) x (Contains-head x []), refl)
        | inr other ↦ named_left (told ++ rest) (x ∷ []) (get_or blocked k d).t (before.all k d (omega arith) is)
      ]

  -- one that is not dead, or is named, changes nothing
  pub rest_old : (Contains dead s.t → ⊥) ⊎ IsNamedIn (told ++ rest) s.t → IsRestUpTo blocked told rest (i + 1)
  rest_old old = record { some = before.some; all = by_place }
    where
      by_place : (k : ℕ) (d : Status) → k < i + 1 → IsDeadBy blocked (get_or blocked k d).t.0 → IsNamedIn (told ++ rest) (get_or blocked k d).t
      by_place k d l is = elim (cases_eq k i) [
        | inl last ↦
            (let same = status_at k d last in
            elim old [
              | inl no_dead ↦ absurd (no_dead ((is_dead.exact s.t).1 (subst (λ (z : Status). IsDeadBy blocked z.t.0) same is)))
              | inr named ↦ subst (λ (z : Status). IsNamedIn (told ++ rest) z.t) (sym same) named
            ])
        | inr other ↦ before.all k d (omega arith) is
      ]

-- at the end they are all
pub rest_all : (blocked : List Status) (told rest : List Dead) (i : ℕ) → i ≡ length blocked → IsRestUpTo blocked told rest i → AreTheDead blocked (told ++ rest)
rest_all blocked told rest i all is = record { some = is.some; all = by_status }
  where
    by_status : (t : ℕ) → IsDeadBy blocked t → (d : Dead) × Contains (told ++ rest) d × (d.t.0 ≡ t)
    by_status t dead =
        let waits = (dead.deadlocked.each t dead.inside).waits in
        let s = waits.0 in
        let at = waits.1 in
        let same : get_or blocked at.0 s ≡ s = at.2 in
        let there : (get_or blocked at.0 s).t.0 ≡ t = ap (λ (z : Status). z.t.0) same ∙ waits.2 in
        let l = at.1 in
        let named = is.all at.0 s (omega arith) (subst (λ u. IsDeadBy blocked u) (sym there) dead) in
        (named.0, named.1, ap (λ (u : TaskId). u.0) named.2 ∙ there)
