-- Lines lead to one progress or have one first fault, and never both.
use Rattle.std.proofs.Common.{◌≡◌, ◌+◌, ◌∙◌, ◌⊎◌, ℕ, List, [], ◌∷◌, ◌++◌, length, arith, sym, subst, ap, inl, inr, refl, append_assoc}
use Rattle.std.specs.Prelude.{Option, Some, None, IsSome}
use Rattle.armus_base.specs.CheckedPlans.{IsCheckedPlan}
use Rattle.armus_base.specs.Plans.{Plan, Action}
use Rattle.armus_base.proofs.Tasks.{action_of_task}
use Rattle.armus_base.proofs.Lists.{ends_some, same_ends}
use Rattle.schedule.specs.declared.lines.Line.{Line}
use Rattle.schedule.specs.declared.lines.Line.TheVariants as line
use Rattle.schedule.specs.Passes.{PassLoads}
use Rattle.schedule.specs.Replays.{IsFault, LinesLead, Progress, Takes, at_start, load_without_pass, loaded, no_line, one_more, second_pass, strange_task, stuck_task, unreadable}
use Rattle.schedule.specs.calls.Laws.{NeverBoth, OneFirstFault, OneProgress}

-- ---- lists with a last line

-- no lines, or lines and a last one
has_last : (xs : List Line) → (xs ≡ []) ⊎ ((ys : List Line) × (y : Line) × (xs ≡ ys ++ y ∷ []))
has_last [] = inl refl
has_last (x ∷ xs) =
    elim (has_last xs) [
      | inl e ↦ inr ([], x, ap (λ l. x ∷ l) e)
      | inr more ↦ inr (x ∷ more.0, more.1, ap (λ l. x ∷ l) more.2)
    ]

-- of two ways to name a line: it is one line, or one way names an earlier line
compared : (xs ys : List Line) (x y : Line) (us vs : List Line) → xs ++ x ∷ us ≡ ys ++ y ∷ vs
    → ((xs ≡ ys) × (x ≡ y)) ⊎ (((r : List Line) × (ys ≡ xs ++ x ∷ r)) ⊎ ((r : List Line) × (xs ≡ ys ++ y ∷ r)))
compared [] [] x y us vs e = inl (refl, cc)
compared [] (w ∷ ws) x y us vs e = (let first : w ≡ x = cc in inr (inl (ws, ap (λ v. v ∷ ws) first)))
compared (z ∷ zs) [] x y us vs e = (let first : z ≡ y = cc in inr (inr (zs, ap (λ v. v ∷ zs) first)))
compared (z ∷ zs) (w ∷ ws) x y us vs e =
    let first : z ≡ w = cc in
    let rest : zs ++ x ∷ us ≡ ws ++ y ∷ vs = cc in
    elim (compared zs ws x y us vs rest) [
      | inl same ↦ inl (ap (λ v. v ∷ zs) first ∙ ap (λ l. w ∷ l) same.0, same.1)
      | inr (inl (r, is)) ↦ inr (inl (r, ap (λ v. v ∷ ws) (sym first) ∙ ap (λ l. z ∷ l) is))
      | inr (inr (r, is)) ↦ inr (inr (r, ap (λ v. v ∷ zs) first ∙ ap (λ l. w ∷ l) is))
    ]

-- ---- one progress

one_step : (plan : Plan) (a : Progress) (next : Line) (b c : Progress) → Takes plan a next b → Takes plan a next c → b ≡ c
one_step plan a (line.Step t) b c (x, p, is) (y, q, at) =
    let both : Some x ≡ Some y = sym p.by_code ∙ q.by_code in
    let same : x ≡ y = cc in
    is ∙ ap (λ (z : Action). record a { run = record { task = t; action = z } ∷ a.run }) same ∙ sym at
one_step plan a line.Pass b c (p, is) (q, at) = is ∙ sym at
one_step plan a line.Load b c (l, p, is) (m, q, at) =
    let both : Some l ≡ Some m = sym p ∙ q in
    let same : l ≡ m = cc in
    is ∙ ap (λ (z : PassLoads). loaded plan a (z ++ a.run ∷ [])) same ∙ sym at
one_step plan a line.Unreadable b c p q = absurd p

-- before its last line
record LeadsBefore (plan : Plan) (lines : List Line) (next : Line) (b : Progress) : Type 0 where
  progress : Progress
  leads : LinesLead plan lines progress
  takes : Takes plan progress next b

before_last : (plan : Plan) (all lines : List Line) (next : Line) (b : Progress) → all ≡ lines ++ next ∷ [] → LinesLead plan all b → LeadsBefore plan lines next b
before_last plan _ lines next _ e no_line = absurd (ends_some lines next e)
before_last plan _ lines next _ e (one_more front a last b leads takes) =
    let parts = same_ends front lines last next e in
    record {
      progress = a;
      leads = subst (λ l. LinesLead plan l a) parts.0 leads;
      takes = subst (λ x. Takes plan a x b) parts.1 takes;
    }

from_start : (plan : Plan) (all : List Line) (b : Progress) → all ≡ [] → LinesLead plan all b → at_start ≡ b
from_start plan _ _ e no_line = refl
from_start plan _ _ e (one_more front a last b leads takes) = absurd (ends_some front last (sym e))

pub one_progress : OneProgress
one_progress plan lines a b p q = go lines a b p q
  where
    go : (lines : List Line) (a b : Progress) → LinesLead plan lines a → LinesLead plan lines b → a ≡ b
    go _ _ b no_line q = from_start plan [] b refl q
    go _ _ b (one_more lines a next c leads takes) q =
        let last = before_last plan (lines ++ next ∷ []) lines next b refl q in
        let same : a ≡ last.progress = go lines a last.progress leads last.leads in
        one_step plan a next c b takes (subst (λ p. Takes plan p next b) (sym same) last.takes)

-- ---- a progress or a fault

some_or_none : (loads : Option PassLoads) → IsSome loads → loads ≡ None → ⊥
some_or_none None some none = absurd (cc)
some_or_none (Some l) some none = absurd (cc)

fault_or_taken : (plan : Plan) → IsCheckedPlan plan → (a : Progress) (next : Line) (kind : ℕ) (b : Progress) → IsFault plan a next kind → Takes plan a next b → ⊥
fault_or_taken plan checked a _ _ b unreadable takes = takes
fault_or_taken plan checked a _ _ b (strange_task t beyond) (x, next, is) = absurd (let within = action_of_task plan checked t _ x next.by_code in omega arith)
fault_or_taken plan checked a _ _ b (stuck_task t within stuck) (x, next, is) = stuck x next
fault_or_taken plan checked a _ _ b (load_without_pass none) (loads, opened, is) = absurd (cc)
fault_or_taken plan checked a _ _ b (second_pass some) (none, is) = some_or_none a.open_pass some none

-- lines that lead to a progress have no line at fault
no_fault_inside : (plan : Plan) → IsCheckedPlan plan → (all : List Line) (b : Progress) (before : List Line) (here : Line) (rest : List Line) (a : Progress) (kind : ℕ)
    → all ≡ before ++ here ∷ rest → LinesLead plan before a → IsFault plan a here kind → LinesLead plan all b → ⊥
no_fault_inside plan checked _ _ [] here rest a kind e leads fault no_line = absurd (cc)
no_fault_inside plan checked _ _ (x ∷ xs) here rest a kind e leads fault no_line = absurd (cc)
no_fault_inside plan checked _ _ before here rest a kind e leads fault (one_more front c next b leads_on takes) =
    elim (has_last rest) [
      | inl none ↦
          let parts = same_ends front before next here (e ∙ ap (λ r. before ++ here ∷ r) none) in
          let same : c ≡ a = one_progress plan before c a (subst (λ l. LinesLead plan l c) parts.0 leads_on) leads in
          fault_or_taken plan checked a here kind b fault (subst (λ x. Takes plan a x b) parts.1 (subst (λ p. Takes plan p next b) same takes))
      | inr more ↦
          let whole : front ++ next ∷ [] ≡ (before ++ here ∷ more.0) ++ more.1 ∷ [] = e ∙ ap (λ r. before ++ here ∷ r) more.2 ∙
          sym (append_assoc before (here ∷ more.0) (more.1 ∷ [])) in
          no_fault_inside plan checked front c before here more.0 a kind (same_ends front (before ++ here ∷ more.0) next more.1 whole).0 leads fault leads_on
    ]

pub never_both : NeverBoth
never_both plan lines a number kind checked leads f = no_fault_inside plan checked lines a f.before f.here f.rest f.progress kind f.parts f.leads f.fault leads

-- ---- one first fault

one_kind : (plan : Plan) (a : Progress) (next : Line) (kind other : ℕ) → IsFault plan a next kind → IsFault plan a next other → kind ≡ other
one_kind plan a _ _ _ unreadable unreadable = refl
one_kind plan a _ _ _ (strange_task t beyond) (strange_task _ past) = refl
one_kind plan a _ _ _ (strange_task t beyond) (stuck_task _ within stuck) = absurd (omega arith)
one_kind plan a _ _ _ (stuck_task t within stuck) (strange_task _ past) = absurd (omega arith)
one_kind plan a _ _ _ (stuck_task t within stuck) (stuck_task _ inside held) = refl
one_kind plan a _ _ _ (load_without_pass none) (load_without_pass nothing) = refl
one_kind plan a _ _ _ (second_pass some) (second_pass one) = refl

pub one_first_fault : OneFirstFault
one_first_fault plan lines number kind other another checked p q =
    elim (compared p.before q.before p.here q.here p.rest q.rest (sym p.parts ∙ q.parts)) [
      | inl same ↦
          let progress_is : p.progress ≡ q.progress = one_progress plan p.before p.progress q.progress p.leads (subst (λ l. LinesLead plan l q.progress) (sym same.0) q.leads) in (
            p.counted ∙ ap (λ (l : List Line). length l + 1) same.0 ∙ sym q.counted,
            one_kind plan q.progress q.here kind another (subst (λ x. IsFault plan q.progress x kind) same.1 (subst (λ a. IsFault plan a p.here kind) progress_is p.fault)) q.fault,
          )
      | inr (inl (r, is)) ↦ absurd (no_fault_inside plan checked q.before q.progress p.before p.here r p.progress kind is p.leads p.fault q.leads)
      | inr (inr (r, is)) ↦ absurd (no_fault_inside plan checked p.before p.progress q.before q.here r q.progress another is q.leads q.fault p.leads)
    ]
