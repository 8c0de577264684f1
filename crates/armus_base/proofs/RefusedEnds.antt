-- Whoever is refused where an avoided run has ended is a task of the plan, and its end says so.
use Rattle.std.proofs.Common.{◌≡◌, ℕ, ◌<◌, Bool, true, false, Option, Some, None, length, sym, ◌∙◌, ap, subst, refl}
use Rattle.std.specs.Prelude.{IsSome}
use Rattle.std.proofs.lemmas.Bool.{false≢true}
use Rattle.std.proofs.lemmas.Option.{slice_get_within}
use Rattle.armus_base.specs.declared.ending.TaskEnd.TheVariants.{Refused}
use Rattle.armus_base.specs.declared.event.Event.{Event}
use Rattle.armus_base.specs.calls.AgreementLaws.{RefusedEnds}
use Rattle.armus_base.specs.Finals.{end_by}
use Rattle.armus_base.specs.Runs.{IsLegalRun, places}
use Rattle.armus_base.proofs.ForkedTasks.{forked_within}
use Rattle.armus_base.proofs.NobodyIsDead.{avoided_legal}
use Rattle.armus_base.proofs.Published.{published_undropped}
use Rattle.armus_base.proofs.RefusedWasStuck.{refused_dropped}
use Rattle.armus_base.proofs.Stepping.{places_fix}

end_refused : (b : Bool) (p r : Option Event) → ((e : Event) → p ≡ Some e → ⊥) → IsSome r → (e : Event) × (end_by b p r ≡ Refused e)
end_refused b (Some e) r unpublished some = absurd (unpublished e refl)
end_refused b None (Some e) unpublished some = (e, refl)
end_refused b None None unpublished some = absurd (false≢true some)

refused_end : (b : Bool) (p r : Option Event) (e : Event) → end_by b p r ≡ Refused e → IsSome r
refused_end b (Some d) r e is = absurd (cc)
refused_end b None (Some d) e is = refl
refused_end true None None e is = absurd (cc)
refused_end false None None e is = absurd (cc)

pub refused_ends : RefusedEnds
refused_ends plan s t checked avoided = (
  λ some. (within some, end_refused (s.forked t) (s.published t) (s.refused t) (unpublished some) some),
  λ told. refused_end (s.forked t) (s.published t) (s.refused t) told.1.0 told.1.1,
)
  where
    legal : IsLegalRun plan avoided.steps
    legal = avoided_legal plan avoided.steps avoided.run

    dropped : IsSome (s.refused t) → (q : ℕ) × (places avoided.steps t).dropped ≡ Some q
    dropped some = refused_dropped plan checked avoided.steps legal t (subst (λ r. IsSome (r.refused t)) (sym avoided.there) some)

    within : IsSome (s.refused t) → t < length plan.parents
    within some =
        let at = places_fix plan checked avoided.steps legal in
        let q = dropped some in
        forked_within plan (slice_get_within plan.parents 0 None checked.tables.root) avoided.steps legal t
        (ap (λ r. r.forked t) at.0 ∙ (at.1.refused t q.0 q.1).0)

    unpublished : IsSome (s.refused t) → (e : Event) → s.published t ≡ Some e → ⊥
    unpublished some e is =
        let at = places_fix plan checked avoided.steps legal in
        let q = (dropped some).1 in
        let none = published_undropped plan (places avoided.steps) at.1 t e (ap (λ r. r.published t) (sym at.0) ∙ ap (λ r. r.published t) avoided.there ∙ is) in
        absurd (cc)
