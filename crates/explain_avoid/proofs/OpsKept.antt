-- Where tasks stand in their codes: each at an op, and after a refusal at the same.
use Rattle.std.proofs.Common.{◌≡◌, ◌≢◌, ◌∙◌, ℕ, ap, inl, inr, set, subst, sym}
use Rattle.std.proofs.lemmas.Bool.{cases_eq}
use Rattle.std.proofs.lemmas.Option.{slice_get_within}
use Rattle.armus_base.specs.Plans.{Plan, code_of}
use Rattle.armus_base.specs.Runs.{Place}
use Rattle.explain_facts.proofs.AtSomeOp.{at_some_op}
use Rattle.pl_core.specs.Tasks.{IsAtOp}
use Rattle.pl_core.specs.calls.Moves.{MakesRefusal, refused_there}
use Rattle.pl_core.specs.calls.Worlds.{WorldValue, places_at, places_of}
use Rattle.pl_core.proofs.OneStep.{places_set_other, places_set_same}
use Rattle.pl_core.proofs.Standing.{place_is}
use Rattle.explain_avoid.specs.inside.SoFar.{StandAt}

-- the op of task u after these places
pub op_at : Plan → (ℕ → Place) → ℕ → ℕ
op_at plan a u = (at_some_op (code_of plan u) (a u).done).0

pub at_op : (plan : Plan) (a : ℕ → Place) (u : ℕ) → IsAtOp (code_of plan u) (a u).done (op_at plan a u)
unfolding op_at
at_op plan a u = (at_some_op (code_of plan u) (a u).done).1

module _ (old new : WorldValue) (t : ℕ) (r : MakesRefusal old new t) where
  -- a refusal moves no other task
  pub same_place : (u : ℕ) → u ≢ t → places_of new u ≡ places_of old u
  same_place u other =
      ap (λ q. places_at q new.places u) r.plan
      ∙ ap (λ ps. places_at old.plan ps u) r.places.changed
      ∙ places_set_other old.plan old.places t u (refused_there r.places.place) other

  -- and makes no action of a code
  pub same_done : (u : ℕ) → (places_of new u).done ≡ (places_of old u).done
  same_done u =
      ap (λ q. (places_at q new.places u).done) r.plan
      ∙ ap (λ ps. (places_at old.plan ps u).done) r.places.changed
      ∙ elim (cases_eq u t) [
        | inl same ↦ subst (λ v. (places_at old.plan (set old.places t (refused_there r.places.place)) v).done ≡ (places_of old v).done) (sym same) own
        | inr other ↦ ap (λ (a : Place). a.done) (places_set_other old.plan old.places t u (refused_there r.places.place) other)
      ]
    where
      own : (places_at old.plan (set old.places t (refused_there r.places.place)) t).done ≡ (places_of old t).done
      own =
          ap (λ (a : Place). a.done)
          (places_set_same old.plan old.places t (refused_there r.places.place) (slice_get_within old.places t r.places.place r.places.there))
          ∙ sym (ap (λ (a : Place). a.done) (place_is old.plan old.places t r.places.place r.places.there))

  -- so each task stands at its op still
  pub stand_still : (ops : ℕ → ℕ) → StandAt old ops → StandAt new ops
  stand_still ops stand u =
      subst (λ (q : Plan). IsAtOp (code_of q u) (places_of new u).done (ops u)) (sym r.plan)
      (subst (λ k. IsAtOp (code_of old.plan u) k (ops u)) (sym (same_done u)) (stand u))
