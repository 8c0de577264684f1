-- Nobody is refused in a plain run.
use Rattle.std.proofs.Common.{◌≡◌, ℕ, false, Some, length, set, sym, ◌∙◌, ap, subst, inl, inr}
use Rattle.std.specs.Prelude.{slice_get}
use Rattle.std.proofs.lemmas.Bool.{cases_eq}
use Rattle.std.proofs.lemmas.Option.{slice_get_within}
use Rattle.armus_base.specs.Plans.{Plan}
use Rattle.armus_base.proofs.Lists.{slice_get-set_same, slice_get-set_other}
use Rattle.pl_core.specs.calls.Moves.{IsWorldStep, further}
use Rattle.pl_core.specs.calls.Worlds.{IsOpeningWorld, WorldValue}
use Rattle.pl_core.proofs.Opening.{copy_is}
use Rattle.world_runs.specs.inside.Turns.{NobodyRefused}

-- nobody is refused at first
pub opening_plain : (plan : Plan) (w : WorldValue) → IsOpeningWorld plan w → NobodyRefused w
opening_plain plan w opening t place e =
    ap (λ p. p.refused)
    (copy_is (length plan.parents) t (record { events = 0; refused = false }) place (ap (λ ps. slice_get ps t) (sym opening.places) ∙ e))

-- nor by a step
pub step_keeps_plain : (old new : WorldValue) (t : ℕ) → IsWorldStep old new t → NobodyRefused old → NobodyRefused new
step_keeps_plain old new t step plain u place e =
    let there : slice_get (set old.places t (further step.places.place)) u ≡ Some place = ap (λ ps. slice_get ps u) (sym step.places.changed) ∙ e in
    elim (cases_eq u t) [
      | inl same ↦
          let own : slice_get (set old.places t (further step.places.place)) t ≡ Some place =
          subst (λ v. slice_get (set old.places t (further step.places.place)) v ≡ Some place) same there in
          let within = slice_get_within old.places t step.places.place step.places.there in
          let is : further step.places.place ≡ place = (let one = slice_get-set_same old.places t (further step.places.place) within in cc) in
          ap (λ p. p.refused) (sym is) ∙ plain t step.places.place step.places.there
      | inr other ↦ plain u place (sym (slice_get-set_other old.places t u (further step.places.place) other) ∙ there)
    ]
