-- Nobody is refused at lawful places of a board that detects deadlock.
use Rattle.std.proofs.Common.{◌≡◌, ◌∙◌, ℕ, Bool, true, false, List, Option, Some, None, ap, refl, sym}
use Rattle.std.specs.Prelude.{slice_get}
use Rattle.armus_base.specs.calls.Boards.{IsLawful, steps_of}
use Rattle.armus_base.specs.Plans.{Plan}
use Rattle.armus_base.specs.Runs.{Place}
use Rattle.armus_base.proofs.Members.{plain_undropped}
use Rattle.pl_core.specs.declared.place.Place.{Place as KeptPlace}
use Rattle.pl_core.specs.calls.Worlds.{dropped_at, place_from, places_at}

unrefused : (plan : Plan) (t k : ℕ) (refused : Bool) → dropped_at plan t k refused ≡ None → refused ≡ false
unrefused plan t k false none = refl
unrefused plan t k true none = absurd (cc)

pub unrefused_places :
    (plan : Plan) (places : List KeptPlace) (lock : Option ℕ) → IsLawful false plan (places_at plan places) lock → (t : ℕ) (place : KeptPlace) →
    slice_get places t ≡ Some place → place.refused ≡ false
unfolding places_at
unrefused_places plan places lock lawful t place is =
    let undropped : (places_at plan places t).dropped ≡ None =
    ap (λ (b : Place). b.dropped) (sym (lawful.there t)) ∙ plain_undropped plan (steps_of lawful.entries) lawful.run.0 t in
    unrefused plan t place.events place.refused (ap (λ (o : Option KeptPlace). (place_from plan t o).dropped) (sym is) ∙ undropped)
