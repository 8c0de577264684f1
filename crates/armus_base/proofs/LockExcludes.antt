-- Between two takings of the lock whoever took it first frees it.
use Rattle.std.proofs.Common.{◌≡◌, ℕ, Some, List, [], ◌∷◌, ◌++◌, subst, refl, ◌⊎◌, inl, inr}
use Rattle.std.specs.Prelude.{Contains}
use Rattle.armus_base.specs.Plans.{Plan}
use Rattle.armus_base.specs.calls.Boards.{Does, Entry, Frees, IsLocked, Takes, holder}
use Rattle.armus_base.specs.calls.PlaceLaws.{TakersFree}
use Rattle.armus_base.proofs.Elements.{Contains-head, Contains-tail}

-- after a taking its task holds the lock, or it has freed it
held_or_freed :
    (plan : Plan) (t : ℕ) (between earlier : List Entry) → IsLocked plan (between ++ (Takes t ∷ earlier)) →
    (holder (between ++ (Takes t ∷ earlier)) ≡ Some t) ⊎ Contains between (Frees t)
held_or_freed plan t [] earlier locked = inl refl
held_or_freed plan t (Does e ∷ between) earlier locked =
    elim (held_or_freed plan t between earlier locked.0) [
      | inl held ↦ inl held
      | inr freed ↦ inr (Contains-tail (Does e) between (Frees t) freed)
    ]
held_or_freed plan t (Takes u ∷ between) earlier locked =
    elim (held_or_freed plan t between earlier locked.0) [
      | inl held ↦ absurd (let none = locked.1 in cc)
      | inr freed ↦ inr (Contains-tail (Takes u) between (Frees t) freed)
    ]
held_or_freed plan t (Frees u ∷ between) earlier locked =
    elim (held_or_freed plan t between earlier locked.0) [
      | inl held ↦
          let same : u ≡ t = (let of = locked.1 in cc) in
          inr (subst (λ v. Contains (Frees u ∷ between) (Frees v)) same (Contains-head (Frees u) between))
      | inr freed ↦ inr (Contains-tail (Frees u) between (Frees t) freed)
    ]

pub takers_free : TakersFree
takers_free plan t u between earlier run =
    elim (held_or_freed plan t between earlier run.1.0) [ inl held ↦ absurd (let none = run.1.1 in cc) | inr freed ↦ freed ]
