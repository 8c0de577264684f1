-- A closed set of one relation gives one of another, along a correspondence.
use Rattle.std.proofs.Common.{◌≡◌, subst}
use Rattle.std.specs.Prelude.{Contains}
use Rattle.armus_base.specs.calls.Relations.{IsInClosedSet}
use Rattle.dep_state.proofs.DeadSets.{Image, image}

-- Q gives each x at most one y, and one where x has a successor; it takes each step of R to a step of S
pub transfer :
    {X Y : Type 0} (R : X → X → Type 0) (S : Y → Y → Type 0) (Q : X → Y → Type 0) →
    ((x : X) (y z : Y) → Q x y → Q x z → y ≡ z) →
    ((x x' : X) → R x x' → (y : Y) × Q x y) →
    ((x x' : X) (y y' : Y) → R x x' → Q x y → Q x' y' → S y y') →
    (x : X) (y : Y) → Q x y → IsInClosedSet R x → IsInClosedSet S y
transfer {X} {Y} R S Q one some step x y q (set, here, keeps) =
    let im : Image Q set = image Q set (λ a m. let (b, r, k) = keeps a m in some a b r) in
    let start : Contains im.list y = let (z, i, p) = im.has x here in subst (λ w. Contains im.list w) (one x z y p q) i in (
      im.list,
      start,
      λ z m.
          let (a, i, p) = im.from z m in
          let (b, r, k) = keeps a i in
          let (w, j, o) = im.has b k in
          (w, step a b z w r p o, j),
    )
