use Rattle.std.proofs.Common.{◌≡◌, ◌∙◌, List, [], ◌∷◌, ℕ, ap, map, refl}
use Rattle.std.specs.Borrow.{Bor}
use Rattle.std.proofs.lemmas.List.{take_all}
use Rattle.explain_facts.specs.inside.Spelled.{name_by_shared, spellings}
use Rattle.explain_facts.proofs.names.all_named.Goals as goal

by_spelling : {A : Type 0} (f : List ℕ → A) (names : List (Bor (List ℕ))) → map (λ (x : Bor (List ℕ)). f x.now) names ≡ map f (spellings names)
by_spelling f [] = refl
by_spelling f (x ∷ names) = ap (λ ys. f x.now ∷ ys) (by_spelling f names)

pub returns : goal.returns
returns c =
    let f = name_by_shared (spellings c.args.shared.now.keys) in
    c.from_vec.ensures.items ∙ c.loop-name.invariant
    ∙ ap (map (λ (x : Bor (List ℕ)). f x.now)) (take_all c.loop-name.name-index c.args.names.now c.loop-name-test.false)
    ∙ by_spelling f c.args.names.now
