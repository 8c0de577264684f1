-- The table of least phases tells who is kept.
use Rattle.std.proofs.Common.{◌≡◌, ℕ, Bool, true, false, ◌&&◌, ◌||◌, not, ◌==◌, List, [], ◌∷◌, nat_eq, refl, sym, ◌∙◌, ap}
use Rattle.std.specs.HashSet.{contains}
use Rattle.std.specs.List.{list_any}
use Rattle.std.proofs.lemmas.Bool.{and_from, and_parts}
use Rattle.monitor_laws.specs.States.{Condition, Running, Waiting, Ended, AnyTask, OneOf, Participant, is_live_task}
use Rattle.monitor_laws.specs.Stuck.{has_phase_below}
use Rattle.monitor_laws.proofs.Filters.{any_from, any_is}
use Rattle.monitor_search.specs.inside.LeastPhases.{is_least_below, keeps_condition, least_of}
use Rattle.monitor_search.specs.inside.Partings.{is_kept_by, plays_one_of}
use Rattle.monitor_search.specs.declared.phases.Keepers.{Keepers}

-- two tests that pass together
same_tests : (a b : Bool) → (a ≡ true → b ≡ true) → (b ≡ true → a ≡ true) → a ≡ b
same_tests true true there back = refl
same_tests true false there back = sym (there refl)
same_tests false true there back = back refl
same_tests false false there back = refl

-- a number of somebody, and somebody with a number
any_exchanged : (tasks : List ℕ) (us : List Participant) → list_any (λ k. list_any (λ u. is_live_task u.condition && k == u.number) us) tasks ≡ list_any (plays_one_of tasks) us
any_exchanged tasks us =
    same_tests (list_any (λ k. list_any (λ u. is_live_task u.condition && k == u.number) us) tasks) (list_any (plays_one_of tasks) us)
    (λ on.
    let k = any_is (λ x. list_any (λ u. is_live_task u.condition && x == u.number) us) tasks on in
    let u = any_is (λ v. is_live_task v.condition && k.0 == v.number) us k.2 in
    let parts = and_parts (is_live_task u.0.condition) (k.0 == u.0.number) u.2 in
    any_from (plays_one_of tasks) us u.0 u.1
    (and_from (is_live_task u.0.condition) (list_any (λ x. x == u.0.number) tasks) parts.0 (any_from (λ x. x == u.0.number) tasks k.0 k.1 parts.1)))
    (λ on.
    let u = any_is (plays_one_of tasks) us on in
    let parts = and_parts (is_live_task u.0.condition) (list_any (λ x. x == u.0.number) tasks) u.2 in
    let k = any_is (λ x. x == u.0.number) tasks parts.1 in
    any_from (λ x. list_any (λ v. is_live_task v.condition && x == v.number) us) tasks k.0 k.1
    (any_from (λ v. is_live_task v.condition && k.0 == v.number) us u.0 u.1 (and_from (is_live_task u.0.condition) (k.0 == u.0.number) parts.0 k.2)))

any_agrees : (p q : ℕ → Bool) → ((k : ℕ) → p k ≡ q k) → (ks : List ℕ) → list_any p ks ≡ list_any q ks
any_agrees p q same [] = refl
any_agrees p q same (k ∷ ks) = ap (λ b. b || list_any p ks) (same k) ∙ ap (λ b. q k || b) (any_agrees p q same ks)

pub keeps_same :
    (keepers : Keepers) (inside outside : List Participant) →
    ((q : List ℕ) (n : ℕ) → is_least_below (least_of keepers.least q) n ≡ list_any (λ u. has_phase_below u q n) inside) →
    keepers.live_outside ≡ list_any (λ u. is_live_task u.condition) outside →
    ((k : ℕ) → contains nat_eq keepers.numbers k ≡ list_any (λ u. is_live_task u.condition && k == u.number) outside) →
    (c : Condition) → keeps_condition keepers c ≡ is_kept_by inside outside c
keeps_same keepers inside outside below live numbers Running = refl
keeps_same keepers inside outside below live numbers (Waiting p n) = below p n
keeps_same keepers inside outside below live numbers Ended = refl
keeps_same keepers inside outside below live numbers AnyTask = ap not live
keeps_same keepers inside outside below live numbers (OneOf names tasks) =
    ap not (any_agrees (contains nat_eq keepers.numbers) (λ k. list_any (λ u. is_live_task u.condition && k == u.number) outside) numbers tasks ∙ any_exchanged tasks outside)
