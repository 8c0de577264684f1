-- What is written of the groups is the paragraphs, or the lines of the impeders.
use Rattle.std.proofs.Common.{◌≡◌, ℕ, zero, suc, ◌+◌, ◌<◌, Bool, true, false, List, [], ◌∷◌, ◌++◌, length, get_or, take, arith, sym, ◌∙◌, ap, refl, flat_map, Vec, Global, cond}
use Rattle.std.specs.Prelude.{filter, if◌then◌else◌, map, not, ◌||◌}
use Rattle.std.specs.List.{list_any}
use Rattle.std.proofs.lemmas.List.{length-map, map-append, take_more}
use Rattle.std.proofs.lemmas.List.Elements.{filter_more}
use Rattle.armus_base.specs.declared.ids.TaskId.{TaskId}
use Rattle.armus_base.specs.States.{Phases}
use Rattle.explain_tasks.specs.declared.grouping.Grouping.{Grouping}
use Rattle.explain_tasks.specs.declared.impeders.Impeder.{Impeder}
use Rattle.explain_tasks.specs.Facts.{FactsValue}
use Rattle.explain_tasks.specs.Groups.{each_once}
use Rattle.explain_deadlock.specs.ImpederLines.{group_of, rest_of}
use Rattle.explain_deadlock.specs.Paragraphs.{explained_tasks, paragraph, paragraphs, sayings_of, tasks_of}
use Rattle.explain_tasks.specs.Sayings.{Said, impeder_said, same_said}
use Rattle.explain_tasks.specs.calls.Grouped.{IsGrouped, IsSized, Told, members_of}
use Rattle.explain_deadlock.specs.inside.Grouped.{AreParagraphs, own_told}
use Rattle.explain_deadlock.specs.inside.GroupTexts.{paragraph_text, texts_in}
use Rattle.explain_tasks.specs.calls.SayingValues.{said_by}
use Rattle.explain_deadlock.proofs.GroupTexts.{map_same, texts_are}
use Rattle.explain_deadlock.proofs.MembersAre.{members_by, own_tasks}

-- there is a group for each thing that was said
pub sized_of : (order : List Said) (put : List Told) (g : Grouping) → IsGrouped order put g → IsSized g
sized_of order put g is =
    let a : length (map (λ (v : Vec TaskId Global). v.items) g.groups.items) ≡ length g.groups.items = length-map g.groups.items (λ (v : Vec TaskId Global). v.items) in
    let b : length (map said_by g.sayings.keys) ≡ length g.sayings.keys = length-map g.sayings.keys said_by in
    let d : length (map (members_of put) (each_once same_said order)) ≡ length (each_once same_said order) = length-map (each_once same_said order) (members_of put) in
    let e = ap length is.groups in
    let o = ap length is.once in
    omega arith

-- the paragraphs
pub paragraphs_are : (f : FactsValue) (phases : ℕ → Phases) (shown : List TaskId) (g : Grouping) → AreParagraphs f shown g
    → texts_in (paragraph_text f phases) g.sayings.keys g.groups.items ≡ paragraphs f phases shown
paragraphs_are f phases shown g is =
    let all = explained_tasks f in
    let members : map (members_of (map (own_told f) all)) (sayings_of f shown) ≡ map (tasks_of f) (sayings_of f shown) =
    map_same (members_of (map (own_told f) all)) (tasks_of f) (λ said. members_by (own_told f) said all ∙ own_tasks (tasks_of f said)) (sayings_of f shown) in
    let groups : map (λ (v : Vec TaskId Global). v.items) g.groups.items ≡ map (tasks_of f) (map said_by g.sayings.keys) =
    is.groups ∙ members ∙ ap (λ ks. map (tasks_of f) ks) (sym is.once) in
    texts_are (paragraph_text f phases) (tasks_of f) g.sayings.keys g.groups.items groups
    ∙ ap (λ ks. flat_map (paragraph f phases) ks) is.once

-- the rest with one more impeder
pub rest_more : (f : FactsValue) (impeders : List Impeder) (told : List Said) (i : ℕ) (d : Impeder) → i < length impeders
    → rest_of f (take i impeders) told ++ (if not (list_any (λ said. same_said said (impeder_said f (get_or impeders i d))) told) then (get_or impeders i d).t ∷ [] else [])
    ≡ rest_of f (take (i + 1) impeders) told
rest_more f impeders told i d lt =
    let p : Impeder → Bool = λ (x : Impeder). not (list_any (λ said. same_said said (impeder_said f x)) told) in
    let x = get_or impeders i d in
    sym
    (ap (λ xs. map (λ (y : Impeder). y.t) xs) (filter_more p impeders i d lt)
    ∙ map-append (λ (y : Impeder). y.t) (filter p (take i impeders)) (cond (p x) (x ∷ []) [])
    ∙ ap (λ xs. map (λ (y : Impeder). y.t) (filter p (take i impeders)) ++ xs) (only x (p x)))
  where
    only : (x : Impeder) (b : Bool) → map (λ (y : Impeder). y.t) (cond b (x ∷ []) []) ≡ (if b then x.t ∷ [] else [])
    only x true = refl
    only x false = refl

-- a group with one more impeder
pub group_more : (f : FactsValue) (impeders : List Impeder) (said : Said) (i : ℕ) (d : Impeder) → i < length impeders
    → group_of f (take i impeders) said ++ (if not (not (same_said said (impeder_said f (get_or impeders i d)))) then (get_or impeders i d).t ∷ [] else [])
    ≡ group_of f (take (i + 1) impeders) said
group_more f impeders said i d lt =
    let p : Impeder → Bool = λ (x : Impeder). same_said said (impeder_said f x) in
    let x = get_or impeders i d in
    sym
    (ap (λ xs. map (λ (y : Impeder). y.t) xs) (filter_more p impeders i d lt)
    ∙ map-append (λ (y : Impeder). y.t) (filter p (take i impeders)) (cond (p x) (x ∷ []) [])
    ∙ ap (λ xs. map (λ (y : Impeder). y.t) (filter p (take i impeders)) ++ xs) (only x (p x)))
  where
    only : (x : Impeder) (b : Bool) → map (λ (y : Impeder). y.t) (cond b (x ∷ []) []) ≡ (if not (not b) then x.t ∷ [] else [])
    only x true = refl
    only x false = refl

-- what passes at a place is found
pub any_at : {A : Type 0} (q : Said → Bool) (say : A → Said) (xs : List A) (k : ℕ) (d : A) → k < length xs → q (say (get_or xs k d)) ≡ true → list_any q (map say xs) ≡ true
any_at q say [] k d lt e = absurd (omega arith)
any_at q say (x ∷ xs) zero d lt e = either (q (say x)) (list_any q (map say xs)) e
  where
    either : (a b : Bool) → a ≡ true → (a || b) ≡ true
    either true b e' = refl
    either false b e' = absurd (cc)
any_at q say (x ∷ xs) (suc k) d lt e = either (q (say x)) (list_any q (map say xs)) (any_at q say xs k d (omega arith) e)
  where
    either : (a b : Bool) → b ≡ true → (a || b) ≡ true
    either true b e' = refl
    either false b e' = e'

-- where one more does not pass, none does
pub none_more : {A : Type 0} (q : Said → Bool) (say : A → Said) (xs : List A) (k : ℕ) (d : A) → k < length xs → list_any q (map say (take k xs)) ≡ false
    → q (say (get_or xs k d)) ≡ false → list_any q (map say (take (k + 1) xs)) ≡ false
none_more q say xs k d lt none here =
    ap (λ ys. list_any q (map say ys)) (take_more xs k d lt) ∙ ap (list_any q) (map-append say (take k xs) (get_or xs k d ∷ []))
    ∙ push (map say (take k xs)) (say (get_or xs k d)) none here
  where
    push : (ys : List Said) (y : Said) → list_any q ys ≡ false → q y ≡ false → list_any q (ys ++ y ∷ []) ≡ false
    push [] y n h = ap (λ b. b || false) h
    push (z ∷ zs) y n h = step (q z) (push zs y) n
      where
        step : (b : Bool) → (list_any q zs ≡ false → q y ≡ false → list_any q (zs ++ y ∷ []) ≡ false) → (b || list_any q zs) ≡ false → (b || list_any q (zs ++ y ∷ [])) ≡ false
        step true rest n' = absurd (cc)
        step false rest n' = rest n' h
