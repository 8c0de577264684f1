-- Tasks of which the same is said, with one more.
use Rattle.std.proofs.Common.{◌≡◌, ℕ, zero, suc, ◌<◌, Bool, true, false, Some, List, [], ◌∷◌, ◌++◌, length, arith, ◌∙◌, ap, subst, refl, inl, inr, set}
use Rattle.std.specs.Prelude.{Contains, filter, if◌then◌else◌, map, slice_get}
use Rattle.std.proofs.lemmas.Bool.{cases_Bool}
use Rattle.std.proofs.lemmas.List.{append-nil, map-append}
use Rattle.std.proofs.lemmas.List.Elements.{filter-append}
use Rattle.armus_base.specs.declared.ids.TaskId.{TaskId}
use Rattle.armus_base.proofs.Elements.{Contains-head, Contains-tail}
use Rattle.explain_tasks.specs.Sayings.{Said, same_said}
use Rattle.explain_tasks.specs.calls.Grouped.{Told, members_of}
use Rattle.explain_tasks.proofs.EachOnce as each
use Rattle.explain_tasks.proofs.SameSaid.{same_said_is, same_said_itself}

-- an element at a place of a list stands there, after a function too
pub at_map : {A B : Type 0} (f : A → B) (xs : List A) (k : ℕ) (x : A) → slice_get xs k ≡ Some x → slice_get (map f xs) k ≡ Some (f x)
at_map f [] k x e = absurd (cc)
at_map f (y ∷ ys) zero x e = let same : y ≡ x = cc in ap (λ z. Some (f z)) same
at_map f (y ∷ ys) (suc k) x e = at_map f ys k x e

-- and within the list
pub at_inside : {A : Type 0} (xs : List A) (k : ℕ) (x : A) → slice_get xs k ≡ Some x → k < length xs
at_inside [] k x e = absurd (cc)
at_inside (y ∷ ys) zero x e = omega arith
at_inside (y ∷ ys) (suc k) x e = let l = at_inside ys k x e in omega arith

-- and is an element
pub at_contains : {A : Type 0} (xs : List A) (k : ℕ) (x : A) → slice_get xs k ≡ Some x → Contains xs x
at_contains [] k x e = absurd (cc)
at_contains (y ∷ ys) zero x e = let same : y ≡ x = cc in subst (λ z. Contains (y ∷ ys) z) same (Contains-head y ys)
at_contains (y ∷ ys) (suc k) x e = Contains-tail y ys x (at_contains ys k x e)

-- a filter that nothing passes
pub none_pass : {A : Type 0} (p : A → Bool) (xs : List A) → ((x : A) → Contains xs x → p x ≡ false) → filter p xs ≡ []
none_pass p [] none = refl
none_pass p (x ∷ xs) none =
    ap (λ b. if b then x ∷ filter p xs else filter p xs) (none x (Contains-head x xs)) ∙ none_pass p xs (λ y m. none y (Contains-tail x xs y m))

-- one more task is a member just where this is said
member_more : (put : List Told) (s : Said) (t : TaskId) (k : Said) (b : Bool) → same_said k s ≡ b
    → members_of (put ++ record { said = s; task = t } ∷ []) k ≡ members_of put k ++ (if b then t ∷ [] else [])
member_more put s t k b e =
    let test : Told → Bool = λ (p : Told). same_said k p.said in
    let one : Told = record { said = s; task = t } in
    let last : filter test (one ∷ []) ≡ (if b then one ∷ [] else []) = ap (λ c. if c then one ∷ [] else []) e in
    ap (λ xs. map (λ (p : Told). p.task) xs) (filter-append test put (one ∷ []) ∙ ap (λ xs. filter test put ++ xs) last)
    ∙ map-append (λ (p : Told). p.task) (filter test put) (if b then one ∷ [] else [])
    ∙ ap (λ xs. map (λ (p : Told). p.task) (filter test put) ++ xs) (only b)
  where
    only : (c : Bool) → map (λ (p : Told). p.task) (if c then record { said = s; task = t } ∷ [] else []) ≡ (if c then t ∷ [] else [])
    only true = refl
    only false = refl

-- a task that is put with one of the things that were said, each once
pub set_members : (put : List Told) (s : Said) (t : TaskId) (ks : List Said) (at : ℕ) → each.AreOnce same_said same_said_is same_said_itself ks → slice_get ks at ≡ Some s
    → map (members_of (put ++ record { said = s; task = t } ∷ [])) ks ≡ set (map (members_of put) ks) at (members_of put s ++ t ∷ [])
set_members put s t [] at once e = absurd (cc)
set_members put s t (k ∷ ks) zero once e =
    let here : k ≡ s = cc in
    let own : members_of (put ++ record { said = s; task = t } ∷ []) k ≡ members_of put s ++ t ∷ [] =
    member_more put s t k true (subst (λ z. same_said k z ≡ true) here (same_said_itself k)) ∙ ap (λ z. members_of put z ++ t ∷ []) here in
    ap (λ x. x ∷ map (members_of (put ++ record { said = s; task = t } ∷ [])) ks) own
    ∙ ap (λ xs. (members_of put s ++ t ∷ []) ∷ xs) (others ks (λ z m. subst (λ y. same_said y z ≡ false) here (once.0 z m)))
  where
    others : (zs : List Said) → ((z : Said) → Contains zs z → same_said s z ≡ false) → map (members_of (put ++ record { said = s; task = t } ∷ [])) zs ≡ map (members_of put) zs
    others [] off = refl
    others (z ∷ zs) off =
        let out : same_said z s ≡ false = turned z s (off z (Contains-head z zs)) in
        ap (λ x. x ∷ map (members_of (put ++ record { said = s; task = t } ∷ [])) zs) (member_more put s t z false out ∙ append-nil (members_of put z))
        ∙ ap (λ xs. members_of put z ∷ xs) (others zs (λ y m. off y (Contains-tail z zs y m)))
      where
        turned : (a b : Said) → same_said b a ≡ false → same_said a b ≡ false
        turned a b off' = elim (cases_Bool (same_said a b)) [ inl on ↦ (let e' = same_said_is a b on in let r = subst (λ y. same_said y a ≡ true) e' (same_said_itself a) in absurd (cc)) | inr out ↦ out ]
set_members put s t (k ∷ ks) (suc at) once e =
    ap (λ x. x ∷ map (members_of (put ++ record { said = s; task = t } ∷ [])) ks)
    (member_more put s t k false (once.0 s (at_contains ks at s e)) ∙ append-nil (members_of put k))
    ∙ ap (λ xs. members_of put k ∷ xs) (set_members put s t ks at once.1 e)
