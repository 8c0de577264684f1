-- The last note of a deed, and the last stage that did it, when one more comes behind.
use Rattle.std.proofs.Common.{◌≡◌, ℕ, ◌+◌, ◌<◌, get_or, length, Bool, true, false, List, [], ◌∷◌, ◌++◌, Option, Some, None, sym, ◌∙◌, ap, subst, refl}
use Rattle.std.specs.Prelude.{if◌then◌else◌, take}
use Rattle.std.proofs.lemmas.List.{take_more}
use Rattle.pl_plan.specs.Unfolding.{UnfoldingState}
use Rattle.pl_plan.specs.Stages.{Stage, StagesLead, after_stage}
use Rattle.explain_check.specs.Deeds as deeds
use Rattle.explain_check.specs.Deeds.{last_that, name_given, or_else, stage_statement}
use Rattle.explain_check.specs.declared.notes.Deed.{Deed}
use Rattle.explain_check.specs.declared.notes.Note.{Note}
use Rattle.explain_check.specs.inside.Noted.{MarkTells, MeansDeed, NotesTell, last_noted, name_by, same_deed}

pub else_else : {A : Type 0} (a b c : Option A) → or_else a (or_else b c) ≡ or_else (or_else a b) c
else_else a b None = refl
else_else a b (Some x) = refl

pub noted_more : (d : Deed) (xs : List Note) (x : Note) → last_noted d (xs ++ x ∷ []) ≡ or_else (last_noted d xs) (if same_deed x.deed d then Some x else None)
noted_more d [] x = none_first (if same_deed x.deed d then Some x else None)
  where
    none_first : (o : Option Note) → or_else o None ≡ or_else None o
    none_first None = refl
    none_first (Some y) = refl
noted_more d (y ∷ xs) x =
    let first : Option Note = if same_deed y.deed d then Some y else None in
    ap (λ o. or_else first o) (noted_more d xs x) ∙ else_else first (last_noted d xs) (if same_deed x.deed d then Some x else None)

pub that_more :
    (two : Bool) (did : deeds.Deed) (before xs : List Stage) (first s : UnfoldingState) (v : Stage) → StagesLead two before xs first s →
    last_that did first (xs ++ v ∷ []) ≡ or_else (last_that did first xs) (if did s v then Some v else None)
that_more two did before [] first s v leads =
    ap (λ z. or_else (if did z v then Some v else None) None) leads ∙ none_first (if did s v then Some v else None)
  where
    none_first : (o : Option Stage) → or_else o None ≡ or_else None o
    none_first None = refl
    none_first (Some y) = refl
that_more two did before (x ∷ xs) first s v leads =
    let head : Option Stage = if did first x then Some x else None in
    ap (λ o. or_else head o) (that_more two did (before ++ x ∷ []) xs (after_stage x first) s v leads.2)
    ∙ else_else head (last_that did (after_stage x first) xs) (if did s v then Some v else None)

-- what is noted of a stage fits it
abbrev pub NotesFit : (ℕ → List ℕ) → UnfoldingState → Stage → List Note → Deed → deeds.Deed → Type 0
NotesFit names s v [] d did = did s v ≡ false
NotesFit names s v (n ∷ ns) d did =
    (ns ≡ []) × (did s v ≡ same_deed n.deed d) × (stage_statement (Some v) ≡ n.statement) × (name_given (Some v) ≡ name_by names n.name)

module _ (names : ℕ → List ℕ) where
  marks_else : (a b : Option Note) (x y : Option Stage) → MarkTells names a x → MarkTells names b y → MarkTells names (or_else a b) (or_else x y)
  marks_else a None x None p q = p
  marks_else a (Some n) x (Some v) p q = q
  marks_else a None x (Some v) p q = absurd q
  marks_else a (Some n) x None p q = absurd q

  mark_of : (b : Bool) (n : Note) (v : Stage) → stage_statement (Some v) ≡ n.statement → name_given (Some v) ≡ name_by names n.name →
      MarkTells names (if b then Some n else None) (if b then Some v else None)
  mark_of true n v p q = (p, q)
  mark_of false n v p q = tt

  pub tells_more :
      (two : Bool) (xs : List Stage) (first s : UnfoldingState) (v : Stage) (notes new : List Note) → StagesLead two [] xs first s → NotesTell names first xs notes →
      ((d : Deed) (did : deeds.Deed) → MeansDeed d did → NotesFit names s v new d did) → NotesTell names first (xs ++ v ∷ []) (notes ++ new)
  tells_more two xs first s v notes [] leads tells fits d did means =
      subst (λ z. MarkTells names (last_noted d z) (last_that did first (xs ++ v ∷ []))) (sym (nil_right notes))
      (subst (λ o. MarkTells names (last_noted d notes) o) (sym (that_more two did [] xs first s v leads))
      (subst (λ b. MarkTells names (last_noted d notes) (or_else (last_that did first xs) (if b then Some v else None))) (sym (fits d did means)) (tells d did means)))
    where
      nil_right : (ns : List Note) → ns ++ [] ≡ ns
      nil_right [] = refl
      nil_right (n ∷ ns) = ap (λ z. n ∷ z) (nil_right ns)
  tells_more two xs first s v notes (n ∷ ns) leads tells fits d did means =
      let f = fits d did means in
      subst (λ z. MarkTells names (last_noted d (notes ++ (n ∷ z))) (last_that did first (xs ++ v ∷ []))) (sym f.0)
      (subst (λ o. MarkTells names o (last_that did first (xs ++ v ∷ []))) (sym (noted_more d notes n))
      (subst (λ o. MarkTells names (or_else (last_noted d notes) (if same_deed n.deed d then Some n else None)) o) (sym (that_more two did [] xs first s v leads))
      (subst (λ b. MarkTells names (or_else (last_noted d notes) (if same_deed n.deed d then Some n else None)) (or_else (last_that did first xs) (if b then Some v else None)))
      (sym f.1)
      (marks_else (last_noted d notes) (if same_deed n.deed d then Some n else None) (last_that did first xs) (if same_deed n.deed d then Some v else None)
      (tells d did means) (mark_of (same_deed n.deed d) n v f.2 f.3)))))

pub last_more : (d : Deed) (xs : List Note) (i : ℕ) (z : Note) (b : Bool) (last new : Option Note) → i < length xs → last ≡ last_noted d (take i xs) →
    same_deed (get_or xs i z).deed d ≡ b → new ≡ or_else last (if b then Some (get_or xs i z) else None) → new ≡ last_noted d (take (i + 1) xs)
last_more d xs i z b last new l so test new_is =
    let x = get_or xs i z in
    new_is ∙ ap (λ o. or_else o (if b then Some x else None)) so ∙ ap (λ c. or_else (last_noted d (take i xs)) (if c then Some x else None)) (sym test)
    ∙ sym (noted_more d (take i xs) x) ∙ ap (λ ys. last_noted d ys) (sym (take_more xs i z l))
