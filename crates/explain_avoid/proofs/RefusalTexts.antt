-- The paragraphs of the refusals of a run are one for each task that it refuses.
use Rattle.std.proofs.Common.{◌≡◌, ◌∙◌, ℕ, List, [], ◌∷◌, ◌++◌, Option, ap, append-nil, refl, subst, sym}
use Rattle.std.specs.Prelude.{flat_map}
use Rattle.std.specs.List.{AllZip}
use Rattle.std.proofs.lemmas.Grind.{flat_map-append}
use Rattle.armus_base.specs.declared.ids.TaskId.{TaskId}
use Rattle.armus_base.specs.Plans.{Action, Advances, Aim, Blocks, Drops, Forks, Makes, Passes, Plan, Refuses, Registers}
use Rattle.armus_base.specs.States.{Step}
use Rattle.pl_syntax.specs.declared.tree.Program.{Program}
use Rattle.explain_facts.specs.Accounts.{Layout}
use Rattle.explain_avoid.specs.Refusals.{AreRefusals, IsRefusalText, IsTold}
use Rattle.explain_avoid.specs.calls.Laws.{HasParagraphFor, IsRefusalIn, refused_in, refused_in_step}

module _ {A B : Type 0} where
  -- one pair more
  zip_push : (R : A → B → Type 0) (xs : List A) (ys : List B) (x : A) (y : B) → AllZip R xs ys → R x y → AllZip R (xs ++ x ∷ []) (ys ++ y ∷ [])
  zip_push R [] [] x y all one = (one, tt)
  zip_push R [] (b ∷ ys) x y all one = absurd all
  zip_push R (a ∷ xs) [] x y all one = absurd all
  zip_push R (a ∷ xs) (b ∷ ys) x y all one = (all.0, zip_push R xs ys x y all.1 one)

  zip_weaker : (R S : A → B → Type 0) → ((a : A) (b : B) → R a b → S a b) → (xs : List A) (ys : List B) → AllZip R xs ys → AllZip S xs ys
  zip_weaker R S to [] [] all = tt
  zip_weaker R S to [] (b ∷ ys) all = absurd all
  zip_weaker R S to (a ∷ xs) [] all = absurd all
  zip_weaker R S to (a ∷ xs) (b ∷ ys) all = (to a b all.0, zip_weaker R S to xs ys all.1)

module _ (file : Option (List ℕ)) (l : Layout) (p : Program) (plan : Plan) where
  abbrev HasAll : List Step → List ℕ → Type 0
  HasAll h text = HasParagraphFor (IsRefusalIn file l p plan h) (refused_in h) text

  -- a refusal among some steps is one among more
  later_too : (e : Step) (h : List Step) (t : TaskId) (text : List ℕ) → IsRefusalIn file l p plan h t text → IsRefusalIn file l p plan (e ∷ h) t text
  later_too e h t text (later, before, aim, is, told) = (e ∷ later, before, aim, ap (λ (g : List Step). e ∷ g) is, told)

  -- a step that refuses nobody
  nothing_more : (h : List Step) (t : ℕ) (x : Action) (before own text : List ℕ) → HasAll h before → refused_in_step t x ≡ [] → own ≡ [] → text ≡ before ++ own
      → HasAll (record { task = t; action = x } ∷ h) text
  nothing_more h t x before own text so none empty all =
      let e : Step = record { task = t; action = x } in
      let list : refused_in h ++ refused_in_step t x ≡ refused_in h = ap (λ (us : List TaskId). refused_in h ++ us) none ∙ append-nil (refused_in h) in
      record {
        texts = so.texts;
        each = subst (λ (us : List TaskId). AllZip (IsRefusalIn file l p plan (e ∷ h)) us so.texts) (sym list)
            (zip_weaker (IsRefusalIn file l p plan h) (IsRefusalIn file l p plan (e ∷ h)) (later_too e h) (refused_in h) so.texts so.each);
        text_is = all ∙ ap (λ (o : List ℕ). before ++ o) empty ∙ append-nil before ∙ so.text_is;
      }

  -- a refusal
  refusal_more : (h : List Step) (t : ℕ) (aim : Aim) (before own text : List ℕ) → HasAll h before → IsRefusalText file l p plan h t aim own → text ≡ before ++ own
      → HasAll (record { task = t; action = Refuses aim } ∷ h) text
  refusal_more h t aim before own text so told all =
      let e : Step = record { task = t; action = Refuses aim } in
      let itself : List ℕ → List ℕ = λ x. x in
      record {
        texts = so.texts ++ own ∷ [];
        each = zip_push (IsRefusalIn file l p plan (e ∷ h)) (refused_in h) so.texts (record { 0 = t }) own
            (zip_weaker (IsRefusalIn file l p plan h) (IsRefusalIn file l p plan (e ∷ h)) (later_too e h) (refused_in h) so.texts so.each)
            ([], h, aim, refl, told);
        text_is =
            all
            ∙ ap (λ (b : List ℕ). b ++ own) so.text_is
            ∙ ap (λ (o : List ℕ). flat_map itself so.texts ++ o) (sym (append-nil own))
            ∙ sym (flat_map-append itself so.texts (own ∷ []));
      }

  one_more : (h : List Step) (t : ℕ) (x : Action) (before own text : List ℕ) → HasAll h before → IsTold file l p plan h t x own → text ≡ before ++ own
      → HasAll (record { task = t; action = x } ∷ h) text
  one_more h t (Refuses aim) before own text so told all = refusal_more h t aim before own text so told all
  one_more h t (Makes q) before own text so told all = nothing_more h t (Makes q) before own text so refl told all
  one_more h t (Registers c q) before own text so told all = nothing_more h t (Registers c q) before own text so refl told all
  one_more h t (Forks c) before own text so told all = nothing_more h t (Forks c) before own text so refl told all
  one_more h t (Advances q) before own text so told all = nothing_more h t (Advances q) before own text so refl told all
  one_more h t (Drops q) before own text so told all = nothing_more h t (Drops q) before own text so refl told all
  one_more h t (Blocks aim) before own text so told all = nothing_more h t (Blocks aim) before own text so refl told all
  one_more h t (Passes q) before own text so told all = nothing_more h t (Passes q) before own text so refl told all

  pub paragraph_for_each : (h : List Step) (text : List ℕ) → AreRefusals file l p plan h text → HasAll h text
  paragraph_for_each [] text are = record { texts = []; each = tt; text_is = are }
  paragraph_for_each (e ∷ h) text (before, own, are, told, all) = one_more h e.task e.action before own text (paragraph_for_each h before are) told all
