-- What is told of the steps of a task.
use Rattle.std.proofs.Common.{◌≡◌, ◌≢◌, ◌∙◌, ℕ, List, [], ◌∷◌, ◌++◌, Option, Some, None, append-nil, refl, subst, sym}
use Rattle.armus_base.specs.Plans.{Action, Advances, Aim, Blocks, Drops, Forks, Makes, Passes, Plan, Refuses, Registers, action_at}
use Rattle.armus_base.specs.Runs.{IsByCode, Place}
use Rattle.armus_base.specs.States.{Step}
use Rattle.pl_core.specs.calls.Moves.{LeadsOn, drops_from}
use Rattle.pl_syntax.specs.declared.tree.Program.{Program}
use Rattle.explain_facts.specs.Accounts.{Layout}
use Rattle.explain_avoid.specs.Refusals.{AreRefusals, IsRefusalText, IsTold}

-- who is refused stood before its await
pub refuses_next :
    (plan : Plan) (a : ℕ → Place) (t : ℕ) (aim : Aim) (drops : List ℕ) (b : ℕ → Place) →
    LeadsOn plan a (drops_from t drops ++ record { task = t; action = Refuses aim } ∷ []) b → action_at plan t (a t).done ≡ Some (Blocks aim)
refuses_next plan a t aim [] b leads =
    subst (λ (c : ℕ → Place). action_at plan t (c t).done ≡ Some (Blocks aim)) (sym leads.1) (by_place (leads.0 t).done (leads.0 t).dropped leads.2)
  where
    by_place : (k : ℕ) (o : Option ℕ) → IsByCode plan t k o (Refuses aim) → action_at plan t k ≡ Some (Blocks aim)
    by_place k None code = code
    by_place k (Some q) code = absurd code
refuses_next plan a t aim (d ∷ drops) b leads = refuses_next plan a t aim drops leads.0 leads.1

module _ (file : Option (List ℕ)) (l : Layout) (p : Program) (plan : Plan) where
  -- of an action that refuses nothing, nothing is told
  pub nothing_told : (h : List Step) (t : ℕ) (x : Action) → ((aim : Aim) → x ≢ Refuses aim) → IsTold file l p plan h t x []
  nothing_told h t (Refuses aim) none = absurd (none aim refl)
  nothing_told h t (Makes q) none = refl
  nothing_told h t (Registers c q) none = refl
  nothing_told h t (Forks c) none = refl
  nothing_told h t (Advances q) none = refl
  nothing_told h t (Drops q) none = refl
  nothing_told h t (Blocks aim) none = refl
  nothing_told h t (Passes q) none = refl

  -- one step more
  pub step_told :
      (h : List Step) (t : ℕ) (x : Action) (old new : List ℕ) → ((aim : Aim) → x ≢ Refuses aim) → new ≡ old → AreRefusals file l p plan h old →
      AreRefusals file l p plan (record { task = t; action = x } ∷ h) new
  step_told h t x old new none same told = (old, [], told, nothing_told h t x none, same ∙ sym (append-nil old))

  -- a refusal, and the drops behind it
  pub refusal_told :
      (h : List Step) (t : ℕ) (aim : Aim) (drops old own : List ℕ) → IsRefusalText file l p plan h t aim own → AreRefusals file l p plan h old →
      AreRefusals file l p plan ((drops_from t drops ++ record { task = t; action = Refuses aim } ∷ []) ++ h) (old ++ own)
  refusal_told h t aim [] old own is told = (old, own, told, is, refl)
  refusal_told h t aim (d ∷ drops) old own is told =
      (old ++ own, [], refusal_told h t aim drops old own is told, refl, sym (append-nil (old ++ own)))
