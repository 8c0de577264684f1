-- A run refuses each task once at most, and just those that are refused behind it.
use Rattle.std.proofs.Common.{◌≡◌, ◌∙◌, ℕ, List, [], ◌∷◌, ◌++◌, Option, Some, None, ap, append-nil, inl, inr, refl, subst, sym}
use Rattle.std.specs.Prelude.{◌↔◌, Contains, IsSome, is_some, option_map}
use Rattle.std.proofs.lemmas.Bool.{cases_eq, false≢true}
use Rattle.std.proofs.lemmas.List.Elements.{Contains-append_left, Contains-push, Contains-push_cases}
use Rattle.armus_base.specs.declared.event.Event.{Event}
use Rattle.armus_base.specs.declared.ids.TaskId.{TaskId}
use Rattle.armus_base.specs.Counts.{IsDistinct}
use Rattle.armus_base.specs.Offsets.{target}
use Rattle.armus_base.specs.Plans.{Action, Advances, Aim, Blocks, Drops, Forks, Makes, Passes, Plan, Refuses, Registers}
use Rattle.armus_base.specs.Runs.{IsLegalRun, state_after}
use Rattle.armus_base.specs.States.{IsLegal, IsMember, State, Step, after, awaited, event_on, updated}
use Rattle.armus_base.proofs.Counts.{IsDistinct-push}
use Rattle.armus_base.proofs.Elements.{nothing_in_nil}
use Rattle.armus_base.proofs.Steps.{updated_other, updated_same}
use Rattle.explain_avoid.specs.calls.Laws.{EachIsRefusedOnce, refused_in, refused_in_step}

-- each task is refused once at most, and just those that are refused in the state
record AreRefusedOnce (h : List Step) : Type 0 where
  once : IsDistinct (refused_in h)
  exact : (u : TaskId) → Contains (refused_in h) u ↔ IsSome ((state_after h).refused u.0)

-- a step that refuses nobody
no_refusal_more : (h : List Step) (t : ℕ) (x : Action) → refused_in_step t x ≡ [] → (after (state_after h) t x).refused ≡ (state_after h).refused → AreRefusedOnce h
    → AreRefusedOnce (record { task = t; action = x } ∷ h)
no_refusal_more h t x none same so =
    let list : refused_in h ++ refused_in_step t x ≡ refused_in h = ap (λ (us : List TaskId). refused_in h ++ us) none ∙ append-nil (refused_in h) in
    record {
      once = subst (λ (us : List TaskId). IsDistinct us) (sym list) so.once;
      exact = λ u. (
        λ m. subst (λ (r : ℕ → Option Event). IsSome (r u.0)) (sym same) ((so.exact u).0 (subst (λ (us : List TaskId). Contains us u) list m)),
        λ some. subst (λ (us : List TaskId). Contains us u) (sym list) ((so.exact u).1 (subst (λ (r : ℕ → Option Event). IsSome (r u.0)) same some)),
      );
    }

-- a refusal is of an event
refused_of_event : (s : State) (t : ℕ) (aim : Aim) → IsMember s t aim.phaser → IsSome (awaited (Some (Blocks aim)) (s.phases t))
refused_of_event s t aim (n, is) = ap (λ (o : Option ℕ). is_some (event_on aim.phaser (option_map (target aim.off) o))) is

-- a refusal
module _ (h : List Step) (t : ℕ) (aim : Aim) (unrefused : (state_after h).refused t ≡ None) (member : IsMember (state_after h) t aim.phaser) (so : AreRefusedOnce h) where
  abbrev s : State
  s = state_after h

  abbrev task : TaskId
  task = record { 0 = t }

  abbrev event : Option Event
  event = awaited (Some (Blocks aim)) (s.phases t)

  is_new : Contains (refused_in h) task → ⊥
  is_new m = false≢true (sym (ap (λ (o : Option Event). is_some o) unrefused) ∙ (so.exact task).0 m)

  own_some : (u : ℕ) → u ≡ t → IsSome (updated s.refused t event u)
  own_some u same = subst (λ (o : Option Event). IsSome o) (sym (updated_same s.refused t u event same)) (refused_of_event s t aim member)

  still_some : (u : ℕ) → IsSome (s.refused u) → IsSome (updated s.refused t event u)
  still_some u some =
      elim (cases_eq u t) [
        | inl same ↦ own_some u same
        | inr other ↦ subst (λ (o : Option Event). IsSome o) (sym (updated_other s.refused t u event other)) some
      ]

  refusal_more : AreRefusedOnce (record { task = t; action = Refuses aim } ∷ h)
  refusal_more = record {
    once = IsDistinct-push (refused_in h) task so.once is_new;
    exact = λ u. (
      λ m. elim (Contains-push_cases (refused_in h) task u m) [
        | inl before ↦ still_some u.0 ((so.exact u).0 before)
        | inr same ↦ own_some u.0 (ap (λ (v : TaskId). v.0) (sym same))
      ],
      λ some. elim (cases_eq u.0 t) [
        | inl same ↦
            let named : task ≡ u = (let number : ℕ → TaskId = λ k. record { 0 = k } in ap number (sym same)) in
            subst (λ (v : TaskId). Contains (refused_in h ++ task ∷ []) v) named (Contains-push (refused_in h) task)
        | inr other ↦
            Contains-append_left (refused_in h) (task ∷ []) u
            ((so.exact u).1 (subst (λ (o : Option Event). IsSome o) (updated_other s.refused t u.0 event other) some))
      ],
    );
  }

-- one step more
one_more : (plan : Plan) (h : List Step) (t : ℕ) (x : Action) → IsLegal plan (state_after h) t x → AreRefusedOnce h → AreRefusedOnce (record { task = t; action = x } ∷ h)
one_more plan h t (Refuses aim) legal so = refusal_more h t aim legal.0.unrefused legal.1 so
one_more plan h t (Makes q) legal so = no_refusal_more h t (Makes q) refl refl so
one_more plan h t (Registers c q) legal so = no_refusal_more h t (Registers c q) refl refl so
one_more plan h t (Forks c) legal so = no_refusal_more h t (Forks c) refl refl so
one_more plan h t (Advances q) legal so = no_refusal_more h t (Advances q) refl refl so
one_more plan h t (Drops q) legal so = no_refusal_more h t (Drops q) refl refl so
one_more plan h t (Blocks aim) legal so = no_refusal_more h t (Blocks aim) refl refl so
one_more plan h t (Passes q) legal so = no_refusal_more h t (Passes q) refl refl so

all_steps : (plan : Plan) (h : List Step) → IsLegalRun plan h → AreRefusedOnce h
all_steps plan [] run = record { once = tt; exact = λ u. (λ m. absurd (nothing_in_nil u m), λ some. absurd (false≢true some)) }
all_steps plan (e ∷ h) run = one_more plan h e.task e.action run.1.legal (all_steps plan h run.0)

pub each_is_refused_once : EachIsRefusedOnce
each_is_refused_once plan steps run = let so = all_steps plan steps run in (so.once, so.exact)
