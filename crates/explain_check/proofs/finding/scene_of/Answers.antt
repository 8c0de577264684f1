use Rattle.std.proofs.Common.{ℕ, List, ◌≡◌, ◌∙◌, ap, arith, length, refl, subst, sym}
use Rattle.pl_plan.specs.declared.step.FlatStep.{FlatStep}
use Rattle.pl_plan.specs.inside.Numbers.{spelling}
use Rattle.pl_plan.proofs.Spelled.{spelled_count}
use Rattle.explain_check.specs.inside.Seeks.{Before, HasSource, a_source}
use Rattle.explain_check.proofs.SoughtFirst.{first_before, has_first}
use Rattle.explain_check.proofs.finding.scene_of.Goals as goal

pub new_seeker-requires : goal.new_seeker-requires
new_seeker-requires c =
    omega (
      arith,
      spelled_count (length c.flatten_body.new.names.keys) (spelling c.flatten_body.new.names.keys) c.flatten_body.new.steps.items
          (length c.new-steps.result.items) c.args.program.now.body (length c.flatten_body.new.steps.items) c.in_ok-flatten_body.ensures.spelled,
      ap length c.new-steps.ensures.items,
      c.requires.few,
    )

pub find_scene-requires : goal.find_scene-requires
find_scene-requires c =
    let first = has_first c.args.program.now c.new-names.result.keys c.flatten_body.new.names.keys c.new-steps.result.items c.flatten_body.new.steps.items c.len.result
    c.in_ok-seeker.seeker.checker c.in_ok-seeker.seeker.notes c.in_ok-seeker.seeker.last_turns.items c.new-steps.ensures.items c.len.ensures.len c.in_ok-flatten_body.ensures
    c.in_ok-seeker.ensures.checker c.requires.few c.in_ok-seeker.ensures.notes c.in_ok-seeker.ensures.last_turns in
    let names_are : spelling c.flatten_body.new.names.keys ≡ spelling c.as_slice.result.now = ap spelling (sym c.as_slice.ensures.keys) in
    let steps_are : c.flatten_body.new.steps.items ≡ c.deref-2.result.now = sym (c.deref-2.ensures.value ∙ c.in_ok-kept.ensures.items ∙ c.deref.ensures.value) in
    record {
      next =
          subst (λ (names : ℕ → List ℕ). HasSource c.args.program.now.two names c.deref-2.result.now c.in_ok-seeker.seeker.checker c.in_ok-seeker.seeker.notes
          c.in_ok-seeker.seeker.last_turns.items) names_are
          (subst (λ (steps : List FlatStep). HasSource c.args.program.now.two (spelling c.flatten_body.new.names.keys) steps c.in_ok-seeker.seeker.checker
          c.in_ok-seeker.seeker.notes c.in_ok-seeker.seeker.last_turns.items) steps_are first);
    }

pub returns : goal.returns
returns c =
    let first = first_before c.args.program.now c.new-names.result.keys c.flatten_body.new.names.keys c.new-steps.result.items c.flatten_body.new.steps.items c.len.result
    c.in_ok-seeker.seeker.checker c.in_ok-seeker.seeker.notes c.in_ok-seeker.seeker.last_turns.items c.new-steps.ensures.items c.len.ensures.len c.in_ok-flatten_body.ensures
    c.in_ok-seeker.ensures.checker c.requires.few c.in_ok-seeker.ensures.notes c.in_ok-seeker.ensures.last_turns in
    let names_are : spelling c.flatten_body.new.names.keys ≡ spelling c.as_slice.result.now = ap spelling (sym c.as_slice.ensures.keys) in
    let steps_are : c.flatten_body.new.steps.items ≡ c.deref-2.result.now = sym (c.deref-2.ensures.value ∙ c.in_ok-kept.ensures.items ∙ c.deref.ensures.value) in
    record {
      scene =
          c.find_scene.ensures c.args.program.now refl
          (subst (λ (names : ℕ → List ℕ). Before (a_source c.args.program.now names c.deref-2.result.now) 0 c.in_ok-seeker.seeker.checker c.in_ok-seeker.seeker.notes
          c.in_ok-seeker.seeker.last_turns.items) names_are
          (subst (λ (steps : List FlatStep). Before (a_source c.args.program.now (spelling c.flatten_body.new.names.keys) steps) 0 c.in_ok-seeker.seeker.checker
          c.in_ok-seeker.seeker.notes c.in_ok-seeker.seeker.last_turns.items) steps_are first));
    }
