-- A plan is checked by its codes: its pieces are not looked at.
use Rattle.std.proofs.Common.{◌≡◌, ℕ, zero, suc, List, length, refl, ap, ◌∙◌}
use Rattle.armus_base.specs.declared.piece.Piece.{Piece}
use Rattle.armus_base.specs.Plans.{Action, Advances, Blocks, Drops, Forks, Makes, Passes, Plan, Refuses, Registers, action_at, actions, maker_of, parent_of}
use Rattle.armus_base.specs.Places.{first_phases, first_phases_by, own_phases, phases_after, registered}
use Rattle.armus_base.specs.CheckedPlans.{HasCodes, HasTables, IsWellFormed}
use Rattle.armus_base.specs.calls.PlanLaws.{CheckedByCodes}

module _ (plan : Plan) (pieces : List (List Piece)) where
  abbrev changed : Plan
  changed = record plan { pieces = pieces }

  first_phases_same : (d t : ℕ) → first_phases_by changed d t ≡ first_phases_by plan d t
  unfolding parent_of actions action_at
  first_phases_same zero t = refl
  first_phases_same (suc d) zero = refl
  first_phases_same (suc d) (suc t) =
      ap (λ m. registered (action_at plan (parent_of plan (suc t))) m (suc t) (length (actions plan (parent_of plan (suc t)))))
      (first_phases_same d (parent_of plan (suc t)))

  phases_same : (t k : ℕ) → phases_after changed t k ≡ phases_after plan t k
  unfolding parent_of actions action_at first_phases phases_after
  phases_same t k = ap (λ m. own_phases (action_at plan t) m k) (first_phases_same t t)

  still_well_formed : (t k : ℕ) (x : Action) → IsWellFormed plan t k x → IsWellFormed changed t k x
  unfolding parent_of maker_of actions action_at
  still_well_formed t k (Makes p) w = w
  still_well_formed t k (Registers c p) w = (w.0, w.1, w.2, (w.3.0, ap (λ m. m p) (phases_same t k) ∙ w.3.1))
  still_well_formed t k (Forks c) w = w
  still_well_formed t k (Advances p) w = (w.0, ap (λ m. m p) (phases_same t k) ∙ w.1)
  still_well_formed t k (Drops p) w = (w.0, ap (λ m. m p) (phases_same t k) ∙ w.1)
  still_well_formed t k (Blocks aim) w = ((w.0.0, ap (λ m. m aim.phaser) (phases_same t k) ∙ w.0.1), w.1)
  still_well_formed t k (Passes p) w = tt
  still_well_formed t k (Refuses aim) w = tt

  still_has_tables : HasTables plan → HasTables changed
  unfolding parent_of maker_of
  still_has_tables tables = record {
    root = tables.root;
    drawn = tables.drawn;
    parents_first = tables.parents_first;
    parents_rise = tables.parents_rise;
    makers_rise = tables.makers_rise;
    one_code_each = tables.one_code_each;
  }

  still_has_codes : HasCodes plan → HasCodes changed
  unfolding parent_of maker_of actions action_at
  still_has_codes codes = record {
    well_formed = λ t k x e. still_well_formed t k x (codes.well_formed t k x e);
    made = codes.made;
    makes_rise = codes.makes_rise;
    works = codes.works;
    draws = codes.draws;
  }

pub checked_by_codes : CheckedByCodes
checked_by_codes plan pieces checked = record {
  tables = still_has_tables plan pieces checked.tables;
  codes = still_has_codes plan pieces checked.codes;
  limits = record { few_tasks = checked.limits.few_tasks; few_phasers = checked.limits.few_phasers; few_ops = checked.limits.few_ops; few_cells = checked.limits.few_cells };
}
