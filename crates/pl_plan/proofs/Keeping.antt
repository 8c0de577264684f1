-- What the checker keeps goes on to fit.
use Rattle.std.proofs.Common.{◌≡◌, ℕ, ◌+◌, ◌-◌, ◌<◌, ◌≤◌, Bool, true, false, List, [], ◌∷◌, ◌++◌, length, replicate, take, inl, inr, sym, ◌∙◌, subst, refl, arith, Some, None, Option}
use Rattle.std.specs.Prelude.{slice_set, slice_index_or, nat_lt, if◌then◌else◌}
use Rattle.std.proofs.lemmas.Bool.{cases_lt}
use Rattle.std.proofs.lemmas.List.{length-set, length-append, length-take, length-replicate, get_or-set_same, get_or-set_other, get_or-take, get_or-replicate, get_or_past, get_or_append_left, get_or-append_right}
use Rattle.armus_base.specs.Limits.{max_tasks, max_phasers}
use Rattle.armus_base.specs.declared.op.Op.{Op}
use Rattle.pl_plan.specs.declared.step.FlatStep.{FlatStep}
use Rattle.pl_plan.specs.declared.step.Thing.{Thing}
use Rattle.pl_plan.specs.declared.step.Thing.TheVariants.{Nothing, Task, Phaser}
use Rattle.pl_plan.specs.inside.Steps.{IsList}
use Rattle.pl_plan.specs.calls.MemberRows.{marked}
use Rattle.pl_plan.specs.inside.Checker.{Checker, CheckerStart, IsThings, IsThingBelow, StartFits, IsChecker, slot_of, slotted, with_slot, with_thing, with_task, with_maker, pushed, with_membership, started, padded}
use Rattle.pl_plan.specs.inside.CheckerSteps.{with_binding}
use Rattle.pl_plan.proofs.Places.{at_set, at_more}

-- ---- things stay inside where there are more

inside_more : (a b a' b' : ℕ) (v : Thing) → a ≤ a' → b ≤ b' → IsThingBelow a b v → IsThingBelow a' b' v
inside_more a b a' b' Nothing p q h = tt
inside_more a b a' b' (Task c) p q h = omega arith
inside_more a b a' b' (Phaser c) p q h = omega arith

pub things_more : (a b n a' b' n' : ℕ) (vs : List Thing) → a ≤ a' → b ≤ b' → n ≤ n' → IsThings a b n vs → IsThings a' b' n' vs
things_more a b n a' b' n' vs p q r h = record {
  none = h.none;
  free = λ k le. h.free k (omega arith);
  inside = λ k. inside_more a b a' b' (slice_index_or vs k Nothing) p q (h.inside k);
}

-- what has the same in each slot is one as well
pub things_same : (a b n : ℕ) (vs ws : List Thing) → ((k : ℕ) → slice_index_or ws k Nothing ≡ slice_index_or vs k Nothing) → IsThings a b n vs → IsThings a b n ws
things_same a b n vs ws same h = record {
  none = same 0 ∙ h.none;
  free = λ k le. same k ∙ h.free k le;
  inside = λ k. subst (IsThingBelow a b) (sym (same k)) (h.inside k);
}

-- the things in the first n slots, where behind them is nothing
pub taken_same : (vs : List Thing) (n : ℕ) → ((k : ℕ) → n ≤ k → slice_index_or vs k Nothing ≡ Nothing) → (k : ℕ) →
    slice_index_or (take n vs) k Nothing ≡ slice_index_or vs k Nothing
taken_same vs n free k = elim (cases_lt k n) [
  | inl lt ↦ get_or-take n vs k Nothing lt
  | inr le ↦ get_or_past (take n vs) k Nothing (omega (arith, length-take n vs)) ∙ sym (free k le)
]

-- and with nothing behind them
pub padded_same : (vs : List Thing) (k : ℕ) → slice_index_or (padded vs) k Nothing ≡ slice_index_or vs k Nothing
padded_same vs k = elim (cases_lt k (length vs)) [
  | inl lt ↦ get_or_append_left vs (replicate (max_tasks + max_phasers - length vs) Nothing) Nothing k lt
  | inr le ↦
      get_or-append_right vs (replicate (max_tasks + max_phasers - length vs) Nothing) (length vs) k Nothing refl le
      ∙ none_in (max_tasks + max_phasers - length vs) (k - length vs) ∙ sym (get_or_past vs k Nothing le)
]
  where
    none_in : (n i : ℕ) → slice_index_or (replicate n Nothing) i Nothing ≡ Nothing
    none_in n i = elim (cases_lt i n) [
      | inl lt ↦ get_or-replicate n i Nothing Nothing lt
      | inr le ↦ get_or_past (replicate n Nothing) i Nothing (omega (arith, length-replicate n Nothing))
    ]

pub length_padded : (vs : List Thing) → length vs ≤ max_tasks + max_phasers → length (padded vs) ≡ max_tasks + max_phasers
length_padded vs le = omega (arith, length-append vs (replicate (max_tasks + max_phasers - length vs) Nothing), length-replicate (max_tasks + max_phasers - length vs) Nothing)

pub start_more : (a b n a' b' n' m m' : ℕ) (steps : List FlatStep) (o : Option CheckerStart) → a ≤ a' → b ≤ b' → n ≤ n' → m ≡ m' → StartFits a b n m steps o →
    StartFits a' b' n' m' steps o
start_more a b n a' b' n' m m' steps None p q r e h = tt
start_more a b n a' b' n' m m' steps (Some s) p q r e h = record {
  things = things_more a b n a' b' n' s.things p q r h.things;
  short = h.short;
  within = h.within;
  list = subst (λ i. IsList i steps s.first s.after) e h.list;
}

-- ---- changes

pub fits_pushed : (k : Checker) (t : ℕ) (o : Op) → IsChecker k → IsChecker (pushed t o k)
fits_pushed k t o f = record {
  starts_many = f.starts_many;
  codes_many = length-set k.codes t (slice_index_or k.codes t [] ++ o ∷ []) ∙ f.codes_many;
  few = f.few;
  few_makers = f.few_makers;
  members_many = f.members_many;
  slots = f.slots;
  now = f.now;
  later = f.later;
}

pub fits_marked : (k : Checker) (t p : ℕ) (v : Bool) → IsChecker k → IsChecker (with_membership t p v k)
fits_marked k t p v f = record {
  starts_many = f.starts_many;
  codes_many = f.codes_many;
  few = f.few;
  few_makers = f.few_makers;
  members_many = length-set k.members t (marked p v (slice_index_or k.members t [])) ∙ f.members_many;
  slots = f.slots;
  now = f.now;
  later = f.later;
}

pub fits_started : (k : Checker) (c first after : ℕ) → after ≤ length k.steps → IsList (length k.bindings.slots) k.steps first after → IsChecker k → IsChecker
    (started c first after k)
fits_started k c first after within list f = record {
  starts_many = length-set k.starts c (Some start) ∙ f.starts_many;
  codes_many = f.codes_many;
  few = f.few;
  few_makers = f.few_makers;
  members_many = f.members_many;
  slots = f.slots;
  now = f.now;
  later = λ d. at_set (StartFits (length k.parents) (length k.makers) k.bindings.slot_count (length k.bindings.slots) k.steps) k.starts c (Some start) None d
      (λ e lt. record {
        things = things_same (length k.parents) (length k.makers) k.bindings.slot_count k.bindings.things (take k.bindings.slot_count k.bindings.things)
            (taken_same k.bindings.things k.bindings.slot_count f.now.free) f.now;
        short = omega (arith, length-take k.bindings.slot_count k.bindings.things, f.slots.long);
        within = within;
        list = list;
      })
      (λ ne. f.later d) (λ le. tt);
}
  where
    start : CheckerStart
    start = record { first = first; after = after; things = take k.bindings.slot_count k.bindings.things }

pub fits_task : (k : Checker) (t : ℕ) → length k.parents < max_tasks → IsChecker k → IsChecker (with_task t k)
fits_task k t lt f = record {
  starts_many = omega (arith, length-append k.starts (None ∷ []), length-append k.parents (Some (record { 0 = t }) ∷ []), f.starts_many);
  codes_many = omega (arith, length-append k.codes ([] ∷ []), length-append k.parents (Some (record { 0 = t }) ∷ []), f.codes_many);
  few = omega (arith, length-append k.parents (Some (record { 0 = t }) ∷ []));
  few_makers = f.few_makers;
  members_many = omega (arith, length-append k.members ([] ∷ []), length-append k.parents (Some (record { 0 = t }) ∷ []), f.members_many);
  slots = record {
    below = f.slots.below;
    apart = f.slots.apart;
    room = omega (arith, length-append k.parents (Some (record { 0 = t }) ∷ []), f.slots.room);
    long = f.slots.long;
  };
  now = things_more (length k.parents) (length k.makers) k.bindings.slot_count (length (with_task t k).parents) (length k.makers) k.bindings.slot_count k.bindings.things
      (omega (arith, length-append k.parents (Some (record { 0 = t }) ∷ []))) (omega arith) (omega arith) f.now;
  later = λ c. subst (StartFits (length (with_task t k).parents) (length k.makers) k.bindings.slot_count (length k.bindings.slots) k.steps) (sym (at_more k.starts None c))
      (start_more (length k.parents) (length k.makers) k.bindings.slot_count (length (with_task t k).parents) (length k.makers) k.bindings.slot_count (length k.bindings.slots)
      (length k.bindings.slots) k.steps (slice_index_or k.starts c None) (omega (arith, length-append k.parents (Some (record { 0 = t }) ∷ []))) (omega arith)
      (omega arith) refl (f.later c));
}

pub fits_maker : (k : Checker) (t : ℕ) → length k.makers < max_phasers → IsChecker k → IsChecker (with_maker t k)
fits_maker k t lt f = record {
  starts_many = f.starts_many;
  codes_many = f.codes_many;
  few = f.few;
  few_makers = omega (arith, length-append k.makers (record { 0 = t } ∷ []));
  members_many = f.members_many;
  slots = record {
    below = f.slots.below;
    apart = f.slots.apart;
    room = omega (arith, length-append k.makers (record { 0 = t } ∷ []), f.slots.room);
    long = f.slots.long;
  };
  now = things_more (length k.parents) (length k.makers) k.bindings.slot_count (length k.parents) (length
      (with_maker t k).makers) k.bindings.slot_count k.bindings.things (omega arith)
      (omega (arith, length-append k.makers (record { 0 = t } ∷ []))) (omega arith) f.now;
  later = λ c. start_more (length k.parents) (length k.makers) k.bindings.slot_count (length k.parents) (length (with_maker t k).makers) k.bindings.slot_count
      (length k.bindings.slots)
      (length k.bindings.slots) k.steps (slice_index_or k.starts c None) (omega arith) (omega (arith, length-append k.makers (record { 0 = t } ∷ []))) (omega arith) refl
      (f.later c);
}

-- ---- a slot

abbrev new_slot : ℕ → Checker → Checker
new_slot x k = record k { bindings = with_slot x k.bindings }

fits_new_slot : (k : Checker) (x : ℕ) → k.bindings.slot_count < length k.parents + length k.makers → IsChecker k → IsChecker (new_slot x k)
fits_new_slot k x room f = record {
  starts_many = f.starts_many;
  codes_many = f.codes_many;
  few = f.few;
  few_makers = f.few_makers;
  members_many = f.members_many;
  slots = record {
    below = λ y. at_set (λ v. v < k.bindings.slot_count + 1) k.bindings.slots x k.bindings.slot_count 0 y (λ e lt. omega arith) (λ ne. omega
        (arith, f.slots.below y)) (λ le. omega arith);
    apart = λ y z. at_set (λ v. v ≡ slice_index_or (slice_set k.bindings.slots x k.bindings.slot_count) z 0 → 0 < v → y ≡ z) k.bindings.slots x k.bindings.slot_count 0 y
        (λ e lt. at_set (λ w. k.bindings.slot_count ≡ w → 0 < k.bindings.slot_count → y ≡ z) k.bindings.slots x k.bindings.slot_count 0 z (λ e' _ _ _. omega arith)
        (λ ne q _. absurd (omega (arith, f.slots.below z))) (λ le q r. absurd (omega arith)))
        (λ ne. at_set (λ w. slot_of k y ≡ w → 0 < slot_of k y → y ≡ z) k.bindings.slots x k.bindings.slot_count 0 z (λ e' _ q _. absurd (omega (arith, f.slots.below y)))
        (λ ne' q r. f.slots.apart y z q r) (λ le q r. absurd (omega arith)))
        (λ le q r. absurd (omega arith));
    room = omega arith;
    long = f.slots.long;
  };
  now = things_more (length k.parents) (length k.makers) k.bindings.slot_count (length k.parents) (length k.makers) (k.bindings.slot_count + 1) k.bindings.things (omega arith)
      (omega arith) (omega arith) f.now;
  later = λ c. start_more (length k.parents) (length k.makers) k.bindings.slot_count (length k.parents) (length k.makers) (k.bindings.slot_count + 1) (length k.bindings.slots)
      (length (slice_set k.bindings.slots x k.bindings.slot_count)) k.steps (slice_index_or k.starts c None) (omega arith) (omega arith) (omega arith)
      (sym (length-set k.bindings.slots x k.bindings.slot_count)) (f.later c);
}

-- what a slotted name has
pub record Slotted (x : ℕ) (k new : Checker) : Type 0 where
  pub fits : IsChecker new
  pub has : 0 < slot_of new x
  pub slots : length new.bindings.slots ≡ length k.bindings.slots
  pub same : new ≡ record k { bindings = record k.bindings { slots = new.bindings.slots; slot_count = new.bindings.slot_count } }

slotted_by : (x : ℕ) (k : Checker) → x < length k.bindings.slots → k.bindings.slot_count < length k.parents + length k.makers → IsChecker k →
    (b : Bool) → nat_lt 0 (slot_of k x) ≡ b → Slotted x k (if b then k else new_slot x k)
slotted_by x k here room f true e = record { fits = f; has = grind (arith, e); slots = refl; same = refl }
slotted_by x k here room f false e = record {
  fits = fits_new_slot k x room f;
  has = subst (λ v. 0 < v) (sym (get_or-set_same k.bindings.slots x k.bindings.slot_count 0 here)) (omega (arith, f.slots.below x));
  slots = length-set k.bindings.slots x k.bindings.slot_count;
  same = refl;
}

pub slotted_fits : (x : ℕ) (k : Checker) → x < length k.bindings.slots → k.bindings.slot_count < length k.parents + length k.makers → IsChecker k → Slotted x k (slotted x k)
slotted_fits x k here room f = slotted_by x k here room f (nat_lt 0 (slot_of k x)) refl

-- ---- a thing

pub fits_thing : (x : ℕ) (v : Thing) (k : Checker) → 0 < slot_of k x → IsThingBelow (length k.parents) (length k.makers) v → IsChecker k → IsChecker (with_thing x v k)
fits_thing x v k has inside f = record {
  starts_many = f.starts_many;
  codes_many = f.codes_many;
  few = f.few;
  few_makers = f.few_makers;
  members_many = f.members_many;
  slots = record {
    below = f.slots.below;
    apart = f.slots.apart;
    room = f.slots.room;
    long = length-set k.bindings.things (slot_of k x) v ∙ f.slots.long;
  };
  now = record {
    none = get_or-set_other k.bindings.things (slot_of k x) 0 v Nothing (λ e. absurd (omega arith)) ∙ f.now.none;
    free = λ n le. get_or-set_other k.bindings.things (slot_of k x) n v Nothing (λ e. absurd (omega (arith, f.slots.below x))) ∙ f.now.free n le;
    inside = λ n. at_set (IsThingBelow (length k.parents) (length k.makers)) k.bindings.things (slot_of k x) v Nothing n (λ e lt. inside) (λ ne. f.now.inside n) (λ le. tt);
  };
  later = f.later;
}

pub fits_binding : (x : ℕ) (v : Thing) (k : Checker) → x < length k.bindings.slots → k.bindings.slot_count < length k.parents + length k.makers →
    IsThingBelow (length k.parents) (length k.makers) v → IsChecker k → IsChecker (with_binding x v k)
fits_binding x v k here room inside f =
    let s = slotted_fits x k here room f in
    fits_thing x v (slotted x k) s.has (subst (λ n. IsThingBelow (length n.parents) (length n.makers) v) (sym s.same) inside) s.fits
