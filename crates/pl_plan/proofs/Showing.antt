-- What the checker keeps shows the unfolding's state at each change.
use Rattle.std.proofs.Common.{◌≡◌, ℕ, ◌+◌, ◌<◌, ◌⊎◌, inl, inr, Bool, true, false, List, [], ◌∷◌, ◌++◌, length, take, sym, ap, ◌∙◌, subst, refl, arith, Some, None, Option}
use Rattle.std.specs.Prelude.{slice_set, slice_index_or, nat_lt, if◌then◌else◌, ◌==◌, ◌&&◌}
use Rattle.std.proofs.lemmas.Slice.Eq.{bytes_eq-Decides}
use Rattle.std.proofs.lemmas.Bool.Decides.{nat_tests}
use Rattle.std.proofs.lemmas.List.{length-set, length-append, get_or-set_same, get_or-set_other}
use Rattle.std.proofs.lemmas.List.Sums.{sum_by-set, sum_by-append}
use Rattle.armus_base.specs.declared.op.Op.{Op}
use Rattle.pl_syntax.specs.Tree.{Tree}
use Rattle.pl_plan.specs.declared.step.FlatStep.{FlatStep}
use Rattle.pl_plan.specs.declared.step.Thing as code
use Rattle.pl_plan.specs.declared.step.Thing.TheVariants as a_thing
use Rattle.pl_plan.specs.inside.Steps.{IsSpelled}
use Rattle.pl_plan.specs.inside.Checker.{Checker, CheckerStart, StartFits, IsChecker, slot_of, slotted, with_slot, with_thing, with_task, with_maker, pushed, with_membership, started}
use Rattle.pl_plan.specs.inside.CheckerSteps.{with_binding, thing_of}
use Rattle.pl_plan.specs.Unfolding.{UnfoldingState, Start, Names, Thing, assigned, with_op, with_member, with_members, with_start}
use Rattle.pl_plan.specs.inside.Shows.{ShowsState, MaybeStartShows, AreNamed, IsNumbering}
use Rattle.pl_plan.specs.calls.MemberRows.{marked}
use Rattle.pl_plan.proofs.MemberRows.{marked_same, marked_other}
use Rattle.pl_plan.proofs.Places.{same_or, at_set, at_more}
use Rattle.pl_plan.proofs.Keeping.{slotted_fits, taken_same}

-- ---- ops

pub shows_pushed : (names : ℕ → List ℕ) (k : Checker) (s : UnfoldingState) (t : ℕ) (o : Op) → t < length k.codes → ShowsState names k s →
    ShowsState names (pushed t o k) (record s { plan = with_op t o s.plan })
shows_pushed names k s t o here h = record {
  distinct = h.distinct;
  plan = record {
    parents = h.plan.parents;
    makers = h.plan.makers;
    codes = ap (λ xs. slice_set xs t (slice_index_or xs t [] ++ o ∷ [])) h.plan.codes;
    ops = (let a = sum_by-set length s.plan.codes t (slice_index_or s.plan.codes t [] ++ o ∷ []) []
        (subst (λ xs. t < length xs) (sym h.plan.codes) here) in
        let b = length-append (slice_index_or s.plan.codes t []) (o ∷ []) in
        let c = h.plan.ops in
        omega arith);
  };
  starts_many = h.starts_many;
  starts = h.starts;
  members = h.members;
  named = h.named;
  visits = h.visits;
}

-- ---- members

is_it : (v t q p : ℕ) → v ≡ t → q ≡ p → ((v == t) && (q == p)) ≡ true
is_it v t q p a b = grind (arith, nat_tests)

is_other : (v t q p : ℕ) → (v ≡ t → q ≡ p → ⊥) → ((v == t) && (q == p)) ≡ false
is_other v t q p h = by (same_or v t) (same_or q p)
  where
    by : (v ≡ t) ⊎ (v ≡ t → ⊥) → (q ≡ p) ⊎ (q ≡ p → ⊥) → ((v == t) && (q == p)) ≡ false
    by (inl a) (inl b) = absurd (h a b)
    by (inl a) (inr b) = grind (arith, nat_tests)
    by (inr a) (inl b) = grind (arith, nat_tests)
    by (inr a) (inr b) = grind (arith, nat_tests)

pub shows_marked : (names : ℕ → List ℕ) (k : Checker) (s : UnfoldingState) (t p : ℕ) (m : Bool) → t < length k.members → ShowsState names k s →
    ShowsState names (with_membership t p m k) (with_members (with_member t p m s.members) s)
shows_marked names k s t p m here h = record {
  distinct = h.distinct;
  plan = h.plan;
  starts_many = h.starts_many;
  starts = h.starts;
  members = λ v q. by v q (same_or v t) (same_or q p);
  named = h.named;
  visits = h.visits;
}
  where
    row : List Bool
    row = slice_index_or k.members t []

    by : (v q : ℕ) → (v ≡ t) ⊎ (v ≡ t → ⊥) → (q ≡ p) ⊎ (q ≡ p → ⊥) →
        (if (v == t) && (q == p) then m else s.members v q) ≡ slice_index_or (slice_index_or (slice_set k.members t (marked p m row)) v []) q false
    by v q (inl a) (inl b) =
        ap (λ z. if z then m else s.members v q) (is_it v t q p a b) ∙ sym (marked_same p m row) ∙ ap (λ i. slice_index_or (marked p m row) i false) (sym b)
        ∙ ap (λ r. slice_index_or r q false)
        (sym (get_or-set_same k.members t (marked p m row) [] here) ∙ ap (λ i. slice_index_or (slice_set k.members t (marked p m row)) i []) (sym a))
    by v q (inl a) (inr b) =
        ap (λ z. if z then m else s.members v q) (is_other v t q p (λ x y. b y)) ∙ h.members v q
        ∙ ap (λ i. slice_index_or (slice_index_or k.members i []) q false) a ∙ sym (marked_other p q m row b)
        ∙ ap (λ r. slice_index_or r q false)
        (sym (get_or-set_same k.members t (marked p m row) [] here) ∙ ap (λ i. slice_index_or (slice_set k.members t (marked p m row)) i []) (sym a))
    by v q (inr a) c =
        ap (λ z. if z then m else s.members v q) (is_other v t q p (λ x y. a x)) ∙ h.members v q
        ∙ ap (λ r. slice_index_or r q false) (sym (get_or-set_other k.members t v (marked p m row) [] a))

-- ---- tasks and phasers

pub shows_task : (names : ℕ → List ℕ) (k : Checker) (s : UnfoldingState) (t : ℕ) → ShowsState names k s →
    ShowsState names (with_task t k) (record s {
      plan = record s.plan
          { parents = s.plan.parents ++ Some (record { 0 = t }) ∷ []; codes = s.plan.codes ++ [] ∷ [] };
      starts = s.starts ++ None ∷ [];
    })
shows_task names k s t h = record {
  distinct = h.distinct;
  plan = record {
    parents = ap (λ xs. xs ++ Some (record { 0 = t }) ∷ []) h.plan.parents;
    makers = h.plan.makers;
    codes = ap (λ xs. xs ++ [] ∷ []) h.plan.codes;
    ops = omega (arith, sum_by-append length s.plan.codes ([] ∷ []), h.plan.ops);
  };
  starts_many = omega (arith, length-append s.starts (None ∷ []), length-append k.starts (None ∷ []), h.starts_many);
  starts = λ c. subst (λ o. MaybeStartShows names k.bindings.slots k.steps o (slice_index_or (k.starts ++ None ∷ []) c None)) (sym (at_more s.starts None c))
      (subst (MaybeStartShows names k.bindings.slots k.steps (slice_index_or s.starts c None)) (sym (at_more k.starts None c)) (h.starts c));
  members = λ v q. h.members v q ∙ ap (λ r. slice_index_or r q false) (sym (at_more k.members [] v));
  named = h.named;
  visits = h.visits;
}

pub shows_maker : (names : ℕ → List ℕ) (k : Checker) (s : UnfoldingState) (t : ℕ) → ShowsState names k s →
    ShowsState names (with_maker t k) (record s { plan = record s.plan { makers = s.plan.makers ++ record { 0 = t } ∷ [] } })
shows_maker names k s t h = record {
  distinct = h.distinct;
  plan = record {
    parents = h.plan.parents;
    makers = ap (λ xs. xs ++ record { 0 = t } ∷ []) h.plan.makers;
    codes = h.plan.codes;
    ops = h.plan.ops;
  };
  starts_many = h.starts_many;
  starts = h.starts;
  members = h.members;
  named = h.named;
  visits = h.visits;
}

-- ---- slots

named_new : (names : ℕ → List ℕ) (slots : List ℕ) (things : List code.Thing) (env : Names) (x n : ℕ) →
    x < length slots → slice_index_or slots x 0 ≡ 0 → slice_index_or things 0 a_thing.Nothing ≡ a_thing.Nothing → slice_index_or things n a_thing.Nothing ≡ a_thing.Nothing →
    AreNamed names slots things env → AreNamed names (slice_set slots x n) things env
named_new names slots things env x n in_ zero_ none free h = λ y lt.
    let here : y < length slots = omega (arith, length-set slots x n) in
    at_set (λ w. env (names y) ≡ thing_of (slice_index_or things w a_thing.Nothing)) slots x n 0 y
    (λ e _. h y here ∙ ap (λ w. thing_of (slice_index_or things w a_thing.Nothing)) (ap (λ i. slice_index_or slots i 0) e ∙ zero_) ∙ ap thing_of (none ∙ sym free))
    (λ ne. h y here)
    (λ le. absurd (omega arith))

starts_new : (names : ℕ → List ℕ) (a b n m : ℕ) (slots : List ℕ) (steps : List FlatStep) (x : ℕ) (o : Option Start) (o' : Option CheckerStart) →
    x < length slots → slice_index_or slots x 0 ≡ 0 → StartFits a b n m steps o' → MaybeStartShows names slots steps o o' → MaybeStartShows names (slice_set slots x n) steps o o'
starts_new names a b n m slots steps x None None i z f h = tt
starts_new names a b n m slots steps x None (Some s) i z f h = h
starts_new names a b n m slots steps x (Some s) None i z f h = h
starts_new names a b n m slots steps x (Some s) (Some s') i z f h = record {
  first = h.first;
  spelled = subst (λ n'. IsSpelled n' names steps s'.first s.body s'.after) (sym (length-set slots x n)) h.spelled;
  named = named_new names slots s'.things s.names x n i z f.things.none (f.things.free n (omega arith)) h.named;
}

shows_slotted_by : (names : ℕ → List ℕ) (x : ℕ) (k : Checker) (s : UnfoldingState) → x < length k.bindings.slots → IsChecker k → ShowsState names k s →
    (b : Bool) → nat_lt 0 (slot_of k x) ≡ b → ShowsState names (if b then k else record k { bindings = with_slot x k.bindings }) s
shows_slotted_by names x k s i f h true e = h
shows_slotted_by names x k s i f h false e =
    let z : slot_of k x ≡ 0 = grind (arith, e) in
    record {
      distinct = subst (λ n. IsNumbering n names) (sym (length-set k.bindings.slots x k.bindings.slot_count)) h.distinct;
      plan = h.plan;
      starts_many = h.starts_many;
      starts = λ c. starts_new names (length k.parents) (length k.makers) k.bindings.slot_count (length k.bindings.slots) k.bindings.slots k.steps x
          (slice_index_or s.starts c None)
          (slice_index_or k.starts c None) i z (f.later c) (h.starts c);
      members = h.members;
      named = named_new names k.bindings.slots k.bindings.things s.names x k.bindings.slot_count i z f.now.none (f.now.free k.bindings.slot_count (omega arith)) h.named;
      visits = h.visits;
    }

shows_thing : (names : ℕ → List ℕ) (x : ℕ) (v : code.Thing) (w : Thing) (k : Checker) (s : UnfoldingState) → thing_of v ≡ Some w → x < length k.bindings.slots →
    0 < slot_of k x → IsChecker k → ShowsState names k s →
    ShowsState names (with_thing x v k) (record s { names = assigned (names x) w s.names })
shows_thing names x v w k s is here has f h = record {
  distinct = h.distinct;
  plan = h.plan;
  starts_many = h.starts_many;
  starts = h.starts;
  members = h.members;
  named = λ y lt. by y lt (same_or y x);
  visits = h.visits;
}
  where
    by : (y : ℕ) → y < length k.bindings.slots → (y ≡ x) ⊎ (y ≡ x → ⊥) →
        assigned (names x) w s.names (names y) ≡ thing_of (slice_index_or (slice_set k.bindings.things (slot_of k x) v) (slot_of k y) a_thing.Nothing)
    by y lt (inl e) =
        ap (λ i. assigned (names x) w s.names (names i)) e
        ∙ ap (λ b. if b then Some w else s.names (names x)) ((bytes_eq-Decides (names x) (names x)).1 refl)
        ∙ sym is
        ∙ ap thing_of (sym (get_or-set_same k.bindings.things (slot_of k x) v a_thing.Nothing (omega (arith, f.slots.below x, f.slots.room, f.few, f.few_makers, f.slots.long))))
        ∙ ap (λ i. thing_of (slice_index_or (slice_set k.bindings.things (slot_of k x) v) (slot_of k i) a_thing.Nothing)) (sym e)
    by y lt (inr ne) =
        ap (λ b. if b then Some w else s.names (names y)) (h.distinct x y here lt (λ e. ne (sym e)))
        ∙ h.named y lt
        ∙ ap thing_of (sym (get_or-set_other k.bindings.things (slot_of k x) (slot_of k y) v a_thing.Nothing (λ e. ne (sym (f.slots.apart x y (sym e) has)))))

pub shows_binding : (names : ℕ → List ℕ) (x : ℕ) (v : code.Thing) (w : Thing) (k : Checker) (s : UnfoldingState) → thing_of v ≡ Some w → x < length k.bindings.slots →
    k.bindings.slot_count < length k.parents + length k.makers → IsChecker k → ShowsState names k s →
    ShowsState names (with_binding x v k) (record s { names = assigned (names x) w s.names })
shows_binding names x v w k s is here room f h =
    let sl = slotted_fits x k here room f in
    shows_thing names x v w (slotted x k) s is (omega (arith, sl.slots)) sl.has sl.fits (shows_slotted_by names x k s here f h (nat_lt 0 (slot_of k x)) refl)

-- ---- forks

pub shows_started : (names : ℕ → List ℕ) (k : Checker) (s : UnfoldingState) (c first after : ℕ) (body : Tree) → c < length k.starts →
    IsSpelled (length k.bindings.slots) names k.steps first body after → IsChecker k → ShowsState names k s →
    ShowsState names (started c first after k) (with_start c (record { body = body; first = first + 1; names = s.names }) s)
shows_started names k s c first after body here spelled f h = record {
  distinct = h.distinct;
  plan = h.plan;
  starts_many = length-set s.starts c (Some start) ∙ h.starts_many ∙ sym (length-set k.starts c (Some kept));
  starts = λ d. at_set (λ o. MaybeStartShows names k.bindings.slots k.steps o (slice_index_or (slice_set k.starts c (Some kept)) d None)) s.starts c (Some start) None d
      (λ e _. subst (λ i. MaybeStartShows names k.bindings.slots k.steps (Some start) (slice_index_or (slice_set k.starts c (Some kept)) i None)) (sym e)
      (subst (MaybeStartShows names k.bindings.slots k.steps (Some start)) (sym (get_or-set_same k.starts c (Some kept) None here))
      (record {
        first = refl;
        spelled = spelled;
        named = λ x lt. h.named x lt ∙
            ap thing_of (sym (taken_same k.bindings.things k.bindings.slot_count f.now.free (slice_index_or k.bindings.slots x 0)));
      })))
      (λ ne. subst (MaybeStartShows names k.bindings.slots k.steps (slice_index_or s.starts d None)) (sym (get_or-set_other k.starts c d (Some kept) None ne)) (h.starts d))
      (λ le. absurd (omega (arith, h.starts_many)));
  members = h.members;
  named = h.named;
  visits = h.visits;
}
  where
    start : Start
    start = record { body = body; first = first + 1; names = s.names }

    kept : CheckerStart
    kept = record { first = first; after = after; things = take k.bindings.slot_count k.bindings.things }
