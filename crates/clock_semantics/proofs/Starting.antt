-- An activity that starts another one.
use Rattle.std.proofs.Common.{◌≡◌, ◌≢◌, ℕ, ◌+◌, ◌<◌, ◌≤◌, Bool, true, false, Option, Some, None, List, [], ◌∷◌, ◌++◌, length, arith, sym, ◌∙◌, ap, subst, refl, inl, inr}
use Rattle.std.specs.Prelude.{◌||◌, ◌==◌, is_some, map, option_to_list, slice_get, slice_index_or, slice_set, sum_by}
use Rattle.std.specs.List.{list_any}
use Rattle.std.specs.Str.{bytes_eq}
use Rattle.std.proofs.lemmas.Bool.{cases_eq, cases_order, eq-eqb, false≢true, ne_eqb}
use Rattle.std.proofs.lemmas.List.{append_assoc, get_or_past, length-append, length-map}
use Rattle.std.proofs.lemmas.List.Sums.{sum_by-append}
use Rattle.std.proofs.lemmas.Option.{get_or_from_slice_get, slice_get_past}
use Rattle.std.proofs.lemmas.Slice.Eq.{bytes_eq-Decides}
use Rattle.armus_base.specs.declared.op.Op.TheVariants as op
use Rattle.armus_base.proofs.Lists.{slice_get-append}
use Rattle.armus_base.specs.Numbers.{phaser, task}
use Rattle.pl_plan.specs.Unfolding.{is_parent, with_member}
use Rattle.pl_plan.proofs.Places.{at_more}
use Rattle.pl_plan.proofs.SoundSteps.{member_elsewhere, member_here, member_other}
use Rattle.pl_plan.proofs.Tables.{slice_get-last, with_task}
use Rattle.clock_syntax.specs.Trees.{ClockTree}
use Rattle.clock_semantics.specs.Moves.{code_of_moves, no_standing, ops_of, starts}
use Rattle.clock_semantics.specs.Unfolding.{ClockStart, ClockUnfolding, Current, innermost, start_at, with_activity, with_move}
use Rattle.clock_semantics.specs.calls.Making.{AreClocksOf, HasActivityRoom}
use Rattle.clock_semantics.proofs.Knows.{AreMembers, IsApart, Knows, knows_start}
use Rattle.clock_semantics.proofs.MoveCodes.{plan_now, stood}
use Rattle.clock_semantics.proofs.PlanSteps.{Acts, CanRegister, can_register-append, fork_more, map-append, no_names, ops_parents, regs, regs_more, sum_ops, task_more, with_all, with_all_other, with_ops, with_ops-append}
use Rattle.clock_semantics.proofs.Unfolded.{IsCounted, IsReady, IsUnfolding, as_forked, few_ops, first_members, moved_on}

-- ---- who is a member after registrations

-- what task c is a member of: of these, and of what it was
with_all_own : (c : ℕ) (ps : List ℕ) (members : ℕ → ℕ → Bool) (q : ℕ) → with_all c ps members c q ≡ list_any (λ p. p == q) ps || members c q
with_all_own c [] members q = refl
with_all_own c (p ∷ ps) members q =
    with_all_own c ps (with_member c p true members) q
    ∙ elim (cases_eq q p) [
      | inl same ↦
          subst (λ z. list_any (λ r. r == q) ps || with_member c p true members c q ≡ (z == q || list_any (λ r. r == q) ps) || members c q) same
          (ap (λ b. list_any (λ r. r == q) ps || b) (subst (λ z. with_member c z true members c q ≡ true) same (member_here c q true members))
          ∙ or_true (list_any (λ r. r == q) ps)
          ∙ sym (ap (λ b. (b || list_any (λ r. r == q) ps) || members c q) (eq-eqb q q refl)))
      | inr other ↦
          ap (λ b. list_any (λ r. r == q) ps || b) (member_elsewhere c p true members c q other)
          ∙ sym (ap (λ b. (b || list_any (λ r. r == q) ps) || members c q) (ne_eqb p q (λ e. other (sym e))))
    ]
  where
    or_true : (b : Bool) → b || true ≡ true
    or_true true = refl
    or_true false = refl

-- what it is not registered on stays as it was
with_all_apart : (c : ℕ) (ps : List ℕ) (members : ℕ → ℕ → Bool) (q : ℕ) → IsApart q ps → with_all c ps members c q ≡ members c q
with_all_apart c [] members q h = refl
with_all_apart c (p ∷ ps) members q h =
    with_all_apart c ps (with_member c p true members) q h.1 ∙ member_elsewhere c p true members c q (λ e. h.0 (sym e))

-- ---- registrations that may be made

or_left : (a b : Bool) → a || b ≡ false → a ≡ false
or_left false b e = refl
or_left true b e = absurd (false≢true (sym e))

or_right : (a b : Bool) → a || b ≡ false → b ≡ false
or_right false b e = e
or_right true b e = absurd (false≢true (sym e))

-- on the clocks of an async
can_register :
    (t c : ℕ) (now : Current) (one : (x y : List ℕ) (p : ℕ) → now.names x ≡ Some p → now.names y ≡ Some p → x ≡ y) (earlier xs : List (List ℕ)) (ps : List ℕ)
    (members : ℕ → ℕ → Bool) → t ≢ c → ((q : ℕ) → members t q ≡ now.standing.members q) →
    ((x : List ℕ) (p : ℕ) → now.names x ≡ Some p → list_any (bytes_eq x) earlier ≡ false → members c p ≡ false) → AreClocksOf now earlier xs ps → CanRegister t c ps members
can_register t c now one earlier [] [] members n own free h = tt
can_register t c now one earlier [] (p ∷ ps) members n own free h = absurd h
can_register t c now one earlier (x ∷ xs) [] members n own free h = absurd h
can_register t c now one earlier (x ∷ xs) (p ∷ ps) members n own free h = (
  own p ∙ h.0.registered,
  free x p h.0.named h.1,
  can_register t c now one (x ∷ earlier) xs ps (with_member c p true members) n (λ q. member_other c p true members t q n ∙ own q)
      (λ y q e rest. member_elsewhere c p true members c q (λ same. other_name y q e (or_left (bytes_eq y x) (list_any (bytes_eq y) earlier) rest) same)
      ∙ free y q e (or_right (bytes_eq y x) (list_any (bytes_eq y) earlier) rest))
      h.3,
)
  where
    other_name : (y : List ℕ) (q : ℕ) → now.names y ≡ Some q → bytes_eq y x ≡ false → q ≢ p
    other_name y q e differs same =
        let both : y ≡ x = one y x p (e ∙ ap Some same) h.0.named in
        false≢true (sym differs ∙ (bytes_eq-Decides y x).1 both)

-- no finish that governs is among the clocks
finish_apart : (n : ℕ) (now : Current) (f : ℕ) (fs : List ℕ) (earlier xs : List (List ℕ)) (ps : List ℕ) → Knows n now →
    now.governing ≡ f ∷ fs → AreClocksOf now earlier xs ps → IsApart f ps
finish_apart n now f fs earlier [] [] k is h = tt
finish_apart n now f fs earlier [] (p ∷ ps) k is h = absurd h
finish_apart n now f fs earlier (x ∷ xs) [] k is h = absurd h
finish_apart n now f fs earlier (x ∷ xs) (p ∷ ps) k is h =
    let a : IsApart p (f ∷ fs) = subst (IsApart p) is (k.apart x p h.0.named) in
    (λ e. a.0 (sym e), finish_apart n now f fs (x ∷ earlier) xs ps k is h.3)

-- ---- lists

set_last : {A : Type 0} (xs : List A) (y z : A) → slice_set (xs ++ y ∷ []) (length xs) z ≡ xs ++ z ∷ []
set_last [] y z = refl
set_last (x ∷ xs) y z = ap (λ zs. x ∷ zs) (set_last xs y z)

-- ---- the start

module _ (t : ℕ) (u : ClockUnfolding) (h : IsUnfolding t u) (n : ℕ) (body : ClockTree) (xs : List (List ℕ)) (ps : List ℕ) (clocks : AreClocksOf u.now [] xs ps) where
  abbrev child : ℕ
  child = length u.parents

  abbrev start : ClockStart
  start = start_at n body ps u.now

  abbrev on : List ℕ
  on = ps ++ option_to_list (innermost u.now.governing)

  abbrev after : ClockUnfolding
  after = with_activity t start u

  here : t < child
  here = h.acts.here

  as_many : length u.starts ≡ child
  as_many = sym (length-map u.starts as_forked) ∙ h.acts.sound.starts

  outside : (q : ℕ) → h.members child q ≡ false
  outside q = h.acts.sound.outside child q (omega arith)

  not_self : t ≢ child
  not_self e = absurd (let l = here in omega arith)

  can_finish : (fs : List ℕ) → u.now.governing ≡ fs → CanRegister t child (option_to_list (innermost fs)) (with_all child ps h.members)
  can_finish [] is = tt
  can_finish (f ∷ fs) is = (
    with_all_other child ps h.members t f not_self ∙ h.own f
        ∙ (let inside : AreMembers u.now.standing.members (f ∷ fs) = subst (AreMembers u.now.standing.members) is h.knows.inside in inside.0),
    with_all_apart child ps h.members f (finish_apart (length u.makers) u.now f fs [] xs ps h.knows is clocks) ∙ outside f,
    tt,
  )

  can_all : CanRegister t child on h.members
  can_all =
      can_register-append t child ps (option_to_list (innermost u.now.governing)) h.members
      (can_register t child u.now h.knows.one [] xs ps h.members not_self h.own (λ x p e f. outside p) clocks) (can_finish u.now.governing refl)

  plan_started : plan_now after ≡ with_task t (plan_now u)
  plan_started = ap (λ cs. record (plan_now after) { codes = cs }) (map-append code_of_moves u.moves ([] ∷ []))

  mine : is_parent t (slice_index_or (u.parents ++ Some (task t) ∷ []) child None) ≡ true
  mine =
      ap (is_parent t) (get_or_from_slice_get (u.parents ++ Some (task t) ∷ []) child (Some (task t)) None (slice_get-last u.parents (Some (task t)))) ∙ eq-eqb t t refl

  unforked : is_some (slice_index_or (map as_forked u.starts ++ None ∷ []) child None) ≡ false
  unforked =
      ap is_some (at_more (map as_forked u.starts) None child ∙ get_or_past (map as_forked u.starts) child None (omega (arith, length-map u.starts as_forked, as_many)))

  ops_are : ops_of u.now.standing (starts child ps (innermost u.now.governing)) ≡ regs child on ++ op.Fork (task child) ∷ []
  ops_are =
      sym (append_assoc (regs child ps) (regs child (option_to_list (innermost u.now.governing))) (op.Fork (task child) ∷ []))
      ∙ ap (λ os. os ++ op.Fork (task child) ∷ []) (sym (map-append (λ p. op.Reg (task child) (phaser p)) ps (option_to_list (innermost u.now.governing))))

  started_as : slice_set (map as_forked u.starts ++ None ∷ []) child (as_forked start) ≡ map as_forked after.starts
  started_as =
      ap (λ i. slice_set (map as_forked u.starts ++ None ∷ []) i (as_forked start)) (sym (length-map u.starts as_forked ∙ as_many))
      ∙ set_last (map as_forked u.starts) None (as_forked start) ∙ sym (map-append as_forked u.starts (start ∷ []))

  acts_now :
      HasActivityRoom u → u.ops + length (ops_of u.now.standing (starts child ps (innermost u.now.governing))) ≤ 1048576 →
      Acts t (with_ops t (ops_of u.now.standing (starts child ps (innermost u.now.governing))) (plan_now after)) (map as_forked after.starts) (with_all child on h.members)
  acts_now room few =
      let many = ap length (ops_are) in
      let split = length-append (regs child on) (op.Fork (task child) ∷ []) in
      let each = length-map on (λ p. op.Reg (task child) (phaser p)) in
      let drawn = task_more t (plan_now u) (map as_forked u.starts) h.members h.acts room.few room.cells in
      let none_more = sum_by-append length (plan_now u).codes ([] ∷ []) in
      let all = few_ops t u h (length (ops_of u.now.standing (starts child ps (innermost u.now.governing)))) few in
      let registered =
      regs_more t child on (with_task t (plan_now u)) (map as_forked u.starts ++ None ∷ []) h.members drawn mine unforked can_all (omega arith) in
      let sum = sum_ops t (regs child on) (with_task t (plan_now u)) (omega (arith, drawn.here, drawn.sound.checked.tables.one_code_each)) in
      let forked =
      fork_more t (with_ops t (regs child on) (with_task t (plan_now u))) (map as_forked u.starts ++ None ∷ []) (with_all child on h.members) registered child
      (subst (λ z. is_parent t (slice_index_or z child None) ≡ true) (sym (ops_parents t (regs child on) (with_task t (plan_now u)))) mine)
      unforked (omega arith) no_names in
      subst (λ z. Acts t z (map as_forked after.starts) (with_all child on h.members))
      (sym
      (ap (λ os. with_ops t os (plan_now after)) (ops_are) ∙ ap (with_ops t (regs child on ++ op.Fork (task child) ∷ [])) plan_started
      ∙ with_ops-append t (regs child on) (op.Fork (task child) ∷ []) (with_task t (plan_now u))))
      (subst (λ z. Acts t (with_ops t (op.Fork (task child) ∷ []) (with_ops t (regs child on) (with_task t (plan_now u)))) z (with_all child on h.members)) started_as forked)

  counts_now : IsCounted t after
  counts_now =
      record {
        here = omega (arith, h.counts.here, length-append u.moves ([] ∷ []));
        idle = λ a l. at_more u.moves [] a ∙ h.counts.idle a l;
        pending = λ q. ap (λ ms. (stood no_standing ms).pending q) (at_more u.moves [] t) ∙ h.counts.pending q;
        counted = omega (arith, h.counts.counted, sum_by-append length (map code_of_moves u.moves) ([] ∷ []), ap (sum_by length) (map-append code_of_moves u.moves ([] ∷ [])));
      }

  ready_start : IsReady (length u.makers) start
  ready_start = record { knows = knows_start (length u.makers) u.now xs ps clocks h.knows; rests = λ q. refl }

  -- the activities after this one
  by_age :
      (P : ℕ → Option ClockStart → Type 0) → ((a : ℕ) → t < a → a < child → P a (slice_get u.starts a)) → P child (Some start) → ((a : ℕ) → child < a → P a None) →
      (a : ℕ) → t < a → P a (slice_get after.starts a)
  by_age P older own none a l =
      elim (cases_order a child) [
        | inl e ↦
            subst (λ z. P z (slice_get after.starts z)) (sym e)
            (subst (P child) (sym (ap (slice_get after.starts) (sym as_many) ∙ slice_get-last u.starts start)) own)
        | inr (inl less) ↦ subst (P a) (sym (slice_get-append u.starts (start ∷ []) a (omega (arith, as_many)))) (older a l less)
        | inr (inr more) ↦ subst (P a) (sym (slice_get_past after.starts a (omega (arith, as_many, length-append u.starts (start ∷ []))))) (none a more)
      ]

  later_now : (a q : ℕ) → t < a → with_all child on h.members a q ≡ first_members (slice_get after.starts a) q
  later_now a q l =
      by_age (λ a o. with_all child on h.members a q ≡ first_members o q) older own none a l
    where
      older : (a : ℕ) → t < a → a < child → with_all child on h.members a q ≡ first_members (slice_get u.starts a) q
      older a l less = with_all_other child on h.members a q (λ e. absurd (omega arith)) ∙ h.later a q l

      or_false : (b : Bool) → b || false ≡ b
      or_false true = refl
      or_false false = refl

      own : with_all child on h.members child q ≡ first_members (Some start) q
      own = with_all_own child on h.members q ∙ ap (λ b. list_any (λ p. p == q) on || b) (outside q) ∙ or_false (list_any (λ p. p == q) on)

      none : (a : ℕ) → child < a → with_all child on h.members a q ≡ false
      none a more = with_all_other child on h.members a q (λ e. absurd (omega arith)) ∙ h.acts.sound.outside a q (omega arith)

  pub starts_keeps :
      HasActivityRoom u → u.ops + length (ops_of u.now.standing (starts child ps (innermost u.now.governing))) ≤ 1048576 →
      IsUnfolding t (with_move t (starts child ps (innermost u.now.governing)) after)
  starts_keeps room few =
      moved_on t (starts child ps (innermost u.now.governing)) after (with_all child on h.members) counts_now (acts_now room few)
      (λ q. with_all_other child on h.members t q not_self ∙ h.own q) later_now h.knows
      (λ a s l. by_age (λ a o. o ≡ Some s → IsReady (length u.makers) s) (λ a l less e. h.ready a s l e)
      (λ e. subst (IsReady (length u.makers)) (let q : Some start ≡ Some s = e in cc) ready_start) (λ a m e. absurd cc) a l)
