-- One more thing that was said, and one more task of which it was said.
use Rattle.std.proofs.Common.{◌≡◌, ℕ, ◌<◌, Bool, true, false, Some, List, [], ◌∷◌, ◌++◌, length, arith, sym, ◌∙◌, ap, subst, refl, inl, inr, set, Vec, Global}
use Rattle.std.specs.Prelude.{Contains, if◌then◌else◌, map, slice_get, ◌||◌}
use Rattle.std.specs.List.{list_any}
use Rattle.std.proofs.lemmas.Bool.{cases_Bool}
use Rattle.std.proofs.lemmas.List.{length-map, map-append}
use Rattle.std.proofs.lemmas.List.Elements.{Contains-append_left, Contains-push_cases}
use Rattle.indexmap.specs.IndexSet.{insert_key}
use Rattle.armus_base.specs.declared.ids.TaskId.{TaskId}
use Rattle.explain_tasks.specs.Groups.{each_once}
use Rattle.explain_tasks.specs.Sayings.{Said, same_said}
use Rattle.explain_tasks.specs.calls.Grouped.{IsGrouped, Told, members_of}
use Rattle.explain_tasks.specs.calls.SayingValues.{said_by}
use Rattle.explain_tasks.specs.declared.grouping.Grouping.{Grouping}
use Rattle.explain_tasks.specs.declared.saying.Saying.{Saying}
use Rattle.explain_tasks.proofs.EachOnce as each
use Rattle.explain_tasks.proofs.GroupedTasks.{at_inside, at_map, none_pass, set_members}
use Rattle.explain_tasks.proofs.SameSaid.{same_said_is, same_said_itself}

module _ (eq : Saying → Saying → Bool) (bridge : (a b : Saying) → eq a b ≡ same_said (said_by a) (said_by b)) where
  -- a saying is found just where what it says is found
  any_said : (ks : List Saying) (v : Saying) → list_any (eq v) ks ≡ list_any (same_said (said_by v)) (map said_by ks)
  any_said [] v = refl
  any_said (k ∷ ks) v =
      ap (λ b. b || list_any (eq v) ks) (bridge v k) ∙ ap (λ b. same_said (said_by v) (said_by k) || b) (any_said ks v)

  -- the sayings with one more say what they said, with one more
  insert_said : (ks : List Saying) (v : Saying) → map said_by (insert_key eq ks v) ≡ insert_key same_said (map said_by ks) (said_by v)
  insert_said ks v =
      by_test (list_any (eq v) ks)
      ∙ ap (λ b. if b then map said_by ks else map said_by ks ++ said_by v ∷ []) (any_said ks v)
    where
      by_test : (b : Bool) → map said_by (if b then ks else ks ++ v ∷ []) ≡ (if b then map said_by ks else map said_by ks ++ said_by v ∷ [])
      by_test true = refl
      by_test false = map-append said_by ks (v ∷ [])

  module _ (order : List Said) (put : List Told) (old new : Grouping) (v k : Saying) (at : ℕ) (was : IsGrouped order put old)
      (keys : new.sayings.keys ≡ insert_key eq old.sayings.keys v) (stored : slice_get new.sayings.keys at ≡ Some k) (equal : eq v k ≡ true) where
    -- what was said, each thing once
    once_more : map said_by new.sayings.keys ≡ each_once same_said (order ++ said_by v ∷ [])
    once_more =
        ap (λ ks. map said_by ks) keys ∙ insert_said old.sayings.keys v ∙ ap (λ ks. insert_key same_said ks (said_by v)) was.once
        ∙ sym (each.once_push same_said same_said_is same_said_itself order (said_by v))

    -- the one with this number
    stands_there : slice_get (each_once same_said (order ++ said_by v ∷ [])) at ≡ Some (said_by v)
    stands_there =
        ap (λ ks. slice_get ks at) (sym once_more) ∙ at_map said_by new.sayings.keys at k stored
        ∙ ap (λ s. Some s) (sym (same_said_is (said_by v) (said_by k) (sym (bridge v k) ∙ equal)))

    told_more : (p : Told) → Contains put p → Contains (order ++ said_by v ∷ []) p.said
    told_more p m = Contains-append_left order (said_by v ∷ []) p.said (was.told p m)

    -- whether it was said before
    said_before : list_any (eq v) old.sayings.keys ≡ list_any (same_said (said_by v)) (each_once same_said order)
    said_before = any_said old.sayings.keys v ∙ ap (λ ks. list_any (same_said (said_by v)) ks) was.once

    inside_by : (groups : map (λ (w : Vec TaskId Global). w.items) new.groups.items ≡ map (members_of put) (each_once same_said (order ++ said_by v ∷ []))) → at < length new.groups.items
    inside_by groups =
        let l = at_inside (each_once same_said (order ++ said_by v ∷ [])) at (said_by v) stands_there in
        let a : length (map (λ (w : Vec TaskId Global). w.items) new.groups.items) ≡ length new.groups.items = length-map new.groups.items (λ (w : Vec TaskId Global). w.items) in
        let b : length (map (members_of put) (each_once same_said (order ++ said_by v ∷ []))) ≡ length (each_once same_said (order ++ said_by v ∷ [])) = length-map (each_once same_said (order ++ said_by v ∷ [])) (members_of put) in
        let e = ap length groups in
        omega arith

    by_groups : (groups : map (λ (w : Vec TaskId Global). w.items) new.groups.items ≡ map (members_of put) (each_once same_said (order ++ said_by v ∷ [])))
        → IsGrouped (order ++ said_by v ∷ []) put new × (at < length new.groups.items) × (slice_get (each_once same_said (order ++ said_by v ∷ [])) at ≡ Some (said_by v))
    by_groups groups = (record { once = once_more; groups = groups; told = told_more }, inside_by groups, stands_there)

    -- it was said before
    pub noted_old : list_any (eq v) old.sayings.keys ≡ true → new.groups.items ≡ old.groups.items
        → IsGrouped (order ++ said_by v ∷ []) put new × (at < length new.groups.items) × (slice_get (each_once same_said (order ++ said_by v ∷ [])) at ≡ Some (said_by v))
    noted_old found same =
        by_groups (ap (λ gs. map (λ (w : Vec TaskId Global). w.items) gs) same ∙ was.groups
        ∙ ap (λ ks. map (members_of put) ks)
        (sym (each.once_push same_said same_said_is same_said_itself order (said_by v)
        ∙ each.insert_found same_said same_said_is same_said_itself (each_once same_said order) (said_by v) (sym said_before ∙ found))))

    -- it is new
    pub noted_new : list_any (eq v) old.sayings.keys ≡ false → (g : Vec TaskId Global) → g.items ≡ [] → new.groups.items ≡ old.groups.items ++ g ∷ []
        → IsGrouped (order ++ said_by v ∷ []) put new × (at < length new.groups.items) × (slice_get (each_once same_said (order ++ said_by v ∷ [])) at ≡ Some (said_by v))
    noted_new fresh g none more =
        let off : list_any (same_said (said_by v)) (each_once same_said order) ≡ false = sym said_before ∙ fresh in
        let nobody : members_of put (said_by v) ≡ [] =
        ap (λ xs. map (λ (p : Told). p.task) xs)
        (none_pass (λ (p : Told). same_said (said_by v) p.said) put
        (λ p m. elim (cases_Bool (same_said (said_by v) p.said)) [
          | inl on ↦
              let e : said_by v ≡ p.said = same_said_is (said_by v) p.said on in
              let m2 : Contains order (said_by v) = subst (λ s. Contains order s) (sym e) (was.told p m) in
              let t : list_any (same_said (said_by v)) (each_once same_said order) ≡ true =
              each.has_any same_said same_said_is same_said_itself (each_once same_said order) (said_by v) (each.once_has same_said same_said_is same_said_itself order (said_by v) m2) in
              absurd (cc)
          | inr out ↦ out
        ])) in
        let keys_more : each_once same_said (order ++ said_by v ∷ []) ≡ each_once same_said order ++ said_by v ∷ [] =
        each.once_push same_said same_said_is same_said_itself order (said_by v) ∙ each.insert_new same_said same_said_is same_said_itself (each_once same_said order) (said_by v) off in
        by_groups
        (ap (λ gs. map (λ (w : Vec TaskId Global). w.items) gs) more ∙ map-append (λ (w : Vec TaskId Global). w.items) old.groups.items (g ∷ [])
        ∙ ap (λ xs. xs ++ g.items ∷ []) was.groups
        ∙ ap (λ x. map (members_of put) (each_once same_said order) ++ x ∷ []) (none ∙ sym nobody)
        ∙ sym (map-append (members_of put) (each_once same_said order) (said_by v ∷ []))
        ∙ ap (λ ks. map (members_of put) ks) (sym keys_more))

-- one more task of which it was said
pub put_told :
    (order : List Said) (put : List Told) (mid new : Grouping) (s : Said) (t : TaskId) (at : ℕ) → IsGrouped order put mid → Contains order s
    → slice_get (each_once same_said order) at ≡ Some s → new.sayings.keys ≡ mid.sayings.keys
    → map (λ (w : Vec TaskId Global). w.items) new.groups.items ≡ set (map (λ (w : Vec TaskId Global). w.items) mid.groups.items) at (members_of put s ++ t ∷ [])
    → IsGrouped order (put ++ record { said = s; task = t } ∷ []) new
put_told order put mid new s t at was has there keys groups =
    record {
      once = ap (λ ks. map said_by ks) keys ∙ was.once;
      groups =
          groups ∙ ap (λ gs. set gs at (members_of put s ++ t ∷ [])) was.groups
          ∙ sym (set_members put s t (each_once same_said order) at (each.are_once same_said same_said_is same_said_itself order) there);
      told = λ p m. elim (Contains-push_cases put (record { said = s; task = t }) p m) [ inl l ↦ was.told p l | inr e ↦ subst (λ (q : Told). Contains order q.said) e has ];
    }

-- the group at a number
pub group_at :
    (order : List Said) (put : List Told) (g : Grouping) (s : Said) (at : ℕ) (w : Vec TaskId Global) → IsGrouped order put g
    → slice_get (each_once same_said order) at ≡ Some s → slice_get g.groups.items at ≡ Some w → w.items ≡ members_of put s
group_at order put g s at w is there own =
    let a : slice_get (map (λ (v : Vec TaskId Global). v.items) g.groups.items) at ≡ Some w.items = at_map (λ (v : Vec TaskId Global). v.items) g.groups.items at w own in
    let b : slice_get (map (members_of put) (each_once same_said order)) at ≡ Some (members_of put s) = at_map (members_of put) (each_once same_said order) at s there in
    let e = ap (λ gs. slice_get gs at) is.groups in
    cc
