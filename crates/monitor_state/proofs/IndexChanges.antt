-- The index of the list, after one of it has changed.
use Rattle.std.proofs.Common.{◌≡◌, ℕ, ◌<◌, Bool, true, false, Option, ◌&&◌, ◌||◌, ◌+◌, take, map, List, [], ◌∷◌, ◌++◌, length, get_or, refl, sym, ◌∙◌, ap, subst}
use Rattle.std.specs.Prelude.{◌==◌, eqb, filter, if◌then◌else◌}
use Rattle.std.specs.List.{list_any, starts_with}
use Rattle.std.proofs.lemmas.List.{map-append, take_more}
use Rattle.std.proofs.lemmas.List.Folds.{list_any-append}
use Rattle.monitor_laws.specs.States.{Ended, Participant, gone_by, new_participant, stays_listed}
use Rattle.monitor_laws.specs.Lawful.{AreAscending}
use Rattle.monitor_state.specs.Indexes.{IsIndexOf, rests_at, awaits_phase}
use Rattle.monitor_state.specs.inside.Changes.{put_at}
use Rattle.monitor_state.specs.inside.Listings.{IsListing}
use Rattle.monitor_state.specs.inside.Reindexing.{IsIndexed, IsReindexed, IsSameIndex}
use Rattle.monitor_state.specs.declared.member_index.MemberIndex.{MemberIndex}
use Rattle.monitor_state.proofs.Noting.{and_off, or_off}
use Rattle.monitor_state.proofs.Indexed.{after_push, after_put, any_filtered, leaves_resting, leaves_waiting, own_test}

pub indexed_at : (us : List Participant) (i : ℕ) (u : Participant) (up : AreAscending us) (within : i < length us) (is : u ≡ get_or us i u) (index : MemberIndex) → IsIndexOf us index → IsIndexed index u
indexed_at us i u up within is index of = record {
  resting = λ q n. of.resting q n u.number ∙ own_test (rests_at q n) us i u up within is;
  waiting = λ q n. of.waiting q n u.number ∙ own_test (awaits_phase q n) us i u up within is;
}

module _ (us : List Participant) (i : ℕ) (u v : Participant) (up : AreAscending us) (within : i < length us) (is : u ≡ get_or us i u) where
  pub reindexed_at : v.number ≡ u.number → (old new : MemberIndex) → IsIndexOf us old → IsReindexed old new v → (vs : List Participant) → vs ≡ put_at us i v → IsIndexOf vs new
  reindexed_at same old new of step vs put = record {
    resting = λ q n j.
        step.resting q n j ∙ ap (λ b. if v.number == j then rests_at q n v else b) (of.resting q n j)
        ∙ after_put (rests_at q n) us i u v up within is same (leaves_resting q n v) j ∙ ap (list_any (λ w. w.number == j && rests_at q n w)) (sym put);
    waiting = λ q n j.
        step.waiting q n j ∙ ap (λ b. if v.number == j then awaits_phase q n v else b) (of.waiting q n j)
        ∙ after_put (awaits_phase q n) us i u v up within is same (leaves_waiting q n v) j ∙ ap (list_any (λ w. w.number == j && awaits_phase q n w)) (sym put);
  }

-- the same list with the same index
pub same_index : (us vs : List Participant) (old new : MemberIndex) → IsIndexOf us old → IsSameIndex old new → vs ≡ us → IsIndexOf vs new
same_index us vs old new of same is = subst (λ l. IsIndexOf l new) (sym is) (record {
  resting = λ q n j. same.resting q n j ∙ of.resting q n j;
  waiting = λ q n j. same.waiting q n j ∙ of.waiting q n j;
})

pub same_listing : (us vs : List Participant) (number : List ℕ → Option ℕ) (wildcards : ℕ) (old new : MemberIndex) → IsListing us number old wildcards → IsSameIndex old new → vs ≡ us →
    IsListing vs number new wildcards
same_listing us vs number wildcards old new kept same is =
    subst (λ l. IsListing l number new wildcards) (sym is) (record { numbers = kept.numbers; index = same_index us us old new kept.index same refl; counted = kept.counted })

-- who comes rests nowhere and waits for nothing
pub pushed_index : (us vs : List Participant) (number : ℕ) (t : List ℕ) (index : MemberIndex) → IsIndexOf us index → vs ≡ us ++ new_participant number t ∷ [] → IsIndexOf vs index
pushed_index us vs number t index of is = subst (λ l. IsIndexOf l index) (sym is) (record {
  resting = λ q n j. of.resting q n j ∙ after_push (rests_at q n) us (new_participant number t) j refl;
  waiting = λ q n j. of.waiting q n j ∙ after_push (awaits_phase q n) us (new_participant number t) j refl;
})

pub popped_index : (us vs : List Participant) (number : ℕ) (t : List ℕ) (index : MemberIndex) → IsIndexOf vs index → vs ≡ us ++ new_participant number t ∷ [] → IsIndexOf us index
popped_index us vs number t index of is = record {
  resting = λ q n j. of.resting q n j ∙ ap (list_any (λ w. w.number == j && rests_at q n w)) is ∙ sym (after_push (rests_at q n) us (new_participant number t) j refl);
  waiting = λ q n j. of.waiting q n j ∙ ap (list_any (λ w. w.number == j && awaits_phase q n w)) is ∙ sym (after_push (awaits_phase q n) us (new_participant number t) j refl);
}

-- one more who is gone, or is not
gone_number : (beginning : List ℕ) (u : Participant) → (gone_by beginning u).number ≡ u.number
gone_number beginning u = by_test (starts_with eqb u.name beginning)
  where
    by_test : (b : Bool) → (if b then record u { condition = Ended } else u).number ≡ u.number
    by_test true = refl
    by_test false = refl

module _ (f : Participant → Bool) (beginning : List ℕ) (us : List Participant) (i : ℕ) (u : Participant) (within : i < length us) (is : u ≡ get_or us i u) (j : ℕ) where
  pub one_more_gone : (old new : Bool) → old ≡ list_any (λ w. w.number == j && f w) (map (gone_by beginning) (take i us)) → new ≡ (old || (u.number == j && f (gone_by beginning u))) →
      new ≡ list_any (λ w. w.number == j && f w) (map (gone_by beginning) (take (i + 1) us))
  one_more_gone old new before step =
      step ∙ ap (λ b. b || (u.number == j && f (gone_by beginning u))) before
      ∙ ap (λ k. list_any (λ w. w.number == j && f w) (map (gone_by beginning) (take i us)) || (k == j && f (gone_by beginning u))) (sym (gone_number beginning u))
      ∙ ap (λ b. list_any (λ w. w.number == j && f w) (map (gone_by beginning) (take i us)) || b) (sym (or_off ((gone_by beginning u).number == j && f (gone_by beginning u))))
      ∙ sym (list_any-append (λ w. w.number == j && f w) (map (gone_by beginning) (take i us)) (gone_by beginning u ∷ []))
      ∙ ap (list_any (λ w. w.number == j && f w)) (sym (map-append (gone_by beginning) (take i us) (u ∷ [])))
      ∙ ap (λ l. list_any (λ w. w.number == j && f w) (map (gone_by beginning) l)) (ap (λ x. take i us ++ x ∷ []) is ∙ sym (take_more us i u within))

pub index_kept : (us : List Participant) (index : MemberIndex) → IsIndexOf us index → IsIndexOf (filter stays_listed us) index
index_kept us index of = record {
  resting = λ q n j. of.resting q n j ∙ any_filtered (λ w. w.number == j && rests_at q n w) stays_listed us (λ v goes. ap (λ b. v.number == j && b) (leaves_resting q n v goes) ∙ and_off (v.number == j));
  waiting = λ q n j. of.waiting q n j ∙ any_filtered (λ w. w.number == j && awaits_phase q n w) stays_listed us (λ v goes. ap (λ b. v.number == j && b) (leaves_waiting q n v goes) ∙ and_off (v.number == j));
}
