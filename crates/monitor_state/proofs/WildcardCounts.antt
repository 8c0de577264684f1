-- How many wildcards a list has.
use Rattle.std.proofs.Common.{◌≡◌, ◌==◌, ℕ, ◌<◌, ◌+◌, ◌⊎◌, Bool, true, false, ◌||◌, not, List, [], ◌∷◌, ◌++◌, length, get_or, refl, sym, ◌∙◌, ap, inl, inr, arith}
use Rattle.std.specs.Prelude.{filter, if◌then◌else◌, nat_lt, sum_by}
use Rattle.std.specs.List.{list_any}
use Rattle.std.proofs.lemmas.Bool.{cases_Bool, cond-true, cond-false}
use Rattle.std.proofs.lemmas.Bool.Decides.{nat_tests}
use Rattle.std.proofs.lemmas.List.Sums.{sum_by-cons, sum_by_push}
use Rattle.monitor_laws.specs.States.{Condition, Running, Waiting, Ended, AnyTask, OneOf, Participant, is_live_task, is_live_wildcard, new_participant, stays_listed}
use Rattle.monitor_state.specs.inside.Changes.{put_at}
use Rattle.monitor_state.specs.inside.Listings.{wildcards_in}
use Rattle.monitor_state.proofs.Counting.{part_put, part_within}

-- how many wildcards one in this condition is
abbrev wildcards_at : Condition → ℕ
wildcards_at c = if is_live_wildcard c then 1 else 0

-- who does not stay is no wildcard
none_gone : (c : Condition) (b : Bool) → (is_live_task c || is_live_wildcard c || b) ≡ false → wildcards_at c ≡ 0
none_gone Running b gone = refl
none_gone (Waiting p n) b gone = refl
none_gone Ended b gone = refl
none_gone AnyTask b gone = absurd (let e : true ≡ false = gone in cc)
none_gone (OneOf names tasks) b gone = absurd (let e : true ≡ false = gone in cc)

none_left : (v : Participant) → stays_listed v ≡ false → wildcards_in v ≡ 0
none_left v gone = none_gone v.condition (not (length v.phases == 0)) gone

-- a wildcard of the list is counted
pub one_counted : (us : List Participant) (i : ℕ) (u : Participant) → i < length us → u ≡ get_or us i u → is_live_wildcard u.condition ≡ true → 0 < sum_by wildcards_in us
one_counted us i u within read is =
    let least = part_within wildcards_in none_left us i u within read in
    let one : wildcards_in u ≡ 1 = ap (λ (b : Bool). if b then 1 else 0) is in
    omega arith

-- after a change of one, where the others are counted
pub counted_put : (us : List Participant) (i : ℕ) (u v : Participant) (others : ℕ) → i < length us → u ≡ get_or us i u → others + wildcards_in u ≡ sum_by wildcards_in us →
    others + wildcards_in v ≡ sum_by wildcards_in (put_at us i v)
counted_put us i u v others within read are =
    let put = part_put wildcards_in none_left us i u v within read in
    omega arith

-- the count of the list with one changed, by the count of the others
pub counted_changed : (us vs : List Participant) (i : ℕ) (u v : Participant) (others before after : ℕ) (was is : Bool) → i < length us → u ≡ get_or us i u →
    others + (if was then 1 else 0) ≡ before → before ≡ sum_by wildcards_in us → was ≡ is_live_wildcard u.condition → is ≡ is_live_wildcard v.condition → after ≡ others + (if is then 1 else 0) →
    vs ≡ put_at us i v → after ≡ sum_by wildcards_in vs
counted_changed us vs i u v others before after was is within read left counted was_so is_so more put =
    more ∙ ap (λ (b : Bool). others + (if b then 1 else 0)) is_so
    ∙ counted_put us i u v others within read (ap (λ (b : Bool). others + (if b then 1 else 0)) (sym was_so) ∙ left ∙ counted)
    ∙ ap (sum_by wildcards_in) (sym put)

-- who comes is none
pub counted_pushed : (us : List Participant) (number : ℕ) (t : List ℕ) → sum_by wildcards_in (us ++ new_participant number t ∷ []) ≡ sum_by wildcards_in us
counted_pushed us number t =
    let sum = sum_by_push wildcards_in us (new_participant number t) in
    let none : wildcards_in (new_participant number t) ≡ 0 = refl in
    omega arith

-- counted one by one
pub counted_all : (us : List Participant) → length (filter (λ u. is_live_wildcard u.condition) us) ≡ sum_by wildcards_in us
counted_all [] = refl
counted_all (u ∷ us) = by_test (cases_Bool (is_live_wildcard u.condition)) (counted_all us)
  where
    by_test : ((is_live_wildcard u.condition ≡ true) ⊎ (is_live_wildcard u.condition ≡ false)) → length (filter (λ v. is_live_wildcard v.condition) us) ≡ sum_by wildcards_in us →
        length (filter (λ v. is_live_wildcard v.condition) (u ∷ us)) ≡ sum_by wildcards_in (u ∷ us)
    by_test (inl on) rest =
        let rests = filter (λ (v : Participant). is_live_wildcard v.condition) us in
        let longer : length (filter (λ (v : Participant). is_live_wildcard v.condition) (u ∷ us)) ≡ length (u ∷ rests) = ap length (cond-true (is_live_wildcard u.condition) (u ∷ rests) rests on) in
        let one : wildcards_in u ≡ 1 = ap (λ (b : Bool). if b then 1 else 0) on in
        let sum = sum_by-cons wildcards_in u us in
        let long : length (u ∷ rests) ≡ length rests + 1 = omega arith in
        omega arith
    by_test (inr off) rest =
        let rests = filter (λ (v : Participant). is_live_wildcard v.condition) us in
        let same_long : length (filter (λ (v : Participant). is_live_wildcard v.condition) (u ∷ us)) ≡ length rests = ap length (cond-false (is_live_wildcard u.condition) (u ∷ rests) rests off) in
        let none : wildcards_in u ≡ 0 = ap (λ (b : Bool). if b then 1 else 0) off in
        let sum = sum_by-cons wildcards_in u us in
        omega arith

more : (m k : ℕ) → m ≡ 1 → nat_lt 0 (m + k) ≡ true
more m k one = grind (arith, nat_tests)

same : (m k : ℕ) → m ≡ 0 → nat_lt 0 (m + k) ≡ nat_lt 0 k
same m k none = let sum : m + k ≡ k = omega arith in ap (nat_lt 0) sum

-- there are some where there is one
pub any_counted : (us : List Participant) → nat_lt 0 (sum_by wildcards_in us) ≡ list_any (λ u. is_live_wildcard u.condition) us
any_counted [] = refl
any_counted (u ∷ us) = ap (nat_lt 0) (sum_by-cons wildcards_in u us) ∙ by_test (cases_Bool (is_live_wildcard u.condition)) (any_counted us)
  where
    by_test : ((is_live_wildcard u.condition ≡ true) ⊎ (is_live_wildcard u.condition ≡ false)) → nat_lt 0 (sum_by wildcards_in us) ≡ list_any (λ v. is_live_wildcard v.condition) us →
        nat_lt 0 (wildcards_in u + sum_by wildcards_in us) ≡ (is_live_wildcard u.condition || list_any (λ v. is_live_wildcard v.condition) us)
    by_test (inl on) rest = more (wildcards_in u) (sum_by wildcards_in us) (ap (λ (b : Bool). if b then 1 else 0) on) ∙ sym (ap (λ b. b || list_any (λ v. is_live_wildcard v.condition) us) on)
    by_test (inr off) rest =
        same (wildcards_in u) (sum_by wildcards_in us) (ap (λ (b : Bool). if b then 1 else 0) off) ∙ rest ∙ sym (ap (λ b. b || list_any (λ v. is_live_wildcard v.condition) us) off)
