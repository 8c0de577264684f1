-- Numbers that climb: one more put in its place, and that two such lists with the same elements are the same.
use Rattle.std.proofs.Common.{◌≡◌, ℕ, zero, suc, ◌<◌, ◌≤◌, Ok, Err, List, [], ◌∷◌, length, get_or, refl, sym, ◌∙◌, ap, subst, inl, inr, ◌⊎◌, arith, map}
use Rattle.std.specs.Prelude.{Contains}
use Rattle.std.specs.List.{insert}
use Rattle.std.specs.List.Sorted.{IsBinarySearchResult, IsNonDecreasingBy, IsSearchInRange}
use Rattle.std.specs.Ordering.{nat_cmp, ordering_index}
use Rattle.std.proofs.lemmas.Bool.Decides.{nat_tests}
use Rattle.std.proofs.lemmas.Cmp.{ranked}
use Rattle.std.proofs.lemmas.List.Elements.{Contains-get_or}
use Rattle.std.proofs.lemmas.List.Sorted.{Contains-permutation, IsPermutation-insert, IsPermutation-sym}
use Rattle.armus_base.proofs.Elements.{Contains-cons_cases, Contains-head, Contains-tail, from_map, nothing_in_nil}
use Rattle.monitor_laws.specs.States.{Participant}
use Rattle.monitor_laws.specs.Lawful.{AreAscending}
use Rattle.monitor_state.specs.inside.Players.{NumbersClimb, participant_number}

-- from place to place
places_climb : (ns : List ℕ) (i j d : ℕ) → NumbersClimb ns → i < j → j < length ns → get_or ns i d < get_or ns j d
places_climb [] i j d up less within = absurd (omega arith)
places_climb (n ∷ ns) i zero d up less within = absurd (omega arith)
places_climb (n ∷ ns) zero (suc j) d up less within = up.0 (get_or ns j d) (Contains-get_or ns j d (omega arith))
places_climb (n ∷ ns) (suc i) (suc j) d up less within = places_climb ns i j d up.1 (omega arith) (omega arith)

-- one more is one of the list, and those of it still are, and no others
pub put_here : (ns : List ℕ) (i n : ℕ) → Contains (insert ns i n) n
put_here ns i n = Contains-permutation (n ∷ ns) (insert ns i n) n (IsPermutation-insert ns i n) (Contains-head n ns)

pub put_kept : (ns : List ℕ) (i n m : ℕ) → Contains ns m → Contains (insert ns i n) m
put_kept ns i n m within = Contains-permutation (n ∷ ns) (insert ns i n) m (IsPermutation-insert ns i n) (Contains-tail n ns m within)

pub put_from : (ns : List ℕ) (i n m : ℕ) → Contains (insert ns i n) m → Contains ns m ⊎ (m ≡ n)
put_from ns i n m within =
    elim (Contains-cons_cases n ns m (Contains-permutation (insert ns i n) (n ∷ ns) m (IsPermutation-sym (n ∷ ns) (insert ns i n) (IsPermutation-insert ns i n)) within)) [
      | inl here ↦ inr (sym here)
      | inr old ↦ inl old
    ]

-- where all before are less, and all behind are greater
put_climbs :
    (ns : List ℕ) (i n : ℕ) → NumbersClimb ns → i ≤ length ns → ((k : ℕ) → k < i → get_or ns k 0 < n) → ((k : ℕ) → i ≤ k → k < length ns → n < get_or ns k 0) →
    NumbersClimb (insert ns i n)
put_climbs [] zero n up within before behind = ((λ m in_nil. absurd (nothing_in_nil m in_nil)), tt)
put_climbs [] (suc i) n up within before behind = absurd (omega arith)
put_climbs (m ∷ ns) zero n up within before behind = (
  λ x in_list. elim (Contains-cons_cases m ns x in_list) [
    | inl here ↦ (let less = behind 0 (omega arith) (omega arith) in omega arith)
    | inr there ↦ (let less = behind 0 (omega arith) (omega arith) in let more = up.0 x there in omega arith)
  ],
  up,
)
put_climbs (m ∷ ns) (suc i) n up within before behind = (
  λ x in_list. elim (put_from ns i n x in_list) [
    | inl old ↦ up.0 x old
    | inr new ↦ (let less = before 0 (omega arith) in omega arith)
  ],
  put_climbs ns i n up.1 (omega arith) (λ k less. before (suc k) (omega arith)) (λ k le less. behind (suc k) (omega arith) (omega arith)),
)

-- a search for it tells its place, or that it is one of them
module _ (ns : List ℕ) (up : NumbersClimb ns) (n : ℕ) where
  rise : IsNonDecreasingBy (λ m. ordering_index (nat_cmp m n)) ns
  rise i j d le within =
      let less : i < j → get_or ns i d < get_or ns j d = λ lt. places_climb ns i j d up lt within in
      let same : i ≡ j → get_or ns i d ≡ get_or ns j d = λ e. ap (λ k. get_or ns k d) e in
      grind (arith, nat_tests)

  pub is_one : (at : ℕ) → IsSearchInRange (Ok at) (length ns) → IsBinarySearchResult (λ m. nat_cmp m n) ns (Ok at) → Contains ns n
  is_one at within equal = subst (Contains ns) (ranked _ n _ (sym (equal 0))) (Contains-get_or ns at 0 within)

  pub climbs_with : (at : ℕ) → IsSearchInRange (Err at) (length ns) → IsBinarySearchResult (λ m. nat_cmp m n) ns (Err at) → NumbersClimb (insert ns at n)
  climbs_with at within parted =
      put_climbs ns at n up within (λ k less. ranked _ n _ (sym ((parted rise).0 k 0 (omega arith) less))) (λ k le less. ranked _ n _ (sym ((parted rise).1 k 0 le less)))

-- two that climb and have the same elements are the same
same_head : (m n : ℕ) (ms ns : List ℕ) → NumbersClimb (m ∷ ms) → NumbersClimb (n ∷ ns) → ((x : ℕ) → Contains (m ∷ ms) x → Contains (n ∷ ns) x) → ((x : ℕ) → Contains (n ∷ ns) x → Contains (m ∷ ms) x) → m ≡ n
same_head m n ms ns up other to from =
    elim (Contains-cons_cases n ns m (to m (Contains-head m ms))) [
      | inl e ↦ sym e
      | inr later ↦ elim (Contains-cons_cases m ms n (from n (Contains-head n ns))) [
        | inl e ↦ e
        | inr too ↦ absurd (let a = other.0 m later in let b = up.0 n too in omega arith)
      ]
    ]

rest_of : (m n : ℕ) (ms ns : List ℕ) → m ≡ n → NumbersClimb (m ∷ ms) → ((x : ℕ) → Contains (m ∷ ms) x → Contains (n ∷ ns) x) → (x : ℕ) → Contains ms x → Contains ns x
rest_of m n ms ns e up to x within =
    elim (Contains-cons_cases n ns x (to x (Contains-tail m ms x within))) [
      | inl f ↦ absurd (let a = up.0 x within in omega arith)
      | inr there ↦ there
    ]

pub same_climbing : (ms ns : List ℕ) → NumbersClimb ms → NumbersClimb ns → ((x : ℕ) → Contains ms x → Contains ns x) → ((x : ℕ) → Contains ns x → Contains ms x) → ms ≡ ns
same_climbing [] [] up other to from = refl
same_climbing [] (n ∷ ns) up other to from = absurd (nothing_in_nil n (from n (Contains-head n ns)))
same_climbing (m ∷ ms) [] up other to from = absurd (nothing_in_nil m (to m (Contains-head m ms)))
same_climbing (m ∷ ms) (n ∷ ns) up other to from =
    let e = same_head m n ms ns up other to from in
    let r = same_climbing ms ns up.1 other.1 (rest_of m n ms ns e up to) (rest_of n m ns ms (sym e) other from) in
    ap (λ x. x ∷ ms) e ∙ ap (λ (xs : List ℕ). n ∷ xs) r

-- the numbers of a list climb
pub numbers_climb : (us : List Participant) → AreAscending us → NumbersClimb (map participant_number us)
numbers_climb [] up = tt
numbers_climb (u ∷ us) up = (
  λ m within.
      let from = from_map participant_number us m within in
      let less = up.0 from.0 from.1 in
      let same : from.0.number ≡ m = from.2 in
      omega arith,
  numbers_climb us up.1,
)
