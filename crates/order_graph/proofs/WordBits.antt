-- What changes of words make of their bits.
use Rattle.std.proofs.Common.{◌≡◌, ◌≢◌, ℕ, ◌+◌, ◌-◌, ◌*◌, ◌/◌, ◌%◌, ◌^◌, ◌<◌, List, [], ◌∷◌, ◌++◌, length, sym, ap, ◌∙◌, inl, inr, arith, get_or, set, min, bit_and, bit_or, length-set, get_or-set_same, get_or-set_other}
use Rattle.std.specs.Int.{bit_at, w64}
use Rattle.std.proofs.lemmas.Bool.{cases_eq, cases_lt}
use Rattle.std.proofs.lemmas.List.{append-nil}
use Rattle.std.proofs.lemmas.Nat.Bits.{bit_at_and, bit_at_clear_other, bit_at_clear_same, bit_at_not, bit_at_set_other, bit_at_set_same, bit_at-zero}
use Rattle.order_graph.specs.inside.Bits.{IsWithBit, bit_less, bit_of, tasks_by}
use Rattle.order_graph.proofs.TaskBits.{by_more, by_past, past_words}

-- the word with bit n is replaced
module _ (words : List ℕ) (n : ℕ) (room : n / 64 < length words) where
  set_word :
      (word bit : ℕ) → bit_at word (n % 64) ≡ bit → ((i : ℕ) → i < 64 → i ≢ n % 64 → bit_at word i ≡ bit_at (get_or words (n / 64) 0) i) →
      IsWithBit words n bit (set words (n / 64) word)
  set_word word bit here others =
      record {
        sized = length-set words (n / 64) word;
        here = ap (λ w. bit_at w (n % 64)) (get_or-set_same words (n / 64) word 0 room) ∙ here;
        others = λ m ne. elim (cases_eq (m / 64) (n / 64)) [
          | inl e ↦
              let apart : m % 64 ≢ n % 64 = λ f. ne (omega arith) in
              ap (λ k. bit_at (get_or (set words (n / 64) word) k 0) (m % 64)) e ∙
              ap (λ w. bit_at w (m % 64)) (get_or-set_same words (n / 64) word 0 room) ∙ others (m % 64) (omega arith) apart ∙
              ap (λ k. bit_at (get_or words k 0) (m % 64)) (sym e)
          | inr f ↦ ap (λ w. bit_at w (m % 64)) (get_or-set_other words (n / 64) (m / 64) word 0 f)
        ];
      }

  pub with_set : IsWithBit words n 1 (set words (n / 64) (bit_or (get_or words (n / 64) 0) (1 * 2 ^ (n % 64) % 18446744073709551616)))
  with_set =
      let old : ℕ = get_or words (n / 64) 0 in
      set_word (bit_or old (1 * 2 ^ (n % 64) % 18446744073709551616)) 1 (bit_at_set_same w64 old (n % 64) (omega arith))
      (λ i lt ne. bit_at_set_other w64 old (n % 64) (omega arith) i ne)

  pub with_clear :
      IsWithBit words n 0 (set words (n / 64) (bit_and (get_or words (n / 64) 0) (18446744073709551615 - 1 * 2 ^ (n % 64) % 18446744073709551616)))
  with_clear =
      let old : ℕ = get_or words (n / 64) 0 in
      set_word (bit_and old (18446744073709551615 - 1 * 2 ^ (n % 64) % 18446744073709551616)) 0 (bit_at_clear_same w64 old (n % 64) (omega arith))
      (λ i lt ne. bit_at_clear_other w64 old (n % 64) (omega arith) i lt ne)

-- words of which each was and-ed with one of others, as many as both have
module _ (old new other : List ℕ) (sized : length new ≡ min (length other) (length old)) where
  pub common_words :
      ((j : ℕ) → j < length new → get_or new j 0 ≡ bit_and (get_or old j 0) (get_or other j 0)) → (n : ℕ) → bit_of new n ≡ min (bit_of old n) (bit_of other n)
  common_words each n =
      elim (cases_lt (n / 64) (length new)) [
        | inl lt ↦ ap (λ w. bit_at w (n % 64)) (each (n / 64) lt) ∙ bit_at_and (get_or old (n / 64) 0) (get_or other (n / 64) 0) (n % 64)
        | inr past ↦
            let a : bit_of new n ≡ 0 = past_words new n (omega arith) in
            elim (cases_lt (n / 64) (length old)) [
              | inl lt ↦ let b : bit_of other n ≡ 0 = past_words other n (omega (arith, past, lt, sized)) in omega (arith, a, b)
              | inr beyond ↦ let b : bit_of old n ≡ 0 = past_words old n (omega (arith, beyond)) in omega (arith, a, b)
            ]
      ]

-- the bits of a word that are 0 in another one
pub less_bits : (word other : ℕ) → other < 2 ^ 64 → (i : ℕ) → i < 64 → bit_at (bit_and word (18446744073709551615 - other)) i ≡ min (bit_at word i) (1 - bit_at other i)
less_bits word other small i lt = bit_at_and word (18446744073709551615 - other) i ∙ ap (min (bit_at word i)) (bit_at_not w64 other i small lt)

-- the bits of one word of those that are 1 in the first words and 0 in the others
pub less_word :
    (words other : List ℕ) (k word : ℕ) → ((i : ℕ) → i < 64 → bit_at word i ≡ min (bit_at (get_or words k 0) i) (1 - bit_at (get_or other k 0) i)) → (i : ℕ) → i < 64 →
    bit_less words other (64 * k + i) ≡ bit_at word i
less_word words other k word are i lt =
    let d : (64 * k + i) / 64 ≡ k = omega arith in
    let m : (64 * k + i) % 64 ≡ i = omega arith in
    rw (d, m) (sym (are i lt))

-- a word in which no bit is 1 adds no task
pub skip_word : (bits : ℕ → ℕ) (k word : ℕ) → word ≡ 0 → ((i : ℕ) → i < 64 → bits (64 * k + i) ≡ bit_at word i) → tasks_by bits (64 * k + 64) ≡ tasks_by bits (64 * k)
skip_word bits k word clear are = by_past bits (64 * k) 64 (λ i lt. are i lt ∙ ap (λ w. bit_at w i) clear ∙ bit_at-zero i)

-- one bit more of a word
pub push_one : (bits : ℕ → ℕ) (n : ℕ) → bits n ≡ 1 → tasks_by bits (n + 1) ≡ tasks_by bits n ++ (record { 0 = n }) ∷ []
push_one bits n on = by_more bits n 1 on

pub push_none : (bits : ℕ → ℕ) (n : ℕ) → bits n ≡ 0 → tasks_by bits (n + 1) ≡ tasks_by bits n
push_none bits n off = by_more bits n 0 off ∙ append-nil (tasks_by bits n)
