-- Each site's part of statuses that are known as a whole: the row of it, and its put.
use Rattle.std.proofs.Common.{◌≡◌, ℕ, zero, suc, ◌<◌, ◌≤◌, ◌+◌, ◌^◌, Bool, true, false, List, [], ◌∷◌, ◌++◌, All}
use Rattle.std.proofs.Common.{Option, Some, length, get_or, set, take, sym, refl, ap, ◌∙◌, subst, arith, inl, inr}
use Rattle.std.specs.Prelude.{AllPairs, if◌then◌else◌}
use Rattle.std.specs.List.{filter, flat_map}
use Rattle.std.proofs.lemmas.Bool.{cases_Bool, cases_eq, cases_lt}
use Rattle.std.proofs.lemmas.List.{append-nil, flat_map_more, get_or_default, length-set, take_all, take_more}
use Rattle.std.proofs.lemmas.List.Elements.{All-append, All-filter, filter-append, filter_passes}
use Rattle.std.proofs.lemmas.List.Kept.{AllPairs-filter}
use Rattle.armus_base.specs.declared.status.Status.{Status}
use Rattle.armus_base.specs.calls.Statuses.{IsInOrder}
use Rattle.sites.specs.calls.Checks.{IsFirstBad, part_of}
use Rattle.sites.specs.calls.Keeping.{held}
use Rattle.sites.specs.calls.Parts.{HoldParts, IsPartHeld, PutsParts}
use Rattle.sites.specs.calls.Rows.{AreOfSite, HasNumbers, IsRowOf, is_of_site, row_bytes, status_bytes}
use Rattle.sites.specs.inside.Gathering.{HasFewInOrder}
use Rattle.sites.specs.inside.Putting.{HavePut, PutsPart}
use Rattle.sites.proofs.PassSteps.{held_other, held_same, some_one}

-- a filter leaves no more
fewer : (own : Status → Bool) (xs : List Status) → length (filter own xs) ≤ length xs
fewer own [] = omega arith
fewer own (x ∷ xs) = by_test (fewer own xs) (own x)
  where
    by_test : length (filter own xs) ≤ length xs → (b : Bool) → length (if b then x ∷ filter own xs else filter own xs) ≤ suc (length xs)
    by_test l true = omega arith
    by_test l false = omega arith

-- what is left of statuses in order is in order
filter_in_order : (own : Status → Bool) (xs : List Status) → IsInOrder xs → IsInOrder (filter own xs)
filter_in_order own xs order =
    record {
      tasks = λ j k c d lt l.
          (let same = ap (λ (z : Status). z.t.0) (get_or_default (filter own xs) j c d (omega arith)) in
          let below = ascends j k d lt l in
          omega arith);
      phasers = λ k s l. (phases k s l).ascends;
      few = (let less = fewer own xs in let small = order.few in omega arith);
      few_phases = λ k s l. (phases k s l).few;
    }
  where
    phases : All HasFewInOrder (filter own xs)
    phases = All-filter own HasFewInOrder xs (λ k s l. record { ascends = order.phasers k s l; few = order.few_phases k s l })

    ascends : AllPairs (λ a b. a.t.0 < b.t.0) (filter own xs)
    ascends = AllPairs-filter (λ a b. a.t.0 < b.t.0) own xs (λ i j d lt l. order.tasks i j d d lt l)

-- the part of statuses in order is what the site may store
part_stored : (sites site : ℕ) (xs : List Status) → IsInOrder xs → length xs < 2 ^ 28 → All HasNumbers (part_of sites site xs) → AreOfSite sites site (part_of sites site xs)
part_stored sites site xs order few numbers =
    let own : Status → Bool = λ s. is_of_site sites site s.t.0 in
    record {
      in_order = filter_in_order own xs order;
      few = (let less = fewer own xs in omega arith);
      own = filter_passes own xs;
      numbers = numbers;
    }

-- the front and then the statuses of the site's part of the first ones are written so far
pub record IsPartWritten (sites site : ℕ) (front : List ℕ) (xs : List Status) (i : ℕ) (row : List ℕ) : Type 0 where
  pub bytes : row ≡ front ++ flat_map status_bytes (part_of sites site (take i xs))
  pub numbers : All HasNumbers (part_of sites site (take i xs))

pub written_none : (sites site : ℕ) (front : List ℕ) (xs : List Status) (row : List ℕ) → row ≡ front → IsPartWritten sites site front xs 0 row
written_none sites site front xs row is = record { bytes = is ∙ sym (append-nil front); numbers = λ k d l. absurd (omega arith) }

one_more : (own : Status → Bool) (xs : List Status) (i : ℕ) (x : Status) → i < length xs → x ≡ get_or xs i x →
    filter own (take (i + 1) xs) ≡ filter own (take i xs) ++ (if own x then x ∷ [] else [])
one_more own xs i x small is =
    ap (filter own) (take_more xs i x small ∙ ap (λ v. take i xs ++ v ∷ []) (sym is)) ∙ filter-append own (take i xs) (x ∷ [])

all_one : (x : Status) → HasNumbers x → All HasNumbers (x ∷ [])
all_one x h zero d l = h
all_one x h (suc k) d l = absurd (omega arith)

-- one status more
pub written_more :
    (sites site : ℕ) (front : List ℕ) (xs : List Status) (i : ℕ) (x : Status) (before now : List ℕ) → i < length xs → x ≡ get_or xs i x →
    IsPartWritten sites site front xs i before → (is_of_site sites site x.t.0 ≡ true → (now ≡ before ++ status_bytes x) × HasNumbers x) →
    (is_of_site sites site x.t.0 ≡ false → now ≡ before) → IsPartWritten sites site front xs (i + 1) now
written_more sites site front xs i x before now small is written yes_so no_so =
    elim (cases_Bool (is_of_site sites site x.t.0)) [
      | inl on ↦
          (let grown : part_of sites site (take (i + 1) xs) ≡ part_of sites site (take i xs) ++ x ∷ [] =
          one_more (λ s. is_of_site sites site s.t.0) xs i x small is ∙ ap (λ b. part_of sites site (take i xs) ++ (if b then x ∷ [] else [])) on in
          record {
            bytes =
                (yes_so on).0 ∙ ap (λ v. v ++ status_bytes x) written.bytes ∙ flat_map_more status_bytes front (part_of sites site (take i xs)) x
                ∙ ap (λ v. front ++ flat_map status_bytes v) (sym grown);
            numbers = subst (All HasNumbers) (sym grown)
                (All-append HasNumbers (part_of sites site (take i xs)) (x ∷ []) written.numbers (all_one x (yes_so on).1));
          })
      | inr off ↦
          (let same : part_of sites site (take (i + 1) xs) ≡ part_of sites site (take i xs) =
          one_more (λ s. is_of_site sites site s.t.0) xs i x small is ∙ ap (λ b. part_of sites site (take i xs) ++ (if b then x ∷ [] else [])) off
          ∙ append-nil (part_of sites site (take i xs)) in
          record {
            bytes = no_so off ∙ written.bytes ∙ ap (λ v. front ++ flat_map status_bytes v) (sym same);
            numbers = subst (All HasNumbers) (sym same) written.numbers;
          })
    ]

-- all of them
pub written_row :
    (sites site : ℕ) (front : List ℕ) (xs : List Status) (i : ℕ) (row : List ℕ) → length xs ≤ i → IsInOrder xs → length xs < 2 ^ 28 →
    row_bytes (part_of sites site xs) ≡ front ++ flat_map status_bytes (part_of sites site xs) → IsPartWritten sites site front xs i row →
    IsRowOf sites site (part_of sites site xs) row
written_row sites site front xs i row all order few begins written =
    let whole : part_of sites site (take i xs) ≡ part_of sites site xs = ap (part_of sites site) (take_all i xs all) in
    record {
      stored = part_stored sites site xs order few (subst (All HasNumbers) whole written.numbers);
      bytes = written.bytes ∙ ap (λ v. front ++ flat_map status_bytes v) whole ∙ sym begins;
    }

-- nothing is put
pub put_none : (sites : ℕ) (ss : List Status) (rows : List (Option (List ℕ))) → HavePut sites 0 ss rows rows
put_none sites ss rows = record { count = refl; put = λ site l. absurd (omega arith); others = λ site l. refl }

-- one part more
pub put_more :
    (sites n : ℕ) (ss : List Status) (old new now : List (Option (List ℕ))) → HavePut sites n ss old new → n < length new → PutsPart sites n ss new now →
    HavePut sites (n + 1) ss old now
put_more sites n ss old new now s room puts =
    subst (HavePut sites (n + 1) ss old) (sym puts.rows) record {
      count = length-set new n (Some puts.row) ∙ s.count;
      put = λ site l. elim (cases_eq site n) [
        | inl e ↦
            subst (λ v. IsPartHeld sites v ss (held (set new n (Some puts.row)) v)) (sym e) (puts.row, held_same new n puts.row room, puts.stored)
        | inr ne ↦ subst (IsPartHeld sites site ss) (sym (held_other new n site puts.row ne)) (s.put site (omega arith))
      ];
      others = λ site l. held_other new n site puts.row (λ e. absurd (omega arith)) ∙ s.others site (omega arith);
    }

-- each row is as before, or that of a part
pub puts_parts : (sites n : ℕ) (ss : List Status) (old new : List (Option (List ℕ))) → HavePut sites n ss old new → PutsParts sites ss old new
puts_parts sites n ss old new s =
    record {
      count = s.count;
      each = λ site l. elim (cases_lt site n) [ inl less ↦ inr (s.put site less) | inr more ↦ inl (s.others site more) ];
    }

-- no row of a part is bad
pub parts_not_bad : (sites : ℕ) (ss : List Status) (rows : List (Option (List ℕ))) → HoldParts sites rows ss → (site : ℕ) → IsFirstBad sites rows site → ⊥
parts_not_bad sites ss rows parts site is =
    let (row, has, bad) = is.bad in
    let (bytes, held_is, stored) = parts site is.within in
    bad (part_of sites site ss) (subst (IsRowOf sites site (part_of sites site ss)) (some_one bytes row (sym held_is ∙ has)) stored)
