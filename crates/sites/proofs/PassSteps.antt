-- A pass, site after site: what is kept of it, and what it says in the end.
use Rattle.std.proofs.Common.{◌≡◌, ◌≢◌, ℕ, zero, suc, ◌<◌, ◌≤◌, ◌+◌, List, [], ◌∷◌, All, Option, Some, None, length, get_or, set, sym, refl, ap, ◌∙◌, subst, arith, inl, inr, ◌⊎◌}
use Rattle.std.specs.Prelude.{map, slice_get, unwrap_or}
use Rattle.std.proofs.lemmas.Bool.{cases_eq, cases_lt}
use Rattle.std.proofs.lemmas.List.Elements.{All-head, All-tail}
use Rattle.std.proofs.lemmas.List.{length-set, map-id}
use Rattle.std.proofs.lemmas.Option.{slice_get_within}
use Rattle.armus_base.specs.declared.status.Status.{Status}
use Rattle.armus_base.specs.Plans.{Plan}
use Rattle.armus_base.proofs.Lists.{slice_get-set_other, slice_get-set_same}
use Rattle.board.specs.calls.Seats.{Frame, IsOf, Known}
use Rattle.board.specs.calls.Views.{seen}
use Rattle.phase_scan.proofs.Loads.{prefix_both}
use Rattle.sites.specs.calls.Keeping.{held}
use Rattle.sites.specs.calls.Passes.{AreBacked, ChangesRows, HasSnapped, HaveLookedOn, IsBackedRow}
use Rattle.sites.specs.calls.Rows.{IsRowOf, row_bytes}
use Rattle.sites.specs.calls.Snaps.{HasLookedOn, IsBacked}
use Rattle.sites.specs.inside.Passing.{HaveSnapped, PutsSnap}

pub length_map : {A B : Type 0} (f : A → B) (xs : List A) → length (map f xs) ≡ length xs
length_map f [] = refl
length_map f (x ∷ xs) = ap suc (length_map f xs)

pub some_one : {A : Type 0} (x y : A) → Some x ≡ Some y → x ≡ y
some_one x y e = cc

-- an element that is read is one of the list
pub read_here : {A B : Type 0} (f : A → B) (xs : List A) (i : ℕ) (x : A) → i < length xs → x ≡ get_or xs i x → slice_get (map f xs) i ≡ Some (f x)
read_here f [] i x l e = absurd (omega arith)
read_here f (y ∷ ys) zero x l e = ap (λ v. Some (f v)) (sym e)
read_here f (y ∷ ys) (suc i) x l e = read_here f ys i x (omega arith) e

-- each is of the board
pub made_of : {A : Type 0} (known : A → Known) (xs : List A) (f : Frame) → All (λ v. IsOf (known v) f) xs → (site : ℕ) (m : Known) →
    slice_get (map known xs) site ≡ Some m → IsOf m f
made_of known [] f all site m is = absurd cc
made_of known (x ∷ xs) f all zero m is = subst (λ k. IsOf k f) (some_one (known x) m is) (All-head (λ v. IsOf (known v) f) x xs all)
made_of known (x ∷ xs) f all (suc site) m is = made_of known xs f (All-tail (λ v. IsOf (known v) f) x xs all) site m is

-- what is backed stays so while its viewer looks on
pub backed_later : (plan : Plan) (ss : List Status) (k m : Known) → IsBacked plan ss (seen k.view).places → HasLookedOn k m → IsBacked plan ss (seen m.view).places
backed_later plan ss k m backed (inl same) = subst (λ (j : Known). IsBacked plan ss (seen j.view).places) (sym same) backed
backed_later plan ss k m backed (inr looked) =
    record {
      at = backed.at;
      found = backed.found;
      there = record {
        waiting = backed.there.waiting;
        before = λ u e one is. prefix_both (backed.at u) ((seen k.view).places u) ((seen m.view).places u) (backed.there.before u e one is) (looked.0.seen_now.later u);
        phases = backed.there.phases;
        phases_before = λ u p n one is.
            prefix_both (backed.found u p) ((seen k.view).places u) ((seen m.view).places u) (backed.there.phases_before u p n one is) (looked.0.seen_now.later u);
      };
    }

-- there is an element at each place of a list
pub is_there : (ys : List Known) (i : ℕ) → (length ys ≤ i → ⊥) → (k : Known) × slice_get ys i ≡ Some k
is_there [] i within = absurd (within (omega arith))
is_there (y ∷ ys) zero within = (y, refl)
is_there (y ∷ ys) (suc i) within = is_there ys i (λ l. within (omega arith))

-- nobody has done anything
pub snapped_none :
    (f : Frame) (sites : ℕ) (views : List Known) (rows : List (Option (List ℕ))) → ((site : ℕ) (m : Known) → slice_get views site ≡ Some m → IsOf m f) →
    HaveSnapped f sites 0 views views rows rows
snapped_none f sites views rows made =
    record {
      count = refl;
      kept = refl;
      made = made;
      looked = λ site k m a b. inl (some_one m k (sym b ∙ a));
      snapped = λ site k m l. absurd (omega arith);
      views = λ site l. refl;
      rows = λ site l. refl;
    }

pub held_same : (rows : List (Option (List ℕ))) (site : ℕ) (row : List ℕ) → site < length rows → held (set rows site (Some row)) site ≡ Some row
held_same rows site row l = ap (λ o. unwrap_or o None) (slice_get-set_same rows site (Some row) l)

pub held_other : (rows : List (Option (List ℕ))) (site other : ℕ) (row : List ℕ) → other ≢ site → held (set rows site (Some row)) other ≡ held rows other
held_other rows site other row ne = ap (λ o. unwrap_or o None) (slice_get-set_other rows site other (Some row) ne)

module _ (f : Frame) (sites n : ℕ) (before now : List Known) (old new : List (Option (List ℕ))) (s : HaveSnapped f sites n before now old new) where
  -- the viewers have looked on
  pub snapped_looked : HaveLookedOn f before now
  snapped_looked = record { count = s.count; each = λ site k m a b. (s.made site m b, s.looked site k m a b) }

  -- the rows are as before, or new ones
  pub snapped_rows : sites ≡ length now → ChangesRows f.plan old new now
  snapped_rows counted = record { sites = s.kept; each = each }
    where
      first_of : (site : ℕ) (m : Known) → slice_get now site ≡ Some m → (k : Known) × slice_get before site ≡ Some k
      first_of site m is = is_there before site (λ l. let within = slice_get_within now site m is in let count = s.count in omega arith)

      each : (site : ℕ) (m : Known) → slice_get now site ≡ Some m → (held new site ≡ held old site) ⊎
          ((row : List ℕ) × held new site ≡ Some row × IsBackedRow f.plan (length now) site row m)
      each site m is =
          elim (cases_lt site n) [
            | inl less ↦
                let (k, there) = first_of site m is in
                let snap = s.snapped site k m less there is in
                inr (
                  row_bytes snap.list,
                  snap.put,
                  subst (λ c. IsBackedRow f.plan c site (row_bytes snap.list) m) counted
                      (snap.list, record { stored = snap.snapshot.stored; bytes = refl }, snap.snapshot.tells.backed),
                )
            | inr more ↦ inl (s.rows site more)
          ]

  module _ (k m : Known) (here : slice_get now n ≡ Some k) (made : IsOf m f) (looked : HasLookedOn k m) where
    within : n < length now
    within = slice_get_within now n k here

    placed : slice_get (set now n m) n ≡ Some m
    placed = slice_get-set_same now n m within

    other_place : (site : ℕ) → site ≢ n → slice_get (set now n m) site ≡ slice_get now site
    other_place site ne = slice_get-set_other now n site m ne

    -- one site more
    pub snapped_more : (new' : List (Option (List ℕ))) → n < length new → PutsSnap f.plan sites n k m new new' → HaveSnapped f sites (n + 1) before (set now n m) old new'
    snapped_more new' room puts =
        subst (HaveSnapped f sites (n + 1) before (set now n m) old) (sym puts.rows) record {
          count = length-set now n m ∙ s.count;
          kept = length-set new n (Some puts.row) ∙ s.kept;
          made = λ site j is. elim (cases_eq site n) [
            | inl e ↦ subst (λ v. IsOf v f) (some_one m j (sym placed ∙ ap (slice_get (set now n m)) (sym e) ∙ is)) made
            | inr ne ↦ s.made site j (sym (other_place site ne) ∙ is)
          ];
          looked = λ site i j a b. elim (cases_eq site n) [
            | inl e ↦ looked_here i j (ap (slice_get before) (sym e) ∙ a) (ap (slice_get (set now n m)) (sym e) ∙ b)
            | inr ne ↦ s.looked site i j a (sym (other_place site ne) ∙ b)
          ];
          snapped = λ site i j l a b. elim (cases_eq site n) [
            | inl e ↦
                subst (λ v. HasSnapped f.plan sites v i j (held (set new n (Some puts.row)) v)) (sym e)
                (snapped_here i j (ap (slice_get before) (sym e) ∙ a) (ap (slice_get (set now n m)) (sym e) ∙ b))
            | inr ne ↦
                subst (HasSnapped f.plan sites site i j) (sym (held_other new n site puts.row ne)) (s.snapped site i j (omega arith) a (sym (other_place site ne) ∙ b))
          ];
          views = λ site l. other_place site (λ e. absurd (omega arith)) ∙ s.views site (omega arith);
          rows = λ site l. held_other new n site puts.row (λ e. absurd (omega arith)) ∙ s.rows site (omega arith);
        }
      where
        first_is : (i : Known) → slice_get before n ≡ Some i → k ≡ i
        first_is i a = some_one k i (sym here ∙ s.views n (omega arith) ∙ a)

        last_is : (j : Known) → slice_get (set now n m) n ≡ Some j → m ≡ j
        last_is j b = some_one m j (sym placed ∙ b)

        looked_here : (i j : Known) → slice_get before n ≡ Some i → slice_get (set now n m) n ≡ Some j → HasLookedOn i j
        looked_here i j a b = subst (λ v. HasLookedOn v j) (first_is i a) (subst (HasLookedOn k) (last_is j b) looked)

        snapped_here : (i j : Known) → slice_get before n ≡ Some i → slice_get (set now n m) n ≡ Some j → HasSnapped f.plan sites n i j (held (set new n (Some puts.row)) n)
        snapped_here i j a b =
            subst (HasSnapped f.plan sites n i j) (sym (held_same new n puts.row room))
            (subst (λ v. HasSnapped f.plan sites n v j (Some puts.row)) (first_is i a)
            (subst (λ v. HasSnapped f.plan sites n k v (Some puts.row)) (last_is j b) puts.snapped))

    -- one viewer that has looked on, and has put nothing
    pub looked_more : HaveLookedOn f before (set now n m)
    looked_more =
        record {
          count = length-set now n m ∙ s.count;
          each = λ site i j a b. elim (cases_eq site n) [
            | inl e ↦
                (let first = some_one k i (sym here ∙ s.views n (omega arith) ∙ ap (slice_get before) (sym e) ∙ a) in
                let last = some_one m j (sym placed ∙ ap (slice_get (set now n m)) (sym e) ∙ b) in
                (subst (λ v. IsOf v f) last made, subst (λ v. HasLookedOn v j) first (subst (HasLookedOn k) last looked)))
            | inr ne ↦ (s.made site j (sym (other_place site ne) ∙ b), s.looked site i j a (sym (other_place site ne) ∙ b))
          ];
        }

    pub rows_more : sites ≡ length now → ChangesRows f.plan old new (set now n m)
    rows_more counted =
        record {
          sites = s.kept;
          each = λ site j is. elim (cases_eq site n) [
            | inl e ↦ inl (s.rows site (omega arith))
            | inr ne ↦
                subst (λ c. (held new site ≡ held old site) ⊎ ((row : List ℕ) × held new site ≡ Some row × IsBackedRow f.plan c site row j)) (sym (length-set now n m))
                ((snapped_rows counted).each site j (sym (other_place site ne) ∙ is))
          ];
        }

-- rows that were backed before are backed again
pub backed_still :
    (f : Frame) (before now : List Known) (old new : List (Option (List ℕ))) → HaveLookedOn f before now → ChangesRows f.plan old new now → AreBacked f.plan old before →
    AreBacked f.plan new now
backed_still f before now old new looked changes backed site row m is has =
    elim (changes.each site m is) [
      | inl same ↦
          (let (k, there) = is_there before site (λ l. let within = slice_get_within now site m is in let count = looked.count in omega arith) in
          let (ss, of, is_backed) = backed site row k there (sym same ∙ has) in
          (ss, subst (λ c. IsRowOf c site ss row) (sym looked.count) of, backed_later f.plan ss k m is_backed (looked.each site k m there is).1))
      | inr (row', held_is, is_backed) ↦ subst (λ v. IsBackedRow f.plan (length now) site v m) (some_one row' row (sym held_is ∙ has)) is_backed
    ]

-- the same after a check, which changes no row
pub backed_after :
    (f : Frame) (before now : List Known) (old mid new : List (Option (List ℕ))) → HaveLookedOn f (map (λ s. s) before) (map (λ s. s) now) →
    ChangesRows f.plan old mid (map (λ s. s) now) → new ≡ mid → AreBacked f.plan old before → AreBacked f.plan new now
backed_after f before now old mid new looked rows same =
    let looked_now : HaveLookedOn f before now =
    subst (λ xs. HaveLookedOn f xs now) (map-id before) (subst (λ xs. HaveLookedOn f (map (λ s. s) before) xs) (map-id now) looked) in
    let changes : ChangesRows f.plan old new now = subst (λ r. ChangesRows f.plan old r now) (sym same) (subst (ChangesRows f.plan old mid) (map-id now) rows) in
    backed_still f before now old new looked_now changes
