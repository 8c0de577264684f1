-- What is said of impeders, by numbers.
use Rattle.std.proofs.Common.{◌≡◌, ℕ, zero, suc, ◌+◌, ◌<◌, ◌≤◌, Bool, true, false, Option, Some, None, List, [], ◌∷◌, ◌++◌, length, get_or, take, arith, sym, ◌∙◌, ap, subst, refl, inl, inr, append_assoc, flat_map}
use Rattle.std.specs.Prelude.{◌&&◌, ◌==◌, ◌||◌, if◌then◌else◌, map, slice_get}
use Rattle.std.specs.List.{list_any}
use Rattle.std.specs.Str.{bytes_eq}
use Rattle.std.proofs.lemmas.Bool.{cases_Bool, cases_eq, ne_eqb, eq-eqb}
use Rattle.std.proofs.lemmas.List.{append-nil, get_or_append_left, get_or_push, length_push, length-map, map-append, take_more}
use Rattle.std.proofs.lemmas.List.Elements.{Contains-get_or}
use Rattle.std.proofs.lemmas.Grind.{flat_map-append}
use Rattle.explain_facts.specs.declared.account.Waiting.{Waiting}
use Rattle.armus_base.specs.declared.ids.TaskId.{TaskId}
use Rattle.armus_base.specs.States.{Phases}
use Rattle.explain_tasks.specs.declared.grouping.Grouping.{Grouping}
use Rattle.explain_tasks.specs.declared.impeders.Impeder.{Impeder}
use Rattle.explain_tasks.specs.Facts.{FactsValue, situation_of, wait_of}
use Rattle.explain_tasks.specs.Groups.{each_once}
use Rattle.explain_tasks.specs.Impeders.{impeders_by, impeders_in, impeders_by_facts}
use Rattle.explain_tasks.specs.Places.{drawn_name}
use Rattle.explain_tasks.specs.Sayings.{Said, impeder_forking, impeder_next, impeder_said, impeder_words, same_forking, same_said}
use Rattle.explain_tasks.specs.calls.Grouped.{IsGrouped, NotesSaid}
use Rattle.explain_tasks.proofs.EachOnce as each
use Rattle.explain_tasks.proofs.GroupedTasks.{at_contains}
use Rattle.explain_tasks.proofs.SameSaid.{same_said_is, same_said_itself}
use Rattle.explain_deadlock.specs.ImpederLines.{group_line, group_of, lines_by, rest_line, rest_of, told_of}
use Rattle.explain_deadlock.specs.inside.Numbered.{AddsFirst, AreNumbers, AreWithin, said_at}
use Rattle.explain_deadlock.proofs.ImpedersAre.{impeder_is}

-- ---- the numbers are made

-- what stands at a place stands there with more behind it
at_more : {A : Type 0} (xs ys : List A) (k : ℕ) (x : A) → slice_get xs k ≡ Some x → slice_get (xs ++ ys) k ≡ Some x
at_more [] ys k x e = absurd (cc)
at_more (z ∷ zs) ys zero x e = e
at_more (z ∷ zs) ys (suc k) x e = at_more zs ys k x e

-- what was said stays where it is when more is said
stays : (order : List Said) (s : Said) (k : ℕ) (x : Said) → slice_get (each_once same_said order) k ≡ Some x → slice_get (each_once same_said (order ++ s ∷ [])) k ≡ Some x
stays order s k x e =
    ap (λ xs. slice_get xs k) (each.once_push same_said same_said_is same_said_itself order s)
    ∙ by (list_any (same_said s) (each_once same_said order))
  where
    by : (b : Bool) → slice_get (if b then each_once same_said order else each_once same_said order ++ s ∷ []) k ≡ Some x
    by true = e
    by false = at_more (each_once same_said order) (s ∷ []) k x e

-- the first so many tasks have their numbers
pub record AreNumbersBelow (f : FactsValue) (n : ℕ) (numbers : List ℕ) (said : Grouping) : Type 0 where
  pub order : List Said
  pub grouped : IsGrouped order [] said
  pub sized : length numbers ≡ n
  pub each : (u : ℕ) → u < n → slice_get (each_once same_said order) (get_or numbers u 0) ≡ Some (said_at f u)

pub one_more :
    (f : FactsValue) (n at : ℕ) (numbers : List ℕ) (old new : Grouping) (s : Said) → s ≡ said_at f n → AreNumbersBelow f n numbers old → NotesSaid s old new at →
    AreNumbersBelow f (n + 1) (numbers ++ at ∷ []) new
one_more f n at numbers old new s is have notes =
    let noted = notes have.order [] have.grouped in
    record {
      order = have.order ++ s ∷ [];
      grouped = noted.0;
      sized = length_push numbers at ∙ ap (λ k. k + 1) have.sized;
      each = λ u lt. elim (cases_eq u n) [
        | inl e ↦
            let here : get_or (numbers ++ at ∷ []) u 0 ≡ at = get_or_push numbers at 0 u (have.sized ∙ sym e) in
            rw here (noted.2 ∙ ap Some (is ∙ ap (said_at f) (sym e)))
        | inr ne ↦
            let before : get_or (numbers ++ at ∷ []) u 0 ≡ get_or numbers u 0 = get_or_append_left numbers (at ∷ []) 0 u (omega (arith, have.sized)) in
            rw before (stays have.order s (get_or numbers u 0) (said_at f u) (have.each u (omega arith)))
      ];
    }

other_way : (a b : Said) → same_said b a ≡ false → same_said a b ≡ false
other_way a b off = elim (cases_Bool (same_said a b)) [
  | inl on ↦ (let e = same_said_is a b on in let r = subst (λ y. same_said y a ≡ true) e (same_said_itself a) in absurd (cc))
  | inr out ↦ out
]

-- where each thing is said once, two places have the same just where they are one
one_place : (xs : List Said) (i j : ℕ) (a b : Said) → each.AreOnce same_said same_said_is same_said_itself xs → slice_get xs i ≡ Some a → slice_get xs j ≡ Some b →
    (i == j) ≡ same_said a b
one_place [] i j a b once at there = absurd (cc)
one_place (x ∷ xs) zero zero a b once at there =
    let e : a ≡ b = cc in
    eq-eqb 0 0 refl ∙ sym (subst (λ y. same_said a y ≡ true) e (same_said_itself a))
one_place (x ∷ xs) zero (suc j) a b once at there =
    let e : x ≡ a = cc in
    ne_eqb 0 (suc j) (λ s. omega arith) ∙ sym (subst (λ y. same_said y b ≡ false) e (once.0 b (at_contains xs j b there)))
one_place (x ∷ xs) (suc i) zero a b once at there =
    let e : x ≡ b = cc in
    ne_eqb (suc i) 0 (λ s. omega arith) ∙ sym (other_way a b (subst (λ y. same_said y a ≡ false) e (once.0 a (at_contains xs i a at))))
one_place (x ∷ xs) (suc i) (suc j) a b once at there =
    less i j ∙ one_place xs i j a b once.1 at there
  where
    less : (m n : ℕ) → (suc m == suc n) ≡ (m == n)
    less m n = elim (cases_eq m n) [
      | inl e ↦ eq-eqb (suc m) (suc n) (ap suc e) ∙ sym (eq-eqb m n e)
      | inr ne ↦ ne_eqb (suc m) (suc n) (λ s. ne (omega arith)) ∙ sym (ne_eqb m n ne)
    ]

pub numbers_are : (f : FactsValue) (numbers : List ℕ) (said : Grouping) → AreNumbersBelow f (length f.standings) numbers said → AreNumbers f numbers
numbers_are f numbers said have =
    record {
      sized = have.sized;
      same = λ u v lt lt'.
          one_place (each_once same_said have.order) (get_or numbers u 0) (get_or numbers v 0) (said_at f u) (said_at f v)
          (each.are_once same_said same_said_is same_said_itself have.order) (have.each u lt) (have.each v lt');
    }

-- ---- impeders by their numbers

regroup : (n p w g x : Bool) → (p && ((true && (n && (true && (w && (true && (g && true)))))) && x)) ≡ (true && (n && (p && (w && (true && (g && x))))))
regroup true true true true x = refl
regroup true true true false x = refl
regroup true true false g x = refl
regroup true false w g x = refl
regroup false true w g x = refl
regroup false false w g x = refl

-- where the phases are the same and the numbers, what is said is the same just where what comes next is
pub same_by_number :
    (f : FactsValue) (numbers : List ℕ) (a b : Impeder) → AreNumbers f numbers → a.t.0 < length numbers → b.t.0 < length numbers →
    ((a.phase == b.phase) && ((get_or numbers a.t.0 0 == get_or numbers b.t.0 0) && bytes_eq (impeder_next f a) (impeder_next f b)))
    ≡ same_said (impeder_said f a) (impeder_said f b)
same_by_number f numbers a b are lt lt' =
    ap (λ x. (a.phase == b.phase) && (x && bytes_eq (impeder_next f a) (impeder_next f b)))
    (are.same a.t.0 b.t.0 (subst (λ n. a.t.0 < n) are.sized lt) (subst (λ n. b.t.0 < n) are.sized lt'))
    ∙ regroup (bytes_eq (drawn_name f a.t.0) (drawn_name f b.t.0)) (a.phase == b.phase)
    (bytes_eq (impeder_words f a.t.0 (situation_of f a.t.0)) (impeder_words f b.t.0 (situation_of f b.t.0)))
    (same_forking (impeder_forking f a.t.0 (situation_of f a.t.0)) (impeder_forking f b.t.0 (situation_of f b.t.0)))
    (bytes_eq (impeder_next f a) (impeder_next f b))

-- where the numbers differ, what is said does
pub other_by_number :
    (f : FactsValue) (numbers : List ℕ) (a b : Impeder) → AreNumbers f numbers → a.t.0 < length numbers → b.t.0 < length numbers →
    (get_or numbers a.t.0 0 == get_or numbers b.t.0 0) ≡ false → false ≡ same_said (impeder_said f a) (impeder_said f b)
other_by_number f numbers a b are lt lt' off =
    let next = bytes_eq (impeder_next f a) (impeder_next f b) in
    sym (ap (λ x. (a.phase == b.phase) && (x && next)) off ∙ never (a.phase == b.phase)) ∙ same_by_number f numbers a b are lt lt'
  where
    never : (p : Bool) → (p && false) ≡ false
    never true = refl
    never false = refl

-- where they are the same, and the phases, what comes next decides
pub next_by_number :
    (f : FactsValue) (numbers : List ℕ) (a b : Impeder) → AreNumbers f numbers → a.t.0 < length numbers → b.t.0 < length numbers →
    (a.phase == b.phase) ≡ true → (get_or numbers a.t.0 0 == get_or numbers b.t.0 0) ≡ true →
    bytes_eq (impeder_next f a) (impeder_next f b) ≡ same_said (impeder_said f a) (impeder_said f b)
next_by_number f numbers a b are lt lt' phase number =
    let next = bytes_eq (impeder_next f a) (impeder_next f b) in
    sym (ap (λ p. p && ((get_or numbers a.t.0 0 == get_or numbers b.t.0 0) && next)) phase ∙ ap (λ x. x && next) number) ∙ same_by_number f numbers a b are lt lt'

-- ---- the first three things that are said

any_first : (n : ℕ) (q : Said → Bool) (xs : List Said) → list_any q (take n xs) ≡ true → list_any q xs ≡ true
any_first zero q xs e = absurd (cc)
any_first (suc n) q [] e = e
any_first (suc n) q (x ∷ xs) e = step (q x) (any_first n q xs) e
  where
    step : (b : Bool) → (list_any q (take n xs) ≡ true → list_any q xs ≡ true) → (b || list_any q (take n xs)) ≡ true → (b || list_any q xs) ≡ true
    step true rest e' = refl
    step false rest e' = rest e'

full_first : (n : ℕ) (xs ys : List Said) → n ≤ length (take n xs) → take n (xs ++ ys) ≡ take n xs
full_first zero xs ys le = refl
full_first (suc n) [] ys le = absurd (omega arith)
full_first (suc n) (x ∷ xs) ys le = ap (λ zs. x ∷ zs) (full_first n xs ys (omega arith))

few_first : (n : ℕ) (xs : List Said) (y : Said) → length (take n xs) < n → (take n (xs ++ y ∷ []) ≡ take n xs ++ y ∷ []) × (take n xs ≡ xs)
few_first zero xs y lt = absurd (omega arith)
few_first (suc n) [] y lt = (take_none n y, refl)
  where
    take_none : (n : ℕ) (y : Said) → y ∷ take n [] ≡ y ∷ []
    take_none zero y = refl
    take_none (suc n) y = refl
few_first (suc n) (x ∷ xs) y lt = let rest = few_first n xs y (omega arith) in (ap (λ zs. x ∷ zs) rest.0, ap (λ zs. x ∷ zs) rest.1)

module _ (f : FactsValue) (old : List Impeder) (x : Impeder) where
  abbrev told : List Said
  told = map (impeder_said f) old

  abbrev s : Said
  s = impeder_said f x

  -- there are three
  pub adds_none_full : 3 ≤ length old → AddsFirst f (s ∷ []) old old
  adds_none_full full order is =
      let le : 3 ≤ length (take 3 (each_once same_said order)) = (let n = ap length is in let m : length told ≡ length old = length-map old (impeder_said f) in omega arith) in
      is ∙ sym (ap (λ xs. take 3 xs) (each.once_push same_said same_said_is same_said_itself order s) ∙ by (list_any (same_said s) (each_once same_said order)) le)
    where
      by : (b : Bool) → 3 ≤ length (take 3 (each_once same_said order)) →
          take 3 (if b then each_once same_said order else each_once same_said order ++ s ∷ []) ≡ take 3 (each_once same_said order)
      by true le' = refl
      by false le' = full_first 3 (each_once same_said order) (s ∷ []) le'

  turned : (xs : List Said) (y : Said) → list_any (λ z. same_said z y) xs ≡ list_any (same_said y) xs
  turned [] y = refl
  turned (z ∷ zs) y = ap (λ b. b || list_any (λ w. same_said w y) zs) (both z y) ∙ ap (λ b. same_said y z || b) (turned zs y)
    where
      both : (a b : Said) → same_said a b ≡ same_said b a
      both a b = elim (cases_Bool (same_said b a)) [
        | inl on ↦ (let e = same_said_is b a on in subst (λ w. same_said w b ≡ same_said b w) e refl)
        | inr off ↦ other_way a b off ∙ sym off
      ]

  -- it is told already
  pub adds_none_told : list_any (λ said. same_said said s) told ≡ true → AddsFirst f (s ∷ []) old old
  adds_none_told there order is =
      let found : list_any (same_said s) (each_once same_said order) ≡ true =
      any_first 3 (same_said s) (each_once same_said order) (ap (list_any (same_said s)) (sym is) ∙ sym (turned told s) ∙ there) in
      is ∙ sym (ap (λ xs. take 3 xs) (each.once_push same_said same_said_is same_said_itself order s ∙ each.insert_found same_said same_said_is same_said_itself (each_once same_said order) s found))

  -- it is added
  pub adds_one : length old < 3 → list_any (λ said. same_said said s) told ≡ false → AddsFirst f (s ∷ []) old (old ++ x ∷ [])
  adds_one few none order is =
      let n : length (take 3 (each_once same_said order)) < 3 = (let n = ap length is in let m : length told ≡ length old = length-map old (impeder_said f) in omega arith) in
      let short = few_first 3 (each_once same_said order) s n in
      let fresh : list_any (same_said s) (each_once same_said order) ≡ false =
      ap (list_any (same_said s)) (sym short.1 ∙ sym is) ∙ sym (turned told s) ∙ none in
      map-append (impeder_said f) old (x ∷ []) ∙ ap (λ xs. xs ++ s ∷ []) is ∙ sym short.0
      ∙ sym (ap (λ xs. take 3 xs) (each.once_push same_said same_said_is same_said_itself order s ∙ each.insert_new same_said same_said_is same_said_itself (each_once same_said order) s fresh))

-- more and then more is added
pub adds_more :
    (f : FactsValue) (impeders : List Impeder) (i : ℕ) (d : Impeder) (start old new : List Impeder) → i < length impeders →
    AddsFirst f (map (impeder_said f) (take i impeders)) start old → AddsFirst f (impeder_said f (get_or impeders i d) ∷ []) old new →
    AddsFirst f (map (impeder_said f) (take (i + 1) impeders)) start new
adds_more f impeders i d start old new lt before here order is =
    let say = impeder_said f in
    let x = get_or impeders i d in
    let more : map say (take (i + 1) impeders) ≡ map say (take i impeders) ++ say x ∷ [] =
    ap (map say) (take_more impeders i d lt) ∙ map-append say (take i impeders) (x ∷ []) in
    here (order ++ map say (take i impeders)) (before order is)
    ∙ ap (λ xs. take 3 (each_once same_said xs)) (append_assoc order (map say (take i impeders)) (say x ∷ []) ∙ ap (λ xs. order ++ xs) (sym more))

-- the lines of one more group
pub lines_more :
    {A : Type 0} (say : A → Said) (text : Said → List ℕ) (xs : List A) (i : ℕ) (d : A) (start old new : List ℕ) → i < length xs →
    old ≡ start ++ flat_map text (map say (take i xs)) → new ≡ old ++ text (say (get_or xs i d)) → new ≡ start ++ flat_map text (map say (take (i + 1) xs))
lines_more say text xs i d start old new lt before here =
    let x = get_or xs i d in
    let more : map say (take (i + 1) xs) ≡ map say (take i xs) ++ say x ∷ [] = ap (map say) (take_more xs i d lt) ∙ map-append say (take i xs) (x ∷ []) in
    here ∙ ap (λ zs. zs ++ text (say x)) before ∙ append_assoc start (flat_map text (map say (take i xs))) (text (say x))
    ∙ ap (λ zs. start ++ zs)
    (ap (λ zs. flat_map text (map say (take i xs)) ++ zs) (sym (append-nil (text (say x)))) ∙ sym (flat_map-append text (map say (take i xs)) (say x ∷ []))
    ∙ ap (flat_map text) (sym more))

-- the impeders of a task are tasks
pub impeders_within : (f : FactsValue) (phases : ℕ → Phases) (t : ℕ) → AreWithin (length f.standings) (impeders_by_facts f phases t)
impeders_within f phases t = by_wait (wait_of f t)
  where
    by_wait : (w : Option Waiting) → AreWithin (length f.standings) (impeders_by (length f.standings) phases w)
    by_wait None k d lt = absurd (omega arith)
    by_wait (Some w) k d lt =
        let all = impeders_in (length f.standings) phases w.event in
        (impeder_is (length f.standings) phases w.event (get_or all k d) (Contains-get_or all k d lt)).0

-- the lines by the first three things that are said
pub lines_are :
    (f : FactsValue) (n : ℕ) (next : Option TaskId) (impeders firsts : List Impeder) → map (impeder_said f) firsts ≡ take 3 (told_of f next impeders) →
    flat_map (λ said. group_line f n said (group_of f impeders said)) (map (impeder_said f) firsts) ++ rest_line f (rest_of f impeders (map (impeder_said f) firsts))
    ≡ lines_by f n next impeders
lines_are f n next impeders firsts told =
    ap (λ ks. flat_map (λ said. group_line f n said (group_of f impeders said)) ks ++ rest_line f (rest_of f impeders ks)) told
