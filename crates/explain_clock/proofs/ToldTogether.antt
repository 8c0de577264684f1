-- Activities of which the same is said.
use Rattle.std.proofs.Common.{◌≡◌, ℕ, zero, suc, ◌+◌, ◌<◌, Bool, true, false, List, [], ◌∷◌, ◌++◌, length, get_or, take, sym, ◌∙◌, ap, refl, append_assoc, append-nil, cond, Vec, Global}
use Rattle.std.specs.Prelude.{count_by, filter, if◌then◌else◌, map, not, ◌||◌}
use Rattle.std.specs.List.{flat_map, list_any}
use Rattle.std.specs.Str.{bytes_eq}
use Rattle.std.proofs.lemmas.Grind.{flat_map-append}
use Rattle.std.proofs.lemmas.List.{map-append, take_more}
use Rattle.std.proofs.lemmas.List.Elements.{filter_more}
use Rattle.std.proofs.lemmas.List.Sums.{sum_by-cons}
use Rattle.std.proofs.lemmas.Slice.Eq.{bytes_eq-Decides}
use Rattle.armus_base.specs.declared.ids.TaskId.{TaskId}
use Rattle.explain_tasks.specs.Groups.{each_once}
use Rattle.explain_tasks.proofs.EachOnce as each
use Rattle.explain_clock.specs.ActivityLists.{those_said}
use Rattle.explain_clock.specs.ClockKeepers.{others_in}
use Rattle.explain_clock.specs.declared.together.ActivityTold.{ActivityTold}
use Rattle.explain_clock.specs.inside.ToldTogether.{AddsSayings, AreToldAs, ActivitySaid, activity_of, is_said_of, is_untold, activity_said_as, told_said, says_it, said_bytes, words_told}

pub bytes_is : (xs ys : List ℕ) → bytes_eq xs ys ≡ true → xs ≡ ys
bytes_is xs ys e = (bytes_eq-Decides xs ys).0 e

pub bytes_itself : (xs : List ℕ) → bytes_eq xs xs ≡ true
bytes_itself xs = (bytes_eq-Decides xs xs).1 refl

-- ---- sayings

-- it is said by words just where it is one of what they say
pub any_words : (said : List ℕ) (vs : List (Vec ℕ Global)) → list_any (says_it said) vs ≡ list_any (bytes_eq said) (map said_bytes vs)
any_words said [] = refl
any_words said (v ∷ vs) = ap (λ b. bytes_eq said v.items || b) (any_words said vs)

-- the words of the first ones
pub few_words : (n : ℕ) (vs : List (Vec ℕ Global)) → map said_bytes (take n vs) ≡ take n (map said_bytes vs)
few_words zero vs = refl
few_words (suc n) [] = refl
few_words (suc n) (v ∷ vs) = ap (λ ws. v.items ∷ ws) (few_words n vs)

-- what is there is not added
pub adds_none : (said : List ℕ) (old : List (Vec ℕ Global)) → list_any (says_it said) old ≡ true → AddsSayings (said ∷ []) old old
adds_none said old there = λ order is.
    is ∙ sym (each.once_push bytes_eq bytes_is bytes_itself order said
    ∙ each.insert_found bytes_eq bytes_is bytes_itself (each_once bytes_eq order) said (ap (list_any (bytes_eq said)) (sym is) ∙ sym (any_words said old) ∙ there))

-- and what is not there is
pub adds_one : (said : List ℕ) (v : Vec ℕ Global) (old new : List (Vec ℕ Global)) → list_any (says_it said) old ≡ false → v.items ≡ said → new ≡ old ++ v ∷ []
    → AddsSayings (said ∷ []) old new
adds_one said v old new other same pushed = λ order is.
    ap (map said_bytes) pushed ∙ map-append said_bytes old (v ∷ []) ∙ ap (λ w. map said_bytes old ++ w ∷ []) same ∙ ap (λ zs. zs ++ said ∷ []) is
    ∙ sym (each.once_push bytes_eq bytes_is bytes_itself order said
    ∙ each.insert_new bytes_eq bytes_is bytes_itself (each_once bytes_eq order) said (ap (list_any (bytes_eq said)) (sym is) ∙ sym (any_words said old) ∙ other))

pub adds_first : (old : List (Vec ℕ Global)) → AddsSayings [] old old
adds_first old = λ order is. is ∙ ap (each_once bytes_eq) (sym (append-nil order))

pub adds_next : (told : List ActivityTold) (i : ℕ) (d : ActivityTold) (start old new : List (Vec ℕ Global)) → i < length told → AddsSayings (map words_told (take i told)) start old
    → AddsSayings (words_told (get_or told i d) ∷ []) old new → AddsSayings (map words_told (take (i + 1) told)) start new
adds_next told i d start old new lt before one = λ order is.
    let x = words_told (get_or told i d) in
    let more : map words_told (take (i + 1) told) ≡ map words_told (take i told) ++ x ∷ [] =
    ap (map words_told) (take_more told i d lt) ∙ map-append words_told (take i told) (get_or told i d ∷ []) in
    one (order ++ map words_told (take i told)) (before order is)
    ∙ ap (each_once bytes_eq) (append_assoc order (map words_told (take i told)) (x ∷ []) ∙ ap (λ zs. order ++ zs) (sym more))

-- ---- those of whom it is said

-- of one more, where it passes
pub keep_more : {A B : Type 0} (g : A → B) (p : A → Bool) (xs : List A) (i : ℕ) (d : A) → i < length xs →
    map g (filter p (take i xs)) ++ (if p (get_or xs i d) then g (get_or xs i d) ∷ [] else []) ≡ map g (filter p (take (i + 1) xs))
keep_more {A} g p xs i d lt =
    let x = get_or xs i d in
    sym (ap (map g) (filter_more p xs i d lt) ∙ map-append g (filter p (take i xs)) (cond (p x) (x ∷ []) [])
    ∙ ap (λ zs. map g (filter p (take i xs)) ++ zs) (only x (p x)))
  where
    only : (x : A) (b : Bool) → map g (cond b (x ∷ []) []) ≡ (if b then g x ∷ [] else [])
    only x true = refl
    only x false = refl

module _ (says : ℕ → List ℕ) where
  heads : (p : ActivityTold) (t : TaskId) (ps : List ActivityTold) (ts : List TaskId) → map told_said (p ∷ ps) ≡ map (activity_said_as says) (t ∷ ts) → told_said p ≡ activity_said_as says t
  heads p t ps ts e = cc

  tails : (p : ActivityTold) (t : TaskId) (ps : List ActivityTold) (ts : List TaskId) → map told_said (p ∷ ps) ≡ map (activity_said_as says) (t ∷ ts) → map told_said ps ≡ map (activity_said_as says) ts
  tails p t ps ts e = cc

  pub words_are : (ts : List TaskId) (told : List ActivityTold) → AreToldAs says ts told → map words_told told ≡ map (λ (t : TaskId). says t.0) ts
  words_are [] [] e = refl
  words_are [] (p ∷ ps) e = absurd (cc)
  words_are (t ∷ ts) [] e = absurd (cc)
  words_are (t ∷ ts) (p ∷ ps) e =
      ap (λ (s : ActivitySaid). s.said ∷ map words_told ps) (heads p t ps ts e) ∙ ap (λ zs. says t.0 ∷ zs) (words_are ts ps (tails p t ps ts e))

  pub those_are : (said : List ℕ) (ts : List TaskId) (told : List ActivityTold) → AreToldAs says ts told → map activity_of (filter (is_said_of said) told) ≡ those_said says ts said
  those_are said [] [] e = refl
  those_are said [] (p ∷ ps) e = absurd (cc)
  those_are said (t ∷ ts) [] e = absurd (cc)
  those_are said (t ∷ ts) (p ∷ ps) e =
      let head = heads p t ps ts e in
      let same : is_said_of said p ≡ bytes_eq said (says t.0) = ap (λ (s : ActivitySaid). bytes_eq said s.said) head in
      let it : p.activity ≡ t = ap (λ (s : ActivitySaid). s.activity) head in
      ap (λ b. map activity_of (if b then p ∷ filter (is_said_of said) ps else filter (is_said_of said) ps)) same
      ∙ by (bytes_eq said (says t.0)) it (those_are said ts ps (tails p t ps ts e))
    where
      by : (b : Bool) → p.activity ≡ t → map activity_of (filter (is_said_of said) ps) ≡ those_said says ts said →
          map activity_of (if b then p ∷ filter (is_said_of said) ps else filter (is_said_of said) ps) ≡ (if b then t ∷ those_said says ts said else those_said says ts said)
      by true it rest = ap (λ x. x ∷ map activity_of (filter (is_said_of said) ps)) it ∙ ap (λ xs. t ∷ xs) rest
      by false it rest = rest

  pub others_are : (sayings : List (Vec ℕ Global)) (ts : List TaskId) (told : List ActivityTold) → AreToldAs says ts told →
      count_by (is_untold sayings) told ≡ others_in says ts (map said_bytes sayings)
  others_are sayings [] [] e = refl
  others_are sayings [] (p ∷ ps) e = absurd (cc)
  others_are sayings (t ∷ ts) [] e = absurd (cc)
  others_are sayings (t ∷ ts) (p ∷ ps) e =
      let q : TaskId → Bool = λ (u : TaskId). not (list_any (bytes_eq (says u.0)) (map said_bytes sayings)) in
      let same : is_untold sayings p ≡ q t =
      ap (λ (s : ActivitySaid). not (list_any (says_it s.said) sayings)) (heads p t ps ts e) ∙ ap not (any_words (says t.0) sayings) in
      sum_by-cons (λ (x : ActivityTold). cond (is_untold sayings x) 1 0) p ps
      ∙ ap (λ b. cond b 1 0 + count_by (is_untold sayings) ps) same
      ∙ ap (λ n. cond (q t) 1 0 + n) (others_are sayings ts ps (tails p t ps ts e))
      ∙ sym (sum_by-cons (λ (u : TaskId). cond (q u) 1 0) t ts)

  -- one more is told
  pub told_next : (ts : List TaskId) (i : ℕ) (d : TaskId) (old new : List ActivityTold) (p : ActivityTold) → i < length ts → AreToldAs says (take i ts) old → new ≡ old ++ p ∷ [] →
      p.said.items ≡ says (get_or ts i d).0 → p.activity ≡ get_or ts i d → AreToldAs says (take (i + 1) ts) new
  told_next ts i d old new p lt before pushed said it =
      let t = get_or ts i d in
      let here : told_said p ≡ activity_said_as says t = same p.said.items (says t.0) p.activity t said it in
      ap (map told_said) pushed ∙ map-append told_said old (p ∷ []) ∙ ap (λ zs. zs ++ told_said p ∷ []) before ∙ ap (λ s. map (activity_said_as says) (take i ts) ++ s ∷ []) here
      ∙ sym (ap (map (activity_said_as says)) (take_more ts i d lt) ∙ map-append (activity_said_as says) (take i ts) (t ∷ []))
    where
      same : (a b : List ℕ) (x y : TaskId) → a ≡ b → x ≡ y → let s : ActivitySaid = record { said = a; activity = x } in let r : ActivitySaid = record { said = b; activity = y } in s ≡ r
      same a b x y e f = cc

-- ---- what is written

-- of one more of what is said
pub texts_next : (text : List ℕ → List ℕ) (vs : List (Vec ℕ Global)) (i : ℕ) (d : Vec ℕ Global) (start old new : List ℕ) → i < length vs →
    old ≡ start ++ flat_map text (map said_bytes (take i vs)) → new ≡ old ++ text (said_bytes (get_or vs i d)) → new ≡ start ++ flat_map text (map said_bytes (take (i + 1) vs))
texts_next text vs i d start old new lt before here =
    let x = get_or vs i d in
    let more : map said_bytes (take (i + 1) vs) ≡ map said_bytes (take i vs) ++ said_bytes x ∷ [] =
    ap (map said_bytes) (take_more vs i d lt) ∙ map-append said_bytes (take i vs) (x ∷ []) in
    here ∙ ap (λ zs. zs ++ text (said_bytes x)) before ∙ append_assoc start (flat_map text (map said_bytes (take i vs))) (text (said_bytes x))
    ∙ ap (λ zs. start ++ zs)
    (ap (λ zs. flat_map text (map said_bytes (take i vs)) ++ zs) (sym (append-nil (text (said_bytes x))))
    ∙ sym (flat_map-append text (map said_bytes (take i vs)) (said_bytes x ∷ [])) ∙ ap (flat_map text) (sym more))
