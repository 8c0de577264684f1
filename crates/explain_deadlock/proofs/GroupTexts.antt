-- What is written of the first groups, and of one more.
use Rattle.std.proofs.Common.{◌≡◌, ℕ, zero, suc, ◌+◌, ◌<◌, List, [], ◌∷◌, ◌++◌, length, get_or, take, arith, sym, ◌∙◌, ap, subst, refl, append_assoc, flat_map, Vec, Global, add-one}
use Rattle.std.specs.Prelude.{map}
use Rattle.armus_base.specs.declared.ids.TaskId.{TaskId}
use Rattle.explain_tasks.specs.Sayings.{Said}
use Rattle.explain_deadlock.specs.inside.GroupTexts.{texts_in}
use Rattle.explain_tasks.specs.calls.SayingValues.{said_by}
use Rattle.explain_tasks.specs.declared.saying.Saying.{Saying}

module _ (text : Said → List TaskId → List ℕ) where
  -- of one more saying and its group
  more : (k : ℕ) (sayings : List Saying) (groups : List (Vec TaskId Global)) (s : Saying) (g : Vec TaskId Global) → k < length sayings → k < length groups
      → texts_in text (take (suc k) sayings) (take (suc k) groups) ≡ texts_in text (take k sayings) (take k groups) ++ text (said_by (get_or sayings k s)) (get_or groups k g).items
  more k [] groups s g l m = absurd (omega arith)
  more k (x ∷ xs) [] s g l m = absurd (omega arith)
  more zero (x ∷ xs) (y ∷ ys) s g l m = append-nil' (text (said_by x) y.items)
    where
      append-nil' : (zs : List ℕ) → zs ++ [] ≡ zs
      append-nil' [] = refl
      append-nil' (z ∷ zs) = ap (λ ws. z ∷ ws) (append-nil' zs)
  more (suc k) (x ∷ xs) (y ∷ ys) s g l m =
      ap (λ zs. text (said_by x) y.items ++ zs) (more k xs ys s g (omega arith) (omega arith))
      ∙ sym (append_assoc (text (said_by x) y.items) (texts_in text (take k xs) (take k ys)) (text (said_by (get_or xs k s)) (get_or ys k g).items))

  pub one_more : (k : ℕ) (sayings : List Saying) (groups : List (Vec TaskId Global)) (s : Saying) (g : Vec TaskId Global) → k < length sayings → k < length groups
      → texts_in text (take (k + 1) sayings) (take (k + 1) groups) ≡ texts_in text (take k sayings) (take k groups) ++ text (said_by (get_or sayings k s)) (get_or groups k g).items
  one_more k sayings groups s g l m =
      subst (λ n. texts_in text (take n sayings) (take n groups) ≡ texts_in text (take k sayings) (take k groups) ++ text (said_by (get_or sayings k s)) (get_or groups k g).items)
      (sym (add-one k)) (more k sayings groups s g l m)

  -- where each group is what a function gives for what is said, the texts are those of what is said
  pub texts_are : (members : Said → List TaskId) (sayings : List Saying) (groups : List (Vec TaskId Global)) → map (λ (v : Vec TaskId Global). v.items) groups ≡ map members (map said_by sayings)
      → texts_in text sayings groups ≡ flat_map (λ said. text said (members said)) (map said_by sayings)
  texts_are members [] groups e = refl
  texts_are members (s ∷ ss) [] e = absurd (cc)
  texts_are members (s ∷ ss) (g ∷ gs) e =
      let head : g.items ≡ members (said_by s) = cc in
      let tail : map (λ (v : Vec TaskId Global). v.items) gs ≡ map members (map said_by ss) = cc in
      ap (λ tasks. text (said_by s) tasks ++ texts_in text ss gs) head ∙ ap (λ zs. text (said_by s) (members (said_by s)) ++ zs) (texts_are members ss gs tail)

  -- a text that goes on with one more
  pub grown : (k : ℕ) (sayings : List Saying) (groups : List (Vec TaskId Global)) (s : Saying) (g : Vec TaskId Global) (tasks : List TaskId) → k < length sayings → k < length groups
      → s ≡ get_or sayings k s → g ≡ get_or groups k g → tasks ≡ g.items → (start out new : List ℕ)
      → out ≡ start ++ texts_in text (take k sayings) (take k groups) → new ≡ out ++ text (said_by s) tasks
      → new ≡ start ++ texts_in text (take (k + 1) sayings) (take (k + 1) groups)
  grown k sayings groups s g tasks l m es eg et start out new before here =
      here ∙ ap (λ o. o ++ text (said_by s) tasks) before
      ∙ append_assoc start (texts_in text (take k sayings) (take k groups)) (text (said_by s) tasks)
      ∙ ap (λ zs. start ++ (texts_in text (take k sayings) (take k groups) ++ text (said_by s) zs)) (et ∙ ap (λ (v : Vec TaskId Global). v.items) eg)
      ∙ ap (λ z. start ++ (texts_in text (take k sayings) (take k groups) ++ text (said_by z) (get_or groups k g).items)) es
      ∙ ap (λ zs. start ++ zs) (sym (one_more k sayings groups s g l m))

-- two functions that give the same of each element
pub map_same : {A B : Type 0} (f g : A → B) → ((x : A) → f x ≡ g x) → (xs : List A) → map f xs ≡ map g xs
map_same f g same [] = refl
map_same f g same (x ∷ xs) = ap (λ y. y ∷ map f xs) (same x) ∙ ap (λ ys. g x ∷ ys) (map_same f g same xs)
