-- The body of each statement ends at its brace.
use Rattle.std.proofs.Common.{◌≡◌, ℕ, ◌+◌, ◌<◌, ◌≤◌, List, [], ◌∷◌, ◌++◌, length, drop, get_or, Option, Some, None, refl, sym, ap, subst, ◌∙◌, append_assoc, append-nil, length-append, arith}
use Rattle.std.specs.Prelude.{slice_get}
use Rattle.std.specs.List.{AllZip}
use Rattle.std.proofs.Math.ListN.{set}
use Rattle.std.proofs.Math.Seq.{drop-append-add, get_or-append_seam, set-append_seam}
use Rattle.std.proofs.lemmas.Option.{slice_get-get_or, slice_get_past}
use Rattle.std.proofs.lemmas.List.{drop-drop, drop_all, drop_more, get_or-drop, length-drop}
use Rattle.std.proofs.lemmas.Slice.Zip.{AllZip-long}
use Rattle.armus_base.proofs.Elements.{AllZip-append}
use Rattle.pl_syntax.specs.declared.token.Sign.TheVariants.{CloseBrace}
use Rattle.pl_syntax.specs.declared.tree.Program.{Program}
use Rattle.pl_syntax.specs.declared.tree.Stmt.{Stmt}
use Rattle.pl_syntax.specs.declared.tree.Stmt.TheVariants as s
use Rattle.pl_syntax.specs.calls.Bodies.{followed_by, tree_of}
use Rattle.pl_syntax.specs.BodyEnds.{AreEnds, EndsAt, end_tokens}
use Rattle.pl_syntax.specs.Tokens.{Token, the_end, sign}
use Rattle.pl_syntax.specs.Tree.{Tree, count, done, plain, fork, loop}
use Rattle.pl_syntax.specs.Grammar.{tokens}
use Rattle.pl_syntax.specs.StatementOffsets.{BeginAt}
use Rattle.pl_syntax.specs.inside.Closings.{bodies, brace_tokens, ends_by}
use Rattle.pl_syntax.proofs.Parts.{counts}

module _ (text : List ℕ) (p : Program) where
  -- braces from the front on, and those behind them
  pub record Parted (owns more : List (List Token)) (braces : List ℕ) : Type 0 where
    pub front : List ℕ
    pub behind : List ℕ
    pub is : braces ≡ front ++ behind
    pub begun : AllZip (BeginAt text p) owns front
    pub others : AllZip (BeginAt text p) more behind

  parted : (owns more : List (List Token)) (braces : List ℕ) → AllZip (BeginAt text p) (owns ++ more) braces → Parted owns more braces
  parted [] more braces all = record { front = []; behind = braces; is = refl; begun = tt; others = all }
  parted (o ∷ owns) more [] all = absurd all
  parted (o ∷ owns) more (b ∷ braces) all =
      let rest = parted owns more braces all.1 in
      record { front = b ∷ rest.front; behind = rest.behind; is = ap (λ xs. b ∷ xs) rest.is; begun = (all.0, rest.begun); others = rest.others }

-- how many braces close these bodies
many_braces : (p : Tree) (ts : List Token) → length (brace_tokens p ts) ≡ bodies p
many_braces done ts = refl
many_braces (plain s more) ts = many_braces more ts
many_braces (fork x body more) ts =
    let own = sign CloseBrace ∷ tokens more ts in
    let a = length-append (brace_tokens body own) (own ∷ brace_tokens more ts) in
    let b = many_braces body own in let c = many_braces more ts in omega arith
many_braces (loop k body more) ts =
    let own = sign CloseBrace ∷ tokens more ts in
    let a = length-append (brace_tokens body own) (own ∷ brace_tokens more ts) in
    let b = many_braces body own in let c = many_braces more ts in omega arith

module _ (text : List ℕ) (p : Program) where
  -- a statement with a body, by what holds of its body and of what stands behind it
  ends_with :
      (body more : Tree) (ts : List Token) (others : List (List Token)) (braces : List ℕ) →
      let own = sign CloseBrace ∷ tokens more ts in
      AllZip (BeginAt text p) (brace_tokens body own ++ (own ∷ (brace_tokens more ts ++ others))) braces → AllZip (EndsAt text p) (end_tokens body own) (ends_by body braces) →
      ((behind : List ℕ) → AllZip (BeginAt text p) (brace_tokens more ts ++ others) behind → AllZip (EndsAt text p) (end_tokens more ts) (ends_by more behind)) →
      AllZip (EndsAt text p) (Some own ∷ (end_tokens body own ++ end_tokens more ts))
      (slice_get braces (bodies body) ∷ (ends_by body braces ++ ends_by more (drop (bodies body + 1) braces)))
  ends_with body more ts others braces all inside behind = by (parted text p (brace_tokens body own) (own ∷ (brace_tokens more ts ++ others)) braces all)
    where
      own : List Token
      own = sign CloseBrace ∷ tokens more ts

      by :
          Parted text p (brace_tokens body own) (own ∷ (brace_tokens more ts ++ others)) braces →
          AllZip (EndsAt text p) (Some own ∷ (end_tokens body own ++ end_tokens more ts))
          (slice_get braces (bodies body) ∷ (ends_by body braces ++ ends_by more (drop (bodies body + 1) braces)))
      by found = at found.behind found.is found.others
        where
          length_is : length found.front ≡ bodies body
          length_is = AllZip-long (BeginAt text p) (brace_tokens body own) found.front found.begun ∙ many_braces body own

          at :
              (rest : List ℕ) → braces ≡ found.front ++ rest → AllZip (BeginAt text p) (own ∷ (brace_tokens more ts ++ others)) rest →
              AllZip (EndsAt text p) (Some own ∷ (end_tokens body own ++ end_tokens more ts))
              (slice_get braces (bodies body) ∷ (ends_by body braces ++ ends_by more (drop (bodies body + 1) braces)))
          at [] is none = absurd none
          at (b ∷ rest) is begun =
              let long : length found.front < length (found.front ++ b ∷ rest) = (let a = length-append found.front (b ∷ rest) in omega arith) in
              let got : slice_get braces (bodies body) ≡ Some b =
              ap (λ n. slice_get braces n) (sym length_is) ∙ (ap (λ xs. slice_get xs (length found.front)) is
              ∙ (slice_get-get_or (found.front ++ b ∷ rest) (length found.front) b long ∙ ap Some (get_or-append_seam found.front b rest b))) in
              let left : drop (bodies body + 1) braces ≡ rest =
              ap (λ n. drop (n + 1) braces) (sym length_is) ∙ (ap (drop (length found.front + 1)) is ∙ drop-append-add found.front (b ∷ rest) 1) in (
                subst (EndsAt text p (Some own)) (sym got) begun.0,
                AllZip-append (EndsAt text p) (end_tokens body own) (end_tokens more ts) (ends_by body braces) (ends_by more (drop (bodies body + 1) braces)) inside
                    (subst (λ xs. AllZip (EndsAt text p) (end_tokens more ts) (ends_by more xs)) (sym left) (behind rest begun.1)),
              )

  -- where the braces are those of a tree, and others behind them, its statements end at them
  ends_are :
      (tree : Tree) (ts : List Token) (others : List (List Token)) (braces : List ℕ) → AllZip (BeginAt text p) (brace_tokens tree ts ++ others) braces →
      AllZip (EndsAt text p) (end_tokens tree ts) (ends_by tree braces)
  ends_are done ts others braces all = tt
  ends_are (plain s more) ts others braces all = (tt, ends_are more ts others braces all)
  ends_are (fork x body more) ts others braces all =
      let own = sign CloseBrace ∷ tokens more ts in
      let again = subst (λ owns. AllZip (BeginAt text p) owns braces) (append_assoc (brace_tokens body own) (own ∷ brace_tokens more ts) others) all in
      ends_with body more ts others braces again (ends_are body own (own ∷ (brace_tokens more ts ++ others)) braces again) (ends_are more ts others)
  ends_are (loop k body more) ts others braces all =
      let own = sign CloseBrace ∷ tokens more ts in
      let again = subst (λ owns. AllZip (BeginAt text p) owns braces) (append_assoc (brace_tokens body own) (own ∷ brace_tokens more ts) others) all in
      ends_with body more ts others braces again (ends_are body own (own ∷ (brace_tokens more ts ++ others)) braces again) (ends_are more ts others)

  -- those of the program
  pub ends_of_all :
      (braces : List ℕ) (ends : List (Option ℕ)) → AllZip (BeginAt text p) (brace_tokens p.body (the_end ∷ [])) braces → ends ≡ ends_by p.body braces →
      AreEnds text p ends
  ends_of_all braces ends all is =
      subst (AreEnds text p) (sym is)
      (ends_are p.body (the_end ∷ []) [] braces
      (subst (λ owns. AllZip (BeginAt text p) owns braces) (sym (append-nil (brace_tokens p.body (the_end ∷ [])))) all))

-- ---- statements one after the other

ends_behind :
    (b p : Tree) (bs : List ℕ) →
    slice_get bs (bodies b) ∷ (ends_by b bs ++ ends_by p (drop (bodies b + 1) bs))
    ≡ (slice_get bs (bodies b) ∷ (ends_by b bs ++ [])) ++ ends_by p (drop (bodies b + 1 + 0) bs)
ends_behind b p bs =
    ap (λ xs. slice_get bs (bodies b) ∷ xs)
    (ap (λ n. ends_by b bs ++ ends_by p (drop n bs)) (let e : bodies b + 1 ≡ bodies b + 1 + 0 = omega arith in e)
    ∙ ap (λ xs. xs ++ ends_by p (drop (bodies b + 1 + 0) bs)) (sym (append-nil (ends_by b bs))))

ends_first :
    (q : Stmt) (p : Tree) (bs : List ℕ) →
    ends_by (followed_by q p) bs ≡ ends_by (followed_by q done) bs ++ ends_by p (drop (bodies (followed_by q done)) bs)
ends_first (s.NewTask x) p bs = refl
ends_first (s.NewPhaser x) p bs = refl
ends_first (s.Reg x y) p bs = refl
ends_first (s.Dereg x) p bs = refl
ends_first (s.Adv x) p bs = refl
ends_first (s.Await x off) p bs = refl
ends_first s.Skip p bs = refl
ends_first (s.Fork x b) p bs = ends_behind b p bs
ends_first (s.Loop n b) p bs = ends_behind b p bs

bodies_first : (q : Stmt) (p : Tree) → bodies (followed_by q p) ≡ bodies (followed_by q done) + bodies p
bodies_first (s.NewTask x) p = omega arith
bodies_first (s.NewPhaser x) p = omega arith
bodies_first (s.Reg x y) p = omega arith
bodies_first (s.Dereg x) p = omega arith
bodies_first (s.Adv x) p = omega arith
bodies_first (s.Await x off) p = omega arith
bodies_first s.Skip p = omega arith
bodies_first (s.Fork x b) p = omega arith
bodies_first (s.Loop n b) p = omega arith

-- what is left to note, after i statements
pub record NotingEnds (items : List Stmt) (i : ℕ) (body : Tree) (rest braces : List ℕ) (ends old : List (Option ℕ)) : Type 0 where
  pub left : ends ++ ends_by (tree_of (drop i items)) rest ≡ old ++ ends_by body braces
  pub behind : drop (bodies (tree_of (drop i items))) rest ≡ drop (bodies body) braces
  pub fewer : count (tree_of (drop i items)) ≤ count body

module _ (items : List Stmt) (i : ℕ) (body : Tree) (rest braces : List ℕ) (ends old : List (Option ℕ)) (now : NotingEnds items i body rest braces ends old) where
  pub all_noted : length items ≤ i → (ends ≡ old ++ ends_by body braces) × (rest ≡ drop (bodies body) braces)
  all_noted le =
      let e : tree_of (drop i items) ≡ done = ap tree_of (drop_all i items le) in
      let t : ends ++ [] ≡ old ++ ends_by body braces = sym (ap (λ (p : Tree). ends ++ ends_by p rest) e) ∙ now.left in
      (sym (append-nil ends) ∙ t, sym (ap (λ (p : Tree). drop (bodies p) rest) e) ∙ now.behind)

  module _ (q : Stmt) (lt : i < length items) (is : q ≡ get_or items i q) where
    next_is : tree_of (drop i items) ≡ followed_by q (tree_of (drop (i + 1) items))
    next_is = ap tree_of (drop_more items i q lt) ∙ ap (λ (x : Stmt). followed_by x (tree_of (drop (i + 1) items))) (sym is)

    pub fewer_here : count (followed_by q done) ≤ count body
    fewer_here = let c = counts items i q lt is in let f = now.fewer in omega arith

    pub noting_on :
        (new : List (Option ℕ)) (more : List ℕ) → new ≡ ends ++ ends_by (followed_by q done) rest → more ≡ drop (bodies (followed_by q done)) rest →
        NotingEnds items (i + 1) body more braces new old
    noting_on new more noted left = record {
      left =
          let p = tree_of (drop (i + 1) items) in
          ap (λ xs. xs ++ ends_by p more) noted ∙ (ap (λ xs. (ends ++ ends_by (followed_by q done) rest) ++ ends_by p xs) left
          ∙ (append_assoc ends (ends_by (followed_by q done) rest) (ends_by p (drop (bodies (followed_by q done)) rest))
          ∙ (ap (λ xs. ends ++ xs) (sym (ends_first q p rest)) ∙ (ap (λ (t : Tree). ends ++ ends_by t rest) (sym next_is) ∙ now.left))));
      behind =
          let p = tree_of (drop (i + 1) items) in
          ap (drop (bodies p)) left ∙ (drop-drop (bodies p) (bodies (followed_by q done)) rest
          ∙ (ap (λ n. drop n rest) (sym (bodies_first q p)) ∙ (ap (λ (t : Tree). drop (bodies t) rest) (sym next_is) ∙ now.behind)));
      fewer = (let c = counts items i q lt is in let f = now.fewer in omega arith);
    }

-- ---- a statement with a body

module _ (old pushed new : List (Option ℕ)) (braces rest : List ℕ) (body : Tree) where
  noted_with : pushed ≡ old ++ None ∷ [] → new ≡ pushed ++ ends_by body braces → new ≡ old ++ (None ∷ ends_by body braces)
  noted_with before inside = inside ∙ (ap (λ xs. xs ++ ends_by body braces) before ∙ append_assoc old (None ∷ []) (ends_by body braces))

  -- where no brace is left
  pub ended_empty :
      pushed ≡ old ++ None ∷ [] → new ≡ pushed ++ ends_by body braces → rest ≡ drop (bodies body) braces → length rest < 1 →
      new ≡ old ++ (slice_get braces (bodies body) ∷ ends_by body braces)
  ended_empty before inside left none =
      let none_there : slice_get braces (bodies body) ≡ None =
      slice_get_past braces (bodies body) (let e = ap length left in let d = length-drop (bodies body) braces in omega arith) in
      noted_with before inside ∙ ap (λ v. old ++ (v ∷ ends_by body braces)) (sym none_there)

  -- where one is
  pub ended_one :
      (at : ℕ) → at ≡ length old → pushed ≡ old ++ None ∷ [] → new ≡ pushed ++ ends_by body braces → rest ≡ drop (bodies body) braces → 1 ≤ length rest →
      set new at (Some (get_or rest 0 0)) ≡ old ++ (slice_get braces (bodies body) ∷ ends_by body braces)
  ended_one at at_is before inside left some =
      let end : Option ℕ = Some (get_or rest 0 0) in
      let there : bodies body < length braces = (let e = ap length left in let d = length-drop (bodies body) braces in omega arith) in
      let same : get_or rest 0 0 ≡ get_or braces (bodies body) 0 =
      ap (λ xs. get_or xs 0 0) left ∙ (get_or-drop (bodies body) braces 0 0 ∙ ap (λ n. get_or braces n 0) (let e : bodies body + 0 ≡ bodies body = omega arith in e)) in
      ap (λ n. set new n end) at_is ∙ (ap (λ xs. set xs (length old) end) (noted_with before inside)
      ∙ (set-append_seam old None (ends_by body braces) end
      ∙ ap (λ v. old ++ (v ∷ ends_by body braces)) (ap Some same ∙ sym (slice_get-get_or braces (bodies body) 0 there))))
