-- A text has an offset for each of its statements, and for the brace that ends each body.
use Rattle.std.proofs.Common.{◌≡◌, ℕ, Bool, true, false, List, [], ◌∷◌, ◌++◌, Option, Some, None, refl, sym, ◌∙◌, subst}
use Rattle.std.specs.List.{AllZip}
use Rattle.std.proofs.lemmas.List.{append_assoc}
use Rattle.armus_base.proofs.Elements.{AllZip-append}
use Rattle.pl_syntax.specs.BodyEnds.{AreEnds, EndsAt, end_tokens}
use Rattle.pl_syntax.specs.Grammar.{IsText, ReadsTokens, scan_of, sentence, tokens, plain_tokens}
use Rattle.pl_syntax.specs.StatementOffsets.{AreOffsets, BeginAt, statement_tokens}
use Rattle.pl_syntax.specs.Tokens.{Leads, Token, place, sign, the_end}
use Rattle.pl_syntax.specs.Tree.{Plain, Tree, adv, await, dereg, done, fork, loop, new_phaser, new_task, plain, reg, skip}
use Rattle.pl_syntax.specs.declared.scan.Scan.{Scan}
use Rattle.pl_syntax.specs.declared.token.Sign.TheVariants.{CloseBrace}
use Rattle.pl_syntax.specs.declared.tree.Program.{Program}
use Rattle.armus_base.specs.declared.offset.Offset.TheVariants.{Ahead, Back, Here}

-- what is read in one go is read in two
first_part : (scan : Scan) (text : List ℕ) (ts us : List Token) (rest : List ℕ) → Leads scan text (ts ++ us) rest → (mid : List ℕ) × Leads scan text ts mid
first_part scan text [] us rest l = (text, refl)
first_part scan text (t ∷ ts) us rest l = let (mid, more) = first_part scan l.0 ts us rest l.2 in (mid, (l.0, l.1, more))

reads_first : (two : Bool) (text : List ℕ) (ts us : List Token) → ReadsTokens two text (ts ++ us) [] → (left : List ℕ) × ReadsTokens two text ts left
reads_first false text ts us reads = first_part (scan_of false text) text ts us [] reads
reads_first true text ts us (mid, header, reads) =
    let (left, more) = first_part (scan_of true text) mid ts us [] reads in (left, (mid, header, more))

module _ (text : List ℕ) (p : Program) (is : IsText text p) where
  -- these tokens are the last ones of the text
  record AreLast (own : List Token) : Type 0 where
    ahead : List Token
    all : ahead ++ own ≡ sentence p.body

  behind : (t : Token) (own : List Token) → AreLast (t ∷ own) → AreLast own
  behind t own last = record { ahead = last.ahead ++ t ∷ []; all = append_assoc last.ahead (t ∷ []) own ∙ last.all }

  begins : (own : List Token) → AreLast own → (offset : ℕ) × BeginAt text p own offset
  begins own last =
      let (left, reads) = reads_first p.two text last.ahead own (subst (λ ts. ReadsTokens p.two text ts []) (sym last.all) is.reads) in
      (place (scan_of p.two text) left, record { ahead = last.ahead; left = left; all = last.all; reads = reads; offset_is = refl })

  behind_plain : (s : Plain) (rest : List Token) → AreLast (plain_tokens s rest) → AreLast rest
  behind_plain (new_task x) rest l = behind _ _ (behind _ _ (behind _ _ (behind _ _ (behind _ _ (behind _ _ l)))))
  behind_plain (new_phaser x) rest l = behind _ _ (behind _ _ (behind _ _ (behind _ _ (behind _ _ (behind _ _ l)))))
  behind_plain (reg x y) rest l = behind _ _ (behind _ _ (behind _ _ (behind _ _ (behind _ _ (behind _ _ (behind _ _ l))))))
  behind_plain (dereg x) rest l = behind _ _ (behind _ _ (behind _ _ (behind _ _ (behind _ _ l))))
  behind_plain (adv x) rest l = behind _ _ (behind _ _ (behind _ _ (behind _ _ (behind _ _ l))))
  behind_plain (await x Here) rest l = behind _ _ (behind _ _ (behind _ _ (behind _ _ (behind _ _ l))))
  behind_plain (await x (Back k)) rest l = behind _ _ (behind _ _ (behind _ _ (behind _ _ (behind _ _ (behind _ _ (behind _ _ l))))))
  behind_plain (await x (Ahead k)) rest l = behind _ _ (behind _ _ (behind _ _ (behind _ _ (behind _ _ (behind _ _ (behind _ _ l))))))
  behind_plain skip rest l = behind _ _ (behind _ _ l)

  -- the body of a fork, and of a loop
  in_fork : (x : List ℕ) (body more : Tree) (rest : List Token) → AreLast (tokens (fork x body more) rest) → AreLast (tokens body (sign CloseBrace ∷ tokens more rest))
  in_fork x body more rest l = behind _ _ (behind _ _ (behind _ _ (behind _ _ (behind _ _ l))))

  in_loop : (n : ℕ) (body more : Tree) (rest : List Token) → AreLast (tokens (loop n body more) rest) → AreLast (tokens body (sign CloseBrace ∷ tokens more rest))
  in_loop n body more rest l = behind _ _ (behind _ _ (behind _ _ l))

  behind_tree : (tree : Tree) (rest : List Token) → AreLast (tokens tree rest) → AreLast rest
  behind_tree done rest l = l
  behind_tree (plain s more) rest l = behind_tree more rest (behind_plain s (tokens more rest) l)
  behind_tree (fork x body more) rest l =
      behind_tree more rest (behind _ _ (behind_tree body (sign CloseBrace ∷ tokens more rest) (in_fork x body more rest l)))
  behind_tree (loop n body more) rest l =
      behind_tree more rest (behind _ _ (behind_tree body (sign CloseBrace ∷ tokens more rest) (in_loop n body more rest l)))

  -- what stands behind a body
  behind_body : (body more : Tree) (rest : List Token) → AreLast (tokens body (sign CloseBrace ∷ tokens more rest)) → AreLast (sign CloseBrace ∷ tokens more rest)
  behind_body body more rest l = behind_tree body (sign CloseBrace ∷ tokens more rest) l

  -- ---- where statements begin

  all_begin : (tree : Tree) (rest : List Token) → AreLast (tokens tree rest) → (offsets : List ℕ) × AllZip (BeginAt text p) (statement_tokens tree rest) offsets
  all_begin done rest l = ([], tt)
  all_begin (plain s more) rest l =
      let (o, here) = begins (tokens (plain s more) rest) l in
      let (os, others) = all_begin more rest (behind_plain s (tokens more rest) l) in
      (o ∷ os, (here, others))
  all_begin (fork x body more) rest l =
      let (o, here) = begins (tokens (fork x body more) rest) l in
      let own = in_fork x body more rest l in
      let (inner, inside) = all_begin body (sign CloseBrace ∷ tokens more rest) own in
      let (os, others) = all_begin more rest (behind _ _ (behind_body body more rest own)) in
      (o ∷ (inner ++ os), (here, AllZip-append (BeginAt text p) (statement_tokens body (sign CloseBrace ∷ tokens more rest)) (statement_tokens more rest) inner os inside others))
  all_begin (loop n body more) rest l =
      let (o, here) = begins (tokens (loop n body more) rest) l in
      let own = in_loop n body more rest l in
      let (inner, inside) = all_begin body (sign CloseBrace ∷ tokens more rest) own in
      let (os, others) = all_begin more rest (behind _ _ (behind_body body more rest own)) in
      (o ∷ (inner ++ os), (here, AllZip-append (BeginAt text p) (statement_tokens body (sign CloseBrace ∷ tokens more rest)) (statement_tokens more rest) inner os inside others))

  -- ---- where bodies end

  all_end : (tree : Tree) (rest : List Token) → AreLast (tokens tree rest) → (ends : List (Option ℕ)) × AllZip (EndsAt text p) (end_tokens tree rest) ends
  all_end done rest l = ([], tt)
  all_end (plain s more) rest l =
      let (os, others) = all_end more rest (behind_plain s (tokens more rest) l) in
      (None ∷ os, (tt, others))
  all_end (fork x body more) rest l =
      let own = in_fork x body more rest l in
      let brace = behind_body body more rest own in
      let (o, here) = begins (sign CloseBrace ∷ tokens more rest) brace in
      let (inner, inside) = all_end body (sign CloseBrace ∷ tokens more rest) own in
      let (os, others) = all_end more rest (behind _ _ brace) in
      (Some o ∷ (inner ++ os), (here, AllZip-append (EndsAt text p) (end_tokens body (sign CloseBrace ∷ tokens more rest)) (end_tokens more rest) inner os inside others))
  all_end (loop n body more) rest l =
      let own = in_loop n body more rest l in
      let brace = behind_body body more rest own in
      let (o, here) = begins (sign CloseBrace ∷ tokens more rest) brace in
      let (inner, inside) = all_end body (sign CloseBrace ∷ tokens more rest) own in
      let (os, others) = all_end more rest (behind _ _ brace) in
      (Some o ∷ (inner ++ os), (here, AllZip-append (EndsAt text p) (end_tokens body (sign CloseBrace ∷ tokens more rest)) (end_tokens more rest) inner os inside others))

  whole : AreLast (tokens p.body (the_end ∷ []))
  whole = record { ahead = []; all = refl }

  pub offsets_exist : (offsets : List ℕ) × AreOffsets text p offsets
  offsets_exist = all_begin p.body (the_end ∷ []) whole

  pub ends_exist : (ends : List (Option ℕ)) × AreEnds text p ends
  ends_exist = all_end p.body (the_end ∷ []) whole
