-- A text's program has one list of the offsets at which its statements begin.
use Rattle.std.proofs.Common.{◌≡◌, ℕ, List, [], ◌∷◌, sym, subst, ap, ◌∙◌}
use Rattle.std.proofs.lemmas.List.{append_cancel_right}
use Rattle.armus_base.proofs.Elements.{one_zip}
use Rattle.pl_syntax.specs.declared.tree.Program.{Program}
use Rattle.pl_syntax.specs.Tokens.{Token, the_end, place}
use Rattle.pl_syntax.specs.Grammar.{ReadsTokens, scan_of}
use Rattle.pl_syntax.specs.StatementOffsets.{BeginAt, statement_tokens}
use Rattle.pl_syntax.specs.calls.StatementOffsets.{HasOneListOfOffsets}
use Rattle.pl_syntax.proofs.Beginnings.{one_rest_of_text}

module _ (text : List ℕ) (p : Program) where
  -- tokens that stand last begin at one place
  pub one_offset : (own : List Token) (m n : ℕ) → BeginAt text p own m → BeginAt text p own n → m ≡ n
  one_offset own m n a b =
      let same : a.ahead ≡ b.ahead = append_cancel_right a.ahead b.ahead own (a.all ∙ sym b.all) in
      let left : a.left ≡ b.left = one_rest_of_text p.two text b.ahead a.left b.left (subst (λ ts. ReadsTokens p.two text ts a.left) same a.reads) b.reads in
      a.offset_is ∙ (ap (λ l. place (scan_of p.two text) l) left ∙ sym b.offset_is)

pub one_list_of_offsets : HasOneListOfOffsets
one_list_of_offsets text p xs ys a b = one_zip (BeginAt text p) (one_offset text p) (statement_tokens p.body (the_end ∷ [])) xs ys a b
