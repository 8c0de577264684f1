-- A text's program has one list of the offsets at which its bodies end.
use Rattle.std.proofs.Common.{◌≡◌, ℕ, List, [], ◌∷◌, Option, Some, None, ap, refl}
use Rattle.armus_base.proofs.Elements.{one_zip}
use Rattle.pl_syntax.specs.declared.tree.Program.{Program}
use Rattle.pl_syntax.specs.BodyEnds.{EndsAt, end_tokens}
use Rattle.pl_syntax.specs.calls.BodyEnds.{HasOneListOfEnds}
use Rattle.pl_syntax.specs.Tokens.{Token, the_end}
use Rattle.pl_syntax.proofs.OneListOfOffsets.{one_offset}

module _ (text : List ℕ) (p : Program) where
  one_end : (own : Option (List Token)) (x y : Option ℕ) → EndsAt text p own x → EndsAt text p own y → x ≡ y
  one_end None None None a b = refl
  one_end None (Some x) y a b = absurd a
  one_end None None (Some y) a b = absurd b
  one_end (Some own) None y a b = absurd a
  one_end (Some own) (Some x) None a b = absurd b
  one_end (Some own) (Some x) (Some y) a b = ap Some (one_offset text p own x y a b)

pub one_list_of_ends : HasOneListOfEnds
one_list_of_ends text p xs ys a b = one_zip (EndsAt text p) (one_end text p) (end_tokens p.body (the_end ∷ [])) xs ys a b
