-- What the grammar wants at a place, token by token.
use Rattle.std.proofs.Common.{◌≡◌, ◌∙◌, ℕ, zero, suc, ◌<◌, ◌≤◌, Bool, true, false, List, Ok, Err, ap, le-ltb, lt-ltb, refl}
use Rattle.std.specs.Prelude.{if◌then◌else◌, nat_lt}
use Rattle.pl_syntax.specs.declared.fault.SyntaxFault.{SyntaxFault}
use Rattle.pl_syntax.specs.declared.scan.Scan.{Scan}
use Rattle.pl_syntax.specs.Tokens.{Token, front, place}
use Rattle.explain_clock.specs.ClockStands.{stand_after, stand_before, stand_behind}
use Rattle.explain_clock.specs.declared.stand.ClockStand.{ClockStand}

module _ (scan : Scan) (at : ℕ) (rest : List ℕ) (s : ClockStand) where
  -- where the place is come to
  pub stand_stays : (n : ℕ) → at ≤ place scan rest → stand_before n scan at rest s ≡ s
  stand_stays zero le = refl
  stand_stays (suc n) le = ap (λ b. if b then stand_behind (stand_before n scan at) (front scan rest) s else s) (le-ltb (place scan rest) at le)

  -- where no token follows
  pub stand_ends : (n : ℕ) (fault : SyntaxFault) → front scan rest ≡ Err fault → stand_before n scan at rest s ≡ s
  stand_ends zero fault none = refl
  stand_ends (suc n) fault none =
      ap (λ f. if nat_lt (place scan rest) at then stand_behind (stand_before n scan at) f s else s) none ∙ either (nat_lt (place scan rest) at)
    where
      either : (b : Bool) → (if b then s else s) ≡ s
      either true = refl
      either false = refl

  -- behind one token more
  pub stand_goes : (n m : ℕ) (t : Token) (after : List ℕ) → n ≡ suc m → place scan rest < at → front scan rest ≡ Ok (t, after) →
      stand_before n scan at rest s ≡ stand_before m scan at after (stand_after s t)
  stand_goes n m t after is lt some =
      ap (λ k. stand_before k scan at rest s) is
      ∙ ap (λ b. if b then stand_behind (stand_before m scan at) (front scan rest) s else s) (lt-ltb (place scan rest) at lt)
      ∙ ap (λ f. stand_behind (stand_before m scan at) f s) some
