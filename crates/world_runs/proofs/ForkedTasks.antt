-- That tasks which are forked stay so.
use Rattle.std.proofs.Common.{◌≡◌, ℕ, zero, suc, Bool, true, false, List, [], ◌∷◌, ◌++◌, sym, subst}
use Rattle.std.specs.Prelude.{MatchBool}
use Rattle.armus_base.specs.Plans.{Plan}
use Rattle.armus_base.specs.Runs.{state_after}
use Rattle.armus_base.specs.Serial.{IsTurn, RoundBelow}
use Rattle.armus_base.specs.States.{Step}
use Rattle.run_queue.proofs.Forked.{forked_after}

-- no step takes a fork back, nor do the steps that follow
pub forked_later : (own h : List Step) (t : ℕ) → (state_after h).forked t ≡ true → (state_after (own ++ h)).forked t ≡ true
forked_later [] h t is = is
forked_later (e ∷ own) h t is = forked_after (state_after (own ++ h)) e.task e.action t (forked_later own h t is)

forked_after_part :
    (plan : Plan) (k : ℕ) (b : Bool) (g h : List Step) → MatchBool b (IsTurn plan k g h) (h ≡ g) → (t : ℕ) → (state_after g).forked t ≡ true →
    (state_after h).forked t ≡ true
forked_after_part plan k true g h turn t is = subst (λ v. (state_after v).forked t ≡ true) (sym turn.there) (forked_later turn.own g t is)
forked_after_part plan k false g h same t is = subst (λ v. (state_after v).forked t ≡ true) (sym same) is

-- who is forked before a round is forked in it
pub forked_in_round : (plan : Plan) (k : ℕ) (h g : List Step) → RoundBelow plan k h g → (t : ℕ) → (state_after h).forked t ≡ true → (state_after g).forked t ≡ true
forked_in_round plan zero h g round t is = subst (λ v. (state_after v).forked t ≡ true) (sym round) is
forked_in_round plan (suc k) h g round t is =
    forked_after_part plan k ((state_after h).forked k) round.0 g round.2 t (forked_in_round plan k h round.0 round.1 t is)
