-- Lists that grow by what is told of one task more.
use Rattle.std.proofs.Common.{◌≡◌, ◌≢◌, ◌⊎◌, ℕ, ◌+◌, ◌<◌, List, [], ◌∷◌, ◌++◌, length, arith, sym, ◌∙◌, ap, subst, inl, inr, length-append}
use Rattle.std.specs.Prelude.{slice_index_or}
use Rattle.std.proofs.lemmas.Bool.{cases_eq}
use Rattle.std.proofs.lemmas.List.{get_or_append_left}
use Rattle.std.proofs.lemmas.Option.{get_or_from_slice_get}
use Rattle.std.proofs.Math.Seq.{get_or-append_seam}
use Rattle.armus_base.specs.Finals.{list_below}
use Rattle.armus_base.specs.Plans.{Plan}
use Rattle.armus_base.specs.States.{State}
use Rattle.armus_base.proofs.Below.{list_below-at}
use Rattle.pl_syntax.specs.declared.tree.Program.{Program}
use Rattle.explain_facts.specs.Accounts.{IsTaskAccount, Layout}
use Rattle.explain_facts.specs.declared.account.TaskAccount.{TaskAccount}
use Rattle.explain_facts.specs.inside.Facts.{AreTold}

-- what f gives for a number
pub list_at : {A : Type 0} (f : ℕ → A) (n t : ℕ) (xs : List A) (d : A) → xs ≡ list_below f n → t < n → slice_index_or xs t d ≡ f t
list_at f n t xs d is lt = ap (λ ys. slice_index_or ys t d) is ∙ get_or_from_slice_get (list_below f n) t (f t) d (list_below-at f n t lt)

module _ (l : Layout) (p : Program) (plan : Plan) (s : State) (done : ℕ → ℕ) where
  pub told_none : AreTold l p plan s done 0 []
  told_none = record { all = omega arith; each = λ t d lt. absurd (omega arith) }

  pub told_more :
      (n : ℕ) (accounts more : List TaskAccount) (own : TaskAccount) → AreTold l p plan s done n accounts → more ≡ accounts ++ own ∷ [] → IsTaskAccount l p plan s done n own →
      AreTold l p plan s done (n + 1) more
  told_more n accounts more own told is here = record {
    all = (let e = ap length is in let f = length-append accounts (own ∷ []) in let g = told.all in omega arith);
    each = λ t d lt. subst (λ xs. IsTaskAccount l p plan s done t (slice_index_or xs t d)) (sym is) (by t d lt (cases_eq t n));
  }
    where
      by : (t : ℕ) (d : TaskAccount) → t < n + 1 → (t ≡ n) ⊎ (t ≢ n) → IsTaskAccount l p plan s done t (slice_index_or (accounts ++ own ∷ []) t d)
      by t d lt (inl same) =
          subst (λ v. IsTaskAccount l p plan s done v (slice_index_or (accounts ++ own ∷ []) v d)) (sym same)
          (subst (λ v. IsTaskAccount l p plan s done n (slice_index_or (accounts ++ own ∷ []) v d)) told.all
          (subst (IsTaskAccount l p plan s done n) (sym (get_or-append_seam accounts own [] d)) here))
      by t d lt (inr other) =
          let before : t < n = omega arith in
          let within : t < length accounts = omega (arith, told.all) in
          subst (IsTaskAccount l p plan s done t) (sym (get_or_append_left accounts (own ∷ []) d t within)) (told.each t d before)
