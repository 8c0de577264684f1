-- One more of a list.
use Rattle.std.proofs.Common.{◌≡◌, ℕ, ◌<◌, ◌+◌, Bool, true, false, List, [], ◌∷◌, ◌++◌, length, get_or, take, sym, ◌∙◌, ap, inl, inr, Bor, append-nil, if◌then◌else◌}
use Rattle.std.specs.Prelude.{filter, flat_map}
use Rattle.std.proofs.lemmas.Bool.{cases_Bool, cond-true, cond-false}
use Rattle.std.proofs.lemmas.List.{map-append, take_more}
use Rattle.std.proofs.lemmas.List.Elements.{filter-append}
use Rattle.std.proofs.lemmas.List.Concat.{flat_map-append}
use Rattle.monitor_laws.specs.States.{Participant}
use Rattle.monitor_rows.specs.inside.Lent.{lent_ones}

pub lent_more : (us new : List (Bor Participant)) (r : Bor Participant) → new ≡ us ++ r ∷ [] → lent_ones new ≡ lent_ones us ++ r.now ∷ []
lent_more us new r is = ap lent_ones is ∙ map-append (λ (u : Bor Participant). u.now) us (r ∷ [])

module _ (p : Participant → Bool) (list : List Participant) (i : ℕ) (t : Participant) (within : i < length list) (is : t ≡ get_or list i t) where
  one_more : filter p (take (i + 1) list) ≡ filter p (take i list) ++ filter p (t ∷ [])
  one_more = ap (filter p) (take_more list i t within ∙ ap (λ x. take i list ++ x ∷ []) (sym is)) ∙ filter-append p (take i list) (t ∷ [])

  -- who passes is one of those that are kept
  pub more_passing : p t ≡ true → filter p (take (i + 1) list) ≡ filter p (take i list) ++ t ∷ []
  more_passing on = one_more ∙ ap (λ l. filter p (take i list) ++ l) (cond-true (p t) (t ∷ []) [] on)

  pub more_failing : p t ≡ false → filter p (take (i + 1) list) ≡ filter p (take i list)
  more_failing off = one_more ∙ ap (λ l. filter p (take i list) ++ l) (cond-false (p t) (t ∷ []) [] off) ∙ append-nil (filter p (take i list))

  -- what is written of those that pass
  pub more_written : (f : Participant → List ℕ) → flat_map f (filter p (take (i + 1) list)) ≡ flat_map f (filter p (take i list)) ++ (if p t then f t else [])
  more_written f =
      elim (cases_Bool (p t)) [
        | inl on ↦
            ap (flat_map f) (more_passing on) ∙ flat_map-append f (filter p (take i list)) (t ∷ [])
            ∙ ap (λ l. flat_map f (filter p (take i list)) ++ l) (append-nil (f t) ∙ sym (cond-true (p t) (f t) [] on))
        | inr off ↦
            ap (flat_map f) (more_failing off) ∙ sym (append-nil (flat_map f (filter p (take i list))))
            ∙ ap (λ l. flat_map f (filter p (take i list)) ++ l) (sym (cond-false (p t) (f t) [] off))
      ]
