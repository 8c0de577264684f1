-- Lists of references.
use Rattle.std.proofs.Common.{◌≡◌, ℕ, ◌<◌, ◌+◌, Bool, true, false, ◌||◌, List, [], ◌∷◌, ◌++◌, length, get_or, take, refl, sym, ◌∙◌, ap, Bor}
use Rattle.std.specs.Prelude.{Contains, filter}
use Rattle.std.specs.List.{list_any}
use Rattle.std.proofs.lemmas.Bool.{cond-true, cond-false}
use Rattle.std.proofs.lemmas.List.{append-nil, length-map, map-append, take_more}
use Rattle.std.proofs.lemmas.List.Elements.{filter-append}
use Rattle.std.proofs.lemmas.List.Folds.{list_any-append}
use Rattle.std.proofs.Math.Bool.{or-false}
use Rattle.armus_base.proofs.Elements.{in_map}
use Rattle.monitor_laws.specs.States.{Participant}
use Rattle.monitor_search.specs.inside.Partings.{referred}

pub any_referred : (test : Participant → Bool) (references : List (Bor Participant)) → list_any (λ reference. test reference.now) references ≡ list_any test (referred references)
any_referred test [] = refl
any_referred test (r ∷ rs) = ap (λ b. test r.now || b) (any_referred test rs)

pub referred-append : (one other : List (Bor Participant)) → referred (one ++ other) ≡ referred one ++ referred other
referred-append one other = map-append (λ (r : Bor Participant). r.now) one other

-- one reference more
module _ (items : List (Bor Participant)) (i : ℕ) (r : Bor Participant) (within : i < length items) (is : r ≡ get_or items i r) where
  more_referred : referred (take (i + 1) items) ≡ referred (take i items) ++ r.now ∷ []
  more_referred =
      ap referred (take_more items i r within) ∙ referred-append (take i items) (get_or items i r ∷ [])
      ∙ ap (λ (x : Bor Participant). referred (take i items) ++ x.now ∷ []) (sym is)

  pub more_passes : (test : Participant → Bool) → test r.now ≡ true → filter test (referred (take (i + 1) items)) ≡ filter test (referred (take i items)) ++ r.now ∷ []
  more_passes test on =
      ap (filter test) more_referred ∙ filter-append test (referred (take i items)) (r.now ∷ [])
      ∙ ap (λ l. filter test (referred (take i items)) ++ l) (cond-true (test r.now) (r.now ∷ []) [] on)

  pub more_fails : (test : Participant → Bool) → test r.now ≡ false → filter test (referred (take (i + 1) items)) ≡ filter test (referred (take i items))
  more_fails test off =
      ap (filter test) more_referred ∙ filter-append test (referred (take i items)) (r.now ∷ [])
      ∙ ap (λ l. filter test (referred (take i items)) ++ l) (cond-false (test r.now) (r.now ∷ []) [] off)
      ∙ append-nil (filter test (referred (take i items)))

  pub more_any : (test : Participant → Bool) → list_any test (referred (take (i + 1) items)) ≡ (list_any test (referred (take i items)) || test r.now)
  more_any test =
      ap (list_any test) more_referred ∙ list_any-append test (referred (take i items)) (r.now ∷ [])
      ∙ ap (λ b. list_any test (referred (take i items)) || b) (or-false (test r.now))

pub length-referred : (references : List (Bor Participant)) → length (referred references) ≡ length references
length-referred references = length-map references (λ (r : Bor Participant). r.now)

pub in_referred : (items : List (Bor Participant)) (i : ℕ) (r : Bor Participant) → i < length items → r ≡ get_or items i r → Contains (referred items) r.now
in_referred items i r within is = in_map (λ (x : Bor Participant). x.now) items r (i, within, sym is)
