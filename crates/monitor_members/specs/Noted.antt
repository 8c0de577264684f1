-- Numbers that are noted at phases of phasers.
use Rattle.std.specs.Prelude.{ℕ, Bool, ◌&&◌, ◌==◌, Option, Some, None, List, [], bytes_eq}
use Rattle.std.specs.Global.{Vec}
use Rattle.std.specs.BTreeSet.{BTreeSet}
use Rattle.std.specs.HashMap.{HashMap, get_by}
use Rattle.std.specs.List.{list_any}
use Rattle.monitor_members.specs.declared.index.PhaserIndex.{PhaserIndex}

-- phase m with number k is one of these pairs
abbrev pub has_pair : List (ℕ × ℕ) → ℕ → ℕ → Bool
has_pair pairs m k = list_any (λ e. m == e.0 && k == e.1) pairs

-- the pairs of a set, or none
abbrev pub pairs_of : Option (BTreeSet (ℕ × ℕ)) → List (ℕ × ℕ)
pairs_of None = []
pairs_of (Some set) = set.keys

-- the pairs of phaser p
abbrev pub pairs_at : {S : Type 0} → HashMap (Vec ℕ) (BTreeSet (ℕ × ℕ)) S → List ℕ → List (ℕ × ℕ)
pairs_at by_phaser p = pairs_of (get_by (λ k. bytes_eq p k.items) by_phaser)

-- number k is noted at phase m of phaser p
abbrev pub is_noted : PhaserIndex → List ℕ → ℕ → ℕ → Bool
is_noted index p m k = has_pair (pairs_at index.by_phaser p) m k

-- the same number at the same phase of the same phaser
abbrev pub is_here : List ℕ → ℕ → ℕ → List ℕ → ℕ → ℕ → Bool
is_here p m k q n j = bytes_eq p q && (m == n && k == j)
