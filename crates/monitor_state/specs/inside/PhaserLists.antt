-- The memberships of one task or wildcard.
use Rattle.std.specs.Prelude.{◌≡◌, ℕ, Bool, false, not, ◌+◌, if◌then◌else◌, List, [], ◌∷◌, map, filter, bytes_eq}
use Rattle.std.specs.List.{list_any}
use Rattle.monitor_members.specs.Noted.{is_here}

-- the membership is of phaser p
abbrev pub is_of_phaser : List ℕ → List ℕ × ℕ → Bool
is_of_phaser p m = bytes_eq p m.0

-- no two are of the same phaser
abbrev pub HasNoPhaserTwice : List (List ℕ × ℕ) → Type 0
HasNoPhaserTwice [] = Unit {0}
HasNoPhaserTwice (m ∷ ms) = (list_any (is_of_phaser m.0) ms ≡ false) × HasNoPhaserTwice ms

-- the phase on p is one more
abbrev pub risen_on : List ℕ → List (List ℕ × ℕ) → List (List ℕ × ℕ)
risen_on p ms = map (λ m. if bytes_eq p m.0 then (m.0, m.1 + 1) else m) ms

-- none of p
abbrev pub without_phaser : List ℕ → List (List ℕ × ℕ) → List (List ℕ × ℕ)
without_phaser p ms = filter (λ m. not (bytes_eq p m.0)) ms

-- number k at the phase of one of these
abbrev pub are_here : List (List ℕ × ℕ) → ℕ → List ℕ → ℕ → ℕ → Bool
are_here ms k q n j = list_any (λ m. is_here m.0 m.1 k q n j) ms
