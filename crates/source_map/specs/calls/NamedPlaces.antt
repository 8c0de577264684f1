-- The place of another program that a line names in its comment: //@ Averaging.java:9
use Rattle.std.specs.Prelude.{◌≡◌, ℕ, ◌+◌, ◌≤◌, true, List, [], ◌++◌, length, codes}
use Rattle.std.specs.List.{list_all}
use Rattle.source_map.specs.NamedPlaces.{is_gap, is_place_byte, is_trailing, max_place_bytes}

-- The line names a place: its comment, which begins with the first `//` in it, is `//@`, a gap, the name, and then nothing. The name is what stands from
-- byte `from` of the line up to byte `to`.
pub record NamesPlace (line : List ℕ) (from to : ℕ) : Type 0 where
  pub before : List ℕ
  pub gap : List ℕ
  pub name : List ℕ
  pub behind : List ℕ
  pub splits : line ≡ before ++ codes "//@" ++ gap ++ name ++ behind
  pub first : (ahead rest : List ℕ) → line ≡ ahead ++ codes "//" ++ rest → length before ≤ length ahead
  pub gapped : (1 ≤ length gap) × (list_all is_gap gap ≡ true)
  pub named : (1 ≤ length name) × (length name ≤ max_place_bytes) × (list_all is_place_byte name ≡ true)
  pub trails : list_all is_trailing behind ≡ true
  pub from_is : from ≡ length before + 3 + length gap
  pub to_is : to ≡ from + length name
