-- A piece of a trace, part by part.
use Rattle.std.proofs.Common.{◌≡◌, ℕ, ◌<◌, ◌+◌, ◌-◌, List, [], ◌∷◌, ◌++◌, length, take, drop, get_or, sym, ◌∙◌, ap, subst, append-nil, append_assoc, arith}
use Rattle.std.proofs.Math.Seq.{take-add}
use Rattle.std.proofs.lemmas.List.{length-drop, take_all, take_more, take-append-drop}
use Rattle.monitor.specs.Transfers.{Transfer, bytes_written}
use Rattle.monitor.specs.inside.Listening.{Heard, HearsBytes, StopsHearing}
use Rattle.monitor.proofs.Bytes.{hears_more}
use Rattle.monitor.proofs.Logs.{written_more}

-- one more byte, of what it calls for something may be left
one_more : (old now new : Heard) (piece : List ℕ) (i b : ℕ) (log later : List Transfer) (left message : List ℕ) → i < length piece → b ≡ get_or piece i b → HearsBytes old (take i piece) (bytes_written log) now → HearsBytes now (b ∷ []) message new → bytes_written later ++ left ≡ message → HearsBytes old (take (i + 1) piece) (bytes_written (later ++ log) ++ left) new
one_more old now new piece i b log later left message within is heard hears wrote =
    subst (λ bytes. HearsBytes old bytes (bytes_written (later ++ log) ++ left) new) (ap (λ x. take i piece ++ x ∷ []) is ∙ sym (take_more piece i b within))
    (subst (λ output. HearsBytes old (take i piece ++ b ∷ []) output new)
    (ap (λ m. bytes_written log ++ m) (sym wrote) ∙ sym (append_assoc (bytes_written log) (bytes_written later) left) ∙ ap (λ m. m ++ left) (sym (written_more later log)))
    (hears_more old now new (take i piece) (b ∷ []) (bytes_written log) message heard hears))

pub one_more_byte : (old now new : Heard) (piece : List ℕ) (i b : ℕ) (log later : List Transfer) (message : List ℕ) → i < length piece → b ≡ get_or piece i b → HearsBytes old (take i piece) (bytes_written log) now → HearsBytes now (b ∷ []) message new → bytes_written later ≡ message → HearsBytes old (take (i + 1) piece) (bytes_written (later ++ log)) new
one_more_byte old now new piece i b log later message within is heard hears wrote =
    subst (λ output. HearsBytes old (take (i + 1) piece) output new) (append-nil (bytes_written (later ++ log)))
    (one_more old now new piece i b log later [] message within is heard hears (append-nil (bytes_written later) ∙ wrote))

pub stops_in_byte : (old now new : Heard) (piece : List ℕ) (i b : ℕ) (log later : List Transfer) (left message : List ℕ) → i < length piece → b ≡ get_or piece i b → HearsBytes old (take i piece) (bytes_written log) now → HearsBytes now (b ∷ []) message new → bytes_written later ++ left ≡ message → StopsHearing old piece (later ++ log) left
stops_in_byte old now new piece i b log later left message within is heard hears wrote = record {
  front = take (i + 1) piece;
  behind = drop (i + 1) piece;
  piece_is = sym (take-append-drop (i + 1) piece);
  between = new;
  hears = one_more old now new piece i b log later left message within is heard hears wrote;
}

pub stops_before : (old now : Heard) (piece : List ℕ) (i : ℕ) (log : List Transfer) → HearsBytes old (take i piece) (bytes_written log) now → StopsHearing old piece log []
stops_before old now piece i log heard = record {
  front = take i piece;
  behind = drop i piece;
  piece_is = sym (take-append-drop i piece);
  between = now;
  hears = subst (λ output. HearsBytes old (take i piece) output now) (sym (append-nil (bytes_written log))) heard;
}

-- first bytes of the rest that call for nothing
pub quiet_more : (old now new : Heard) (piece : List ℕ) (i count : ℕ) (log : List Transfer) → HearsBytes old (take i piece) (bytes_written log) now → HearsBytes now (take count (take (length piece - i) (drop i piece))) [] new →
    HearsBytes old (take (i + count) piece) (bytes_written log) new
quiet_more old now new piece i count log heard hears =
    let long = length-drop i piece in
    let rest : take (length piece - i) (drop i piece) ≡ drop i piece = take_all (length piece - i) (drop i piece) (omega arith) in
    subst (λ bytes. HearsBytes old bytes (bytes_written log) new) (sym (take-add i count piece))
    (subst (λ output. HearsBytes old (take i piece ++ take count (drop i piece)) output new) (append-nil (bytes_written log))
    (hears_more old now new (take i piece) (take count (drop i piece)) (bytes_written log) [] heard (subst (λ (l : List ℕ). HearsBytes now (take count l) [] new) rest hears)))
