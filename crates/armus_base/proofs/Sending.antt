-- What threads share, and what is handed to one: pieces, and a cursor.
use denote.Ref.{NamedLft}
use denote.Param.Send.{IsSend, IsSync, sendable}
use Rattle.std.proofs.Crossing.{crosses}
use Rattle.armus_base.specs.contracts.piece.Piece as pieces
use Rattle.armus_base.specs.contracts.cursor.Cursor as cursors

pub piece_sync : IsSync pieces.the_row
piece_sync = search (sendable, crosses) depth 30

pub cursor_send : (a : NamedLft) → IsSend (cursors.the_row a)
cursor_send a = search (sendable, crosses, piece_sync) depth 30
