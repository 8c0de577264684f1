-- What the workers of a pool share.
use mir.Syntax.{Sym}
use denote.RattleType.{RattleType}
use denote.Ref.{NamedLft}
use denote.Struct.Field.{shr_ref_field}
use denote.Struct.Tuple.{TupleAt}
use denote.Param.Send.{IsSend, IsSync, sendable}
use Rattle.std.proofs.Common.{[], ◌∷◌}
use Rattle.board_runs.proofs.Crossing.{setting_sync}
use Rattle.board_runs.specs.contracts.rounds.TurnSetting as settings
use Rattle.slot_pool.specs.declared.named.Named.{Ghosts}
use Rattle.slot_pool.specs.contracts.pool.Pool as pools
use Rattle.slot_pool.proofs.Sending.{pool_sync}

pub work_sync :
    (ν : Sym) (a b c : NamedLft) (X Q Y : RattleType) (named : Ghosts Q.Denot) → IsSync X → IsSend Q → IsSync Y →
    IsSync (TupleAt ν ((shr_ref_field a (settings.the_row b X Y) tt).row ∷ (shr_ref_field c (pools.the_row Q named) tt).row ∷ []))
work_sync ν a b c X Q Y named x q y =
    let setting : IsSync (settings.the_row b X Y) = setting_sync b X Y x y in
    let shared : IsSync (pools.the_row Q named) = pool_sync Q named q in
    search (sendable) depth 30
