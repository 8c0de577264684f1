-- What is true of each pool.
use Rattle.std.specs.Prelude.{◌≡◌, ◌<◌}
use Rattle.atomic_table.specs.Seated.{TableId}
use Rattle.slot_pool.specs.declared.setting.PoolSetting.{PoolSetting}
use Rattle.slot_pool.specs.calls.PoolValues.{PoolValue}

-- what a contract sees of a pool
abbrev pub pool_of : TableId → PoolSetting → PoolValue
pool_of table setting = record { table = table; tasks = setting.tasks; workers = setting.workers }

-- a pool has what its table was told, some task and some worker, and a word and a slot for each task
pub record IsPool (table : TableId) (key setting : PoolSetting) : Type 0 where
  pub told : key ≡ setting
  pub words : table.words ≡ setting.tasks
  pub slots : table.slots ≡ setting.tasks
  pub some_task : 0 < setting.tasks
  pub some_worker : 0 < setting.workers
