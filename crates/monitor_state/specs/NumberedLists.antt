-- Lists in the order of numbers, under an older path.
pub use Rattle.monitor_laws.specs.Lawful.{AreAscending}
