-- What a report says of logs, journals and shards.
pub use Rattle.run_log.specs.Runs.{journals_in, occupancies_in, occupancy_in, replies_in}
