pub mod LookRuns
