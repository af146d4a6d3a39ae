mod Steps
mod Looks
pub mod Firsts
pub mod Seen
mod QueryLaws
mod RoundSteps
mod Rounds
mod Dropped
mod RoundLaws
mod RoundRoom
mod FlushLaws
mod CompactLaws
mod ReclaimLaws
mod CutLaws
mod Pushless
pub mod AnswerLaws
pub mod SessionLaws
pub mod Told
mod PushCauses
mod Room
mod LineRoom
mod ReadOnly
mod FaultLaws
pub mod Acts
mod FaultRuns
pub mod Counted
mod Places
pub mod OnDisk
pub mod CoreSessions
pub mod StoreSessions
mod LowFiles
mod BrokenPlaces
pub mod FoundBytes
pub mod EndLaws
mod LinePlaces
mod FaultPlaces
pub mod Unsure
pub mod IngestLaws
mod FewerBlocks
mod IngestRounds
mod DrillLaws
pub mod IngestParts
pub mod Following
pub mod ServedPlaces
mod ServedLaws
mod ServedPushes
mod ServedCounts
mod ServedCauses
mod ServedRoom
mod RoundCalls
mod ServedRounds
mod OpenJobs
mod ServedJobs
mod ServedQueries
mod ServedWhole
mod ServedFaults
mod ServedReadOnly
mod ServedDone
