pub mod KeyedMap
pub mod OrderedSteps
pub mod Running
pub mod SameReplies
pub mod Step
