-- Laws of joining, and the theorems of Joins; PairLaws and WordLaws are for the code.
pub mod LinkLaws
pub mod RenameLaws
pub mod EmbedLaws
pub mod EmbedJudged
pub mod LinkEmbeds
pub mod LinkCounts
pub mod LinkFormed
pub mod JoinLaws
pub mod PairLaws
pub mod WordLaws
pub mod OutcomeLaws
