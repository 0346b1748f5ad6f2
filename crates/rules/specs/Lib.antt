-- The definitions that a reader must believe: a file a chapter of the rules paper, in its order. "The paper" in the comments
-- is the rules paper; a quotation is the sentence that the definition stands for. Eight are no chapters of it: Moves states one
-- sentence of it; Scheduling is request U4, and Input speaks of its program beside the run program; by Order, Buffered, Scratch and
-- Switches claims of requests U9, U3, U5 and U7 are stated; Encoding writes a table, and Alike says which tables no call can tell
-- apart.
pub mod Choice
pub mod Below
pub mod Answers
pub mod Table
pub mod WellFormed
pub mod Evaluation
pub mod Judgement
pub mod Acceptance
pub mod Process
pub mod Arrivals
pub mod Collective
pub mod Start
pub mod Step
pub mod Moves
pub mod Run
pub mod Scheduling
pub mod Order
pub mod Input
pub mod Buffered
pub mod Scratch
pub mod Switches
pub mod Encoding
pub mod Alike
pub mod Cases
