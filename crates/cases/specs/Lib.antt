-- Cases of the checker, of runs, of served turns and of joining, each by computation from the words of a table.
pub mod Checked
pub mod Played
pub mod Served
pub mod Joined
