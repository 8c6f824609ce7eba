-- What a candidate costs the greedy search at a position: `Run` the zeros that a nonzero level has coded in front of it, `Cost` the candidate itself.
pub mod Run
pub mod Cost
