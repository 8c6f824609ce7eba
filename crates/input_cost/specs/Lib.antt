-- What a block's levels cost as they stand: `Input` what is answered and what it means, `Sum` the sum as it is added up.
pub mod Input
pub mod Sum
