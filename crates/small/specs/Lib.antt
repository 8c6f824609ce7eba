-- What the small product answers and leaves, and what that means.
pub mod Small
