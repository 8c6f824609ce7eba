-- What the searches share once their checks have passed: `Book` what they answer, `Checked` what they go by, `Start` what follows the window.
pub mod Book
pub mod Checked
pub mod Start
