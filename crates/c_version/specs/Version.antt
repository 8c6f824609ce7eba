-- The library's version, as `include/rdoq.h` and `bindings/rust/Cargo.toml` have it. Assumes nothing.
use Rattle.std.specs.Prelude.{ℕ, ◌+◌, ◌*◌}

abbrev pub major : ℕ
major = 0

abbrev pub minor : ℕ
minor = 1

abbrev pub patch : ℕ
patch = 0

-- as one number that grows from version to version: minor and patch stay below 1,000
abbrev pub version_number : ℕ
version_number = 1000000 * major + 1000 * minor + patch
