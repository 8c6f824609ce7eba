-- How tokens are coded: the number of clusters, the cluster of each context, and each cluster's configuration. A price book without its prices.
use Rattle.std.specs.Prelude.{ℕ, ◌*◌, ◌≤◌, ◌<◌, ◌≡◌, Bool, true, ◌&&◌, List, [], ◌∷◌, eqb, leb, length, get_or}
use Rattle.prices.specs.Book.{cluster_valid}
use Rattle.prices.specs.Checks.{each, map_below}

-- Any part may be anything.
pub record Coding : Type 0 where
  pub clusters : ℕ
  pub map : List ℕ
  pub configs : List ℕ

abbrev pub coding_of : ℕ → List ℕ → List ℕ → Coding
coding_of clusters map configs = record { clusters = clusters; map = map; configs = configs }

-- Checks 1 to 4, of what is lent here. `others`: whether the other lists that a call is lent for each cluster have their lengths too.
unfoldable pub coding_checks : Coding → Bool → List (Bool × ℕ)
coding_checks k others =
    (eqb (length k.map) 14850 && leb 1 k.clusters && leb k.clusters 256, 1)
    ∷ (eqb (length k.configs) (3 * k.clusters) && others, 2)
    ∷ (map_below k.clusters k.map, 3)
    ∷ (each k.clusters (cluster_valid k.configs), 4)
    ∷ []

-- what a call goes by once they have passed
pub record Codes (k : Coding) : Type 0 where
  pub few : k.clusters ≤ 256
  pub contexts : length k.map ≡ 14850
  pub configured : length k.configs ≡ 3 * k.clusters
  pub cluster : (context : ℕ) → context < 14850 → get_or k.map context 0 < k.clusters
  pub valid : (cluster : ℕ) → cluster < k.clusters → cluster_valid k.configs cluster ≡ true

-- a map and configurations for some number of clusters
pub record Coded (map configs : List ℕ) : Type 0 where
  pub clusters : ℕ
  pub codes : Codes (coding_of clusters map configs)
