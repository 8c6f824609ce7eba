-- A group's list is flat: 8 words and 7 floats a block. Any word and any float may be anything.
use Rattle.std.specs.Prelude.{ℕ, zero, suc, ◌+◌, ◌*◌, ◌/◌, ◌≤◌, Bool, false, ◌&&◌, ◌||◌, List, [], ◌∷◌, eqb, leb, ltb, length, get_or, Float}
use Rattle.std.specs.Float.{nan}

-- What the list says of a block: its top left cell, sides (cx to the right, cy down), strategy, channel, quant class (nonzero is high) and half-width; then its settings, bias and scale.
pub record Head : Type 0 where
  pub x : ℕ
  pub y : ℕ
  pub cx : ℕ
  pub cy : ℕ
  pub strategy : ℕ
  pub channel : ℕ
  pub quant : ℕ
  pub half_width : ℕ
  pub weight : Float
  pub lambda : Float
  pub penalty : Float
  pub distance : Float
  pub one : Float
  pub numerator : Float
  pub scale : Float

-- block i of a list
unfoldable pub head_at : List ℕ → List Float → ℕ → Head
head_at words reals i =
    record {
      x = get_or words (8 * i) 0;
      y = get_or words (8 * i + 1) 0;
      cx = get_or words (8 * i + 2) 0;
      cy = get_or words (8 * i + 3) 0;
      strategy = get_or words (8 * i + 4) 0;
      channel = get_or words (8 * i + 5) 0;
      quant = get_or words (8 * i + 6) 0;
      half_width = get_or words (8 * i + 7) 0;
      weight = get_or reals (7 * i) nan;
      lambda = get_or reals (7 * i + 1) nan;
      penalty = get_or reals (7 * i + 2) nan;
      distance = get_or reals (7 * i + 3) nan;
      one = get_or reals (7 * i + 4) nan;
      numerator = get_or reals (7 * i + 5) nan;
      scale = get_or reals (7 * i + 6) nan;
    }

-- n blocks from block i on
unfoldable pub heads_from : List ℕ → List Float → ℕ → ℕ → List Head
heads_from words reals i zero = []
heads_from words reals i (suc n) = head_at words reals i ∷ heads_from words reals (suc i) n

-- the blocks before block i, the last of them first
unfoldable pub heads_before : List ℕ → List Float → ℕ → List Head
heads_before words reals zero = []
heads_before words reals (suc i) = head_at words reals i ∷ heads_before words reals i

-- how many blocks the words describe
abbrev pub blocks_in : List ℕ → ℕ
blocks_in words = length words / 8

abbrev pub heads_of : List ℕ → List Float → List Head
heads_of words reals = heads_from words reals 0 (blocks_in words)

-- c: the covered blocks
unfoldable pub covered : Head → ℕ
covered h = h.cx * h.cy

-- a block that lies within the group, of a channel that there is
pub record Placed (channel x y cx cy : ℕ) : Type 0 where
  pub known : channel ≤ 2
  pub wide : 1 ≤ cx
  pub tall : 1 ≤ cy
  pub across : x + cx ≤ 32
  pub down : y + cy ≤ 32

-- block i of some words
abbrev pub PlacedAt : List ℕ → ℕ → Type 0
PlacedAt words i = Placed (get_or words (8 * i + 5) 0) (get_or words (8 * i) 0) (get_or words (8 * i + 1) 0) (get_or words (8 * i + 2) 0) (get_or words (8 * i + 3) 0)

-- whether a cell lies in the rectangle of cx by cy cells from (left, top) on
unfoldable pub in_rectangle : ℕ → ℕ → ℕ → ℕ → ℕ → ℕ → Bool
in_rectangle left top cx cy x y = leb left x && ltb x (left + cx) && (leb top y && ltb y (top + cy))

-- whether a block covers a cell of a channel
unfoldable pub covers : Head → ℕ → ℕ → ℕ → Bool
covers h channel x y = eqb channel h.channel && in_rectangle h.x h.y h.cx h.cy x y

-- whether one of some blocks does
unfoldable pub covering : List Head → ℕ → ℕ → ℕ → Bool
covering [] channel x y = false
covering (h ∷ hs) channel x y = covers h channel x y || covering hs channel x y
