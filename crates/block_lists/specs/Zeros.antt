-- The arrays before anything was copied to them.
use Rattle.std.specs.Prelude.{pos, replicate, Float}
use Rattle.std.specs.Float.{float_zero}
use Rattle.block_lists.specs.declared.Lists.{Lists}

-- each whole number 0, each float x
abbrev pub zeros_and : Float → Lists
zeros_and x =
    record {
      map = replicate 14912 0;
      configs = replicate 774 0;
      symbols = replicate 33024 x;
      ready = replicate 66048 x;
      levels = replicate 65600 (pos 0);
      scan = replicate 65600 0;
      source = replicate 65600 x;
      inv_qm = replicate 65600 x;
      work = replicate 65600 (pos 0);
      choices = replicate 26688 0;
      row_a = replicate 64 x;
      row_b = replicate 64 x;
    }

-- each entry 0
abbrev pub zeros : Lists
zeros = zeros_and float_zero
