-- A block as it is lent: its data, and its levels.
use Rattle.std.specs.Prelude.{List, ℤ}
use Rattle.block.specs.Block.{Block, block_of}
use Rattle.block.specs.declared.BlockData.{BlockData}

abbrev pub block_with : BlockData → List ℤ → Block
block_with block levels = block_of block.shape block.settings block.bias block.scale block.scan.now block.source.now block.inv_qm.now levels
