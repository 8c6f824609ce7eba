use Rattle.trellis_row.proofs.row.settle.Goals as goal

pub returns : goal.returns
returns c =
    λ g h located G H at X Z none. (
      c.choose.ensures g
          (record { each = located.first_each; first = located.least_first; none = located.zero_first; costs = G })
          at X Z none,
      c.choose-2.ensures h
          (record { each = located.second_each; first = located.least_second; none = located.zero_second; costs = H })
          at X Z none,
    )
