-- A floor's numbers as a caller lends them.
use Rattle.floor.specs.Numbers.{FloorNumbers, numbers}
use Rattle.floor.specs.declared.writing.Numbers.{Numbers}

-- the numbers in the five slices
abbrev pub lent : Numbers → FloorNumbers
lent n = numbers n.places.now n.lanes.now n.carts.now n.narrow.now n.groups.now
