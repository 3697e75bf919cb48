use Rattle.std.proofs.Common.{◌≡◌, map, take}
use Rattle.poly_text.specs.Numbers.{without_zeros}
use Rattle.poly_text.proofs.OnlyOne.{piece_of, found_pieces}
use Rattle.poly_text.proofs.number.only_component.Given as goal

abbrev pub invariant-loop-q : goal.invariant-loop-q
invariant-loop-q l = without_zeros (map piece_of (take l.q-index l.q-items)) ≡ found_pieces l.only
