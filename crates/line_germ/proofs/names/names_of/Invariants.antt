use Rattle.std.proofs.Common.{◌≡◌, map, take}
use Rattle.line_germ.specs.Names.{name_of}
use Rattle.line_germ.proofs.names.names_of.Given as goal

-- the names so far
abbrev pub invariant-loop-name : goal.invariant-loop-name
invariant-loop-name l = l.all ≡ map name_of (map (λ v. v.items) (take l.name-index l.names))
