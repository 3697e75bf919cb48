-- The elements that rational numbers stand for.
use Rattle.ring_law.specs.declared.fraction.Frac.{Frac}
use Rattle.ext_algebra.specs.declared.algebra.Ext.{Ext}
use Rattle.cert_law.specs.Fields.{zero_fraction}

-- q in any algebra
abbrev pub rational_element : Frac → Ext Frac
rational_element q = record { c0 = q; c1 = zero_fraction; c2 = zero_fraction; c3 = zero_fraction; c4 = zero_fraction; c5 = zero_fraction }
