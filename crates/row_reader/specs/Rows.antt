-- What a line with a part of a change holds, without the newline at its end.
use Rattle.std.specs.Prelude.{ℕ, IsTrue}
use Rattle.ring_law.specs.declared.fraction.Frac.{Frac}
use Rattle.ext_algebra.specs.declared.algebra.Algebra.{Algebra}
use Rattle.ext_algebra.specs.declared.algebra.Ext.{Ext}
use Rattle.jet_poly.specs.JetTerms.{JetTerms}
use Rattle.poly_text.specs.declared.name.Name.{Name}
use Rattle.cert_text.specs.WellFormed.{is_valid_name, IsPartOf}

-- a name of the grammar, and a part of a change of this order in n variables
pub record IsNamedPart (a : Algebra) (n order : ℕ) (named : Name × JetTerms (Ext Frac)) : Type 0 where
  pub name : IsTrue (is_valid_name named.0)
  pub part : IsPartOf n order a named.1
