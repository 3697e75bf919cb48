use Rattle.std.proofs.Common.{◌≡◌, length, subst}
use Rattle.std.specs.List.{All}
use Rattle.jet_poly.specs.JetTerms.{IsRising}
use Rattle.determinator.proofs.jet.see_terms.Goals as goal

pub returns : goal.returns
returns g c = record { rising = subst IsRising c.terms.ensures.terms c.terms.ensures.rising; long = subst (All (λ t. length t.0.e ≡ 8)) c.terms.ensures.terms c.see_places.ensures }
