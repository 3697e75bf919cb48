use Rattle.std.proofs.Common.{◌+◌, ◌++◌, length, map, ap₂, ◌∙◌}
use Rattle.std.specs.List.{zip}
use Rattle.normal_forms.specs.Monomials.{numbers_below, square_of}
use Rattle.normal_forms.proofs.assembly.terms_of.Goals as goal

pub returns-clause-terms : goal.returns-clause-terms
returns-clause-terms g c =
    c.in_ok-push_square_terms.ensures.terms
    ∙ ap₂ (λ ts k. ts ++ zip (map (λ i. square_of (k + i)) (numbers_below (length c.args.squares.now))) c.args.squares.now) c.in_ok-terms.ensures.terms c.corank.ensures
