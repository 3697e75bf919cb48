use Rattle.std.proofs.Common.{◌≡◌, ◌-◌, ◌++◌, [], map, ap, ◌∙◌, arith}
use Rattle.mono_exp.specs.Exponents.{exponents, monomials_of}
use Rattle.mono_exp.proofs.ListLemmas.{map-none}
use Rattle.mono_exp.proofs.enumeration.list.Goals as goal

pub returns-clause-list : goal.returns-clause-list
returns-clause-list c =
    let all : c.args.n - 0 ≡ c.args.n = omega arith in
    c.in_ok-append.ensures.list
    ∙ ap (λ z. map (λ a. exponents c.args.n a.e) z ++ map (λ m. [] ++ m) (monomials_of (c.args.n - 0) c.args.degree)) c.new-all.ensures.items
    ∙ map-none (monomials_of (c.args.n - 0) c.args.degree) ∙ ap (λ k. monomials_of k c.args.degree) all
