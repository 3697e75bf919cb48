use Rattle.std.proofs.Common.{◌≡◌, ◌≤◌, ◌∙◌, sym, ap₂, subst, get_or, []}
use Rattle.mono_exp.specs.declared.number.TheConstants.{FIRST}
use Rattle.mono_exp.proofs.Counting.{count_below}
use Rattle.mono_exp.proofs.Table.{table_counts, count-small, length-monomials_below}
use Rattle.mono_exp.proofs.number.first.Goals as goal

read : (c : goal.After-result-2-1) → get_or (get_or FIRST c.from.result []) c.from-2.result 0 ≡ count_below c.args.n c.args.d
read c = ap₂ (λ n d. get_or (get_or FIRST n []) d 0) c.from.ensures c.from-2.ensures ∙ table_counts c.args.n c.args.d c.requires.variables c.requires.degree

pub returns-clause-count : goal.returns-clause-count
returns-clause-count c = read c ∙ sym (length-monomials_below c.args.n c.args.d)

pub returns-clause-small : goal.returns-clause-small
returns-clause-small c = subst (λ k. k ≤ 1081575) (sym (read c)) (count-small c.args.n c.args.d c.requires.variables c.requires.degree)
