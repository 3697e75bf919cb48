use Rattle.std.proofs.Common.{◌∙◌, sym, map}
use Rattle.lin_row.specs.Lines.{entry}
use Rattle.lin_row.proofs.SystemLaws
use Rattle.lin_row.proofs.laws.answers_exclude.Goals as goal

pub returns : goal.returns
returns g c r valid rows target values xs solved excluded =
    let m = g.R.Ring.meaning r in
    let laws = (g.met.R.Ring.laws r valid).numbers in
    laws.nontrivial (sym excluded.target ∙ sym (solved.sum (entry m values)) ∙ SystemLaws.combination-vanish m laws.ring (map m.value xs) rows (entry m values) excluded.rows)
