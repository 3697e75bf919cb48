use Rattle.std.proofs.Common.{arith}
use Rattle.ring_law.proofs.Exits.{faulted_by}
use Rattle.jet_poly.proofs.Steps.{if_ok}
use Rattle.report_jet.proofs.ReportJets.{algebra_valid}
use Rattle.check_rows.proofs.ReportLemmas.{rows_shape, rows_are, rows_are_high}
use Rattle.check_rows.proofs.report.are_mather_rows.Goals as goal

pub are_rows-requires-clause-ring : goal.are_rows-requires-clause-ring
are_rows-requires-clause-ring c = algebra_valid c.args.c.now.algebra c.requires.well_formed.algebra

pub are_rows-requires-clause-at_most_8_variables : goal.are_rows-requires-clause-at_most_8_variables
are_rows-requires-clause-at_most_8_variables c = let n = c.in-Ok.ensures.n in let a = c.requires.well_formed.corank in let b = c.requires.well_formed.few_names in omega arith

pub are_rows-requires-clause-rows : goal.are_rows-requires-clause-rows
are_rows-requires-clause-rows c = rows_shape c.args.c.now c.in-Ok.g.n c.args.rows.now c.in-Ok.ensures.n c.requires.rows

pub returns-in-Ok-clause-rows : goal.returns-in-Ok-clause-rows
returns-in-Ok-clause-rows c =
    if_ok c.are_rows.result (λ b decides. rows_are c.args.c.now c.in-Ok.g c.in-Ok.ensures.n c.in-Ok.ensures.polynomial c.args.rows.now b c.requires.well_formed c.requires.rows decides) c.are_rows.ensures.rows

pub returns-in-Ok-clause-range : goal.returns-in-Ok-clause-range
returns-in-Ok-clause-range c =
    faulted_by (λ high. rows_are_high c.args.c.now c.in-Ok.g c.in-Ok.ensures.n c.in-Ok.ensures.polynomial c.args.rows.now high) c.are_rows.ensures.range
