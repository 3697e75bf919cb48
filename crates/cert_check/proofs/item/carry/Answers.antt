-- The germ of the line is that of the one line that the bytes spell.
use Rattle.std.proofs.Common.{sym, ◌∙◌}
use Rattle.jet_poly.proofs.Steps.{if_ok}
use Rattle.cert_check.proofs.GermCarry.{same_count, carried_test}
use Rattle.cert_check.proofs.item.carry.Goals as goal

pub is_carried-requires : goal.is_carried-requires
is_carried-requires c =
    let germ = c.requires.germ in
    record {
      well_formed = c.requires.well_formed;
      germ = germ.germ.is_jet.is_jet;
      same_variables = germ.germ.is_jet.n_is ∙ sym (same_count germ.line c.args.c.now (c.requires.shape germ.line germ.critical));
    }

pub returns : goal.returns
returns c =
    if_ok c.tested.result
    (carried_test c.args.line.now c.args.c.now c.args.germ.now c.is_carried.result c.requires.germ c.requires.shape c.is_carried.ensures.carried c.is_carried.ensures.range)
    c.tested.ensures
