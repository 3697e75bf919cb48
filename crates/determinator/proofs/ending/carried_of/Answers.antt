use Rattle.std.proofs.Common.{◌≡◌, subst, ◌∙◌}
use Rattle.std.specs.List.{All}
use Rattle.ring_law.proofs.Exits.{fault_handed_on}
use Rattle.ext_algebra.specs.Algebra.{scalars}
use Rattle.cert_text.specs.declared.report.Phase.TheVariants as phases
use Rattle.move_law.specs.Algebras.{lifted}
use Rattle.move_law.specs.Work.{composing_work}
use Rattle.determinator.specs.Jets.{IsListed}
use Rattle.determinator.proofs.Carrying.{from_chain}
use Rattle.determinator.proofs.Pieces.{high_over, composing_high}
use Rattle.determinator.proofs.SplitLemmas.{standing_of}
use Rattle.determinator.proofs.ending.carried_of.Goals as goal

pub composite-requires-clause-stands : goal.composite-requires-clause-stands
composite-requires-clause-stands c = standing_of c.args.corank c.args.algebra c.args.chain.now c.requires.placed

pub returns-in_err-change-clause-range : goal.returns-in_err-change-clause-range
returns-in_err-change-clause-range c =
    fault_handed_on _ c.from_residual.ensures.1
    (λ high n last o germ moves place. high_over phases.Finish c.args.algebra (composing_work n (scalars c.args.algebra) o moves) (composing_high n (scalars c.args.algebra) o moves (high n last o (lifted c.args.algebra germ) moves place.chain_is)))
    c.in_err-change.ensures.range

pub returns-clause-carried : goal.returns-clause-carried
returns-clause-carried c n last o germ moves place =
    let a = c.args.algebra in
    let jet : c.in_ok-jet.jet ≡ _ = c.in_ok-jet.ensures ∙ c.carried.ensures in
    from_chain n c.args.corank last germ a o moves c.args.chain.now place c.args.names.now c.in_ok-change.change (c.in_ok-change.ensures.change n last o (lifted a germ) moves place.chain_is)
    (subst (All IsListed) c.as_slice.ensures c.see_jets.ensures) c.in_ok-jet.jet jet c.see_terms.ensures c.in_ok-names.names c.in_ok-names.ensures c.order-order.result c.order-order.ensures
