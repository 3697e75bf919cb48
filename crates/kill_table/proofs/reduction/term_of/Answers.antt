use Rattle.kill_table.proofs.reduction.term_of.Goals as goal

pub returns-clause-term : goal.returns-clause-term
returns-clause-term g c = record { elem = c.in_ok-x.ensures.elem; long = c.product.ensures.long; product = c.product.ensures.product; value = c.in_ok-x.ensures.value }
