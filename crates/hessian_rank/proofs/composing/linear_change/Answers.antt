use Rattle.hessian_rank.proofs.composing.linear_change.Goals as goal

pub linear-requires-clause-elems : goal.linear-requires-clause-elems
linear-requires-clause-elems g c = c.requires.matrix.elems

pub linear-requires-clause-entries : goal.linear-requires-clause-entries
linear-requires-clause-entries g c = c.requires.matrix.count

pub returns-in-Ok-clause-change : goal.returns-in-Ok-clause-change
returns-in-Ok-clause-change g c = record { change = c.in-Ok.ensures.change; variables = c.in-Ok.ensures.n; order = c.in-Ok.ensures.order; parts = c.in-Ok.ensures.parts }

pub unreachable-requires : goal.unreachable-requires
unreachable-requires g c =
    let m = g.F.Ring.meaning c.args.field.now in
    let kernel = rw c.in-Err-Singular.field-0-is at c.in-Err-Singular.ensures.singular.only in
    kernel.other (c.requires.matrix.regular _ kernel.kernel kernel.place kernel.inside)

pub returns-in-Err-Range-clause-range : goal.returns-in-Err-Range-clause-range
returns-in-Err-Range-clause-range g c = record { only = rw c.in-Err-Range.field-0-is at c.in-Err-Range.ensures.range.only }
