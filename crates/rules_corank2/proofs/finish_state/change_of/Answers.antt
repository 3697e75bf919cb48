use Rattle.rules_corank2.proofs.finish_state.change_of.Goals as goal

pub unreachable-requires : goal.unreachable-requires
unreachable-requires g c =
    let kernel = rw c.in-Err-Singular.field-0-is at c.in-Err-Singular.ensures.singular.only in
    kernel.other (c.requires.regular _ kernel.kernel kernel.place kernel.inside)
