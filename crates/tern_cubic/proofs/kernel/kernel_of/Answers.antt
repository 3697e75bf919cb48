use Rattle.std.proofs.Common.{◌≡◌, vec_len, arith}
use Rattle.lin_row.specs.Rows.{rows_of}
use Rattle.tern_cubic.proofs.KernelLemmas.{none_left, more_left, one_left, one_of}
use Rattle.tern_cubic.proofs.kernel.kernel_of.Goals as goal

pub returns-then-len-eq0-clause-kernel : goal.returns-then-len-eq0-clause-kernel
returns-then-len-eq0-clause-kernel c =
    let size = c.in_ok-vectors.vectors.ok.0 in
    let count = c.len.ensures in
    let none = c.if-len-eq0.true in
    none_left c.args.columns (rows_of c.args.rows.now) c.requires.columns c.in_ok-vectors.vectors.items (omega arith) c.in_ok-vectors.ensures.basis

pub returns-then-len-gt1-clause-kernel : goal.returns-then-len-gt1-clause-kernel
returns-then-len-gt1-clause-kernel c =
    let size = c.in_ok-vectors.vectors.ok.0 in
    let count = c.len-2.ensures in
    let more = c.if-len-gt1.true in
    more_left c.args.columns (rows_of c.args.rows.now) c.requires.columns c.in_ok-vectors.vectors.items (omega arith) c.in_ok-vectors.ensures.basis

pub returns-clause-kernel : goal.returns-clause-kernel
returns-clause-kernel c =
    let size = c.in_ok-vectors.vectors.ok.0 in
    let few = c.if-len-gt1.false in
    let one : vec_len c.in_ok-vectors.vectors ≡ 1 = one_of c.len.result c.len-2.result (vec_len c.in_ok-vectors.vectors) c.len.ensures c.len-2.ensures c.if-len-eq0.false (omega arith) in
    one_left c.args.columns (rows_of c.args.rows.now) c.requires.columns c.in_ok-vectors.vectors.items c.remove-vector.result (omega arith) c.remove-vector.ensures.value c.in_ok-vectors.ensures.basis
